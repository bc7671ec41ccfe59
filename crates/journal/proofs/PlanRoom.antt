-- Room before the first commit and between commits: a format gives it, obsolete marks keep it, cut or not. Assumes nothing.
use mathlib.Core.Path.{◌≡◌, refl, sym, ap, ◌∙◌}
use mathlib.Core.Bool.{true, false}
use mathlib.Core.List.{List, [], ◌∷◌, ◌++◌, append_assoc, map}
use Prim.Native.Nat.{ℕ, zero, suc, ◌+◌, ◌≤◌, ◌<◌}
use native.Mathlib.Omega.{arith}
use lib.ListN.{get_or, length, length-append}
use Rattle.lists.specs.Lists.{All, At, modify, more, none, tab}
use Rattle.lists.proofs.Alls.{All-head, All-map, All-tail, All-zip}
use Rattle.lists.proofs.Flats.{length_tab}
use Rattle.lists.proofs.Places.{At-other, at_seam}
use Rattle.lists.proofs.Sets.{mem_at, tab_diff, tab_range}
use Rattle.lists.proofs.Sorts.{sort_All}
use Rattle.lists.proofs.Tests.{cases}
use Rattle.chip.specs.declared.page.Mark.TheVariants.{Obsolete}
use Rattle.chip.specs.Geometry.{Geometry}
use Rattle.chip.specs.Page.{Page, is_live, marked}
use Rattle.chip.specs.Chip.{Op, in_block, mark, run}
use Rattle.chip.proofs.Marks.{marked_data}
use Rattle.chip.proofs.Runs.{after, run_parts, with_power}
use Rattle.pages.specs.Steps.{Live, before, commit, live, live_from}
use Rattle.views.specs.Table.{Node, fresh, node_of}
use Rattle.views.proofs.Meanings.{Kept, in_order, node_in, opened}
use Rattle.views.proofs.Rooms.{still_unlisted}
use Rattle.views.proofs.ViewLaws.{Apart}
use Rattle.journal.proofs.PlanBlocks.{Room, room_moved, is_unused}
use Rattle.journal.proofs.PlanLive.{live_mem, live_modify}
use Rattle.journal.proofs.PlanPlaces.{out_block}

-- ---- mount: obsolete marks on live pages, cut anywhere; no page becomes live
-- a live page stands at the place of x
pub record LiveAt (g : Geometry) (ps : List Page) (x : Live) : Type 0 where
  pub page : Page
  pub stands : At x.place page ps
  pub lives : is_live g page ≡ true

-- every live page is such a one
pub live_from_lem : (g : Geometry) (pre ps : List Page) (i : ℕ) → i ≡ length pre → All (LiveAt g (pre ++ ps)) (live_from g i ps)
live_from_lem g pre [] i e = none
live_from_lem g pre (x ∷ xs) i e =
    let a : At i x (pre ++ x ∷ xs) = rw e (at_seam pre x xs) in
    let r : All (LiveAt g ((pre ++ (x ∷ [])) ++ xs)) (live_from g (suc i) xs)
    = live_from_lem g (pre ++ (x ∷ [])) xs (suc i) (ap suc e ∙ sym (length-append pre (x ∷ []) ∙ omega arith)) in
    let q : All (LiveAt g (pre ++ x ∷ xs)) (live_from g (suc i) xs) = (rw (append_assoc pre (x ∷ []) xs) at r) in
    cases (is_live g x) (λ t. rw t (more {x = live g i x} (record { page = x; stands = a; lives = t }) q)) (λ t. rw t q)

abbrev pub obsoletes : List Live → List Op
obsoletes w = map (λ (x : Live). mark x.place Obsolete) w

-- the mark of another page leaves it so
pub still_live : (g : Geometry) (x : Live) {w : List Live} (ps : List Page) → All (λ (y : Live). y.place ≡ x.place → ⊥) w → All (LiveAt g ps) w
    → All (LiveAt g (modify x.place (marked g Obsolete 0) ps)) w
still_live g x ps a m =
    All-zip {R = LiveAt g (modify x.place (marked g Obsolete 0) ps)}
    (λ y d k.
    record {
      page = k.page;
      stands = At-other (marked g Obsolete 0) x.place y.place k.page ps (λ e. d (sym e)) k.stands;
      lives = k.lives;
    }) a m

module _ (g : Geometry) (P : Live → Type 0) where
  mark_lives : (v p : ℕ) (x : Page) (ps : List Page) → At p x ps → is_live g x ≡ true → All P (live_from g 0 ps)
      → All P (live_from g 0 (modify p (marked g Obsolete v) ps))
  mark_lives v p x ps a l h =
      let same : live g p (marked g Obsolete v x) ≡ live g p x = ap (λ (b : List ℕ). record { place = p; bytes = b }) (marked_data g Obsolete v x) in
      live_modify g P (marked g Obsolete v) p 0 p x ps (omega arith) a (λ t. rw same (mem_at (live_mem g 0 p p x ps (omega arith) a l) h)) h

  pub marks_lives : (torn : List ℕ) (w : List Live) (n : ℕ) (ps : List Page) → All (LiveAt g ps) w → Apart w → All P (live_from g 0 ps)
      → All P (live_from g 0 (after g torn n ps (obsoletes w)))
  marks_lives torn [] n ps m a h = h
  marks_lives torn (x ∷ w) zero ps m a h = let k = All-head m in mark_lives (get_or torn 0 0) x.place k.page ps k.stands k.lives h
  marks_lives torn (x ∷ w) (suc n) ps m a h =
      let k = All-head m in
      marks_lives torn w n (modify x.place (marked g Obsolete 0) ps) (still_live g x ps a.0 (All-tail m)) a.1
      (mark_lives 0 x.place k.page ps k.stands k.lives h)

-- so room stays, for any allowance and torn bytes
pub room_marks : (g : Geometry) (B h : ℕ) (torn : List ℕ) (ps : List Page) (tb : List Node) (G : ℕ) (w : List Live) → All (LiveAt g ps) w → Apart w → (n : ℕ)
    → Room g B h tb G (live_from g 0 ps) → Room g B h tb G (live_from g 0 (run g torn (with_power n ps) (obsoletes w)).pages)
room_marks g B h torn ps tb G w m a n r =
    rw (run_parts g torn n ps (obsoletes w))
    (room_moved g B h tb G (live_from g 0 ps) (live_from g 0 (after g torn n ps (obsoletes w)))
    (λ b o. marks_lives g (λ x. commit x ≡ G → in_block g b x.place ≡ false) torn w n ps m a o) r)

-- ---- format: the one page of an image is the first of its chip, so every other block is unused
pub room_first : (g : Geometry) (limit b h : ℕ) (ps : List Page) (tb : List Node) (G : ℕ) (x : Live) → 0 < g.pages → h ≤ b
    → Kept g limit ps tb G → in_order g ps ≡ x ∷ [] → x.place ≡ 0 → Room g (suc b) h tb G (live_from g 0 ps)
unfolding node_in node_of
room_first g limit b h ps tb G x pos k kept o p =
    let out : (d : ℕ) → 0 < d → in_block g d x.place ≡ false =
    λ d l. out_block g 0 d x.place (omega arith, omega arith) (λ z. omega arith) in
    let t : tb ≡ tab 0 limit (node_in g limit ps) = (opened g limit ps tb G kept).tables in
    record {
      blocks = tab 1 b (λ (i : ℕ). i);
      diff = tab_diff 1 b;
      many = omega (arith, length_tab (λ (i : ℕ). i) 1 b);
      are = All-map {P = λ (i : ℕ). (1 ≤ i) × (i < 1 + b)} (λ d r. (
        omega (arith, r.1),
        rw t (is_unused g limit (node_in g limit ps) G (live_from g 0 ps) d
            (λ j q. rw o (still_unlisted (in_block g d) limit j fresh (x ∷ []) (more (out d r.0) none) refl))
            (sort_All before (live_from g 0 ps) (rw o (more (λ z. out d r.0) none)))),
      )) (tab_range 1 b);
    }
