-- A finished commit leaves a page free, and what it erased is then used or wholly free. Assumes nothing.
use mathlib.Core.Path.{◌≡◌, refl, sym, ap, ◌∙◌}
use mathlib.Core.Logic.{◌⊎◌, inl, inr}
use mathlib.Core.Bool.{true, false, ◌&&◌}
use mathlib.Core.List.{List, [], ◌∷◌}
use Prim.Native.Nat.{ℕ, zero, suc, ◌+◌, ◌*◌, ◌≤◌, ◌<◌}
use native.Mathlib.Omega.{arith}
use lib.Dec.{eqb}
use lib.ListN.{length, replicate, replicate-append-replicate}
use lib.Seq.{length-take-le}
use borrow.Author.Tests.{eq-eqb}
use Rattle.lists.specs.Lists.{All, At, all, any, count, flat, none, Diff, more}
use Rattle.lists.proofs.Alls.{All-all, All-filter, All-map, any_false, All-head, All-tail, All-zip}
use Rattle.lists.proofs.Filters.{count_some}
use Rattle.lists.proofs.Sets.{Mem, any_mem, any_witness, mem_all, mem_at, tab_range, here, there}
use Rattle.lists.proofs.Tests.{and_intro, cases, clash}
use Rattle.lists.proofs.Places.{At-same}
use Rattle.chip.specs.Geometry.{Geometry}
use Rattle.chip.specs.Page.{Page, blank, is_free, marked, programmed}
use Rattle.chip.specs.Chip.{in_block, run, erase, whole}
use Rattle.chip.proofs.Marks.{third_data, third_live, first, second}
use Rattle.chip.proofs.Runs.{after, with_power, run_parts}
use Rattle.chip.specs.declared.page.Mark.TheVariants.{Used, Valid}
use Rattle.pages.specs.declared.unit.Unit as U
use Rattle.pages.specs.Steps.{Live, commit, live, live_from}
use Rattle.pages.proofs.Settle.{run_same}
use Rattle.views.specs.Table.{Node}
use Rattle.views.proofs.ViewLaws.{Apart}
use Rattle.journal.specs.Commit.{cleared, commit_ops, Pack, pages_from, writes_of}
use Rattle.journal.specs.Plan.{free_at, is_used, places, sheets, is_reclaimed, wholly_free}
use Rattle.journal.proofs.CommitCut.{used, put, wrote}
use Rattle.journal.proofs.AssignedChoice.{Chip, Choice, Committable, apart, es, free, in_image, news, plan, ts, ws, ws_diff}
use Rattle.journal.proofs.PlanPlaces.{cleared_makes, in_block_lem, places_blank}
use Rattle.journal.proofs.PlanLive.{live_mem, wrote_other}
use Rattle.journal.proofs.PlanBlocks.{is_used_lem}

-- ---- a commit with power enough
abbrev wrote_all : Geometry → List Live → List Page → List Page
wrote_all g [] ps = ps
wrote_all g (x ∷ w) ps = wrote_all g w (wrote g x 0 ps)

abbrev landed : Geometry → Live → Page
landed g x = marked g Valid 0 (second g 0 x.bytes)

writes_done : (g : Geometry) (torn : List ℕ) (w : List Live) (n : ℕ) (ps : List Page) → length (flat writes_of w) ≤ n
    → after g torn n ps (flat writes_of w) ≡ wrote_all g w ps
writes_done g torn [] n ps l = refl
writes_done g torn (x ∷ w) zero ps l = absurd (omega arith)
writes_done g torn (x ∷ w) (suc zero) ps l = absurd (omega arith)
writes_done g torn (x ∷ w) (suc (suc zero)) ps l = absurd (omega arith)
writes_done g torn (x ∷ w) (suc (suc (suc n))) ps l = writes_done g torn w n (wrote g x 0 ps) (omega arith)

after_done : (g : Geometry) (torn : List ℕ) (bs : List ℕ) (w : List Live) (n : ℕ) (ps : List Page) → length (commit_ops bs w) ≤ n
    → after g torn n ps (commit_ops bs w) ≡ wrote_all g w (cleared g bs ps)
after_done g torn [] w n ps l = writes_done g torn w n ps l
after_done g torn (b ∷ bs) w zero ps l = absurd (omega arith)
after_done g torn (b ∷ bs) w (suc n) ps l = after_done g torn bs w n (whole g (erase b) ps) (omega arith)

run_done_is : (g : Geometry) (torn : List ℕ) (bs : List ℕ) (w : List Live) (n : ℕ) (ps : List Page) → length (commit_ops bs w) ≤ n
    → (run g torn (with_power n ps) (commit_ops bs w)).pages ≡ wrote_all g w (cleared g bs ps)
run_done_is g torn bs w n ps l = rw (run_parts g torn n ps (commit_ops bs w)) (after_done g torn bs w n ps l)

module _ (g : Geometry) where
  wrote_same : (x : Live) (ps : List Page) → At x.place (blank g) ps → At x.place (landed g x) (wrote g x 0 ps)
  wrote_same x ps a =
      At-same (marked g Valid 0) x.place (second g 0 x.bytes) (put g x ps)
      (At-same (programmed g x.bytes) x.place (first g 0) (used g x ps) (At-same (marked g Used 0) x.place (blank g) ps a))

  others_stay : (w : List Live) (p : ℕ) (y : Page) (ps : List Page) → All (λ (x : Live). x.place ≡ p → ⊥) w → At p y ps → At p y (wrote_all g w ps)
  others_stay [] p y ps d a = a
  others_stay (x ∷ w) p y ps d a = others_stay w p y (wrote g x 0 ps) (All-tail d) (wrote_other g x p y ps (All-head d) a)

  all_land : (w : List Live) (ps : List Page) → All (λ x. At x.place (blank g) ps) w → Apart w → All (λ x. At x.place (landed g x) (wrote_all g w ps)) w
  all_land [] ps f a = none
  all_land (x ∷ w) ps f a =
      more (others_stay w x.place (landed g x) (wrote g x 0 ps) a.0 (wrote_same x ps (All-head f)))
      (all_land w (wrote g x 0 ps) (All-zip (λ y b d. wrote_other g x y.place (blank g) ps (λ e. d (sym e)) b) (All-tail f) a.0) a.1)

  blank_free : is_free (blank g) ≡ true
  unfolding is_free blank
  blank_free = rw (replicate-append-replicate {A = ℕ} g.area g.spare 255) (all_255 (g.area + g.spare))
    where
      all_255 : (n : ℕ) → all (λ (b : ℕ). eqb b 255) (replicate n 255) ≡ true
      all_255 zero = refl
      all_255 (suc n) = all_255 n

  at_free : (ps : List Page) (p : ℕ) → At p (blank g) ps → free_at ps p ≡ true
  at_free [] p a = absurd a
  at_free (x ∷ ps) zero a = rw (← a) blank_free
  at_free (x ∷ ps) (suc p) a = at_free ps p a

-- past the chip no page is free
zero_used : is_free (0 ∷ []) ≡ false
unfolding is_free
zero_used = refl

-- a place more than pages: one stays over
pub record Over (P : ℕ → Type 0) (ws : List ℕ) : Type 0 where
  pub place : ℕ
  pub mem : Mem place ws
  pub is : P place

left_over : (g : Geometry) (c n k : ℕ) (ws : List ℕ) (pp : List (List Pack)) → Diff ws → length pp < length ws
    → Over (λ p. All (λ x. x.place ≡ p → ⊥) (pages_from g c n k (sheets ws pp))) ws
left_over g c n k [] pp d l = absurd (omega arith)
left_over g c n k (w ∷ ws) [] d l = record { place = w; mem = here; is = none }
left_over g c n k (w ∷ ws) (p ∷ pp) d l =
    let r = left_over g c n (suc k) ws pp d.1 (omega arith) in
    record { place = r.place; mem = there r.mem; is = more (mem_at r.mem d.0) r.is }

module _ {g : Geometry} {limit B : ℕ} {torn : List ℕ} (ch : Chip g limit B torn) {ps : List Page} {tb : List Node} {G : ℕ} {us : List U.Unit}
    (rd : Committable g limit B ps tb G us) (C : Choice g limit B ps tb G us) where
  -- erased blocks, new pages, places, and the image after n operations
  abbrev E : List ℕ
  E = es ch rd C

  abbrev N : List Live
  N = news ch rd C

  abbrev W : List ℕ
  W = ws ch rd C

  abbrev I : ℕ → List Page
  I n = (run g torn (with_power n ps) (commit_ops E N)).pages

  blank_after : (n p : ℕ) → length (commit_ops E N) ≤ n → At p (blank g) (cleared g E ps) → All (λ x. x.place ≡ p → ⊥) N → free_at (I n) p ≡ true
  blank_after n p l a d = at_free g (I n) p (rw (run_done_is g torn E N n ps l) (others_stay g N p (blank g) (cleared g E ps) d a))

  -- with a place more than pages a finished commit leaves a page free
  pub page_left : suc (length C.pages) ≤ length (places g ps C.head C.blocks) → (n : ℕ) → length (commit_ops E N) ≤ n → 0 < count is_free (I n)
  page_left over n l =
      let m = length C.pages in
      let r = left_over g (suc G) (length (ts ch rd C)) 0 W C.pages
      (ws_diff ch rd C) (omega (arith, length-take-le (suc m) (places g ps C.head C.blocks) over)) in
      count_some is_free (I n) r.place (0 ∷ []) zero_used
      (blank_after n r.place l
      (mem_at r.mem (places_blank g ps C.head C.blocks (suc m) rd.sizes (All-map (λ b h. in_image ch rd C b h.0) C.are)))
      r.is)

  -- a block with a new page is used
  new_used : (n b : ℕ) (t : List Node) → length (commit_ops E N) ≤ n → (x : Live) → Mem x N → in_block g b x.place ≡ true
      → is_used g t (suc G) (live_from g 0 (I n)) b ≡ true
  new_used n b t l x m i =
      let pl = plan ch rd C in
      let size : length x.bytes ≡ g.area = mem_at m pl.sizes in
      let c : commit x ≡ suc G = mem_at m (run_same pl.run) in
      let a : At x.place (landed g x) (I n) = rw (run_done_is g torn E N n ps l)
      (mem_at m (all_land g N (cleared g E ps) (free ch rd C) (apart ch rd C))) in
      let same : live g x.place (landed g x) ≡ x = ap (λ (y : List ℕ). record { place = x.place; bytes = y }) (third_data g 0 x.bytes size 0) in
      let k : Mem (live g x.place (landed g x)) (live_from g 0 (I n)) =
      live_mem g 0 x.place x.place (landed g x) (I n) (omega arith) a (third_live g 0 x.bytes size 0 ch.part.marks) in
      let k' : Mem x (live_from g 0 (I n)) = rw same at k in
      is_used_lem g t (suc G) (live_from g 0 (I n)) b
      (any_mem (λ (y : Live). eqb (commit y) (suc G) && in_block g b y.place) k' (and_intro (eqb (commit x) (suc G)) (in_block g b x.place) (eq-eqb (commit x) (suc G) c) i))

  -- what was erased is used or wholly free
  pub rested : (n : ℕ) (t : List Node) → length (commit_ops E N) ≤ n
      → All (λ b. (is_used g t (suc G) (live_from g 0 (I n)) b ≡ true) ⊎ (wholly_free g (I n) b ≡ true)) E
  rested n t l = mem_all E (λ b m. go b m (mem_at m below))
    where
      below : All (λ b. b < B) E
      below = All-filter (is_reclaimed g ps W) (All-map (λ b h. h.0) C.are)

      go : (b : ℕ) → Mem b E → b < B → (is_used g t (suc G) (live_from g 0 (I n)) b ≡ true) ⊎ (wholly_free g (I n) b ≡ true)
      go b m u =
          cases (any (λ (x : Live). in_block g b x.place) N)
          (λ q. let r = any_witness (λ (x : Live). in_block g b x.place) N q in inl (new_used n b t l r.0 r.1 r.2))
          (λ q. let d = any_false (λ (x : Live). in_block g b x.place) N q in
          inr (All-all (free_at (I n))
          (All-map (λ p i. blank_after n p l (cleared_makes g b p ps m (in_block_lem g b p i) (in_image ch rd C b u p i))
          (All-map (λ x o e. clash (in_block_lem g b p i) (ap (in_block g b) (sym e) ∙ o)) d))
          (tab_range (b * g.pages) g.pages))))
