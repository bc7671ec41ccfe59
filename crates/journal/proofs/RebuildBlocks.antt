-- The wholly free blocks that a rebuild writes to: no page of them is live, so they are unused; all their pages are places. Assumes nothing.
use mathlib.Core.Path.{◌≡◌, refl, ap, ◌∙◌}
use mathlib.Core.Bool.{Bool, true, false, ◌&&◌, not}
use mathlib.Core.List.{List, [], ◌∷◌, ◌++◌}
use Prim.Native.Nat.{ℕ, zero, suc, ◌+◌, ◌*◌, ◌≤◌, ◌<◌}
use native.Mathlib.Nat.{mul-le-mul_left}
use native.Mathlib.Omega.{arith}
use lib.Dec.{eqb}
use lib.ListN.{get_or, length, take}
use lib.Seq.{length-take-le}
use borrow.Author.Tests.{eqb-true, leb-true}
use Rattle.lists.specs.Lists.{All, Diff, all, any, flat}
use Rattle.lists.proofs.Alls.{All-filter, All-map, All-take, All-zip, all_All}
use Rattle.lists.proofs.Filters.{filter_all, filter_is, filter_none}
use Rattle.lists.proofs.Places.{At-is}
use Rattle.lists.proofs.Sets.{diff_filter, diff_take, mem_at, tab_diff, tab_mem, tab_range}
use Rattle.lists.proofs.Sorts.{All-sort}
use Rattle.lists.proofs.Tests.{and_left, and_right, cases, clash}
use Rattle.chip.specs.declared.page.Mark.TheVariants.{Valid}
use Rattle.chip.specs.Geometry.{Geometry, Fits}
use Rattle.chip.specs.Page.{Page, is_free, is_set}
use Rattle.chip.specs.Chip.{in_block}
use Rattle.pages.specs.Steps.{Live, before, live_from}
use Rattle.views.specs.Table.{Node, fresh, node_of}
use Rattle.views.proofs.Meanings.{Kept, in_order, node_in, opened}
use Rattle.views.proofs.Rooms.{still_unlisted}
use Rattle.journal.specs.Commit.{Pack}
use Rattle.journal.specs.Plan.{count_from, erases, free_at, is_reclaimed, is_used, pages_in, places, sheets, wholly_free}
use Rattle.journal.specs.Rebuild.{eighth, free_blocks, free_places, has_free_blocks}
use Rattle.journal.proofs.PlanBlocks.{is_unused}
use Rattle.journal.proofs.PlanPlaces.{block_in, length_flat}
use Rattle.journal.proofs.PlanRoom.{LiveAt, live_from_lem}

-- ---- a page with its valid mark set is not free
free_byte : (x : Page) (k : ℕ) → is_free x ≡ true → get_or x k 255 ≡ 255
unfolding is_free
free_byte [] k h = refl
free_byte (b ∷ x) zero h = eqb-true b 255 (and_left (eqb b 255) (all (λ (c : ℕ). eqb c 255) x) h)
free_byte (b ∷ x) (suc k) h = free_byte x k (and_right (eqb b 255) (all (λ (c : ℕ). eqb c 255) x) h)

pub valid_taken : (g : Geometry) (x : Page) → is_set g Valid x ≡ true → is_free x ≡ false
unfolding is_set
valid_taken g x h =
    cases (is_free x) (λ t. clash h (ap (λ (b : ℕ). eqb b 0) (free_byte x (g.area + 1) t))) (λ t. t)

-- so no page of a wholly free block is live
pub free_dead : (g : Geometry) (ps : List Page) (b : ℕ) → wholly_free g ps b ≡ true → All (λ x. in_block g b x.place ≡ false) (live_from g 0 ps)
free_dead g ps b h = All-map (λ x m. cases (in_block g b x.place) (λ t. absurd (here x m t)) (λ t. t)) (live_from_lem g [] ps 0 refl)
  where
    here : (x : Live) → LiveAt g ps x → in_block g b x.place ≡ true → ⊥
    here x m t =
        let i = block_in g b x.place t in
        let f : free_at ps x.place ≡ true = mem_at (tab_mem (b * g.pages) g.pages x.place i.0 i.1) (all_All (free_at ps) (pages_in g b) h) in
        clash f (ap is_free (At-is x.place m.page ps (0 ∷ []) m.stands) ∙ valid_taken g m.page (and_left (is_set g Valid m.page) _ m.lives))

-- and it is unused
pub free_unused : (g : Geometry) (limit : ℕ) (ps : List Page) (tb : List Node) (G : ℕ) → Kept g limit ps tb G → (b : ℕ) → wholly_free g ps b ≡ true
    → is_used g tb G (live_from g 0 ps) b ≡ false
unfolding node_in node_of
free_unused g limit ps tb G k b h =
    let d = free_dead g ps b h in
    rw (opened g limit ps tb G k).tables
    (is_unused g limit (node_in g limit ps) G (live_from g 0 ps) b
    (λ n l. still_unlisted (in_block g b) limit n fresh (in_order g ps) (All-sort before d) refl) (All-map (λ x m e. m) d))

-- ---- the first of them
module _ (g : Geometry) (B : ℕ) (ps : List Page) where
  pub first_diff : Diff (take (eighth B) (free_blocks g B ps))
  first_diff = diff_take (eighth B) (free_blocks g B ps) (diff_filter (wholly_free g ps) (count_from 0 B) (tab_diff 0 B))

  pub first_free : All (λ b. (b < B) × (wholly_free g ps b ≡ true)) (take (eighth B) (free_blocks g B ps))
  first_free =
      All-take (eighth B)
      (All-zip (λ b r t. (omega (arith, r.1), t)) (All-filter (wholly_free g ps) (tab_range 0 B)) (filter_is (wholly_free g ps) (count_from 0 B)))

  pub first_many : has_free_blocks g B ps ≡ true → length (take (eighth B) (free_blocks g B ps)) ≡ eighth B
  unfolding has_free_blocks
  first_many h = length-take-le (eighth B) (free_blocks g B ps) (leb-true (eighth B) (length (free_blocks g B ps)) h)

  -- places for 4 B pages
  pub places_many : Fits g → has_free_blocks g B ps ≡ true → 4 * B ≤ length (free_places g B ps)
  places_many f h =
      let m : eighth B * 32 ≤ eighth B * g.pages = mul-le-mul_left (eighth B) f.many in
      omega (arith, m, ap (λ (n : ℕ). n * g.pages) (first_many h), length_flat g (take (eighth B) (free_blocks g B ps)))

-- ---- the first as the head, and the others: all their pages are places, and nothing is erased
and_not : (a b : Bool) → b ≡ true → (a && not b) ≡ false
and_not true b e = ap not e
and_not false b e = refl

module _ (g : Geometry) (ps : List Page) (head : ℕ) (bs : List ℕ) where
  pub places_free : wholly_free g ps head ≡ true → places g ps head bs ≡ flat (pages_in g) (head ∷ bs)
  places_free h = ap (λ (xs : List ℕ). xs ++ flat (pages_in g) bs) (filter_all (free_at ps) (all_All (free_at ps) (pages_in g head) h))

  pub erases_none : (ws : List ℕ) → All (λ b. wholly_free g ps b ≡ true) bs → erases g ps ws bs ≡ []
  erases_none ws a = filter_none (is_reclaimed g ps ws) (All-map (λ b t. and_not (any (in_block g b) ws) (wholly_free g ps b) t) a)

-- a place over makes no page
pub sheets_take : (n : ℕ) (ws : List ℕ) (pp : List (List Pack)) → length pp ≤ n → sheets (take n ws) pp ≡ sheets ws pp
sheets_take zero [] [] l = refl
sheets_take zero (p ∷ ws) [] l = refl
sheets_take zero ws (k ∷ pp) l = absurd (omega arith)
sheets_take (suc n) [] pp l = refl
sheets_take (suc n) (p ∷ ws) [] l = refl
sheets_take (suc n) (p ∷ ws) (k ∷ pp) l = ap (λ ts. record { place = p; packs = k } ∷ ts) (sheets_take n ws pp (omega arith))
