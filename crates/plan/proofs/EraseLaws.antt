-- The plan as loops: how many places there are, and the erases in one walk over the unused blocks. Assumes nothing.
use mathlib.Core.Path.{◌≡◌, refl, sym, ap, ◌∙◌}
use mathlib.Core.Bool.{Bool, true, false, ◌&&◌, not}
use mathlib.Core.List.{List, [], ◌∷◌, ◌++◌}
use Prim.Native.Nat.{ℕ, zero, suc, ◌+◌, ◌-◌, ◌*◌, ◌<◌}
use native.Mathlib.Omega.{arith}
use lib.Dec.{ltb}
use lib.ListN.{length, length-append, take}
use borrow.Author.Tests.{le-ltb, lt-ltb}
use Rattle.lists.specs.Lists.{All, any, filter, flat, Diff}
use Rattle.lists.proofs.Alls.{All-filter, All-map, All-take, false_any}
use Rattle.lists.proofs.Anys.{any_append}
use Rattle.lists.proofs.Flats.{length_tab}
use Rattle.lists.proofs.Sets.{filter_same, tab_range, take_over_lem}
use Rattle.chip.specs.Geometry.{Geometry}
use Rattle.chip.specs.Page.{Page}
use Rattle.chip.specs.Chip.{in_block}
use Rattle.journal.specs.Plan.{erases, free_at, count_from, pages_in, places, is_reclaimed, wholly_free}
use Rattle.journal.proofs.PlanPlaces.{in_block_lem, length_flat, out_block}
use Rattle.plan.specs.PlacesCode.{erases_from}

pub places_count : (g : Geometry) (ps : List Page) (head : ℕ) (bs : List ℕ)
    → length (places g ps head bs) ≡ length (filter (free_at ps) (pages_in g head)) + length bs * g.pages
places_count g ps head bs = length-append (filter (free_at ps) (pages_in g head)) (flat (pages_in g) bs) ∙ ap (λ n. length (filter (free_at ps) (pages_in g head)) + n) (length_flat g bs)

-- a part in which none passes does not count
any_behind : {A : Type 0} (p : A → Bool) (xs ys : List A) → any p xs ≡ false → any p (xs ++ ys) ≡ any p ys
any_behind p xs ys h = any_append p xs ys ∙ rw h

module _ (g : Geometry) (ps : List Page) (pos : 0 < g.pages) where
  -- places of another block reach no page of b
  miss : (b c n : ℕ) → (c ≡ b → ⊥) → any (in_block g b) (take n (pages_in g c)) ≡ false
  miss b c n d = false_any (in_block g b) (All-take n (All-map (λ p i. out_block g c b p i d) (tab_range (c * g.pages) g.pages)))

  reached : (b n : ℕ) (ys : List ℕ) → 0 < n → any (in_block g b) (take n (pages_in g b ++ ys)) ≡ true
  reached b n ys l = go n g.pages l pos refl
    where
      go : (n k : ℕ) → 0 < n → 0 < k → g.pages ≡ k → any (in_block g b) (take n (count_from (b * g.pages) k ++ ys)) ≡ true
      go zero k l m e = absurd (omega arith)
      go (suc n) zero l m e = absurd (omega arith)
      go (suc n) (suc k) l m e = rw (in_block_lem g b (b * g.pages) (omega arith, omega arith))

  -- blocks without the head's places
  walk : (n : ℕ) (bs : List ℕ) → Diff bs → filter (is_reclaimed g ps (take n (flat (pages_in g) bs))) bs ≡ erases_from g ps n bs
  walk n [] d = refl
  walk n (b ∷ bs) d =
      let ws : List ℕ = take n (pages_in g b ++ flat (pages_in g) bs) in
      let e : ws ≡ take n (pages_in g b) ++ take (n - g.pages) (flat (pages_in g) bs) =
      take_over_lem n (pages_in g b) (flat (pages_in g) bs) ∙ ap (λ k. take n (pages_in g b) ++ take (n - k) (flat (pages_in g) bs)) (length_tab (λ (i : ℕ). i) (b * g.pages) g.pages) in
      let tail : filter (is_reclaimed g ps ws) bs ≡ erases_from g ps (n - g.pages) bs =
      filter_same (is_reclaimed g ps ws) (is_reclaimed g ps (take (n - g.pages) (flat (pages_in g) bs)))
      (All-map (λ c k. ap (λ (t : Bool). t && (not (wholly_free g ps c)))
      (ap (any (in_block g c)) e ∙ any_behind (in_block g c) (take n (pages_in g b)) (take (n - g.pages) (flat (pages_in g) bs)) (miss c b n k))) d.0)
      ∙ walk (n - g.pages) bs d.1 in
      let first : any (in_block g b) ws ≡ ltb 0 n = head_test n in
      rw (first, tail)
    where
      head_test : (n : ℕ) → any (in_block g b) (take n (pages_in g b ++ flat (pages_in g) bs)) ≡ ltb 0 n
      head_test zero = sym (le-ltb 0 0 (omega arith))
      head_test (suc n) = reached b (suc n) (flat (pages_in g) bs) (omega arith) ∙ sym (lt-ltb 0 (suc n) (omega arith))

  -- the erases of a plan in one walk, from the number of places that the head does not give
  pub erases_walk : (head n : ℕ) (bs : List ℕ) → Diff bs → All (λ b. b ≡ head → ⊥) bs
      → erases g ps (take n (places g ps head bs)) bs ≡ erases_from g ps (n - length (filter (free_at ps) (pages_in g head))) bs
  erases_walk head n bs d a =
      let own : List ℕ = filter (free_at ps) (pages_in g head) in
      filter_same (is_reclaimed g ps (take n (own ++ flat (pages_in g) bs))) (is_reclaimed g ps (take (n - length own) (flat (pages_in g) bs)))
      (All-map (λ b k. ap (λ (t : Bool). t && (not (wholly_free g ps b)))
      (ap (any (in_block g b)) (take_over_lem n own (flat (pages_in g) bs))
      ∙ any_behind (in_block g b) (take n own) (take (n - length own) (flat (pages_in g) bs))
      (false_any (in_block g b) (All-take n (All-filter (free_at ps) (All-map (λ p i. out_block g head b p i (λ e. k (sym e))) (tab_range (head * g.pages) g.pages))))))) a)
      ∙ walk (n - length own) bs d
