-- A table is thick exactly where its shape is full; the tree that format leaves is thick. Assumes nothing.
use mathlib.Core.Path.{◌≡◌, sym, ap, ◌∙◌, subst}
use mathlib.Core.Logic.{⊎_elim}
use mathlib.Core.List.{List, [], ◌∷◌}
use Prim.Native.Nat.{ℕ, zero, suc, ◌<◌, ◌≤◌}
use native.Mathlib.Omega.{arith}
use lib.ListN.{length, replicate, length-map}
use Rattle.lists.specs.Lists.{All, none, more}
use Rattle.lists.proofs.Tests.{below_or_not, same_or_not}
use Rattle.views.specs.Nodes.{Entry, untouched, view}
use Rattle.tree.specs.Tree.{entries_of, there, Table, at, entries_at}
use Rattle.tree.specs.Step6.{top, times}
use Rattle.tree.specs.Thick.{least_of, Filled, Thick}
use Rattle.tree.proofs.Shape.{Kid, Shape, number, entry_of, tops, rest, nums, nums_of, start_of, Kids, Held, Inner, Sub, times_append, hit_same, hit_other, there_le}
use Rattle.tree.proofs.Shaped.{Shaped, top_at, level_at}
use Rattle.tree.proofs.Full.{Full, Strong, Wide}

-- ---- a thick table is a full shape
module _ (c : ℕ) (t : Table) (nodes : Filled c t) where
  kids_full : (l : ℕ) → ((lo hi : ℕ) (x : Shape l) → Inner t l lo hi x → times 0 (rest l x) ≡ 0 → Full c l x)
      → (hi : ℕ) (xs : List (Kid (Shape l))) → Kids (Sub 16 t l) hi xs → times 0 (nums_of l xs) ≡ 0 → All (Strong c l) xs
  kids_full l f hi [] h z = none
  kids_full l f hi (x ∷ xs) h z =
      let s = times_append 0 (nums l x.sub) (nums_of l xs) in
      let d : 0 < number l x.sub = ⊎_elim (λ (q : 0 < number l x.sub). q) (λ (q : number l x.sub ≤ 0). absurd (omega (arith, hit_same (number l x.sub) 0 (omega arith)))) (below_or_not 0 (number l x.sub)) in
      more (nodes (number l x.sub) l (tops l x.sub) d h.0.0.is, f x.key (start_of hi xs) x.sub h.0.1 (omega arith)) (kids_full l f hi xs h.1 (omega arith))

  pub inner_full : (l lo hi : ℕ) (s : Shape l) → Inner t l lo hi s → times 0 (rest l s) ≡ 0 → Full c l s
  inner_full zero lo hi s h z = tt
  inner_full (suc l) lo hi s h z = kids_full l (λ a b x. inner_full l a b x) hi s.kids h.1 z

wide_at : (t : Table) (l : ℕ) (s : Shape l) → (0 < l → 2 ≤ length (tops l s)) → Wide l s
wide_at t zero s h = tt
wide_at t (suc l) s h = omega (arith, h (omega arith), length-map s.kids (entry_of l))

pub at_wide : (l : ℕ) (s : Shape l) → Wide l s → 0 < l → 2 ≤ length (tops l s)
at_wide zero s w h = absurd (omega arith)
at_wide (suc l) s w h = omega (arith, length-map s.kids (entry_of l))

pub filled_full : (c : ℕ) (t : Table) (T : Shaped t) → Filled c t → Full c T.level T.shape
filled_full c t T h =
    let l = T.level in
    let s = T.shape in
    inner_full c t h l 0 top s T.sub.1 (omega (arith, T.once 0, there_le (at t 0), hit_same (number l s) 0 T.root))

pub thick_wide : (c : ℕ) (t : Table) (T : Shaped t) → Thick c t → Wide T.level T.shape
thick_wide c t T h =
    let l = T.level in
    let s = T.shape in
    let e : entries_at t 0 ≡ tops l s = ap entries_of (top_at t T) in
    wide_at t l s (λ q. subst (λ (es : List Entry). 2 ≤ length es) e (h.root (omega (arith, level_at t T))))

-- ---- and the other way
module _ (c : ℕ) (t : Table) (m i : ℕ) (es : List Entry) (g : at t m ≡ view i es) where
  held_thick : (l lo hi : ℕ) (s : Shape l) → Held 16 t l lo hi s → number l s ≡ m → least_of c l ≤ length (tops l s) → least_of c i ≤ length es
  held_thick l lo hi s h e q =
      let v : view l (tops l s) ≡ view i es = sym h.is ∙ ap (at t) e ∙ g in
      let a : l ≡ i = cc in
      let b : tops l s ≡ es = cc in
      subst (λ (ds : List Entry). least_of c i ≤ length ds) b (subst (λ (j : ℕ). least_of c j ≤ length (tops l s)) a q)

  kids_thick : (l : ℕ) → ((lo hi : ℕ) (x : Shape l) → Inner t l lo hi x → Full c l x → 0 < times m (rest l x) → least_of c i ≤ length es)
      → (hi : ℕ) (xs : List (Kid (Shape l))) → Kids (Sub 16 t l) hi xs → All (Strong c l) xs → 0 < times m (nums_of l xs) → least_of c i ≤ length es
  kids_thick l f hi [] h a p = absurd (omega arith)
  kids_thick l f hi (x ∷ xs) h (more q qs) p =
      ⊎_elim
      (λ (e : number l x.sub ≡ m). held_thick l x.key (start_of hi xs) x.sub h.0.0 e q.0)
      (λ (e : number l x.sub ≡ m → ⊥).
      let s = times_append m (nums l x.sub) (nums_of l xs) in
      let z = hit_other (number l x.sub) m e in
      ⊎_elim
      (λ (r : 0 < times m (rest l x.sub)). f x.key (start_of hi xs) x.sub h.0.1 q.1 r)
      (λ (r : times m (rest l x.sub) ≤ 0). kids_thick l f hi xs h.1 qs (omega arith))
      (below_or_not 0 (times m (rest l x.sub))))
      (same_or_not (number l x.sub) m)

  inner_thick : (l lo hi : ℕ) (s : Shape l) → Inner t l lo hi s → Full c l s → 0 < times m (rest l s) → least_of c i ≤ length es
  inner_thick zero lo hi s h f p = absurd (omega arith)
  inner_thick (suc l) lo hi s h f p = kids_thick l (λ a b x. inner_thick l a b x) hi s.kids h.1 f p

pub full_filled : (c : ℕ) (t : Table) (T : Shaped t) → Full c T.level T.shape → Filled c t
full_filled c t T f n i es p q =
    inner_thick c t n i es q T.level 0 top T.shape T.sub.1 f
    (omega (arith, T.once n, ap there q, hit_other (number T.level T.shape) n (λ r. omega (arith, T.root))))

pub full_thick : (c : ℕ) (t : Table) (T : Shaped t) → Wide T.level T.shape → Full c T.level T.shape → Thick c t
full_thick c t T w f =
    let l = T.level in
    let s = T.shape in
    let e : entries_at t 0 ≡ tops l s = ap entries_of (top_at t T) in
    record {
      nodes = full_filled c t T f;
      root = λ p. subst (λ (es : List Entry). 2 ≤ length es) (sym e) (at_wide l s w (omega (arith, level_at t T)));
    }

-- ---- the tree that format leaves has one node
none_view : (m j l : ℕ) (es : List Entry) → at (replicate m untouched) j ≡ view l es → ⊥
none_view zero j l es h = let z : ◌≡◌ {A = ℕ} 0 1 = ap there h in omega arith
none_view (suc m) zero l es h = let z : ◌≡◌ {A = ℕ} 0 1 = ap there h in omega arith
none_view (suc m) (suc j) l es h = none_view m j l es h

first_filled : (c m n l : ℕ) (es : List Entry) → 0 < n → at (view 0 [] ∷ replicate m untouched) n ≡ view l es → least_of c l ≤ length es
first_filled c m zero l es p h = absurd (omega arith)
first_filled c m (suc n) l es p h = absurd (none_view m n l es h)

pub first_thick : (c m : ℕ) → Thick c (view 0 [] ∷ replicate m untouched)
first_thick c m = record { nodes = first_filled c m; root = λ p. absurd (omega arith) }
