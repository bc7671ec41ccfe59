-- A shape that became another in place. Assumes nothing.
use mathlib.Core.Path.{◌≡◌, refl, sym, ap, ◌∙◌}
use mathlib.Core.List.{List, [], ◌∷◌, ◌++◌, map}
use Prim.Native.Nat.{ℕ, suc, ◌+◌, ◌<◌, ◌≤◌}
use native.Mathlib.Omega.{arith}
use lib.ListN.{length}
use Rattle.lists.proofs.Flats.{map_append}
use Rattle.views.specs.Nodes.{Entry, view}
use Rattle.tree.specs.Tree.{there, Table, at, first_key}
use Rattle.tree.specs.Step6.{times}
use Rattle.tree.proofs.Entries.{Between, between_append, between_left, between_right}
use Rattle.tree.proofs.Shape.{Kid, Shape, number, entry_of, nums, recs, nums_of, recs_of, start_of, Starts, Kids, Inner, Sub, hit_same, hit_zero, kids_left, kids_right, kids_join, start_first, kids_frame, sub_frame}
use Rattle.tree.proofs.Children.{starts_start, nums_of_three}

-- shape s of table t became shape s' of table u, under its number and within its bounds; the records are as f says
pub record Becomes (f : List Entry → List Entry) (t u : Table) (l lo hi : ℕ) (s s' : Shape l) : Type 0 where
  pub same : number l s' ≡ number l s
  pub sub : Sub 16 u l lo hi s'
  pub records : recs l s' ≡ f (recs l s)
  pub counts : (j : ℕ) → times j (nums l s') + there (at t j) ≡ times j (nums l s) + there (at u j)
  pub frame : (j : ℕ) → times j (nums l s) ≡ 0 → at u j ≡ at t j

pub becomes_then : {f : List Entry → List Entry} {t u w : Table} {l lo hi : ℕ} {s s₁ s₂ : Shape l}
    → Becomes f t u l lo hi s s₁ → Becomes (λ es. es) u w l lo hi s₁ s₂ → Becomes f t w l lo hi s s₂
becomes_then a b = record {
  same = b.same ∙ a.same;
  sub = b.sub;
  records = b.records ∙ a.records;
  counts = λ j. omega (arith, a.counts j, b.counts j);
  frame = λ j z. let e = a.frame j z in b.frame j (omega (arith, a.counts j, ap there e)) ∙ e;
}

starts_swap : {A : Type 0} (lo y : ℕ) (bs olds mids ds : List (Kid A)) → Starts y olds → Starts y mids → Starts lo (bs ++ (olds ++ ds)) → Starts lo (bs ++ (mids ++ ds))
starts_swap lo y [] [] mids ds p q h = absurd p
starts_swap lo y [] (x ∷ olds) [] ds p q h = absurd q
starts_swap lo y [] (x ∷ olds) (z ∷ mids) ds p q h = q ∙ sym p ∙ h
starts_swap lo y (x ∷ bs) olds mids ds p q h = h

-- some neighbouring kids are replaced by others
module _ (f : List Entry → List Entry) (t u : Table) (l lo hi n y : ℕ) (bs olds mids ds : List (Kid (Shape l)))
    (h : Sub 16 t (suc l) lo hi (record { number = n; kids = bs ++ (olds ++ ds) }))
    (once : (j : ℕ) → times j (nums (suc l) (record { number = n; kids = bs ++ (olds ++ ds) })) ≤ 1)
    (so : Starts y olds) (sm : Starts y mids)
    (is : at u n ≡ view (suc l) (map (entry_of l) (bs ++ (mids ++ ds))))
    (size : length (map (entry_of l) (bs ++ (mids ++ ds))) ≤ 16)
    (order : Between y (start_of hi ds) (map (entry_of l) mids))
    (kids : Kids (Sub 16 u l) (start_of hi ds) mids)
    (counts : (j : ℕ) → times j (nums_of l mids) + there (at t j) ≡ times j (nums_of l olds) + there (at u j))
    (frame : (j : ℕ) → (n ≡ j → ⊥) → times j (nums_of l olds) ≡ 0 → at u j ≡ at t j)
    (records : recs_of l (bs ++ (mids ++ ds)) ≡ f (recs_of l (bs ++ (olds ++ ds)))) where
  was : (j : ℕ) → times j (nums_of l (bs ++ (olds ++ ds))) ≡ times j (nums_of l bs) + (times j (nums_of l olds) + times j (nums_of l ds))
  was j = nums_of_three l j bs olds ds

  now : (j : ℕ) → times j (nums_of l (bs ++ (mids ++ ds))) ≡ times j (nums_of l bs) + (times j (nums_of l mids) + times j (nums_of l ds))
  now j = nums_of_three l j bs mids ds

  others : (j : ℕ) → 0 < times j (nums_of l bs) + times j (nums_of l ds) → at u j ≡ at t j
  others j p = frame j (λ e. omega (arith, once j, was j, hit_same n j e)) (omega (arith, once j, was j))

  -- the keys of the node before
  old_keys : Between lo hi (map (entry_of l) bs ++ map (entry_of l) (olds ++ ds))
  old_keys = rw map_append at h.0.keys

  first_old : first_key hi (map (entry_of l) (olds ++ ds)) ≡ y
  first_old = start_first l hi (olds ++ ds) ∙ starts_start y hi olds ds so

  ds_keys : Between (start_of hi ds) hi (map (entry_of l) ds)
  ds_keys =
      let a : Between y hi (map (entry_of l) (olds ++ ds)) = rw first_old at (between_right lo hi (map (entry_of l) bs) (map (entry_of l) (olds ++ ds)) old_keys) in
      let b : Between y hi (map (entry_of l) olds ++ map (entry_of l) ds) = rw map_append at a in
      rw start_first at (between_right y hi (map (entry_of l) olds) (map (entry_of l) ds) b)

  new_keys : Between lo hi (map (entry_of l) (bs ++ (mids ++ ds)))
  new_keys =
      rw (map_append (entry_of l) bs (mids ++ ds), map_append (entry_of l) mids ds)
      (between_append lo y hi (map (entry_of l) bs) (map (entry_of l) mids ++ map (entry_of l) ds)
      (rw first_old at (between_left lo hi (map (entry_of l) bs) (map (entry_of l) (olds ++ ds)) old_keys))
      (between_append y (start_of hi ds) hi (map (entry_of l) mids) (map (entry_of l) ds) order ds_keys))

  new_inner : Inner u (suc l) lo hi (record { number = n; kids = bs ++ (mids ++ ds) })
  new_inner =
      let P : ℕ → ℕ → Shape l → Type 0 = Sub 16 t l in
      let Q : ℕ → ℕ → Shape l → Type 0 = Sub 16 u l in
      let al : Kids P y bs = rw (starts_start y hi olds ds so) at (kids_left P hi bs (olds ++ ds) h.1.1) in
      let ar : Kids P hi ds = kids_right P hi olds ds (kids_right P hi bs (olds ++ ds) h.1.1) in
      let nl : Kids Q y bs = kids_frame t u l (sub_frame 16 t u l) y bs (λ j p. others j (omega arith)) al in
      let nr : Kids Q hi ds = kids_frame t u l (sub_frame 16 t u l) hi ds (λ j p. others j (omega arith)) ar in (
        starts_swap lo y bs olds mids ds so sm h.1.0,
        kids_join Q hi bs (mids ++ ds) (rw (starts_start y hi mids ds sm) nl) (kids_join Q hi mids ds kids nr),
      )

  pub replaced : Becomes f t u (suc l) lo hi (record { number = n; kids = bs ++ (olds ++ ds) }) (record { number = n; kids = bs ++ (mids ++ ds) })
  replaced = record {
    same = refl;
    sub = (record { is = is; keys = new_keys; size = size }, new_inner);
    records = records;
    counts = λ j. omega (arith, counts j, was j, now j);
    frame = λ j z. frame j (hit_zero n j (omega arith)) (omega (arith, was j));
  }
