-- The units of a delete make its table: at most 57, so the 60 of an insert are enough for every update. Assumes nothing.
use mathlib.Core.Path.{◌≡◌, refl, sym, ap, ◌∙◌, subst}
use mathlib.Core.Logic.{⊎_elim}
use mathlib.Core.Bool.{true, false}
use mathlib.Core.List.{List, [], ◌∷◌, ◌++◌, map, foldl}
use Prim.Native.Nat.{ℕ, zero, suc, ◌+◌, ◌<◌, ◌≤◌}
use native.Mathlib.Omega.{arith}
use lib.Dec.{ltb}
use lib.ListN.{length, length-append, length-map}
use borrow.Author.Tests.{lt-ltb, le-ltb, leb-true}
use Rattle.lists.specs.Lists.{All, none, more}
use Rattle.lists.proofs.Alls.{All-append, All-map, All-left, All-right, All-head}
use Rattle.lists.proofs.Tests.{cases, clash, below_or_not}
use Rattle.pages.specs.declared.unit.Unit as U
use Rattle.views.specs.Nodes.{Entry, delete_entry, apply}
use Rattle.tree.specs.Tree.{entries_of, there, Table, at, entries_at, next, root_level, nodes}
use Rattle.tree.specs.Step6.{top, times, Tree}
use Rattle.tree.specs.Delete.{Down, kept, lost, leaves, Two, alone, two, behind, neighbours, settle, mend, delete_at, collapsed, delete}
use Rattle.tree.specs.Units.{touch_view, after_units}
use Rattle.tree.specs.DeleteUnits.{settle_units, delete_units_at, collapse_units, merging, merge_units, top_units, delete_units_from, delete_units, frees}
use Rattle.tree.specs.Thick.{Thick}
use Rattle.tree.proofs.Tables.{there_below}
use Rattle.tree.proofs.Shape.{Kid, Shape, number, entry_of, tops, nums, start_of, Sub, there_le}
use Rattle.tree.proofs.Children.{Under, under_sub, under_count}
use Rattle.tree.proofs.Shaped.{level_at, at_root}
use Rattle.tree.proofs.Step6.{shape_of}
use Rattle.tree.proofs.Full.{Full, Strong, Wide, wide_strong, least_8}
use Rattle.tree.proofs.ThickLaws.{filled_full, thick_wide}
use Rattle.tree.proofs.PairUnits.{frees_append}
use Rattle.tree.proofs.Least.{there_length, put_length}
use Rattle.tree.proofs.Becomes.{Becomes}
use Rattle.tree.proofs.UnitLaws.{then}
use Rattle.tree.proofs.Validity.{Smalls, ValidUpdates, Valids, valid_below, after_small}
use Rattle.tree.proofs.Pairs.{loss, gap, length_of, Known}
use Rattle.tree.proofs.Neighbours.{Repaired, repaired}
use Rattle.tree.proofs.DeleteAt.{room_at, Heirs, becomes_there, Thinned, swapped, node_kept, deletes}
use Rattle.tree.proofs.TakeOver.{Rooting, Deep, Ends, collapses}
use Rattle.tree.proofs.Merge.{merged}

-- ---- when both children go into node 0
merging_behind : (a : Entry) (x : Two) (t : Table) → merging (behind a x) t ≡ false
merging_behind a alone t = refl
merging_behind a (two bs b c ds) t = refl

merging_many : (k : ℕ) (a b c : Entry) (es : List Entry) (t : Table) → merging (neighbours k (a ∷ b ∷ c ∷ es)) t ≡ false
merging_many k a b c es t =
    cases (ltb k b.key) (λ e. rw e refl) (λ e. rw e (merging_behind a (neighbours k (b ∷ c ∷ es)) t))

-- then there are two
pub merging_two : (k : ℕ) (zs : List Entry) (t : Table) → merging (neighbours k zs) t ≡ true → length zs ≡ 2
merging_two k [] t e = clash e refl
merging_two k (a ∷ []) t e = clash e refl
merging_two k (a ∷ b ∷ []) t e = refl
merging_two k (a ∷ b ∷ c ∷ es) t e = clash e (merging_many k a b c es t)

loss_most : (r : Down) → loss r ≤ 1
loss_most (kept t) = omega arith
loss_most (lost t) = omega arith

no_loss : (l : ℕ) (a b : Entry) (t : Table) → merging (two [] a b []) t ≡ false → loss (settle l 0 (two [] a b []) t) ≡ 0
unfolding settle
no_loss l a b t e = rw e

-- otherwise node 0 keeps two entries or more, if it has them
many_left : (k l m : ℕ) (zs : List Entry) (t : Table) → merging (neighbours k zs) t ≡ false → 2 ≤ length zs → length zs ≤ loss (settle l 0 (neighbours k zs) t) + m → 2 ≤ m
many_left k l m [] t e p q = absurd (omega arith)
many_left k l m (a ∷ []) t e p q = absurd (omega arith)
many_left k l m (a ∷ b ∷ []) t e p q = omega (arith, no_loss l a b t e)
many_left k l m (a ∷ b ∷ c ∷ es) t e p q = omega (arith, loss_most (settle l 0 (neighbours k (a ∷ b ∷ c ∷ es)) t))

one_units : (k : ℕ) (zs : List Entry) (t : Table) → length zs ≡ 1 → length (settle_units 0 (neighbours k zs) t) ≡ 0
unfolding settle_units
one_units k [] t h = absurd (omega arith)
one_units k (a ∷ []) t h = refl
one_units k (a ∷ b ∷ es) t h = absurd (omega arith)

-- what the units at node 0 do, after `spent` of its child; P says that the tree before was thick
record Tops (P : Type 0) (u z : Table) (vs : List U.Unit) (l spent : ℕ) : Type 0 where
  is : l < 255 → after_units vs u ≡ z
  few : l ≤ 2 → spent + length vs ≤ 57
  thick : P → length vs ≤ 19
  known : Known u vs
  valid : l ≤ 3 → Smalls u → ValidUpdates vs
  count : l < 255 → nodes z + frees vs ≡ nodes u

room_2 : (l : ℕ) → l ≤ 2 → room_at l ≤ 36
room_2 zero h = omega arith
room_2 (suc l) h = omega arith

gap_most : (l : ℕ) → gap l ≤ 18
gap_most zero = omega arith
gap_most (suc l) = omega arith

from_ends : (P : Type 0) (u z : Table) (vs : List U.Unit) (l spent : ℕ) (s : Shape (suc l)) → Ends u z vs (suc l) s → (l ≤ 2 → spent + length vs ≤ 57) → (P → Wide (suc l) s) → Tops P u z vs l spent
from_ends P u z vs l spent s E f w = record {
  is = λ q. E.units (omega arith);
  few = f;
  thick = λ p. omega (arith, E.quiet (w p));
  known = E.known;
  valid = λ q ts. E.valid (omega arith) ts;
  count = λ q. E.count (omega arith);
}

module _ (k : ℕ) (t : Table) (l : ℕ) (before : List (Kid (Shape l))) (kid : Kid (Shape l)) (after : List (Kid (Shape l)))
    (h : Sub 16 t (suc l) 0 top (record { number = 0; kids = before ++ (kid ∷ after) }))
    (all : (j : ℕ) → times j (nums (suc l) (record { number = 0; kids = before ++ (kid ∷ after) })) ≡ there (at t j))
    (low : kid.key ≤ k) (high : k < start_of top after) where
  once : (j : ℕ) → times j (nums (suc l) (record { number = 0; kids = before ++ (kid ∷ after) })) ≤ 1
  once j = omega (arith, all j, there_le (at t j))

  -- the tree before was thick
  abbrev Thicks : Type 0
  Thicks = (2 ≤ length (before ++ (kid ∷ after))) × All (Strong 8 l) (before ++ (kid ∷ after))

  module _ (u : Table) (s : Shape l) (G : Becomes (delete_entry k) t u l kid.key (start_of top after) kid.sub s) where
    abbrev kid' : Kid (Shape l)
    kid' = record { key = kid.key; sub = s }

    -- node 0 after its child's delete
    rooting : Rooting u (suc l) (record { number = 0; kids = before ++ (record { key = kid.key; sub = s } ∷ after) })
    rooting =
        let S = swapped k t l 0 top 0 before kid after h once low high u s G in
        record { root = refl; sub = S.sub; once = λ j. omega (arith, S.counts j, all j) }

    deep_of : (length (before ++ (record { key = kid.key; sub = s } ∷ after)) ≡ 1 → Heirs l s) → Deep (suc l) (record { number = 0; kids = before ++ (record { key = kid.key; sub = s } ∷ after) })
    deep_of f q = go before after q (f q)
      where
        go : (bs ds : List (Kid (Shape l))) → length (bs ++ (record { key = kid.key; sub = s } ∷ ds)) ≡ 1 → Heirs l s
            → All (λ (x : Kid (Shape l)). Heirs l x.sub) (bs ++ (record { key = kid.key; sub = s } ∷ ds))
        go [] [] q p = more p none
        go [] (d ∷ ds) q p = absurd (omega arith)
        go (b ∷ bs) ds q p = absurd (omega (arith, length-append bs (kid' ∷ ds)))

    -- the child needs no neighbour
    quiet_top : (spent : ℕ) → (l ≤ 2 → spent + length (collapse_units (suc l) u) ≤ 57)
        → Tops ((2 ≤ length (before ++ (kid ∷ after))) × All (Strong 8 l) (before ++ (kid ∷ after))) u (collapsed (suc l) u) (collapse_units (suc l) u) l spent
    quiet_top spent f =
        let q : Shape (suc l) = record { number = 0; kids = before ++ (record { key = kid.key; sub = s } ∷ after) } in
        from_ends Thicks u (collapsed (suc l) u) (collapse_units (suc l) u) l spent q (collapses u (suc l) q rooting) f
        (λ p. omega (arith, p.0, length-append before (kid ∷ after), length-append before (kid' ∷ after)))

    root_ends : Ends u (collapsed (suc l) u) (collapse_units (suc l) u) (suc l) (record { number = 0; kids = before ++ (record { key = kid.key; sub = s } ∷ after) })
    root_ends = collapses u (suc l) (record { number = 0; kids = before ++ (record { key = kid.key; sub = s } ∷ after) }) rooting

    abbrev X : Two
    X = neighbours k (map (entry_of l) (before ++ (record { key = kid.key; sub = s } ∷ after)))

    -- both children go into node 0
    merge_top : (spent : ℕ) → spent ≤ room_at l → merging X u ≡ true
        → Tops ((2 ≤ length (before ++ (kid ∷ after))) × All (Strong 8 l) (before ++ (kid ∷ after))) u (collapsed (suc l) (leaves (settle l 0 X u))) (merge_units l X u) l spent
    merge_top spent sp e =
        go (before ++ (record { key = kid.key; sub = s } ∷ after)) rooting
        (sym (length-map (before ++ (record { key = kid.key; sub = s } ∷ after)) (entry_of l)) ∙ merging_two k (map (entry_of l) (before ++ (record { key = kid.key; sub = s } ∷ after))) u e) e
      where
        go : (ks : List (Kid (Shape l))) → Rooting u (suc l) (record { number = 0; kids = ks }) → length ks ≡ 2 → merging (neighbours k (map (entry_of l) ks)) u ≡ true
            → Tops ((2 ≤ length (before ++ (kid ∷ after))) × All (Strong 8 l) (before ++ (kid ∷ after))) u (collapsed (suc l) (leaves (settle l 0 (neighbours k (map (entry_of l) ks)) u))) (merge_units l (neighbours k (map (entry_of l) ks)) u) l spent
        go [] g n e = absurd (omega arith)
        go (a ∷ []) g n e = absurd (omega arith)
        go (a ∷ b ∷ []) g n e =
            let ia : entries_at u (number l a.sub) ≡ tops l a.sub = ap entries_of g.sub.1.1.0.0.is in
            let ib : entries_at u (number l b.sub) ≡ tops l b.sub = ap entries_of g.sub.1.1.1.0.0.is in
            let le : length (entries_at u (number l a.sub)) + length (entries_at u (number l b.sub)) ≤ 16
            = leb-true (length (entries_at u (number l a.sub)) + length (entries_at u (number l b.sub))) 16 e in
            let M = merged u l a b g (omega (arith, ap length ia, ap length ib)) in
            record { is = M.is; few = λ q. omega (arith, M.few, room_2 l q); thick = λ _. M.few; known = M.known; valid = M.valid; count = M.count }
        go (a ∷ b ∷ c ∷ ks) g n e = absurd (omega arith)

    -- a join among others, a move, or no neighbour
    settle_top : (spent : ℕ) → spent ≤ room_at l → Heirs l s → length_of l kid ≤ 1 + length_of l kid' → length_of l kid' < 8 → merging X u ≡ false
        → Tops ((2 ≤ length (before ++ (kid ∷ after))) × All (Strong 8 l) (before ++ (kid ∷ after))) u (collapsed (suc l) (leaves (settle l 0 X u))) (settle_units 0 X u ++ collapse_units (suc l) (leaves (settle l 0 X u))) l spent
    settle_top spent sp hs le thin e =
        let P : Shape (suc l) = record { number = 0; kids = before ++ (kid' ∷ after) } in
        let r = settle l 0 X u in
        let xs = settle_units 0 X u in
        let ys = collapse_units (suc l) (leaves r) in
        let onceU : (j : ℕ) → times j (nums (suc l) P) ≤ 1 = λ j. omega (arith, rooting.once j, there_le (at u j)) in
        let R : Repaired u r xs l 0 top 0 before kid' after = repaired u l 0 top 0 k kid' thin before after low high rooting.sub onceU in
        let Q : Shape (suc l) = record { number = 0; kids = R.kids } in
        let E = collapses (leaves r) (suc l) Q (record { root = refl; sub = R.becomes.sub; once = λ j. omega (arith, R.becomes.counts j, rooting.once j) }) in
        let N : length (map (entry_of l) (before ++ (kid' ∷ after))) ≡ length (before ++ (kid' ∷ after)) = length-map (before ++ (kid' ∷ after)) (entry_of l) in
        record {
          is = λ q. then xs ys u (leaves r) (collapsed (suc l) (leaves r)) R.units (E.units (omega arith));
          few = λ q. rw length-append
              (⊎_elim
              (λ (p : 1 < length (before ++ (kid' ∷ after))).
              let m : 2 ≤ length R.kids = many_left k l (length R.kids) (map (entry_of l) (before ++ (kid' ∷ after))) u e (omega arith) (omega (arith, R.less)) in
              omega (arith, E.quiet m, R.few, gap_most l, room_2 l q))
              (λ (p : length (before ++ (kid' ∷ after)) ≤ 1).
              let n1 : length (before ++ (kid' ∷ after)) ≡ 1 = omega (arith, length-append before (kid' ∷ after)) in
              let e₁ = R.alone n1 in
              let dp : Deep (suc l) Q = λ _. subst (λ (ks : List (Kid (Shape l))). All (λ (x : Kid (Shape l)). Heirs l x.sub) ks) (sym e₁) (more hs none) in
              omega (arith, E.deep dp, one_units k (map (entry_of l) (before ++ (kid' ∷ after))) u (N ∙ n1), room_2 l q))
              (below_or_not 1 (length (before ++ (kid' ∷ after)))));
          thick = λ p.
              let m : 2 ≤ length R.kids = many_left k l (length R.kids) (map (entry_of l) (before ++ (kid' ∷ after))) u e
              (omega (arith, p.0, N, length-append before (kid ∷ after), length-append before (kid' ∷ after))) (omega (arith, R.less)) in
              let strong : Strong 8 l kid = All-head (All-right before (kid ∷ after) p.1) in
              rw length-append (omega (arith, E.quiet m, R.thick (omega (arith, strong.0, least_8 l)) (All-left before (kid ∷ after) p.1)));
          count = λ q. rw (frees_append xs ys) (omega (arith, R.count, E.count (omega arith)));
          known = All-append R.known (All-map (λ x p. becomes_there (λ es. es) u (leaves r) (suc l) 0 top P Q R.becomes rooting.sub x.node p) E.known);
          valid = λ q ts. let v = R.valid ts in All-append v (E.valid (omega arith) (after_small xs u (leaves r) R.units v ts));
        }

  topped : (r : Down) (us : List U.Unit) → Thinned k t r us l kid.key (start_of top after) kid.sub
      → Tops ((2 ≤ length (before ++ (kid ∷ after))) × All (Strong 8 l) (before ++ (kid ∷ after))) (leaves r) (collapsed (suc l) (leaves (mend l 0 (number l kid.sub) k r))) (top_units l (number l kid.sub) k r) l (length us)
  topped (kept u) us g =
      let E = root_ends u g.shape g.becomes in
      quiet_top u g.shape g.becomes (length us) (λ q. omega (arith, g.few, E.few, room_2 l q))
  topped (lost u) us g =
      let s = g.shape in
      let x : Kid (Shape l) = record { key = kid.key; sub = g.shape } in
      let E = root_ends u s g.becomes in
      let sp : length us ≤ room_at l = omega (arith, g.few) in
      let Z = neighbours k (map (entry_of l) (before ++ (x ∷ after))) in
      let e : entries_at u (number l kid.sub) ≡ tops l s = ap (entries_at u) (sym g.becomes.same) ∙ ap entries_of g.becomes.sub.0.is in
      let e' : entries_at u 0 ≡ map (entry_of l) (before ++ (x ∷ after)) = ap entries_of (node_kept k t l 0 top 0 before kid after h once low high u s g.becomes) in
      rw (e, e')
      (⊎_elim
      (λ (q : length_of l x < 8). rw (lt-ltb (length_of l x) 8 q)
      (cases (merging Z u)
      (λ m. rw m (merge_top u s g.becomes (length us) sp m))
      (λ m. rw m (settle_top u s g.becomes (length us) sp (g.heir refl) g.less q m))))
      (λ (q : 8 ≤ length_of l x). rw (le-ltb (length_of l x) 8 q)
      (quiet_top u s g.becomes (length us) (λ b. omega (arith, sp, E.deep (deep_of u s g.becomes (λ _. g.heir refl)), room_2 l b))))
      (below_or_not (length_of l x) 8))

-- ---- from node 0
record Whole (P : Type 0) (k : ℕ) (t z : Table) (us : List U.Unit) : Type 0 where
  is : after_units us t ≡ z
  few : length us ≤ 57
  thick : P → length us ≤ 42
  known : Known t us
  valid : Smalls t → ValidUpdates us
  count : nodes z + frees us ≡ nodes t

module _ (k : ℕ) (t : Table) (hk : k < top) where
  whole_branch : (l : ℕ) (ks : List (Kid (Shape l))) (w : Under t l 0 top 0 k ks) → l ≤ 2 → ((j : ℕ) → times j (nums (suc l) (record { number = 0; kids = ks })) ≡ there (at t j))
      → Whole ((2 ≤ length ks) × All (Strong 8 l) ks) k t (collapsed (suc l) (leaves (delete_at (suc l) 0 k t))) (delete_units_from (suc l) k t)
  unfolding delete_at delete_units_from
  whole_branch l ks w b all =
      let c = number l w.kid.sub in
      let sub = under_sub t l 0 top 0 k ks w in
      let G : Thinned k t (delete_at l c k t) (delete_units_at l c k t) l w.kid.key (start_of top w.after) w.kid.sub
      = deletes k t l w.kid.key (start_of top w.after) w.kid.sub sub
      (λ j. omega (arith, all j, there_le (at t j), under_count t l 0 top 0 k ks w j)) w.low w.high in
      let r = delete_at l c k t in
      let us = delete_units_at l c k t in
      let vs = top_units l c k r in
      let T = topped k t l w.before w.kid w.after w.whole
      (subst (λ (xs : List (Kid (Shape l))). (j : ℕ) → times j (nums (suc l) (record { number = 0; kids = xs })) ≡ there (at t j)) w.is all) w.low w.high r us G in
      rw w.child
      (record {
        is = then us vs t (leaves r) (collapsed (suc l) (leaves (mend l 0 c k r))) G.units (T.is (omega arith));
        few = rw length-append (T.few b);
        thick = λ p.
            let ps : All (Strong 8 l) (w.before ++ (w.kid ∷ w.after)) = subst (λ (xs : List (Kid (Shape l))). All (Strong 8 l) xs) w.is p.1 in
            let two : 2 ≤ length (w.before ++ (w.kid ∷ w.after)) = subst (λ (xs : List (Kid (Shape l))). 2 ≤ length xs) w.is p.0 in
            let q = All-head (All-right w.before (w.kid ∷ w.after) ps) in
            rw length-append (omega (arith, T.thick (two, ps), G.thick (wide_strong 8 l w.kid.sub q.0) q.1));
        count = rw (frees_append us vs) (omega (arith, G.count, T.count (omega arith)));
        known = All-append G.known (All-map (λ x p. becomes_there (delete_entry k) t (leaves r) l w.kid.key (start_of top w.after) w.kid.sub G.shape G.becomes sub x.node p) T.known);
        valid = λ ts. let v = G.valid hk ts in All-append v (T.valid (omega arith) (after_small us t (leaves r) G.units v ts));
      })

  whole : (l : ℕ) (s : Shape l) → l ≤ 3 → Sub 16 t l 0 top s → number l s ≡ 0 → ((j : ℕ) → times j (nums l s) ≡ there (at t j))
      → Whole (Wide l s × Full 8 l s) k t (collapsed l (leaves (delete_at l 0 k t))) (delete_units_from l k t)
  unfolding delete_units_from
  whole zero s b h root all =
      let G : Thinned k t (delete_at 0 0 k t) (delete_units_at 0 0 k t) 0 0 top s
      = subst (λ (n : ℕ). Thinned k t (delete_at 0 n k t) (delete_units_at 0 n k t) 0 0 top s) root
      (deletes k t 0 0 top s h (λ j. omega (arith, all j, there_le (at t j))) (omega arith) hk) in
      record { is = G.units; few = omega (arith, G.few); thick = λ p. omega (arith, G.few); known = G.known; valid = λ ts. G.valid hk ts; count = G.count }
  whole (suc l) s b h root all =
      whole_branch l s.kids (at_root k t hk l s h root) (omega arith)
      (subst (λ (n : ℕ). (j : ℕ) → times j (nums (suc l) (record { number = n; kids = s.kids })) ≡ there (at t j)) root all)

-- a table keeps its length under units of its nodes
units_long : (us : List U.Unit) (t : Table) (n : ℕ) → length t ≡ n → All (λ (x : U.Unit). x.node < n) us → length (foldl touch_view t us) ≡ n
units_long [] t n e none = e
units_long (x ∷ us) t n e (more h hs) = units_long us (touch_view t x) n (put_length x.node (apply (at t x.node) x.update) t (omega arith) ∙ e) hs

pub after_long : (us : List U.Unit) (t : Table) → Known t us → length (after_units us t) ≡ length t
unfolding after_units
after_long us t h = units_long us t (length t) refl (All-map (λ x p. there_length t x.node p) h)

-- what the units of a delete make: the table, with as many nodes fewer as they free; at most 57 units, each of a node that is there
pub record DeleteMade (k : ℕ) (t : Table) (us : List U.Unit) (u : Table) : Type 0 where
  pub is : after_units us t ≡ u
  pub few : length us ≤ 57
  pub thick : Thick 8 t → length us ≤ 42
  pub known : All (λ (x : U.Unit). x.node < next t) us
  pub long : length u ≡ length t
  pub count : nodes u + frees us ≡ nodes t
  pub valid : Smalls t → ValidUpdates us
  pub small : Smalls t → Smalls u

pub delete_units_lem : (k : ℕ) (t : Table) → Tree t → k < top → root_level t ≤ 3 → DeleteMade k t (delete_units k t) (delete k t)
unfolding delete_units delete
delete_units_lem k t g h low =
    let T = shape_of t g in
    let e = level_at t T in
    let us = delete_units_from T.level k t in
    let u = collapsed T.level (leaves (delete_at T.level 0 k t)) in
    let W = whole k t h T.level T.shape (omega (arith, e)) T.sub T.root T.once in
    rw e (record {
      is = W.is;
      few = W.few;
      thick = λ p. W.thick (thick_wide 8 t T p, filled_full 8 t T p.nodes);
      known = All-map (λ x p. there_below t x.node p) W.known;
      long = ap length (sym W.is) ∙ after_long us t W.known;
      count = W.count;
      valid = W.valid;
      small = λ ts. after_small us t u W.is (W.valid ts) ts;
    })

-- they obey the layout, and so do the entries that they leave
pub delete_valid : (limit k : ℕ) (t : Table) → Tree t → Smalls t → k < top → root_level t ≤ 3 → next t ≤ limit → Valids limit (delete_units k t) (delete k t)
delete_valid limit k t g ts h low nx =
    let W = delete_units_lem k t g h low in
    record { units = valid_below (next t) limit nx W.known (W.valid ts); small = W.small ts }
