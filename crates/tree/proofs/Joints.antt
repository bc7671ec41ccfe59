-- What the code of a delete relies on, of a tree: the nodes on the way and their neighbours, and node 0 at the end. Assumes nothing.
use mathlib.Core.Path.{◌≡◌, refl, sym, ap, ◌∙◌, subst}
use mathlib.Core.Logic.{⊎_elim}
use mathlib.Core.List.{List, [], ◌∷◌, ◌++◌, map, append_assoc}
use Prim.Native.Nat.{ℕ, zero, suc, ◌<◌, ◌≤◌}
use native.Mathlib.Omega.{arith}
use lib.ListN.{length}
use borrow.Author.Tests.{lt-ltb, le-ltb}
use Rattle.lists.specs.Lists.{All}
use Rattle.lists.proofs.Alls.{All-map, All-zip, All-right}
use Rattle.lists.proofs.Flats.{map_append}
use Rattle.lists.proofs.Tests.{below_or_not}
use Rattle.pages.specs.declared.unit.Unit as U
use Rattle.pages.specs.Units.{Valid}
use Rattle.views.specs.Nodes.{Entry, freed, view, delete_entry}
use Rattle.tree.specs.Tree.{entries_of, there, Table, at, put, entries_at, root_level, child}
use Rattle.tree.specs.Step6.{top, times, Tree}
use Rattle.tree.specs.Delete.{Down, kept, lost, leaves, alone, two, neighbours, settle, mend, delete_at, collapsed, delete}
use Rattle.tree.specs.Units.{after_units}
use Rattle.tree.specs.DeleteUnits.{settle_units, mend_units, delete_units_at, over_units, top_units, delete_units_from, delete_units}
use Rattle.tree.specs.DeleteCode.{UnitsMake, Settling, Joint, DeleteWay, TakesOver, Collapsing, Topping}
use Rattle.tree.proofs.Entries.{Between, between_left}
use Rattle.tree.proofs.Tables.{next_length, put_there}
use Rattle.tree.proofs.Least.{there_length, put_length}
use Rattle.tree.proofs.Validity.{Smalls, ValidUpdates, after_small, valid_over}
use Rattle.tree.proofs.Shape.{Kid, Shape, number, entry_of, tops, nums, start_of, Kids, Sub, kids_right, there_le}
use Rattle.tree.proofs.Children.{Under, under, under_sub, under_count}
use Rattle.tree.proofs.Shaped.{level_at, top_at}
use Rattle.tree.proofs.Step6.{shape_of}
use Rattle.tree.proofs.UnitLaws.{after_none, after_append, then}
use Rattle.tree.proofs.Becomes.{Becomes}
use Rattle.tree.proofs.Pairs.{length_of, Known}
use Rattle.tree.proofs.Neighbours.{Pick, single, right, left, pick, Repaired, repaired}
use Rattle.tree.proofs.DeleteAt.{becomes_once, becomes_there, Thinned, swapped, node_kept, deletes}
use Rattle.tree.proofs.TakeOver.{renumber, Rooting, child_is, w, over_is, over_root, on_root, over_units_lem, over_known, over_child}
use Rattle.tree.proofs.DeleteLaws.{thinned, delete_keeps}
use Rattle.tree.proofs.DeleteUnits.{after_long, delete_units_lem, delete_valid}

-- ---- units of nodes that are there
known_valid : (limit : ℕ) (t : Table) {us : List U.Unit} → length t ≤ limit → Known t us → ValidUpdates us → All (Valid limit) us
known_valid limit t h k v = All-zip (λ x p q. record { node = omega (arith, there_length t x.node p); update = q }) k v

-- a kid as the table has it
at_kid : (l lo hi : ℕ) (u : Table) (s : Shape l) → Sub 16 u l lo hi s → at u (number l s) ≡ view l (entries_at u (number l s))
at_kid l lo hi u s h = h.0.is ∙ ap (view l) (sym (ap entries_of h.0.is))

two_first : (bs bs' ds ds' : List Entry) (a a' b b' : Entry) → two bs a b ds ≡ two bs' a' b' ds' → (a ≡ a') × (b ≡ b')
two_first bs bs' ds ds' a a' b b' e = (cc, cc)

not_alone : (bs ds : List Entry) (a b : Entry) → alone ≡ two bs a b ds → ⊥
not_alone bs ds a b e = let z : ◌≡◌ {A = ℕ} 0 1 = cc in omega arith

-- ---- the way to the leaf of k
module _ (limit k : ℕ) (t : Table) (ht : length t ≤ limit) (hk : k < top) (ts : Smalls t) where
  -- both neighbours are nodes of level l
  abbrev Both : (l : ℕ) → Table → Entry → Entry → Type 0
  Both l u a b = (at u a.value ≡ view l (entries_at u a.value)) × (at u b.value ≡ view l (entries_at u b.value))

  -- node n with the kid on the way, after the kid's delete
  module _ (l lo hi n : ℕ) (before : List (Kid (Shape l))) (kid : Kid (Shape l)) (after : List (Kid (Shape l)))
      (h : Sub 16 t (suc l) lo hi (record { number = n; kids = before ++ (kid ∷ after) }))
      (once : (j : ℕ) → times j (nums (suc l) (record { number = n; kids = before ++ (kid ∷ after) })) ≤ 1) (low : kid.key ≤ k) (high : k < start_of hi after)
      (us : List U.Unit) (g : Thinned k t (delete_at l (number l kid.sub) k t) us l kid.key (start_of hi after) kid.sub) where
    abbrev u : Table
    u = leaves (delete_at l (number l kid.sub) k t)

    abbrev x : Kid (Shape l)
    x = record { key = kid.key; sub = g.shape }

    abbrev olds : Shape (suc l)
    olds = record { number = n; kids = before ++ (kid ∷ after) }

    abbrev news : Shape (suc l)
    news = record { number = n; kids = before ++ (record { key = kid.key; sub = g.shape } ∷ after) }

    changed : Becomes (delete_entry k) t (leaves (delete_at l (number l kid.sub) k t)) (suc l) lo hi
        (record { number = n; kids = before ++ (kid ∷ after) }) (record { number = n; kids = before ++ (record { key = kid.key; sub = g.shape } ∷ after) })
    changed = swapped k t l lo hi n before kid after h once low high u g.shape g.becomes

    once_u : (j : ℕ) → times j (nums (suc l) (record { number = n; kids = before ++ (record { key = kid.key; sub = g.shape } ∷ after) })) ≤ 1
    once_u = becomes_once (delete_entry k) t u (suc l) lo hi olds news changed h once

    tops_u : entries_at (leaves (delete_at l (number l kid.sub) k t)) n ≡ map (entry_of l) (before ++ (record { key = kid.key; sub = g.shape } ∷ after))
    tops_u = ap entries_of (node_kept k t l lo hi n before kid after h once low high u g.shape g.becomes)

    -- the kids from x on
    kids_x : Kids (Sub 16 (leaves (delete_at l (number l kid.sub) k t)) l) hi (record { key = kid.key; sub = g.shape } ∷ after)
    kids_x = kids_right (Sub 16 u l) hi before (x ∷ after) changed.sub.1.1

    at_x : at (leaves (delete_at l (number l kid.sub) k t)) (number l g.shape) ≡ view l (entries_at (leaves (delete_at l (number l kid.sub) k t)) (number l g.shape))
    at_x = at_kid l kid.key (start_of hi after) u g.shape g.becomes.sub

    both_at : (p : Pick l k before (record { key = kid.key; sub = g.shape }) after) (bs : List Entry) (a b : Entry) (ds : List Entry)
        → neighbours k (map (entry_of l) (before ++ (record { key = kid.key; sub = g.shape } ∷ after))) ≡ two bs a b ds → Both l (leaves (delete_at l (number l kid.sub) k t)) a b
    both_at (single p q e) bs a b ds z = absurd (not_alone bs ds a b (sym e ∙ z))
    both_at (right y ys p e) bs a b ds z =
        let r = two_first (map (entry_of l) before) bs (map (entry_of l) ys) ds (entry_of l x) a (entry_of l y) b (sym e ∙ z) in
        let ks : Kids (Sub 16 u l) hi (x ∷ y ∷ ys) = subst (λ (zs : List (Kid (Shape l))). Kids (Sub 16 u l) hi (x ∷ zs)) p kids_x in
        subst (λ (c : Entry). Both l u c b) r.0 (subst (λ (c : Entry). Both l u (entry_of l x) c) r.1 (at_x, at_kid l y.key (start_of hi ys) u y.sub ks.1.0))
    both_at (left cs y p q e) bs a b ds z =
        let r = two_first (map (entry_of l) cs) bs [] ds (entry_of l y) a (entry_of l x) b (sym e ∙ z) in
        let s : before ++ (x ∷ after) ≡ cs ++ (y ∷ x ∷ after) = ap (λ (zs : List (Kid (Shape l))). zs ++ (x ∷ after)) p ∙ append_assoc cs (y ∷ []) (x ∷ after) in
        let ks : Kids (Sub 16 u l) hi (y ∷ x ∷ after)
        = kids_right (Sub 16 u l) hi cs (y ∷ x ∷ after) (subst (λ (zs : List (Kid (Shape l))). Kids (Sub 16 u l) hi zs) s changed.sub.1.1) in
        subst (λ (c : Entry). Both l u c b) r.0 (subst (λ (c : Entry). Both l u (entry_of l y) c) r.1 (at_kid l y.key kid.key u y.sub ks.0, at_x))

    picked : Pick l k before (record { key = kid.key; sub = g.shape }) after
    picked =
        let b : Between lo hi (map (entry_of l) before ++ (entry_of l x ∷ map (entry_of l) after)) = rw map_append at changed.sub.0.keys in
        pick l k lo hi before x after (between_left lo hi (map (entry_of l) before) (entry_of l x ∷ map (entry_of l) after) b) low high

    small_u : Smalls (leaves (delete_at l (number l kid.sub) k t))
    small_u = after_small us t u g.units (g.valid hk ts) ts

    settling : length (entries_at (leaves (delete_at l (number l kid.sub) k t)) (number l kid.sub)) < 8 → Settling limit l n k (leaves (delete_at l (number l kid.sub) k t))
    settling q =
        let thin : length_of l x < 8 = omega (arith, ap length (ap (entries_at u) (sym g.becomes.same) ∙ ap entries_of g.becomes.sub.0.is)) in
        let zs = map (entry_of l) (before ++ (x ∷ after)) in
        let R : Repaired u (settle l n (neighbours k zs) u) (settle_units n (neighbours k zs) u) l lo hi n before x after
        = repaired u l lo hi n k x thin before after low high changed.sub once_u in
        let M : UnitsMake limit u (settle_units n (neighbours k zs) u) (leaves (settle l n (neighbours k zs) u)) = record {
          after = R.units;
          valid = known_valid limit t ht (All-map (λ z p. becomes_there (delete_entry k) t u (suc l) lo hi olds news changed h z.node p) R.known) (R.valid small_u);
        } in
        record {
          node = at_kid (suc l) lo hi u news changed.sub;
          left = λ bs a b ds z. (both_at picked bs a b ds (ap (neighbours k) (sym tops_u) ∙ z)).0;
          right = λ bs a b ds z. (both_at picked bs a b ds (ap (neighbours k) (sym tops_u) ∙ z)).1;
          makes = subst (λ (es : List Entry). UnitsMake limit u (settle_units n (neighbours k es) u) (leaves (settle l n (neighbours k es) u))) (sym tops_u) M;
        }

    joint : Joint limit l n (number l kid.sub) k t (leaves (delete_at l (number l kid.sub) k t))
    joint =
        let back : map (entry_of l) (before ++ (x ∷ after)) ≡ map (entry_of l) (before ++ (kid ∷ after))
        = rw (map_append (entry_of l) before (x ∷ after), map_append (entry_of l) before (kid ∷ after), g.becomes.same) in
        record { same = tops_u ∙ back ∙ sym (ap entries_of h.0.is); settling = settling }

  way_sub : (l lo hi : ℕ) (s : Shape l) → Sub 16 t l lo hi s → ((j : ℕ) → times j (nums l s) ≤ 1) → lo ≤ k → k < hi → DeleteWay limit l (number l s) k t
  way_sub zero lo hi s h once low high =
      let G = deletes k t 0 lo hi s h once low high in
      (ap there h.0.is, record { after = G.units; valid = known_valid limit t ht G.known (G.valid hk ts) })
  way_sub (suc l) lo hi s h once low high = step (under t l lo hi s.number k s.kids h low high) (λ a b x. way_sub l a b x)
    where
      step : (w : Under t l lo hi s.number k s.kids)
          → ((a b : ℕ) (x : Shape l) → Sub 16 t l a b x → ((j : ℕ) → times j (nums l x) ≤ 1) → a ≤ k → k < b → DeleteWay limit l (number l x) k t)
          → DeleteWay limit (suc l) s.number k t
      step w ih =
          let sub = under_sub t l lo hi s.number k s.kids w in
          let o : (j : ℕ) → times j (nums l w.kid.sub) ≤ 1 = λ j. omega (arith, once j, under_count t l lo hi s.number k s.kids w j) in
          let c = number l w.kid.sub in
          rw w.child (
            joint l lo hi s.number w.before w.kid w.after w.whole
                (subst (λ (xs : List (Kid (Shape l))). (j : ℕ) → times j (nums (suc l) (record { number = s.number; kids = xs })) ≤ 1) w.is once)
                w.low w.high (delete_units_at l c k t) (deletes k t l w.kid.key (start_of hi w.after) w.kid.sub sub o w.low w.high),
            ih w.kid.key (start_of hi w.after) w.kid.sub sub o w.low w.high,
          )

-- the units of a delete under a node make its table
mend_after : (limit l n c k : ℕ) (d : Down) → (length (entries_at (leaves d) c) < 8 → Settling limit l n k (leaves d))
    → after_units (mend_units n c k d) (leaves d) ≡ leaves (mend l n c k d)
mend_after limit l n c k (kept t) S = after_none t
mend_after limit l n c k (lost t) S =
    ⊎_elim
    (λ (q : length (entries_at t c) < 8). rw (lt-ltb (length (entries_at t c)) 8 q) (S q).makes.after)
    (λ (q : 8 ≤ length (entries_at t c)). rw (le-ltb (length (entries_at t c)) 8 q) (after_none t))
    (below_or_not (length (entries_at t c)) 8)

way_after : (limit l n k : ℕ) (t : Table) → DeleteWay limit l n k t → after_units (delete_units_at l n k t) t ≡ leaves (delete_at l n k t)
unfolding delete_at delete_units_at
way_after limit zero n k t w = w.1.after
way_after limit (suc l) n k t w =
    let c = child t n k in
    let d = delete_at l c k t in
    then (delete_units_at l c k t) (mend_units n c k d) t (leaves d) (leaves (mend l n c k d)) (way_after limit l c k t w.1) (mend_after limit l n c k d w.0.settling)

-- ---- node 0 that takes over its only child
collapsing : (limit l : ℕ) (t : Table) (s : Shape l) → Rooting t l s → l ≤ 4 → Smalls t → length t ≤ limit → Collapsing limit l t
collapsing limit zero t s g h ts ht = tt
collapsing limit (suc l) t s g h ts ht = step s.number s.kids g (λ u x. collapsing limit l u x)
  where
    step : (m : ℕ) (ks : List (Kid (Shape l))) → Rooting t (suc l) (record { number = m; kids = ks })
        → ((u : Table) (x : Shape l) → Rooting u l x → l ≤ 4 → Smalls u → length u ≤ limit → Collapsing limit l u) → Collapsing limit (suc l) t
    step m [] g ih = absurd g.sub.1.0
    step m (x ∷ []) g ih =
        let c = number l x.sub in
        let made = over_units_lem t l m x g (omega arith) in
        let v = valid_over l c t (omega arith) ts in
        let O : TakesOver limit l (number l x.sub) t = record {
          root = on_root t l m x g;
          child = child_is t l m x g ∙ ap (view l) (sym (ap entries_of (child_is t l m x g)));
          makes = record { after = made ∙ sym (over_is t l m x g); valid = known_valid limit t ht (over_known t l m x g) v };
        } in
        let long : length (w t l m x g) ≡ length t
        = put_length c freed (put 0 (view l (tops l x.sub)) t)
        (omega (arith, there_length t c (ap there (child_is t l m x g)), put_there 0 (view l (tops l x.sub)) t (on_root t l m x g)))
        ∙ put_there 0 (view l (tops l x.sub)) t (on_root t l m x g) in
        λ _. rw (over_child t l m x g, over_is t l m x g)
        (O, ih (w t l m x g) (renumber l 0 x.sub) (over_root t l m x g) (omega arith) (after_small (over_units l c t) t (w t l m x g) made v ts) (omega arith))
    step m (x ∷ y ∷ ks) g ih =
        λ e. absurd (omega (arith, ap length (ap (entries_at t) (sym g.root) ∙ ap entries_of g.sub.0.is)))

-- ---- a delete
pub record Planned (limit k : ℕ) (t : Table) : Type 0 where
  pub way : DeleteWay limit (root_level t) 0 k t
  pub topping : (l : ℕ) → root_level t ≡ suc l → Topping limit l (child t 0 k) k (delete_at l (child t 0 k) k t)
  pub few : length (delete_units k t) ≤ 57

module _ (limit k : ℕ) (t : Table) (g : Tree t) (ts : Smalls t) (hk : k < top) (low : root_level t ≤ 3) (ht : length t ≤ limit) where
  way : DeleteWay limit (root_level t) 0 k t
  way =
      let T = shape_of t g in
      rw (level_at t T)
      (subst (λ (n : ℕ). DeleteWay limit T.level n k t) T.root
      (way_sub limit k t ht hk ts T.level 0 top T.shape T.sub (λ j. omega (arith, T.once j, there_le (at t j))) (omega arith) hk))

  collapsing_end : Collapsing limit (root_level t) (leaves (delete_at (root_level t) 0 k t))
  collapsing_end =
      let T = shape_of t g in
      let G = thinned k t T hk in
      let u = leaves (delete_at T.level 0 k t) in
      rw (level_at t T)
      (collapsing limit T.level u G.shape (record { root = G.becomes.same ∙ T.root; sub = G.becomes.sub; once = λ j. omega (arith, G.becomes.counts j, T.once j) })
      (omega (arith, level_at t T)) (after_small (delete_units_at T.level 0 k t) t u G.units (G.valid hk ts) ts)
      (omega (arith, ap length (sym G.units), after_long (delete_units_at T.level 0 k t) t G.known)))

  topping : (l : ℕ) → root_level t ≡ suc l → Topping limit l (child t 0 k) k (delete_at l (child t 0 k) k t)
  unfolding delete_at delete_units delete_units_from delete
  topping l e =
      let c = child t 0 k in
      let d = delete_at l (child t 0 k) k t in
      let xs = delete_units_at l (child t 0 k) k t in
      let ys = top_units l (child t 0 k) k (delete_at l (child t 0 k) k t) in
      let z = collapsed (suc l) (leaves (mend l 0 c k d)) in
      let W : DeleteWay limit (suc l) 0 k t = subst (λ (i : ℕ). DeleteWay limit i 0 k t) e way in
      let ez : delete k t ≡ z = rw e refl in
      let eu : delete_units k t ≡ xs ++ ys = rw e refl in
      let made : after_units (xs ++ ys) t ≡ z = subst (λ (us : List U.Unit). after_units us t ≡ z) eu ((delete_units_lem k t g hk low).is ∙ ez) in
      let sure : All (Valid limit) (xs ++ ys)
      = subst (λ (us : List U.Unit). All (Valid limit) us) eu (delete_valid limit k t g ts hk low (omega (arith, next_length t))).units in
      record {
        settling = W.0.settling;
        collapsing = subst (λ (i : ℕ). Collapsing limit i (leaves (delete_at i 0 k t))) e collapsing_end;
        root = subst (λ (w : Table). there (at w 0) ≡ 1) ez (ap there (top_at (delete k t) (shape_of (delete k t) (delete_keeps k t g hk).tree)));
        makes = record {
          after = ap (after_units ys) (sym (way_after limit l c k t W.1)) ∙ sym (after_append xs ys t) ∙ made;
          valid = All-right xs ys sure;
        };
      }

  pub planned : Planned limit k t
  planned = record { way = way; topping = topping; few = (delete_units_lem k t g hk low).few }
