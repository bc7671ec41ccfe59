-- An insert from node 0 that takes the least numbers. Assumes nothing.
use mathlib.Core.Path.{◌≡◌, refl, sym, ap, ◌∙◌, subst}
use mathlib.Core.Logic.{⊎_elim}
use mathlib.Core.List.{List, [], ◌∷◌, ◌++◌, append-nil}
use Prim.Native.Nat.{ℕ, zero, suc, ◌+◌, ◌-◌, ◌<◌, ◌≤◌}
use native.Mathlib.Omega.{arith}
use lib.ListN.{length, take, drop, length-take, length-drop}
use borrow.Author.Tests.{le-leb, lt-leb}
use Rattle.lists.specs.Lists.{none, more}
use Rattle.lists.proofs.Tests.{below_or_not}
use Rattle.views.specs.Nodes.{Entry, entry, view, insert_entry}
use Rattle.views.proofs.Entries.{insert_most}
use Rattle.tree.specs.Tree.{entries_of, there, Table, at, put, entries_at, child, first_key, least, least2}
use Rattle.tree.specs.Step6.{top, times}
use Rattle.tree.specs.Insert.{Up, stop, gains, table_of, raise, fit_or_split, gain, pass, insert_at}
use Rattle.tree.specs.Thick.{least_of}
use Rattle.tree.proofs.Entries.{LeafStep, insert_step}
use Rattle.tree.proofs.Tables.{hit, at_same, at_other, there_new, there_old}
use Rattle.tree.proofs.Shape.{Leaf, Kid, Shape, number, tops, rest, nums, recs, start_of, Sub, times_append, hit_same, hit_other, hit_zero, Agree, there_le}
use Rattle.tree.proofs.Children.{Over, holds_sub, leaf_over, joined_over, joined_records, joined_counts, stopped_sub, gained_tops, gained_size, Under, under_sub, under_count}
use Rattle.tree.proofs.Shaped.{Shaped, at_root}
use Rattle.tree.proofs.Parts.{lower_s, upper_s, lower_number, upper_number, lower_tops, upper_tops, cut_recs, cut_rest, Cut, cut}
use Rattle.tree.proofs.Full.{Full, Wide, least_most, full_lower, full_upper}
use Rattle.tree.proofs.Least.{least_free, least2_free}
use Rattle.tree.proofs.InsertAt.{Risen, strong_all, more_kids, inserts}

-- the table has a shape with the records of s, and is not thin where s is not
pub record RootRisen (u : Table) (l : ℕ) (s : Shape l) : Type 0 where
  pub tree : Shaped u
  pub is : recs tree.level tree.shape ≡ recs l s
  pub wide : Wide l s → Wide tree.level tree.shape
  pub full : (c : ℕ) → c ≤ 8 → Full c l s → Full c tree.level tree.shape

module _ (t : Table) (l : ℕ) (s : Shape l) (o : Over t l 0 top s) (root : number l s ≡ 0) (once : (j : ℕ) → times j (nums l s) ≡ there (at t j)) where
  root_fits : length (tops l s) ≤ 16 → RootRisen (put 0 (view l (tops l s)) t) l s
  root_fits le = record {
    tree = record {
      level = l;
      shape = s;
      root = root;
      sub = subst (λ (n : ℕ). Sub 16 (put n (view l (tops l s)) t) l 0 top s) root (holds_sub t l 0 top s o le);
      once = λ j. once j ∙ sym (there_old 0 j l (tops l s) t (ap (λ (n : ℕ). there (at t n)) (sym root) ∙ o.stands));
    };
    is = refl;
    wide = λ w. w;
    full = λ c c8 f. f;
  }

  root_splits : (m i : ℕ) → there (at t m) ≡ 0 → there (at t i) ≡ 0 → hit m i ≡ 0 → 16 < length (tops l s) → length (tops l s) ≤ 17 → RootRisen (raise l m i (tops l s) t) l s
  unfolding raise
  root_splits m i pm pi mi gt le =
      let es = tops l s in
      let mid = first_key 0 (drop 9 es) in
      let w₁ = put m (view l (take 9 es)) t in
      let w₂ = put i (view l (drop 9 es)) w₁ in
      let es' = entry 0 m ∷ entry mid i ∷ [] in
      let w = put 0 (view (suc l) es') w₂ in
      let p₀ : there (at t 0) ≡ 1 = ap (λ (n : ℕ). there (at t n)) (sym root) ∙ o.stands in
      let p₁ : (j : ℕ) → there (at w₁ j) ≡ there (at t j) + hit m j = λ j. there_new m j l (take 9 es) t pm in
      let p₂ : (j : ℕ) → there (at w₂ j) ≡ there (at w₁ j) + hit i j = λ j. there_new i j l (drop 9 es) w₁ (omega (arith, p₁ i)) in
      let mo : (m ≡ i → ⊥) = hit_zero m i mi in
      let nm : (0 ≡ m → ⊥) = λ e. omega (arith, ap (λ (j : ℕ). there (at t j)) e) in
      let ni : (0 ≡ i → ⊥) = λ e. omega (arith, ap (λ (j : ℕ). there (at t j)) e) in
      let p : (j : ℕ) → there (at w j) ≡ there (at w₂ j)
      = λ j. there_old 0 j (suc l) es' w₂ (omega (arith, p₁ 0, p₂ 0, hit_other m 0 (λ e. nm (sym e)), hit_other i 0 (λ e. ni (sym e)))) in
      let agree : Agree t w (rest l s)
      = λ j q. at_other 0 j (view (suc l) es') w₂ (λ e. omega (arith, once j, there_le (at t j), hit_same (number l s) j (root ∙ e)))
      ∙ at_other i j (view l (drop 9 es)) w₁ (λ e. omega (arith, once j, ap (λ (j : ℕ). there (at t j)) e))
      ∙ at_other m j (view l (take 9 es)) t (λ e. omega (arith, once j, ap (λ (j : ℕ). there (at t j)) e)) in
      let H : Cut w l 0 top 9 m i mid s
      = cut t w l 0 top 9 m i s (omega arith) (omega arith) (omega arith) (omega arith) o.keys o.inner
      (at_other 0 m (view (suc l) es') w₂ nm ∙ at_other i m (view l (drop 9 es)) w₁ (λ e. mo (sym e)) ∙ at_same m (view l (take 9 es)) t)
      (at_other 0 i (view (suc l) es') w₂ ni ∙ at_same i (view l (drop 9 es)) w₁)
      agree in
      let a : Kid (Shape l) = record { key = 0; sub = lower_s l 9 m s } in
      let b : Kid (Shape l) = record { key = mid; sub = upper_s l 9 i s } in
      record {
        tree = record {
          level = suc l;
          shape = record { number = 0; kids = a ∷ b ∷ [] };
          root = refl;
          sub = (
            record {
              is = at_same 0 (view (suc l) es') w₂ ∙ rw (lower_number, upper_number);
              keys = (omega arith, (H.over, H.under));
              size = omega arith;
            },
            (refl, (H.left, (H.right, tt))),
          );
          once = λ j.
              omega (
                arith,
                once j,
                p j,
                p₁ j,
                p₂ j,
                cut_rest l 9 m i j s,
                ap (λ (n : ℕ). hit n j) (lower_number l 9 m s),
                ap (λ (n : ℕ). hit n j) (upper_number l 9 i s),
                ap (λ (n : ℕ). hit n j) root,
                times_append j (nums l (lower_s l 9 m s)) (nums l (upper_s l 9 i s) ++ []),
                times_append j (nums l (upper_s l 9 i s)) [],
              );
        };
        is = rw append-nil (cut_recs l 9 m i s);
        wide = λ _. omega arith;
        full = λ c c8 f.
            let la : length (tops l (lower_s l 9 m s)) ≡ 9 = ap length (lower_tops l 9 m s) ∙ length-take 9 es ∙ omega arith in
            let lb : length (tops l (upper_s l 9 i s)) ≡ length es - 9 = ap length (upper_tops l 9 i s) ∙ length-drop 9 es in
            let pa : least_of c l ≤ length (tops l (lower_s l 9 m s)) = omega (arith, least_most c l c8) in
            let pb : least_of c l ≤ length (tops l (upper_s l 9 i s)) = omega (arith, least_most c l c8) in
            more (pa, full_lower c l 9 m s f) (more (pb, full_upper c l 9 i s f) none);
      }

  pub root_holds : length (tops l s) ≤ 17 → RootRisen (table_of (fit_or_split l 0 (tops l s) t)) l s
  unfolding fit_or_split
  root_holds le =
      ⊎_elim
      (λ (q : 16 < length (tops l s)). rw (lt-leb (length (tops l s)) 16 q) (root_splits (least t) (least2 t) (least_free t) (least2_free t).0 (least2_free t).1 q le))
      (λ (q : length (tops l s) ≤ 16). rw (le-leb (length (tops l s)) 16 q) (root_fits q))
      (below_or_not 16 (length (tops l s)))

-- told of the shape before
pub record RootIn (f : List Entry → List Entry) (u : Table) (l : ℕ) (s : Shape l) : Type 0 where
  pub tree : Shaped u
  pub is : recs tree.level tree.shape ≡ f (recs l s)
  pub wide : Wide l s → Wide tree.level tree.shape
  pub full : (c : ℕ) → c ≤ 8 → Full c l s → Full c tree.level tree.shape

root_leaf : (k v : ℕ) (t : Table) (s : Leaf) → Sub 16 t 0 0 top s → s.number ≡ 0 → ((j : ℕ) → times j (nums 0 s) ≡ there (at t j)) → k < top
    → RootIn (insert_entry k v) (table_of (gain 0 0 k v t)) 0 s
unfolding gain
root_leaf k v t s h root once high =
    let es = insert_entry k v s.entries in
    let e : entries_at t 0 ≡ s.entries = ap (entries_at t) (sym root) ∙ ap entries_of h.0.is in
    let R = root_holds t 0 (record { number = s.number; entries = es })
    (leaf_over t 0 top s es h ((insert_step k v).keeps 0 top s.entries (omega arith) high h.0.keys) (omega arith))
    root once (omega (arith, insert_most k v s.entries, h.0.size)) in
    rw e (record { tree = R.tree; is = R.is; wide = λ w. R.wide tt; full = λ c c8 f. R.full c c8 tt })

module _ (k : ℕ) (t : Table) (l : ℕ) (ks : List (Kid (Shape l))) (w : Under t l 0 top 0 k ks) (once : (j : ℕ) → times j (nums (suc l) (record { number = 0; kids = ks })) ≡ there (at t j))
    (f : List Entry → List Entry) (st : LeafStep k f) where
  whole_once : (j : ℕ) → times j (nums (suc l) (record { number = 0; kids = w.before ++ (w.kid ∷ w.after) })) ≡ there (at t j)
  whole_once = subst (λ (xs : List (Kid (Shape l))). (j : ℕ) → times j (nums (suc l) (record { number = 0; kids = xs })) ≡ there (at t j)) w.is once

  whole_le : (j : ℕ) → times j (nums (suc l) (record { number = 0; kids = w.before ++ (w.kid ∷ w.after) })) ≤ 1
  whole_le j = omega (arith, whole_once j, there_le (at t j))

  module _ (r : Up) (g : Risen f t r l w.kid.key (start_of top w.after) w.kid.sub) where
    told : (u : Table) → RootRisen u (suc l) (record { number = 0; kids = w.before ++ (g.grown.mids ++ w.after) }) → RootIn f u (suc l) (record { number = 0; kids = ks })
    told u R =
        subst (λ (xs : List (Kid (Shape l))). RootIn f u (suc l) (record { number = 0; kids = xs })) (sym w.is)
        (record {
          tree = R.tree;
          is = R.is ∙ joined_records k f st t l 0 top 0 w.before w.kid w.after w.whole whole_le w.low w.high r g.grown;
          wide = λ q. R.wide (omega (arith, more_kids k f st t l 0 top 0 w.before w.kid w.after w.whole whole_le w.low w.high r g));
          full = λ c c8 a. R.full c c8 (strong_all k f st t l 0 top 0 w.before w.kid w.after w.whole whole_le w.low w.high r g c c8 a);
        })

    now_once : (j : ℕ) → times j (nums (suc l) (record { number = 0; kids = w.before ++ (g.grown.mids ++ w.after) })) ≡ there (at (table_of r) j)
    now_once j = omega (arith, whole_once j, joined_counts k f st t l 0 top 0 w.before w.kid w.after w.whole whole_le w.low w.high r g.grown j)

  root_branch : (r : Up) (g : Risen f t r l w.kid.key (start_of top w.after) w.kid.sub) → RootIn f (table_of (pass (suc l) 0 r)) (suc l) (record { number = 0; kids = ks })
  unfolding gain
  root_branch (stop u) g =
      told (stop u) g u
      (record {
        tree = record {
          level = suc l;
          shape = record { number = 0; kids = w.before ++ (g.grown.mids ++ w.after) };
          root = refl;
          sub = stopped_sub k f st t l 0 top 0 w.before w.kid w.after w.whole whole_le w.low w.high (stop u) g.grown g.grown.tops;
          once = now_once (stop u) g;
        };
        is = refl;
        wide = λ q. q;
        full = λ c c8 a. a;
      })
  root_branch (gains k' m u) g =
      let r = gains k' m u in
      let x : Shape (suc l) = record { number = 0; kids = w.before ++ (g.grown.mids ++ w.after) } in
      let g₁ = g.grown.order.1.0 in
      let g₂ = g.grown.order.1.1 in
      rw (gained_tops k f st t l 0 top 0 w.before w.kid w.after w.whole whole_le w.low w.high r g.grown k' m g.grown.tops g₁ g₂)
      (told r g (table_of (fit_or_split (suc l) 0 (tops (suc l) x) u))
      (root_holds u (suc l) x
      (joined_over k f st t l 0 top 0 w.before w.kid w.after w.whole whole_le w.low w.high r g.grown)
      refl (now_once r g)
      (gained_size k f st t l 0 top 0 w.before w.kid w.after w.whole whole_le w.low w.high r g.grown k' m g.grown.tops g₁ g₂)))

root_insert : (k v : ℕ) (t : Table) (l : ℕ) (ks : List (Kid (Shape l))) (w : Under t l 0 top 0 k ks) → ((j : ℕ) → times j (nums (suc l) (record { number = 0; kids = ks })) ≡ there (at t j))
    → RootIn (insert_entry k v) (table_of (pass (suc l) 0 (insert_at l (child t 0 k) k v t))) (suc l) (record { number = 0; kids = ks })
root_insert k v t l ks w once =
    let o : (j : ℕ) → times j (nums (suc l) (record { number = 0; kids = ks })) ≤ 1 = λ j. omega (arith, once j, there_le (at t j)) in
    rw w.child
    (root_branch k t l ks w once (insert_entry k v) (insert_step k v) (insert_at l (number l w.kid.sub) k v t)
    (inserts k v t l w.kid.key (start_of top w.after) w.kid.sub (under_sub t l 0 top 0 k ks w)
    (λ j. omega (arith, o j, under_count t l 0 top 0 k ks w j))
    (omega (arith, o 0, hit_same 0 0 refl, under_count t l 0 top 0 k ks w 0)) w.low w.high))

pub insert_root : (k v : ℕ) (t : Table) → k < top → (l : ℕ) (s : Shape l) → Sub 16 t l 0 top s → number l s ≡ 0 → ((j : ℕ) → times j (nums l s) ≡ there (at t j))
    → RootIn (insert_entry k v) (table_of (insert_at l 0 k v t)) l s
unfolding insert_at
insert_root k v t high zero s h root once = root_leaf k v t s h root once high
insert_root k v t high (suc l) s h root once =
    let e : (j : ℕ) → times j (nums (suc l) (record { number = 0; kids = s.kids })) ≡ there (at t j)
    = subst (λ (n : ℕ). (j : ℕ) → times j (nums (suc l) (record { number = n; kids = s.kids })) ≡ there (at t j)) root once in
    let R = root_insert k v t l s.kids (at_root k t high l s h root) e in
    record { tree = R.tree; is = R.is; wide = R.wide; full = R.full }
