-- An insert under a node that takes the least numbers: what it keeps. Assumes nothing.
use mathlib.Core.Path.{◌≡◌, refl, sym, ap, ◌∙◌, subst}
use mathlib.Core.Logic.{⊎_elim}
use mathlib.Core.List.{List, [], ◌∷◌, ◌++◌, map, append-nil}
use Prim.Native.Nat.{ℕ, zero, suc, ◌+◌, ◌-◌, ◌<◌, ◌≤◌}
use native.Mathlib.Omega.{arith}
use lib.ListN.{length, take, drop, length-append, length-map, length-take, length-drop}
use borrow.Author.Tests.{ne_eqb, le-leb, lt-leb}
use Rattle.lists.specs.Lists.{All, none, more}
use Rattle.lists.proofs.Alls.{All-append, All-left, All-right, All-head, All-tail}
use Rattle.lists.proofs.Tests.{below_or_not}
use Rattle.views.specs.Nodes.{Entry, entry, view, insert_entry}
use Rattle.views.proofs.Entries.{insert_most}
use Rattle.tree.specs.Tree.{entries_of, there, Table, at, put, entries_at, child, first_key, least}
use Rattle.tree.specs.Step6.{times}
use Rattle.tree.specs.Insert.{Up, stop, gains, table_of, halve, fit_or_split, gain, pass, insert_at}
use Rattle.tree.specs.Thick.{least_of}
use Rattle.tree.proofs.Entries.{LeafStep, insert_step, insert_least}
use Rattle.tree.proofs.Tables.{hit, at_same, at_other, there_new, there_old}
use Rattle.tree.proofs.Shape.{Leaf, Kid, Shape, number, entry_of, tops, rest, nums, recs, nums_of, start_of, Sub, times_append, hit_zero, inner_out}
use Rattle.tree.proofs.Children.{same, Over, Grown, holds_sub, joined_over, joined_records, joined_counts, stopped_sub, gained_tops, gained_size, nums_of_three, leaf_over, Under, under, under_sub, under_count, under_once}
use Rattle.tree.proofs.Parts.{lower_s, upper_s, lower_number, upper_number, lower_tops, upper_tops, cut_recs, cut_rest, Cut, cut, starts_some}
use Rattle.tree.proofs.Full.{Full, Strong, least_most, full_lower, full_upper}
use Rattle.tree.proofs.Least.{least_free}

pub record Risen (f : List Entry → List Entry) (t : Table) (r : Up) (l lo hi : ℕ) (s : Shape l) : Type 0 where
  pub grown : Grown f t r l lo hi s
  pub strong : (c : ℕ) → c ≤ 8 → least_of c l ≤ length (tops l s) → Full c l s → All (Strong c l) grown.mids

-- a shape that stands
pub single : (t u : Table) (l lo hi : ℕ) (s : Shape l) → lo < hi → Sub 16 u l lo hi s → ((j : ℕ) → there (at u j) ≡ there (at t j)) → ((j : ℕ) → (number l s ≡ j → ⊥) → at u j ≡ at t j)
    → Risen same t (stop u) l lo hi s
single t u l lo hi s lt h p fr =
    let x : Kid (Shape l) = record { key = lo; sub = s } in
    let c : (j : ℕ) → times j (nums_of l (x ∷ [])) ≡ times j (nums l s) = λ j. omega (arith, times_append j (nums l s) []) in
    record {
      grown = record {
        mids = x ∷ [];
        tops = refl;
        starts = refl;
        order = (omega arith, lt);
        kids = (h, tt);
        records = append-nil (recs l s);
        counts = λ j. omega (arith, c j, p j);
        frame = λ j q. fr j (hit_zero (number l s) j (omega (arith, c j)));
      };
      strong = λ i i8 le f. more (le, f) none;
    }

module _ (t : Table) (l lo hi : ℕ) (s : Shape l) (o : Over t l lo hi s) where
  fits : length (tops l s) ≤ 16 → Risen same t (stop (put (number l s) (view l (tops l s)) t)) l lo hi s
  fits le =
      single t (put (number l s) (view l (tops l s)) t) l lo hi s o.proper (holds_sub t l lo hi s o le)
      (λ j. there_old (number l s) j l (tops l s) t o.stands) (λ j. at_other (number l s) j (view l (tops l s)) t)

  -- the 8 go to a number m that no node has
  pub splits : (m : ℕ) → there (at t m) ≡ 0 → 16 < length (tops l s) → length (tops l s) ≤ 17
      → Risen same t (gains (first_key 0 (drop 9 (tops l s))) m (halve l (number l s) m (tops l s) t)) l lo hi s
  unfolding halve
  splits m pm gt le =
      let n = number l s in
      let es = tops l s in
      let mid = first_key 0 (drop 9 es) in
      let u₁ = put n (view l (take 9 es)) t in
      let u = put m (view l (drop 9 es)) u₁ in
      let nm : (n ≡ m → ⊥) = λ e. omega (arith, o.stands, ap (λ (i : ℕ). there (at t i)) e) in
      let mo : times m (rest l s) ≡ 0 = inner_out t l lo hi m s o.inner pm in
      let far : (j : ℕ) → (n ≡ j → ⊥) → (m ≡ j → ⊥) → at u j ≡ at t j
      = λ j a b. at_other m j (view l (drop 9 es)) u₁ b ∙ at_other n j (view l (take 9 es)) t a in
      let H : Cut u l lo hi 9 n m mid s
      = cut t u l lo hi 9 n m s (omega arith) (omega arith) (omega arith) (omega arith) o.keys o.inner
      (at_other m n (view l (drop 9 es)) u₁ (λ e. nm (sym e)) ∙ at_same n (view l (take 9 es)) t)
      (at_same m (view l (drop 9 es)) u₁)
      (λ j q. far j (λ e. omega (arith, o.out, ap (λ (i : ℕ). times i (rest l s)) e)) (λ e. omega (arith, mo, ap (λ (i : ℕ). times i (rest l s)) e))) in
      let p₁ : (j : ℕ) → there (at u₁ j) ≡ there (at t j) = λ j. there_old n j l (take 9 es) t o.stands in
      let p : (j : ℕ) → there (at u j) ≡ there (at t j) + hit m j
      = λ j. omega (arith, p₁ j, there_new m j l (drop 9 es) u₁ (omega (arith, p₁ m))) in
      let a : Kid (Shape l) = record { key = lo; sub = lower_s l 9 n s } in
      let b : Kid (Shape l) = record { key = mid; sub = upper_s l 9 m s } in
      let cs : (j : ℕ) → times j (nums_of l (a ∷ b ∷ [])) ≡ times j (nums l s) + hit m j
      = λ j. omega (
        arith,
        cut_rest l 9 n m j s,
        ap (λ (i : ℕ). hit i j) (lower_number l 9 n s),
        ap (λ (i : ℕ). hit i j) (upper_number l 9 m s),
        times_append j (nums l (lower_s l 9 n s)) (nums l (upper_s l 9 m s) ++ []),
        times_append j (nums l (upper_s l 9 m s)) [],
      ) in
      record {
        grown = record {
          mids = a ∷ b ∷ [];
          tops = rw (lower_number, upper_number);
          starts = refl;
          order = (omega arith, (H.over, H.under));
          kids = (H.left, (H.right, tt));
          records = rw append-nil (cut_recs l 9 n m s);
          counts = λ j. omega (arith, cs j, p j);
          frame = λ j q. far j (hit_zero n j (omega (arith, cs j))) (hit_zero m j (omega (arith, cs j)));
        };
        strong = λ c c8 _ f.
            let la : length (tops l (lower_s l 9 n s)) ≡ 9 = ap length (lower_tops l 9 n s) ∙ length-take 9 es ∙ omega arith in
            let lb : length (tops l (upper_s l 9 m s)) ≡ length es - 9 = ap length (upper_tops l 9 m s) ∙ length-drop 9 es in
            let pa : least_of c l ≤ length (tops l (lower_s l 9 n s)) = omega (arith, least_most c l c8) in
            let pb : least_of c l ≤ length (tops l (upper_s l 9 m s)) = omega (arith, least_most c l c8) in
            more (pa, full_lower c l 9 n s f) (more (pb, full_upper c l 9 m s f) none);
      }

  -- the rule at any node but node 0
  pub held : (number l s ≡ 0 → ⊥) → length (tops l s) ≤ 17 → Risen same t (fit_or_split l (number l s) (tops l s) t) l lo hi s
  unfolding fit_or_split
  held n le =
      ⊎_elim
      (λ (q : 16 < length (tops l s)). rw (lt-leb (length (tops l s)) 16 q, ne_eqb (number l s) 0 n) (splits (least t) (least_free t) q le))
      (λ (q : length (tops l s) ≤ 16). rw (le-leb (length (tops l s)) 16 q) (fits q))
      (below_or_not 16 (length (tops l s)))

module _ (k : ℕ) (f : List Entry → List Entry) (st : LeafStep k f) (t : Table) (l lo hi n : ℕ) (before : List (Kid (Shape l))) (kid : Kid (Shape l))
    (after : List (Kid (Shape l))) (h : Sub 16 t (suc l) lo hi (record { number = n; kids = before ++ (kid ∷ after) }))
    (once : (j : ℕ) → times j (nums (suc l) (record { number = n; kids = before ++ (kid ∷ after) })) ≤ 1) (low : kid.key ≤ k) (high : k < start_of hi after)
    (r : Up) (g : Risen f t r l kid.key (start_of hi after) kid.sub) where
  -- all kids are strong afterwards
  pub strong_all : (c : ℕ) → c ≤ 8 → All (Strong c l) (before ++ (kid ∷ after)) → All (Strong c l) (before ++ (g.grown.mids ++ after))
  strong_all c c8 a =
      let rt = All-right before (kid ∷ after) a in
      All-append (All-left before (kid ∷ after) a) (All-append (g.strong c c8 (All-head rt).0 (All-head rt).1) (All-tail rt))

  pub more_kids : length (before ++ (kid ∷ after)) ≤ length (before ++ (g.grown.mids ++ after))
  more_kids =
      omega (
        arith,
        length-append before (kid ∷ after),
        length-append before (g.grown.mids ++ after),
        length-append g.grown.mids after,
        starts_some kid.key g.grown.mids g.grown.starts,
      )

  after_that : (q : Up) → Risen same (table_of r) q (suc l) lo hi (record { number = n; kids = before ++ (g.grown.mids ++ after) })
      → Risen f t q (suc l) lo hi (record { number = n; kids = before ++ (kid ∷ after) })
  after_that q G =
      let jc = joined_counts k f st t l lo hi n before kid after h once low high r g.grown in
      record {
        grown = record {
          mids = G.grown.mids;
          tops = G.grown.tops;
          starts = G.grown.starts;
          order = G.grown.order;
          kids = G.grown.kids;
          records = G.grown.records ∙ joined_records k f st t l lo hi n before kid after h once low high r g.grown;
          counts = λ j. omega (arith, G.grown.counts j, jc j);
          frame = λ j z.
              let e = G.grown.frame j z in
              e ∙ g.grown.frame j (omega (arith, G.grown.counts j, ap there e, nums_of_three l j before g.grown.mids after));
        };
        strong = λ c c8 le a. G.strong c c8
            (omega (arith, more_kids, length-map (before ++ (kid ∷ after)) (entry_of l), length-map (before ++ (g.grown.mids ++ after)) (entry_of l)))
            (strong_all c c8 a);
      }

  when_stopped : map (entry_of l) g.grown.mids ≡ entry_of l kid ∷ [] → Risen f t (stop (table_of r)) (suc l) lo hi (record { number = n; kids = before ++ (kid ∷ after) })
  when_stopped e =
      let x : Shape (suc l) = record { number = n; kids = before ++ (g.grown.mids ++ after) } in
      after_that (stop (table_of r))
      (single (table_of r) (table_of r) (suc l) lo hi x (joined_over k f st t l lo hi n before kid after h once low high r g.grown).proper
      (stopped_sub k f st t l lo hi n before kid after h once low high r g.grown e) (λ j. refl) (λ j _. refl))

  module _ (k' m : ℕ) (e : map (entry_of l) g.grown.mids ≡ entry_of l kid ∷ entry k' m ∷ []) (g₁ : kid.key < k') (g₂ : k' < start_of hi after) where
    when_held : (n ≡ 0 → ⊥) → Risen f t (gain (suc l) n k' m (table_of r)) (suc l) lo hi (record { number = n; kids = before ++ (kid ∷ after) })
    unfolding gain
    when_held z =
        let x : Shape (suc l) = record { number = n; kids = before ++ (g.grown.mids ++ after) } in
        rw (gained_tops k f st t l lo hi n before kid after h once low high r g.grown k' m e g₁ g₂)
        (after_that (fit_or_split (suc l) n (tops (suc l) x) (table_of r))
        (held (table_of r) (suc l) lo hi x (joined_over k f st t l lo hi n before kid after h once low high r g.grown) z
        (gained_size k f st t l lo hi n before kid after h once low high r g.grown k' m e g₁ g₂)))

module _ (k : ℕ) (f : List Entry → List Entry) (st : LeafStep k f) (t : Table) (l lo hi n : ℕ) (ks : List (Kid (Shape l))) (w : Under t l lo hi n k ks)
    (once : (j : ℕ) → times j (nums (suc l) (record { number = n; kids = ks })) ≤ 1) where
  once_whole : (j : ℕ) → times j (nums (suc l) (record { number = n; kids = w.before ++ (w.kid ∷ w.after) })) ≤ 1
  once_whole = under_once t l lo hi n k ks w once

  back : (q : Up) → Risen f t q (suc l) lo hi (record { number = n; kids = w.before ++ (w.kid ∷ w.after) }) → Risen f t q (suc l) lo hi (record { number = n; kids = ks })
  back q = subst (λ (xs : List (Kid (Shape l))). Risen f t q (suc l) lo hi (record { number = n; kids = xs })) (sym w.is)

  pub passed : (n ≡ 0 → ⊥) → (r : Up) → Risen f t r l w.kid.key (start_of hi w.after) w.kid.sub → Risen f t (pass (suc l) n r) (suc l) lo hi (record { number = n; kids = ks })
  passed z (stop u) g =
      back (stop u) (when_stopped k f st t l lo hi n w.before w.kid w.after w.whole once_whole w.low w.high (stop u) g g.grown.tops)
  passed z (gains k' m u) g =
      back (gain (suc l) n k' m u)
      (when_held k f st t l lo hi n w.before w.kid w.after w.whole once_whole w.low w.high (gains k' m u) g k' m g.grown.tops g.grown.order.1.0 g.grown.order.1.1 z)

-- ---- the leaf
leaf_risen : (k v : ℕ) (t : Table) (q : Up) (lo hi : ℕ) (s : Leaf) → Risen same t q 0 lo hi (record { number = s.number; entries = insert_entry k v s.entries })
    → Risen (insert_entry k v) t q 0 lo hi s
leaf_risen k v t q lo hi s G = record {
  grown = record {
    mids = G.grown.mids;
    tops = G.grown.tops;
    starts = G.grown.starts;
    order = G.grown.order;
    kids = G.grown.kids;
    records = G.grown.records;
    counts = G.grown.counts;
    frame = G.grown.frame;
  };
  strong = λ c c8 le f. G.strong c c8 (omega (arith, insert_least k v s.entries)) tt;
}

insert_leaf : (k v : ℕ) (t : Table) (lo hi : ℕ) (s : Leaf) → Sub 16 t 0 lo hi s → (s.number ≡ 0 → ⊥) → lo ≤ k → k < hi
    → Risen (insert_entry k v) t (gain 0 s.number k v t) 0 lo hi s
unfolding gain
insert_leaf k v t lo hi s h z low high =
    let es = insert_entry k v s.entries in
    let e : entries_at t s.number ≡ s.entries = ap entries_of h.0.is in
    rw e
    (leaf_risen k v t (fit_or_split 0 s.number es t) lo hi s
    (held t 0 lo hi (record { number = s.number; entries = es })
    (leaf_over t lo hi s es h ((insert_step k v).keeps lo hi s.entries low high h.0.keys) (omega arith))
    z (omega (arith, insert_most k v s.entries, h.0.size))))

insert_branch : (k v : ℕ) (t : Table) (l lo hi n : ℕ) (ks : List (Kid (Shape l))) (w : Under t l lo hi n k ks)
    → ((j : ℕ) → times j (nums (suc l) (record { number = n; kids = ks })) ≤ 1) → (n ≡ 0 → ⊥)
    → Risen (insert_entry k v) t (insert_at l (number l w.kid.sub) k v t) l w.kid.key (start_of hi w.after) w.kid.sub
    → Risen (insert_entry k v) t (pass (suc l) n (insert_at l (child t n k) k v t)) (suc l) lo hi (record { number = n; kids = ks })
insert_branch k v t l lo hi n ks w once z g =
    rw w.child (passed k (insert_entry k v) (insert_step k v) t l lo hi n ks w once z (insert_at l (number l w.kid.sub) k v t) g)

module _ (k v : ℕ) (t : Table) where
  pub inserts : (l lo hi : ℕ) (s : Shape l) → Sub 16 t l lo hi s → ((j : ℕ) → times j (nums l s) ≤ 1) → times 0 (nums l s) ≡ 0 → lo ≤ k → k < hi
      → Risen (insert_entry k v) t (insert_at l (number l s) k v t) l lo hi s
  unfolding insert_at
  inserts zero lo hi s h once z low high = insert_leaf k v t lo hi s h (hit_zero s.number 0 (omega arith)) low high
  inserts (suc l) lo hi s h once z low high =
      step (under t l lo hi s.number k s.kids h low high) (λ a b x. inserts l a b x)
    where
      step : (w : Under t l lo hi s.number k s.kids)
          → ((a b : ℕ) (x : Shape l) → Sub 16 t l a b x → ((j : ℕ) → times j (nums l x) ≤ 1) → times 0 (nums l x) ≡ 0 → a ≤ k → k < b → Risen (insert_entry k v) t (insert_at l (number l x) k v t) l a b x)
          → Risen (insert_entry k v) t (pass (suc l) s.number (insert_at l (child t s.number k) k v t)) (suc l) lo hi s
      step w ih =
          let uc = under_count t l lo hi s.number k s.kids w in
          insert_branch k v t l lo hi s.number s.kids w once (hit_zero s.number 0 (omega arith))
          (ih w.kid.key (start_of hi w.after) w.kid.sub (under_sub t l lo hi s.number k s.kids w)
          (λ j. omega (arith, once j, uc j)) (omega (arith, uc 0)) w.low w.high)
