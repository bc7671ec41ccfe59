-- How many numbers an insert takes, and when it is refused with 5. Assumes nothing.
use mathlib.Core.Path.{◌≡◌, refl, sym, ap, ◌∙◌, subst}
use mathlib.Core.Logic.{⊎_elim}
use mathlib.Core.Bool.{Bool, true, false, cond, ◌&&◌}
use mathlib.Core.List.{List, [], ◌∷◌, ◌++◌}
use Prim.Native.Nat.{ℕ, zero, suc, ◌+◌, ◌<◌, ◌≤◌, max}
use native.Mathlib.Omega.{arith}
use lib.Dec.{leb, ltb}
use lib.ListN.{length, take, drop, length-append, length-map}
use borrow.Author.Tests.{eq-eqb, ne_eqb, le-leb, lt-leb, lt-ltb, le-ltb}
use Rattle.lists.specs.Lists.{bit}
use Rattle.lists.proofs.Tests.{below_or_not, same_or_not}
use Rattle.views.specs.Nodes.{Entry, entry, view, insert_entry}
use Rattle.tree.specs.Tree.{level_of, entries_of, there, Table, at, put, entries_at, next, root_level, first_key, least, least2, nodes}
use Rattle.tree.specs.Step6.{top, times, Tree}
use Rattle.tree.specs.Insert.{Up, stop, gains, table_of, halve, refusal, done, allowed, raise, fit_or_split, gain, pass, insert_at, inserted, insert, spills, takes, needs}
use Rattle.tree.specs.InsertCode.{gives_of}
use Rattle.tree.proofs.Entries.{LeafStep, insert_step}
use Rattle.tree.proofs.Tables.{hit, at_same, there_new, there_old}
use Rattle.tree.proofs.Shape.{Kid, Shape, number, entry_of, nums, start_of, Sub, hit_same, hit_zero, there_le}
use Rattle.tree.proofs.Children.{Grown, joined_over, gained_tops, nums_of_three, Under, under, under_sub, under_count, under_once}
use Rattle.tree.proofs.Shaped.{level_at, at_root}
use Rattle.tree.proofs.Step6.{shape_of}
use Rattle.tree.proofs.Least.{least_free, nodes_old, nodes_new, nodes_next, Packed, packed_old, packed_new, least_put, least_kept}
use Rattle.tree.proofs.InsertAt.{Risen, inserts}

pub record Counts (limit : ℕ) (t : Table) (need : ℕ) (r : Up) : Type 0 where
  pub count : nodes (table_of r) ≡ nodes t + need
  pub packed : Packed limit t → Packed limit (table_of r)

-- ---- one node gains an entry
module _ (limit l n k v : ℕ) (u : Table) (on : there (at u n) ≡ 1) where
  abbrev es : List Entry
  es = insert_entry k v (entries_at u n)

  gain_fits : length (insert_entry k v (entries_at u n)) ≤ 16 → Counts limit u 0 (gain l n k v u) × (gives_of (gain l n k v u) ≡ false)
  unfolding gain fit_or_split
  gain_fits q =
      rw (le-leb (length es) 16 q)
      (record { count = omega (arith, nodes_old n l es u on); packed = packed_old limit n l es u on }, refl)

  gain_halves : 16 < length (insert_entry k v (entries_at u n)) → (n ≡ 0 → ⊥) → Counts limit u 1 (gain l n k v u) × (gives_of (gain l n k v u) ≡ true)
  unfolding gain fit_or_split halve
  gain_halves q d =
      let w = put n (view l (take 9 es)) u in
      let m = least u in
      let nm : n ≡ m → ⊥ = λ e. omega (arith, least_free u, ap (λ (i : ℕ). there (at u i)) e) in
      let pm : there (at w m) ≡ 0 = there_old n m l (take 9 es) u on ∙ least_free u in
      let same : least w ≡ m = least_kept n l (take 9 es) u on in
      rw (lt-leb (length es) 16 q, ne_eqb n 0 d) (
        record {
          count = omega (arith, nodes_new m l (drop 9 es) w pm, nodes_old n l (take 9 es) u on);
          packed = λ p. subst (λ (i : ℕ). Packed limit (put i (view l (drop 9 es)) w)) same (packed_new limit l (drop 9 es) w (packed_old limit n l (take 9 es) u on p));
        },
        refl,
      )

  gain_raises : 16 < length (insert_entry k v (entries_at u n)) → n ≡ 0 → Counts limit u 2 (gain l n k v u) × (gives_of (gain l n k v u) ≡ false)
  unfolding gain fit_or_split raise
  gain_raises q z =
      let m = least u in
      let o = least2 u in
      let w₁ = put m (view l (take 9 es)) u in
      let w₂ = put o (view l (drop 9 es)) w₁ in
      let two = entry 0 m ∷ entry (first_key 0 (drop 9 es)) o ∷ [] in
      let same : least w₁ ≡ o = least_put m l 0 (take 9 es) [] u in
      let p₁ : (j : ℕ) → there (at w₁ j) ≡ there (at u j) + hit m j = λ j. there_new m j l (take 9 es) u (least_free u) in
      let po : there (at w₁ o) ≡ 0 = ap (λ (i : ℕ). there (at w₁ i)) (sym same) ∙ least_free w₁ in
      let p₂ : (j : ℕ) → there (at w₂ j) ≡ there (at w₁ j) + hit o j = λ j. there_new o j l (drop 9 es) w₁ po in
      let on0 : there (at u 0) ≡ 1 = ap (λ (i : ℕ). there (at u i)) (sym z) ∙ on in
      let on2 : there (at w₂ 0) ≡ 1 = omega (arith, p₁ 0, p₂ 0, there_le (at w₂ 0)) in
      rw (lt-leb (length es) 16 q, eq-eqb n 0 z) (
        record {
          count = omega (arith, nodes_old 0 (suc l) two w₂ on2, nodes_new o l (drop 9 es) w₁ po, nodes_new m l (take 9 es) u (least_free u));
          packed = λ p. packed_old limit 0 (suc l) two w₂ on2
              (subst (λ (i : ℕ). Packed limit (put i (view l (drop 9 es)) w₁)) same (packed_new limit l (drop 9 es) w₁ (packed_new limit l (take 9 es) u p)));
        },
        refl,
      )

  pub gain_counts : Counts limit u (takes n (ltb 16 (length (insert_entry k v (entries_at u n))))) (gain l n k v u)
  gain_counts =
      ⊎_elim
      (λ (q : 16 < length es). rw (lt-ltb 16 (length es) q)
      (⊎_elim
      (λ (z : n ≡ 0). rw (eq-eqb n 0 z) (gain_raises q z).0)
      (λ (z : n ≡ 0 → ⊥). rw (ne_eqb n 0 z) (gain_halves q z).0)
      (same_or_not n 0)))
      (λ (q : length es ≤ 16). rw (le-ltb 16 (length es) q) (gain_fits q).0)
      (below_or_not 16 (length es))

  pub gain_gives : (n ≡ 0 → ⊥) → gives_of (gain l n k v u) ≡ ltb 16 (length (insert_entry k v (entries_at u n)))
  gain_gives z =
      ⊎_elim
      (λ (q : 16 < length es). (gain_halves q z).1 ∙ sym (lt-ltb 16 (length es) q))
      (λ (q : length es ≤ 16). (gain_fits q).1 ∙ sym (le-ltb 16 (length es) q))
      (below_or_not 16 (length es))

  -- the root's level
  pub gain_level : n ≡ 0 → root_level (table_of (gain l n k v u)) ≡ l + bit (ltb 16 (length (insert_entry k v (entries_at u n))))
  unfolding gain fit_or_split raise
  gain_level z =
      let m = least u in
      let o = least2 u in
      let two = entry 0 m ∷ entry (first_key 0 (drop 9 es)) o ∷ [] in
      ⊎_elim
      (λ (q : 16 < length es). rw (lt-leb (length es) 16 q, lt-ltb 16 (length es) q, eq-eqb n 0 z)
      (ap level_of (at_same 0 (view (suc l) two) (put o (view l (drop 9 es)) (put m (view l (take 9 es)) u))) ∙ omega arith))
      (λ (q : length es ≤ 16). rw (le-leb (length es) 16 q, le-ltb 16 (length es) q)
      (ap (λ (i : ℕ). root_level (put i (view l es) u)) z ∙ ap level_of (at_same 0 (view l es) u) ∙ omega arith))
      (below_or_not 16 (length es))

-- ---- the parent
-- what the parent is after its child's insert
record Parent (t : Table) (r : Up) (n len : ℕ) : Type 0 where
  on : there (at (table_of r) n) ≡ 1
  longer : (k m : ℕ) (u : Table) → r ≡ gains k m u → length (insert_entry k m (entries_at u n)) ≡ suc len

pass_counts : (limit l n len need : ℕ) (t : Table) (b : Bool) (r : Up) → Parent t r n len → Counts limit t need r → gives_of r ≡ b
    → Counts limit t (need + takes n (b && ltb 16 (suc len))) (pass (suc l) n r)
pass_counts limit l n len need t b (stop u) P C e = rw (← e) (record { count = omega (arith, C.count); packed = C.packed })
pass_counts limit l n len need t b (gains k m u) P C e =
    let G : Counts limit u (takes n (ltb 16 (suc len))) (gain (suc l) n k m u)
    = subst (λ (i : ℕ). Counts limit u (takes n (ltb 16 i)) (gain (suc l) n k m u)) (P.longer k m u refl) (gain_counts limit (suc l) n k m u P.on) in
    rw (← e) (record { count = omega (arith, C.count, G.count); packed = λ p. G.packed (C.packed p) })

pass_gives : (limit l n len : ℕ) (t : Table) (b : Bool) (r : Up) → (n ≡ 0 → ⊥) → Parent t r n len → gives_of r ≡ b
    → gives_of (pass (suc l) n r) ≡ (b && ltb 16 (suc len))
pass_gives limit l n len t b (stop u) z P e = rw (← e)
pass_gives limit l n len t b (gains k m u) z P e =
    rw (← e) (gain_gives limit (suc l) n k m u P.on z ∙ ap (λ (i : ℕ). ltb 16 i) (P.longer k m u refl))

pass_level : (limit l len : ℕ) (t : Table) (b : Bool) (r : Up) → Parent t r 0 len → gives_of r ≡ b → (gives_of r ≡ false → root_level (table_of r) ≡ suc l)
    → root_level (table_of (pass (suc l) 0 r)) ≡ suc l + bit (b && ltb 16 (suc len))
pass_level limit l len t b (stop u) P e g = rw (← e) (omega (arith, g refl))
pass_level limit l len t b (gains k m u) P e g =
    rw (← e) (gain_level limit (suc l) 0 k m u P.on refl ∙ ap (λ (i : ℕ). suc l + bit (ltb 16 i)) (P.longer k m u refl))

module _ (k : ℕ) (f : List Entry → List Entry) (st : LeafStep k f) (t : Table) (l lo hi n : ℕ) (ks : List (Kid (Shape l))) (w : Under t l lo hi n k ks)
    (once : (j : ℕ) → times j (nums (suc l) (record { number = n; kids = ks })) ≤ 1) where
  once_whole : (j : ℕ) → times j (nums (suc l) (record { number = n; kids = w.before ++ (w.kid ∷ w.after) })) ≤ 1
  once_whole = under_once t l lo hi n k ks w once

  old_length : length (entries_at t n) ≡ length w.before + suc (length w.after)
  old_length =
      ap (λ (es : List Entry). length es) (ap entries_of w.whole.0.is) ∙ length-map (w.before ++ (w.kid ∷ w.after)) (entry_of l) ∙ length-append w.before (w.kid ∷ w.after)

  longer_at : (r : Up) → Grown f t r l w.kid.key (start_of hi w.after) w.kid.sub
      → (k' m : ℕ) (u : Table) → r ≡ gains k' m u → length (insert_entry k' m (entries_at u n)) ≡ suc (length (entries_at t n))
  longer_at r g k' m u e = go (subst (λ (q : Up). Grown f t q l w.kid.key (start_of hi w.after) w.kid.sub) e g)
    where
      go : Grown f t (gains k' m u) l w.kid.key (start_of hi w.after) w.kid.sub → length (insert_entry k' m (entries_at u n)) ≡ suc (length (entries_at t n))
      go h =
          let a : length h.mids ≡ 2 = sym (length-map h.mids (entry_of l)) ∙ ap length h.tops in
          ap length (gained_tops k f st t l lo hi n w.before w.kid w.after w.whole once_whole w.low w.high (gains k' m u) h k' m h.tops h.order.1.0 h.order.1.1)
          ∙ length-map (w.before ++ (h.mids ++ w.after)) (entry_of l)
          ∙ omega (arith, length-append w.before (h.mids ++ w.after), length-append h.mids w.after, old_length)

  parent_of : (r : Up) → Grown f t r l w.kid.key (start_of hi w.after) w.kid.sub → Parent t r n (length (entries_at t n))
  parent_of r g = record {
    on = (joined_over k f st t l lo hi n w.before w.kid w.after w.whole once_whole w.low w.high r g).stands;
    longer = longer_at r g;
  }

  -- the parent itself is as it was
  node_kept : (r : Up) → Grown f t r l w.kid.key (start_of hi w.after) w.kid.sub → at (table_of r) n ≡ at t n
  node_kept r g =
      let o = joined_over k f st t l lo hi n w.before w.kid w.after w.whole once_whole w.low w.high r g in
      g.frame n (omega (arith, o.out, nums_of_three l n w.before g.mids w.after))

-- ---- from the leaf upward
module _ (limit k v : ℕ) (t : Table) where
  branch_counted : (l lo hi n : ℕ) (ks : List (Kid (Shape l))) (w : Under t l lo hi n k ks)
      → ((j : ℕ) → times j (nums (suc l) (record { number = n; kids = ks })) ≤ 1) → (n ≡ 0 → ⊥)
      → Risen (insert_entry k v) t (insert_at l (number l w.kid.sub) k v t) l w.kid.key (start_of hi w.after) w.kid.sub
      → Counts limit t (needs l (number l w.kid.sub) k v t) (insert_at l (number l w.kid.sub) k v t)
      → gives_of (insert_at l (number l w.kid.sub) k v t) ≡ spills l (number l w.kid.sub) k v t
      → Counts limit t (needs (suc l) n k v t) (insert_at (suc l) n k v t) × (gives_of (insert_at (suc l) n k v t) ≡ spills (suc l) n k v t)
  unfolding insert_at
  branch_counted l lo hi n ks w once z g C e =
      let c = number l w.kid.sub in
      let r = insert_at l c k v t in
      let P = parent_of k (insert_entry k v) (insert_step k v) t l lo hi n ks w once r g.grown in
      rw w.child (
        pass_counts limit l n (length (entries_at t n)) (needs l c k v t) t (spills l c k v t) r P C e,
        pass_gives limit l n (length (entries_at t n)) t (spills l c k v t) r z P e,
      )

  counted : (l lo hi : ℕ) (s : Shape l) → Sub 16 t l lo hi s → ((j : ℕ) → times j (nums l s) ≤ 1) → times 0 (nums l s) ≡ 0 → lo ≤ k → k < hi
      → Counts limit t (needs l (number l s) k v t) (insert_at l (number l s) k v t) × (gives_of (insert_at l (number l s) k v t) ≡ spills l (number l s) k v t)
  unfolding insert_at
  counted zero lo hi s h once z low high =
      let on = ap there h.0.is in
      (gain_counts limit 0 s.number k v t on, gain_gives limit 0 s.number k v t on (hit_zero s.number 0 (omega arith)))
  counted (suc l) lo hi s h once z low high = step (under t l lo hi s.number k s.kids h low high) (λ a b x. counted l a b x)
    where
      step : (w : Under t l lo hi s.number k s.kids)
          → ((a b : ℕ) (x : Shape l) → Sub 16 t l a b x → ((j : ℕ) → times j (nums l x) ≤ 1) → times 0 (nums l x) ≡ 0 → a ≤ k → k < b
          → Counts limit t (needs l (number l x) k v t) (insert_at l (number l x) k v t) × (gives_of (insert_at l (number l x) k v t) ≡ spills l (number l x) k v t))
          → Counts limit t (needs (suc l) s.number k v t) (insert_at (suc l) s.number k v t) × (gives_of (insert_at (suc l) s.number k v t) ≡ spills (suc l) s.number k v t)
      step w ih =
          let uc = under_count t l lo hi s.number k s.kids w in
          let sub = under_sub t l lo hi s.number k s.kids w in
          let o : (j : ℕ) → times j (nums l w.kid.sub) ≤ 1 = λ j. omega (arith, once j, uc j) in
          let z' : times 0 (nums l w.kid.sub) ≡ 0 = omega (arith, uc 0) in
          let i = ih w.kid.key (start_of hi w.after) w.kid.sub sub o z' w.low w.high in
          branch_counted l lo hi s.number s.kids w once (hit_zero s.number 0 (omega arith))
          (inserts k v t l w.kid.key (start_of hi w.after) w.kid.sub sub o z' w.low w.high) i.0 i.1

  -- ---- at node 0
  module _ (hk : k < top) where
    root_branch : (l : ℕ) (ks : List (Kid (Shape l))) (w : Under t l 0 top 0 k ks) → ((j : ℕ) → times j (nums (suc l) (record { number = 0; kids = ks })) ≤ 1)
        → Counts limit t (needs (suc l) 0 k v t) (insert_at (suc l) 0 k v t) × (root_level (table_of (insert_at (suc l) 0 k v t)) ≡ suc l + bit (spills (suc l) 0 k v t))
    unfolding insert_at
    root_branch l ks w once =
        let c = number l w.kid.sub in
        let uc = under_count t l 0 top 0 k ks w in
        let sub = under_sub t l 0 top 0 k ks w in
        let o : (j : ℕ) → times j (nums l w.kid.sub) ≤ 1 = λ j. omega (arith, once j, uc j) in
        let z : times 0 (nums l w.kid.sub) ≡ 0 = omega (arith, uc 0, once 0, hit_same 0 0 refl) in
        let r = insert_at l c k v t in
        let G = inserts k v t l w.kid.key (start_of top w.after) w.kid.sub sub o z w.low w.high in
        let i = counted l w.kid.key (start_of top w.after) w.kid.sub sub o z w.low w.high in
        let P = parent_of k (insert_entry k v) (insert_step k v) t l 0 top 0 ks w once r G.grown in
        let lv : root_level (table_of r) ≡ suc l = ap level_of (node_kept k (insert_entry k v) (insert_step k v) t l 0 top 0 ks w once r G.grown ∙ w.whole.0.is) in
        rw w.child (
          pass_counts limit l 0 (length (entries_at t 0)) (needs l c k v t) t (spills l c k v t) r P i.0 i.1,
          pass_level limit l (length (entries_at t 0)) t (spills l c k v t) r P i.1 (λ _. lv),
        )

    root_counted : (l : ℕ) (s : Shape l) → Sub 16 t l 0 top s → number l s ≡ 0 → ((j : ℕ) → times j (nums l s) ≤ 1)
        → Counts limit t (needs l 0 k v t) (insert_at l 0 k v t) × (root_level (table_of (insert_at l 0 k v t)) ≡ l + bit (spills l 0 k v t))
    unfolding insert_at
    root_counted zero s h root once =
        let on : there (at t 0) ≡ 1 = ap (λ (n : ℕ). there (at t n)) (sym root) ∙ ap there h.0.is in
        (gain_counts limit 0 0 k v t on, gain_level limit 0 0 k v t on refl)
    root_counted (suc l) s h root once =
        root_branch l s.kids (at_root k t hk l s h root)
        (subst (λ (n : ℕ). (j : ℕ) → times j (nums (suc l) (record { number = n; kids = s.kids })) ≤ 1) root once)

-- ---- what an insert takes, told of the table before
pub record Takes (limit k v : ℕ) (t : Table) : Type 0 where
  pub count : nodes (inserted k v t) ≡ nodes t + needs (root_level t) 0 k v t
  pub level : root_level (inserted k v t) ≡ root_level t + bit (spills (root_level t) 0 k v t)
  pub numbers : next t ≤ limit → next (inserted k v t) ≤ max limit (nodes t + needs (root_level t) 0 k v t)

pub inserted_takes : (limit k v : ℕ) (t : Table) → Tree t → k < top → Takes limit k v t
unfolding inserted
inserted_takes limit k v t g h =
    let T = shape_of t g in
    let R = root_counted limit k v t h T.level T.shape T.sub T.root (λ j. omega (arith, T.once j, there_le (at t j))) in
    let e = level_at t T in
    let c : nodes (table_of (insert_at (root_level t) 0 k v t)) ≡ nodes t + needs (root_level t) 0 k v t = rw e R.0.count in
    let p : Packed limit t → Packed limit (table_of (insert_at (root_level t) 0 k v t)) = rw e R.0.packed in
    record {
      count = c;
      level = rw e R.1;
      numbers = λ q. omega (arith, c, p (omega arith));
    }

same_leb : (a b c d : ℕ) → (a ≤ b → c ≤ d) → (c ≤ d → a ≤ b) → leb a b ≡ leb c d
same_leb a b c d f g =
    ⊎_elim
    (λ (q : b < a). lt-leb a b q ∙ sym (lt-leb c d (⊎_elim (λ (z : d < c). z) (λ (z : c ≤ d). let y = g z in absurd (omega arith)) (below_or_not d c))))
    (λ (q : a ≤ b). le-leb a b q ∙ sym (le-leb c d (f q)))
    (below_or_not b a)

-- 5 exactly when fewer numbers below the limit are free or unused than are needed
pub insert_exact : (limit k v : ℕ) (t : Table) → Tree t → k < top → next t ≤ limit
    → insert limit k v t ≡ cond (leb (nodes t + needs (root_level t) 0 k v t) limit) (done (inserted k v t)) (refusal 5)
unfolding insert allowed
insert_exact limit k v t g h q =
    let W = inserted_takes limit k v t g h in
    let u = inserted k v t in
    let need = nodes t + needs (root_level t) 0 k v t in
    let e : leb (next u) limit ≡ leb need limit
    = same_leb (next u) limit need limit (λ p. omega (arith, nodes_next u, W.count)) (λ p. omega (arith, W.numbers q)) in
    rw e
