-- A tree has as many nodes as its shape, at most as many as the table is long; each has at most 16 records. Assumes nothing.
use mathlib.Core.Path.{◌≡◌, refl, sym, ap, ◌∙◌, subst}
use mathlib.Core.Logic.{⊎_elim}
use mathlib.Core.Bool.{cond}
use mathlib.Core.List.{List, [], ◌∷◌}
use Prim.Native.Nat.{ℕ, zero, suc, ◌+◌, ◌-◌, ◌*◌, ◌<◌, ◌≤◌}
use native.Mathlib.Omega.{arith}
use lib.Dec.{eqb}
use lib.ListN.{length, length-append, length-map}
use borrow.Author.Tests.{eq-eqb, ne_eqb}
use Rattle.lists.proofs.Tests.{below_or_not, same_or_not, cases}
use Rattle.tree.specs.Tree.{there, Table, at, nodes, records}
use Rattle.tree.specs.Step6.{top, times, Tree}
use Rattle.tree.proofs.Tables.{hit, next_length}
use Rattle.tree.proofs.Shape.{Kid, Shape, entry_of, nums, recs, nums_of, recs_of, start_of, Kids, Sub, hit_same, hit_other}
use Rattle.tree.proofs.Shaped.{Shaped}
use Rattle.tree.proofs.Step6.{shape_of}
use Rattle.tree.proofs.Records.{records_of}
use Rattle.tree.proofs.Least.{nodes_next}

-- ---- a table has as many nodes as its shape
-- the numbers other than n
abbrev without : ℕ → List ℕ → List ℕ
without n [] = []
without n (m ∷ ms) = cond (eqb m n) (without n ms) (m ∷ without n ms)

without_length : (n : ℕ) (ns : List ℕ) → length ns ≡ times n ns + length (without n ns)
without_length n [] = refl
without_length n (m ∷ ns) = cases (eqb m n) (λ e. rw e (omega (arith, without_length n ns))) (λ e. rw e (omega (arith, without_length n ns)))

without_same : (n : ℕ) (ns : List ℕ) → times n (without n ns) ≡ 0
without_same n [] = refl
without_same n (m ∷ ns) = cases (eqb m n) (λ e. rw e (without_same n ns)) (λ e. rw e (rw e (omega (arith, without_same n ns))))

without_other : (n j : ℕ) (ns : List ℕ) → (n ≡ j → ⊥) → times j (without n ns) ≡ times j ns
without_other n j [] h = refl
without_other n j (m ∷ ns) h =
    ⊎_elim
    (λ (e : m ≡ n). let z : hit m j ≡ 0 = hit_other m j (λ q. h (sym e ∙ q)) in rw (eq-eqb m n e) (omega (arith, without_other n j ns h)))
    (λ (e : m ≡ n → ⊥). rw (ne_eqb m n e) (omega (arith, without_other n j ns h)))
    (same_or_not m n)

none_left : (ns : List ℕ) → ((j : ℕ) → times j ns ≡ 0) → length ns ≡ 0
none_left [] h = refl
none_left (m ∷ ns) h = absurd (omega (arith, h m, hit_same m m refl))

at_offset : (ns : List ℕ) (n j : ℕ) → n ≤ j → ((i : ℕ) → times (n + i) ns ≡ 0) → times j ns ≡ 0
at_offset ns n j q h = ap (λ (i : ℕ). times i ns) (let e : j ≡ n + (j - n) = omega arith in e) ∙ h (j - n)

count_from_lem : (n : ℕ) (t : Table) (ns : List ℕ) → ((j : ℕ) → j < n → times j ns ≡ 0) → ((j : ℕ) → times (n + j) ns ≡ there (at t j)) → nodes t ≡ length ns
count_from_lem n [] ns low h = sym (none_left ns (λ j. ⊎_elim (λ (q : j < n). low j q) (λ (q : n ≤ j). at_offset ns n j q h) (below_or_not j n)))
count_from_lem n (w ∷ t) ns low h =
    let a : times n ns ≡ there w = ap (λ (i : ℕ). times i ns) (omega arith) ∙ h 0 in
    let b = count_from_lem (suc n) t (without n ns)
    (λ j q. ⊎_elim
    (λ (e : n ≡ j). subst (λ (i : ℕ). times i (without n ns) ≡ 0) e (without_same n ns))
    (λ (e : n ≡ j → ⊥). without_other n j ns e ∙ low j (omega arith))
    (same_or_not n j))
    (λ j. without_other n (suc n + j) ns (λ e. omega arith) ∙ ap (λ (i : ℕ). times i ns) (omega arith) ∙ h (suc j)) in
    omega (arith, without_length n ns)

pub nodes_shape : (t : Table) (T : Shaped t) → nodes t ≡ length (nums T.level T.shape)
nodes_shape t T = count_from_lem 0 t (nums T.level T.shape) (λ j q. absurd (omega arith)) (λ j. ap (λ (i : ℕ). times i (nums T.level T.shape)) (omega arith) ∙ T.once j)

-- ---- the leaves of a shape, and its nodes of level 1
-- the sum over kids
abbrev sum_kids : {A : Type 0} → (A → ℕ) → List (Kid A) → ℕ
sum_kids f [] = 0
sum_kids f (x ∷ xs) = f x.sub + sum_kids f xs

abbrev pub leaf_count : (l : ℕ) → Shape l → ℕ
leaf_count zero s = 1
leaf_count (suc l) s = sum_kids (leaf_count l) s.kids

abbrev pub parent_count : (l : ℕ) → Shape l → ℕ
parent_count zero s = 0
parent_count (suc zero) s = 1
parent_count (suc (suc l)) s = sum_kids (parent_count (suc l)) s.kids

module _ (t : Table) where
  kids_records : (l : ℕ) → ((lo hi : ℕ) (x : Shape l) → Sub 16 t l lo hi x → length (recs l x) ≤ 16 * leaf_count l x)
      → (hi : ℕ) (xs : List (Kid (Shape l))) → Kids (Sub 16 t l) hi xs → length (recs_of l xs) ≤ 16 * sum_kids (leaf_count l) xs
  kids_records l f hi [] h = omega arith
  kids_records l f hi (x ∷ xs) h =
      omega (arith, f x.key (start_of hi xs) x.sub h.0, kids_records l f hi xs h.1, length-append (recs l x.sub) (recs_of l xs))

  pub records_leaves : (l lo hi : ℕ) (s : Shape l) → Sub 16 t l lo hi s → length (recs l s) ≤ 16 * leaf_count l s
  records_leaves zero lo hi s h = omega (arith, h.0.size)
  records_leaves (suc l) lo hi s h = kids_records l (λ a b x. records_leaves l a b x) hi s.kids h.1.1

  kids_leaves : (l : ℕ) → ((lo hi : ℕ) (x : Shape (suc l)) → Sub 16 t (suc l) lo hi x → leaf_count (suc l) x ≤ 16 * parent_count (suc l) x)
      → (hi : ℕ) (xs : List (Kid (Shape (suc l)))) → Kids (Sub 16 t (suc l)) hi xs → sum_kids (leaf_count (suc l)) xs ≤ 16 * sum_kids (parent_count (suc l)) xs
  kids_leaves l f hi [] h = omega arith
  kids_leaves l f hi (x ∷ xs) h = omega (arith, f x.key (start_of hi xs) x.sub h.0, kids_leaves l f hi xs h.1)

  ones : (xs : List (Kid (Shape 0))) → sum_kids (leaf_count 0) xs ≡ length xs
  ones [] = refl
  ones (x ∷ xs) = omega (arith, ones xs)

  pub leaves_parents : (l lo hi : ℕ) (s : Shape (suc l)) → Sub 16 t (suc l) lo hi s → leaf_count (suc l) s ≤ 16 * parent_count (suc l) s
  leaves_parents zero lo hi s h = omega (arith, ones s.kids, h.0.size, length-map s.kids (entry_of 0))
  leaves_parents (suc l) lo hi s h = kids_leaves l (λ a b x. leaves_parents l a b x) hi s.kids h.1.1

pub kids_both : (l : ℕ) → ((x : Shape l) → leaf_count l x + parent_count l x ≤ length (nums l x))
    → (xs : List (Kid (Shape l))) → sum_kids (leaf_count l) xs + sum_kids (parent_count l) xs ≤ length (nums_of l xs)
kids_both l f [] = omega arith
kids_both l f (x ∷ xs) = omega (arith, f x.sub, kids_both l f xs, length-append (nums l x.sub) (nums_of l xs))

pub both_nodes : (l : ℕ) (s : Shape l) → leaf_count l s + parent_count l s ≤ length (nums l s)
both_nodes zero s = omega arith
both_nodes (suc zero) s = omega (arith, kids_both 0 (λ x. omega arith) s.kids)
both_nodes (suc (suc l)) s = omega (arith, kids_both (suc l) (both_nodes (suc l)) s.kids)

-- ---- at most 16 records for each number
pub shape_records : (t : Table) (T : Shaped t) → length (recs T.level T.shape) ≤ 16 * nodes t
shape_records t T =
    omega (arith, records_leaves t T.level 0 top T.shape T.sub, both_nodes T.level T.shape, nodes_shape t T)

pub records_nodes : (t : Table) → Tree t → length (records t) ≤ 16 * nodes t
records_nodes t g = let T = shape_of t g in rw (records_of t T) (shape_records t T)

pub nodes_length : (t : Table) → nodes t ≤ length t
nodes_length t = omega (arith, nodes_next t, next_length t)

-- a chip of at most 32 blocks has at most 4096 records
pub records_most : (B : ℕ) (t : Table) → B ≤ 32 → Tree t → length t ≡ 8 * B → length (records t) ≤ 4096
records_most B t b g e = omega (arith, records_nodes t g, nodes_length t)
