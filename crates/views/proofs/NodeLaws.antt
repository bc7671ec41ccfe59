-- What is done to the two arrays of a node, and what these hold after an entry is put in, replaced or taken out. Assumes nothing.
use Rattle.std.proofs.Common.{length-set, length-drop, append_assoc}
use Rattle.std.proofs.lemmas.List.{drop-take, set-append_left, take_more_set}
use Rattle.std.proofs.lemmas.List.Edits.{take-paste, length-paste}
use Rattle.std.specs.List.{copy_within}
use mathlib.Core.Path.{◌≡◌, refl, sym, ap, ap₂, ◌∙◌}
use mathlib.Core.List.{List, [], ◌∷◌, ◌++◌}
use Prim.Native.Nat.{ℕ, zero, suc, ◌+◌, ◌-◌, ◌<◌, ◌≤◌}
use native.Mathlib.Nat.{not-suc-le-zero, le_of_suc-le-suc}
use native.Mathlib.Numerals.{add-one}
use native.Mathlib.Omega.{arith}
use lib.Dec.{ltb}
use lib.ListN.{length, take, drop, get_or, set}
use lib.Seq.{slice-cons, slice_empty, take-nil, take-take, length-take-le, get_or-take, take-set-lt}
use borrow.Author.Tests.{lt-ltb, le-ltb, eq-eqb, ne_eqb}
use Rattle.lists.proofs.Tests.{cases}
use Rattle.views.specs.declared.node.Node.{Node}
use Rattle.views.specs.Nodes.{Entry, entry, insert_entry, delete_entry}
use Rattle.views.specs.NodeCode.{pairs, entries_in, entries_of, rank, insert_index, remove_index, HoldsEntries, Pushed, Pulled}

-- ---- the loop of position
-- a key below k is passed
pub rank_pass : (k n i : ℕ) (l : List ℕ) → i < n → n ≤ length l → get_or l i 0 < k
    → i + 1 + rank k (drop (i + 1) (take n l)) ≡ i + rank k (drop i (take n l))
rank_pass k n i l h g b = rw (slice-cons i n l 0 h g, lt-ltb (get_or l i 0) k b, add-one) (omega arith)

-- a key that is not below k is the place
pub rank_stop : (k n i : ℕ) (l : List ℕ) → i < n → n ≤ length l → k ≤ get_or l i 0 → rank k (drop i (take n l)) ≡ 0
rank_stop k n i l h g b = rw (slice-cons i n l 0 h g, le-ltb (get_or l i 0) k b)

-- nothing is left at the end
pub rank_end : (k n : ℕ) (l : List ℕ) → rank k (drop n (take n l)) ≡ 0
rank_end k n l = rw (slice_empty n l)

module _ {A : Type 0} where
  -- an element more at an index, and one less, as what stands before it and behind it
  insert_split : (p : ℕ) (x : A) (l : List A) → p ≤ length l → insert_index p x l ≡ take p l ++ x ∷ drop p l
  insert_split zero x l h = refl
  insert_split (suc p) x [] h = absurd (not-suc-le-zero h)
  insert_split (suc p) x (y ∷ l) h = ap (λ (r : List A). y ∷ r) (insert_split p x l (le_of_suc-le-suc h))

  remove_split : (p : ℕ) (l : List A) → remove_index p l ≡ take p l ++ drop (suc p) l
  remove_split p [] = sym (ap (λ (r : List A). r ++ []) (take-nil p))
  remove_split zero (x ∷ xs) = refl
  remove_split (suc p) (x ∷ xs) = ap (λ (r : List A). x ∷ r) (remove_split p xs)

  -- to insert at i is to put it there and to insert what stood there one place further
  insert_push_suc : (i : ℕ) (a d : A) (l : List A) → i < length l → insert_index (suc i) (get_or l i d) (set l i a) ≡ insert_index i a l
  insert_push_suc i a d [] h = absurd (not-suc-le-zero h)
  insert_push_suc zero a d (x ∷ xs) h = refl
  insert_push_suc (suc i) a d (x ∷ xs) h = ap (λ (r : List A). x ∷ r) (insert_push_suc i a d xs (le_of_suc-le-suc h))

  pub insert_push : (i : ℕ) (a d : A) (l : List A) → i < length l → insert_index (i + 1) (get_or l i d) (set l i a) ≡ insert_index i a l
  insert_push i a d l h = rw add-one (insert_push_suc i a d l h)

  -- to remove what stands before i is to put the element at i there and to remove the one at i
  remove_pull_suc : (i : ℕ) (d : A) (l : List A) → suc i < length l → remove_index (suc i) (set l i (get_or l (suc i) d)) ≡ remove_index i l
  remove_pull_suc i d [] h = absurd (not-suc-le-zero h)
  remove_pull_suc zero d (x ∷ []) h = absurd (not-suc-le-zero (le_of_suc-le-suc h))
  remove_pull_suc zero d (x ∷ y ∷ xs) h = refl
  remove_pull_suc (suc i) d (x ∷ xs) h = ap (λ (r : List A). x ∷ r) (remove_pull_suc i d xs (le_of_suc-le-suc h))

  pub remove_pull : (i : ℕ) (d : A) (l : List A) → 1 ≤ i → i < length l
      → remove_index (i + 1 - 1) (set l (i - 1) (get_or l i d)) ≡ remove_index (i - 1) l
  remove_pull i d l p h =
      let e : i ≡ suc (i - 1) = omega arith in
      let q : i + 1 - 1 ≡ suc (i - 1) = omega arith in
      ap (λ (m : ℕ). remove_index m (set l (i - 1) (get_or l i d))) q
      ∙ ap (λ (m : ℕ). remove_index (suc (i - 1)) (set l (i - 1) (get_or l m d))) e ∙ remove_pull_suc (i - 1) d l (omega arith)

  -- to remove the last element is to take the others
  pub remove_last : (n : ℕ) (l : List A) → length l ≡ suc n → remove_index n l ≡ take n l
  remove_last n [] h = absurd (omega arith)
  remove_last zero (x ∷ []) h = refl
  remove_last zero (x ∷ y ∷ xs) h = absurd (omega arith)
  remove_last (suc n) (x ∷ xs) h = ap (λ (r : List A). x ∷ r) (remove_last n xs (omega arith))

-- the elements of n from p on copied one place up, and x put in their place
pub pushed : (n p x : ℕ) (xs ys : List ℕ) → p ≤ n → n < length xs → ys ≡ set (copy_within xs p n (p + 1)) p x → Pushed n p x xs ys
pushed n p x xs ys h g e =
    let m = n - p in
    let z = take m (drop p xs) in
    let l : m ≤ length (drop p xs) = omega (arith, length-drop p xs) in
    let q : n + 1 ≡ p + 1 + m = omega arith in
    let s : suc p ≡ p + 1 = omega arith in
    let t : n ≡ p + m = omega arith in
    let short : length (take (p + 1) xs) ≡ p + 1 = length-take-le (p + 1) xs (omega arith) in
    record {
      is =
          ap (take (n + 1)) e
          ∙ take-set-lt (n + 1) (copy_within xs p n (p + 1)) p x (omega arith)
          ∙ ap (λ (k : ℕ). set (take k (copy_within xs p n (p + 1))) p x) q
          ∙ ap (λ (r : List ℕ). set r p x) (take-paste xs (p + 1) (drop p xs) m (omega arith) l)
          ∙ set-append_left (take (p + 1) xs) z p x (omega arith)
          ∙ ap (λ (r : List ℕ). r ++ z) (sym (take-set-lt (p + 1) xs p x (omega arith)) ∙ take_more_set xs p x (omega arith))
          ∙ append_assoc (take p xs) (x ∷ []) z
          ∙ ap₂ (λ (a b : List ℕ). a ++ x ∷ b) (sym (take-take p n xs h)) (sym (drop-take p m xs) ∙ ap (λ (k : ℕ). drop p (take k xs)) (sym t))
          ∙ sym (insert_split p x (take n xs) (omega (arith, length-take-le n xs (omega arith))));
      size = ap length e ∙ length-set (copy_within xs p n (p + 1)) p x ∙ length-paste xs (p + 1) (drop p xs) m (omega arith) l;
    }

-- the elements of n behind p copied one place down
pub pulled : (n p : ℕ) (xs ys : List ℕ) → p < n → n ≤ length xs → ys ≡ copy_within xs (p + 1) n p → Pulled n p xs ys
pulled n p xs ys h g e =
    let m = n - (p + 1) in
    let l : m ≤ length (drop (p + 1) xs) = omega (arith, length-drop (p + 1) xs) in
    let q : n - 1 ≡ p + m = omega arith in
    let t : n ≡ p + 1 + m = omega arith in
    record {
      is =
          ap₂ take q e
          ∙ take-paste xs p (drop (p + 1) xs) m (omega arith) l
          ∙ ap₂ ◌++◌ (sym (take-take p n xs (omega arith))) (sym (drop-take (p + 1) m xs) ∙ ap₂ (λ (i k : ℕ). drop i (take k xs)) (let s : p + 1 ≡ suc p = omega arith in s) (sym t))
          ∙ sym (remove_split p (take n xs));
      size = ap length e ∙ length-paste xs p (drop (p + 1) xs) m (omega arith) l;
    }

-- ---- insert_entry and delete_entry on the two lists, by the place of the key
-- the key stands at its place
pub insert_hit : (k v : ℕ) (ks vs : List ℕ) → length ks ≡ length vs → rank k ks < length ks → get_or ks (rank k ks) 0 ≡ k
    → insert_entry k v (pairs ks vs) ≡ pairs ks (set vs (rank k ks) v)
insert_hit k v [] vs e g q = absurd (not-suc-le-zero g)
insert_hit k v (x ∷ xs) [] e g q = absurd (omega arith)
insert_hit k v (x ∷ xs) (y ∷ ys) e g q =
    cases (ltb x k)
    (λ t. rw t (ap (λ (r : List Entry). entry x y ∷ r) (insert_hit k v xs ys (omega arith) (omega (arith, rw t at g)) (rw t at q))))
    (λ t. let u : x ≡ k = (rw t at q) in rw (t, eq-eqb x k u, u))

-- it does not
pub insert_miss : (k v : ℕ) (ks vs : List ℕ) → length ks ≡ length vs → (rank k ks < length ks → get_or ks (rank k ks) 0 ≡ k → ⊥)
    → insert_entry k v (pairs ks vs) ≡ pairs (insert_index (rank k ks) k ks) (insert_index (rank k ks) v vs)
insert_miss k v [] [] e g = refl
insert_miss k v [] (y ∷ ys) e g = absurd (omega arith)
insert_miss k v (x ∷ xs) [] e g = absurd (omega arith)
insert_miss k v (x ∷ xs) (y ∷ ys) e g =
    cases (ltb x k)
    (λ t. rw t (ap (λ (r : List Entry). entry x y ∷ r) (insert_miss k v xs ys (omega arith) (λ a b. (rw t at g) (omega arith) b))))
    (λ t. rw (t, ne_eqb x k ((rw t at g) (omega arith))))

pub delete_hit : (k : ℕ) (ks vs : List ℕ) → length ks ≡ length vs → rank k ks < length ks → get_or ks (rank k ks) 0 ≡ k
    → delete_entry k (pairs ks vs) ≡ pairs (remove_index (rank k ks) ks) (remove_index (rank k ks) vs)
delete_hit k [] vs e g q = absurd (not-suc-le-zero g)
delete_hit k (x ∷ xs) [] e g q = absurd (omega arith)
delete_hit k (x ∷ xs) (y ∷ ys) e g q =
    cases (ltb x k)
    (λ t. rw t (ap (λ (r : List Entry). entry x y ∷ r) (delete_hit k xs ys (omega arith) (omega (arith, rw t at g)) (rw t at q))))
    (λ t. rw (t, eq-eqb x k (rw t at q)))

pub delete_miss : (k : ℕ) (ks vs : List ℕ) → length ks ≡ length vs → (rank k ks < length ks → get_or ks (rank k ks) 0 ≡ k → ⊥)
    → delete_entry k (pairs ks vs) ≡ pairs ks vs
delete_miss k [] vs e g = refl
delete_miss k (x ∷ xs) [] e g = absurd (omega arith)
delete_miss k (x ∷ xs) (y ∷ ys) e g =
    cases (ltb x k)
    (λ t. rw t (ap (λ (r : List Entry). entry x y ∷ r) (delete_miss k xs ys (omega arith) (λ a b. (rw t at g) (omega arith) b))))
    (λ t. rw (t, ne_eqb x k ((rw t at g) (omega arith))))

-- ---- how many entries a node shows
length_pairs : (ks vs : List ℕ) → length ks ≡ length vs → length (pairs ks vs) ≡ length ks
length_pairs [] vs e = refl
length_pairs (k ∷ ks) [] e = absurd (omega arith)
length_pairs (k ∷ ks) (v ∷ vs) e = ap suc (length_pairs ks vs (omega arith))

length_in : (n : ℕ) (ks vs : List ℕ) → length ks ≡ 17 → length vs ≡ 17 → n ≤ 17 → length (entries_in n ks vs) ≡ n
length_in n ks vs lk lv h =
    let ek = length-take-le n ks (omega arith) in
    let ev = length-take-le n vs (omega arith) in
    length_pairs (take n ks) (take n vs) (ek ∙ sym ev) ∙ ek

pub length_entries : (n : Node) → length n.keys ≡ 17 → length n.values ≡ 17 → n.len ≤ 17 → length (entries_of n) ≡ n.len
length_entries n lk lv h = length_in n.len n.keys n.values lk lv h

-- arrays whose entries are known
keeps : (n : ℕ) (ks vs : List ℕ) (es : List Entry) → length ks ≡ 17 → length vs ≡ 17 → n ≤ 17 → entries_in n ks vs ≡ es → HoldsEntries n ks vs es
keeps n ks vs es lk lv h q = record { is = q; len = ap length (sym q) ∙ length_in n ks vs lk lv h; keys = lk; values = lv; room = h }

-- ---- the first n entries, by the place i of key k
module _ (n : ℕ) (ks vs : List ℕ) (k : ℕ) (lk : length ks ≡ 17) (lv : length vs ≡ 17) (le : n ≤ 17) where
  same : length (take n ks) ≡ length (take n vs)
  same = length-take-le n ks (omega arith) ∙ sym (length-take-le n vs (omega arith))

  module _ (i : ℕ) (at : i ≡ rank k (take n ks)) where
    within : i < n → rank k (take n ks) < length (take n ks)
    within h = omega (arith, length-take-le n ks (omega arith))

    there : i < n → get_or ks i 0 ≡ k → get_or (take n ks) (rank k (take n ks)) 0 ≡ k
    there h q = rw (← at, get_or-take n ks i 0 h) q

    missing : (i < n → get_or ks i 0 ≡ k → ⊥) → rank k (take n ks) < length (take n ks) → get_or (take n ks) (rank k (take n ks)) 0 ≡ k → ⊥
    missing f h q =
        let g : i < n = omega (arith, length-take-le n ks (omega arith)) in
        f g (sym (get_or-take n ks i 0 g) ∙ (rw (← at) at q))

    -- an entry is put in at i
    pub gained : (v r : ℕ) (ls ws : List ℕ) → n ≤ 16 → (i < n → get_or ks i 0 ≡ k → ⊥) → Pushed n i k ks ls → Pushed n i v vs ws → r ≡ n + 1
        → HoldsEntries r ls ws (insert_entry k v (entries_in n ks vs))
    gained v r ls ws h f a b e =
        keeps r ls ws (insert_entry k v (entries_in n ks vs)) (a.size ∙ lk) (b.size ∙ lv) (omega arith)
        (rw (e, a.is, b.is, at, insert_miss k v (take n ks) (take n vs) same (missing f)))

    -- the value at i is written anew
    pub replaced : (v : ℕ) (ws : List ℕ) → length ws ≡ 17 → i < n → get_or ks i 0 ≡ k → ws ≡ set vs i v → HoldsEntries n ks ws (insert_entry k v (entries_in n ks vs))
    replaced v ws rv h q e =
        keeps n ks ws (insert_entry k v (entries_in n ks vs)) lk rv le
        (rw (e, take-set-lt n vs i v h, at, insert_hit k v (take n ks) (take n vs) same (within h) (there h q)))

    -- the entry at i is taken out
    pub lost : (r : ℕ) (ls ws : List ℕ) → i < n → get_or ks i 0 ≡ k → Pulled n i ks ls → Pulled n i vs ws → r ≡ n - 1
        → HoldsEntries r ls ws (delete_entry k (entries_in n ks vs)) × (r ≤ n)
    lost r ls ws h q a b e = (
      keeps r ls ws (delete_entry k (entries_in n ks vs)) (a.size ∙ lk) (b.size ∙ lv) (omega arith)
          (rw (e, a.is, b.is, at, delete_hit k (take n ks) (take n vs) same (within h) (there h q))),
      omega arith,
    )

    -- the key is not there
    pub unchanged : (i < n → get_or ks i 0 ≡ k → ⊥) → HoldsEntries n ks vs (delete_entry k (entries_in n ks vs)) × (n ≤ n)
    unchanged f = (
      keeps n ks vs (delete_entry k (entries_in n ks vs)) lk lv le (sym (delete_miss k (take n ks) (take n vs) same (missing f))),
      omega arith,
    )
