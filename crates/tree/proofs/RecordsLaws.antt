-- How records are gathered in two arrays: an entry, the entries of a node, and the records under its entries. Assumes nothing.
use mathlib.Core.Path.{◌≡◌, refl, sym, ap, ap₂, ◌∙◌}
use mathlib.Core.List.{List, [], ◌∷◌, ◌++◌, append-nil, append_assoc}
use Prim.Native.Nat.{ℕ, zero, suc, ◌+◌, ◌-◌, ◌<◌, ◌≤◌}
use native.Mathlib.Numerals.{add-one}
use native.Mathlib.Omega.{arith}
use lib.ListN.{length, take, get_or, set, length-append, length-take, length-drop}
use lib.Seq.{length-take-le}
use borrow.Rule.Slice.PartMut.{put_mid, mid_of, same_len_mid}
use Rattle.std.proofs.lemmas.Slice.{take-put_mid}
use Rattle.lists.specs.Lists.{flat}
use Rattle.lists.proofs.Flats.{flat_append}
use Rattle.views.specs.Nodes.{Entry, entry}
use Rattle.views.specs.NodeCode.{pairs, entries_in}
use Rattle.tree.specs.Tree.{Table, entries_at, root_level, records_at, records}
use Rattle.tree.specs.RecordsCode.{Gathers, GathersRecords}

-- ---- one entry more
entries_more : (i : ℕ) (ks vs : List ℕ) → i < length ks → i < length vs
    → entries_in (suc i) ks vs ≡ entries_in i ks vs ++ (entry (get_or ks i 0) (get_or vs i 0) ∷ [])
entries_more i [] vs h g = absurd (omega arith)
entries_more i (k ∷ ks) [] h g = absurd (omega arith)
entries_more zero (k ∷ ks) (v ∷ vs) h g = refl
entries_more (suc i) (k ∷ ks) (v ∷ vs) h g = ap (λ (es : List Entry). entry k v ∷ es) (entries_more i ks vs (omega arith) (omega arith))

pub entries_set : (i k v : ℕ) (ks vs : List ℕ) → i < length ks → i < length vs
    → entries_in (suc i) (set ks i k) (set vs i v) ≡ entries_in i ks vs ++ (entry k v ∷ [])
entries_set i k v [] vs h g = absurd (omega arith)
entries_set i k v (x ∷ ks) [] h g = absurd (omega arith)
entries_set zero k v (x ∷ ks) (y ∷ vs) h g = refl
entries_set (suc i) k v (x ∷ ks) (y ∷ vs) h g = ap (λ (es : List Entry). entry x y ∷ es) (entries_set i k v ks vs (omega arith) (omega arith))

-- where there are n entries, the arrays have n places
pub entries_room : (n : ℕ) (ks vs : List ℕ) → length (entries_in n ks vs) ≡ n → (n ≤ length ks) × (n ≤ length vs)
entries_room zero ks vs e = (omega arith, omega arith)
entries_room (suc n) [] vs e = absurd (omega arith)
entries_room (suc n) (k ∷ ks) [] e = absurd (omega arith)
entries_room (suc n) (k ∷ ks) (v ∷ vs) e =
    let r = entries_room n ks vs (omega arith) in
    (omega (arith, r.0), omega (arith, r.1))

-- ---- what is gathered, step by step
-- nothing to gather
pub gathers_none : (n : ℕ) (ks vs : List ℕ) → n ≤ 4096 → Gathers [] n ks vs n ks vs
gathers_none n ks vs h = record { few = h; keys = refl; values = refl; count = λ _. omega arith; is = λ _. sym (append-nil (entries_in n ks vs)) }

-- no room
pub gathers_full : (es : List Entry) (n : ℕ) (ks vs : List ℕ) → n ≤ 4096 → 4096 < n + length es → Gathers es n ks vs n ks vs
gathers_full es n ks vs h q =
    record { few = h; keys = refl; values = refl; count = λ p. absurd (omega arith); is = λ p. absurd (omega arith) }

-- the entries of two arrays, one behind the other
pairs_append : (ps rs qs ss : List ℕ) → length ps ≡ length qs → pairs (ps ++ rs) (qs ++ ss) ≡ pairs ps qs ++ pairs rs ss
pairs_append [] rs [] ss e = refl
pairs_append [] rs (q ∷ qs) ss e = absurd (omega arith)
pairs_append (p ∷ ps) rs [] ss e = absurd (omega arith)
pairs_append (p ∷ ps) rs (q ∷ qs) ss e = ap (λ (es : List Entry). entry p q ∷ es) (pairs_append ps rs qs ss (omega arith))

-- the entries of a node, copied at once
pub gathers_copied : (m n : ℕ) (ps qs ks vs : List ℕ) → length (entries_in m ps qs) ≡ m → m ≤ length ps → m ≤ length qs → n + m ≤ 4096
    → length ks ≡ 4096 → length vs ≡ 4096 → (xs ys : List ℕ) → xs ≡ take m ps → ys ≡ take m qs
    → Gathers (entries_in m ps qs) n ks vs (n + m) (put_mid n (n + m - n) ks xs) (put_mid n (n + m - n) vs ys)
gathers_copied m n ps qs ks vs el lp lq h lk lv xs ys ex ey =
    let lx : length xs ≡ m = ap length ex ∙ length-take-le m ps lp in
    let ly : length ys ≡ m = ap length ey ∙ length-take-le m qs lq in
    let ln : length (take n ks) ≡ n = length-take-le n ks (omega arith) in
    let lm : length (take n vs) ≡ n = length-take-le n vs (omega arith) in
    let mk : length xs ≡ length (mid_of n (n + m - n) ks) = simp (length-take, length-drop) (omega arith) in
    let mv : length ys ≡ length (mid_of n (n + m - n) vs) = simp (length-take, length-drop) (omega arith) in
    record {
      few = h;
      keys = same_len_mid n (n + m - n) ks xs mk;
      values = same_len_mid n (n + m - n) vs ys mv;
      count = λ _. omega arith;
      is =
          λ _. ap₂ pairs (take-put_mid n (n + m - n) ks xs (n + m) (omega arith) (omega arith)) (take-put_mid n (n + m - n) vs ys (n + m) (omega arith) (omega arith))
          ∙ pairs_append (take n ks) xs (take n vs) ys (omega arith)
          ∙ ap₂ (λ (rs ss : List ℕ). entries_in n ks vs ++ pairs rs ss) ex ey;
    }

-- some entries, and then others
gathers_next : (xs ys : List Entry) (n r q : ℕ) (ks vs ms ws ps qs : List ℕ) → Gathers xs n ks vs r ms ws → Gathers ys r ms ws q ps qs
    → Gathers (xs ++ ys) n ks vs q ps qs
gathers_next xs ys n r q ks vs ms ws ps qs g h =
    let l = length-append xs ys in
    let first : n + length (xs ++ ys) ≤ 4096 → n + length xs ≤ 4096 = λ p. omega arith in
    let then : n + length (xs ++ ys) ≤ 4096 → r + length ys ≤ 4096 = λ p. omega (arith, g.count (first p)) in
    record {
      few = h.few;
      keys = h.keys ∙ g.keys;
      values = h.values ∙ g.values;
      count = λ p. omega (arith, g.count (first p), h.count (then p));
      is = λ p. h.is (then p) ∙ ap (λ (es : List Entry). es ++ ys) (g.is (first p)) ∙ append_assoc (entries_in n ks vs) xs ys;
    }

-- ---- the first i + 1 entries of keys us and values bs
module _ (i n : ℕ) (us bs ks vs : List ℕ) (a : i < length us) (b : i < length bs) where
  -- the records under them, one after another
  pub under_step : (l : ℕ) (t : Table) (r q : ℕ) (ms ws ps qs : List ℕ) → Gathers (flat (λ (e : Entry). records_at l t e.value) (entries_in i us bs)) n ks vs r ms ws
      → Gathers (records_at l t (get_or bs i 0)) r ms ws q ps qs → Gathers (flat (λ (e : Entry). records_at l t e.value) (entries_in (i + 1) us bs)) n ks vs q ps qs
  under_step l t r q ms ws ps qs g h =
      let f : Entry → List Entry = λ e. records_at l t e.value in
      let x = entry (get_or us i 0) (get_or bs i 0) in
      let e : flat f (entries_in (i + 1) us bs) ≡ flat f (entries_in i us bs) ++ records_at l t (get_or bs i 0) =
      rw add-one
      (ap (flat f) (entries_more i us bs a b) ∙ flat_append f (entries_in i us bs) (x ∷ []) ∙ ap (λ (es : List Entry). flat f (entries_in i us bs) ++ es) (append-nil (f x))) in
      rw e (gathers_next (flat f (entries_in i us bs)) (records_at l t (get_or bs i 0)) n r q ks vs ms ws ps qs g h)

-- ---- the records under node number of level l, whose entries are es
module _ (l number : ℕ) (t : Table) (es : List Entry) (e : es ≡ entries_at t number) (n r : ℕ) (ks vs ms ws : List ℕ) where
  pub gathers_leaf : l ≡ 0 → Gathers es n ks vs r ms ws → Gathers (records_at l t number) n ks vs r ms ws
  gathers_leaf z g = rw (z, ← e) g

  pub gathers_branch : (m : ℕ) → l ≡ suc m → Gathers (flat (λ (x : Entry). records_at m t x.value) es) n ks vs r ms ws → Gathers (records_at l t number) n ks vs r ms ws
  gathers_branch m z g = rw (z, ← e) g

-- ---- the records of the whole tree
pub gathers_all : (l : ℕ) (t : Table) (r : ℕ) (ks vs ms ws : List ℕ) → l ≡ root_level t → length ks ≡ 4096 → length vs ≡ 4096 → Gathers (records_at l t 0) 0 ks vs r ms ws
    → GathersRecords t r ms ws
unfolding records
gathers_all l t r ks vs ms ws e lk lv g =
    let h : Gathers (records_at (root_level t) t 0) 0 ks vs r ms ws = rw e at g in
    record {
      few = h.few;
      keys = h.keys ∙ lk;
      values = h.values ∙ lv;
      count = λ p. h.count (omega arith) ∙ omega arith;
      is = λ p. h.is (omega arith);
    }
