-- Laws of entries in key order: bounds, one entry inserted or deleted, looking up. Assumes nothing.
use mathlib.Core.Path.{◌≡◌, refl}
use mathlib.Core.Bool.{Bool, true, false, cond}
use mathlib.Core.List.{List, [], ◌∷◌, ◌++◌}
use Prim.Native.Nat.{ℕ, suc, ◌<◌, ◌≤◌}
use native.Mathlib.Omega.{arith}
use lib.Dec.{ltb, eqb}
use lib.ListN.{length}
use borrow.Author.Tests.{lt-ltb, le-ltb, eq-eqb, ne_eqb}
use Rattle.views.specs.Nodes.{Entry, entry, Above, Rising, insert_entry, delete_entry}
use Rattle.tree.specs.Tree.{found, absent, lookup, first_key}
use Rattle.lists.proofs.Tests.{cases, three}

-- the keys rise from lo to below hi
abbrev pub Between : ℕ → ℕ → List Entry → Type 0
Between lo hi [] = lo ≤ hi
Between lo hi (e ∷ es) = (lo ≤ e.key) × Between (suc e.key) hi es

pub between_le : (lo hi : ℕ) (es : List Entry) → Between lo hi es → lo ≤ hi
between_le lo hi [] h = h
between_le lo hi (e ∷ es) h = omega (arith, h.0, between_le (suc e.key) hi es h.1)

pub between_down : (i lo hi : ℕ) (es : List Entry) → i ≤ lo → Between lo hi es → Between i hi es
between_down i lo hi [] g h = omega arith
between_down i lo hi (e ∷ es) g h = (omega (arith, h.0), h.1)

pub between_append : (lo m hi : ℕ) (a b : List Entry) → Between lo m a → Between m hi b → Between lo hi (a ++ b)
between_append lo m hi [] b g h = between_down lo m hi b g h
between_append lo m hi (e ∷ a) b g h = (g.0, between_append (suc e.key) m hi a b g.1 h)

pub between_left : (lo hi : ℕ) (a b : List Entry) → Between lo hi (a ++ b) → Between lo (first_key hi b) a
between_left lo hi [] [] h = h
between_left lo hi [] (e ∷ b) h = h.0
between_left lo hi (e ∷ a) b h = (h.0, between_left (suc e.key) hi a b h.1)

pub between_right : (lo hi : ℕ) (a b : List Entry) → Between lo hi (a ++ b) → Between (first_key hi b) hi b
between_right lo hi [] [] h = omega arith
between_right lo hi [] (e ∷ b) h = (omega arith, h.1)
between_right lo hi (e ∷ a) b h = between_right (suc e.key) hi a b h.1

pub between_up : (lo hi j : ℕ) (es : List Entry) → hi ≤ j → Between lo hi es → Between lo j es
between_up lo hi j [] g h = omega arith
between_up lo hi j (e ∷ es) g h = (h.0, between_up (suc e.key) hi j es g h.1)

pub between_lt : (lo hi : ℕ) (es : List Entry) → 0 < length es → Between lo hi es → lo < hi
between_lt lo hi [] g h = absurd (omega arith)
between_lt lo hi (e ∷ es) g h = omega (arith, h.0, between_le (suc e.key) hi es h.1)

pub first_key_lem : (d lo : ℕ) (es : List Entry) → 0 < length es → first_key d es ≡ first_key lo es
first_key_lem d lo [] g = absurd (omega arith)
first_key_lem d lo (e ∷ es) g = refl

pub cond_append : {A : Type 0} (b : Bool) (x y c : List A) → cond b x y ++ c ≡ cond b (x ++ c) (y ++ c)
cond_append true x y c = refl
cond_append false x y c = refl

-- what an operation on a leaf at k has to keep
pub record LeafStep (k : ℕ) (f : List Entry → List Entry) : Type 0 where
  pub keeps : (lo hi : ℕ) (es : List Entry) → lo ≤ k → k < hi → Between lo hi es → Between lo hi (f es)
  pub local : (lo hi : ℕ) (a b d : List Entry) → Between lo k a → Between (suc k) hi d → f (a ++ (b ++ d)) ≡ a ++ (f b ++ d)

insert_keeps : (k v lo hi : ℕ) (es : List Entry) → lo ≤ k → k < hi → Between lo hi es → Between lo hi (insert_entry k v es)
insert_keeps k v lo hi [] g h b = (g, h)
insert_keeps k v lo hi (e ∷ es) g h b =
    three e.key k
    (λ q. rw (lt-ltb e.key k q) (b.0, insert_keeps k v (suc e.key) hi es q h b.1))
    (λ q. rw (le-ltb e.key k (omega arith), eq-eqb e.key k q) (g, rw q at b.1))
    (λ q. rw (le-ltb e.key k (omega arith), ne_eqb e.key k (λ r. omega arith)) (g, (q, b.1)))

-- in front of all that is above k
insert_front : (k v hi : ℕ) (d : List Entry) → Between (suc k) hi d → insert_entry k v d ≡ entry k v ∷ d
insert_front k v hi [] h = refl
insert_front k v hi (e ∷ d) h = rw (le-ltb e.key k (omega (arith, h.0)), ne_eqb e.key k (λ r. omega (arith, h.0)))

pub insert_local : (k v lo hi : ℕ) (a b d : List Entry) → Between lo k a → Between (suc k) hi d → insert_entry k v (a ++ (b ++ d)) ≡ a ++ (insert_entry k v b ++ d)
insert_local k v lo hi [] [] d g h = insert_front k v hi d h
insert_local k v lo hi [] (e ∷ b) d g h = let r = insert_local k v 0 hi [] b d (omega arith) h in simp (cond_append, r)
insert_local k v lo hi (e ∷ a) b d g h =
    rw (lt-ltb e.key k (between_le (suc e.key) k a g.1), insert_local k v (suc e.key) hi a b d g.1 h)

pub insert_step : (k v : ℕ) → LeafStep k (insert_entry k v)
insert_step k v = record {
  keeps = insert_keeps k v;
  local = insert_local k v;
}

delete_keeps : (k lo hi : ℕ) (es : List Entry) → Between lo hi es → Between lo hi (delete_entry k es)
delete_keeps k lo hi [] b = b
delete_keeps k lo hi (e ∷ es) b =
    three e.key k
    (λ q. rw (lt-ltb e.key k q) (b.0, delete_keeps k (suc e.key) hi es b.1))
    (λ q. rw (le-ltb e.key k (omega arith), eq-eqb e.key k q) (between_down lo (suc e.key) hi es (omega (arith, b.0)) b.1))
    (λ q. rw (le-ltb e.key k (omega arith), ne_eqb e.key k (λ r. omega arith)) b)

delete_front : (k hi : ℕ) (d : List Entry) → Between (suc k) hi d → delete_entry k d ≡ d
delete_front k hi [] h = refl
delete_front k hi (e ∷ d) h = rw (le-ltb e.key k (omega (arith, h.0)), ne_eqb e.key k (λ r. omega (arith, h.0)))

delete_local : (k lo hi : ℕ) (a b d : List Entry) → Between lo k a → Between (suc k) hi d → delete_entry k (a ++ (b ++ d)) ≡ a ++ (delete_entry k b ++ d)
delete_local k lo hi [] [] d g h = delete_front k hi d h
delete_local k lo hi [] (e ∷ b) d g h = let r = delete_local k 0 hi [] b d (omega arith) h in simp (cond_append, r)
delete_local k lo hi (e ∷ a) b d g h =
    rw (lt-ltb e.key k (between_le (suc e.key) k a g.1), delete_local k (suc e.key) hi a b d g.1 h)

pub delete_step : (k : ℕ) → LeafStep k (delete_entry k)
delete_step k = record {
  keeps = λ lo hi es _ _ b. delete_keeps k lo hi es b;
  local = delete_local k;
}

-- looking up
lookup_above : (k hi : ℕ) (d : List Entry) → Between (suc k) hi d → lookup k d ≡ absent
lookup_above k hi [] h = refl
lookup_above k hi (e ∷ d) h =
    rw (ne_eqb e.key k (λ r. omega (arith, h.0)), lookup_above k hi d (between_down (suc k) (suc e.key) hi d (omega (arith, h.0)) h.1))

pub lookup_local : (k lo hi : ℕ) (a b d : List Entry) → Between lo k a → Between (suc k) hi d → lookup k (a ++ (b ++ d)) ≡ lookup k b
lookup_local k lo hi [] [] d g h = lookup_above k hi d h
lookup_local k lo hi [] (e ∷ b) d g h = rw (lookup_local k 0 hi [] b d (omega arith) h)
lookup_local k lo hi (e ∷ a) b d g h =
    rw (ne_eqb e.key k (λ r. omega (arith, between_le (suc e.key) k a g.1)), lookup_local k (suc e.key) hi a b d g.1 h)

pub insert_same : (k v : ℕ) (es : List Entry) → lookup k (insert_entry k v es) ≡ found v
insert_same k v [] = rw (eq-eqb k k refl)
insert_same k v (e ∷ es) =
    three e.key k
    (λ q. rw (lt-ltb e.key k q, ne_eqb e.key k (λ r. omega arith)) (insert_same k v es))
    (λ q. rw (le-ltb e.key k (omega arith), eq-eqb e.key k q, eq-eqb k k refl))
    (λ q. rw (le-ltb e.key k (omega arith), ne_eqb e.key k (λ r. omega arith), eq-eqb k k refl))

pub insert_other : (j k v : ℕ) (es : List Entry) → (k ≡ j → ⊥) → lookup j (insert_entry k v es) ≡ lookup j es
insert_other j k v [] n = rw (ne_eqb k j n)
insert_other j k v (e ∷ es) n =
    three e.key k
    (λ q. rw (lt-ltb e.key k q, insert_other j k v es n))
    (λ q. rw (le-ltb e.key k (omega arith), eq-eqb e.key k q, ne_eqb k j n, ne_eqb e.key j (λ r. n (omega arith))))
    (λ q. rw (le-ltb e.key k (omega arith), ne_eqb e.key k (λ r. omega arith), ne_eqb k j n))

pub delete_same : (k lo hi : ℕ) (es : List Entry) → Between lo hi es → lookup k (delete_entry k es) ≡ absent
delete_same k lo hi [] b = refl
delete_same k lo hi (e ∷ es) b =
    three e.key k
    (λ q. rw (lt-ltb e.key k q, ne_eqb e.key k (λ r. omega arith)) (delete_same k (suc e.key) hi es b.1))
    (λ q. rw (le-ltb e.key k (omega arith), eq-eqb e.key k q) (lookup_above k hi es (rw q at b.1)))
    (λ q. rw (le-ltb e.key k (omega arith), ne_eqb e.key k (λ r. omega arith)) (lookup_above k hi (e ∷ es) (q, b.1)))

pub delete_other : (j k : ℕ) (es : List Entry) → (k ≡ j → ⊥) → lookup j (delete_entry k es) ≡ lookup j es
delete_other j k [] n = refl
delete_other j k (e ∷ es) n =
    three e.key k
    (λ q. rw (lt-ltb e.key k q, delete_other j k es n))
    (λ q. rw (le-ltb e.key k (omega arith), eq-eqb e.key k q, ne_eqb e.key j (λ r. n (omega arith))))
    (λ q. rw (le-ltb e.key k (omega arith), ne_eqb e.key k (λ r. omega arith)))

-- ---- the keys rise
pub above_between : (i hi : ℕ) (es : List Entry) → Between (suc i) hi es → Above i es
above_between i hi [] h = tt
above_between i hi (e ∷ es) h = (h.0, above_between e.key hi es h.1)

pub rising_between : (lo hi : ℕ) (es : List Entry) → Between lo hi es → Rising es
rising_between lo hi [] h = tt
rising_between lo hi (e ∷ es) h = above_between e.key hi es h.1

-- an insert takes no entry, a delete at most one
pub insert_least : (k v : ℕ) (es : List Entry) → length es ≤ length (insert_entry k v es)
insert_least k v [] = omega arith
insert_least k v (e ∷ es) =
    cases (ltb e.key k)
    (λ t. rw t (omega (arith, insert_least k v es)))
    (λ t. cases (eqb e.key k) (λ q. rw (t, q) (omega arith)) (λ q. rw (t, q) (omega arith)))

pub delete_least : (k : ℕ) (es : List Entry) → length es ≤ suc (length (delete_entry k es))
delete_least k [] = omega arith
delete_least k (e ∷ es) =
    cases (ltb e.key k)
    (λ t. rw t (omega (arith, delete_least k es)))
    (λ t. cases (eqb e.key k) (λ q. rw (t, q) (omega arith)) (λ q. rw (t, q) (omega arith)))
