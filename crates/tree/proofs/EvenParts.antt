-- Entries cut into parts as even as can be: how many there are, and how large. Assumes nothing.
use mathlib.Core.Path.{◌≡◌, refl}
use mathlib.Core.Logic.{⊎_elim}
use mathlib.Core.List.{List, [], ◌∷◌}
use Prim.Native.Nat.{ℕ, zero, suc, ◌+◌, ◌-◌, ◌*◌, ◌/◌, ◌<◌, ◌≤◌}
use native.Mathlib.Nat.{mul-le-mul_right, le-div_iff_mul-le, le_of_mul-le-mul_right, div-mul-le_self, lt-div-mul-add, mul-suc, suc-mul}
use native.Mathlib.Omega.{arith}
use lib.ListN.{length}
use Rattle.lists.proofs.Tests.{below_or_not}
use Rattle.tree.specs.Rebuild.{nodes_for, even_parts}

-- a part of q, a to b, out of n
pub record PartOf (a b q n : ℕ) : Type 0 where
  pub low : a ≤ q
  pub high : q ≤ b
  pub most : q ≤ n

-- parts of a to b each, of n in all
abbrev pub PartsOf : ℕ → ℕ → List ℕ → ℕ → Type 0
PartsOf a b [] n = n ≡ 0
PartsOf a b (q ∷ qs) n = PartOf a b q n × PartsOf a b qs (n - q)

pub parts_some : (a b : ℕ) (qs : List ℕ) (n : ℕ) → 1 ≤ a → PartsOf a b qs n → PartsOf 1 b qs n
parts_some a b [] n h c = c
parts_some a b (q ∷ qs) n h c = (record { low = omega (arith, c.0.low); high = c.0.high; most = c.0.most }, parts_some a b qs (n - q) h c.1)

pub even_between : (a b c n : ℕ) → a * c ≤ n → n ≤ b * c → PartsOf a b (even_parts c n) n
even_between a b zero n g h = omega arith
even_between a b (suc c) n g h =
    let q = n / suc c in
    let e₁ : q * suc c ≤ n = div-mul-le_self n (suc c) in
    let e₂ : n < q * suc c + suc c = lt-div-mul-add {a = n} {b = suc c} (omega arith) in
    let low : a ≤ q = (le-div_iff_mul-le {k = suc c} {x = a} {y = n} (omega arith)).1 g in
    let high : q ≤ b = le_of_mul-le-mul_right {m = q} {n = b} {k = suc c} (omega arith) (omega arith) in
    let f : q * suc c ≡ q * c + q = mul-suc q c in
    let m : a * c ≤ q * c = mul-le-mul_right c low in
    let r : n - q ≤ b * c = ⊎_elim
    (λ (p : q < b). let k : suc q * c ≤ b * c = mul-le-mul_right c p in omega (arith, suc-mul q c))
    (λ (p : b ≤ q). let k : q * c ≤ b * c = mul-le-mul_right c high in let i : b * suc c ≡ b * c + b = mul-suc b c in omega arith)
    (below_or_not q b) in
    (record { low = low; high = high; most = omega arith }, even_between a b c (n - q) (omega arith) r)

pub even_length : (c n : ℕ) → length (even_parts c n) ≡ c
even_length zero n = refl
even_length (suc c) n = omega (arith, even_length c (n - n / suc c))

-- more than 16 entries: parts of 8 to 16
pub even_eights : (n : ℕ) → 16 < n → PartsOf 8 16 (even_parts (nodes_for n) n) n
even_eights n h = even_between 8 16 (nodes_for n) n (omega arith) (omega arith)

pub even_sixteens : (n : ℕ) → 16 < n → PartsOf 1 16 (even_parts (nodes_for n) n) n
even_sixteens n h = parts_some 8 16 (even_parts (nodes_for n) n) n (omega arith) (even_eights n h)

-- any two parts differ by at most 1
pub even_differ : (c n : ℕ) → PartsOf (n / suc c) (suc (n / suc c)) (even_parts (suc c) n) n
even_differ c n =
    even_between (n / suc c) (suc (n / suc c)) (suc c) n (div-mul-le_self n (suc c))
    (omega (arith, suc-mul (n / suc c) (suc c), lt-div-mul-add {a = n} {b = suc c} (omega arith)))

-- 4096 entries take 256 nodes at most, more than 16 take 2 at least and fewer than they are
pub nodes_for_most : (n : ℕ) → n ≤ 4096 → nodes_for n ≤ 256
nodes_for_most n h = omega arith

pub nodes_for_two : (n : ℕ) → 16 < n → 2 ≤ nodes_for n
nodes_for_two n h = omega arith

pub nodes_for_fewer : (n : ℕ) → 16 < n → nodes_for n < n
nodes_for_fewer n h = omega arith
