-- The units of a node in the buffer kept at its place, one after the other. Assumes nothing.
use mathlib.Core.Path.{◌≡◌, refl, sym, ap, ap₂, ◌∙◌}
use mathlib.Core.List.{List, [], ◌∷◌, ◌++◌, map}
use Prim.Native.Nat.{ℕ, zero, suc, ◌+◌, ◌*◌, ◌-◌, ◌<◌, ◌≤◌}
use native.Mathlib.Omega.{arith}
use lib.ListN.{drop, length, length-append, length-map, length-take, take}
use lib.Seq.{take-nil}
use Rattle.lists.proofs.Flats.{map_append}
use Rattle.pages.specs.declared.unit.Update.{Update}
use Rattle.std.proofs.Common.{Option, Some, None}
use Rattle.pages.specs.declared.unit.Unit as U
use Rattle.pages.specs.Units.{decode}
use Rattle.views.specs.Groups.{unit_for}
use Rattle.views.specs.PassCode.{pushed}
use Rattle.views.proofs.BufferLaws.{length_pushed, pushed_append, pushed_none}
use Rattle.contents.specs.ContentsCode.{Appends, Keeps, own_in, picked, with_update}
use Rattle.contents.proofs.OwnLaws.{own_from_lem, own_end, own_next, own_start}
use Rattle.contents.proofs.UnitsLaws.{keeps_pushed}

-- ---- the loop
-- the first of some room for a unit and those behind it
take_with : (room : ℕ) (d : Option U.Unit) (ws : List Update)
    → take room (with_update d ws) ≡ take room (with_update d []) ++ take (room - length (take room (with_update d []))) ws
take_with zero (Some u) ws = refl
take_with zero None ws = refl
take_with (suc room) (Some u) ws =
    let none : List Update = [] in
    let e : length (take room none) ≡ 0 = ap length (take-nil room) in
    let q : suc room - suc (length (take room none)) ≡ room = omega arith in
    ap₂ (λ (x y : List Update). u.update ∷ (x ++ y)) (sym (take-nil room)) (ap (λ (m : ℕ). take m ws) (sym q))
take_with (suc room) None ws = ap (λ (m : ℕ). take m ws) (let e : suc room ≡ suc room - 0 = omega arith in e)

module _ (limit n count : ℕ) (p : List ℕ) (b₀ : List ℕ) where
  abbrev all : List Update
  all = take 17 (own_in limit n count p)

  abbrev left : ℕ → ℕ → List Update
  left k i = take (17 - k) (own_from_lem limit n count p i)

  -- k units kept of the first i, with those that are left
  pub record Keeping (i k : ℕ) (b : List ℕ) : Type 0 where
    pub few : k ≤ 17
    pub size : length b ≡ 52224
    pub is : pushed b (17 * n + k) (map (unit_for n) (left k i)) ≡ pushed b₀ (17 * n) (map (unit_for n) all)
    pub number : k + length (left k i) ≡ length all

  pub keeping_start : length b₀ ≡ 52224 → Keeping 0 0 b₀
  keeping_start whole =
      let e : left 0 0 ≡ all = ap (take 17) (own_start limit n count p) in
      record {
        few = omega arith;
        size = whole;
        is = ap₂ (λ (m : ℕ) (us : List Update). pushed b₀ m (map (unit_for n) us)) (let z : 17 * n + 0 ≡ 17 * n = omega arith in z) e;
        number = omega (arith, ap length e);
      }

  pub keeping_next : (i k r : ℕ) (b c : List ℕ) → n < 256 → i < count → Keeping i k b
      → Appends n k (take (17 - k) (with_update (picked n (decode limit (drop (12 * i) p))) [])) b c r
      → Keeping (i + 1) r c
  keeping_next i k r b c on h l a =
      let d : Option U.Unit = picked n (decode limit (drop (12 * i) p)) in
      let us : List Update = take (17 - k) (with_update d []) in
      let vs : List Update = left r (i + 1) in
      let lu : length us ≤ 17 - k = omega (arith, length-take (17 - k) (with_update d [])) in
      let room : 17 - k - length us ≡ 17 - r = omega (arith, a.count) in
      let next : left k i ≡ us ++ vs =
      ap (take (17 - k)) (own_next limit n count p i h) ∙ take_with (17 - k) d (own_from_lem limit n count p (i + 1))
      ∙ ap (λ (m : ℕ). us ++ take m (own_from_lem limit n count p (i + 1))) room in
      let lm : length (map (unit_for n) us) ≡ length us = length-map us (unit_for n) in
      let fits : 12 * (17 * n + k + length (map (unit_for n) us)) ≤ length b = omega (arith, lm, l.size, l.few) in
      let at : 17 * n + r ≡ 17 * n + k + length (map (unit_for n) us) = omega (arith, a.count, lm) in
      record {
        few = omega (arith, a.count, l.few);
        size = ap length a.is ∙ length_pushed b (17 * n + k) (map (unit_for n) us) fits ∙ l.size;
        is = ap₂ (λ (x : List ℕ) (m : ℕ). pushed x m (map (unit_for n) vs)) a.is at
            ∙ pushed_append b (17 * n + k) (map (unit_for n) us) (map (unit_for n) vs) fits
            ∙ ap (pushed b (17 * n + k)) (sym (ap (map (unit_for n)) next ∙ map_append (unit_for n) us vs))
            ∙ l.is;
        number = omega (arith, a.count, l.number, ap length next ∙ length-append us vs);
      }

  pub keeping_done : (i k : ℕ) (b : List ℕ) → n < 256 → length b₀ ≡ 52224 → count ≤ i → Keeping i k b → Keeps n all b₀ b k
  keeping_done i k b on whole h l =
      let e : left k i ≡ [] = ap (take (17 - k)) (own_end limit n count p i h) ∙ take-nil (17 - k) in
      keeps_pushed n all b₀ b k on whole (omega (arith, l.number, ap length e)) l.few
      (sym (pushed_none b (17 * n + k)) ∙ ap (λ (us : List Update). pushed b (17 * n + k) (map (unit_for n) us)) (sym e) ∙ l.is)
