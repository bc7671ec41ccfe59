-- The units of the nodes kept as bytes: what a patch at the place of one node leaves of it and of the others. Assumes nothing.
use mathlib.Core.Path.{◌≡◌, sym, ap, ap₂, ◌∙◌}
use mathlib.Core.List.{List, map, ◌++◌}
use Prim.Native.Nat.{ℕ, ◌+◌, ◌*◌, ◌-◌, ◌<◌, ◌≤◌}
use native.Mathlib.Omega.{arith}
use lib.ListN.{drop, length, length-drop, length-map, take, take-append-drop}
use lib.Seq.{drop_at, drop-append-le, drop-drop, length-take-le, take-append-le, take_at}
use Rattle.lists.specs.Lists.{flat, patch}
use Rattle.lists.proofs.Parts.{length_patch}
use Rattle.lists.proofs.Tests.{three}
use Rattle.pages.specs.declared.unit.Update.{Update}
use Rattle.pages.specs.Units.{encode}
use Rattle.pages.proofs.UnitLaws.{length_units}
use Rattle.views.specs.Groups.{unit_for}
use Rattle.views.specs.PassCode.{pushed}
use Rattle.journal.specs.PlanCode.{KeepsUnits}
use Rattle.contents.specs.ContentsCode.{Keeps}

-- ---- parts of a patched list: the patch, a part before it, a part behind it
module _ {A : Type 0} (xs : List A) (a k : ℕ) (ys : List A) (fits : a + k ≤ length xs) (size : length ys ≡ k) where
  la : length (take a xs) ≡ a
  la = length-take-le a xs (omega arith)

  pub part_patch : take k (drop a (patch xs a k ys)) ≡ ys
  part_patch = ap (take k) (drop_at (take a xs) (ys ++ drop k (drop a xs)) a la) ∙ take_at ys (drop k (drop a xs)) k size

  pub part_before : (b n : ℕ) → b + n ≤ a → take n (drop b (patch xs a k ys)) ≡ take n (drop b xs)
  part_before b n h =
      let l : length (drop b (take a xs)) ≡ a - b = length-drop b (take a xs) ∙ omega (arith, la) in
      let go : (zs : List A) → take n (drop b (take a xs ++ zs)) ≡ take n (drop b (take a xs)) = λ zs.
      ap (take n) (drop-append-le b (take a xs) zs (omega (arith, la))) ∙ take-append-le n (drop b (take a xs)) zs (omega (arith, l)) in
      go (ys ++ drop k (drop a xs)) ∙ sym (go (drop a xs)) ∙ ap (λ (zs : List A). take n (drop b zs)) (take-append-drop a xs)

  pub part_after : (b : ℕ) → a + k ≤ b → drop b (patch xs a k ys) ≡ drop b xs
  part_after b h =
      let e : b ≡ a + (k + (b - (a + k))) = omega arith in
      let z : ℕ = b - (a + k) in
      ap (λ (m : ℕ). drop m (patch xs a k ys)) e
      ∙ sym (drop-drop (k + z) a (patch xs a k ys))
      ∙ ap (drop (k + z)) (drop_at (take a xs) (ys ++ drop k (drop a xs)) a la)
      ∙ sym (drop-drop z k (ys ++ drop k (drop a xs)))
      ∙ ap (drop z) (drop_at ys (drop k (drop a xs)) k size)
      ∙ drop-drop z k (drop a xs) ∙ drop-drop (k + z) a xs ∙ ap (λ (m : ℕ). drop m xs) (sym e)

-- ---- what is kept of node n, and of the others
module _ (n : ℕ) (us : List Update) (before after : List ℕ) (r : ℕ) (k : Keeps n us before after r) (on : n < 256) (whole : length before ≡ 52224) where
  size : length (flat encode (map (unit_for n) us)) ≡ 12 * r
  size = length_units (map (unit_for n) us) ∙ ap (λ (m : ℕ). 12 * m) (length-map us (unit_for n) ∙ sym k.count)

  fits : 204 * n + 12 * r ≤ length before
  fits = omega (arith, k.few)

  pub keeps_this : KeepsUnits n us r after
  keeps_this =
      record {
        len = k.count;
        few = omega (arith, k.count, k.few);
        is = ap₂ (λ (m : ℕ) (xs : List ℕ). take (12 * m) (drop (204 * n) xs)) (sym k.count) k.is
            ∙ part_patch before (204 * n) (12 * r) (flat encode (map (unit_for n) us)) fits size;
      }

  pub keeps_other : (m : ℕ) (vs : List Update) (s : ℕ) → (m ≡ n → ⊥) → KeepsUnits m vs s before → KeepsUnits m vs s after
  keeps_other m vs s d q =
      let ys : List ℕ = flat encode (map (unit_for n) us) in
      let same : take (12 * length vs) (drop (204 * m) (patch before (204 * n) (12 * r) ys)) ≡ take (12 * length vs) (drop (204 * m) before) =
      three m n
      (λ l. part_before before (204 * n) (12 * r) ys fits size (204 * m) (12 * length vs) (omega (arith, q.few)))
      (λ e. absurd (d e))
      (λ l. ap (take (12 * length vs)) (part_after before (204 * n) (12 * r) ys fits size (204 * m) (omega (arith, k.few)))) in
      record {
        len = q.len;
        few = q.few;
        is = ap (λ (xs : List ℕ). take (12 * length vs) (drop (204 * m) xs)) k.is ∙ same ∙ q.is;
      }

-- ---- units pushed to the place of node n
pub keeps_pushed : (n : ℕ) (us : List Update) (before after : List ℕ) (r : ℕ) → n < 256 → length before ≡ 52224 → r ≡ length us → r ≤ 17
    → after ≡ pushed before (17 * n) (map (unit_for n) us) → Keeps n us before after r
keeps_pushed n us before after r on whole q few e =
    let vs = map (unit_for n) us in
    let l : length vs ≡ r = length-map us (unit_for n) ∙ sym q in
    let a : 12 * (17 * n) ≡ 204 * n = omega arith in
    record {
      is = e ∙ ap₂ (λ (i m : ℕ). patch before i (12 * m) (flat encode vs)) a l;
      count = q;
      few = few;
      size = ap length e ∙ length_patch before (12 * (17 * n)) (12 * length vs) (flat encode vs) (omega (arith, l)) (length_units vs);
    }
