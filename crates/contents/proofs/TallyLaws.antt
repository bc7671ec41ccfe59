-- The tally of the buffer, unit by unit. Assumes nothing.
use mathlib.Core.Path.{◌≡◌, refl, sym, ap, ◌∙◌}
use mathlib.Core.Bool.{Bool, true, false, cond, ◌||◌}
use mathlib.Core.List.{List, []}
use Prim.Native.Nat.{ℕ, ◌+◌, ◌*◌, ◌<◌, ◌≤◌}
use native.Mathlib.Omega.{arith}
use lib.Dec.{eqb}
use lib.ListN.{drop, get_or, length, length-replicate, length-set, replicate, set}
use lib.Seq.{get_or-set_other, get_or-set_same}
use borrow.Author.Tests.{eqb-false, eqb-true}
use Rattle.std.proofs.Math.Bool.{or_assoc, or-false}
use Rattle.lists.specs.Lists.{any}
use Rattle.lists.proofs.Places.{get_d_same}
use Rattle.lists.proofs.Tests.{cases, or_right}
use Rattle.pages.specs.declared.unit.Update.{Update}
use Rattle.pages.specs.declared.unit.Unit as U
use Rattle.std.proofs.Common.{Option, Some, None}
use Rattle.pages.specs.Units.{decode}
use Rattle.pages.proofs.UnitLaws.{told}
use Rattle.views.specs.Groups.{is_reset}
use Rattle.journal.specs.PlanCode.{is_marked}
use Rattle.contents.specs.ContentsCode.{Tallied, counted, noted, own_in, picked, with_update}
use Rattle.contents.proofs.OwnLaws.{own_from_lem, own_end, own_next, own_start}

-- one number after a store at index i
pub set_at : (xs : List ℕ) (i v n : ℕ) → i < length xs → get_or (set xs i v) n 0 ≡ cond (eqb i n) v (get_or xs n 0)
set_at xs i v n h =
    cases (eqb i n)
    (λ t. let e = eqb-true i n t in rw t (ap (λ (k : ℕ). get_or (set xs i v) k 0) (sym e) ∙ get_or-set_same xs i v 0 h))
    (λ t. let d = eqb-false i n t in rw t (get_or-set_other xs i n v 0 (λ e. d (sym e))))

-- ---- one unit

pub length_counted : (d : Option U.Unit) (xs : List ℕ) → length (counted d xs) ≡ length xs
length_counted (Some u) xs = simp length-set
length_counted None xs = refl

pub length_noted : (d : Option U.Unit) (xs : List ℕ) → length (noted d xs) ≡ length xs
length_noted (Some u) xs = cases (is_reset u.update) (λ t. rw t (simp length-set)) (λ t. rw t)
length_noted None xs = refl

counted_at : (d : Option U.Unit) (xs : List ℕ) (n : ℕ) → ((u : U.Unit) → d ≡ Some u → u.node < length xs)
    → get_or (counted d xs) n 0 ≡ get_or xs n 0 + length (with_update (picked n d) [])
counted_at (Some u) xs n h =
    set_at xs u.node (get_or xs u.node 0 + 1) n (h u refl)
    ∙ cases (eqb u.node n)
    (λ t. rw t (ap (λ (k : ℕ). get_or xs k 0 + 1) (eqb-true u.node n t)))
    (λ t. rw t (omega arith))
counted_at None xs n h = omega arith

noted_at : (d : Option U.Unit) (xs : List ℕ) (n : ℕ) → ((u : U.Unit) → d ≡ Some u → u.node < length xs)
    → get_or (noted d xs) n 0 ≡ cond (any is_reset (with_update (picked n d) [])) 1 (get_or xs n 0)
noted_at (Some u) xs n h =
    cases (is_reset u.update)
    (λ t. rw t (set_at xs u.node 1 n (h u refl) ∙ cases (eqb u.node n) (λ s. rw (s, t)) (λ s. rw s)))
    (λ t. rw t (cases (eqb u.node n) (λ s. rw (s, t)) (λ s. rw s)))
noted_at None xs n h = refl

-- ---- the loop
length_with : (d : Option U.Unit) (us : List Update) → length (with_update d us) ≡ length (with_update d []) + length us
length_with (Some u) us = omega arith
length_with None us = omega arith

any_with : (d : Option U.Unit) (us : List Update) → any is_reset (with_update d us) ≡ (any is_reset (with_update d []) || any is_reset us)
any_with (Some u) us = sym (or_assoc (is_reset u.update) false (any is_reset us))
any_with None us = refl

most : (d : Option U.Unit) → length (with_update d []) ≤ 1
most (Some u) = omega arith
most None = omega arith

marked_more : (b c : Bool) (x : ℕ) → ((eqb (cond b 1 x) 1) || c) ≡ (eqb x 1 || (b || c))
marked_more true c x = sym (or_right (eqb x 1) true refl)
marked_more false c x = refl

module _ (limit count : ℕ) (p : List ℕ) where
  -- the tally of the first i units with the units that are left
  pub record Tallying (i : ℕ) (parts resets : List ℕ) : Type 0 where
    pub part : (n : ℕ) → get_or parts n 0 + length (own_from_lem limit n count p i) ≡ length (own_in limit n count p)
    pub reset : (n : ℕ) → (is_marked resets n || any is_reset (own_from_lem limit n count p i)) ≡ any is_reset (own_in limit n count p)
    pub few : (n : ℕ) → get_or parts n 0 ≤ i
    pub bits : (n : ℕ) → get_or resets n 0 ≤ 1
    pub numbers : length parts ≡ 256
    pub marks : length resets ≡ 256

  pub tallying_start : (parts resets : List ℕ) → parts ≡ replicate 256 0 → resets ≡ replicate 256 0 → Tallying 0 parts resets
  tallying_start parts resets e q =
      let z : (n : ℕ) → get_or parts n 0 ≡ 0 = λ n. ap (λ (xs : List ℕ). get_or xs n 0) e ∙ get_d_same 256 n 0 in
      let y : (n : ℕ) → get_or resets n 0 ≡ 0 = λ n. ap (λ (xs : List ℕ). get_or xs n 0) q ∙ get_d_same 256 n 0 in
      record {
        part = λ n. omega (arith, z n, ap length (own_start limit n count p));
        reset = λ n. rw (y n) (ap (any is_reset) (own_start limit n count p));
        few = λ n. omega (arith, z n);
        bits = λ n. omega (arith, y n);
        numbers = ap length e ∙ length-replicate {A = ℕ} 256 0;
        marks = ap length q ∙ length-replicate {A = ℕ} 256 0;
      }

  pub tallying_next : (i : ℕ) (parts resets after noticed : List ℕ) (d : Option U.Unit) → Tallying i parts resets → i < count → limit ≤ 256
      → d ≡ decode limit (drop (12 * i) p) → after ≡ counted d parts → noticed ≡ noted d resets
      → Tallying (i + 1) after noticed
  tallying_next i parts resets after noticed d k h l e ea en =
      let b : (u : U.Unit) → d ≡ Some u → u.node < 256 = λ u z.
      omega (arith, (told limit (drop (12 * i) p) u (sym e ∙ z)).below) in
      let os : ℕ → List Update = λ n. with_update (picked n d) [] in
      let at : (n : ℕ) → get_or after n 0 ≡ get_or parts n 0 + length (os n) = λ n.
      ap (λ (xs : List ℕ). get_or xs n 0) ea ∙ counted_at d parts n (λ u z. omega (arith, b u z, k.numbers)) in
      let mt : (n : ℕ) → get_or noticed n 0 ≡ cond (any is_reset (os n)) 1 (get_or resets n 0) = λ n.
      ap (λ (xs : List ℕ). get_or xs n 0) en ∙ noted_at d resets n (λ u z. omega (arith, b u z, k.marks)) in
      let next : (n : ℕ) → own_from_lem limit n count p i ≡ with_update (picked n d) (own_from_lem limit n count p (i + 1)) = λ n.
      own_next limit n count p i h ∙ ap (λ (x : Option U.Unit). with_update (picked n x) (own_from_lem limit n count p (i + 1))) (sym e) in
      record {
        part = λ n. omega (arith, at n, k.part n, ap length (next n) ∙ length_with (picked n d) (own_from_lem limit n count p (i + 1)));
        reset = λ n.
            ap (λ (x : ℕ). eqb x 1 || any is_reset (own_from_lem limit n count p (i + 1))) (mt n)
            ∙ marked_more (any is_reset (os n)) (any is_reset (own_from_lem limit n count p (i + 1))) (get_or resets n 0)
            ∙ ap (λ (x : Bool). is_marked resets n || x) (sym (ap (any is_reset) (next n) ∙ any_with (picked n d) (own_from_lem limit n count p (i + 1))))
            ∙ k.reset n;
        few = λ n. omega (arith, at n, k.few n, most (picked n d));
        bits = λ n. rw (mt n) (cases (any is_reset (os n)) (λ t. rw t (omega arith)) (λ t. rw t (k.bits n)));
        numbers = ap length ea ∙ length_counted d parts ∙ k.numbers;
        marks = ap length en ∙ length_noted d resets ∙ k.marks;
      }

  pub tallying_done : (i : ℕ) (parts resets : List ℕ) → Tallying i parts resets → i ≤ count → count ≤ i → count ≤ 960 → Tallied limit count p parts resets
  tallying_done i parts resets k g h few =
      record {
        part = λ n l. omega (arith, k.part n, ap length (own_end limit n count p i h));
        reset = λ n l. sym (or-false (is_marked resets n)) ∙ ap (λ (us : List Update). is_marked resets n || any is_reset us) (sym (own_end limit n count p i h)) ∙ k.reset n;
        few = λ n. omega (arith, k.few n);
        bits = k.bits;
        numbers = k.numbers;
        marks = k.marks;
      }
