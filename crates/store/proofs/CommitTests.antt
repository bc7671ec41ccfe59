-- The tests of an update, 2, 1 and 3, and of a commit, 2, 1 and 6, by the tests 2 and 1 on the image alone. Assumes nothing.
use mathlib.Core.Path.{◌≡◌, refl, sym, ap, ◌∙◌}
use mathlib.Core.Bool.{Bool, true, false, not, ◌&&◌}
use mathlib.Core.List.{List}
use Prim.Native.Nat.{ℕ, zero, suc, ◌<◌, ◌≤◌}
use native.Mathlib.Omega.{arith}
use lib.Dec.{ltb, leb, eqb}
use borrow.Author.Tests.{eq-eqb, ne_eqb, eqb-true, lt-ltb, le-ltb, le-leb, lt-leb}
use Rattle.std.specs.Prelude.{Result, Ok}
use Rattle.chip.specs.Geometry.{Geometry, geometry_of, page_size}
use Rattle.promise.specs.Plain.{refuses, accepted, admission, commit_refusal, has_blocks, is_chip_size, is_torn_size, last_number, or_else, when}
use Rattle.store.specs.declared.answer.Refusal.{Refusal}
use Rattle.store.specs.declared.state.Numbers.{Numbers}
use Rattle.store.specs.AdmitCode.{CommitBegins, denied, idle, full, plans, ChipOf, update_tests, commit_tests, answer_for}
use Rattle.store.specs.Parts.{with_free}
use Rattle.store.proofs.AdmitLaws.{admission_chip}

-- a refusal by its number
refusal_for : (n : ℕ) → 0 < n → refuses n ≡ answer_for n
refusal_for zero h = absurd (omega arith)
refusal_for (suc n) h = refl

-- ---- of an update, where x is what the tests 2 and 1 give
module _ (g : Geometry) (on : Bool) (B p len x : ℕ) (e : x ≡ admission g on B len) where
  pub update_first : 0 < x → refuses x ≡ answer_for (update_tests g on B p len)
  update_first h = refusal_for x h ∙ ap answer_for (or_first x (when 3 (leb 16 p)) h ∙ ap (λ (y : ℕ). or_else y (when 3 (leb 16 p))) e)
    where
      or_first : (a b : ℕ) → 0 < a → a ≡ or_else a b
      or_first zero b h = absurd (omega arith)
      or_first (suc a) b h = refl

  update_then : x ≡ 0 → (b : Bool) → leb 16 p ≡ b → answer_for (when 3 b) ≡ answer_for (update_tests g on B p len)
  update_then z b q = ap answer_for (ap (λ (y : ℕ). or_else y (when 3 b)) (sym z ∙ e) ∙ ap (λ (c : Bool). or_else (admission g on B len) (when 3 c)) (sym q))

  pub update_full : x ≡ 0 → 16 ≤ p → refuses 3 ≡ answer_for (update_tests g on B p len)
  update_full z h = update_then z true (le-leb 16 p h)

  pub update_passes : x ≡ 0 → p < 16 → accepted ≡ answer_for (update_tests g on B p len)
  update_passes z h = update_then z false (lt-leb 16 p h)

-- ---- of a commit
-- 2 and 1 with a torn slice: those on the image alone, then the slice
first_torn : (on c t b : Bool)
    → or_else (or_else (when 2 (not on)) (when 1 (not (c && b)))) (when 1 (not t)) ≡ or_else (when 2 (not on)) (when 1 (not (c && (t && b))))
first_torn false c t b = refl
first_torn true false t b = refl
first_torn true true true true = refl
first_torn true true true false = refl
first_torn true true false true = refl
first_torn true true false false = refl

module _ (g : Geometry) (on : Bool) (B p G len torn : ℕ) where
  abbrev later : ℕ
  later = when 6 (ltb 0 p && eqb G last_number)

  abbrev asks : ℕ → ℕ
  asks x = or_else (or_else x (when 1 (not (is_torn_size g torn)))) later

  tests_are : (x : ℕ) → x ≡ admission g on B len → asks x ≡ commit_tests g on B p G len torn
  tests_are x e = ap asks e ∙ ap (λ (y : ℕ). or_else y later) (first_torn on (is_chip_size g len) (is_torn_size g torn) (has_blocks g B len))

  module _ (x : ℕ) (e : x ≡ admission g on B len) where
    pub commit_first : 0 < x → refuses x ≡ answer_for (commit_tests g on B p G len torn)
    commit_first h = refusal_for x h ∙ ap answer_for (or_or x (when 1 (not (is_torn_size g torn))) later h ∙ tests_are x e)
      where
        or_or : (a b c : ℕ) → 0 < a → a ≡ or_else (or_else a b) c
        or_or zero b c h = absurd (omega arith)
        or_or (suc a) b c h = refl

    module _ (z : x ≡ 0) where
      asks_by : (t : Bool) (n : ℕ) → is_torn_size g torn ≡ t → later ≡ n → or_else (when 1 (not t)) n ≡ commit_tests g on B p G len torn
      asks_by t n q l =
          ap (λ (y : ℕ). or_else (or_else y (when 1 (not t))) n) (sym z)
          ∙ ap (λ (c : Bool). or_else (or_else x (when 1 (not c))) n) (sym q)
          ∙ ap (λ (m : ℕ). or_else (or_else x (when 1 (not (is_torn_size g torn)))) m) (sym l)
          ∙ tests_are x e

      pub commit_torn : (torn ≡ page_size g → ⊥) → refuses 1 ≡ answer_for (commit_tests g on B p G len torn)
      unfolding is_torn_size
      commit_torn h = ap answer_for (asks_by false later (ne_eqb torn (page_size g) h) refl)

      module _ (t : torn ≡ page_size g) where
        by_later : (n : ℕ) → later ≡ n → n ≡ commit_tests g on B p G len torn
        unfolding is_torn_size
        by_later n l = asks_by true n (eq-eqb torn (page_size g) t) l

        pub commit_idles : p ≡ 0 → accepted ≡ answer_for (commit_tests g on B p G len torn)
        commit_idles h = ap answer_for (by_later 0 (rw (le-ltb 0 p (omega arith))))

        pub commit_last : 0 < p → last_number ≤ G → G < 4294967296 → refuses 6 ≡ answer_for (commit_tests g on B p G len torn)
        commit_last h l u = ap answer_for (by_later 6 (rw (lt-ltb 0 p h, eq-eqb G last_number (omega arith))))

        pub commit_passes : 0 < p → G < last_number → accepted ≡ answer_for (commit_tests g on B p G len torn)
        commit_passes h l = ap answer_for (by_later 0 (rw (lt-ltb 0 p h, ne_eqb G last_number (λ q. omega arith))))

-- what a commit knows that the tests pass
parts_passed : (on c t b : Bool) → or_else (when 2 (not on)) (when 1 (not (c && (t && b)))) ≡ 0 → (t ≡ true) × (or_else (when 2 (not on)) (when 1 (not (c && b))) ≡ 0)
parts_passed true true true true e = (refl, refl)
parts_passed true true true false e = absurd (omega arith)
parts_passed true true false b e = absurd (omega arith)
parts_passed true false t b e = absurd (omega arith)
parts_passed false c t b e = absurd (omega arith)

or_none : (a b : ℕ) → or_else a b ≡ 0 → (a ≡ 0) × (b ≡ 0)
or_none zero b e = (refl, e)
or_none (suc a) b e = absurd (omega arith)

six_none : (p G : ℕ) → when 6 (ltb 0 p && eqb G last_number) ≡ 0 → 0 < p → G < 4294967296 → G < last_number
six_none p G e h u = below (λ (q : G ≡ last_number). six_some (when 6 (ltb 0 p && eqb G last_number)) e (rw (lt-ltb 0 p h, eq-eqb G last_number q)))
  where
    six_some : (n : ℕ) → n ≡ 0 → n ≡ 6 → ⊥
    six_some n a b = omega arith

    below : (G ≡ last_number → ⊥) → G < last_number
    below d = omega arith

-- the numbers of a commit past its tests
pub record Past (g : Geometry) (on : Bool) (B p G len torn : ℕ) : Type 0 where
  pub first : commit_refusal g on B len torn ≡ 0
  pub chip : ChipOf g B len
  pub slice : torn ≡ page_size g
  pub number : 0 < p → G < last_number

pub commits_past : (g : Geometry) (on : Bool) (B p G len torn : ℕ) → G < 4294967296 → commit_tests g on B p G len torn ≡ 0 → Past g on B p G len torn
unfolding is_torn_size
commits_past g on B p G len torn u e =
    let w = or_none (commit_refusal g on B len torn) (when 6 (ltb 0 p && eqb G last_number)) e in
    let q = parts_passed on (is_chip_size g len) (is_torn_size g torn) (has_blocks g B len) w.0 in
    record { first = w.0; chip = admission_chip g on B len q.1; slice = eqb-true torn (page_size g) q.0; number = λ h. six_none p G w.1 h u }

-- the free numbers are not tested
pub begins_free : (m : Numbers) (free : List ℕ) (len torn : ℕ) (r : Result Bool Refusal) → CommitBegins m len torn r → CommitBegins (with_free m free) len torn r
begins_free m free len torn r (denied a h e) = denied a h e
begins_free m free len torn r (idle e p) = idle e p
begins_free m free len torn r (full e p k) = full e p k
begins_free m free len torn r (plans e p k) = plans e p k

-- ---- a commit or a forecast that goes on to its plan
pub record Planning (m : Numbers) (len torn : ℕ) : Type 0 where
  pub first : commit_refusal (geometry_of m.nand) m.on m.blocks len torn ≡ 0
  pub chip : ChipOf (geometry_of m.nand) m.blocks len
  pub slice : torn ≡ page_size (geometry_of m.nand)
  pub pending : 0 < m.pending
  pub number : m.commit < last_number
  pub fits : m.count ≤ 960

pub planning : (m : Numbers) (len torn : ℕ) → m.commit < 4294967296 → CommitBegins m len torn (Ok true) → Planning m len torn
planning m len torn u (plans e p k) =
    let w = commits_past (geometry_of m.nand) m.on m.blocks m.pending m.commit len torn u e in
    record { first = w.first; chip = w.chip; slice = w.slice; pending = p; number = w.number p; fits = k }
