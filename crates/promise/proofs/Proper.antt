-- Look up, insert and delete are proper: they are refused only with the numbers they name. Assumes nothing.
use mathlib.Core.Path.{◌≡◌, refl, sym, ap, ◌∙◌}
use mathlib.Core.Bool.{Bool, true, false, not, ◌&&◌}
use mathlib.Core.List.{List, [], ◌∷◌}
use Prim.Native.Nat.{ℕ, suc, ◌*◌}
use lib.Dec.{eqb}
use borrow.Author.Tests.{not-true, eqb-true, eq-eqb}
use Rattle.lists.proofs.Tests.{cases, clash, and_left, and_right}
use Rattle.tree.specs.Tree.{Found, absent, found, find, is_absent}
use Rattle.tree.specs.Insert.{insert}
use Rattle.promise.specs.Plain.{when, is_refused, looked_up, looking_up, insertion, deletion}
use Rattle.promise.specs.Calls.{is_one_of, tells_or, ProperRead, ProperUpdate}
use Rattle.promise.proofs.Promise.{when_is}

-- a number that is one of these is not m
pub apart_from : (n m : ℕ) (ns : List ℕ) → is_one_of n ns ≡ true → is_one_of m ns ≡ false → n ≡ m → ⊥
apart_from n m ns e f h = clash (ap (λ k. is_one_of k ns) (sym h) ∙ e) f

-- lists with no number in common
abbrev pub apart_lists : List ℕ → List ℕ → Bool
apart_lists [] ns = true
apart_lists (m ∷ ms) ns = not (is_one_of m ns) && apart_lists ms ns

pub none_of : (n : ℕ) (ms ns : List ℕ) → apart_lists ms ns ≡ true → is_one_of n ns ≡ true → is_one_of n ms ≡ false
none_of n [] ns f e = refl
none_of n (m ∷ ms) ns f e =
    cases (eqb n m)
    (λ t. absurd (apart_from n m ns e (not-true (is_one_of m ns) (and_left (not (is_one_of m ns)) (apart_lists ms ns) f)) (eqb-true n m t)))
    (λ t. rw t (none_of n ms ns (and_right (not (is_one_of m ns)) (apart_lists ms ns) f) e))

pub when_one : (n m : ℕ) (b : Bool) → when (suc n) b ≡ suc m → is_one_of (suc m) (suc n ∷ []) ≡ true
when_one n m b e = let q = when_is (suc n) m b e in rw (eq-eqb (suc m) (suc n) q)

looked_range : (f : Found) → tells_or (4 ∷ []) (looked_up f) ≡ true
looked_range absent = refl
looked_range (found v) = refl

pub look_up_proper : (k : ℕ) → ProperRead (looking_up k)
unfolding looking_up
look_up_proper k = record { range = λ p. looked_range (find k p.present); own = λ n e. none_of n (4 ∷ []) (1 ∷ 2 ∷ 10 ∷ []) refl e }

pub insert_proper : (k v : ℕ) → ProperUpdate (insertion k v)
unfolding insertion
insert_proper k v = record { range = λ B t n e. when_one 4 n (is_refused (insert (8 * B) k v t)) e; own = λ n e. none_of n (5 ∷ []) (1 ∷ 2 ∷ 3 ∷ 10 ∷ []) refl e }

pub delete_proper : (k : ℕ) → ProperUpdate (deletion k)
unfolding deletion
delete_proper k = record { range = λ B t n e. when_one 3 n (is_absent (find k t)) e; own = λ n e. none_of n (4 ∷ []) (1 ∷ 2 ∷ 3 ∷ 10 ∷ []) refl e }
