-- The first tests of the calls: what the functions that do them answer.
use Rattle.std.specs.Prelude.{◌≡◌, Bool, true, false, cond, ℕ, zero, suc, ◌*◌, ◌≤◌, ◌<◌, leb, Option, Some, None, Result, Ok, Err}
use Rattle.chip.specs.Geometry.{Geometry, geometry_of, blocks_of, block_size, page_size}
use Rattle.promise.specs.Plain.{Answer, refuses, accepted, or_else, when, admission, commit_refusal, commits, numbers_refusal, is_torn_size}
use Rattle.store.specs.declared.answer.Refusal.{Refusal}
use Rattle.store.specs.declared.answer.Refusal.TheVariants.{Last}
use Rattle.store.specs.declared.state.Numbers.{Numbers}
use Rattle.store.specs.Answers as A
use Rattle.store.specs.Answers.{answer_of, refusal_number}

-- an image of a chip with b blocks
pub record ChipOf (g : Geometry) (b len : ℕ) : Type 0 where
  pub blocks : b ≡ blocks_of g len
  pub least : 3 ≤ b
  pub most : b ≤ 32
  pub size : len ≡ b * block_size g

-- of a call on a state with this `on` and these blocks, and an image of this length
pub record Admitted (g : Geometry) (on : Bool) (b len : ℕ) (r : A.Answer) : Type 0 where
  pub number : refusal_number r ≡ admission g on b len
  pub chip : r ≡ Ok tt → ChipOf g b len

-- ---- the tests on the state's numbers: the refusal, 0 for none
-- of insert and delete, 2, 1 and 3
abbrev pub update_tests : Geometry → Bool → (B pending len : ℕ) → ℕ
update_tests g on B pending len = or_else (admission g on B len) (when 3 (leb 16 pending))

-- of commit, 2, 1 and 6
abbrev pub commit_tests : Geometry → Bool → (B pending number len torn : ℕ) → ℕ
commit_tests g on B pending number len torn = or_else (commit_refusal g on B len torn) (numbers_refusal pending number (commits 0 len torn))

-- the same on the numbers of a state
abbrev pub tests_of : Numbers → (len torn : ℕ) → ℕ
tests_of n len torn = commit_tests (geometry_of n.nand) n.on n.blocks n.pending n.commit len torn

-- a refusal's number as an answer, 0 as accepted
abbrev pub answer_for : ℕ → Answer
answer_for zero = accepted
answer_for (suc n) = refuses (suc n)

-- how a commit or a forecast begins: refused, with nothing pending, with more units than the buffer holds, or past all these
pub data CommitBegins (n : Numbers) (len torn : ℕ) : Result Bool Refusal → Type 0 where
  denied : (e : Refusal) → 0 < tests_of n len torn → answer_of (Err e) ≡ answer_for (tests_of n len torn) → CommitBegins n len torn (Err e)
  idle : tests_of n len torn ≡ 0 → n.pending ≡ 0 → CommitBegins n len torn (Ok false)
  full : tests_of n len torn ≡ 0 → 0 < n.pending → 960 < n.count → CommitBegins n len torn (Err Last)
  plans : tests_of n len torn ≡ 0 → 0 < n.pending → n.count ≤ 960 → CommitBegins n len torn (Ok true)

-- blocks, 0 for none
abbrev pub blocks_in : Option ℕ → ℕ
blocks_in (Some b) = b
blocks_in None = 0

-- of an image and a torn slice of these lengths
pub record Sized (g : Geometry) (len slice : ℕ) (found : Option ℕ) : Type 0 where
  pub is : blocks_in found ≡ cond (is_torn_size g slice) (blocks_of g len) 0
  pub torn : (b : ℕ) → found ≡ Some b → slice ≡ page_size g
  pub chip : (b : ℕ) → found ≡ Some b → ChipOf g b len
