-- The numbers of a state in a caller's six words, on, blocks, commit, pending, count, part; and its free node numbers, in four.
use Rattle.std.specs.Prelude.{◌≡◌, Bool, true, false, cond, List, [], ◌∷◌, ℕ, ◌%◌, ◌<◌, eqb, get_or}
use Rattle.chip.specs.declared.geometry.Nand.TheVariants.{Small, Large}
use Rattle.chip.specs.Geometry.{Nand}
use Rattle.store.specs.declared.state.Numbers.{Numbers}

-- a bool as a word
abbrev pub bit : Bool → ℕ
bit true = 1
bit false = 0

-- a part as a word, and the part of a word: 1 is the large part, any other number the small part
abbrev pub part_word : Nand → ℕ
part_word Small = 0
part_word Large = 1

abbrev pub part_in : ℕ → Nand
part_in w = cond (eqb w 1) Large Small

-- the numbers that the words hold, with these free numbers
abbrev pub numbers_in : List ℕ → List ℕ → Numbers
numbers_in words free =
    record {
      on = eqb (get_or words 0 0) 1;
      nand = part_in (get_or words 5 0);
      blocks = get_or words 1 0;
      commit = get_or words 2 0;
      pending = get_or words 3 0;
      free = free;
      count = get_or words 4 0;
    }

-- n are the numbers loaded from the words: blocks and count have 32 bits
pub record Loads (words free : List ℕ) (n : Numbers) : Type 0 where
  pub is : n ≡ numbers_in words free
  pub blocks : n.blocks < 4294967296
  pub count : n.count < 4294967296

-- the words of these numbers, blocks and count modulo 2 to the power 32
abbrev pub words_of : Numbers → List ℕ
words_of n =
    bit n.on ∷ n.blocks % 4294967296 ∷ n.commit ∷ n.pending ∷ n.count % 4294967296 ∷ part_word n.nand ∷ []
