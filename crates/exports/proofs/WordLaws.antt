-- The numbers of a state and a caller's words.
use mathlib.Core.Bool.{Bool, true, false}
use mathlib.Core.Path.{◌≡◌, refl, ap}
use mathlib.Core.List.{List, [], ◌∷◌}
use Prim.Native.Nat.{ℕ, ◌%◌, ◌<◌}
use lib.Dec.{eqb}
use mir.Val.{bool_byte}
use lib.ListN.{get_or}
use Rattle.chip.specs.Geometry.{Nand}
use Rattle.store.specs.declared.state.Numbers.{Numbers}
use Rattle.store.specs.Parts.{with_free}
use Rattle.exports.specs.Words.{bit, part_in, part_word, Loads, words_of}

-- a bool as its byte is its word
pub byte_bit : (b : Bool) → bool_byte b ≡ bit b
byte_bit true = refl
byte_bit false = refl

-- numbers read from words of 32 bits one by one
pub loaded : (words free : List ℕ) (m : Nand) → m ≡ part_in (get_or words 5 0) → ((i : ℕ) → get_or words i 0 < 4294967296)
    → Loads words free (record {
      on = eqb (get_or words 0 0) 1;
      nand = m;
      blocks = get_or words 1 0;
      commit = get_or words 2 0;
      pending = get_or words 3 0;
      free = free;
      count = get_or words 4 0;
    })
loaded words free m e fits = record { is = cc; blocks = fits 1; count = fits 4 }

-- with other free numbers
pub loaded_free : (words none free : List ℕ) (n : Numbers) → Loads words none n → Loads words free (with_free n free)
loaded_free words none free n e = record { is = ap (λ (m : Numbers). with_free m free) e.is; blocks = e.blocks; count = e.count }

-- words written one by one
pub saved : (n : Numbers) (a b c d : ℕ) → a ≡ bit n.on → b ≡ n.blocks % 4294967296 → c ≡ n.count % 4294967296 → d ≡ part_word n.nand
    → ◌≡◌ {A = List ℕ} (a ∷ b ∷ n.commit ∷ n.pending ∷ c ∷ d ∷ []) (words_of n)
saved n a b c d e f g h = cc
