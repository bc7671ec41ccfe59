-- Frames and answers as lines of hexadecimal. A line is the list of its bytes, without the line feed.
use Rattle.std.specs.Prelude.{Bool, cond, Option, Some, None, Ok, Err, ℕ, zero, suc, ◌+◌, ◌*◌, ◌-◌, ◌/◌, ◌%◌, ◌^◌, ltb, eqb, length, take, drop}
use mathlib.Core.List.{List, [], ◌∷◌, ◌++◌, foldl}
use Rattle.lists.specs.Lists.{all}
use Rattle.chip.specs.declared.geometry.Nand.TheVariants.{Small}
use Rattle.store.specs.declared.step.Call.{Call}
use Rattle.store.specs.declared.step.Call.TheVariants.{Format, Insert, Delete, LookUp, Commit, Mount}
use Rattle.store.specs.Answers.{Told, refusal_in, step_answer}
use Rattle.frames.specs.declared.frame.Fields.{Fields}
use Rattle.frames.specs.declared.frame.Fields.TheVariants.{Bare, Named, Single, Marked, Double}

-- the number of a digit, 0 to 9 and A to F; 16 for a byte that is no digit
abbrev pub digit_of : ℕ → ℕ
digit_of b = cond (ltb b 48) 16 (cond (ltb b 58) (b - 48) (cond (ltb b 65) 16 (cond (ltb b 71) (b - 55) 16)))

-- whether a byte is a digit
abbrev pub is_digit : ℕ → Bool
is_digit b = ltb (digit_of b) 16

-- every byte is a digit
abbrev pub all_digits : List ℕ → Bool
all_digits bs = all is_digit bs

-- a number with one more digit behind it
abbrev pub more : ℕ → ℕ → ℕ
more v b = 16 * v + digit_of b

-- the number that digits give, the most significant first
abbrev pub value : List ℕ → ℕ
value bs = foldl more 0 bs

-- the number that bytes give, none where one is no digit
abbrev pub number_in : List ℕ → Option ℕ
number_in bs = cond (all_digits bs) (Some (value bs)) None

-- 00 format of the small part, with power enough
abbrev pub bare : ℕ → Option Call
bare kind = cond (eqb kind 0) (Some (Format Small 4294967295)) None

-- 02 delete key; 03 look up key; 04 commit allowance; 05 mount of the small part with an allowance
abbrev pub single : ℕ → ℕ → Option Call
single kind n =
    cond (eqb kind 2) (Some (Delete n))
    (cond (eqb kind 3) (Some (LookUp n))
    (cond (eqb kind 4) (Some (Commit n))
    (cond (eqb kind 5) (Some (Mount Small n)) None)))

-- 01 insert key value
abbrev pub double : ℕ → ℕ → ℕ → Option Call
double kind k v = cond (eqb kind 1) (Some (Insert k v)) None

-- the kind: the first two digits
abbrev pub kind_of : List ℕ → ℕ
kind_of bs = value (take 2 bs)

-- the number whose 8 digits start at index i
abbrev pub number_at : ℕ → List ℕ → ℕ
number_at i bs = value (take 8 (drop i bs))

-- the byte whose 2 digits start at index i
abbrev pub byte_at : ℕ → List ℕ → ℕ
byte_at i bs = value (take 2 (drop i bs))

-- a frame is digits alone: a kind, and the numbers of that kind
unfoldable pub frame_of : List ℕ → Option Call
frame_of bs =
    cond (all_digits bs)
    (cond (eqb (length bs) 2) (bare (kind_of bs))
    (cond (eqb (length bs) 10) (single (kind_of bs) (number_at 2 bs))
    (cond (eqb (length bs) 18) (double (kind_of bs) (number_at 2 bs) (number_at 10 bs)) None)))
    None

-- the numbers of a line, by its length, where it is digits alone
unfoldable pub fields_of : List ℕ → Option Fields
fields_of bs =
    cond (all_digits bs)
    (cond (eqb (length bs) 2) (Some (Bare (kind_of bs)))
    (cond (eqb (length bs) 4) (Some (Named (kind_of bs) (byte_at 2 bs)))
    (cond (eqb (length bs) 10) (Some (Single (kind_of bs) (number_at 2 bs)))
    (cond (eqb (length bs) 12) (Some (Marked (kind_of bs) (number_at 2 bs) (byte_at 10 bs)))
    (cond (eqb (length bs) 18) (Some (Double (kind_of bs) (number_at 2 bs) (number_at 10 bs))) None)))))
    None

-- the call of these numbers
abbrev pub framed : Fields → Option Call
framed (Bare kind) = bare kind
framed (Single kind n) = single kind n
framed (Double kind k v) = double kind k v
framed (Named kind byte) = None
framed (Marked kind n byte) = None

-- the digit of a number below 16
abbrev pub digit_text : ℕ → ℕ
digit_text d = cond (ltb d 10) (48 + d) (55 + d)

-- the lowest k digits of n, the most significant first
abbrev pub hex_text : ℕ → ℕ → List ℕ
hex_text n zero = []
hex_text n (suc k) = digit_text (n / 16 ^ k % 16) ∷ hex_text n k

-- the value found in 8 digits, nothing with another answer
abbrev pub value_text : Told → List ℕ
value_text (Ok (Some v)) = hex_text v 8
value_text (Ok None) = []
value_text (Err e) = []

-- the refusal in two digits, 00 for none, then the value found
unfoldable pub answer_text : Told → List ℕ
answer_text a = hex_text (refusal_in (step_answer a)) 2 ++ value_text a

-- FF, for a line that is no frame
abbrev pub bad_text : List ℕ
bad_text = 70 ∷ 70 ∷ []
