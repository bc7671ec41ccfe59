-- What a line orders of the probe. A line is the list of its bytes, without the line feed.
use Rattle.std.specs.Prelude.{cond, Option, Some, None, List, ℕ, ltb, eqb, length}
use Rattle.chip.specs.declared.geometry.Nand.TheVariants.{Small, Large}
use Rattle.frames.specs.declared.frame.Fields.{Fields}
use Rattle.frames.specs.declared.frame.Fields.TheVariants.{Bare, Named, Single, Marked, Double}
use Rattle.frames.specs.Frames.{all_digits, kind_of, number_at, byte_at}
use Rattle.orders.specs.declared.order.Call.TheVariants.{Format, Insert, Delete, LookUp, Commit, Mount, Rebuild, Report, Show, Forecast}
use Rattle.orders.specs.declared.order.Setting.TheVariants.{Lend, Cut, SetImage, SetTorn, LendTorn, Sum, Noise, Name}
use Rattle.orders.specs.declared.order.Order.{Order}
use Rattle.orders.specs.declared.order.Order.TheVariants.{Calls, Sets}

-- 09 forecast; 15 sum
abbrev pub bare : ℕ → Option Order
bare kind = cond (eqb kind 9) (Some (Calls Forecast)) (cond (eqb kind 21) (Some (Sets Sum)) None)

-- 00 the small part, 01 the large part
abbrev pub part_of : ℕ → Option Order
part_of byte = cond (eqb byte 0) (Some (Sets (Name Small))) (cond (eqb byte 1) (Some (Sets (Name Large))) None)

-- 17 name a part
abbrev pub named : ℕ → ℕ → Option Order
named kind byte = cond (eqb kind 23) (part_of byte) None

-- 00 format, 04 commit, 05 mount and 0A rebuild with an allowance; 02 delete and 03 look up a key; 06 report a block; 07 show a page
abbrev pub call_of : ℕ → ℕ → Option Order
call_of kind n =
    cond (eqb kind 0) (Some (Calls (Format n)))
    (cond (eqb kind 2) (Some (Calls (Delete n)))
    (cond (eqb kind 3) (Some (Calls (LookUp n)))
    (cond (eqb kind 4) (Some (Calls (Commit n)))
    (cond (eqb kind 5) (Some (Calls (Mount n)))
    (cond (eqb kind 6) (Some (Calls (Report n)))
    (cond (eqb kind 7) (Some (Calls (Show n)))
    (cond (eqb kind 10) (Some (Calls (Rebuild n))) None)))))))

-- 10 lend blocks; 11 lend a length; 14 lend torn bytes; 16 noise from a seed
abbrev pub setting_of : ℕ → ℕ → Option Order
setting_of kind n =
    cond (eqb kind 16) (Some (Sets (Lend n)))
    (cond (eqb kind 17) (Some (Sets (Cut n)))
    (cond (eqb kind 20) (Some (Sets (LendTorn n)))
    (cond (eqb kind 22) (Some (Sets (Noise n))) None)))

-- a kind and one number: below 10 a call
abbrev pub single : ℕ → ℕ → Option Order
single kind n = cond (ltb kind 16) (call_of kind n) (setting_of kind n)

-- 12 set an image byte; 13 set a torn byte
abbrev pub marked : ℕ → ℕ → ℕ → Option Order
marked kind offset byte = cond (eqb kind 18) (Some (Sets (SetImage offset byte))) (cond (eqb kind 19) (Some (Sets (SetTorn offset byte))) None)

-- 01 insert key value
abbrev pub double : ℕ → ℕ → ℕ → Option Order
double kind k v = cond (eqb kind 1) (Some (Calls (Insert k v))) None

-- a frame is digits alone: a kind, and the numbers and bytes of that kind
unfoldable pub order_of : List ℕ → Option Order
order_of bs =
    cond (all_digits bs)
    (cond (eqb (length bs) 2) (bare (kind_of bs))
    (cond (eqb (length bs) 4) (named (kind_of bs) (byte_at 2 bs))
    (cond (eqb (length bs) 10) (single (kind_of bs) (number_at 2 bs))
    (cond (eqb (length bs) 12) (marked (kind_of bs) (number_at 2 bs) (byte_at 10 bs))
    (cond (eqb (length bs) 18) (double (kind_of bs) (number_at 2 bs) (number_at 10 bs)) None)))))
    None

-- the order of these numbers
abbrev pub ordered : Fields → Option Order
ordered (Bare kind) = bare kind
ordered (Named kind byte) = named kind byte
ordered (Single kind n) = single kind n
ordered (Marked kind offset byte) = marked kind offset byte
ordered (Double kind k v) = double kind k v
