-- What an order does to the store: a call is one step on the part of the image that is lent, with the torn bytes that are lent.
use Rattle.std.specs.Prelude.{◌≡◌, Option, Some, None, List, [], ◌∷◌, ℕ, ◌<◌, min, length, take, drop, slice_index}
use Rattle.chip.specs.Geometry.{Nand}
use Rattle.store.specs.declared.state.State.{State}
use Rattle.store.specs.declared.state.Wrote.{Wrote}
use Rattle.store.specs.Ensured.{Rebuilds}
use Rattle.store.specs.declared.step.Call.TheVariants as S
use Rattle.store.specs.RunsTo.{RunsTo}
use Rattle.frames.specs.declared.line.Line.{Line}
use Rattle.frames.specs.LineCode.{LineHolds}
use Rattle.frames.specs.Lines.{lines_in, line_after}
use Rattle.orders.specs.Orders.{order_of}
use Rattle.orders.specs.declared.order.Call.{Call}
use Rattle.orders.specs.declared.order.Order.{Order}
use Rattle.orders.specs.declared.order.Order.TheVariants.{Calls, Sets}
use Rattle.orders.specs.declared.order.Call.TheVariants.{Format, Insert, Delete, LookUp, Commit, Mount, Rebuild, Report, Show, Forecast}
use Rattle.probe.specs.declared.bed.Bed.{Bed}

-- a rebuild with this allowance, from state and image to state and image
pub record RebuildsTo (nand : Nand) (allowance : ℕ) (torn : List ℕ) (s : State) (i : List ℕ) (s' : State) (i' : List ℕ) : Type 0 where
  pub wrote : Wrote
  pub says : Rebuilds nand allowance torn s i wrote i'
  pub state : s' ≡ wrote.state

-- a call on what it is lent: one of a list, where a format and a mount name the part; a rebuild, which stands in no list and names it too; or a block report or show, which change nothing
abbrev pub Makes : Nand → Call → (torn : List ℕ) (s : State) (i : List ℕ) (s' : State) (i' : List ℕ) → Type 0
Makes nand (Format n) torn s i s' i' = RunsTo torn (S.Format nand n ∷ []) s i s' i'
Makes nand (Insert k v) torn s i s' i' = RunsTo torn (S.Insert k v ∷ []) s i s' i'
Makes nand (Delete k) torn s i s' i' = RunsTo torn (S.Delete k ∷ []) s i s' i'
Makes nand (LookUp k) torn s i s' i' = RunsTo torn (S.LookUp k ∷ []) s i s' i'
Makes nand (Commit n) torn s i s' i' = RunsTo torn (S.Commit n ∷ []) s i s' i'
Makes nand (Mount n) torn s i s' i' = RunsTo torn (S.Mount nand n ∷ []) s i s' i'
Makes nand (Rebuild n) torn s i s' i' = RebuildsTo nand n torn s i s' i'
Makes nand (Report b) torn s i s' i' = RunsTo torn [] s i s' i'
Makes nand (Show p) torn s i s' i' = RunsTo torn [] s i s' i'
Makes nand Forecast torn s i s' i' = RunsTo torn (S.Forecast ∷ []) s i s' i'

-- what the probe has between two lines: the part named and how much is lent, the torn bytes, the state and the image
pub record Rig : Type 0 where
  pub bed : Bed
  pub torn : List ℕ
  pub state : State
  pub image : List ℕ

-- the same from its parts
abbrev pub rig : Bed → (torn : List ℕ) (s : State) (i : List ℕ) → Rig
rig b torn s i = record { bed = b; torn = torn; state = s; image = i }

-- how many bytes of the image are lent, and how many torn bytes: no more than there are
abbrev pub lent_bytes : Rig → ℕ
lent_bytes h = min h.bed.image (length h.image)

abbrev pub lent_torn : Rig → ℕ
lent_torn h = min h.bed.torn (length h.torn)

-- a call on what is lent: the image stays as it was behind that, and so do the torn bytes, the part named and how much is lent
pub record CarriesCall (c : Call) (h k : Rig) : Type 0 where
  pub makes : Makes h.bed.nand c (take (lent_torn h) h.torn) h.state (take (lent_bytes h) h.image) k.state (take (lent_bytes h) k.image)
  pub behind : drop (lent_bytes h) k.image ≡ drop (lent_bytes h) h.image
  pub torn : k.torn ≡ h.torn
  pub bed : k.bed ≡ h.bed

-- an order carried out: a line that is no frame leaves everything as it was, a setting the state
abbrev pub CarriesOut : Option Order → (h k : Rig) → Type 0
CarriesOut None h k = k ≡ h
CarriesOut (Some (Calls c)) h k = CarriesCall c h k
CarriesOut (Some (Sets x)) h k = k.state ≡ h.state

-- a line that ends, whatever it holds: its order is carried out
unfoldable pub CarriesLine : Line → (h k : Rig) → Type 0
CarriesLine l h k = (bs : List ℕ) → LineHolds l bs → CarriesOut (order_of bs) h k

-- first P, then Q, with what the probe has between them
pub record Through (P Q : Rig → Type 0) : Type 0 where
  pub mid : Rig
  pub first : P mid
  pub rest : Q mid

-- the orders of these lines carried out, one after the other
abbrev pub CarriesLines : List (List ℕ) → (h k : Rig) → Type 0
CarriesLines [] h k = k ≡ h
CarriesLines (l ∷ ls) h k = Through (CarriesOut (order_of l) h) (λ (m : Rig). CarriesLines ls m k)

-- bytes read, whatever the line begun holds: the lines that end in them are carried out
pub record CarriesBytes (bytes begun : List ℕ) (h : Rig) (l' : Line) (k : Rig) : Type 0 where
  pub line : LineHolds l' (line_after begun bytes)
  pub lines : CarriesLines (lines_in begun bytes) h k

unfoldable pub CarriesIn : (bytes : List ℕ) (l : Line) (h : Rig) (l' : Line) (k : Rig) → Type 0
CarriesIn bytes l h l' k = (begun : List ℕ) → LineHolds l begun → CarriesBytes bytes begun h l' k

-- some bytes read
pub record CarriesSome (l : Line) (h : Rig) (l' : Line) (k : Rig) : Type 0 where
  pub bytes : List ℕ
  pub carries : CarriesIn bytes l h l' k

-- ---- where a read or a write fails, the state, the bed and the line begun are gone: what was done to the torn bytes and the image
-- what the torn bytes and the image are after these lines, in order
pub record LinesDone (ls : List (List ℕ)) (h : Rig) (torn image : List ℕ) : Type 0 where
  pub left : Rig
  pub carries : CarriesLines ls h left
  pub same_torn : left.torn ≡ torn
  pub same_image : left.image ≡ image

-- whatever the line begun holds: the lines that end in these bytes are carried out
unfoldable pub LinesIn : (bytes : List ℕ) (l : Line) (h : Rig) (torn image : List ℕ) → Type 0
LinesIn bytes l h torn image = (begun : List ℕ) → LineHolds l begun → LinesDone (lines_in begun bytes) h torn image

-- of the bytes read, the lines that end before the line feed at `feed` were carried out, and the line that it ends was not
pub record CarriesFirst (bytes : List ℕ) (l : Line) (h : Rig) (torn image : List ℕ) : Type 0 where
  pub feed : ℕ
  pub within : feed < length bytes
  pub is : slice_index bytes feed ≡ 10
  pub lines : LinesIn (take feed bytes) l h torn image

-- some bytes were taken
pub record CarriesPart (l : Line) (h : Rig) (torn image : List ℕ) : Type 0 where
  pub bytes : List ℕ
  pub lines : LinesIn bytes l h torn image
