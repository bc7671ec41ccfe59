-- What the bytes of standard input do to the store: each line that ends is taken as a frame, and the call of a frame is one step.
use Rattle.std.specs.Prelude.{◌≡◌, Option, Some, None, List, [], ◌∷◌, ℕ, ◌+◌, ◌<◌, length, take, slice_index}
use Rattle.lists.specs.Lists.{flat}
use Rattle.store.specs.declared.state.State.{State}
use Rattle.store.specs.declared.step.Call.{Call}
use Rattle.store.specs.RunsTo.{RunsTo}
use Rattle.frames.specs.declared.line.Line.{Line}
use Rattle.frames.specs.Frames.{frame_of}
use Rattle.frames.specs.LineCode.{LineHolds}
use Rattle.frames.specs.Lines.{lines_in, line_after}

-- the call of a line, none where it is no frame; and the calls of lines, in order
abbrev pub framed_calls : Option Call → List Call
framed_calls None = []
framed_calls (Some c) = c ∷ []

unfoldable pub call_in : List ℕ → List Call
call_in l = framed_calls (frame_of l)

abbrev pub calls_in : List (List ℕ) → List Call
calls_in ls = flat call_in ls

-- a line that ends, whatever it holds: its call is made
unfoldable pub EndsLine : (torn : List ℕ) (l : Line) (s : State) (i : List ℕ) (s' : State) (i' : List ℕ) → Type 0
EndsLine torn l s i s' i' = (bs : List ℕ) → LineHolds l bs → RunsTo torn (call_in bs) s i s' i'

-- bytes read, whatever the line begun holds: the calls of the lines that end in them are made
pub record TakesBytes (torn bytes begun : List ℕ) (s : State) (i : List ℕ) (l' : Line) (s' : State) (i' : List ℕ) : Type 0 where
  pub line : LineHolds l' (line_after begun bytes)
  pub calls : RunsTo torn (calls_in (lines_in begun bytes)) s i s' i'

unfoldable pub TakesIn : (torn bytes : List ℕ) (l : Line) (s : State) (i : List ℕ) (l' : Line) (s' : State) (i' : List ℕ) → Type 0
TakesIn torn bytes l s i l' s' i' = (begun : List ℕ) → LineHolds l begun → TakesBytes torn bytes begun s i l' s' i'

-- some bytes read
pub record TakesSome (torn : List ℕ) (l : Line) (s : State) (i : List ℕ) (l' : Line) (s' : State) (i' : List ℕ) : Type 0 where
  pub bytes : List ℕ
  pub takes : TakesIn torn bytes l s i l' s' i'

-- ---- where a read or a write fails, the state and the line begun are gone: what was done to the image
-- a line that ended, and whose answer could not be written: its call was made
pub record EndsUntold (torn : List ℕ) (l : Line) (s : State) (i i' : List ℕ) : Type 0 where
  pub state : State
  pub ends : EndsLine torn l s i state i'

-- whatever the line begun holds: the calls of the lines that end in these bytes are made
unfoldable pub CallsIn : (torn bytes : List ℕ) (l : Line) (s : State) (i : List ℕ) (s' : State) (i' : List ℕ) → Type 0
CallsIn torn bytes l s i s' i' = (begun : List ℕ) → LineHolds l begun → RunsTo torn (calls_in (lines_in begun bytes)) s i s' i'

-- of the bytes read those up to the line feed at `feed` were taken, and the line that it ends was not answered
pub record TakesFirst (torn bytes : List ℕ) (l : Line) (s : State) (i i' : List ℕ) : Type 0 where
  pub feed : ℕ
  pub within : feed < length bytes
  pub is : slice_index bytes feed ≡ 10
  pub state : State
  pub calls : CallsIn torn (take (feed + 1) bytes) l s i state i'

-- some bytes were taken
pub record TakesPart (torn : List ℕ) (l : Line) (s : State) (i i' : List ℕ) : Type 0 where
  pub bytes : List ℕ
  pub state : State
  pub calls : CallsIn torn bytes l s i state i'
