-- What the structs of the code hold: a line read, a text to write.
use Rattle.std.specs.Prelude.{◌≡◌, Bool, true, false, Option, List, [], ◌∷◌, ◌++◌, ℕ, ◌≤◌, min, length, take}
use Rattle.frames.specs.declared.line.Line.{Line}
use Rattle.frames.specs.declared.output.Text.{Text}
use Rattle.store.specs.declared.step.Call.{Call}
use Rattle.frames.specs.Frames.{frame_of}

-- a line holds the bytes bs: the first 18 of them, and their number, 19 for more than 18
pub record LineHolds (l : Line) (bs : List ℕ) : Type 0 where
  pub len : l.len ≡ min 19 (length bs)
  pub bytes : take l.len l.bytes ≡ take 18 bs

-- r holds what l holds and a byte behind it
unfoldable pub Longer : Line → ℕ → Line → Type 0
Longer l b r = (bs : List ℕ) → LineHolds l bs → LineHolds r (bs ++ (b ∷ []))

-- no bytes
abbrev pub is_none : List ℕ → Bool
is_none [] = true
is_none (b ∷ bs) = false

-- r says whether a line holds no bytes
unfoldable pub Empties : Line → Bool → Type 0
Empties l r = (bs : List ℕ) → LineHolds l bs → r ≡ is_none bs

-- f is the frame of whatever the line holds
unfoldable pub Frames : Line → Option Call → Type 0
Frames l f = (bs : List ℕ) → LineHolds l bs → f ≡ frame_of bs

-- a text says bs: these bytes and a line feed
pub record TextSays (t : Text) (bs : List ℕ) : Type 0 where
  pub len : t.len ≤ 11
  pub bytes : take t.len t.bytes ≡ bs ++ (10 ∷ [])
