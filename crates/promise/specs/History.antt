-- The history of a plain store since its start or its last finished format: the updates that it keeps, and those that are pending. The newest is first.
use Rattle.std.specs.Prelude.{◌≡◌, Bool, cond, List, [], ◌∷◌, ◌++◌, ℕ, ◌*◌, ◌<◌, ◌≤◌, length}
use Rattle.chip.specs.Geometry.{geometry_of, blocks_of}
use Rattle.tree.specs.Tree.{Table, Found, absent, found, find}
use Rattle.tree.specs.Step6.{top, Tree}
use Rattle.tree.specs.Thick.{Thick}
use Rattle.promise.specs.Plain.{Plain, UpdateCall, Said, nothing, holds, gone, Call, reads, updates, forecasts, formats, commits, mounts, Verdict, denied, cut, passed, verdict, leaf}
use Rattle.promise.specs.Calls.{Store}
use Rattle.promise.specs.Steps.{Act, read, update, forecast, format, commit, mount, Step, fed, is_ten, counts, next}

-- a tree of a chip with B blocks, 32 at most, in which every node but the root has 8 entries or more, a leaf c or more; the root above level 0 has 2 or more
pub record TreeOf (c B : ℕ) (t : Table) : Type 0 where
  pub tree : Tree t
  pub size : length t ≡ 8 * B
  pub blocks : B ≤ 32
  pub thick : Thick c t

-- the value of a key after an update that said so
abbrev pub after_said : Said → Found → Found
after_said nothing f = f
after_said (holds v) f = found v
after_said gone f = absent

-- an update whose step makes trees of the chip, thick by c, of such trees; inserts and deletes do, where c is at most 8
abbrev pub KeepsThick : ℕ → UpdateCall → Type 0
KeepsThick c u = (B : ℕ) (t : Table) → TreeOf c B t → u.refusal B t ≡ 0 → TreeOf c B (u.step B t)

-- and which makes of each key's value what it says
pub record Lawful (u : UpdateCall) : Type 0 where
  pub tree : KeepsThick 0 u
  pub value : (B : ℕ) (t : Table) (k : ℕ) → TreeOf 0 B t → u.refusal B t ≡ 0 → k < top → find k (u.step B t) ≡ after_said (u.says k) (find k t)

-- a call of which Q holds, if it is an update
abbrev pub OfUpdate : (UpdateCall → Type 0) → Act → Type 0
OfUpdate Q (read r) = Unit {0}
OfUpdate Q (update u) = Q u
OfUpdate Q forecast = Unit {0}
OfUpdate Q (format n a torn) = Unit {0}
OfUpdate Q (commit a torn) = Unit {0}
OfUpdate Q (mount n a torn) = Unit {0}

abbrev pub LawfulAct : Act → Type 0
LawfulAct x = OfUpdate Lawful x

-- the value of a key after the updates: what the newest that speaks of it says, or what was there before
abbrev pub value_of : ℕ → Table → List UpdateCall → Found
value_of k t [] = find k t
value_of k t (u ∷ us) = after_said (u.says k) (value_of k t us)

-- none of the updates speaks of the key
abbrev pub Silent : ℕ → List UpdateCall → Type 0
Silent k [] = Unit {0}
Silent k (u ∷ us) = (u.says k ≡ nothing) × Silent k us

-- the tree it began with, and the updates since
pub record History : Type 0 where
  pub base : Table
  pub kept : List UpdateCall
  pub pending : List UpdateCall

abbrev pub begun : Table → History
begun t = record { base = t; kept = []; pending = [] }

abbrev pub flushed : History → History
flushed l = record { base = l.base; kept = l.pending ++ l.kept; pending = [] }

abbrev pub dropped : History → History
dropped l = record { base = l.base; kept = l.kept; pending = [] }

-- the history after a call: a commit keeps what was pending, where it is finished or takes effect; a mount and a cut drop it; a format starts anew
abbrev pub history_after : Verdict → Bool → Call → History → History
history_after (denied n) w c l = l
history_after passed w (reads r image) l = l
history_after passed w (updates u image) l = record { base = l.base; kept = l.kept; pending = u ∷ l.pending }
history_after passed w (forecasts image) l = l
history_after passed w (formats n a image torn) l = begun (leaf (blocks_of (geometry_of n) image))
history_after passed w (commits a image torn) l = flushed l
history_after passed w (mounts n a image torn) l = dropped l
history_after cut w (reads r image) l = l
history_after cut w (updates u image) l = l
history_after cut w (forecasts image) l = l
history_after cut w (formats n a image torn) l = dropped l
history_after cut w (commits a image torn) l = cond w (flushed l) (dropped l)
history_after cut w (mounts n a image torn) l = dropped l

module _ (S : Store) where
  abbrev pub next_history : Plain → S.Image → Step S → History → History
  next_history p i x l = history_after (verdict p (fed x.act (S.size x.lent)) (is_ten x.answer)) (counts S i x) (fed x.act (S.size x.lent)) l

  -- the history after a list
  abbrev pub last_history : Plain → S.Image → List (Step S) → History → History
  last_history p i [] l = l
  last_history p i (x ∷ xs) l = last_history (next S p i x) x.image xs (next_history p i x l)

  -- the updates of a list that are kept or pending at its end, where nothing is pending before it
  abbrev pub since : Plain → S.Image → List (Step S) → History
  since p i xs = last_history p i xs (begun [])

-- a list of which Q holds of every update
abbrev pub AllUpdates : (S : Store) → (UpdateCall → Type 0) → List (Step S) → Type 0
AllUpdates S Q [] = Unit {0}
AllUpdates S Q (x ∷ xs) = OfUpdate Q x.act × AllUpdates S Q xs

abbrev pub AllLawful : (S : Store) → List (Step S) → Type 0
AllLawful S xs = AllUpdates S Lawful xs
