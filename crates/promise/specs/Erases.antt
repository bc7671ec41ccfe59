-- Erases on record. Document 02, note 5: 'over any list of calls as in the promise that leaves the store on, each figure equals the whole erases of that block in it
-- since that start', the last finished mount or format; note 6: it 'counts anew' from a finished rebuild, which stands in no list. The proofs are in proofs/.
use Rattle.std.specs.Prelude.{◌≡◌, Bool, true, cond, ◌&&◌, List, [], ◌∷◌, ℕ, ◌+◌, ◌≤◌, take}
use Rattle.lists.specs.Lists.{any}
use Rattle.chip.specs.Geometry.{Nand, geometry_of, blocks_of}
use Rattle.chip.specs.Chip.{Op}
use Rattle.chip.specs.Erases.{erases_in}
use Rattle.tree.specs.Tree.{Table}
use Rattle.promise.specs.Calls.{Store}
use Rattle.promise.specs.Steps.{Act, read, update, forecast, format, commit, mount, is_accepted, boots, Step, Only, last_hands, Allowed, Runs, Rebuilt}
use Rattle.promise.specs.Promise.{Course}

module _ (S : Store) where
  -- a finished mount or format: the figures start anew
  abbrev pub begins : Step S → Bool
  begins x = boots x.act && is_accepted x.answer

  -- the steps after the last of these; all of them, where there is none
  abbrev pub since_start : List (Step S) → List (Step S)
  since_start [] = []
  since_start (x ∷ xs) = cond (any begins (x ∷ xs)) (since_start xs) (x ∷ xs)

  -- the operations of a call on this state and image
  abbrev pub operations_of : Act → S.State → S.Image → List Op
  operations_of (read r) s i = []
  operations_of (update u) s i = []
  operations_of forecast s i = []
  operations_of (format m n torn) s i = S.format_ops m (blocks_of (geometry_of m) (S.size i))
  operations_of (commit n torn) s i = S.commit_ops s i
  operations_of (mount m n torn) s i = S.mount_ops m i

  -- those that a step did whole: the first ones, as many as it told
  abbrev pub done_by : Step S → List Op
  done_by x = take x.ops (operations_of x.act x.given x.lent)

  -- the whole erases of block b in a list
  abbrev pub whole_erases : ℕ → List (Step S) → ℕ
  whole_erases b [] = 0
  whole_erases b (x ∷ xs) = erases_in b (done_by x) + whole_erases b xs

  -- every figure is 0, as a finished mount, format or rebuild leaves it
  abbrev pub Unworn : S.State → Type 0
  Unworn s = (b : ℕ) → S.erases s b ≡ 0

  abbrev pub StartsUnworn : Type 0
  StartsUnworn = (x : Step S) → begins x ≡ true → Allowed S x.act x.given x.lent x.answer x.ops x.state x.left → Unworn x.state

  abbrev pub RebuiltUnworn : Type 0
  RebuiltUnworn = (n : Nand) (K : Table) (G : ℕ) (s : S.State) (i : S.Image) → Rebuilt S n K G s i → Unworn s

  -- where a list of the promise leaves the store on, each figure is the whole erases of its block since the last finished mount or format, or since the start
  abbrev pub FiguresTell : Type 0
  FiguresTell = (n : Nand) (K : Table) (G : ℕ) (s : S.State) (i : S.Image) (xs : List (Step S)) → Course S n K G s i xs → Unworn s
      → (t : S.State) → last_hands S (Only S s) xs t → S.on t ≡ true → (b : ℕ) → S.erases t b ≡ whole_erases b (since_start xs)

  -- the same from any state that calls gave: formats may be cut, there may be no room, whoever began the chip
  abbrev pub FiguresAny : Type 0
  FiguresAny = (s : S.State) (i : S.Image) (xs : List (Step S)) → S.Good s i → Runs S (Only S s) i xs → Unworn s
      → (t : S.State) → last_hands S (Only S s) xs t → S.on t ≡ true → (b : ℕ) → S.erases t b ≡ whole_erases b (since_start xs)

  -- and no figure is above the number of the state, so that 64 bits hold it
  abbrev pub FiguresFit : Type 0
  FiguresFit = (s : S.State) (i : S.Image) (xs : List (Step S)) → S.Good s i → Runs S (Only S s) i xs → Unworn s
      → (t : S.State) → last_hands S (Only S s) xs t → S.on t ≡ true → (b : ℕ) → S.erases t b ≤ S.number t
