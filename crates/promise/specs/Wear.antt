-- An erase has to pay. Document 02, note 8: 'no block is erased twice unless at least two commits with pending updates finished between the two erases, the one that did
-- the first erase included. A commit that reclaims in such a list leaves at least one page free.' The proofs are in proofs/.
use Rattle.std.specs.Prelude.{◌≡◌, Bool, true, false, ◌&&◌, List, [], ◌∷◌, ◌++◌, ℕ, suc, ◌+◌, ◌*◌, ◌<◌, ◌≤◌, ltb}
use Rattle.lists.specs.Lists.{count}
use Rattle.chip.specs.Geometry.{Nand}
use Rattle.chip.specs.Erases.{erases_in}
use Rattle.tree.specs.Tree.{Table}
use Rattle.promise.specs.Plain.{is_commit, cuts}
use Rattle.promise.specs.Calls.{Store}
use Rattle.promise.specs.Steps.{fed, is_ten, is_accepted, Step, Only, Named, feeds, Uncut, NoFormat, Runs, Rebuilt}
use Rattle.promise.specs.Erases.{done_by, whole_erases}

module _ (S : Store) where
  -- a commit with pending updates that finished
  abbrev pub is_finished_commit : Step S → Bool
  is_finished_commit x = is_commit (fed x.act (S.size x.lent)) && (is_accepted x.answer && ltb 0 (S.pending x.given))

  -- how many of them are in a list
  abbrev pub finished_commits : List (Step S) → ℕ
  finished_commits xs = count is_finished_commit xs

  -- no call of the list is cut
  abbrev pub NoneCut : List (Step S) → Type 0
  NoneCut [] = Unit {0}
  NoneCut (x ∷ xs) = (is_ten x.answer ≡ false) × NoneCut xs

  -- a list of note 8: from a state that calls gave for the image, as a finished format or rebuild gives one; mounts name its part, no call is cut, and no format finishes
  pub record Unbroken (s : S.State) (i : S.Image) (xs : List (Step S)) : Type 0 where
    pub good : S.Good s i
    pub runs : Runs S (Only S s) i xs
    pub named : Named S (S.nand s) xs
    pub uncut : NoneCut xs
    pub unformatted : NoFormat S xs

  -- so from a finished rebuild
  abbrev pub RebuiltUnbroken : Type 0
  RebuiltUnbroken = (nand : Nand) (K : Table) (G : ℕ) (s : S.State) (i : S.Image) (xs : List (Step S)) → Rebuilt S nand K G s i → Runs S (Only S s) i xs → Named S nand xs
      → NoneCut xs → NoFormat S xs → Unbroken s i xs

  -- the step x erased block b whole
  abbrev pub Erased : ℕ → Step S → Type 0
  Erased b x = 0 < erases_in b (done_by S x)

  -- no step erases a block twice
  abbrev pub OnceEach : Type 0
  OnceEach = (s : S.State) (i : S.Image) (xs ys : List (Step S)) (x : Step S) → Unbroken s i (xs ++ (x ∷ ys)) → (b : ℕ) → erases_in b (done_by S x) ≤ 1

  -- where x erased block b and a later y does, two commits with pending updates finished between the two, x included
  abbrev pub ErasesPay : Type 0
  ErasesPay = (s : S.State) (i : S.Image) (xs ys zs : List (Step S)) (x y : Step S) → Unbroken s i (xs ++ (x ∷ (ys ++ (y ∷ zs))))
      → (b : ℕ) → Erased b x → Erased b y → 2 ≤ finished_commits (x ∷ ys)

  -- so a block has at most one erase for two of these commits, and one more; where calls are cut, but no format, one more for each cut commit
  abbrev pub ErasesFew : Type 0
  ErasesFew = (s : S.State) (i : S.Image) (xs : List (Step S)) → S.Good s i → Runs S (Only S s) i xs → Named S (S.nand s) xs → Uncut S xs → NoFormat S xs
      → (b : ℕ) → 2 * whole_erases S b xs ≤ suc (finished_commits xs + 2 * cuts (feeds S xs))

  -- a step that erased a block is a commit with pending updates that finished, and it leaves a page free
  abbrev pub LeavesFree : Type 0
  LeavesFree = (s : S.State) (i : S.Image) (xs ys : List (Step S)) (x : Step S) → Unbroken s i (xs ++ (x ∷ ys)) → (b : ℕ) → Erased b x
      → (is_finished_commit x ≡ true) × (0 < S.free (S.nand s) x.image)
