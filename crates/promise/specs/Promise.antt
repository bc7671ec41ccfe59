-- The promise about lists of calls: what it says of every store whose calls meet their contracts. The proofs are in proofs/.
use Rattle.std.specs.Prelude.{◌≡◌, ◌⊎◌, true, false, cond, List, [], ◌∷◌, ◌++◌, map, ℕ, suc, ◌*◌, ◌<◌, ◌≤◌, length}
use Rattle.chip.specs.Geometry.{Nand, geometry_of, blocks_of}
use Rattle.tree.specs.Tree.{Table, find}
use Rattle.tree.specs.Step6.{top, Tree}
use Rattle.tree.specs.Rebuild.{rebuild}
use Rattle.promise.specs.Plain.{Answer, refuses, accepted, looked_up, Plain, last_number, plain_run, cuts, leaf, enough_writes, enough_marks}
use Rattle.promise.specs.Calls.{means, Store, state_of, Rebuild}
use Rattle.promise.specs.Steps.{format, commit, mount, look_up, Step, Only, Named, last_image, counts, feeds, choices, seen, expected, boots, Uncut, NoFormat, Unstuck, Runs, Started, Mounted, Formatted, Rebuilt, starts, next, last_plain, Agrees, promised, AgreesAny}
use Rattle.promise.specs.History.{TreeOf, value_of, Silent, History, begun, dropped, last_history, since, AllLawful}

-- ---- which refusals a call of a list can have, where the plain store before it is p
pub data FormatRefusal (nand : Nand) (n : ℕ) : ℕ → Type 0 where
  format1 : FormatRefusal nand n 1
  format10 : n < enough_writes nand → FormatRefusal nand n 10

pub data MountRefusal (n : ℕ) : ℕ → Type 0 where
  mount1 : MountRefusal n 1
  mount10 : n < enough_marks → MountRefusal n 10

pub data CommitRefusal (p : Plain) (n : ℕ) : ℕ → Type 0 where
  commit2 : p.on ≡ false → CommitRefusal p n 2
  commit1 : CommitRefusal p n 1
  commit6 : 0 < p.pending → p.number ≡ last_number → CommitRefusal p n 6
  commit10 : 0 < p.pending → n < enough_writes p.nand → CommitRefusal p n 10

-- the tree that a rebuild makes of a tree of the chip's numbers is a tree of the chip, and each key has the value that it had
abbrev pub RebuildKeeps : Type 0
RebuildKeeps = (nand : Nand) (size : ℕ) (K : Table) → Tree K → length K ≡ 8 * blocks_of (geometry_of nand) size
    → TreeOf 0 (blocks_of (geometry_of nand) size) (rebuild K) × ((k : ℕ) → k < top → find k (rebuild K) ≡ find k K)

module _ (S : Store) where
  -- ---- the starts: a finished format; and a finished rebuild, with the new tree as K and P, the new commit's number as G and that chip's B, whoever began the chip
  abbrev pub FormatStarts : Type 0
  FormatStarts = (nand : Nand) (s : S.State) (i : S.Image) → Formatted S nand s i → Started S nand (leaf (blocks_of (geometry_of nand) (S.size i))) 1 s i

  abbrev pub RebuildStarts : Type 0
  RebuildStarts = (nand : Nand) (K : Table) (G : ℕ) (s : S.State) (i : S.Image) → Rebuilt S nand K G s i → Started S nand (rebuild K) (suc G) s i

  -- a cut rebuild: too small an allowance, told as the operations done; the state is off, and the image holds the old tree or the new one
  abbrev pub RebuildCut : Type 0
  RebuildCut = (nand : Nand) (n : ℕ) (torn : List ℕ) (K : Table) (G : ℕ) (s : S.State) (i : S.Image) (ops : ℕ) (s' : S.State) (i' : S.Image) → S.meaning nand i ≡ means K G
      → Rebuild S nand n torn s i (refuses 10) ops s' i'
      → (n < enough_writes nand) × (ops ≡ n) × (S.on s' ≡ false) × ((S.meaning nand i' ≡ means K G) ⊎ (S.meaning nand i' ≡ means (rebuild K) (suc G)))

  -- ---- a list of the promise: from a start, each mount naming the part of the start or of the last finished format, with no format cut
  pub record Course (nand : Nand) (K : Table) (G : ℕ) (s : S.State) (i : S.Image) (xs : List (Step S)) : Type 0 where
    pub started : Started S nand K G s i
    pub runs : Runs S (Only S s) i xs
    pub named : Named S nand xs
    pub uncut : Uncut S xs

  -- every answer is the plain store's, and after each call the image means its K and G
  abbrev pub Promise : Type 0
  Promise = (nand : Nand) (K : Table) (G : ℕ) (s : S.State) (i : S.Image) (xs : List (Step S)) → Course nand K G s i xs → Agrees S (starts S nand K G i) i xs

  -- in one claim: with one choice for each cut commit, read off the image at the cut, all answers and meanings are the plain store's
  abbrev pub OneClaim : Type 0
  OneClaim = (nand : Nand) (K : Table) (G : ℕ) (s : S.State) (i : S.Image) (xs : List (Step S)) → Course nand K G s i xs
      → (length (choices S i xs) ≡ cuts (feeds S xs)) × (seen S nand xs ≡ map expected (plain_run (starts S nand K G i) (choices S i xs) (feeds S xs)))

  -- a choice depends on nothing that comes later
  abbrev pub ChosenThen : Type 0
  ChosenThen = (xs ys : List (Step S)) (i : S.Image) → choices S i (xs ++ ys) ≡ choices S i xs ++ choices S (last_image S i xs) ys

  -- formats may be cut, and mounts may name the other part: nothing is promised from there to the next finished format
  abbrev pub PromiseAny : Type 0
  PromiseAny = (nand : Nand) (K : Table) (G : ℕ) (s : S.State) (i : S.Image) (xs : List (Step S)) → Started S nand K G s i → Runs S (Only S s) i xs
      → AgreesAny S (promised (starts S nand K G i)) i xs

  -- from any mounted chip, room or not: the same, as long as no commit or forecast answers 6 before the last number
  abbrev pub PromiseForeign : Type 0
  PromiseForeign = (nand : Nand) (K : Table) (G : ℕ) (s : S.State) (i : S.Image) (xs : List (Step S)) → Mounted S nand K G s i → Runs S (Only S s) i xs → Named S nand xs → Uncut S xs → Unstuck S xs
      → Agrees S (starts S nand K G i) i xs

  -- ---- at any place x of a list
  module _ (nand : Nand) (K : Table) (G : ℕ) (i : S.Image) (xs : List (Step S)) where
    -- the plain store and the history before it
    abbrev pub plain_at : Plain
    plain_at = last_plain S (starts S nand K G i) i xs

    abbrev pub history_at : History
    history_at = last_history S (starts S nand K G i) i xs (begun K)

  -- where the store is on, the state that a call gets is one that calls gave for the one image, which has room, and means the plain store
  abbrev pub GoodAt : Type 0
  GoodAt = (nand : Nand) (K : Table) (G : ℕ) (s : S.State) (i : S.Image) (xs ys : List (Step S)) (x : Step S) → Course nand K G s i (xs ++ (x ∷ ys)) → boots x.act ≡ false
      → (plain_at nand K G i xs).on ≡ true → (state_of S x.given (last_image S i xs) ≡ plain_at nand K G i xs) × S.Good x.given (last_image S i xs) × S.Room (plain_at nand K G i xs).nand (last_image S i xs)

  -- a commit is refused with 2, 1, 6 or 10 only, and 10 means too small an allowance; a mount never with 7, 8 or 9
  abbrev pub CommitRefused : Type 0
  CommitRefused = (nand : Nand) (K : Table) (G : ℕ) (s : S.State) (i : S.Image) (xs ys : List (Step S)) (x : Step S) → Course nand K G s i (xs ++ (x ∷ ys))
      → (n m : ℕ) (torn : List ℕ) → x.act ≡ commit n torn → x.answer ≡ refuses m → CommitRefusal (plain_at nand K G i xs) n m

  abbrev pub MountRefused : Type 0
  MountRefused = (nand : Nand) (K : Table) (G : ℕ) (s : S.State) (i : S.Image) (xs ys : List (Step S)) (x : Step S) → Course nand K G s i (xs ++ (x ∷ ys))
      → (m : Nand) (n k : ℕ) (torn : List ℕ) → x.act ≡ mount m n torn → x.answer ≡ refuses k → MountRefusal n k

  abbrev pub FormatRefused : Type 0
  FormatRefused = (nand : Nand) (K : Table) (G : ℕ) (s : S.State) (i : S.Image) (xs ys : List (Step S)) (x : Step S) → Course nand K G s i (xs ++ (x ∷ ys))
      → (m : Nand) (n k : ℕ) (torn : List ℕ) → x.act ≡ format m n torn → x.answer ≡ refuses k → FormatRefusal m n k

  -- the operations of a commit that is accepted or cut: never more than the most, which is 2,000 or less, on the large part 4,000 or less, and never cut for want of room
  pub record CommitPower (n : ℕ) (s : S.State) (i : S.Image) (a : Answer) (ops : ℕ) : Type 0 where
    pub few : length (S.commit_ops s i) ≤ S.most (S.nand s)
    pub finished : a ≡ accepted → (length (S.commit_ops s i) ≤ n) × (ops ≡ length (S.commit_ops s i))
    pub short : a ≡ refuses 10 → (n < length (S.commit_ops s i)) × (ops ≡ n)

  abbrev pub CommitPowered : Type 0
  CommitPowered = (nand : Nand) (K : Table) (G : ℕ) (s : S.State) (i : S.Image) (xs ys : List (Step S)) (x : Step S) → Course nand K G s i (xs ++ (x ∷ ys))
      → (n : ℕ) (torn : List ℕ) → x.act ≡ commit n torn → (x.answer ≡ accepted) ⊎ (x.answer ≡ refuses 10) → CommitPower n x.given (last_image S i xs) x.answer x.ops

  -- ---- what is kept. A finished commit keeps P; a cut one P or K, by its choice
  pub record CommitGives (a : Answer) (x : Step S) : Type 0 where
    pub allowance : ℕ
    pub torn : List ℕ
    pub act : x.act ≡ commit allowance torn
    pub answer : x.answer ≡ a

  pub record FinishedMount (x : Step S) : Type 0 where
    pub allowance : ℕ
    pub torn : List ℕ
    pub nand : Nand
    pub act : x.act ≡ mount nand allowance torn
    pub answer : x.answer ≡ accepted

  pub record LooksUp (k : ℕ) (x : Step S) : Type 0 where
    pub act : x.act ≡ look_up k
    pub lent : x.answer ≡ refuses 1 → ⊥

  -- a look up, refused with neither 2 nor 1, tells what the newest accepted update that speaks of its key says, kept or pending
  abbrev pub LookUpTells : Type 0
  LookUpTells = (nand : Nand) (K : Table) (G : ℕ) (s : S.State) (i : S.Image) (xs ys : List (Step S)) (x : Step S) → Course nand K G s i (xs ++ (x ∷ ys))
      → TreeOf 0 (blocks_of (geometry_of nand) (S.size i)) K → AllLawful S (xs ++ (x ∷ ys)) → (k : ℕ) → k < top → LooksUp k x → (x.answer ≡ refuses 2 → ⊥)
      → x.answer ≡ looked_up (value_of k (history_at nand K G i xs).base ((history_at nand K G i xs).pending ++ (history_at nand K G i xs).kept))

  -- a commit x, calls ys without a finished format, a look up w on a store that is on: no update speaks of the key that commits of ys kept,
  -- or that is pending then. Refused updates do not count, nor do those that a mount or a cut dropped (`MountDrops`)
  pub record Later (nand : Nand) (K : Table) (G : ℕ) (s : S.State) (i : S.Image) (xs ys vs : List (Step S)) (x w : Step S) (k : ℕ) : Type 0 where
    pub course : Course nand K G s i (xs ++ (x ∷ (ys ++ (w ∷ vs))))
    pub tree : TreeOf 0 (blocks_of (geometry_of nand) (S.size i)) K
    pub lawful : AllLawful S (xs ++ (x ∷ (ys ++ (w ∷ vs))))
    pub unformatted : NoFormat S ys
    pub key : k < top
    pub looks : LooksUp k w
    pub on : w.answer ≡ refuses 2 → ⊥
    pub kept_since : Silent k (since S (next S (plain_at nand K G i xs) (last_image S i xs) x) x.image ys).kept
    pub pending_since : Silent k (since S (next S (plain_at nand K G i xs) (last_image S i xs) x) x.image ys).pending

  -- what a finished commit kept is found until a finished format
  abbrev pub Durable : Type 0
  Durable = (nand : Nand) (K : Table) (G : ℕ) (s : S.State) (i : S.Image) (xs ys vs : List (Step S)) (x w : Step S) (k : ℕ)
      → Later nand K G s i xs ys vs x w k → CommitGives accepted x → w.answer ≡ looked_up (find k (plain_at nand K G i xs).present)

  -- and so is what a cut commit kept: its choice holds
  abbrev pub ChoiceHolds : Type 0
  ChoiceHolds = (nand : Nand) (K : Table) (G : ℕ) (s : S.State) (i : S.Image) (xs ys vs : List (Step S)) (x w : Step S) (k : ℕ)
      → Later nand K G s i xs ys vs x w k → CommitGives (refuses 10) x
      → w.answer ≡ looked_up (find k (cond (counts S (last_image S i xs) x) (plain_at nand K G i xs).present (plain_at nand K G i xs).kept))

  -- a finished mount z drops what is pending: only what commits kept counts
  abbrev pub MountDrops : Type 0
  MountDrops = (p : Plain) (i : S.Image) (ys : List (Step S)) (z : Step S) → Agrees S p i (ys ++ (z ∷ [])) → FinishedMount z
      → since S p i (ys ++ (z ∷ [])) ≡ dropped (since S p i ys)
