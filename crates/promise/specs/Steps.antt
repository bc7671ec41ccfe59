-- A list of calls as it happened, each step allowed by its call's contract; and what of it is compared with the plain store.
use Rattle.std.specs.Prelude.{◌≡◌, ◌⊎◌, Bool, true, false, cond, not, ◌&&◌, List, [], ◌∷◌, map, ℕ, eqb, length}
use Rattle.chip.specs.Geometry.{Nand, geometry_of, blocks_of}
use Rattle.chip.specs.declared.geometry.Nand.TheVariants.{Small, Large}
use Rattle.tree.specs.Tree.{Table}
use Rattle.tree.specs.Thick.{thin}
use Rattle.promise.specs.Plain.{Answer, refuses, accepted, tells, Plain, ReadCall, UpdateCall, Call, reads, updates, forecasts, formats, commits, mounts, looking_up, insertion, deletion, last_number, resting, fresh, answer, after, Fed, Compared, is_cut}
use Rattle.promise.specs.Calls.{Meaning, means, number_in, Store, state_of, Reads, Updates, Forecast, Format, Commit, Mount, Rebuild}

-- a call with its numbers and its torn slice
pub data Act : Type 0 where
  read : ReadCall → Act
  update : UpdateCall → Act
  forecast : Act
  format : (nand : Nand) (allowance : ℕ) (torn : List ℕ) → Act
  commit : (allowance : ℕ) (torn : List ℕ) → Act
  mount : (nand : Nand) (allowance : ℕ) (torn : List ℕ) → Act

abbrev pub insert : (key value : ℕ) → Act
insert k v = update (insertion k v)

abbrev pub delete : (key : ℕ) → Act
delete k = update (deletion k)

abbrev pub look_up : (key : ℕ) → Act
look_up k = read (looking_up k)

-- what the plain store is fed of it
abbrev pub fed : Act → ℕ → Call
fed (read r) image = reads r image
fed (update u) image = updates u image
fed forecast image = forecasts image
fed (format n a torn) image = formats n a image (length torn)
fed (commit a torn) image = commits a image (length torn)
fed (mount n a torn) image = mounts n a image (length torn)

abbrev pub is_one : Answer → Bool
is_one (refuses n) = eqb n 1
is_one accepted = false
is_one (tells vs) = false

abbrev pub is_ten : Answer → Bool
is_ten (refuses n) = eqb n 10
is_ten accepted = false
is_ten (tells vs) = false

abbrev pub is_accepted : Answer → Bool
is_accepted (refuses n) = false
is_accepted accepted = true
is_accepted (tells vs) = false

abbrev pub is_format : Act → Bool
is_format (read r) = false
is_format (update u) = false
is_format forecast = false
is_format (format n a torn) = true
is_format (commit a torn) = false
is_format (mount n a torn) = false

-- the part of a format, n of any other call
abbrev pub formatted_as : Nand → Act → Nand
formatted_as n (read r) = n
formatted_as n (update u) = n
formatted_as n forecast = n
formatted_as n (format m a torn) = m
formatted_as n (commit a torn) = n
formatted_as n (mount m a torn) = n

-- are the parts the same?
abbrev pub is_nand : Nand → Nand → Bool
is_nand Small Small = true
is_nand Small Large = false
is_nand Large Small = false
is_nand Large Large = true

-- a mount that names a part other than n
abbrev pub names_other : Nand → Act → Bool
names_other n (read r) = false
names_other n (update u) = false
names_other n forecast = false
names_other n (format m a torn) = false
names_other n (commit a torn) = false
names_other n (mount m a torn) = not (is_nand m n)

-- a mount or a format: it reads nothing of the state that it is given
abbrev pub boots : Act → Bool
boots (read r) = false
boots (update u) = false
boots forecast = false
boots (format n a torn) = true
boots (commit a torn) = false
boots (mount n a torn) = true

module _ (S : Store) where
  -- one call: the state given and the image lent to it, what it left of that, the answer, the operations told (by a forecast: foretold), the state returned;
  -- and the one image after the call
  pub record Step : Type 0 where
    pub act : Act
    pub given : S.State
    pub lent : S.Image
    pub left : S.Image
    pub answer : Answer
    pub ops : ℕ
    pub state : S.State
    pub image : S.Image

  -- the call was lent the one image, whole; or it was refused with 1 or 2, and the one image is as it was
  pub data Lends (i : S.Image) (x : Step) : Type 0 where
    one : x.lent ≡ i → x.image ≡ x.left → Lends i x
    other : (x.answer ≡ refuses 1) ⊎ (x.answer ≡ refuses 2) → x.image ≡ i → Lends i x

  -- the states that the next call may be given, unless it is a mount or a format, which may be given any: the one that the last call returned.
  -- A mount or format that is refused with 1 returns the state it was given: was that one not at hand, then none is
  abbrev pub Only : S.State → S.State → Type 0
  Only s t = t ≡ s

  pub record Hands (H : S.State → Type 0) (x : Step) (t : S.State) : Type 0 where
    pub returned : t ≡ x.state
    pub known : x.answer ≡ refuses 1 → H x.given

  abbrev pub last_hands : (S.State → Type 0) → List Step → S.State → Type 0
  last_hands H [] = H
  last_hands H (x ∷ xs) = last_hands (Hands H x) xs

  -- the one image after a list
  abbrev pub last_image : S.Image → List Step → S.Image
  last_image i [] = i
  last_image i (x ∷ xs) = last_image x.image xs

  -- the choice of a cut commit, read off the one image just before and just after it, as the part of the state given: is the number another one?
  abbrev pub counts : S.Image → Step → Bool
  counts i x = not (eqb (number_in (S.meaning (S.nand x.given) x.image)) (number_in (S.meaning (S.nand x.given) i)))

  -- ---- what the plain store is fed of a list
  abbrev pub feed : Step → Fed
  feed x = record { call = fed x.act (S.size x.lent); ten = is_ten x.answer }

  abbrev pub feeds : List Step → List Fed
  feeds xs = map feed xs

  -- the choices of a list's cut commits, in order: each is read off the one image before and after that commit
  abbrev pub choices : S.Image → List Step → List Bool
  choices i [] = []
  choices i (x ∷ xs) = cond (is_cut (feed x)) (counts i x ∷ choices x.image xs) (choices x.image xs)

  -- the part of the last finished format, n before the step
  abbrev pub nand_after : Nand → Step → Nand
  nand_after n x = cond (is_accepted x.answer) (formatted_as n x.act) n

  -- a mount that is not refused with 1 and names a part other than n
  abbrev pub strays : Nand → Step → Bool
  strays n x = names_other n x.act && not (is_one x.answer)

  -- each mount that is not refused with 1 names the part of the last finished format before it, n at the start, which a format or a rebuild may have made
  abbrev pub Named : Nand → List Step → Type 0
  Named n [] = Unit {0}
  Named n (x ∷ xs) = (strays n x ≡ false) × Named (nand_after n x) xs

  -- what the places of a list show: the answer, and what the one image means after the call, read as that part
  abbrev pub seen : Nand → List Step → List (Answer × Meaning)
  seen n [] = []
  seen n (x ∷ xs) = (x.answer, S.meaning (nand_after n x) x.image) ∷ seen (nand_after n x) xs

  -- ---- no commit or forecast of the list is stuck: where it answers 6 the number is the last
  abbrev pub SixIsLast : Act → S.State → Answer → Type 0
  SixIsLast (read r) s a = Unit {0}
  SixIsLast (update u) s a = Unit {0}
  SixIsLast forecast s a = a ≡ refuses 6 → S.number s ≡ last_number
  SixIsLast (format m n torn) s a = Unit {0}
  SixIsLast (commit n torn) s a = a ≡ refuses 6 → S.number s ≡ last_number
  SixIsLast (mount m n torn) s a = Unit {0}

  abbrev pub Unstuck : List Step → Type 0
  Unstuck [] = Unit {0}
  Unstuck (x ∷ xs) = SixIsLast x.act x.given x.answer × Unstuck xs

  -- ---- formats that are cut, and finished ones
  abbrev pub is_cut_format : Step → Bool
  is_cut_format x = cond (is_format x.act) (is_ten x.answer) false

  abbrev pub is_finished_format : Step → Bool
  is_finished_format x = cond (is_format x.act) (is_accepted x.answer) false

  -- no format of the list is cut; none is finished
  abbrev pub Uncut : List Step → Type 0
  Uncut [] = Unit {0}
  Uncut (x ∷ xs) = (is_cut_format x ≡ false) × Uncut xs

  abbrev pub NoFormat : List Step → Type 0
  NoFormat [] = Unit {0}
  NoFormat (x ∷ xs) = (is_finished_format x ≡ false) × NoFormat xs

-- a plain store that a list is held to; none since a format was cut, or since a mount named the other part
pub data Mode : Type 0 where
  promised : Plain → Mode
  unpromised : Mode

-- an accepted format begins one, on an image of this length
abbrev pub begun_by : Act → ℕ → Mode
begun_by (read r) image = unpromised
begun_by (update u) image = unpromised
begun_by forecast image = unpromised
begun_by (format n a torn) image = promised (fresh n (blocks_of (geometry_of n) image))
begun_by (commit a torn) image = unpromised
begun_by (mount n a torn) image = unpromised

abbrev pub expected : Compared → Answer × Meaning
expected r = (r.answer, means r.kept r.number)

module _ (S : Store) where
  -- the call's contract allows what happened, from the state s
  abbrev pub Allowed : Act → S.State → S.Image → Answer → ℕ → S.State → S.Image → Type 0
  Allowed (read r) s i a ops s' i' = Reads S r s i a s' i'
  Allowed (update u) s i a ops s' i' = Updates S u s i a s' i'
  Allowed forecast s i a ops s' i' = Forecast S s i a ops s' i'
  Allowed (format n allowance torn) s i a ops s' i' = Format S n allowance torn s i a ops s' i'
  Allowed (commit allowance torn) s i a ops s' i' = Commit S allowance torn s i a ops s' i'
  Allowed (mount n allowance torn) s i a ops s' i' = Mount S n allowance torn s i a ops s' i'

  -- a step from the one image i, where H are the states at hand
  pub record Takes (H : S.State → Type 0) (i : S.Image) (x : Step S) : Type 0 where
    pub allowed : Allowed x.act x.given x.lent x.answer x.ops x.state x.left
    pub lends : Lends S i x
    pub handed : boots x.act ≡ false → H x.given

  -- each call gets the state that the last one returned, a mount or a format any state, and nothing else writes state or image in between
  abbrev pub Runs : (S.State → Type 0) → S.Image → List (Step S) → Type 0
  Runs H i [] = Unit {0}
  Runs H i (x ∷ xs) = Takes H i x × Runs (Hands S H x) x.image xs

  -- ---- on with nothing pending, where the image, read as part n, means (K, G), and K is not thin: so a finished mount leaves any image that it accepts
  pub record Mounted (n : Nand) (K : Table) (G : ℕ) (s : S.State) (i : S.Image) : Type 0 where
    pub is : state_of S s i ≡ resting n K G (blocks_of (geometry_of n) (S.size i))
    pub image : S.meaning n i ≡ means K G
    pub thick : thin K ≡ false
    pub good : S.Good s i

  -- a list starts there, with room
  pub record Started (n : Nand) (K : Table) (G : ℕ) (s : S.State) (i : S.Image) : Type 0 where
    pub mounted : Mounted n K G s i
    pub room : S.Room n i

  abbrev pub starts : Nand → Table → ℕ → S.Image → Plain
  starts n K G i = resting n K G (blocks_of (geometry_of n) (S.size i))

  -- so after a finished format
  pub record Formatted (n : Nand) (s : S.State) (i : S.Image) : Type 0 where
    pub allowance : ℕ
    pub torn : List ℕ
    pub before : S.State
    pub was : S.Image
    pub ops : ℕ
    pub says : Format S n allowance torn before was accepted ops s i

  -- and after a finished rebuild of an image that meant K and G
  pub record Rebuilt (n : Nand) (K : Table) (G : ℕ) (s : S.State) (i : S.Image) : Type 0 where
    pub allowance : ℕ
    pub torn : List ℕ
    pub before : S.State
    pub was : S.Image
    pub ops : ℕ
    pub image : S.meaning n was ≡ means K G
    pub says : Rebuild S n allowance torn before was accepted ops s i

  -- the plain store after a step from the one image i, and after a list
  abbrev pub next : Plain → S.Image → Step S → Plain
  next p i x = after (counts S i x) p (fed x.act (S.size x.lent)) (is_ten x.answer)

  abbrev pub last_plain : Plain → S.Image → List (Step S) → Plain
  last_plain p i [] = p
  last_plain p i (x ∷ xs) = last_plain (next p i x) x.image xs

  -- the answer that the plain store gives to this step
  abbrev pub answer_to : Plain → Step S → Answer
  answer_to p x = answer p (fed x.act (S.size x.lent)) (is_ten x.answer)

  -- compared at each place: the answer; and, after the call, K and G with what the image means
  abbrev pub Agrees : Plain → S.Image → List (Step S) → Type 0
  Agrees p i [] = Unit {0}
  Agrees p i (x ∷ xs) = (x.answer ≡ answer_to p x) × (S.meaning (next p i x).nand x.image ≡ means (next p i x).kept (next p i x).number) × Agrees (next p i x) x.image xs

  -- ---- formats may be cut, and mounts may name the other part: nothing is promised from there until a finished format
  abbrev pub mode_for : Mode → Step S → Mode
  mode_for (promised p) x = cond (strays S p.nand x) unpromised (promised p)
  mode_for unpromised x = unpromised

  abbrev pub next_mode : Mode → S.Image → Step S → Mode
  next_mode (promised p) i x = cond (is_cut_format S x) unpromised (promised (next p i x))
  next_mode unpromised i x = cond (is_accepted x.answer) (begun_by x.act (S.size x.image)) unpromised

  abbrev pub AnswerIs : Mode → Step S → Type 0
  AnswerIs (promised p) x = x.answer ≡ answer_to p x
  AnswerIs unpromised x = Unit {0}

  abbrev pub MeaningIs : Mode → S.Image → Type 0
  MeaningIs (promised p) i = S.meaning p.nand i ≡ means p.kept p.number
  MeaningIs unpromised i = Unit {0}

  abbrev pub AgreesAny : Mode → S.Image → List (Step S) → Type 0
  AgreesAny m i [] = Unit {0}
  AgreesAny m i (x ∷ xs) =
      AnswerIs (mode_for m x) x × MeaningIs (next_mode (mode_for m x) i x) x.image × AgreesAny (next_mode (mode_for m x) i x) x.image xs
