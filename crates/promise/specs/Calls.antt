-- What the contract of each call says: for every input and every refusal the answer, what the state means at exit, and the image.
-- The store's insides are abstract: a record Store names what the contracts speak of.
use Rattle.std.specs.Prelude.{◌≡◌, Bool, true, false, cond, ◌||◌, List, [], ◌∷◌, ℕ, suc, ◌+◌, ◌<◌, ◌≤◌, eqb, length, get_or}
use Rattle.chip.specs.Geometry.{Nand, geometry_of, blocks_of}
use Rattle.chip.specs.Power.{takes_effect}
use Rattle.chip.specs.Chip.{Op}
use Rattle.chip.specs.Erases.{erases_in}
use Rattle.tree.specs.Tree.{Table}
use Rattle.tree.specs.Thick.{thin}
use Rattle.tree.specs.Rebuild.{rebuild}
use Rattle.promise.specs.Plain.{Answer, refuses, accepted, tells, Plain, ReadCall, UpdateCall, Call, reads, updates, forecasts, formats, commits, mounts, looking_up, insertion, deletion, start_refusal, last_number, first_refusal, numbers_refusal, later_refusal, leaf, resting, fresh, updated, committed, enough_writes, enough_marks}

-- what the steps read from an image: 7, 8 or 9, or its tree and its greatest standing number
pub data Meaning : Type 0 where
  invalid : ℕ → Meaning
  means : Table → ℕ → Meaning

abbrev pub tree_in : Meaning → Table
tree_in (invalid n) = []
tree_in (means t G) = t

abbrev pub number_in : Meaning → ℕ
number_in (invalid n) = 0
number_in (means t G) = G

pub record Store : Type 1 where
  pub State : Type 0
  pub Image : Type 0
  -- the length of an image
  pub size : Image → ℕ
  -- on or off, the part, B, the pending count, G
  pub on : State → Bool
  pub nand : State → Nand
  pub blocks : State → ℕ
  pub pending : State → ℕ
  pub number : State → ℕ
  -- the figure of a block: its erases since the last finished mount, format or rebuild
  pub erases : State → ℕ → ℕ
  -- P: what the pages of the image and the buffer of the state give
  pub present : State → Image → Table
  -- read as one part or as the other: what an image means, and the number of its free pages
  pub meaning : Nand → Image → Meaning
  pub free : Nand → Image → ℕ
  -- has it as many wholly free blocks as a rebuild needs?
  pub has_free_blocks : Nand → Image → Bool
  -- the operations of a mount (a mark for each void page), of a rebuild, of a commit, and of a format of a chip with that many blocks
  pub mount_ops : Nand → Image → List Op
  pub rebuild_ops : Nand → Image → List Op
  pub commit_ops : State → Image → List Op
  pub format_ops : Nand → ℕ → List Op
  -- the most operations that a commit has on a part
  pub most : Nand → ℕ
  -- the state is one that calls gave for this image; the image has the unused blocks that a commit may need
  pub Good : State → Image → Type 0
  pub Room : Nand → Image → Type 0
  -- the plan of a commit is not stuck: it finds places for its pages
  pub able : State → Image → Bool

-- ---- the answers that a call can give at all, by the numbers of its refusals
abbrev pub is_one_of : ℕ → List ℕ → Bool
is_one_of n [] = false
is_one_of n (m ∷ ms) = eqb n m || is_one_of n ms

-- refused with one of these, or it tells something
abbrev pub tells_or : List ℕ → Answer → Bool
tells_or ns (refuses n) = is_one_of n ns
tells_or ns accepted = false
tells_or ns (tells vs) = true

-- refused with one of these, or accepted
abbrev pub accepts_or : List ℕ → Answer → Bool
accepts_or ns (refuses n) = is_one_of n ns
accepts_or ns accepted = true
accepts_or ns (tells vs) = false

-- a read or an update that is refused only with the numbers it names, and these are its own
pub record ProperRead (r : ReadCall) : Type 0 where
  pub range : (p : Plain) → tells_or r.numbers (r.answer p) ≡ true
  pub own : (n : ℕ) → is_one_of n (1 ∷ 2 ∷ 10 ∷ []) ≡ true → is_one_of n r.numbers ≡ false

pub record ProperUpdate (u : UpdateCall) : Type 0 where
  pub range : (B : ℕ) (t : Table) (n : ℕ) → u.refusal B t ≡ suc n → is_one_of (suc n) u.numbers ≡ true
  pub own : (n : ℕ) → is_one_of n (1 ∷ 2 ∷ 3 ∷ 10 ∷ []) ≡ true → is_one_of n u.numbers ≡ false

-- ---- with `need` operations to do: the answer and the operations told, which are the smallest allowance that finishes the call, or the allowance
pub record OpsTold (need allowance : ℕ) (a : Answer) (ops : ℕ) : Type 0 where
  pub enough : need ≤ allowance → (a ≡ accepted) × (ops ≡ need)
  pub short : allowance < need → (a ≡ refuses 10) × (ops ≡ allowance)

module _ (S : Store) where
  -- the state's meaning on an image, as a plain store
  unfoldable pub state_of : S.State → S.Image → Plain
  state_of s i =
      record {
        kept = tree_in (S.meaning (S.nand s) i);
        present = S.present s i;
        pending = S.pending s;
        number = S.number s;
        on = S.on s;
        nand = S.nand s;
        blocks = S.blocks s;
      }

  -- refused with none of 3 to 6
  abbrev pub PassesLater : Call → S.State → S.Image → Type 0
  PassesLater c s i = later_refusal (state_of s i) c ≡ 0

  -- refused with neither 3 nor 6
  abbrev pub PassesNumbers : Call → S.State → Type 0
  PassesNumbers c s = numbers_refusal (S.pending s) (S.number s) c ≡ 0

  -- nothing changed
  pub record Same (s : S.State) (i : S.Image) (s' : S.State) (i' : S.Image) : Type 0 where
    pub state : s' ≡ s
    pub image : i' ≡ i

  -- refused with neither 2 nor 1
  abbrev pub PassesFirst : Call → S.State → Type 0
  PassesFirst c s = first_refusal (S.nand s) (S.on s) (S.blocks s) c ≡ 0

  -- ---- every call: 2 and 1 exactly, on any state and any image; a call refused so changes nothing, and no call changes the image's length
  pub record FirstTests (c : Call) (s : S.State) (i : S.Image) (a : Answer) (s' : S.State) (i' : S.Image) : Type 0 where
    pub refused : (n : ℕ) → first_refusal (S.nand s) (S.on s) (S.blocks s) c ≡ suc n → (a ≡ refuses (suc n)) × Same s i s' i'
    pub not1 : PassesFirst c s → a ≡ refuses 1 → ⊥
    pub not2 : PassesFirst c s → a ≡ refuses 2 → ⊥
    pub same_size : S.size i' ≡ S.size i

  -- ---- reads
  pub record Reads (r : ReadCall) (s : S.State) (i : S.Image) (a : Answer) (s' : S.State) (i' : S.Image) : Type 0 where
    pub first : FirstTests (reads r (S.size i)) s i a s' i'
    pub range : tells_or (2 ∷ 1 ∷ r.numbers) a ≡ true
    pub same : Same s i s' i'
    pub done : S.Good s i → PassesFirst (reads r (S.size i)) s → a ≡ r.answer (state_of s i)

  -- ---- updates: no image is written, and a refusal changes nothing, on any state
  pub record Updates (u : UpdateCall) (s : S.State) (i : S.Image) (a : Answer) (s' : S.State) (i' : S.Image) : Type 0 where
    pub first : FirstTests (updates u (S.size i)) s i a s' i'
    pub range : accepts_or (2 ∷ 1 ∷ 3 ∷ u.numbers) a ≡ true
    pub image : i' ≡ i
    pub still : (n : ℕ) → a ≡ refuses n → s' ≡ s
    pub figures : (b : ℕ) → S.erases s' b ≡ S.erases s b
    -- 3 exactly when 16 are pending, on any state and any image
    pub full : PassesFirst (updates u (S.size i)) s → 16 ≤ S.pending s → a ≡ refuses 3
    pub not_full : PassesFirst (updates u (S.size i)) s → S.pending s < 16 → a ≡ refuses 3 → ⊥
    pub then : S.Good s i → PassesFirst (updates u (S.size i)) s → (n : ℕ) → later_refusal (state_of s i) (updates u (S.size i)) ≡ suc n → a ≡ refuses (suc n)
    pub done : S.Good s i → PassesFirst (updates u (S.size i)) s → PassesLater (updates u (S.size i)) s i
        → (a ≡ accepted) × (state_of s' i' ≡ updated (u.step (S.blocks s) (S.present s i)) (state_of s i)) × S.Good s' i'

  abbrev pub Insert : (k v : ℕ) → S.State → S.Image → Answer → S.State → S.Image → Type 0
  Insert k v = Updates (insertion k v)

  abbrev pub Delete : (k : ℕ) → S.State → S.Image → Answer → S.State → S.Image → Type 0
  Delete k = Updates (deletion k)

  -- look up gives no state back: s' is s
  abbrev pub LookUp : (k : ℕ) → S.State → S.Image → Answer → S.State → S.Image → Type 0
  LookUp k = Reads (looking_up k)

  -- ---- writes; a format and a mount name the part
  pub record Format (nand : Nand) (allowance : ℕ) (torn : List ℕ) (s : S.State) (i : S.Image) (a : Answer) (ops : ℕ) (s' : S.State) (i' : S.Image) : Type 0 where
    pub first : FirstTests (formats nand allowance (S.size i) (length torn)) s i a s' i'
    pub range : accepts_or (1 ∷ 10 ∷ []) a ≡ true
    -- with a refusal other than 10 no operation is told
    pub quiet : (n : ℕ) → a ≡ refuses n → (n ≡ 10 → ⊥) → ops ≡ 0
    pub few : PassesFirst (formats nand allowance (S.size i) (length torn)) s → length (S.format_ops nand (blocks_of (geometry_of nand) (S.size i))) ≤ enough_writes nand
    pub power : PassesFirst (formats nand allowance (S.size i) (length torn)) s → OpsTold (length (S.format_ops nand (blocks_of (geometry_of nand) (S.size i)))) allowance a ops
    pub done : PassesFirst (formats nand allowance (S.size i) (length torn)) s → length (S.format_ops nand (blocks_of (geometry_of nand) (S.size i))) ≤ allowance
        → (state_of s' i' ≡ fresh nand (blocks_of (geometry_of nand) (S.size i))) × (S.meaning nand i' ≡ means (leaf (blocks_of (geometry_of nand) (S.size i))) 1)
        × S.Good s' i' × S.Room nand i'
    pub zeros : a ≡ accepted → (b : ℕ) → S.erases s' b ≡ 0
    pub cut : PassesFirst (formats nand allowance (S.size i) (length torn)) s → allowance < length (S.format_ops nand (blocks_of (geometry_of nand) (S.size i))) → S.on s' ≡ false

  -- a commit or a forecast that the first tests pass, with updates pending and a number left, on any state
  pub record Proceeding (c : Call) (s : S.State) : Type 0 where
    pub passes : PassesFirst c s
    pub numbers : PassesNumbers c s
    pub pending : 0 < S.pending s

  -- such a commit on a state that calls gave
  pub record Committing (allowance : ℕ) (torn : List ℕ) (s : S.State) (i : S.Image) : Type 0 where
    pub good : S.Good s i
    pub proceeds : Proceeding (commits allowance (S.size i) (length torn)) s

  pub record Commit (allowance : ℕ) (torn : List ℕ) (s : S.State) (i : S.Image) (a : Answer) (ops : ℕ) (s' : S.State) (i' : S.Image) : Type 0 where
    pub first : FirstTests (commits allowance (S.size i) (length torn)) s i a s' i'
    pub range : accepts_or (2 ∷ 1 ∷ 6 ∷ 10 ∷ []) a ≡ true
    -- with a refusal other than 10 no operation is told, and nothing is changed, on any state and any image
    pub quiet : (n : ℕ) → a ≡ refuses n → (n ≡ 10 → ⊥) → (ops ≡ 0) × Same s i s' i'
    -- the last number: 6, on any state and any image
    pub last : PassesFirst (commits allowance (S.size i) (length torn)) s → (n : ℕ)
        → numbers_refusal (S.pending s) (S.number s) (commits allowance (S.size i) (length torn)) ≡ suc n → a ≡ refuses (suc n)
    -- nothing pending: accepted, no operation, nothing changed, on any state and any image
    pub idle : PassesFirst (commits allowance (S.size i) (length torn)) s → S.pending s ≡ 0 → (a ≡ accepted) × (ops ≡ 0) × Same s i s' i'
    pub none : S.pending s ≡ 0 → length (S.commit_ops s i) ≡ 0
    pub bound : S.most (S.nand s) ≤ enough_writes (S.nand s)
    -- no places: 6, and by `quiet` nothing is changed, on any state and any image; where the image has room there are places
    pub stuck : Proceeding (commits allowance (S.size i) (length torn)) s → S.able s i ≡ false → a ≡ refuses 6
    pub able : Committing allowance torn s i → S.Room (S.nand s) i → S.able s i ≡ true
    pub few : Committing allowance torn s i → S.able s i ≡ true → length (S.commit_ops s i) ≤ S.most (S.nand s)
    -- places: accepted where the allowance is enough for its operations, else 10, on any state and any image
    pub power : Proceeding (commits allowance (S.size i) (length torn)) s → S.able s i ≡ true → OpsTold (length (S.commit_ops s i)) allowance a ops
    -- the image means P and G + 1 where the commit takes effect, else what it meant
    pub choice : Committing allowance torn s i → S.able s i ≡ true
        → S.meaning (S.nand s) i' ≡ cond (takes_effect (get_or torn 0 0) allowance (length (S.commit_ops s i))) (means (S.present s i) (suc (S.number s)))
        (S.meaning (S.nand s) i)
    -- P is not thin, on a state that calls gave
    pub thick : Committing allowance torn s i → thin (S.present s i) ≡ false
    pub room : Committing allowance torn s i → S.able s i ≡ true → S.Room (S.nand s) i → S.Room (S.nand s) i'
    pub done : Committing allowance torn s i → S.able s i ≡ true → length (S.commit_ops s i) ≤ allowance
        → (state_of s' i' ≡ committed (state_of s i)) × S.Good s' i'
    -- no block is erased twice; finished, each figure grows by the erases of its block: one that is not above the number has room for that
    pub once : Committing allowance torn s i → S.able s i ≡ true → (b : ℕ) → erases_in b (S.commit_ops s i) ≤ 1
    pub adds : Committing allowance torn s i → S.able s i ≡ true → length (S.commit_ops s i) ≤ allowance → (b : ℕ) → S.erases s b ≤ S.number s
        → S.erases s' b ≡ S.erases s b + erases_in b (S.commit_ops s i)
    -- finished, it leaves a page free, and the next one, from any state of this part that calls gave for the image it left, erases no block that this
    -- one erased
    pub leaves_free : Committing allowance torn s i → S.able s i ≡ true → length (S.commit_ops s i) ≤ allowance → 0 < S.free (S.nand s) i'
    pub rests : Committing allowance torn s i → S.able s i ≡ true → length (S.commit_ops s i) ≤ allowance → (b : ℕ) → 0 < erases_in b (S.commit_ops s i)
        → (t : S.State) → S.Good t i' → S.nand t ≡ S.nand s → erases_in b (S.commit_ops t i') ≡ 0
    pub cut : Committing allowance torn s i → S.able s i ≡ true → allowance < length (S.commit_ops s i) → S.on s' ≡ false

  -- ---- forecast: state and image are read only, and it gives no state back: s' is s. It is refused as a commit is, save 10, and tells how many
  -- operations a commit made now would do
  pub record Forecast (s : S.State) (i : S.Image) (a : Answer) (ops : ℕ) (s' : S.State) (i' : S.Image) : Type 0 where
    pub first : FirstTests (forecasts (S.size i)) s i a s' i'
    pub range : accepts_or (2 ∷ 1 ∷ 6 ∷ []) a ≡ true
    pub same : Same s i s' i'
    pub quiet : (n : ℕ) → a ≡ refuses n → ops ≡ 0
    -- the last number, nothing pending, and with updates pending no places or places: on any state and any image
    pub last : PassesFirst (forecasts (S.size i)) s → (n : ℕ) → numbers_refusal (S.pending s) (S.number s) (forecasts (S.size i)) ≡ suc n → a ≡ refuses (suc n)
    pub idle : PassesFirst (forecasts (S.size i)) s → S.pending s ≡ 0 → (a ≡ accepted) × (ops ≡ 0)
    pub stuck : Proceeding (forecasts (S.size i)) s → S.able s i ≡ false → a ≡ refuses 6
    pub able : S.Good s i → Proceeding (forecasts (S.size i)) s → S.Room (S.nand s) i → S.able s i ≡ true
    pub done : Proceeding (forecasts (S.size i)) s → S.able s i ≡ true → (a ≡ accepted) × (ops ≡ length (S.commit_ops s i))

  -- mount reads the image alone, as the part named
  pub record Mount (nand : Nand) (allowance : ℕ) (torn : List ℕ) (s : S.State) (i : S.Image) (a : Answer) (ops : ℕ) (s' : S.State) (i' : S.Image) : Type 0 where
    pub first : FirstTests (mounts nand allowance (S.size i) (length torn)) s i a s' i'
    pub range : accepts_or (1 ∷ 7 ∷ 8 ∷ 9 ∷ 12 ∷ 10 ∷ []) a ≡ true
    -- with a refusal other than 10 no operation is told
    pub quiet : (n : ℕ) → a ≡ refuses n → (n ≡ 10 → ⊥) → ops ≡ 0
    pub few : (K : Table) (G : ℕ) → S.meaning nand i ≡ means K G → length (S.mount_ops nand i) ≤ enough_marks
    pub refused : PassesFirst (mounts nand allowance (S.size i) (length torn)) s → (n : ℕ) → S.meaning nand i ≡ invalid n
        → (a ≡ refuses n) × (ops ≡ 0) × (S.on s' ≡ false) × (i' ≡ i)
    -- a thin tree: 12
    pub refused_thin : PassesFirst (mounts nand allowance (S.size i) (length torn)) s → (K : Table) (G : ℕ) → S.meaning nand i ≡ means K G → thin K ≡ true
        → (a ≡ refuses 12) × (ops ≡ 0) × (S.on s' ≡ false) × (i' ≡ i)
    pub power : PassesFirst (mounts nand allowance (S.size i) (length torn)) s → (K : Table) (G : ℕ) → S.meaning nand i ≡ means K G → thin K ≡ false
        → OpsTold (length (S.mount_ops nand i)) allowance a ops
    pub stays : PassesFirst (mounts nand allowance (S.size i) (length torn)) s → (K : Table) (G : ℕ) → S.meaning nand i ≡ means K G
        → (S.meaning nand i' ≡ means K G) × (S.Room nand i → S.Room nand i')
    pub done : PassesFirst (mounts nand allowance (S.size i) (length torn)) s → (K : Table) (G : ℕ) → S.meaning nand i ≡ means K G → thin K ≡ false
        → length (S.mount_ops nand i) ≤ allowance → (state_of s' i' ≡ resting nand K G (blocks_of (geometry_of nand) (S.size i))) × S.Good s' i'
    pub cut : PassesFirst (mounts nand allowance (S.size i) (length torn)) s → (K : Table) (G : ℕ) → S.meaning nand i ≡ means K G → thin K ≡ false
        → allowance < length (S.mount_ops nand i) → S.on s' ≡ false
    pub zeros : a ≡ accepted → (b : ℕ) → S.erases s' b ≡ 0
    -- it erases no block
    pub no_erase : (b : ℕ) → erases_in b (S.mount_ops nand i) ≡ 0
    -- an image that calls gave a state of this part for has no void page: there is nothing to do, and it stays as it is
    pub still : (t : S.State) → S.Good t i → S.nand t ≡ nand → (S.mount_ops nand i ≡ []) × (i' ≡ i)

  -- ---- rebuild. Document 02, note 6. It reads the image alone, as the part named, and stands in no list: a list may start from a finished one
  -- a rebuild that nothing but want of power refuses: the image means K and G, thin or not, a number is left, and enough blocks are wholly free
  pub record Rebuilding (nand : Nand) (torn : List ℕ) (i : S.Image) (K : Table) (G : ℕ) : Type 0 where
    pub sizes : start_refusal (geometry_of nand) (S.size i) (length torn) ≡ 0
    pub image : S.meaning nand i ≡ means K G
    pub number : G < last_number
    pub blocks : S.has_free_blocks nand i ≡ true

  pub record Rebuild (nand : Nand) (allowance : ℕ) (torn : List ℕ) (s : S.State) (i : S.Image) (a : Answer) (ops : ℕ) (s' : S.State) (i' : S.Image) : Type 0 where
    pub range : accepts_or (1 ∷ 7 ∷ 8 ∷ 9 ∷ 6 ∷ 5 ∷ 10 ∷ []) a ≡ true
    pub same_size : S.size i' ≡ S.size i
    -- 1 size
    pub size : (n : ℕ) → start_refusal (geometry_of nand) (S.size i) (length torn) ≡ suc n → (a ≡ refuses (suc n)) × (ops ≡ 0) × Same s i s' i'
    -- 7, 8 and 9 as mount gives them
    pub refused : start_refusal (geometry_of nand) (S.size i) (length torn) ≡ 0 → (n : ℕ) → S.meaning nand i ≡ invalid n
        → (a ≡ refuses n) × (ops ≡ 0) × (S.on s' ≡ false) × (i' ≡ i)
    -- 6 no number is left, 5 too few blocks are wholly free: nothing is changed
    pub last : start_refusal (geometry_of nand) (S.size i) (length torn) ≡ 0 → (K : Table) (G : ℕ) → S.meaning nand i ≡ means K G → last_number ≤ G
        → (a ≡ refuses 6) × (ops ≡ 0) × Same s i s' i'
    pub full : start_refusal (geometry_of nand) (S.size i) (length torn) ≡ 0 → (K : Table) (G : ℕ) → S.meaning nand i ≡ means K G → G < last_number
        → S.has_free_blocks nand i ≡ false → (a ≡ refuses 5) × (ops ≡ 0) × Same s i s' i'
    -- else it is done or cut as a commit is
    pub few : (K : Table) (G : ℕ) → Rebuilding nand torn i K G → length (S.rebuild_ops nand i) ≤ enough_writes nand
    pub power : (K : Table) (G : ℕ) → Rebuilding nand torn i K G → OpsTold (length (S.rebuild_ops nand i)) allowance a ops
    -- the image means the new tree and G + 1 where it takes effect, else what it meant
    pub choice : (K : Table) (G : ℕ) → Rebuilding nand torn i K G
        → S.meaning nand i' ≡ cond (takes_effect (get_or torn 0 0) allowance (length (S.rebuild_ops nand i))) (means (rebuild K) (suc G)) (means K G)
    pub done : (K : Table) (G : ℕ) → Rebuilding nand torn i K G → length (S.rebuild_ops nand i) ≤ allowance
        → (state_of s' i' ≡ resting nand (rebuild K) (suc G) (blocks_of (geometry_of nand) (S.size i))) × (thin (rebuild K) ≡ false) × S.Good s' i' × S.Room nand i'
    pub cut : (K : Table) (G : ℕ) → Rebuilding nand torn i K G → allowance < length (S.rebuild_ops nand i) → S.on s' ≡ false
    -- what room there was stays
    pub room : (K : Table) (G : ℕ) → Rebuilding nand torn i K G → S.Room nand i → S.Room nand i'
    pub zeros : a ≡ accepted → (b : ℕ) → S.erases s' b ≡ 0
    -- it erases no block
    pub no_erase : (b : ℕ) → erases_in b (S.rebuild_ops nand i) ≡ 0
