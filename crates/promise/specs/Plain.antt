-- The plain store: what a list of calls is held to. It is fed of each call the kind, the numbers and the slice lengths, and of its answer only
-- whether that was 10. It sees no byte of image or torn slice and nothing of the program's state.
use Rattle.std.specs.Prelude.{Bool, true, false, cond, not, ◌&&◌, List, [], ◌∷◌, ℕ, zero, suc, ◌*◌, ◌-◌, ltb, leb, eqb, replicate}
use Rattle.chip.specs.Geometry.{Geometry, Nand, geometry_of, page_size, blocks_of}
use Rattle.chip.specs.declared.geometry.Nand.TheVariants.{Small, Large}
use Rattle.views.specs.Nodes.{untouched, view}
use Rattle.tree.specs.Tree.{Table, Found, absent, found, is_absent, find}
use Rattle.tree.specs.Insert.{TreeStep, refusal, done, insert}
use Rattle.tree.specs.Delete.{delete}

-- ---- an answer: a refusal's number, or that there is none, and what a read tells
pub data Answer : Type 0 where
  refuses : ℕ → Answer
  accepted : Answer
  tells : List ℕ → Answer

-- the value that a look up found
abbrev pub finds : ℕ → Answer
finds v = tells (v ∷ [])

-- ---- State: trees K (kept) and P (present), pending count, commit number G, on or off; the B of the last finished format, and the part
-- that the last finished format or mount named
pub record Plain : Type 0 where
  pub kept : Table
  pub present : Table
  pub pending : ℕ
  pub number : ℕ
  pub on : Bool
  pub nand : Nand
  pub blocks : ℕ

-- ---- the numbers of a call are tested in the order written: the first whose test holds, 0 if none does
abbrev pub or_else : ℕ → ℕ → ℕ
or_else zero n = n
or_else (suc m) n = suc m

abbrev pub when : ℕ → Bool → ℕ
when n true = n
when n false = 0

abbrev pub is_refused : TreeStep → Bool
is_refused (refusal n) = true
is_refused (done t) = false

abbrev pub table_after : Table → TreeStep → Table
table_after t (refusal n) = t
table_after t (done t') = t'

-- ---- the classes of calls; kind and numbers of a read or an update are the definition that it names, as `looking_up 7`.
-- A read changes nothing: after 2 and 1 it answers by the store alone
pub record ReadCall : Type 0 where
  -- the numbers it can be refused with, beside 2 and 1
  pub numbers : List ℕ
  pub answer : Plain → Answer

-- what an update says of a key
pub data Said : Type 0 where
  nothing : Said
  holds : (value : ℕ) → Said
  gone : Said

abbrev pub said_if : Bool → Said → Said
said_if true s = s
said_if false s = nothing

-- an update is refused, after 2, 1 and 3, or makes a new P; both by B and P
pub record UpdateCall : Type 0 where
  -- the numbers it can be refused with, beside 2, 1 and 3
  pub numbers : List ℕ
  pub refusal : ℕ → Table → ℕ
  pub step : ℕ → Table → Table
  pub says : ℕ → Said

-- a forecast is a read that is refused as a commit is; a write goes by its own rule: format, commit, mount. A format and a mount name the part
pub data Call : Type 0 where
  reads : ReadCall → (image : ℕ) → Call
  updates : UpdateCall → (image : ℕ) → Call
  forecasts : (image : ℕ) → Call
  formats : (nand : Nand) (allowance image torn : ℕ) → Call
  commits : (allowance image torn : ℕ) → Call
  mounts : (nand : Nand) (allowance image torn : ℕ) → Call

-- ---- look up finds in P: 4, or the value
abbrev pub looked_up : Found → Answer
looked_up absent = refuses 4
looked_up (found v) = finds v

unfoldable pub looking_up : ℕ → ReadCall
looking_up k = record { numbers = 4 ∷ []; answer = λ p. looked_up (find k p.present) }

-- insert: 5 by the tree step, when it needs more node numbers than are left below 8 × B
unfoldable pub insertion : ℕ → ℕ → UpdateCall
insertion k v =
    record {
      numbers = 5 ∷ [];
      refusal = λ B t. when 5 (is_refused (insert (8 * B) k v t));
      step = λ B t. table_after t (insert (8 * B) k v t);
      says = λ j. said_if (eqb k j) (holds v);
    }

-- delete: 4 key absent; else the tree step, with its joins
unfoldable pub deletion : ℕ → UpdateCall
deletion k =
    record {
      numbers = 4 ∷ [];
      refusal = λ B t. when 4 (is_absent (find k t));
      step = λ B t. delete k t;
      says = λ j. said_if (eqb k j) gone;
    }

abbrev pub inserts : (key value image : ℕ) → Call
inserts k v image = updates (insertion k v) image

abbrev pub deletes : (key image : ℕ) → Call
deletes k image = updates (deletion k) image

abbrev pub looks_up : (key image : ℕ) → Call
looks_up k image = reads (looking_up k) image

-- ---- Size (1): an image length that is not B blocks of the part for a B from 3 to 32, or a torn length other than its page's: of the part
-- that a format or a mount names, else of the state's. Where a call can give 2, also a B other than the state's
unfoldable pub is_chip_size : Geometry → ℕ → Bool
is_chip_size g image = ltb 0 (blocks_of g image)

unfoldable pub is_torn_size : Geometry → ℕ → Bool
is_torn_size g torn = eqb torn (page_size g)

unfoldable pub has_blocks : Geometry → ℕ → ℕ → Bool
has_blocks g B image = eqb (blocks_of g image) B

-- 2 off and 1 size of a call that is lent an image alone; `on` and `B` are the state's
abbrev pub admission : Geometry → (on : Bool) (B image : ℕ) → ℕ
admission g on B image = or_else (when 2 (not on)) (when 1 (not (is_chip_size g image && has_blocks g B image)))

-- 1 size of a format or a mount, which can not give 2
abbrev pub start_refusal : Geometry → (image torn : ℕ) → ℕ
start_refusal g image torn = when 1 (not (is_chip_size g image && is_torn_size g torn))

-- 2 off and 1 size of a commit
abbrev pub commit_refusal : Geometry → (on : Bool) (B image torn : ℕ) → ℕ
commit_refusal g on B image torn = or_else (when 2 (not on)) (when 1 (not (is_chip_size g image && (is_torn_size g torn && has_blocks g B image))))

-- 2 off and 1 size, as each call can give them; `own` is the part of the state
abbrev pub first_refusal : Nand → Bool → ℕ → Call → ℕ
first_refusal own on B (reads r image) = admission (geometry_of own) on B image
first_refusal own on B (updates u image) = admission (geometry_of own) on B image
first_refusal own on B (forecasts image) = admission (geometry_of own) on B image
first_refusal own on B (formats n a image torn) = start_refusal (geometry_of n) image torn
first_refusal own on B (commits a image torn) = commit_refusal (geometry_of own) on B image torn
first_refusal own on B (mounts n a image torn) = start_refusal (geometry_of n) image torn

-- the greatest commit number
abbrev pub last_number : ℕ
last_number = 4294967295

-- pending is above 0 and G is 4,294,967,295: no number is left for a commit
abbrev pub no_number_left : (pending number : ℕ) → Bool
no_number_left pending G = ltb 0 pending && eqb G last_number

-- 3 when 16 are pending; 6 when no number is left: these read the numbers of the state alone
abbrev pub numbers_refusal : (pending number : ℕ) → Call → ℕ
numbers_refusal pending G (reads r image) = 0
numbers_refusal pending G (updates u image) = when 3 (leb 16 pending)
numbers_refusal pending G (forecasts image) = when 6 (no_number_left pending G)
numbers_refusal pending G (formats n a image torn) = 0
numbers_refusal pending G (commits a image torn) = when 6 (no_number_left pending G)
numbers_refusal pending G (mounts n a image torn) = 0

-- 4 and 5, read on P
abbrev pub tree_refusal : Plain → Call → ℕ
tree_refusal p (reads r image) = 0
tree_refusal p (updates u image) = u.refusal p.blocks p.present
tree_refusal p (forecasts image) = 0
tree_refusal p (formats n a image torn) = 0
tree_refusal p (commits a image torn) = 0
tree_refusal p (mounts n a image torn) = 0

abbrev pub later_refusal : Plain → Call → ℕ
later_refusal p c = or_else (numbers_refusal p.pending p.number c) (tree_refusal p c)

-- it refuses 1 to 6 as under Calls
abbrev pub refusal_of : Plain → Call → ℕ
refusal_of p c = or_else (first_refusal p.nand p.on p.blocks c) (later_refusal p c)

-- ---- a commit or format with an allowance of 2,000 or more, on the large part 4,000 or more, or a mount with 255 or more, isn't cut; nor is a
-- commit with nothing pending
abbrev pub enough_writes : Nand → ℕ
enough_writes Small = 2000
enough_writes Large = 4000

abbrev pub enough_marks : ℕ
enough_marks = 255

abbrev pub may_cut : Plain → Call → Bool
may_cut p (reads r image) = false
may_cut p (updates u image) = false
may_cut p (forecasts image) = false
may_cut p (formats n a image torn) = ltb a (enough_writes n)
may_cut p (commits a image torn) = ltb a (enough_writes p.nand) && ltb 0 p.pending
may_cut p (mounts n a image torn) = ltb a enough_marks

-- ---- a call that it doesn't refuse by these is accepted, or cut if it may be and the answer was 10
pub data Verdict : Type 0 where
  denied : ℕ → Verdict
  cut : Verdict
  passed : Verdict

abbrev pub judge : ℕ → Bool → Verdict
judge (suc n) b = denied (suc n)
judge zero true = cut
judge zero false = passed

unfoldable pub verdict : Plain → Call → Bool → Verdict
verdict p c ten = judge (refusal_of p c) (may_cut p c && ten)

-- ---- the store after an accepted call
-- one empty leaf on a chip of B blocks
unfoldable pub leaf : ℕ → Table
leaf B = view 0 [] ∷ replicate (8 * B - 1) untouched

-- on, with nothing pending: K and P are one tree
unfoldable pub resting : Nand → Table → ℕ → ℕ → Plain
resting n K G B = record { kept = K; present = K; pending = 0; number = G; on = true; nand = n; blocks = B }

-- finished format: K and P one empty leaf, pending 0, G = 1, on
abbrev pub fresh : Nand → ℕ → Plain
fresh n B = resting n (leaf B) 1 B

-- accepted insert or delete: P by the tree step, pending + 1
unfoldable pub updated : Table → Plain → Plain
updated t p = record { kept = p.kept; present = t; pending = suc p.pending; number = p.number; on = p.on; nand = p.nand; blocks = p.blocks }

-- finished commit: if pending is above 0, K becomes P, G + 1, pending 0
unfoldable pub committed : Plain → Plain
committed p = record { kept = p.present; present = p.present; pending = 0; number = suc p.number; on = p.on; nand = p.nand; blocks = p.blocks }

-- finished mount: P becomes K, pending 0, on
abbrev pub mounted : Nand → Plain → Plain
mounted n p = resting n p.kept p.number p.blocks

unfoldable pub finished : Plain → Call → Plain
finished p (reads r image) = p
finished p (updates u image) = updated (u.step p.blocks p.present) p
finished p (forecasts image) = p
finished p (formats n a image torn) = fresh n (blocks_of (geometry_of n) image)
finished p (commits a image torn) = cond (ltb 0 p.pending) (committed p) p
finished p (mounts n a image torn) = mounted n p

-- ---- the store after a cut call
unfoldable pub off : Plain → Plain
off p = record { kept = p.kept; present = p.present; pending = p.pending; number = p.number; on = false; nand = p.nand; blocks = p.blocks }

-- cut commit: off; either K becomes P and G + 1, or neither, chosen then: `counts` is the choice. Cut mount: off.
-- Cut format: off, and nothing is promised until a finished format
unfoldable pub cut_off : Bool → Plain → Call → Plain
cut_off counts p (reads r image) = p
cut_off counts p (updates u image) = p
cut_off counts p (forecasts image) = p
cut_off counts p (formats n a image torn) = off p
cut_off counts p (commits a image torn) = cond counts (off (committed p)) (off p)
cut_off counts p (mounts n a image torn) = off p

unfoldable pub accepted_answer : Plain → Call → Answer
accepted_answer p (reads r image) = r.answer p
accepted_answer p (updates u image) = accepted
accepted_answer p (forecasts image) = accepted
accepted_answer p (formats n a image torn) = accepted
accepted_answer p (commits a image torn) = accepted
accepted_answer p (mounts n a image torn) = accepted

-- ---- what it answers, and what it is after the call; a call refused with a number other than 10 changes nothing in it
abbrev pub answer_by : Verdict → Plain → Call → Answer
answer_by (denied n) p c = refuses n
answer_by cut p c = refuses 10
answer_by passed p c = accepted_answer p c

abbrev pub after_by : Verdict → Bool → Plain → Call → Plain
after_by (denied n) counts p c = p
after_by cut counts p c = cut_off counts p c
after_by passed counts p c = finished p c

abbrev pub answer : Plain → Call → Bool → Answer
answer p c ten = answer_by (verdict p c ten) p c

abbrev pub after : Bool → Plain → Call → Bool → Plain
after counts p c ten = after_by (verdict p c ten) counts p c

-- ---- a list of calls, each with whether its answer was 10; and one choice for each commit that was cut
pub record Fed : Type 0 where
  pub call : Call
  pub ten : Bool

abbrev pub is_commit : Call → Bool
is_commit (reads r image) = false
is_commit (updates u image) = false
is_commit (forecasts image) = false
is_commit (formats n a image torn) = false
is_commit (commits a image torn) = true
is_commit (mounts n a image torn) = false

-- a commit is cut when it is refused with 10
abbrev pub is_cut : Fed → Bool
is_cut f = is_commit f.call && f.ten

-- the number of cut commits
abbrev pub cuts : List Fed → ℕ
cuts [] = 0
cuts (f ∷ fs) = cond (is_cut f) (suc (cuts fs)) (cuts fs)

abbrev pub first_choice : List Bool → Bool
first_choice [] = false
first_choice (c ∷ cs) = c

abbrev pub later_choices : List Bool → List Bool
later_choices [] = []
later_choices (c ∷ cs) = cs

-- compared at each place of the list: the answer, and, after the call, K and G
pub record Compared : Type 0 where
  pub answer : Answer
  pub kept : Table
  pub number : ℕ

abbrev pub compared : Answer → Plain → Compared
compared a p = record { answer = a; kept = p.kept; number = p.number }

abbrev pub plain_run : Plain → List Bool → List Fed → List Compared
plain_run p cs [] = []
plain_run p cs (f ∷ fs) =
    let q = after (first_choice cs) p f.call f.ten in
    compared (answer p f.call f.ten) q ∷ plain_run q (cond (is_cut f) (later_choices cs) cs) fs
