-- What each call ensures: the records of the promise, read on the code's state and image, and what those leave out.
use Rattle.std.specs.Prelude.{◌≡◌, not, cond, true, false, List, ℕ, ◌*◌, ◌<◌, ◌≤◌, max, leb, length, take, get_or, replicate, Result}
use Rattle.std.specs.Result.{is_ok}
use Rattle.lists.specs.Lists.{part, count, first}
use Rattle.chip.specs.Geometry.{Geometry, Nand, geometry_of, blocks_of}
use Rattle.chip.specs.Page.{is_free}
use Rattle.chip.specs.declared.power.Power.TheVariants.{Left}
use Rattle.chip.specs.declared.progress.Counts.{Counts}
use Rattle.chip.specs.Counts.{counts_of, total}
use Rattle.chip.specs.Chip.{Op, Legal, kinds_of, pages_of, run}
use Rattle.chip.specs.Erases.{figures_after}
use Rattle.views.specs.Groups.{Distinct}
use Rattle.views.specs.Table as Views
use Rattle.views.specs.Table.{Node}
use Rattle.views.specs.Stored.{is_freed, length_of}
use Rattle.tree.specs.Tree.{Table, find, path}
use Rattle.tree.specs.Thick.{thin}
use Rattle.tree.specs.Shown.{pages_read}
use Rattle.journal.specs.Format.{format_ops, formatted_by}
use Rattle.journal.specs.Mount.{mount_ops, mounted_by}
use Rattle.journal.specs.Commit.{groups_of}
use Rattle.journal.specs.Plan.{most_ops, node_at, ops_of, is_empty}
use Rattle.promise.specs.Plain.{UpdateCall, accepted, insertion, deletion, admission, commits, forecasts, looked_up, refuses, start_refusal, or_else, when}
use Rattle.promise.specs.Calls as P
use Rattle.promise.specs.Calls.{Store, invalid, means}
use Rattle.promise.specs.Image.{image_meaning}
use Rattle.store.specs.declared.answer.Look.{Look}
use Rattle.store.specs.declared.answer.Report.{Report}
use Rattle.store.specs.declared.answer.Refusal.{Refusal}
use Rattle.store.specs.declared.state.State.{State}
use Rattle.store.specs.declared.state.Wrote.{Wrote}
use Rattle.store.specs.declared.state.Updated.{Updated}
use Rattle.store.specs.Answers.{answer_of, forecast_answer, ops_foretold, look_of, pages_told, report_refusal, free_told, first_told, erases_told}
use Rattle.store.specs.Rebuild.{has_free_blocks, rebuild_ops, rebuild_plan}
use Rattle.store.specs.State.{turned_off, geometry_in, limit_of, present_of, Good, Room, plan_at, commit_ops}

-- the store that the promise is about: the code's state, an image as its bytes
abbrev pub index : Store
index =
    record {
      State = State;
      Image = List ℕ;
      size = λ i. length i;
      on = λ s. s.on;
      nand = λ s. s.nand;
      blocks = λ s. s.blocks;
      pending = λ s. s.pending;
      number = λ s. s.commit;
      erases = λ s b. get_or s.erases b 0;
      present = λ s. present_of (geometry_in s) s;
      meaning = λ n. image_meaning (geometry_of n);
      free = λ n i. count is_free (pages_of (geometry_of n) i);
      has_free_blocks = λ n. has_free_blocks (geometry_of n);
      mount_ops = λ n i. mount_ops (geometry_of n) (pages_of (geometry_of n) i);
      rebuild_ops = λ n. rebuild_ops (geometry_of n);
      commit_ops = λ s. commit_ops (geometry_in s) s;
      format_ops = λ n. format_ops (geometry_of n);
      most = λ n. most_ops (geometry_of n);
      Good = λ s. Good (geometry_in s) s;
      Room = λ n. Room (geometry_of n);
      able = λ s i. not (is_empty (plan_at (geometry_in s) s i).written);
    }

-- of a list of operations, by kind, those that an allowance of n does whole
abbrev pub told_of : ℕ → List Op → Counts
told_of n os = counts_of (take n (kinds_of os))

-- format: the operations told by kind; the image's pages are those of a run of its operations, whatever the image was, and each operation
-- is one that the chip allows; finished, no block has an erase; with 10 the state is the one given, off
pub record Formats (nand : Nand) (allowance : ℕ) (torn : List ℕ) (s : State) (i : List ℕ) (r : Wrote) (i' : List ℕ) : Type 0 where
  pub says : P.Format index nand allowance torn s i (answer_of r.answer) (total r.ops) r.state i'
  pub kinds : start_refusal (geometry_of nand) (length i) (length torn) ≡ 0
      → r.ops ≡ told_of allowance (format_ops (geometry_of nand) (blocks_of (geometry_of nand) (length i)))
  pub bytes : start_refusal (geometry_of nand) (length i) (length torn) ≡ 0
      → pages_of (geometry_of nand) i' ≡ (formatted_by (geometry_of nand) torn (blocks_of (geometry_of nand) (length i)) allowance (pages_of (geometry_of nand) i)).pages
  pub legal : start_refusal (geometry_of nand) (length i) (length torn) ≡ 0 → Legal (geometry_of nand) (pages_of (geometry_of nand) i) (format_ops (geometry_of nand) (blocks_of (geometry_of nand) (length i)))
  pub zeros : answer_of r.answer ≡ accepted → r.state.erases ≡ replicate 32 0
  pub off : answer_of r.answer ≡ refuses 10 → r.state ≡ turned_off s

-- mount: the operations told by kind; the image's pages are those of a run of its marks where the image means a tree that is not thin, and else as they
-- were; finished, no block has an erase; where it is refused with 7, 8, 9, 12 or 10 the state is the one given, off
pub record Mounts (nand : Nand) (allowance : ℕ) (torn : List ℕ) (s : State) (i : List ℕ) (r : Wrote) (i' : List ℕ) : Type 0 where
  pub says : P.Mount index nand allowance torn s i (answer_of r.answer) (total r.ops) r.state i'
  pub kinds : start_refusal (geometry_of nand) (length i) (length torn) ≡ 0 → (K : Table) (G : ℕ)
      → image_meaning (geometry_of nand) i ≡ means K G → thin K ≡ false → r.ops ≡ told_of allowance (mount_ops (geometry_of nand) (pages_of (geometry_of nand) i))
  pub bytes : start_refusal (geometry_of nand) (length i) (length torn) ≡ 0 → (K : Table) (G : ℕ)
      → image_meaning (geometry_of nand) i ≡ means K G → thin K ≡ false → pages_of (geometry_of nand) i' ≡ (mounted_by (geometry_of nand) torn allowance (pages_of (geometry_of nand) i)).pages
  pub legal : Legal (geometry_of nand) (pages_of (geometry_of nand) i) (mount_ops (geometry_of nand) (pages_of (geometry_of nand) i))
  pub zeros : answer_of r.answer ≡ accepted → r.state.erases ≡ replicate 32 0
  pub off : start_refusal (geometry_of nand) (length i) (length torn) ≡ 0 → (n : ℕ) → answer_of r.answer ≡ refuses n
      → r.state ≡ turned_off s

-- rebuild, document 02, note 6: where the image means a tree, thin or not, a number is left and enough blocks are wholly free, the operations told by kind, and the
-- image's pages are those of a run of its operations, each of which the chip allows; finished, no block has an erase; where it is refused with 7, 8, 9 or 10 the state is the
-- one given, off
pub record Rebuilds (nand : Nand) (allowance : ℕ) (torn : List ℕ) (s : State) (i : List ℕ) (r : Wrote) (i' : List ℕ) : Type 0 where
  pub says : P.Rebuild index nand allowance torn s i (answer_of r.answer) (total r.ops) r.state i'
  pub kinds : (K : Table) (G : ℕ) → P.Rebuilding index nand torn i K G → r.ops ≡ told_of allowance (rebuild_ops (geometry_of nand) i)
  pub bytes : (K : Table) (G : ℕ) → P.Rebuilding index nand torn i K G
      → pages_of (geometry_of nand) i' ≡ (run (geometry_of nand) torn (record { power = Left allowance; pages = pages_of (geometry_of nand) i }) (rebuild_ops (geometry_of nand) i)).pages
  pub legal : (K : Table) (G : ℕ) → P.Rebuilding index nand torn i K G → Legal (geometry_of nand) (pages_of (geometry_of nand) i) (rebuild_ops (geometry_of nand) i)
  -- the units of one node stand in one page
  pub once : (K : Table) (G : ℕ) → P.Rebuilding index nand torn i K G → Distinct (groups_of (rebuild_plan (geometry_of nand) i K).written)
  pub zeros : answer_of r.answer ≡ accepted → r.state.erases ≡ replicate 32 0
  pub off : start_refusal (geometry_of nand) (length i) (length torn) ≡ 0 → (n : ℕ) → image_meaning (geometry_of nand) i ≡ invalid n → r.state ≡ turned_off s
  pub cut : answer_of r.answer ≡ refuses 10 → r.state ≡ turned_off s

-- the length of a node on flash: that of its list, 0 where it is freed there; a number that is not on flash has length 0
abbrev pub flash_length : Node → ℕ
flash_length x = cond (is_freed x.now) 0 (length x.pages)

-- the sum of these lengths
abbrev pub list_lengths : List Node → List ℕ → ℕ
list_lengths nodes ns = pages_read (λ (n : ℕ). flash_length (node_at nodes n)) ns

-- look up, on any state and any image: what P says of the key, and the sum of the lengths on flash of the nodes on its path, at most 16
pub record Looks (k : ℕ) (s : State) (i : List ℕ) (r : Result Look Refusal) : Type 0 where
  pub says : P.LookUp index k s i (look_of r) s i
  pub any : admission (geometry_in s) s.on s.blocks (length i) ≡ 0 → look_of r ≡ looked_up (find k (present_of (geometry_in s) s i))
  pub pages : admission (geometry_in s) s.on s.blocks (length i) ≡ 0 → pages_told r
      ≡ pages_read (length_of (geometry_in s) (limit_of s) (pages_of (geometry_in s) i) s.lens s.slots) (path k (present_of (geometry_in s) s i))
  -- on a state that calls gave, the lists are those of step 5, as the image gives them
  pub lists : Good (geometry_in s) s i → admission (geometry_in s) s.on s.blocks (length i) ≡ 0 → (nodes : List Node) (G : ℕ)
      → Views.meaning (geometry_in s) (limit_of s) (pages_of (geometry_in s) i) ≡ Views.means nodes G → pages_told r ≡ list_lengths nodes (path k (present_of (geometry_in s) s i))
  pub few : pages_told r ≤ 16
  -- past 2 and 1 the pages read are given, where the key is absent too
  pub given : admission (geometry_in s) s.on s.blocks (length i) ≡ 0 → is_ok r ≡ true

-- on any state: the part and B stay, and the units of the buffer are at most 960, or no more than there were
pub record KeepsBounds (s s' : State) : Type 0 where
  pub nand : s'.nand ≡ s.nand
  pub blocks : s'.blocks ≡ s.blocks
  pub units : s'.count ≤ max 960 s.count

-- insert and delete: what the promise says of an update of their kind; on any state no figure is changed
pub record UpdatesBy (u : UpdateCall) (s : State) (i : List ℕ) (r : Updated) : Type 0 where
  pub says : P.Updates index u s i (answer_of r.answer) r.state i
  pub bounds : KeepsBounds s r.state
  pub figures : r.state.erases ≡ s.erases

abbrev pub Inserts : (k v : ℕ) → State → List ℕ → Updated → Type 0
Inserts k v = UpdatesBy (insertion k v)

abbrev pub Deletes : (k : ℕ) → State → List ℕ → Updated → Type 0
Deletes k = UpdatesBy (deletion k)

-- the refusal of a block report: 2, 1, 4 for a block not on the chip
abbrev pub report_number : State → ℕ → ℕ → ℕ
report_number s len b = or_else (admission (geometry_in s) s.on s.blocks len) (when 4 (leb s.blocks b))

-- the pages of block b
abbrev pub block_pages : Geometry → ℕ → List ℕ → List (List ℕ)
block_pages g b image = part (b * g.pages) g.pages (pages_of g image)

-- block report: on any state and any image
pub record Reports (b : ℕ) (s : State) (i : List ℕ) (r : Result Report Refusal) : Type 0 where
  pub refusal : report_refusal r ≡ report_number s (length i) b
  pub free : report_refusal r ≡ 0 → free_told r ≡ count is_free (block_pages (geometry_in s) b i)
  pub first : report_refusal r ≡ 0 → first_told r ≡ first is_free (block_pages (geometry_in s) b i)
  pub erases : report_refusal r ≡ 0 → erases_told r ≡ get_or s.erases b 0

-- ---- commit and forecast
-- the operations of the plan of a commit
abbrev pub the_ops : Geometry → State → List ℕ → List Op
the_ops g s i = ops_of g s.commit (plan_at g s i)

-- a commit that its tests pass, with updates pending, on any state and any image
abbrev pub Proceeds : ℕ → List ℕ → State → List ℕ → Type 0
Proceeds allowance torn s i = P.Proceeding index (commits allowance (length i) (length torn)) s

-- commit: the records of the promise
pub record Commits (allowance : ℕ) (torn : List ℕ) (s : State) (i : List ℕ) (r : Wrote) (i' : List ℕ) : Type 0 where
  pub says : P.Commit index allowance torn s i (answer_of r.answer) (total r.ops) r.state i'
  -- on any state and any image: the operations told by kind are the first of the plan's
  pub kinds : Proceeds allowance torn s i → r.ops ≡ told_of allowance (the_ops (geometry_in s) s i)
  -- the image's pages are those of a run of the plan's operations
  pub bytes : Proceeds allowance torn s i → pages_of (geometry_in s) i' ≡ (run (geometry_in s) torn (record { power = Left allowance; pages = pages_of (geometry_in s) i }) (the_ops (geometry_in s) s i)).pages
  -- finished, each figure has grown by the erases of its block among them
  pub figures : Proceeds allowance torn s i → answer_of r.answer ≡ accepted → r.state.erases ≡ figures_after (the_ops (geometry_in s) s i) s.erases
  -- on a good state, with room or without: a program only where the data is all 255
  pub legal : P.Committing index allowance torn s i → Legal (geometry_in s) (pages_of (geometry_in s) i) (the_ops (geometry_in s) s i)
  -- the units of one node stand in one page
  pub once : P.Committing index allowance torn s i → Distinct (groups_of (plan_at (geometry_in s) s i).written)
  pub off : answer_of r.answer ≡ refuses 10 → r.state ≡ turned_off s
  pub bounds : KeepsBounds s r.state

-- forecast: the record of the promise; by kind, all operations of the plan; on any state and any image
pub record Forecasts (s : State) (i : List ℕ) (r : Result Counts Refusal) : Type 0 where
  pub says : P.Forecast index s i (answer_of (forecast_answer r)) (total (ops_foretold r)) s i
  pub kinds : P.Proceeding index (forecasts (length i)) s → ops_foretold r ≡ counts_of (kinds_of (the_ops (geometry_in s) s i))

-- what a forecast r says of a commit w with an allowance of n on the same state and image: with the sum of its counts, or more, the commit answers as the forecast did
-- and tells the same counts; with less it is cut and tells the allowance
pub record Foretells (n : ℕ) (r : Result Counts Refusal) (w : Wrote) : Type 0 where
  pub enough : total (ops_foretold r) ≤ n → (answer_of w.answer ≡ answer_of (forecast_answer r)) × (w.ops ≡ ops_foretold r)
  pub short : n < total (ops_foretold r) → (answer_of w.answer ≡ refuses 10) × (total w.ops ≡ n)
