-- What a state means on an image: the nodes that its table names, K, the units of its buffer, P; and the invariant that the calls keep.
use Rattle.std.specs.Prelude.{◌≡◌, true, false, cond, List, [], ◌∷◌, map, reverse, ℕ, ◌*◌, ◌≤◌, ◌<◌, eqb, leb, length, get_or, replicate, Option, Some, None}
use Rattle.lists.specs.Lists.{All, all, tab}
use Rattle.chip.specs.declared.geometry.Nand.TheVariants.{Small}
use Rattle.chip.specs.Geometry.{Geometry, geometry_of, blocks_of}
use Rattle.chip.specs.Chip.{Op, pages_of}
use Rattle.pages.specs.declared.unit.Unit as U
use Rattle.pages.specs.Units.{decodes, Valid}
use Rattle.pages.specs.Steps.{live_from, ordered, stand, steps}
use Rattle.views.specs.Nodes.{Entry, untouched}
use Rattle.views.specs.Groups.{own}
use Rattle.views.specs.Table as Views
use Rattle.views.specs.Table.{Node, is_whole}
use Rattle.views.specs.Stored.{stored_list, list_view}
use Rattle.tree.specs.Tree.{Table, entries_at}
use Rattle.tree.specs.Step6.{top, step6, Tree}
use Rattle.tree.specs.Thick.{thin}
use Rattle.tree.specs.Free.{free_numbers}
use Rattle.tree.specs.Shown.{shown}
use Rattle.journal.specs.Plan.{Plan, has_room, is_empty, node_at, ops_of, spare_blocks, stuck}
use Rattle.journal.specs.Admissible.{Contents}
use Rattle.journal.specs.Policy.{decide, plan_by}
use Rattle.promise.specs.Image.{views_of}
use Rattle.store.specs.declared.state.State.{State}

-- a state that is off, with nothing in it
abbrev pub initial : State
initial =
    record {
      on = false;
      nand = Small;
      blocks = 0;
      commit = 0;
      pending = 0;
      free = replicate 4 0;
      count = 0;
      buffer = replicate 11520 0;
      lens = replicate 256 0;
      slots = replicate 1024 0;
      erases = replicate 32 0;
    }

-- the same state, off
abbrev pub turned_off : State → State
turned_off s =
    record {
      on = false;
      nand = s.nand;
      blocks = s.blocks;
      commit = s.commit;
      pending = s.pending;
      free = s.free;
      count = s.count;
      buffer = s.buffer;
      lens = s.lens;
      slots = s.slots;
      erases = s.erases;
    }

-- the geometry of its part
abbrev pub geometry_in : State → Geometry
geometry_in s = geometry_of s.nand

-- node numbers are below 8 × B
abbrev pub limit_of : State → ℕ
limit_of s = 8 * s.blocks

-- node n as the table and the image give it: its view from the pages of its list, and its list, the newest page first
abbrev pub node_from : Geometry → State → List ℕ → ℕ → Node
node_from g s image n =
    record {
      now = list_view g (limit_of s) (pages_of g image) n (stored_list s.lens s.slots n);
      pages = reverse (stored_list s.lens s.slots n);
    }

unfoldable pub nodes_of : Geometry → State → List ℕ → List Node
nodes_of g s image = tab 0 (limit_of s) (node_from g s image)

-- the units of the buffer
abbrev pub goods : List (Option U.Unit) → List U.Unit
goods [] = []
goods (Some u ∷ ds) = u ∷ goods ds
goods (None ∷ ds) = goods ds

unfoldable pub units_of : State → List U.Unit
units_of s = goods (decodes (limit_of s) s.count s.buffer)

-- P: each node from its pages and then from the buffer
unfoldable pub present_of : Geometry → State → List ℕ → Table
present_of g s image = shown g (limit_of s) (pages_of g image) s.lens s.slots s.count s.buffer

-- the invariant: the state is one that calls gave for this image
pub record Good (g : Geometry) (s : State) (image : List ℕ) : Type 0 where
  -- the image is a chip of the state's B
  pub blocks : s.blocks ≡ blocks_of g (length image)
  pub chip : 0 < s.blocks
  -- the image means the nodes of the table and G, no page is void, and the nodes are a tree, K
  pub short : (n : ℕ) → n < limit_of s → get_or s.lens n 0 ≤ 4
  pub means : Views.meaning g (limit_of s) (pages_of g image) ≡ Views.means (nodes_of g s image) s.commit
  pub clean : steps g (pages_of g image) ≡ stand [] (ordered (live_from g 0 (pages_of g image)))
  pub kept : step6 (views_of (nodes_of g s image)) ≡ true
  -- the buffer holds units of the layout, at most 60 for each pending update
  pub units : decodes (limit_of s) s.count s.buffer ≡ map Some (units_of s)
  pub valid : All (Valid (limit_of s)) (units_of s)
  pub few : s.count ≤ 60 * s.pending
  pub some : 0 < s.pending → 0 < s.count
  pub pending : s.pending ≤ 16
  -- P is a tree, and not thin; its keys and values have 32 bits; no view is broken; its free numbers are on record
  pub tree : Tree (present_of g s image)
  pub words : (n : ℕ) → All (λ (e : Entry). (e.key < top) × (e.value < top)) (entries_at (present_of g s image) n)
  pub whole : all is_whole (present_of g s image) ≡ true
  pub thick : thin (present_of g s image) ≡ false
  pub free : s.free ≡ free_numbers (present_of g s image)
  -- a block past the chip has no erase on record
  pub past : (b : ℕ) → s.blocks ≤ b → get_or s.erases b 0 ≡ 0

-- an image has room for a commit: enough of its blocks are unused
abbrev pub RoomIn : Geometry → List ℕ → Views.NodesRead → Type 0
RoomIn g image (Views.refusal n) = ⊥
RoomIn g image (Views.means nodes G) =
    has_room g (blocks_of g (length image)) (spare_blocks g (blocks_of g (length image))) nodes G (live_from g 0 (pages_of g image)) ≡ true

unfoldable pub Room : Geometry → List ℕ → Type 0
Room g image = RoomIn g image (Views.meaning g (8 * blocks_of g (length image)) (pages_of g image))

-- ---- the plan of a commit, on any state and any image
-- what may be written of each node: the node as P has it, or its units in the buffer; and the pages of its list
abbrev pub contents_at : Geometry → State → List ℕ → Contents
contents_at g s image =
    record {
      after = λ (n : ℕ). get_or (present_of g s image) n untouched;
      buffered = λ (n : ℕ). own n (units_of s);
      listed = λ (n : ℕ). (node_at (nodes_of g s image) n).pages;
    }

-- a plan without a page does nothing
abbrev pub paged : Plan → Plan
paged q = cond (is_empty q.written) stuck q

-- the plan of the policy over these; nothing where the buffer claims more units than it holds
unfoldable pub plan_at : Geometry → State → List ℕ → Plan
plan_at g s image =
    cond (leb s.count 960)
    (paged (plan_by g (limit_of s) s.blocks (pages_of g image) (nodes_of g s image) s.commit (contents_at g s image)
    (decide g (limit_of s) s.blocks (pages_of g image) (nodes_of g s image) s.commit (contents_at g s image))))
    stuck

-- the operations of a commit: none with nothing pending, else those of its plan
unfoldable pub commit_ops : Geometry → State → List ℕ → List Op
commit_ops g s image = cond (eqb s.pending 0) [] (ops_of g s.commit (plan_at g s image))
