-- The commit policy: which nodes a commit writes anew, which in their own units, into which pages and on which places.
use Rattle.std.specs.Prelude.{Bool, false, cond, ◌&&◌, ◌||◌, List, [], ◌∷◌, ℕ, suc, ◌-◌, leb, ltb, length, take}
use Rattle.lists.specs.Lists.{filter, any}
use Rattle.chip.specs.Geometry.{Geometry}
use Rattle.chip.specs.Page.{Page}
use Rattle.chip.specs.Chip.{in_block}
use Rattle.pages.specs.declared.unit.Unit as U
use Rattle.pages.specs.Steps.{live_from}
use Rattle.views.specs.Table.{Node}
use Rattle.views.specs.Groups.{is_reset}
use Rattle.journal.specs.Plan.{Plan, rewrite, ring, is_used, places, head_block, spare_blocks, node_at, stuck}
use Rattle.journal.specs.Admissible.{Contents, contents_of, Assignment, unused_blocks, plan_from}
use Rattle.journal.specs.Packing.{Packing, Sizes, delta_packing, snapshot_packing}

-- ---- what the packing reads of the nodes
abbrev pub sizes_of : Geometry → Contents → Sizes
sizes_of g N = record { units = g.units; whole = λ (n : ℕ). length (rewrite (N.after n)); part = λ (n : ℕ). length (N.buffered n) }

-- buffered units, and among them a reset, or no more units anew, or a list of 4 pages
abbrev pub is_forced : Contents → ℕ → Bool
is_forced N n =
    ltb 0 (length (N.buffered n))
    && (any is_reset (N.buffered n) || (leb (length (rewrite (N.after n))) (length (N.buffered n)) || leb 4 (length (N.listed n))))

-- its list has a page in the first of these blocks
abbrev pub in_first : Geometry → Contents → List ℕ → ℕ → Bool
in_first g N [] n = false
in_first g N (b ∷ bs) n = any (in_block g b) (N.listed n)

-- the used blocks in circular order after the head, the oldest first
abbrev pub used_blocks : Geometry → ℕ → List Page → List Node → ℕ → List ℕ
used_blocks g B ps tb G = filter (is_used g tb G (live_from g 0 ps)) (ring B (head_block g ps))

-- ---- the two ways to pack
abbrev pub assignment_of : Packing → Assignment
assignment_of S = record { count = length S.rooms; target = S.target; is_anew = S.is_anew }

-- a delta; us are the used blocks, the oldest first
abbrev pub delta_assignment : Geometry → ℕ → List ℕ → Contents → Assignment
delta_assignment g limit us N = assignment_of (delta_packing (sizes_of g N) (is_forced N) (λ (n : ℕ). length (N.listed n)) (in_first g N us) limit)

abbrev pub snapshot_assignment : Geometry → ℕ → Contents → Assignment
snapshot_assignment g limit N = assignment_of (snapshot_packing (sizes_of g N) limit)

-- ---- the decision: a delta if it leaves the last h unused blocks, else a snapshot into the first h, else nothing
-- the pages of A and one more have places on the head and on the blocks bs
abbrev pub has_places : Geometry → List Page → ℕ → List ℕ → Assignment → Bool
has_places g ps head bs A = leb (suc A.count) (length (places g ps head bs))

pub data Decision : Type 0 where
  nothing : Decision
  follow : Assignment → Decision

-- unused blocks un, used blocks us, both in circular order after the head
abbrev pub decide_on : Geometry → ℕ → ℕ → List Page → ℕ → List ℕ → List ℕ → Contents → Decision
decide_on g limit h ps head un us N =
    cond (has_places g ps head (take (length un - h) un) (delta_assignment g limit us N)) (follow (delta_assignment g limit us N))
    (cond (has_places g ps head (take h un) (snapshot_assignment g limit N)) (follow (snapshot_assignment g limit N)) nothing)

abbrev pub decide : Geometry → ℕ → ℕ → List Page → List Node → ℕ → Contents → Decision
decide g limit B ps tb G N = decide_on g limit (spare_blocks g B) ps (head_block g ps) (unused_blocks g B ps tb G) (used_blocks g B ps tb G) N

-- ---- the plan of a commit: the image ps of B blocks means the table tb of limit nodes and the number G; us is the buffer
abbrev pub plan_by : Geometry → ℕ → ℕ → List Page → List Node → ℕ → Contents → Decision → Plan
plan_by g limit B ps tb G N nothing = stuck
plan_by g limit B ps tb G N (follow A) = plan_from g limit B ps tb G N A

abbrev pub plan_of : Geometry → ℕ → ℕ → List Page → List Node → ℕ → List U.Unit → Plan
plan_of g limit B ps tb G us = plan_by g limit B ps tb G (contents_of (node_at tb) us) (decide g limit B ps tb G (contents_of (node_at tb) us))
