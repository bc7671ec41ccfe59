-- What a commit may write of the nodes as the code computes it from the image and the arrays of a state, whatever these hold, and how it keeps that.
use Rattle.std.specs.Prelude.{◌≡◌, Bool, true, false, cond, ◌&&◌, ◌||◌, List, [], ◌∷◌, map, ℕ, ◌+◌, ◌*◌, ◌<◌, ◌≤◌, eqb, leb, ltb, get_or, length, set, take, Option, Some, None}
use Rattle.lists.specs.Lists.{any, flat, patch}
use Rattle.chip.specs.Geometry.{Geometry}
use Rattle.chip.specs.Page.{Page}
use Rattle.chip.specs.Chip.{in_block}
use Rattle.pages.specs.declared.unit.Update.{Update}
use Rattle.pages.specs.declared.unit.Unit.{Unit}
use Rattle.pages.specs.Units.{decodes, encode}
use Rattle.views.specs.Groups.{is_reset, unit_for}
use Rattle.views.specs.PassCode.{pushed}
use Rattle.views.specs.Stored.{node_view, stored_list}
use Rattle.journal.specs.Plan.{rewrite}
use Rattle.journal.specs.Admissible.{Contents}
use Rattle.journal.specs.Policy.{is_forced}
use Rattle.journal.specs.Packing.{is_unwritten}
use Rattle.journal.specs.PlanCode.{KeepsUnits, KeepsWritten, is_marked, target_in}

-- ---- the units of a node in the buffer
-- a unit of node n; a unit of another node counts as none
abbrev pub picked : ℕ → Option Unit → Option Unit
picked n (Some u) = cond (eqb u.node n) (Some u) None
picked n None = None

-- the update of a unit in front of others
abbrev pub with_update : Option Unit → List Update → List Update
with_update (Some u) us = u.update ∷ us
with_update None us = us

-- the updates of node n among what is decoded, in order
abbrev pub own_of : ℕ → List (Option Unit) → List Update
own_of n [] = []
own_of n (d ∷ ds) = with_update (picked n d) (own_of n ds)

-- among the first count units of bytes
abbrev pub own_in : ℕ → ℕ → ℕ → List ℕ → List Update
own_in limit n count bytes = own_of n (decodes limit count bytes)

-- ---- the contents of the nodes
abbrev pub contents_in : Geometry → ℕ → List Page → List ℕ → List ℕ → ℕ → List ℕ → Contents
contents_in g limit ps lens slots count bytes =
    record {
      after = λ (n : ℕ). node_view g limit ps lens slots count bytes n;
      buffered = λ (n : ℕ). own_in limit n count bytes;
      listed = λ (n : ℕ). stored_list lens slots n;
    }

-- ---- a tally of the buffer
-- how many units each node has, with one more
abbrev pub counted : Option Unit → List ℕ → List ℕ
counted (Some u) parts = set parts u.node (get_or parts u.node 0 + 1)
counted None parts = parts

-- the nodes with a reset marked, with one unit more
abbrev pub noted : Option Unit → List ℕ → List ℕ
noted (Some u) resets = cond (is_reset u.update) (set resets u.node 1) resets
noted None resets = resets

-- how many units each node has in the buffer, and whether one of them is a reset
pub record Tallied (limit count : ℕ) (bytes parts resets : List ℕ) : Type 0 where
  pub part : (n : ℕ) → n < 256 → get_or parts n 0 ≡ length (own_in limit n count bytes)
  pub reset : (n : ℕ) → n < 256 → is_marked resets n ≡ any is_reset (own_in limit n count bytes)
  pub few : (n : ℕ) → get_or parts n 0 ≤ 960
  pub bits : (n : ℕ) → get_or resets n 0 ≤ 1
  pub numbers : length parts ≡ 256
  pub marks : length resets ≡ 256

-- ---- units kept as bytes, 17 places for each node
-- the updates us of node n kept at its place, r units
pub record Keeps (n : ℕ) (us : List Update) (before after : List ℕ) (r : ℕ) : Type 0 where
  pub is : after ≡ patch before (204 * n) (12 * r) (flat encode (map (unit_for n) us))
  pub count : r ≡ length us
  pub few : r ≤ 17
  pub size : length after ≡ length before

-- the updates us kept behind the first k units of node n
pub record Appends (n k : ℕ) (us : List Update) (before after : List ℕ) (r : ℕ) : Type 0 where
  pub is : after ≡ pushed before (17 * n + k) (map (unit_for n) us)
  pub count : r ≡ k + length us

-- ---- arrays with a number for each node
-- the numbers of the nodes below k are f, the others as they were
pub record FillsArray (k : ℕ) (f : ℕ → ℕ) (before after : List ℕ) : Type 0 where
  pub done : (n : ℕ) → n < k → get_or after n 0 ≡ f n
  pub rest : (n : ℕ) → k ≤ n → get_or after n 0 ≡ get_or before n 0
  pub size : length after ≡ length before

-- ---- the nodes that a delta may write, read and kept
-- a node with buffered units, or of the oldest block
abbrev pub is_read : List ℕ → List ℕ → ℕ → Bool
is_read parts olds n = ltb 0 (get_or parts n 0) || is_marked olds n

-- what a closure can answer of a node, post, is w of it
abbrev pub Tells : (ℕ → Bool → Type 0) → (ℕ → Bool) → Type 0
Tells post w = (n : ℕ) (r : Bool) → n < 256 → post n r → r ≡ w n

-- one node, us anew: kept, and counted in wholes, where it is wanted
pub record ReadsNode (wanted : Bool) (n : ℕ) (us : List Update) (wholes counts units bytes : List ℕ) : Type 0 where
  pub count : counts ≡ cond wanted (set wholes n (length us)) wholes
  pub kept : wanted ≡ true → Keeps n us units bytes (length us)
  pub same : wanted ≡ false → bytes ≡ units

-- the wanted nodes below k, f n anew: kept, and counted
pub record ReadsNodes (k : ℕ) (wanted : ℕ → Bool) (f : ℕ → List Update) (wholes counts units bytes : List ℕ) : Type 0 where
  pub count : FillsArray k (λ (n : ℕ). cond (wanted n) (length (f n)) (get_or wholes n 0)) wholes counts
  pub kept : (n : ℕ) → n < k → wanted n ≡ true → KeepsUnits n (f n) (length (f n)) bytes
  pub same : (n : ℕ) (us : List Update) (r : ℕ) → (n < k → wanted n ≡ false) → KeepsUnits n us r units → KeepsUnits n us r bytes
  pub size : length bytes ≡ 52224

-- a node must be written anew: by the mark of a reset, its units in the buffer and anew, and the pages of its list
abbrev pub is_forced_by : ℕ → ℕ → ℕ → ℕ → Bool
is_forced_by reset part whole pages = ltb 0 part && (eqb reset 1 || (leb whole part || leb 4 pages))

-- each node below limit that was read is kept
abbrev pub KeepsRead : ℕ → Contents → List ℕ → List ℕ → List ℕ → List ℕ → Type 0
KeepsRead limit N parts wholes olds units =
    (n : ℕ) → n < limit → is_read parts olds n ≡ true → KeepsUnits n (rewrite (N.after n)) (get_or wholes n 0) units

-- a page of the list is in the oldest block; none is where there is no such block
abbrev pub in_oldest : Geometry → Option ℕ → List ℕ → Bool
in_oldest g None ps = false
in_oldest g (Some b) ps = any (in_block g b) ps

-- what is known of the nodes below limit: the units of each in the buffer, parts; marks of those of the oldest block, olds, and of those
-- that must be written anew, forms, before that the marks of a reset, resets; how many units each node that was read is anew, wholes, and these units
pub record Measured (g : Geometry) (limit : ℕ) (oldest : Option ℕ) (N : Contents) (parts resets forms wholes olds units : List ℕ) : Type 0 where
  pub old : (n : ℕ) → n < limit → is_marked olds n ≡ in_oldest g oldest (N.listed n)
  pub form : (n : ℕ) → n < limit → is_marked forms n ≡ is_forced N n
  pub bits : (n : ℕ) → get_or forms n 0 ≤ 1
  pub rest : (n : ℕ) → limit ≤ n → get_or forms n 0 ≡ get_or resets n 0
  pub kept : KeepsRead limit N parts wholes olds units
  pub none : (n : ℕ) → n < limit → is_read parts olds n ≡ false → get_or wholes n 0 ≡ 0
  pub few : (n : ℕ) → get_or wholes n 0 ≤ 17
  pub less : (n : ℕ) → n < limit → is_marked forms n ≡ false → get_or parts n 0 ≤ get_or wholes n 0
  pub marks : (length olds ≡ 256) × (length forms ≡ 256)
  pub numbers : length wholes ≡ 256
  pub bytes : length units ≡ 52224

-- every node below limit read, counted and kept, and marked to be written anew
pub record AllRead (limit : ℕ) (N : Contents) (forms wholes units : List ℕ) : Type 0 where
  pub form : (n : ℕ) → n < limit → get_or forms n 0 ≡ 1
  pub kept : (n : ℕ) → n < limit → KeepsUnits n (rewrite (N.after n)) (get_or wholes n 0) units
  pub marks : length forms ≡ 256
  pub numbers : length wholes ≡ 256
  pub bytes : length units ≡ 52224

-- ---- what is written of each node, at its place
-- the units of node n in the form that it has
abbrev pub form_of : List ℕ → (ℕ → List Update) → (ℕ → List Update) → ℕ → List Update
form_of forms whole own n = cond (is_marked forms n) (whole n) (own n)

-- the nodes below limit with a page from k on: kept anew where they are written so, else with room for their buffered units
pub record Readies (k limit : ℕ) (whole own : ℕ → List Update) (targets forms wholes parts units : List ℕ) : Type 0 where
  pub anew : (n : ℕ) → k ≤ n → n < limit → is_unwritten (target_in targets n) ≡ false → is_marked forms n ≡ true → KeepsUnits n (whole n) (get_or wholes n 0) units
  pub part : (n : ℕ) → k ≤ n → n < limit → is_unwritten (target_in targets n) ≡ false → is_marked forms n ≡ false
      → (get_or parts n 0 ≡ length (own n)) × (get_or parts n 0 ≤ 17)

-- where all are, every node is kept in its form
abbrev pub WritesForms : ℕ → (ℕ → List Update) → List ℕ → List ℕ → List ℕ → List ℕ → List ℕ → List ℕ → List ℕ → Type 0
WritesForms limit own targets forms wholes parts sizes units bytes =
    (whole : ℕ → List Update) → Readies 0 limit whole own targets forms wholes parts units → KeepsWritten limit (form_of forms whole own) targets sizes bytes

-- one node, us its buffered units: left or kept, and its size
pub record WritesNode (n : ℕ) (us : List Update) (targets forms wholes parts before sizes units bytes : List ℕ) : Type 0 where
  pub size : sizes ≡ cond (is_unwritten (target_in targets n)) before (set before n (cond (is_marked forms n) (get_or wholes n 0) (get_or parts n 0)))
  pub same : (is_unwritten (target_in targets n) || is_marked forms n) ≡ true → bytes ≡ units
  pub kept : (is_unwritten (target_in targets n) || is_marked forms n) ≡ false → (r : ℕ) × Keeps n (take 17 us) units bytes r
