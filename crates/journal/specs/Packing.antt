-- How the nodes of a commit are packed into pages: first fit by the number of their units, and pages that have room are filled.
use Rattle.std.specs.Prelude.{Bool, true, false, cond, ◌&&◌, ℕ, ◌+◌, ◌-◌, leb, ltb, eqb, get_or}
use mathlib.Core.List.{List, [], ◌∷◌, foldl}
use Rattle.lists.specs.Lists.{filter, any, first, modify}
use Rattle.journal.specs.Plan.{count_from}
use Rattle.journal.specs.Admissible.{Target, unwritten, in_page}

-- ---- units: of a page, of node n anew, of its own buffered units
pub record Sizes : Type 0 where
  pub units : ℕ
  pub whole : ℕ → ℕ
  pub part : ℕ → ℕ

abbrev pub size_of : Sizes → Bool → ℕ → ℕ
size_of z a n = cond a (z.whole n) (z.part n)

-- ---- the state: free units of each page, and for each node its page and its form
pub record Packing : Type 0 where
  pub rooms : List ℕ
  pub target : ℕ → Target
  pub is_anew : ℕ → Bool

-- x at n, else as before
abbrev pub changed_at : {A : Type 0} → ℕ → A → (ℕ → A) → ℕ → A
changed_at n x f m = cond (eqb m n) x (f m)

abbrev pub is_unwritten : Target → Bool
is_unwritten unwritten = true
is_unwritten (in_page p) = false

-- s units into the first page that has room, else into a new one
abbrev pub fit : ℕ → ℕ → List ℕ → List ℕ
fit units s [] = (units - s) ∷ []
fit units s (r ∷ rs) = cond (leb s r) ((r - s) ∷ rs) (r ∷ fit units s rs)

-- node n, in form a, into that page
abbrev pub assign : Sizes → Bool → ℕ → Packing → Packing
assign z a n S =
    record {
      rooms = fit z.units (size_of z a n) S.rooms;
      target = changed_at n (in_page (first (leb (size_of z a n)) S.rooms)) S.target;
      is_anew = changed_at n a S.is_anew;
    }

-- pack: a node with units to write that has no page yet
abbrev pub pack_node : Sizes → Packing → ℕ → Packing
pack_node z S n = cond (is_unwritten (S.target n) && ltb 0 (size_of z (S.is_anew n) n)) (assign z (S.is_anew n) n S) S

-- fill: a node without a page is written anew where a page has room
abbrev pub fill_node : Sizes → Packing → ℕ → Packing
fill_node z S n = cond (is_unwritten (S.target n) && (ltb 0 (z.whole n) && any (leb (z.whole n)) S.rooms)) (assign z true n S) S

-- fill: a node in its own units turns anew where its page has room
abbrev pub widen_in : Sizes → Packing → ℕ → Target → Packing
widen_in z S n unwritten = S
widen_in z S n (in_page p) =
    cond (leb (z.whole n) (z.part n + get_or S.rooms p 0))
    (record { rooms = modify p (λ (r : ℕ). z.part n + r - z.whole n) S.rooms; target = S.target; is_anew = changed_at n true S.is_anew })
    S

abbrev pub widen_node : Sizes → Packing → ℕ → Packing
widen_node z S n = cond (S.is_anew n) S (widen_in z S n (S.target n))

-- ---- the folds over the node numbers
-- no page yet, and these nodes to be written anew
abbrev pub unpacked : (ℕ → Bool) → Packing
unpacked forced = record { rooms = []; target = λ (n : ℕ). unwritten; is_anew = forced }

-- first fit: the nodes written anew, then the others
abbrev pub packed : Sizes → (ℕ → Bool) → ℕ → Packing
packed z forced limit = foldl (pack_node z) (foldl (pack_node z) (unpacked forced) (filter forced (count_from 0 limit))) (count_from 0 limit)

-- the nodes whose lists have d pages
abbrev pub widened : Sizes → (ℕ → ℕ) → ℕ → ℕ → Packing → Packing
widened z depth limit d S = foldl (widen_node z) S (filter (λ (n : ℕ). eqb (depth n) d) (count_from 0 limit))

-- the nodes of the oldest block
abbrev pub filled : Sizes → (ℕ → Bool) → ℕ → Packing → Packing
filled z old limit S = foldl (fill_node z) S (filter old (count_from 0 limit))

-- a delta: lists of 3 pages, then nodes of the oldest block, then lists of 2 and of 1
abbrev pub delta_packing : Sizes → (ℕ → Bool) → (ℕ → ℕ) → (ℕ → Bool) → ℕ → Packing
delta_packing z forced depth old limit =
    widened z depth limit 1 (widened z depth limit 2 (filled z old limit (widened z depth limit 3 (packed z forced limit))))

-- a snapshot: every node anew
abbrev pub snapshot_packing : Sizes → ℕ → Packing
snapshot_packing z limit = packed z (λ (n : ℕ). true) limit
