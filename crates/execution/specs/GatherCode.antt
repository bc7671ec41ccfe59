-- How the code gathers the units of a page from the arrays that hold a plan: node after node, one behind the other, in front of a buffer.
use Rattle.std.specs.Prelude.{◌≡◌, ℕ, ◌+◌, ◌*◌, ◌≤◌, false, cond, List, [], ◌++◌, map, length, take, slice_index}
use Rattle.lists.specs.Lists.{flat}
use Rattle.chip.specs.Geometry.{Geometry}
use Rattle.pages.specs.declared.unit.Update.{Update}
use Rattle.pages.specs.declared.unit.Unit as U
use Rattle.pages.specs.Units.{encode}
use Rattle.pages.specs.Data.{data_of}
use Rattle.views.specs.Groups.{unit_for}
use Rattle.journal.specs.Admissible.{Target, goes_to, page_packs}
use Rattle.journal.specs.Commit.{units_of_packs}
use Rattle.journal.specs.Packing.{is_unwritten}
use Rattle.journal.specs.PlanCode.{KeepsUnits, KeepsWritten, target_in}

-- ---- f n is what is written of node n
-- the units of page p, and those of node n among them
abbrev pub page_units : (ℕ → List Update) → (ℕ → Target) → ℕ → ℕ → List U.Unit
page_units f target limit p = units_of_packs (page_packs f target limit p)

abbrev pub units_on : (ℕ → List Update) → (ℕ → Target) → ℕ → ℕ → List U.Unit
units_on f target p n = cond (goes_to p (target n)) (map (unit_for n) (f n)) []

-- ---- the units us put behind the first k units of b make c, which then has r units
pub record Puts (k : ℕ) (us : List U.Unit) (b c : List ℕ) (r : ℕ) : Type 0 where
  pub is : take (12 * r) c ≡ take (12 * k) b ++ flat encode us
  pub count : r ≡ k + length us

-- the units of node n that page p has, where a page of `room` units has room for them
pub record PushesNode (room : ℕ) (targets sizes units : List ℕ) (p n k : ℕ) (b c : List ℕ) (r : ℕ) : Type 0 where
  pub few : r ≤ room
  pub is : (f : ℕ → List Update) → (is_unwritten (target_in targets n) ≡ false → KeepsUnits n (f n) (slice_index sizes n) units)
      → k + length (units_on f (target_in targets) p n) ≤ room → Puts k (units_on f (target_in targets) p n) b c r

-- c begins with the r units us
pub record Begins (us : List U.Unit) (c : List ℕ) (r : ℕ) : Type 0 where
  pub is : take (12 * r) c ≡ flat encode us
  pub count : r ≡ length us

-- the units of page p, where a page of `room` units holds them
pub record Gathers (room limit : ℕ) (targets sizes units : List ℕ) (p : ℕ) (c : List ℕ) (r : ℕ) : Type 0 where
  pub few : r ≤ room
  pub is : (f : ℕ → List Update) → KeepsWritten limit f targets sizes units → length (page_units f (target_in targets) limit p) ≤ room
      → Begins (page_units f (target_in targets) limit p) c r

-- the data of page p of total of a commit, where a page holds its units
abbrev pub Built : Geometry → ℕ → List ℕ → List ℕ → List ℕ → ℕ → ℕ → ℕ → List ℕ → Type 0
Built g limit targets sizes units commit p total page =
    (f : ℕ → List Update) → KeepsWritten limit f targets sizes units → length (page_units f (target_in targets) limit p) ≤ g.units
    → page ≡ data_of g commit p total (page_units f (target_in targets) limit p)
