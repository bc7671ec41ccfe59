-- How the code holds the plan of a commit: for each node its page and its form as numbers, and its units as bytes at a place of its own.
use Rattle.std.specs.Prelude.{◌≡◌, Bool, false, cond, List, map, ℕ, ◌*◌, ◌<◌, ◌≤◌, eqb, drop, get_or, length, take}
use Rattle.lists.specs.Lists.{flat}
use Rattle.pages.specs.declared.unit.Update.{Update}
use Rattle.pages.specs.Units.{encode}
use Rattle.views.specs.Groups.{unit_for}
use Rattle.journal.specs.Admissible.{Target, unwritten, in_page}
use Rattle.journal.specs.Packing.{Packing, Sizes, is_unwritten}

-- ---- numbers
-- the page of a node; 65,535 for none
abbrev pub target_of : ℕ → Target
target_of x = cond (eqb x 65535) unwritten (in_page x)

abbrev pub target_in : List ℕ → ℕ → Target
target_in targets n = target_of (get_or targets n 65535)

-- 1 for a node that has the property, say that it is written anew
abbrev pub is_marked : List ℕ → ℕ → Bool
is_marked marks n = eqb (get_or marks n 0) 1

-- the free units of each page, the page of each node, the nodes written anew
abbrev pub packing_of : List ℕ → List ℕ → List ℕ → Packing
packing_of rooms targets forms = record { rooms = rooms; target = target_in targets; is_anew = is_marked forms }

-- units of a page, of each node anew, of each node in the buffer
abbrev pub sizes_in : ℕ → List ℕ → List ℕ → Sizes
sizes_in units wholes parts = record { units = units; whole = λ (n : ℕ). get_or wholes n 0; part = λ (n : ℕ). get_or parts n 0 }

-- ---- bytes: 17 units of 12 bytes for each node
-- the first `size` units of node n are the updates us
pub record KeepsUnits (n : ℕ) (us : List Update) (size : ℕ) (units : List ℕ) : Type 0 where
  pub len : size ≡ length us
  pub few : length us ≤ 17
  pub is : take (12 * length us) (drop (204 * n) units) ≡ flat encode (map (unit_for n) us)

-- what is written of each node below limit that has a page: f n
abbrev pub KeepsWritten : ℕ → (ℕ → List Update) → List ℕ → List ℕ → List ℕ → Type 0
KeepsWritten limit f targets sizes units =
    (n : ℕ) → n < limit → is_unwritten (target_in targets n) ≡ false → KeepsUnits n (f n) (get_or sizes n 0) units
