-- What reading a node answers, and reading the node table of the standing pages: steps 4 and 5.
use Rattle.std.specs.Prelude.{◌≡◌, Bool, true, ◌&&◌, List, map, ℕ, ◌<◌, ◌≤◌}
use Rattle.lists.specs.Lists.{all}
use Rattle.chip.specs.Geometry.{Geometry}
use Rattle.chip.specs.Page.{Page}
use Rattle.chip.specs.Chip.{pages_of}
use Rattle.pages.specs.Steps.{Live, stand, steps}
use Rattle.pages.specs.KeyCode.{key_of}
use Rattle.views.specs.Table.{events, is_sound, is_well, node_of, table}
use Rattle.views.specs.declared.view.Reading.{Reading}
use Rattle.views.specs.FoldCode.{Stands}
use Rattle.views.specs.Stored.{Stores, length_of, node_view}

-- node n: its view from its pages and then from the buffer, and its length on flash
pub record ReadNode (g : Geometry) (limit : ℕ) (pages : List Page) (lens slots : List ℕ) (count : ℕ) (bytes : List ℕ) (n : ℕ) (r : Reading) : Type 0 where
  pub view : Stands r.folded (node_view g limit pages lens slots count bytes n)
  pub length : r.pages ≡ length_of g limit pages lens slots n
  pub few : r.pages ≤ 4

-- of the standing pages xs: whether steps 4 and 5 pass, and where they do every node's list is stored
pub record ReadTable (limit : ℕ) (xs : List Live) (lens slots : List ℕ) (answer : Bool) : Type 0 where
  pub good : answer ≡ (all is_sound (events limit xs) && all is_well (table limit (events limit xs)))
  pub lists : answer ≡ true → (n : ℕ) → n < 256 → Stores lens slots n (node_of n (events limit xs)).pages

-- the keys are those of the standing pages of the image
abbrev pub Reads : Geometry → List ℕ → List ℕ → ℕ → List ℕ → List ℕ → Bool → Type 0
Reads g image keys limit lens slots answer =
    (v xs : List Live) → steps g (pages_of g image) ≡ stand v xs → keys ≡ map key_of xs → ReadTable limit xs lens slots answer
