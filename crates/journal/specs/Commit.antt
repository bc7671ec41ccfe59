-- The pages of a commit, and the operations that write it: erases of blocks, then each page in order of its index.
use Rattle.std.specs.Prelude.{List, [], ◌∷◌, ◌++◌, map, ℕ, suc, ◌<◌, ◌≤◌, length}
use Rattle.lists.specs.Lists.{All, flat}
use Rattle.chip.specs.Geometry.{Geometry}
use Rattle.chip.specs.Page.{Page}
use Rattle.chip.specs.Chip.{Op, erase, whole}
use Rattle.pages.specs.declared.unit.Update.{Update}
use Rattle.pages.specs.declared.unit.Unit as U
use Rattle.pages.specs.Units.{Valid}
use Rattle.pages.specs.Data.{data_of}
use Rattle.pages.specs.Steps.{Live}
use Rattle.pages.specs.Write.{writes}
use Rattle.views.specs.Groups.{Group, unit_for}

-- the updates of one node, not yet on a page
pub record Pack : Type 0 where
  pub node : ℕ
  pub updates : List Update

-- a page of a commit: its place and its packs
pub record Sheet : Type 0 where
  pub place : ℕ
  pub packs : List Pack

-- the units of a page in order
abbrev pub units_of_packs : List Pack → List U.Unit
units_of_packs ks = flat (λ (k : Pack). map (unit_for k.node) k.updates) ks

-- the groups of a page, and of all pages
abbrev pub group_at : ℕ → Pack → Group
group_at p k = record { place = p; node = k.node; updates = k.updates }

abbrev pub groups_of : List Sheet → List Group
groups_of ts = flat (λ (t : Sheet). map (group_at t.place) t.packs) ts

-- pages k, k + 1, .. of n of commit c
abbrev pub pages_from : Geometry → ℕ → ℕ → ℕ → List Sheet → List Live
pages_from g c n k [] = []
pages_from g c n k (t ∷ ts) = record { place = t.place; bytes = data_of g c k n (units_of_packs t.packs) } ∷ pages_from g c n (suc k) ts

-- all pages of commit c, as they are when they are live
abbrev pub new_pages : Geometry → ℕ → List Sheet → List Live
new_pages g c ts = pages_from g c (length ts) 0 ts

-- a sheet has 1 to U units, and these obey the layout
pub record ValidSheet (g : Geometry) (limit : ℕ) (t : Sheet) : Type 0 where
  pub few : length (units_of_packs t.packs) ≤ g.units
  pub some : 0 < length (units_of_packs t.packs)
  pub valid : All (Valid limit) (units_of_packs t.packs)

-- ---- the operations
abbrev pub writes_of : Live → List Op
writes_of x = writes x.place x.bytes

-- erases of the blocks bs, then the pages news, each by used mark, data, valid mark
abbrev pub commit_ops : List ℕ → List Live → List Op
commit_ops bs news = map erase bs ++ flat writes_of news

-- the pages of a chip after the erases
abbrev pub cleared : Geometry → List ℕ → List Page → List Page
cleared g [] ps = ps
cleared g (b ∷ bs) ps = cleared g bs (whole g (erase b) ps)
