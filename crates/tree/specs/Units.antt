-- What units do to the table (step 4).
use mathlib.Core.List.{List, map, foldl}
use Rattle.std.specs.Prelude.{ℕ}
use Rattle.pages.specs.declared.unit.Unit as U
use Rattle.views.specs.Nodes.{Entry, apply, anew}
use Rattle.views.specs.Groups.{unit_for}
use Rattle.tree.specs.Tree.{Table, at, put}

-- a unit changes the view of its node
abbrev pub touch_view : Table → U.Unit → Table
touch_view t u = put u.node (apply (at t u.node) u.update) t

-- the table after these units, one after the other
unfoldable pub after_units : List U.Unit → Table → Table
after_units us t = foldl touch_view t us

-- node n of level l written anew: a reset, and an insert for each entry
unfoldable pub anew_at : ℕ → ℕ → List Entry → List U.Unit
anew_at l n es = map (unit_for n) (anew l es)
