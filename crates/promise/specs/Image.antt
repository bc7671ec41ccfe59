-- What an image means by steps 1 to 6: 7, 8 or 9, or its tree and its greatest standing number. This is what a store's contracts take for `meaning`.
use Rattle.std.specs.Prelude.{cond, List, map, ℕ, ◌*◌, length}
use Rattle.chip.specs.Geometry.{Geometry, blocks_of}
use Rattle.chip.specs.Chip.{pages_of}
use Rattle.views.specs.Table as Views
use Rattle.tree.specs.Tree.{Table}
use Rattle.tree.specs.Step6.{step6}
use Rattle.promise.specs.Calls.{Meaning, invalid, means}

-- the views of the nodes, by number
abbrev pub views_of : List Views.Node → Table
views_of nodes = map (λ (s : Views.Node). s.now) nodes

-- step 6 on what steps 1 to 5 gave
abbrev pub checked : Table → ℕ → Meaning
checked t G = cond (step6 t) (means t G) (invalid 9)

abbrev pub by_six : Views.NodesRead → Meaning
by_six (Views.refusal n) = invalid n
by_six (Views.means nodes G) = checked (views_of nodes) G

-- node numbers are below 8 × B
unfoldable pub image_meaning : Geometry → List ℕ → Meaning
image_meaning g image = by_six (Views.meaning g (8 * blocks_of g (length image)) (pages_of g image))
