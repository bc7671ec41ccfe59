-- The operations of a rebuild, read from an image alone, and whether enough of its blocks are wholly free.
use Rattle.std.specs.Prelude.{Bool, List, [], ℕ, ◌*◌, length}
use Rattle.chip.specs.Geometry.{Geometry, blocks_of}
use Rattle.chip.specs.Chip.{Op, pages_of}
use Rattle.tree.specs.Tree.{Table, at}
use Rattle.tree.specs.Rebuild.{rebuild}
use Rattle.journal.specs.Plan.{Plan}
use Rattle.journal.specs.Rebuild as Log
use Rattle.promise.specs.Calls.{Meaning, invalid, means}
use Rattle.promise.specs.Image.{image_meaning}

-- as many blocks are wholly free as a rebuild needs
unfoldable pub has_free_blocks : Geometry → List ℕ → Bool
has_free_blocks g i = Log.has_free_blocks g (blocks_of g (length i)) (pages_of g i)

-- the plan of the rebuild of tree K
abbrev pub rebuild_plan : Geometry → List ℕ → Table → Plan
rebuild_plan g i K = Log.rebuild_plan g (8 * blocks_of g (length i)) (blocks_of g (length i)) (pages_of g i) (at (rebuild K))

-- the operations of a rebuild of an image with this meaning: none where that is no tree
abbrev pub ops_for : Geometry → List ℕ → Meaning → List Op
ops_for g i (invalid n) = []
ops_for g i (means K G) = Log.rebuild_ops g (8 * blocks_of g (length i)) (blocks_of g (length i)) (pages_of g i) G (at (rebuild K))

unfoldable pub rebuild_ops : Geometry → List ℕ → List Op
rebuild_ops g i = ops_for g i (image_meaning g i)
