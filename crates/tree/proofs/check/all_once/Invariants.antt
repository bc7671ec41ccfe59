use mathlib.Core.Path.{◌≡◌}
use mathlib.Core.Bool.{◌||◌}
use lib.ListN.{drop}
use Rattle.tree.specs.Thick.{thin_from}
use Rattle.tree.specs.CheckCode.{pages_table, counts_from}
use Rattle.tree.proofs.check.all_once.Given as goal

abbrev pub invariant-loop-n : goal.invariant-loop-n
invariant-loop-n l = (counts_from l.n (drop l.n (pages_table l.nodes.geometry l.nodes.image.now l.nodes.lens.now l.nodes.slots.now l.nodes.limit)) l.seen ≡ counts_from 0 (pages_table l.nodes.geometry l.nodes.image.now l.nodes.lens.now l.nodes.slots.now l.nodes.limit) l.seen)
    × ((l.thin || thin_from l.n (drop l.n (pages_table l.nodes.geometry l.nodes.image.now l.nodes.lens.now l.nodes.slots.now l.nodes.limit))) ≡ thin_from 0 (pages_table l.nodes.geometry l.nodes.image.now l.nodes.lens.now l.nodes.slots.now l.nodes.limit))
