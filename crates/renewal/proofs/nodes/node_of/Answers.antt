use mathlib.Core.Path.{refl}
use native.Mathlib.Omega.{arith}
use lib.ListN.{drop, replicate}
use Rattle.renewal.proofs.NodesLaws.{copied, shows_entries}
use Rattle.renewal.proofs.nodes.node_of.Goals as goal

pub returns : goal.returns
returns c =
    let ks = copied c.args.q c.args.from c.args.keys.now c.copy_from_slice.new.self (replicate 17 0) c.requires.0 c.copy_from_slice.ensures.after (omega arith) in
    let vs = copied c.args.q c.args.from c.args.values.now c.copy_from_slice-2.new.self (replicate 17 0) c.requires.1 c.copy_from_slice-2.ensures.after (omega arith) in
    (shows_entries _ c.args.level c.args.q (drop c.args.from c.args.keys.now) (drop c.args.from c.args.values.now) refl refl c.requires.3 ks.1 vs.1 ks.0 vs.0, refl)
