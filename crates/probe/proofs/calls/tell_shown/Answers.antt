use native.Mathlib.Omega.{arith}
use Rattle.probe.proofs.ShowBounds.{shown_few}
use Rattle.probe.proofs.calls.tell_shown.Goals as goal

pub put_shown-requires : goal.put_shown-requires
put_shown-requires c =
    let few = shown_few c.args.nand c.args.image.now c.show-shown.result.now c.args.page c.show-shown.ensures.shown in
    omega (arith, few, c.requires)
