use Rattle.std.proofs.Common.{take}
use Rattle.chip.specs.Chip.{pages_of}
use Rattle.chip.specs.RunCode.{Ran}
use Rattle.journal.specs.MountCode.{retire_ops}
use Rattle.journal.proofs.mount.retire_all.Given as goal

abbrev pub invariant-loop-at : goal.invariant-loop-at
invariant-loop-at l = Ran l.geometry l.torn (retire_ops l.geometry l.commit (take l.at (pages_of l.geometry l.initial.image))) l.initial.reached l.reached l.initial.image l.image
