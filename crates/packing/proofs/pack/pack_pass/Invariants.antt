use mathlib.Core.List.{foldl}
use Rattle.std.proofs.Common.{◌≡◌, ◌+◌, ◌-◌, ◌≤◌, take}
use Rattle.journal.specs.Plan.{count_from}
use Rattle.journal.specs.PlanCode.{packing_of}
use Rattle.packing.specs.PackingCode.{pack_if, Ready}
use Rattle.packing.proofs.pack.pack_pass.Given as goal

abbrev pub invariant-loop-n : goal.invariant-loop-n
invariant-loop-n l = (l.k ≤ l.count + l.n) × Ready l.k l.rooms l.targets l.forms
    × (foldl (pack_if l.units l.always l.wholes l.parts l.forms) (packing_of (take l.k l.rooms) l.targets l.forms) (count_from l.n (l.limit - l.n))
    ≡ foldl (pack_if l.units l.always l.wholes l.parts l.forms) (packing_of (take l.count l.initial.rooms) l.initial.targets l.forms) (count_from 0 l.limit))
