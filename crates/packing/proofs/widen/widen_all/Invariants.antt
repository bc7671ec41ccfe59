use mathlib.Core.List.{foldl}
use Rattle.std.proofs.Common.{◌≡◌, ℕ, ◌-◌, take}
use Rattle.journal.specs.Plan.{count_from}
use Rattle.journal.specs.PlanCode.{packing_of}
use Rattle.packing.specs.PackingCode.{widen_if, KeepsForms, Ready}
use Rattle.packing.proofs.widen.widen_all.Given as goal

abbrev pub invariant-loop-n : goal.invariant-loop-n
invariant-loop-n l = Ready l.count l.rooms l.targets l.forms × KeepsForms l.initial.forms l.forms
    × ((units : ℕ) → foldl (widen_if units l.lens l.d l.wholes l.parts) (packing_of (take l.count l.rooms) l.targets l.forms) (count_from l.n (l.limit - l.n))
    ≡ foldl (widen_if units l.lens l.d l.wholes l.parts) (packing_of (take l.count l.initial.rooms) l.targets l.initial.forms) (count_from 0 l.limit))
