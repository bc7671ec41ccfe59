use lib.ListN.{take}
use Rattle.probe.specs.Makes.{rig, CarriesIn}
use Rattle.probe.proofs.take_bytes.Given as goal

abbrev pub invariant-loop-byte : goal.invariant-loop-byte
invariant-loop-byte g l =
    CarriesIn (take l.byte-index l.bytes) l.initial.reading.line
    (rig l.initial.reading.probe.bed l.initial.torn l.initial.reading.probe.state l.initial.image) l.reading.line
    (rig l.reading.probe.bed l.torn l.reading.probe.state l.image)
