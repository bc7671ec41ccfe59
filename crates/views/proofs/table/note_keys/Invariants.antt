use Rattle.views.proofs.TableLaws.{Passing}
use Rattle.views.proofs.table.note_keys.Given as goal

abbrev pub invariant-loop-key : goal.invariant-loop-key
invariant-loop-key l = Passing l.geometry l.image l.limit l.keys l.initial.lens l.initial.slots l.key-index l.lens l.slots
