use mathlib.Core.Path.{refl, ap, ◌∙◌}
use lib.ListN.{length}
use Rattle.views.specs.NodeCode.{entries_of}
use Rattle.tree.proofs.InsertCodeLaws.{none_some, passes_gained}
use Rattle.tree.proofs.insert.pass_up.Goals as goal

pub fit_or_split-requires : goal.fit_or_split-requires
fit_or_split-requires c = (c.requires.1, c.insert-new.ensures.room, ap length c.insert-new.ensures.is ∙ c.insert-new.ensures.len, c.requires.2)

pub returns-in_default : goal.returns-in_default
returns-in_default c = record { gained = λ x e. none_some e c.in_default.is; same = λ _. (refl, refl, refl) }

pub returns : goal.returns
returns c = passes_gained c.args.level c.args.node (entries_of c.args.n) c.args.r c.args.n.level c.insert-new.result c.args.buffer.now c.args.free.now _ _ c.fit_or_split.result c.in-Some.gain c.in-Some.is c.insert-new.ensures c.fit_or_split.ensures
