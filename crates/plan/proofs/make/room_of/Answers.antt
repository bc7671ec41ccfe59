use Prim.Native.Nat.{◌*◌}
use native.Mathlib.Nat.{div-le_self}
use borrow.Author.Rules.{rules}
use Rattle.plan.proofs.make.room_of.Goals as goal

pub overflow_add-blocks : goal.overflow_add-blocks
overflow_add-blocks c = search (div-le_self (4 * c.args.blocks) c.args.geometry.pages, rules)
