use mathlib.Core.Path.{◌≡◌, ap, ◌∙◌}
use Prim.Native.Nat.{ℕ, ◌*◌, ◌+◌, ◌-◌}
use native.Mathlib.Omega.{arith}
use lib.ListN.{drop, length, take}
use Rattle.std.specs.List.{list_any}
use Rattle.chip.specs.Chip.{in_block}
use Rattle.contents.proofs.MeasureLaws.{listed_is}
use borrow.Author.Rules.{rules}
use Rattle.contents.proofs.measure.is_of_oldest.Goals as goal

pub returns : goal.returns
returns c =
    let k : 4 * c.args.node + c.used_slots-used.result - 4 * c.args.node ≡ c.used_slots-used.result = omega arith in
    let b = c.in-Some.block in
    let slots-long : length c.args.nodes.slots.now ≡ 1024 = search rules in
    rw c.in-Some.is (c.has_page_in.ensures ∙ ap (λ (m : ℕ). list_any (in_block c.args.nodes.geometry b) (take m (drop (4 * c.args.node) c.args.nodes.slots.now))) k
    ∙ listed_is (in_block c.args.nodes.geometry b) c.args.nodes.lens.now c.args.nodes.slots.now c.args.node c.used_slots-used.result c.used_slots-used.ensures.0 slots-long c.requires.0)
