use mathlib.Core.Path.{refl, sym, ap, ◌∙◌}
use mathlib.Core.Bool.{Bool, ◌||◌}
use Prim.Native.Nat.{◌+◌}
use native.Mathlib.Omega.{arith}
use lib.ListN.{drop}
use Rattle.tree.specs.Tree.{there}
use Rattle.tree.specs.Thick.{is_thin, thin_from}
use Rattle.tree.specs.CheckCode.{pages_table}
use Rattle.tree.proofs.CheckLaws.{listed_same, length_listed, counts_pass, thin_pass, counted_fail, counted_end}
use Rattle.tree.proofs.check.all_once.Goals as goal

pub loop-n-init : goal.loop-n-init
loop-n-init c = (refl, refl)

pub returns-then-count_at-presence : goal.returns-then-count_at-presence
returns-then-count_at-presence c = let t = pages_table c.args.nodes.geometry c.args.nodes.image.now c.args.nodes.lens.now c.args.nodes.slots.now c.args.nodes.limit in
    let e = listed_same c.args.nodes.geometry c.args.nodes.image.now c.args.nodes.lens.now c.args.nodes.slots.now c.args.nodes.limit there refl c.loop-n.n ∙ ap there (sym c.list_view-f.ensures.is) ∙ sym c.presence.ensures in
    let l = length_listed c.args.nodes.geometry c.args.nodes.image.now c.args.nodes.lens.now c.args.nodes.slots.now c.args.nodes.limit in
    counted_fail t c.args.seen.now c.loop-n.n c.loop-n.invariant.0 (omega arith) (λ z. c.if-count_at-presence.true (c.count_at.ensures ∙ z ∙ e))

pub loop-n-preserved : goal.loop-n-preserved
loop-n-preserved c = let t = pages_table c.args.nodes.geometry c.args.nodes.image.now c.args.nodes.lens.now c.args.nodes.slots.now c.args.nodes.limit in
    let e = listed_same c.args.nodes.geometry c.args.nodes.image.now c.args.nodes.lens.now c.args.nodes.slots.now c.args.nodes.limit there refl c.loop-n.n ∙ ap there (sym c.list_view-f.ensures.is) ∙ sym c.presence.ensures in
    let d = listed_same c.args.nodes.geometry c.args.nodes.image.now c.args.nodes.lens.now c.args.nodes.slots.now c.args.nodes.limit (is_thin c.loop-n.n) refl c.loop-n.n ∙ ap (is_thin c.loop-n.n) (sym c.list_view-f.ensures.is) in
    let g = c.or_thin-thin.ensures ∙ ap (λ (b : Bool). c.loop-n.thin || b) (sym d) in
    let l = length_listed c.args.nodes.geometry c.args.nodes.image.now c.args.nodes.lens.now c.args.nodes.slots.now c.args.nodes.limit in (
      counts_pass t c.loop-n.n c.args.seen.now (omega arith) (sym c.count_at.ensures ∙ c.if-count_at-presence.false ∙ sym e) ∙ c.loop-n.invariant.0,
      ap (λ (b : Bool). b || thin_from (c.loop-n.n + 1) (drop (c.loop-n.n + 1) t)) g ∙ thin_pass t c.loop-n.n c.loop-n.thin (omega arith) ∙ c.loop-n.invariant.1,
    )

pub returns : goal.returns
returns c = let t = pages_table c.args.nodes.geometry c.args.nodes.image.now c.args.nodes.lens.now c.args.nodes.slots.now c.args.nodes.limit in
    let l = length_listed c.args.nodes.geometry c.args.nodes.image.now c.args.nodes.lens.now c.args.nodes.slots.now c.args.nodes.limit in
    counted_end t c.args.seen.now c.loop-n.n c.loop-n.invariant.0 c.loop-n.thin (omega arith) c.loop-n.invariant.1
