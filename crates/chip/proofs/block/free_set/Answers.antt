use Rattle.std.proofs.Common.{ℕ, ◌<◌, ◌*◌, [], length, drop, sym, ap, ◌∙◌, arith, take_all, rules}
use Rattle.std.specs.Slice.Iter.{chunks_exact_rest}
use Rattle.lists.specs.Lists.{cut}
use Rattle.lists.proofs.Parts.{length_cut}
use Rattle.chip.specs.Geometry.{page_size}
use Rattle.chip.specs.Page.{is_free}
use Rattle.chip.specs.SetCode.{set_of}
use Rattle.chip.proofs.SetLaws.{set_more, set_same}
use Rattle.chip.proofs.ImageLaws.{block_cut}
use Rattle.chip.proofs.Pieces.{next_piece, last_piece}
use Rattle.chip.proofs.Sizes.{page_pos}
use Rattle.chip.proofs.block.free_set.Goals as goal

pub loop-i-init : goal.loop-i-init
unfolding set_of
loop-i-init c = search rules

pub overflow_shl-free : goal.overflow_shl-free
overflow_shl-free c = let s = c.in-Some.ensures.steps in
    let p = next_piece (page_size c.args.geometry) c.args.geometry.pages c.loop-i.i-iterator.count c.args.block.now (page_pos c.args.geometry c.requires.1) c.requires.0
    c.in-Some.page.now (chunks_exact_rest c.next.new.self.iter) (sym c.loop-i.invariant.rest ∙ s.0.1.0) (s.0.1.1 ∙ c.loop-i.invariant.size) in
    omega arith

pub loop-i-preserved-then-is_free : goal.loop-i-preserved-then-is_free
loop-i-preserved-then-is_free c = let s = c.in-Some.ensures.steps in
    let size : ℕ = page_size c.args.geometry in
    let ps = cut size c.args.geometry.pages c.args.block.now in
    let p = next_piece size c.args.geometry.pages c.loop-i.i-iterator.count c.args.block.now (page_pos c.args.geometry c.requires.1) c.requires.0
    c.in-Some.page.now (chunks_exact_rest c.next.new.self.iter) (sym c.loop-i.invariant.rest ∙ s.0.1.0) (s.0.1.1 ∙ c.loop-i.invariant.size) in
    let below : c.loop-i.i-iterator.count < length ps = rw (length_cut size c.args.geometry.pages c.args.block.now) p.below in
    record {
      size = s.0.0 ∙ c.loop-i.invariant.size;
      rest = p.rest ∙ ap (λ (n : ℕ). drop (n * size) c.args.block.now) (sym s.2);
      within = omega arith;
      free = rw (s.1, s.2) (set_more is_free ps [] c.loop-i.i-iterator.count c.loop-i.free below c.loop-i.invariant.free (omega (arith, c.requires.1)) (ap is_free p.stands ∙ sym c.is_free.ensures ∙ c.if-is_free.true));
    }

pub loop-i-preserved : goal.loop-i-preserved
loop-i-preserved c = let s = c.in-Some.ensures.steps in
    let size : ℕ = page_size c.args.geometry in
    let ps = cut size c.args.geometry.pages c.args.block.now in
    let p = next_piece size c.args.geometry.pages c.loop-i.i-iterator.count c.args.block.now (page_pos c.args.geometry c.requires.1) c.requires.0
    c.in-Some.page.now (chunks_exact_rest c.next.new.self.iter) (sym c.loop-i.invariant.rest ∙ s.0.1.0) (s.0.1.1 ∙ c.loop-i.invariant.size) in
    let below : c.loop-i.i-iterator.count < length ps = rw (length_cut size c.args.geometry.pages c.args.block.now) p.below in
    record {
      size = s.0.0 ∙ c.loop-i.invariant.size;
      rest = p.rest ∙ ap (λ (n : ℕ). drop (n * size) c.args.block.now) (sym s.2);
      within = omega arith;
      free = rw s.2 (set_same is_free ps [] c.loop-i.i-iterator.count c.loop-i.free below c.loop-i.invariant.free (ap is_free p.stands ∙ sym c.is_free.ensures ∙ c.if-is_free.false));
    }

pub returns : goal.returns
returns c = let s = c.in-None.ensures.steps in
    let size : ℕ = page_size c.args.geometry in
    let n : ℕ = c.args.geometry.pages in
    let all = last_piece size n c.loop-i.i-iterator.count c.args.block.now (page_pos c.args.geometry c.requires.1) c.requires.0
    (rw (← c.loop-i.invariant.rest, ← c.loop-i.invariant.size) s.0.1.0) c.loop-i.invariant.within in
    c.loop-i.invariant.free
    ∙ ap (set_of is_free) (take_all c.loop-i.i-iterator.count (cut size n c.args.block.now) (rw (length_cut size n c.args.block.now) (omega arith)) ∙ sym (block_cut c.args.geometry c.args.block.now c.requires.1 c.requires.0))
