use Rattle.std.proofs.Common.{rules}
use Rattle.pages.proofs.HeaderLaws.{laid_done}
use Rattle.pages.proofs.header.lay_out.Goals as goal

pub returns : goal.returns
returns c =
    rw (c.copy_from_slice-2.ensures.after, c.copy_from_slice.ensures.after)
    (laid_done c.args.geometry c.args.commit c.args.index c.args.count c.args.k c.args.units.now c.args.page.now c.requires.0 (search rules) c.requires.4
    c.head_bytes-head.result _ c.head_bytes-head.ensures c.blank_from.ensures)
