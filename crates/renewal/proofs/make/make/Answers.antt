use native.Mathlib.Omega.{arith}
use Rattle.renewal.proofs.MakeLaws.{makes, pages_low, pages_room, ring_spare}
use Rattle.renewal.proofs.make.make.Goals as goal

pub lay_anew-nodes-requires : goal.lay_anew-nodes-requires
lay_anew-nodes-requires c = (c.requires.0, c.requires.2.most, c.requires.1, c.requires.2.tree, c.requires.2.size, c.requires.2.listed)

pub pack_nodes-pages-requires : goal.pack_nodes-pages-requires
pack_nodes-pages-requires c = omega (arith, c.requires.2.most)

pub set_free-requires : goal.set_free-requires
set_free-requires c = omega (arith, c.lay_anew-nodes.ensures.few)

pub lay_pages-requires : goal.lay_pages-requires
lay_pages-requires c = let low = pages_low c.requires.1 c.requires.2 c.lay_anew-nodes.ensures c.pack_nodes-pages.ensures in
    (c.requires.2.most, omega (arith, low), pages_room c.requires.1 c.requires.2 c.lay_anew-nodes.ensures c.pack_nodes-pages.ensures, ring_spare c.requires.1 c.requires.2, c.requires.1)

pub returns : goal.returns
returns c = makes c.requires.1 c.requires.2 c.lay_anew-nodes.ensures c.pack_nodes-pages.ensures _ c.set_free.ensures _ c.lay_pages.ensures
