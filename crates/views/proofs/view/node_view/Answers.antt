use Rattle.views.proofs.view.node_view.Goals as goal

pub returns : goal.returns
returns c = c.read_node-r.ensures.view
