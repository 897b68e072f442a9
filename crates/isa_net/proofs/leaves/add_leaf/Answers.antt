use Rattle.std.proofs.Common.{sym, ap, ◌∙◌}
use Rattle.isa_net.specs.Inside.Reach.{edge_of}
use Rattle.isa_net.proofs.Leafing.{grown_by, alike_by, node_free}
use Rattle.isa_net.proofs.leaves.add_leaf.Goals as goal

pub put_edge-requires : goal.put_edge-requires
put_edge-requires c =
    let made = c.in_ok-leaf.ensures in
    node_free c.args.nodes.now c.insert.new.self c.args.at c.in_ok-leaf.leaf _ c.in-Some.node.now made.was_vacant made.updates (sym c.in-Some.ensures.value) c.requires.live c.args.symbol c.requires.free

pub returns-in-Ok-clause-ok : goal.returns-in-Ok-clause-ok
returns-in-Ok-clause-ok c =
    let made = c.in_ok-leaf.ensures in
    grown_by c.args.nodes.now c.insert.new.self c.args.at c.in_ok-leaf.leaf _ c.in-Some.node.now made.was_vacant made.updates (sym c.in-Some.ensures.value) c.requires.live c.args.symbol c.put_edge.new.node c.new.ensures.empty c.new-2.ensures.items c.in-Ok.ensures.ok c.in-Ok.ensures.ranks

pub returns-in-Err-clause-err : goal.returns-in-Err-clause-err
returns-in-Err-clause-err c =
    let made = c.in_ok-leaf.ensures in
    alike_by c.args.nodes.now c.insert.new.self c.args.at c.in_ok-leaf.leaf _ c.in-Some.node.now made.was_vacant made.updates (sym c.in-Some.ensures.value) c.requires.live c.put_edge.new.node c.remove.new.self c.in-Err.ensures.err c.in-Err.ensures.ranks c.remove.ensures.updates
