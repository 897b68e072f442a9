use Rattle.std.proofs.Common.{sym}
use Rattle.isa_net.proofs.Turns.{on_ok, on_err}
use Rattle.isa_net.proofs.Putting.{put_alike, put_ranks}
use Rattle.isa_net.proofs.ranks.put_rank.Goals as goal

pub returns-clause-ok : goal.returns-clause-ok
returns-clause-ok c = on_ok _ _ _ (put_ranks c.args.nodes.now c.args.at c.in-Some.node.now c.push_rank.new.node (sym c.in-Some.ensures.value) c.push_rank.ensures.edges c.args.rank) c.push_rank.ensures.ok

pub returns-clause-err : goal.returns-clause-err
returns-clause-err c = on_err _ _ _ (put_alike c.args.nodes.now c.args.at c.in-Some.node.now c.push_rank.new.node (sym c.in-Some.ensures.value) c.push_rank.ensures.edges) c.push_rank.ensures.err
