use Rattle.isa_seq.specs.Tactics.{trace}
use Rattle.isa_seq.specs.Work.{cost}
use Rattle.isa_seq.proofs.Starts.{starts-first_goal}
use Rattle.isa_seq.proofs.starting.start_first_goal.Goals as goal

pub returns : goal.returns
unfolding trace cost
returns g c =
    let m = (g.R.Prims.meaning c.args.prims.now).primitives in
    starts-first_goal m _ _ (g.met.R.Prims.is_meaning c.args.prims.now).primitives _ _ _ c.args.state c.args.body.now.node.value c.subgoals-last.result (m.subgoals c.args.state)
    c.in_ok-to.ensures c.subgoals-last.ensures c.in_ok-push.ensures.items
