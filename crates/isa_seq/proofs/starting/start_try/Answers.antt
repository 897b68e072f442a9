use Rattle.isa_seq.specs.Tactics.{trace}
use Rattle.isa_seq.specs.Work.{cost}
use Rattle.isa_seq.proofs.Starts.{starts-try}
use Rattle.isa_seq.proofs.starting.start_try.Goals as goal

pub returns : goal.returns
unfolding trace cost
returns g c =
    let m = (g.R.Prims.meaning c.args.prims.now).primitives in
    starts-try m _ _ (g.met.R.Prims.is_meaning c.args.prims.now).primitives _ _ _ _ _ _ c.args.state c.args.body.now.node.value c.args.number
    c.in_ok-to.ensures c.in_ok-at.ensures c.in_ok-copy.ensures c.in_ok-push.ensures.items c.in_ok-push-2.ensures.items
