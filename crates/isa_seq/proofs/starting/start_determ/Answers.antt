use Rattle.isa_seq.specs.declared.frame.Place.TheVariants.{At}
use Rattle.isa_seq.specs.Tactics.{trace}
use Rattle.isa_seq.specs.Work.{cost}
use Rattle.isa_seq.proofs.Starts.{starts-first}
use Rattle.isa_seq.proofs.starting.start_determ.Goals as goal

pub returns : goal.returns
unfolding trace cost
returns g c =
    let m = (g.R.Prims.meaning c.args._prims.now).primitives in
    starts-first m _ _ (g.met.R.Prims.is_meaning c.args._prims.now).primitives _ _ _ _ c.args.state c.args.body.now.node.value (At c.args.number)
    c.in_ok-at.ensures c.in_ok-push.ensures.items c.in_ok-push-2.ensures.items
