use Rattle.isa_seq.specs.declared.frame.Place.TheVariants.{At}
use Rattle.isa_seq.specs.Tactics.{trace}
use Rattle.isa_seq.specs.Work.{cost}
use Rattle.isa_seq.proofs.Starts.{starts-each}
use Rattle.isa_seq.proofs.starting.start_then.Goals as goal

pub returns : goal.returns
unfolding trace cost
returns g c =
    let m = (g.R.Prims.meaning c.args._prims.now).primitives in
    starts-each m _ _ (g.met.R.Prims.is_meaning c.args._prims.now).primitives _ _ _ _ _ c.args.state c.args.first.now.node.value c.args.next.now.node.value (At c.args.number) (At c.args.number)
    c.in_ok-at.ensures c.in_ok-at-2.ensures c.in_ok-push.ensures.items c.in_ok-push-2.ensures.items
