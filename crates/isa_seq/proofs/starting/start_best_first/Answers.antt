use Rattle.isa_seq.specs.Tactics.{trace}
use Rattle.isa_seq.specs.Work.{cost}
use Rattle.isa_seq.proofs.Starts.{starts-best}
use Rattle.isa_seq.proofs.Queues.{one-waiting}
use Rattle.isa_seq.proofs.starting.start_best_first.Goals as goal

pub returns : goal.returns
unfolding trace cost
returns g c =
    let m = (g.R.Prims.meaning c.args.prims.now).primitives in
    starts-best m _ _ (g.met.R.Prims.is_meaning c.args.prims.now).primitives _ _ c.in_ok-copy.field-0 c.args.body.now c.args.number c.push.new.self c.args.state c.in_ok-copy.ensures
    (one-waiting m c.measure.result c.args.state c.new-queue.result.states.entries c.push.new.self.states.entries c.new-queue.ensures c.measure.ensures c.in_ok-push.ensures) c.in_ok-push-2.ensures.items
