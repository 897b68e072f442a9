use Rattle.std.proofs.Common.{sym, arith}
use Rattle.isa_seq.specs.declared.frame.Place.TheVariants.{Rounds}
use Rattle.isa_seq.specs.Tactics.{trace}
use Rattle.isa_seq.specs.Work.{cost}
use Rattle.isa_seq.proofs.Starts.{starts-call, starts-within, first-rounds}
use Rattle.isa_seq.proofs.starting.start_repeat_determ.Goals as goal

pub returns : goal.returns
unfolding trace cost
returns g c =
    let m = (g.R.Prims.meaning c.args._prims.now).primitives in
    starts-within m _ _ _ _ _ _ _ _
    (sym (first-rounds m c.in_ok-once.once c.args.body.now c.in_ok-copy.field-0 c.args.state c.args.number c.in_ok-once.ensures c.in_ok-copy.ensures)) (omega arith)
    (starts-call m _ _ (g.met.R.Prims.is_meaning c.args._prims.now).primitives _ _ _ c.args.state c.in_ok-once.once.node.value (Rounds c.args.number)
    c.in_ok-to.ensures c.in_ok-push.ensures.items)
