use Rattle.std.proofs.Common.{ap, if◌then◌else◌, arith}
use Rattle.isa_seq.specs.declared.event.Event.TheVariants.{Res}
use Rattle.isa_seq.specs.Traces.{nothing, event}
use Rattle.isa_seq.specs.Tactics.{trace}
use Rattle.isa_seq.proofs.Starts.{starts-nothing, starts-result, is_zero, is_not_zero}
use Rattle.isa_seq.proofs.starting.start_solved.Goals as goal

pub returns-then-subgoals-eq0 : goal.returns-then-subgoals-eq0
unfolding trace
returns-then-subgoals-eq0 g c =
    let m = (g.R.Prims.meaning c.args.prims.now).primitives in
    starts-result _ _ _ _ _ _ _ (ap (λ z. if z then event (Res c.args.state) nothing else nothing) (is_zero (m.subgoals c.args.state) c.subgoals.result c.subgoals.ensures (omega arith)))

pub returns : goal.returns
unfolding trace
returns g c =
    let m = (g.R.Prims.meaning c.args.prims.now).primitives in
    starts-nothing _ _ _ _ _ _ (ap (λ z. if z then event (Res c.args.state) nothing else nothing) (is_not_zero (m.subgoals c.args.state) c.subgoals.result c.subgoals.ensures (omega arith)))
