use Rattle.std.proofs.Common.{arith}
use Rattle.isa_seq.proofs.Starts.{starts-deeper, starts-solved, is_zero, is_not_zero}
use Rattle.isa_seq.proofs.step.deepen.Goals as goal

pub returns-then-subgoals-eq0 : goal.returns-then-subgoals-eq0
returns-then-subgoals-eq0 g c =
    starts-solved _ _ _ (g.met.R.Prims.is_meaning c.args.prims.now).primitives _ _ c.args.todo c.in_ok-at.field-0 c.args.state c.args.number c.requires
    (is_zero ((g.R.Prims.meaning c.args.prims.now).primitives.subgoals c.args.state) c.subgoals.result c.subgoals.ensures (omega arith)) c.in_ok-at.ensures c.in_ok-push.ensures.items _

pub returns : goal.returns
returns g c =
    starts-deeper _ _ _ (g.met.R.Prims.is_meaning c.args.prims.now).primitives _ _ _ c.args.todo c.in_ok-here.here c.args.state c.args.number c.requires
    (is_not_zero ((g.R.Prims.meaning c.args.prims.now).primitives.subgoals c.args.state) c.subgoals.result c.subgoals.ensures (omega arith)) c.in_ok-here.ensures c.in_ok-push-2.ensures.items c.in_ok-push-3.ensures.items _
