use Rattle.std.proofs.Common.{ap, if◌then◌else◌, ◌<◌, ◌≤◌, inl, inr, arith}
use Rattle.isa_seq.specs.Traces.{nothing, then_each}
use Rattle.isa_seq.specs.Meaning.{put_back}
use Rattle.isa_seq.specs.Tactics.{trace}
use Rattle.isa_seq.specs.Work.{cost}
use Rattle.isa_seq.proofs.Starts.{starts-nothing, starts-within, starts-select, not_there, is_there}
use Rattle.isa_seq.proofs.starting.start_select.Goals as goal

pub returns-then-number-eq0 : goal.returns-then-number-eq0
unfolding trace
returns-then-number-eq0 g c =
    let m = (g.R.Prims.meaning c.args.prims.now).primitives in
    starts-nothing _ _ _ _ _ _ (not_there c.args.number (m.subgoals c.args.state) (then_each (trace m c.args.body.now.node.value (m.focus c.args.state c.args.number) 1) (put_back m c.args.state c.args.number)) (inl (omega arith)))

pub returns-then-number-last : goal.returns-then-number-last
unfolding trace
returns-then-number-last g c =
    let m = (g.R.Prims.meaning c.args.prims.now).primitives in
    starts-nothing _ _ _ _ _ _ (not_there c.args.number (m.subgoals c.args.state) (then_each (trace m c.args.body.now.node.value (m.focus c.args.state c.args.number) 1) (put_back m c.args.state c.args.number)) (inr (omega (arith, c.subgoals-last.ensures))))

pub returns : goal.returns
unfolding trace cost
returns g c =
    let m = (g.R.Prims.meaning c.args.prims.now).primitives in
    let l : 0 < c.args.number = omega arith in
    let k : c.args.number ≤ m.subgoals c.args.state = omega (arith, c.subgoals-last.ensures) in
    starts-within m _ _ _ _ _ _ _ _
    (ap (λ z. if z then then_each (trace m c.args.body.now.node.value (m.focus c.args.state c.args.number) 1) (put_back m c.args.state c.args.number) else nothing) (is_there c.args.number (m.subgoals c.args.state) l k)) (omega arith)
    (starts-select m _ _ (g.met.R.Prims.is_meaning c.args.prims.now).primitives _ _ _ _ c.args.state c.in_ok-focused.focused c.new.result c.args.body.now.node.value c.args.number
    c.in_ok-at.ensures c.in_ok-focused.ensures c.new.ensures c.in_ok-push.ensures.items c.in_ok-push-2.ensures.items)
