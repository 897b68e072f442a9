use Rattle.std.proofs.Common.{◌++◌, ◌∷◌, [], ◌∙◌, ap, arith}
use Rattle.isa_seq.specs.declared.frame.Frame.TheVariants.{Best}
use Rattle.isa_seq.proofs.Starts.{is_zero, is_not_zero}
use Rattle.isa_seq.proofs.Moves.{best-ended, best-solved, best-expanded}
use Rattle.isa_seq.proofs.step.expand.Goals as goal

pub returns-in_default : goal.returns-in_default
returns-in_default g c =
    best-ended (g.R.Prims.meaning c.args.prims.now).primitives (g.R.Prims.meaning c.args.prims.now).rest (g.R.Prims.meaning c.args.prims.now).fits (g.met.R.Prims.is_meaning c.args.prims.now).primitives c.args.frames.now.items c.args.body c.args.number c.args.queue c.requires c.in_default.ensures.none

pub returns-then-subgoals-eq0 : goal.returns-then-subgoals-eq0
returns-then-subgoals-eq0 g c =
    best-solved (g.R.Prims.meaning c.args.prims.now).primitives (g.R.Prims.meaning c.args.prims.now).rest (g.R.Prims.meaning c.args.prims.now).fits (g.met.R.Prims.is_meaning c.args.prims.now).primitives (g.met.R.Prims.is_meaning c.args.prims.now).rests
    c.args.frames.now.items _ _ c.args.body c.args.number c.args.queue c.pop.new.self c.in-Some.state c.push.new.self c.in_ok-solved.solved
    c.requires c.in-Some.ensures.some (is_zero ((g.R.Prims.meaning c.args.prims.now).primitives.subgoals c.in-Some.state) c.subgoals.result c.subgoals.ensures (omega arith))
    (c.in_ok-push.ensures.items ∙ ap (λ z. z ++ Best c.args.body c.args.number c.pop.new.self ∷ []) c.new-others.ensures.items) c.in_ok-solved.ensures c.in_ok-push-2.ensures.items c.in_ok-push-3.ensures.items

pub returns : goal.returns
returns g c =
    best-expanded (g.R.Prims.meaning c.args.prims.now).primitives (g.R.Prims.meaning c.args.prims.now).rest (g.R.Prims.meaning c.args.prims.now).fits (g.met.R.Prims.is_meaning c.args.prims.now).primitives (g.met.R.Prims.is_meaning c.args.prims.now).rests
    c.args.frames.now.items _ _ c.args.body c.args.number c.args.queue c.pop.new.self c.in-Some.state c.in_ok-here.here
    c.requires c.in-Some.ensures.some (is_not_zero ((g.R.Prims.meaning c.args.prims.now).primitives.subgoals c.in-Some.state) c.subgoals.result c.subgoals.ensures (omega arith))
    c.in_ok-here.ensures c.in_ok-push-4.ensures.items c.in_ok-push-5.ensures.items
