use Rattle.std.proofs.Common.{◌≡◌, Some, sym, subst, arith}
use Rattle.isa_seq.specs.Traces.{IsTrace, Answers, nothing}
use Rattle.isa_seq.specs.Frames.{through}
use Rattle.isa_seq.specs.Machines.{rest_of_frames}
use Rattle.isa_seq.proofs.Laws.{nothing-steps}
use Rattle.isa_seq.proofs.Changes.{through-is_trace}
use Rattle.isa_seq.proofs.Asking.{rest-is_trace}
use Rattle.isa_seq.proofs.Results.{leads-to-results}
use Rattle.isa_seq.proofs.Pulling.{proceeds, led-event}
use Rattle.isa_seq.proofs.machine.Machine.pull.Goals as goal

pub returns-in_default-clause-trace : goal.returns-in_default-clause-trace
returns-in_default-clause-trace g c = subst (λ z. IsTrace (rest_of_frames (g.R.Prims.meaning c.args.prims.now) z)) (sym c.take.ensures.after) nothing-steps

pub returns-in_err-answer-clause-trace : goal.returns-in_err-answer-clause-trace
returns-in_err-answer-clause-trace g c = subst (λ z. IsTrace (rest_of_frames (g.R.Prims.meaning c.args.prims.now) z)) (sym c.take.ensures.after) nothing-steps

pub returns-clause-trace : goal.returns-clause-trace
returns-clause-trace g c =
    let m = g.R.Prims.meaning c.args.prims.now in
    let laws = g.met.R.Prims.is_meaning c.args.prims.now in
    through-is_trace m.primitives m.rest m.fits laws.primitives laws.rests c.advance.new.frames.items nothing c.in_ok-answer.ensures.fits nothing-steps

pub returns-clause-place : goal.returns-clause-place
returns-clause-place g c = λ x k h.
    let m = g.R.Prims.meaning c.args.prims.now in
    let left = through m.primitives m.rest c.advance.new.frames.items nothing in
    let was : Some c.in-Some.frames ≡ c.args.self.now.frames = cc (c.in-Some.ensures.value) in
    let event = subst (λ z. Answers (rest_of_frames m z) c.in_ok-answer.answer left) was c.in_ok-answer.ensures.event in
    proceeds x k (rest_of_frames m c.args.self.now.frames) left c.args.self.now.ticks c.args.self.now.outside _ _ c.in_ok-answer.answer h event
    (omega (arith, c.count_ticks.ensures, c.saturating_add-self.ensures)) (omega (arith, c.count_outsides.ensures, c.saturating_add-self-2.ensures))

pub returns-clause-leads : goal.returns-clause-leads
returns-clause-leads g c = λ t s l start.
    let m = g.R.Prims.meaning c.args.prims.now in
    let laws = g.met.R.Prims.is_meaning c.args.prims.now in
    let left = through m.primitives m.rest c.advance.new.frames.items nothing in
    let was : Some c.in-Some.frames ≡ c.args.self.now.frames = cc (c.in-Some.ensures.value) in
    let event = subst (λ z. Answers (rest_of_frames m z) c.in_ok-answer.answer left) was c.in_ok-answer.ensures.event in
    led-event m.primitives t s (rest_of_frames m c.args.self.now.frames) left c.in_ok-answer.answer (leads-to-results m.primitives laws.primitives t s 1) l (rest-is_trace m laws c.args.self.now.frames c.requires) event start
