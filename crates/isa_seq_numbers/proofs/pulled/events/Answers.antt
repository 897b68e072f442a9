use Rattle.std.proofs.Common.{sym, ◌∙◌, ap, subst, length, arith}
use Rattle.std.proofs.lemmas.List.{length_push}
use Rattle.isa_seq.specs.Traces.{Answers}
use Rattle.isa_seq.specs.Machines.{rest_of_frames}
use Rattle.isa_seq.specs.Asking.{prepend}
use Rattle.isa_seq_numbers.specs.Numbers.{numbers}
use Rattle.isa_seq_numbers.proofs.Prepending.{pulled_more, begins_all, begins_some}
use Rattle.isa_seq_numbers.proofs.pulled.events.Goals as goal

pub loop-pulled-init : goal.loop-pulled-init
loop-pulled-init c = (
  ap length c.new-events.ensures.items,
  sym c.in_ok-machine.ensures.rest ∙ ap (λ z. prepend z (rest_of_frames numbers c.in_ok-machine.machine.frames)) (sym c.new-events.ensures.items),
  c.in_ok-machine.ensures.fits,
)

pub loop-pulled-preserved : goal.loop-pulled-preserved
loop-pulled-preserved c =
    let i = c.loop-pulled.invariant in
    let x = rest_of_frames numbers c.loop-pulled.machine.frames in
    let y = rest_of_frames numbers c.pull.new.self.frames in
    let e = subst (λ a. Answers x a y) c.in-Some.is c.in_ok-event.ensures.event in
    let more = length_push c.loop-pulled.events.items c.in-Some.event in
    let pushed = ap length c.in_ok-push.ensures.items in (
      omega (arith, pushed, more, i.0),
      pulled_more _ x y c.loop-pulled.events.items c.in-Some.event i.1 e ∙ ap (λ z. prepend z y) (sym c.in_ok-push.ensures.items),
      c.pull.ensures.fits,
    )

pub returns-in_default : goal.returns-in_default
returns-in_default c =
    let i = c.loop-pulled.invariant in
    let x = rest_of_frames numbers c.loop-pulled.machine.frames in
    let y = rest_of_frames numbers c.pull.new.self.frames in
    let e = subst (λ a. Answers x a y) c.in_default.is c.in_ok-event.ensures.event in
    begins_all _ x c.args.limit c.loop-pulled.events.items i.1 e.0 (omega (arith, i.0, c.loop-pulled.auto._pulled-end))

pub returns : goal.returns
returns c =
    let i = c.loop-pulled.invariant in
    begins_some _ (rest_of_frames numbers c.loop-pulled.machine.frames) c.args.limit c.loop-pulled.events.items i.1 (omega (arith, i.0, c.loop-pulled.auto._pulled-end))
