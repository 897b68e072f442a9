use Rattle.std.proofs.Common.{◌<◌, sym, ◌∙◌, ap}
use Rattle.std.specs.Map.{keys_of, values_of}
use Rattle.std.proofs.lemmas.List.Elements.{recursion_from_All}
use Rattle.isa_seq.specs.Searches.{has_same}
use Rattle.isa_seq.proofs.Queues.{has_same-of_measure}
use Rattle.isa_seq.proofs.queue.holds.Goals as goal

pub loop-other-init : goal.loop-other-init
loop-other-init g c =
    let same = (g.R.Prims.meaning c.args.prims.now).primitives.same in
    let es = c.args.queue.now.states.entries in
    has_same-of_measure same c.args.state.now c.args.measure c.args.queue.now.age es (recursion_from_All (λ q. q.1 < c.args.queue.now.age) (keys_of es) c.args.queue.now.older)
    ∙ ap (λ z. has_same same c.args.state.now (values_of z)) (sym (c.range-other-items.ensures.between tt))
    ∙ ap (λ z. has_same same c.args.state.now (values_of z)) (sym c.into_iter-other-iterator.ensures.into_iter_gives)
