use Rattle.std.proofs.Common.{sym, ◌∙◌}
use Rattle.isa_seq.proofs.Queues.{offered-same, offered-new, OnOk-map}
use Rattle.isa_seq.proofs.queue.offer.Goals as goal

pub returns-then-holds : goal.returns-then-holds
returns-then-holds g c =
    offered-same (g.R.Prims.meaning c.args.prims.now).primitives c.args.state c.measure-measure.result c.args.queue.now.states.entries c.measure-measure.ensures (sym c.holds.ensures ∙ c.if-holds.true)

pub returns : goal.returns
returns g c =
    OnOk-map c.push.result _ _ c.push.ensures
    (offered-new (g.R.Prims.meaning c.args.prims.now).primitives c.args.state c.measure-measure.result c.args.queue.now.states.entries c.push.new.self.states.entries (sym c.holds.ensures ∙ c.if-holds.false) c.measure-measure.ensures)
