use Rattle.isa_seq.proofs.Queues.{takes, older-popped}
use Rattle.isa_seq.proofs.queue.Queue.pop.Goals as goal

pub invariant_of-self : goal.invariant_of-self
invariant_of-self g c = record {
  older = older-popped c.pop_first.result c.args.self.now.states.entries c.pop_first.new.self.entries c.args.self.now.age c.args.self.now.older c.pop_first.ensures.removal c.pop_first.ensures.unchanged;
}

pub returns-clause-some : goal.returns-clause-some
returns-clause-some g c =
    takes c.args.self.now.states.entries c.pop_first.new.self.entries (c.in_ok-state.field-0-0, c.in_ok-state.state) c.in_ok-state.ensures.removal c.in_ok-state.ensures.all_above
