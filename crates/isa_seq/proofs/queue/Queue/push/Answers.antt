use Rattle.std.proofs.Common.{arith}
use Rattle.isa_seq.proofs.Queues.{waiting-insert, still-older}
use Rattle.isa_seq.proofs.queue.Queue.push.Goals as goal

pub invariant_of-self : goal.invariant_of-self
invariant_of-self g c = record {
  older = still-older c.insert.result c.args.self.now.states.entries c.insert.new.self.entries c.args.self.now.age c.in-Some.next c.args.measure c.args.state (omega (arith, c.in-Some.ensures.1)) c.args.self.now.older c.insert.ensures.entries c.insert.ensures.err;
}

pub returns : goal.returns
returns g c = waiting-insert c.args.self.now.states.entries c.insert.new.self.entries (c.args.measure, c.args.self.now.age) c.args.state c.args.self.now.older c.in_ok-insert.ensures.entries
