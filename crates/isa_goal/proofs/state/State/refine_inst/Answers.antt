use Rattle.std.proofs.Common.{rules}
use Rattle.isa_goal.proofs.Instantiating.{instance_leads}
use Rattle.isa_goal.proofs.UncountedStates.{instanced_uncounted, refined_uncounted}
use Rattle.isa_goal.proofs.state.State.refine_inst.Goals as goal

pub returns-clause-follows : goal.returns-clause-follows
returns-clause-follows c =
    instance_leads c.args.inst.now c.args.place c.args.count c.args.th.now c.args.self.now c.in_ok-instance.instance c.in_ok-placed.placed _ c.requires.kept (search rules) (search rules) c.is_standing.ensures c.is_derived.ensures (search rules)

pub canonical-requires : goal.canonical-requires
canonical-requires c =
    let instance = instanced_uncounted c.args.inst.now c.args.self.now c.in_ok-instance.instance (search rules) c.requires.instance c.is_uncounted.ensures in
    refined_uncounted c.args.place c.args.count c.args.th.now c.in_ok-instance.instance c.in_ok-placed.placed (search rules) c.requires.theorem instance
