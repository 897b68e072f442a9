use Rattle.isa_terms.proofs.Entries.{types_once}
use Rattle.isa_terms.proofs.instance.Inst.put_type.Goals as goal

pub invariant_of-self : goal.invariant_of-self
invariant_of-self c = (types_once _ _ _ c.put.result c.put.ensures.ok c.put.ensures.err c.self.invariant.0, c.self.invariant.1)
