use Rattle.isa_terms.proofs.Entries.{terms_once}
use Rattle.isa_terms.proofs.instance.Inst.put_term.Goals as goal

pub invariant_of-self : goal.invariant_of-self
invariant_of-self c = (c.self.invariant.0, terms_once _ _ _ c.put.result c.put.ensures.ok c.put.ensures.err c.self.invariant.1)
