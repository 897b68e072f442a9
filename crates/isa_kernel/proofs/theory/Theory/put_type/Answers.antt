use Rattle.std.proofs.Common.{rules}
use Rattle.isa_kernel.proofs.Theories.{type_put}
use Rattle.isa_kernel.proofs.theory.Theory.put_type.Goals as goal

pub invariant_of-self-in-Ok-insert : goal.invariant_of-self-in-Ok-insert
invariant_of-self-in-Ok-insert c =
    let s = c.self.inside in
    type_put s.types.entries s.constants.entries s.axioms.entries s.declarations.items c.push.new.self.items c.self.invariant c.args.name c.args.arity c.insert.new.self.entries (search rules) (search rules) (search rules)
