use Rattle.isa_syntax.specs.Syntaxes.{with_type}
use Rattle.isa_theory.proofs.Syntaxes.{held_grows, type_grows}
use Rattle.isa_theory.proofs.context.Context.declare_syntax_type.Goals as goal

pub returns-clause-grows : goal.returns-clause-grows
returns-clause-grows c =
    held_grows c.args.self.now _ c.declare_type.new.self (with_type c.self.inside.syntax c.args.name.now c.args.arity) c.declare_type.result c.self.view_is c.declare_type.ensures (type_grows c.self.inside.syntax c.args.name.now c.args.arity)
