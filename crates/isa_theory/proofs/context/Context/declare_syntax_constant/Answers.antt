use Rattle.isa_syntax.specs.Syntaxes.{with_constant}
use Rattle.isa_theory.proofs.Syntaxes.{held_grows, constant_grows}
use Rattle.isa_theory.proofs.context.Context.declare_syntax_constant.Goals as goal

pub returns-clause-grows : goal.returns-clause-grows
returns-clause-grows c =
    held_grows c.args.self.now _ c.declare_constant.new.self (with_constant c.self.inside.syntax c.args.name.now c.args.typ.now) c.declare_constant.result c.self.view_is c.declare_constant.ensures (constant_grows c.self.inside.syntax c.args.name.now c.args.typ.now)
