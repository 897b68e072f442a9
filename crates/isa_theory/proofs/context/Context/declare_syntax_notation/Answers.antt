use Rattle.isa_syntax.specs.Notations.{with_notation}
use Rattle.isa_theory.proofs.Syntaxes.{held_grows, notation_grows}
use Rattle.isa_theory.proofs.context.Context.declare_syntax_notation.Goals as goal

pub returns-clause-grows : goal.returns-clause-grows
returns-clause-grows c =
    held_grows c.args.self.now _ c.declare_notation.new.self (with_notation c.self.inside.syntax c.args.name.now c.args.notation.now) c.declare_notation.result c.self.view_is c.declare_notation.ensures (notation_grows c.self.inside.syntax c.args.name.now c.args.notation.now)
