use Rattle.isa_syntax.specs.Syntaxes.{with_judgment}
use Rattle.isa_theory.proofs.Syntaxes.{held_grows, judgment_grows}
use Rattle.isa_theory.proofs.context.Context.declare_judgment_name.Goals as goal

pub returns-clause-grows : goal.returns-clause-grows
returns-clause-grows c =
    held_grows c.args.self.now _ c.declare_judgment.new.self (with_judgment c.self.inside.syntax c.args.name.now) c.declare_judgment.result c.self.view_is c.declare_judgment.ensures (judgment_grows c.self.inside.syntax c.args.name.now)
