use Rattle.std.proofs.Common.{rules}
use Rattle.isa_print.proofs.TextLemmas.{is_implication}
use Rattle.isa_print.proofs.text.implication.Goals as goal

pub returns-then-is_constant-clause-found : goal.returns-then-is_constant-clause-found
returns-then-is_constant-clause-found c = is_implication c.in-App-view.constant c.in-App-view.left c.in-App.right c.args.t.now (search rules) (search rules)
