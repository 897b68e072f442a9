use Rattle.std.proofs.Common.{rules}
use Rattle.isa_theory.proofs.Growing.{cut_back}
use Rattle.isa_theory.proofs.context.Context.store_lemma.Goals as goal

pub returns-in-Err : goal.returns-in-Err
returns-in-Err c = (cut_back c.in_ok-mark.mark c.args.self.now c.close.new.self c.undo_to.new.self c.in_ok-mark.ensures c.in-Err.ensures.grows c.undo_to.ensures, search rules)
