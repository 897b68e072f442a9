use Rattle.std.proofs.Common.{arith, rules}
use Rattle.std.proofs.lemmas.Grind.{common_steps}
use Rattle.isaprove.proofs.WordLemmas.{any_told}
use Rattle.isaprove.proofs.top.run.Goals as goal

pub returns-clause-any : goal.returns-clause-any
returns-clause-any g c = first_of (search rules, grind (arith, common_steps))

pub returns-clause-told : goal.returns-clause-told
returns-clause-told g c = any_told _ _ _ _ _ _ (returns-clause-any g c)
