use Rattle.std.proofs.Common.{refl}
use Rattle.isaprove.proofs.Finishing.{finish_left}
use Rattle.isaprove.proofs.session.Session.finish.Goals as goal

pub returns-in_default-finish : goal.returns-in_default-finish
returns-in_default-finish c = λ h. (refl, finish_left c.args.self.now c.args.line c.in-Some.lemma c.args.self.now.lemma c.in_ok-state.state c.in-Some.is c.in_ok-state.ensures c.in_default-finish.ensures.0)
