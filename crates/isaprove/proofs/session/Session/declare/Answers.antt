use Rattle.std.proofs.Common.{refl}
use Rattle.isaprove.proofs.Outcomes.{applies_declares, refuses_declares}
use Rattle.isaprove.proofs.session.Session.declare.Goals as goal

pub returns : goal.returns
returns c = applies_declares c.args.self.now _ _ c.apply.new.self c.in_ok-apply.ensures refl
