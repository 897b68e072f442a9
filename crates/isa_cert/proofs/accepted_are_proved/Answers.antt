use Rattle.isa_cert.proofs.Proved.{accepted_are_proved}
use Rattle.isa_cert.proofs.accepted_are_proved.Goals as goal

pub returns : goal.returns
returns c = accepted_are_proved
