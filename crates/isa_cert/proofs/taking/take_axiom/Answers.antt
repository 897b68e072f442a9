use Rattle.std.proofs.Common.{rules}
use Rattle.isa_cert.proofs.Adding.{axiom_line}
use Rattle.isa_cert.proofs.taking.take_axiom.Goals as goal

pub returns-in-Ok-axiom : goal.returns-in-Ok-axiom
returns-in-Ok-axiom c = axiom_line c.args.table.now c.args.name.now c.args.prop c.in_ok-prop.prop _ c.in-Ok-axiom.th c.add_axiom.new.self c.push.new.self c.in_ok-term.ensures c.in_ok-prop.ensures (search rules) c.in-Ok.ensures.0 c.in-Ok.ensures.1 c.in-Ok-axiom.ensures c.in_ok-push-in-Ok-axiom.ensures.ok
