use Rattle.std.proofs.Common.{rules}
use Rattle.isa_unify.proofs.LateSteps.{put_in_all}
use Rattle.isa_unify.proofs.late.Late.put_in.Goals as goal

pub returns : goal.returns
returns c =
    put_in_all c.self.inside.stack.items c.self.inside.log.items c.push.new.self.items c.self.inside.missed c.in_ok-self-inside.field-0 c.self.inside.types c.self.inside.terms c.self.inside.next c.self.inside.left c.args.solution c.args.self
    c.in_ok-push.ensures.items (search rules) c.self.view_is
