use Rattle.std.proofs.Common.{rules, ◌≡◌, false}
use Rattle.std.specs.Prelude.{is_some}
use Rattle.isaprove.proofs.Outcomes.{proves_comes, quiet_comes}
use Rattle.isaprove.proofs.session.Session.take.Goals as goal

pub returns-then-is_some : goal.returns-then-is_some
returns-then-is_some c = proves_comes _ _ _ _ (search rules) c.prove.ensures

pub returns : goal.returns
returns c =
    let outside : is_some c.args.self.now.lemma ≡ false = search rules in
    quiet_comes c.args.self.now c.take_outside.new.self c.args.command.now outside c.in_ok-take_outside.ensures
