use Rattle.std.proofs.Common.{rules, ◌≡◌, true}
use Rattle.isa_goal.specs.Matching.{is_first_order}
use Rattle.isaprove.proofs.Plainness.{plain_is}
use Rattle.isaprove.proofs.plain.is_plain.Goals as goal

pub returns : goal.returns
returns c =
    let first : is_first_order c.args.t.now ≡ true = search rules in
    plain_is _ _ _ _ _ _ _ first c.in_ok-judgment.ensures c.syntax.ensures c.signature.ensures c.notated-notated.ensures c.is_plain_prop.ensures
