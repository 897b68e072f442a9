use Rattle.std.proofs.Common.{rules, arith, subst, sym, ◌≡◌, List}
use Rattle.std.specs.Prelude.{IfOk}
use Rattle.isa_terms.specs.Terms.{Tm}
use Rattle.isa_subgoal.specs.declared.premises.Premises.{Premises}
use Rattle.isa_subgoal.proofs.Rotating.{leading_done, leading_step}
use Rattle.isa_subgoal.proofs.premises.+split_leading.Goals as goal

pub returns-in_ok-push-in-Some-clause-premises : goal.returns-in_ok-push-in-Some-clause-premises
returns-in_ok-push-in-Some-clause-premises t c =
    subst (λ (z : List Tm). IfOk c.split_leading.result (λ (r : Premises). r.premises ≡ z))
    (leading_done c.args.count c.args.t.now c.in-Some.first.now c.in-Some.rest.now c.args.done _ (omega (arith, c.if-count-eq0.false)) (search rules) (search rules))
    c.split_leading.ensures.premises

pub returns-in_ok-push-in-Some-clause-conclusion : goal.returns-in_ok-push-in-Some-clause-conclusion
returns-in_ok-push-in-Some-clause-conclusion t c =
    subst (λ (z : Tm). IfOk c.split_leading.result (λ (r : Premises). r.conclusion ≡ z))
    (sym (leading_step c.args.count c.args.t.now c.in-Some.first.now c.in-Some.rest.now (omega (arith, c.if-count-eq0.false)) (search rules)).1)
    c.split_leading.ensures.conclusion
