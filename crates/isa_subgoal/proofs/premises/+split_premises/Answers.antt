use Rattle.std.proofs.Common.{rules, arith, subst, ◌≡◌, List, Option}
use Rattle.std.specs.Prelude.{IfOk, option_map}
use Rattle.isa_terms.specs.Terms.{Tm}
use Rattle.isa_subgoal.specs.declared.premises.Premises.{Premises}
use Rattle.isa_subgoal.proofs.Splitting.{premises_more}
use Rattle.isa_subgoal.proofs.premises.+split_premises.Goals as goal

pub returns : goal.returns
returns t c =
    subst (λ (z : Option (List Tm × Tm)). IfOk c.split_premises.result (λ found. option_map {T = Premises} {U = List Tm × Tm} (λ r. (r.premises, r.conclusion)) found ≡ z))
    (premises_more c.args.count c.args.t.now c.in-Some.first.now c.in-Some.rest.now c.args.done _ (omega (arith, c.if-count-eq0.false)) (search rules) (search rules))
    c.split_premises.ensures
