use Rattle.std.proofs.Common.{rules, ◌++◌, [], ◌∷◌}
use Rattle.isa_subgoal.proofs.Heads.{head_of}
use Rattle.isa_subgoal.proofs.Regaining.{parameter_err, parameter_ok, premise_err, premise_ok}
use Rattle.isa_subgoal.proofs.reshaping.+regain.Goals as goal

pub returns-in_err-whole-in-Some : goal.returns-in_err-whole-in-Some
returns-in_err-whole-in-Some t c =
    parameter_err c.args.length c.in_ok-more-in-Some.more c.args.variables.now c.args.assumptions.now c.in_ok-all-in-Some.all c.args.t.now c.in-App.field-0 c.in-Abs.field-0 c.in-Abs.typ c.in-Abs.body c.in_ok-fixed-in-Some.fixed
    (c.in-Some.field-0-0.now, c.in-Some.field-0-1.now) c.args.th c.in_ok-at-in-Some.at c.in_err-whole-in-Some.field-0.0 _
    (search rules) (search rules) (search rules) (search rules) (search rules) (search rules) (search rules) (search rules)

pub returns-in_err-whole-in-Some-split_imp : goal.returns-in_err-whole-in-Some-split_imp
returns-in_err-whole-in-Some-split_imp t c =
    premise_err c.args.length c.args.variables.now c.args.assumptions.now (c.args.assumptions.now ++ c.in_ok-assumption-in-Some-split_imp.assumption ∷ []) c.args.t.now c.in-App.field-0 c.in-App.arg c.in_ok-assumption-in-Some-split_imp.assumption
    (c.in-Some-split_imp.premise.now, c.in-Some-split_imp.field-0-1.now) c.args.th c.in_err-whole-in-Some-split_imp.field-0.0 _
    (search rules) (head_of c.view-in-App.result.now c.in-App.arg (search rules) c.in_default-view.not-Abs) (search rules) (search rules) (search rules) (search rules) (search rules)

pub returns-in_ok-whole-in-Some : goal.returns-in_ok-whole-in-Some
returns-in_ok-whole-in-Some t c =
    parameter_ok c.args.length c.in_ok-more-in-Some.more c.args.variables.now c.args.assumptions.now c.in_ok-all-in-Some.all c.args.t.now c.in-App.field-0 c.in-Abs.field-0 c.in-Abs.typ c.in-Abs.body c.in_ok-fixed-in-Some.fixed
    (c.in-Some.field-0-0.now, c.in-Some.field-0-1.now) c.args.th c.in_ok-at-in-Some.at c.in_ok-whole-in-Some.whole _
    (search rules) (search rules) (search rules) (search rules) (search rules) (search rules) (search rules) (search rules)

pub returns-in_ok-whole-in-Some-split_imp : goal.returns-in_ok-whole-in-Some-split_imp
returns-in_ok-whole-in-Some-split_imp t c =
    premise_ok c.args.length c.args.variables.now c.args.assumptions.now (c.args.assumptions.now ++ c.in_ok-assumption-in-Some-split_imp.assumption ∷ []) c.args.t.now c.in-App.field-0 c.in-App.arg c.in_ok-assumption-in-Some-split_imp.assumption
    (c.in-Some-split_imp.premise.now, c.in-Some-split_imp.field-0-1.now) c.args.th c.in_ok-whole-in-Some-split_imp.whole _
    (search rules) (head_of c.view-in-App.result.now c.in-App.arg (search rules) c.in_default-view.not-Abs) (search rules) (search rules) (search rules) (search rules) (search rules)
