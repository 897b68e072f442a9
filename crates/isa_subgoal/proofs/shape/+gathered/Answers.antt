use Rattle.std.proofs.Common.{rules, ◌≡◌, ◌++◌, [], ◌∷◌, IfOk, subst}
use Rattle.isa_terms.specs.Terms.{Tm, Abs, App}
use Rattle.isa_subgoal.specs.Shape.{gathered}
use Rattle.isa_subgoal.proofs.Heads.{head_of}
use Rattle.isa_subgoal.proofs.InForm.{gathered_parameter, gathered_premise}
use Rattle.isa_subgoal.proofs.shape.+gathered.Goals as goal

pub returns-in_ok-inner-in-Some : goal.returns-in_ok-inner-in-Some
returns-in_ok-inner-in-Some t c =
    let k = gathered_parameter c.args.premises.now c.in_ok-under-in-Some.under c.args.t.now c.in-App.fun c.in-Abs.name c.in-Abs.typ c.in-Abs.body c.in_ok-inner-in-Some.inner (c.in-Some.field-0-0.now, c.in-Some.field-0-1.now) (search rules) (search rules) (search rules) (search rules) in
    let e : IfOk c.applied_to_abs.result (λ r. r ≡ App c.in-App.fun (Abs c.in-Abs.name c.in-Abs.typ c.in_ok-inner-in-Some.inner)) = search rules in
    subst (λ (x : Tm). IfOk c.applied_to_abs.result (λ r. r ≡ x)) k e

pub returns-in_ok-push-in-Some-split_imp : goal.returns-in_ok-push-in-Some-split_imp
returns-in_ok-push-in-Some-split_imp t c =
    let k = gathered_premise c.args.premises.now (c.args.premises.now ++ c.in-Some-split_imp.premise.now ∷ []) c.args.t.now c.in-App.fun c.in-App.arg (c.in-Some-split_imp.premise.now, c.in-Some-split_imp.field-0-1.now) (search rules) (head_of c.view-in-App.result.now c.in-App.arg (search rules) c.in_default-view.not-Abs) (search rules) (search rules) in
    let e : IfOk c.gathered-in-Some-split_imp.result (λ r. r ≡ gathered (c.args.premises.now ++ c.in-Some-split_imp.premise.now ∷ []) c.in-App.arg) = search rules in
    subst (λ (x : Tm). IfOk c.gathered-in-Some-split_imp.result (λ r. r ≡ x)) k e
