use Rattle.std.proofs.Common.{sym, ap, ◌∙◌}
use Rattle.isa_terms.specs.Types.{TyFixed}
use Rattle.isa_terms.specs.Layers.{typ_of}
use Rattle.isa_unify.proofs.Tests.{name_true}
use Rattle.isa_typing.specs.Found.{found_in}
use Rattle.isa_typing.proofs.Solved.{step_same, step_variables, step_apart, step_apart_right, none_at}
use Rattle.isa_typing.proofs.solving.meet.Goals as goal

pub returns-in_ok-going-in-Unknown-default : goal.returns-in_ok-going-in-Unknown-default
returns-in_ok-going-in-Unknown-default c = c.in_ok-going-in-Unknown-default.ensures.step c.args.work.now.items

pub returns-in_ok-going-in_default-Unknown : goal.returns-in_ok-going-in_default-Unknown
returns-in_ok-going-in_default-Unknown c = c.in_ok-going-in_default-Unknown.ensures.step c.args.work.now.items

pub returns-then-same : goal.returns-then-same
returns-then-same c =
    step_same (found_in c.args.found.now.entries) c.args.work.now.items c.args.left.now c.args.right.now (sym c.view.ensures ∙ (ap typ_of c.in-Fixed-Fixed.is-0 ∙ (ap TyFixed (name_true _ _ (sym c.same.ensures.test ∙ c.if-same.true)) ∙ sym (sym c.view-2.ensures ∙ ap typ_of c.in-Fixed-Fixed.is-1))))

pub returns-else-same : goal.returns-else-same
returns-else-same c =
    none_at (found_in c.args.found.now.entries) c.args.work.now.items c.args.left.now c.args.right.now _ _ (sym c.view.ensures ∙ ap typ_of c.in-Fixed-Fixed.is-0) (sym c.view-2.ensures ∙ ap typ_of c.in-Fixed-Fixed.is-1) (step_variables (found_in c.args.found.now.entries) c.args.work.now.items _ _ (sym c.same.ensures.test ∙ c.if-same.false))

pub returns-in-Fixed-Con : goal.returns-in-Fixed-Con
returns-in-Fixed-Con c =
    none_at (found_in c.args.found.now.entries) c.args.work.now.items c.args.left.now c.args.right.now _ _ (sym c.view.ensures ∙ ap typ_of c.in-Fixed-Con.is-0) (sym c.view-2.ensures ∙ ap typ_of c.in-Fixed-Con.is-1) (step_apart (found_in c.args.found.now.entries) c.args.work.now.items _ _ _)

pub returns-in-Con-Fixed : goal.returns-in-Con-Fixed
returns-in-Con-Fixed c =
    none_at (found_in c.args.found.now.entries) c.args.work.now.items c.args.left.now c.args.right.now _ _ (sym c.view.ensures ∙ ap typ_of c.in-Con-Fixed.is-0) (sym c.view-2.ensures ∙ ap typ_of c.in-Con-Fixed.is-1) (step_apart_right (found_in c.args.found.now.entries) c.args.work.now.items _ _ _)
