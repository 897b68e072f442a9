use Rattle.std.proofs.Common.{◌≡◌, IfOk, cond, Some, None, Option, sym, subst, ◌∙◌, ap, option_map}
use Rattle.isa_terms.specs.Instance.{Instance}
use Rattle.isa_unify.specs.BinderLists.{binders_in, flexible_of}
use Rattle.isa_unify.proofs.Flexible.{flexible_matched}
use Rattle.isa_unify.proofs.matching.+extend.Goals as goal

pub returns-in-Some : goal.returns-in-Some
returns-in-Some t c =
    subst (λ (o : Option Instance). IfOk c.solve.result (λ yes. o ≡ cond yes (Some c.solve.new.inst) None))
    (sym (flexible_matched (binders_in c.args.binders.now) c.args.inst.now c.args.pattern.now c.args.term.now (flexible_of c.in-Some.spine) (sym c.in_ok-spine.ensures ∙ ap (option_map flexible_of) c.in-Some.is)))
    c.solve.ensures
