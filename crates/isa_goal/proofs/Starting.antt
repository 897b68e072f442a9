-- A proposition as the only subgoal of itself.
use Rattle.std.proofs.Common.{◌≡◌, List, [], ◌∷◌, cond, Some, refl, sym, ap, ◌∙◌, subst}
use Rattle.isa_terms.specs.Terms.{Tm}
use Rattle.isa_terms.specs.Sets.{without}
use Rattle.isa_kernel.specs.Logic.{prop, imp}
use Rattle.isa_kernel.specs.Theorem.{Theorem}
use Rattle.isa_kernel.specs.Inferences.{has_type, assumed, implies_introduced}
use Rattle.isa_terms.proofs.Functions.{cond_some}
use Rattle.isa_goal.specs.Goals.{Proves}
use Rattle.isa_subgoal.proofs.Deriving.{tm_eq_same}

without_same : (t : Tm) → without t (t ∷ []) ≡ []
without_same t = ap (λ b. cond b [] (t ∷ [])) (tm_eq_same t)

theorem_same : (a b : Theorem) → a.hyps ≡ b.hyps → a.prop ≡ b.prop → a.base ≡ b.base → a ≡ b
theorem_same a b h p e = λ i. record { hyps = h i; prop = p i; base = e i }

pub started_proves : (t : Tm) (a th : Theorem) → assumed t ≡ Some a → implies_introduced t a ≡ Some th → Proves th (record { subgoals = t ∷ []; goal = t; base = th.base })
started_proves t a th e f =
    let p = cond_some (has_type t prop) _ e in
    let q = cond_some (has_type t prop) _ f in
    let a_is : record { hyps = t ∷ []; prop = t; base = [] } ≡ a = cc (p.1) in
    let th_is : record { hyps = without t a.hyps; prop = imp t a.prop; base = a.base } ≡ th = cc (q.1) in
    record {
      same = theorem_same th _ (ap (λ (x : Theorem). x.hyps) (sym th_is) ∙ ap (λ (x : Theorem). without t x.hyps) (sym a_is) ∙ without_same t) (ap (λ (x : Theorem). x.prop) (sym th_is) ∙ ap (λ (x : Theorem). imp t x.prop) (sym a_is)) refl;
    }

pub started_fits : (t g : Tm) (ss : List Tm) (a th : Theorem) → assumed t ≡ Some a → implies_introduced t a ≡ Some th → ss ≡ t ∷ [] → g ≡ t → Proves th (record { subgoals = ss; goal = g; base = th.base })
started_fits t g ss a th e f s h = subst (λ x. Proves th (record { subgoals = x; goal = g; base = th.base })) (sym s) (subst (λ x. Proves th (record { subgoals = t ∷ []; goal = x; base = th.base })) (sym h) (started_proves t a th e f))
