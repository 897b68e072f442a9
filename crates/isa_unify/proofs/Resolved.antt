-- Entries that are looked up late.
use Rattle.std.proofs.Common.{◌≡◌, List, [], ◌∷◌, ◌++◌, refl, ap, ◌∙◌}
use Rattle.isa_terms.specs.declared.inst.TypeEntry.{TypeEntry}
use Rattle.isa_unify.specs.TypeUnification.{followed_by}
use Rattle.isa_unify.specs.TypeStacks.{found_before, resolved_before, resolved}
use Rattle.isa_unify.proofs.TypeInstances.{inst_followed, inst_nothing}

pub before_last : (late es : List TypeEntry) (e : TypeEntry) → resolved_before late (es ++ e ∷ []) ≡ resolved_before (found_before e late) es
before_last late [] e = refl
before_last late (d ∷ es) e = ap (found_before d) (before_last late es e)

-- a new entry comes after all that was found
pub resolved_last : (es : List TypeEntry) (e : TypeEntry) → resolved (es ++ e ∷ []) ≡ followed_by (resolved es) (e ∷ [])
resolved_last [] e = ap (λ T. record e { typ = T } ∷ []) (inst_nothing e.typ)
resolved_last (d ∷ es) e =
    ap (found_before d) (resolved_last es e)
    ∙ ap (λ T. record d { typ = T } ∷ followed_by (resolved es) (e ∷ [])) (inst_followed (resolved es) (e ∷ []) d.typ)
