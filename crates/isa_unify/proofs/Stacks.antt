-- Stacks of equations of types, and the loop over one.
use Rattle.std.proofs.Common.{◌≡◌, ℕ, suc, ◌<◌, ◌≤◌, List, [], ◌∷◌, ◌++◌, map, length, take, reverse, Bool, true, false, Some, None, refl, sym, ap, subst, ◌∙◌, inl, inr, arith}
use Rattle.std.proofs.lemmas.List.{reverse-append, take_all}
use Rattle.isa_terms.specs.Types.{Ty}
use Rattle.isa_terms.specs.declared.inst.TypeEntry.{TypeEntry}
use Rattle.isa_unify.specs.declared.types.TypePair.{TypePair}
use Rattle.isa_unify.specs.TypeUnification.{equations_under, TypeState, type_state, types_unified, unify_typs}
use Rattle.isa_unify.specs.TypeStacks.{pair_of, stack_of, Advances}
use Rattle.isa_unify.proofs.TypesUnify.{steps_left, unified_lighter, unified_solved, unified_done, steps_left_lighter, steps_left_solved}

under_append : (s : List TypeEntry) (es fs : List (Ty × Ty)) → equations_under s (es ++ fs) ≡ equations_under s es ++ equations_under s fs
under_append s [] fs = refl
under_append s (e ∷ es) fs = ap (λ gs. equations_under s (e ∷ []) ++ gs) (under_append s es fs)

under_reverse : (s : List TypeEntry) (es : List (Ty × Ty)) → reverse (equations_under s es) ≡ equations_under s (reverse es)
under_reverse s [] = refl
under_reverse s (e ∷ es) =
    reverse-append (equations_under s (e ∷ [])) (equations_under s es)
    ∙ ap (λ fs. fs ++ equations_under s (e ∷ [])) (under_reverse s es)
    ∙ sym (under_append s (reverse es) (e ∷ []))
    ∙ ap (equations_under s) (sym (reverse-append (e ∷ []) es))

pub stack_replaced : (s : List TypeEntry) (xs ys : List TypePair) (k : ℕ) → length ys ≤ k → map pair_of xs ≡ equations_under s (map pair_of (take k ys)) → stack_of xs ≡ equations_under s (stack_of ys)
stack_replaced s xs ys k h e = ap reverse (e ∙ ap (λ zs. equations_under s (map pair_of zs)) (take_all k ys h)) ∙ under_reverse s (map pair_of ys)

map_append : (xs ys : List TypePair) → map pair_of (xs ++ ys) ≡ map pair_of xs ++ map pair_of ys
map_append [] ys = refl
map_append (x ∷ xs) ys = ap (λ zs. pair_of x ∷ zs) (map_append xs ys)

pub stack_pushed : (xs : List TypePair) (x : TypePair) → stack_of (xs ++ x ∷ []) ≡ pair_of x ∷ stack_of xs
stack_pushed xs x = ap reverse (map_append xs (x ∷ [])) ∙ reverse-append (map pair_of xs) (pair_of x ∷ [])

-- the state before an equation is taken from the stack
pub state_popped : (xs ys : List TypePair) (x : TypePair) (s : List TypeEntry) → xs ≡ ys ++ x ∷ [] → type_state (stack_of xs) s ≡ type_state (pair_of x ∷ stack_of ys) s
state_popped xs ys x s e = ap (λ es. type_state es s) (ap stack_of e ∙ stack_pushed ys x)

advanced : (s t : TypeState) → Advances true s t → types_unified s ≡ types_unified t
advanced s t (inl e) = unified_lighter s t e
advanced s t (inr e) = unified_solved s t e

steps_advanced : (s t : TypeState) → Advances true s t → steps_left s ≡ suc (steps_left t)
steps_advanced s t (inl e) = steps_left_lighter s t e
steps_advanced s t (inr e) = steps_left_solved s t e

-- The loop over a stack of equations: s stands before the top one is taken, t after, and u when it has been dealt with.
pub loop_same : (s t u : TypeState) (b : Bool) → s ≡ t → b ≡ true → Advances b t u → types_unified u ≡ types_unified s
loop_same s t u b e h k = sym (ap types_unified e ∙ advanced t u (subst (λ b. Advances b t u) h k))

pub loop_falls : (s t u : TypeState) (b : Bool) → s ≡ t → b ≡ true → Advances b t u → steps_left u < steps_left s
loop_falls s t u b e h k =
    let p : steps_left s ≡ suc (steps_left u) = ap steps_left e ∙ steps_advanced t u (subst (λ b. Advances b t u) h k) in
    omega (arith, p)

pub loop_refused : (s t u : TypeState) (b : Bool) → s ≡ t → b ≡ false → Advances b t u → types_unified s ≡ None
loop_refused s t u b e h k = ap types_unified e ∙ unified_done t None (subst (λ b. Advances b t u) h k)

-- no equation is left
pub unified_finished : (xs : List TypePair) → length xs ≡ 0 → (s : List TypeEntry) → types_unified (type_state (stack_of xs) s) ≡ Some s
unified_finished [] h s = unified_done (type_state [] s) (Some s) refl
unified_finished (x ∷ xs) h s = absurd (omega arith)

pub started : (es : List (Ty × Ty)) → types_unified (type_state es []) ≡ unify_typs es
unfolding unify_typs
started es = refl
