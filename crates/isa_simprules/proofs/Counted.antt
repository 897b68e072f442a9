-- The steps of definitions that count, and of those that look at a test.
use Rattle.std.specs.Prelude.{option_map, is_some, codes}
use Rattle.std.proofs.Common.{◌≡◌, ℕ, zero, suc, ◌+◌, ◌-◌, ◌<◌, ◌≤◌, drop, List, [], ◌∷◌, ◌++◌, length, Bool, true, false, cond, Option, Some, None, refl, sym, ap, ◌∙◌, subst, arith}
use Rattle.isa_terms.specs.Types.{Ty}
use Rattle.isa_terms.specs.Terms.{Tm, Const}
use Rattle.isa_terms.specs.Equal.{name_eq}
use Rattle.isa_kernel.specs.Theorem.{Theorem}
use Rattle.isa_simprules.specs.Numbers.{first_free}
use Rattle.isa_simprules.specs.Roles.{normal, by_facts}
use Rattle.isa_simprules.specs.Opening.{quantifiers, opened_once, opened_often}
use Rattle.isa_simprules.specs.RulesOf.{each, parts_or_itself, branches, is_equation, if_equation, turned, equation_of}

one_less : (n : ℕ) → suc n - 1 ≡ n
one_less n = omega arith

pub free_here : (taken : ℕ → Bool) (n i : ℕ) → taken i ≡ false → first_free taken n i ≡ i
free_here taken zero i e = refl
free_here taken (suc n) i e = ap (λ b. cond b (first_free taken n (i + 1)) i) e

pub free_later : (taken : ℕ → Bool) (n i : ℕ) → 0 < n → taken i ≡ true → first_free taken n i ≡ first_free taken (n - 1) (i + 1)
free_later taken zero i h e = absurd (omega (arith, h))
free_later taken (suc n) i h e = ap (λ b. cond b (first_free taken n (i + 1)) i) e ∙ ap (λ m. first_free taken m (i + 1)) (sym (one_less n))

pub all_there : (x : List ℕ) (T : Ty) → name_eq x (codes "Pure.all") ≡ true → quantifiers (Const x T) ≡ 1
all_there x T e = ap (λ b. cond (is_some (cond b (Some T) None)) 1 0) e

pub no_all : (x : List ℕ) (T : Ty) → name_eq x (codes "Pure.all") ≡ false → quantifiers (Const x T) ≡ 0
no_all x T e = ap (λ b. cond (is_some (cond b (Some T) None)) 1 0) e

pub opened_none : (n : ℕ) (th : Theorem) → opened_once th ≡ None → opened_often n th ≡ th
opened_none zero th e = refl
opened_none (suc n) th e = ap (λ o. elim o as (λ o. Theorem) [ None ↦ th | Some x ↦ opened_often n x ]) e

pub opened_some : (n : ℕ) (th x : Theorem) → 0 < n → opened_once th ≡ Some x → opened_often n th ≡ opened_often (n - 1) x
opened_some zero th x h e = absurd (omega (arith, h))
opened_some (suc n) th x h e = ap (λ o. elim o as (λ o. Theorem) [ None ↦ th | Some x ↦ opened_often n x ]) e ∙ ap (λ m. opened_often m x) (sym (one_less n))

pub branches_zero : (facts : List Theorem) (th : Theorem) → branches 0 facts th ≡ th ∷ []
unfolding branches
branches_zero facts th = refl

pub branches_none : (n : ℕ) (facts : List Theorem) (th : Theorem) (xs : List Theorem) → by_facts facts th ≡ xs → length xs ≡ 0 → branches n facts th ≡ th ∷ []
unfolding branches
branches_none zero facts th xs e h = refl
branches_none (suc n) facts th [] e h = ap (parts_or_itself (branches n facts) th) e
branches_none (suc n) facts th (x ∷ xs) e h = absurd (omega (arith, h))

pub branches_some : (n : ℕ) (facts : List Theorem) (th : Theorem) (xs : List Theorem) → 0 < n → by_facts facts th ≡ xs → 0 < length xs → branches n facts th ≡ each (branches (n - 1) facts) xs
unfolding branches
branches_some zero facts th xs k e h = absurd (omega (arith, k))
branches_some (suc n) facts th [] k e h = absurd (omega (arith, h))
branches_some (suc n) facts th (x ∷ xs) k e h = ap (parts_or_itself (branches n facts) th) e ∙ ap (λ m. each (branches m facts) (x ∷ xs)) (sym (one_less n))

pub no_equation : (facts : List Theorem) (th : Theorem) → turned facts th ≡ None → equation_of facts th ≡ []
no_equation facts th e = ap (λ o. if_equation (option_map normal o)) e

pub not_equation : (facts : List Theorem) (th x : Theorem) → turned facts th ≡ Some x → is_equation (normal x) ≡ false → equation_of facts th ≡ []
not_equation facts th x e d = ap (λ o. if_equation (option_map normal o)) e ∙ ap (λ b. cond b (normal x ∷ []) []) d

pub one_equation : (facts : List Theorem) (th x : Theorem) → turned facts th ≡ Some x → is_equation (normal x) ≡ true → equation_of facts th ≡ normal x ∷ []
one_equation facts th x e d = ap (λ o. if_equation (option_map normal o)) e ∙ ap (λ b. cond b (normal x ∷ []) []) d

append_nothing : (xs : List Theorem) → xs ++ [] ≡ xs
append_nothing [] = refl
append_nothing (x ∷ xs) = ap (λ ys. x ∷ ys) (append_nothing xs)

nothing_left : (i : ℕ) (xs : List Theorem) → length xs ≤ i → drop i xs ≡ []
nothing_left zero [] h = refl
nothing_left zero (x ∷ xs) h = absurd (omega (arith, h))
nothing_left (suc i) [] h = refl
nothing_left (suc i) (x ∷ xs) h = nothing_left i xs (omega (arith, h))

-- the branches of all parts, once none of the parts is left
pub branches_behind : (n i : ℕ) (facts : List Theorem) (th : Theorem) (xs all done : List Theorem) → 0 < n → by_facts facts th ≡ xs → 0 < length xs → length xs ≤ i → all ++ each (branches (n - 1) facts) (drop i xs) ≡ done ++ each (branches (n - 1) facts) xs → all ≡ done ++ branches n facts th
branches_behind n i facts th xs all done k e h l d =
    sym (append_nothing all) ∙ ap (λ ys. all ++ each (branches (n - 1) facts) ys) (sym (nothing_left i xs l)) ∙ d ∙ ap (λ ys. done ++ ys) (sym (branches_some n facts th xs k e h))
