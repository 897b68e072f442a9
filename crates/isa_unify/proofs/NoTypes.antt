-- Without types for type unknowns nothing changes.
use Rattle.std.proofs.Common.{◌≡◌, List, [], ◌∷◌, map, length, refl, sym, ap, arith}
use Rattle.isa_terms.specs.Terms.{Tm, Const, Free, Unknown, Bound, Abs, App}
use Rattle.isa_terms.specs.declared.inst.TypeEntry.{TypeEntry}
use Rattle.isa_terms.specs.declared.inst.TermEntry.{TermEntry}
use Rattle.isa_unify.specs.declared.equation.Variable.{Variable}
use Rattle.isa_unify.specs.declared.equation.Equation.{Equation}
use Rattle.isa_unify.specs.declared.progress.State.{State}
use Rattle.isa_unify.specs.TypeUnification.{entries_under}
use Rattle.isa_unify.specs.Unification.{retyped, retyped_variable, retyped_equation, retyped_entry, retyped_state}
use Rattle.isa_unify.proofs.Assigned.{inst_ty_nothing}

retyped_nothing : (t : Tm) → retyped [] t ≡ t
retyped_nothing (Const x T) = ap (Const x) (inst_ty_nothing T)
retyped_nothing (Free x T) = ap (Free x) (inst_ty_nothing T)
retyped_nothing (Unknown x i T) = ap (Unknown x i) (inst_ty_nothing T)
retyped_nothing (Bound n) = refl
retyped_nothing (Abs x T b) = λ i. Abs x (inst_ty_nothing T i) (retyped_nothing b i)
retyped_nothing (App f a) = λ i. App (retyped_nothing f i) (retyped_nothing a i)

map_same : {A : Type 0} (f : A → A) → ((x : A) → f x ≡ x) → (xs : List A) → map f xs ≡ xs
map_same f h [] = refl
map_same f h (x ∷ xs) = λ i. h x i ∷ map_same f h xs i

same_variable : (v : Variable) → retyped_variable [] v ≡ v
same_variable v = λ i. record v { typ = inst_ty_nothing v.typ i }

same_equation : (e : Equation) → retyped_equation [] e ≡ e
same_equation e = λ i. record e { binders = map_same (retyped_variable []) same_variable e.binders i; left = retyped_nothing e.left i; right = retyped_nothing e.right i }

same_types : (es : List TypeEntry) → entries_under [] es ≡ es
same_types es = map_same (λ (e : TypeEntry). record e { typ = _ }) (λ e. λ i. record e { typ = inst_ty_nothing e.typ i }) es

same_entry : (e : TermEntry) → retyped_entry [] e ≡ e
same_entry e = λ i. record e { term = retyped_nothing e.term i }

retyped_state_nothing : (st : State) → retyped_state [] st ≡ st
retyped_state_nothing st = λ i. record st { equations = map_same (retyped_equation []) same_equation st.equations i; types = same_types st.types i; terms = map_same (retyped_entry []) same_entry st.terms i }

-- a state without types to put in
pub retyped_by_none : (types : List TypeEntry) (st : State) → length types ≡ 0 → st ≡ retyped_state types st
retyped_by_none [] st h = sym (retyped_state_nothing st)
retyped_by_none (e ∷ es) st h = absurd (omega arith)
