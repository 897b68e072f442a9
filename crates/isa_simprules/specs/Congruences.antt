-- Congruence rules: `A1 ==> .. ==> An ==> c x1 .. xk == c y1 .. yk`.
-- Source: congruence rules of the Simplifier (the Isabelle/Isar Reference Manual, "The Simplifier", "Congruence rules").
use Rattle.std.specs.Prelude.{◌≡◌, refl, ℕ, ◌+◌, nat_eq, List, [], ◌∷◌, length, Bool, true, false, not, ◌&&◌, ◌||◌, Option, Some, None, if◌then◌else◌}
use Rattle.std.specs.Coded.{Coded, code_by, coded×, coded_list, coded_ℕ}
use Rattle.isa_terms.specs.Codes.{coded_tm, coded_ty}
use Rattle.isa_terms.specs.Types.{Ty}
use Rattle.isa_terms.specs.Terms.{Tm, Const, Unknown, Bound, App}
use Rattle.isa_terms.specs.Equal.{tm_eq}
use Rattle.isa_terms.specs.Sets.{has}
use Rattle.isa_terms.specs.Order.{head_of}
use Rattle.isa_terms.specs.Pattern.{is_unknown, is_bound}
use Rattle.isa_terms.specs.Spines.{args_of}
use Rattle.isa_kernel.specs.Forms.{◌>>=◌, eq_parts}
use Rattle.isa_kernel.specs.Theorem.{Theorem, theorem_code}
use Rattle.isa_subgoal.specs.declared.lift.Parameter.{Parameter}
use Rattle.isa_subgoal.specs.Premises.{premises, conclusion}
use Rattle.isa_subgoal.specs.Parts.{Parts, parts_of}

-- whether it is an unknown applied to the variables count - 1, .., n of the binders round it
abbrev pub is_on_all : ℕ → ℕ → Tm → Bool
is_on_all count n (App f a) = is_bound n a && is_on_all count (n + 1) f
is_on_all count n (Unknown x i T) = nat_eq n count
is_on_all count n t = false

-- a premise `!!zs. Ps ==> x zs == y zs` for unknowns x and y: the variables zs, the premises Ps and the left side under their binders, and x and y
pub record Premise : Type 0 where
  pub variables : List Parameter
  pub added : List Tm
  pub left : Tm
  pub argument : Tm
  pub result : Tm

abbrev pub parameter_code : Coded Parameter
parameter_code = code_by (List ℕ × Ty) (coded× (coded_list coded_ℕ) coded_ty) (λ v. (v.name, v.typ)) (λ p. record { name = p.0; typ = p.1 }) (λ _. refl)

abbrev pub premise_code : Coded Premise
premise_code = code_by (List Parameter × (List Tm × (Tm × (Tm × Tm)))) (coded× (coded_list parameter_code) (coded× (coded_list coded_tm) (coded× coded_tm (coded× coded_tm coded_tm))))
    (λ a. (a.variables, (a.added, (a.left, (a.argument, a.result))))) (λ p. record { variables = p.0; added = p.1.0; left = p.1.1.0; argument = p.1.1.1.0; result = p.1.1.1.1 }) (λ _. refl)

abbrev pub premise_with : Parts → Option Premise
premise_with p = do
  sides ← eq_parts p.conclusion
  if is_on_all (length p.parameters) 0 sides.1 && is_on_all (length p.parameters) 0 sides.2 then Some (record { variables = p.parameters; added = p.assumptions; left = sides.1; argument = head_of sides.1; result = head_of sides.2 }) else None

-- the parts of such a premise
abbrev pub premise_of : Tm → Option Premise
premise_of t = premise_with (parts_of t)

abbrev pub premises_in : List Tm → Option (List Premise)
premises_in [] = Some []
premises_in (t ∷ ts) = do
  p ← premise_of t
  ps ← premises_in ts
  Some (p ∷ ps)

-- whether each of the terms is an unknown, and none stands twice
abbrev pub are_distinct_unknowns : List Tm → Bool
are_distinct_unknowns [] = true
are_distinct_unknowns (t ∷ ts) = is_unknown t && (not (has ts t) && are_distinct_unknowns ts)

-- how often the term stands among those
abbrev pub occurrences : Tm → List Tm → ℕ
occurrences t [] = 0
occurrences t (u ∷ us) = if tm_eq u t then occurrences t us + 1 else occurrences t us

-- the unknowns in which the premises end
abbrev pub results : List Premise → List Tm
results [] = []
results (p ∷ ps) = p.result ∷ results ps

-- whether u and v stand at one place of the two lists
abbrev pub stand_together : Tm → Tm → List Tm → List Tm → Bool
stand_together u v (x ∷ xs) (y ∷ ys) = (tm_eq x u && tm_eq y v) || stand_together u v xs ys
stand_together u v _ _ = false

-- whether each premise ends in an argument of the left side and the argument at its place of the right side
abbrev pub are_of : List Tm → List Tm → List Premise → Bool
are_of xs ys [] = true
are_of xs ys (p ∷ ps) = stand_together p.argument p.result xs ys && are_of xs ys ps

-- whether y is x and no premise ends in it, or an unknown of its own in which one premise ends
abbrev pub argument_fits : List Tm → List Tm → List Tm → Tm → Tm → Bool
argument_fits xs ys ends x y =
    if tm_eq x y then nat_eq (occurrences y ends) 0 else (is_unknown y && (not (has xs y) && (nat_eq (occurrences y ys) 1 && nat_eq (occurrences y ends) 1)))

-- whether there are as many arguments on both sides, and each fits
abbrev pub arguments_fit : List Tm → List Tm → List Tm → List Tm → List Tm → Bool
arguments_fit xs ys ends [] [] = true
arguments_fit xs ys ends (a ∷ as1) (b ∷ bs) = argument_fits xs ys ends a b && arguments_fit xs ys ends as1 bs
arguments_fit xs ys ends _ _ = false

abbrev pub is_constant : Tm → Bool
is_constant (Const c T) = true
is_constant _ = false

-- a congruence rule with the parts of its premises
pub record Cong : Type 0 where
  pub premises : List Premise
  pub left : Tm
  pub right : Tm
  pub thm : Theorem

abbrev pub cong_code : Coded Cong
cong_code = code_by (List Premise × (Tm × (Tm × Theorem))) (coded× (coded_list premise_code) (coded× coded_tm (coded× coded_tm theorem_code)))
    (λ c. (c.premises, (c.left, (c.right, c.thm)))) (λ p. record { premises = p.0; left = p.1.0; right = p.1.1.0; thm = p.1.1.1 }) (λ _. refl)

-- whether the sides are one constant, applied to arguments that fit with the premises
abbrev pub is_congruence : List Premise → Tm → Tm → Bool
is_congruence ps l r =
    is_constant (head_of l) && (tm_eq (head_of l) (head_of r) && (are_distinct_unknowns (args_of l) && (are_of (args_of l) (args_of r) ps && arguments_fit (args_of l) (args_of r) (results ps) (args_of l) (args_of r))))

-- the theorem as a congruence rule, where it is one
abbrev pub cong_of : Theorem → Option Cong
cong_of th = do
  sides ← eq_parts (conclusion th.prop)
  ps ← premises_in (premises th.prop)
  if is_congruence ps sides.1 sides.2 then Some (record { premises = ps; left = sides.1; right = sides.2; thm = th }) else None

-- a congruence rule is what its theorem says
abbrev pub IsCong : Cong → Type 0
IsCong c = cong_of c.thm ≡ Some c
