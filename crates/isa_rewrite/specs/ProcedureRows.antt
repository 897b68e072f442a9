-- Worked rows of simplification procedures.
-- Source: this project.
use Rattle.std.specs.Prelude.{◌≡◌, ℕ, List, [], ◌∷◌, Option, Some, None, codes}
use Rattle.isa_terms.specs.Terms.{Tm, Const, Unknown, Bound, Abs, App}
use Rattle.isa_terms.specs.Typing.{function_of}
use Rattle.isa_kernel.specs.Logic as pure
use Rattle.isa_kernel.specs.Logics.{no_roles}
use Rattle.isa_kernel.specs.declared.logic.Logic.{Logic}
use Rattle.isa_rewrite.specs.Procedures.{Facts, by_inequality, by_one_point}
use Rattle.isa_rewrite.specs.Rows.{o, i, c, d, Q, P, A, rule, unknown, conj, at_start}

abbrev pub equal : Tm → Tm → Tm
equal t u = App (App (Const (codes "equal") (function_of i (function_of i o))) t) u

abbrev pub negation : Tm → Tm
negation t = App (Const (codes "not") (function_of o o)) t

abbrev pub holds : Tm → Tm
holds t = App (Const (codes "holds") (function_of o o)) t

-- `EX x. B`
abbrev pub exists : Tm → Tm
exists B = App (Const (codes "Ex") (function_of (function_of i o) o)) (Abs (codes "x") i B)

abbrev pub False : Tm
False = Const (codes "False") o

abbrev pub a : Tm
a = Unknown (codes "a") 0 i

abbrev pub b : Tm
b = Unknown (codes "b") 0 i

abbrev pub p : Tm → Tm
p t = App (Unknown (codes "p") 0 (function_of i o)) t

-- the roles with `holds (?a = ?b) ==> holds (?p ?a) ==> holds (?p ?b)`
abbrev pub equating : Logic
equating = record no_roles { subst = Some (record { hyps = []; prop = pure.imp (holds (equal a b)) (pure.imp (holds (p a)) (holds (p b))); base = [] }) }

-- `(EX x. x = ?a & ?p x) == ?p ?a`, the same with `?a = x`, and the facts that pull
abbrev pub facts : Facts
facts = record {
  one_point = rule [] (exists (conj (equal (Bound 0) a) (p (Bound 0)))) (p a) ∷ rule [] (exists (conj (equal a (Bound 0)) (p (Bound 0)))) (p a) ∷ [];
  pull_assoc = rule [] (conj (conj (unknown (codes "e")) (unknown (codes "L"))) (unknown (codes "R"))) (conj (unknown (codes "e")) (conj (unknown (codes "L")) (unknown (codes "R")))) ∷ [];
  pull_left = rule [] (conj (unknown (codes "L")) (conj (unknown (codes "e")) (unknown (codes "R")))) (conj (unknown (codes "e")) (conj (unknown (codes "L")) (unknown (codes "R")))) ∷ [];
  pull_swap = rule [] (conj (unknown (codes "L")) (unknown (codes "e"))) (conj (unknown (codes "e")) (unknown (codes "L"))) ∷ [];
}

abbrev pub made_of : Tm → Option Tm
made_of t = by_one_point equating facts (at_start []) t

pub record ProcedureRows : Type 0 where
  -- `EX x. x = c & Q x`: the equation stands in front
  pub front : made_of (exists (conj (equal (Bound 0) c) (Q (Bound 0)))) ≡ Some (Q c)
  -- `EX x. Q x & x = c`, by `pull_swap`
  pub swapped : made_of (exists (conj (Q (Bound 0)) (equal (Bound 0) c))) ≡ Some (Q c)
  -- `EX x. Q x & (x = c & P x)`, by `pull_left`
  pub left : made_of (exists (conj (Q (Bound 0)) (conj (equal (Bound 0) c) (P (Bound 0))))) ≡ Some (conj (Q c) (P c))
  -- `EX x. (Q x & c = x) & P x`, by `pull_swap` and then `pull_assoc`
  pub assoc : made_of (exists (conj (conj (Q (Bound 0)) (equal c (Bound 0))) (P (Bound 0)))) ≡ Some (conj (Q c) (P c))
  -- `EX x. x = c & x = d`: the first from the left counts
  pub first : made_of (exists (conj (equal (Bound 0) c) (equal (Bound 0) d))) ≡ Some (equal c d)
  -- `EX x. Q x & x = x` has no such equation
  pub none : made_of (exists (conj (Q (Bound 0)) (equal (Bound 0) (Bound 0)))) ≡ None
  -- nor is there one without the role `subst`, or without the fact that pulls
  pub no_role : by_one_point no_roles facts (at_start []) (exists (conj (equal (Bound 0) c) (Q (Bound 0)))) ≡ None
  pub no_fact : by_one_point equating (record facts { pull_swap = [] }) (at_start []) (exists (conj (Q (Bound 0)) (equal (Bound 0) c))) ≡ None
  -- `~ ?a = ?b ==> (?b = ?a) == False` makes `d = c` False where `~ c = d` is a premise, and nothing where it isn't
  pub inequality : by_inequality (rule (negation (equal a b) ∷ []) (equal b a) False) (at_start (A ∷ negation (equal c d) ∷ [])) (equal d c) ≡ Some False
  pub no_premise : by_inequality (rule (negation (equal a b) ∷ []) (equal b a) False) (at_start (negation (equal d c) ∷ [])) (equal d c) ≡ None
