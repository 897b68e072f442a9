-- Worked rules of facts, under the usual roles of first-order logic.
-- Source: this project.
use Rattle.std.specs.Prelude.{◌≡◌, ℕ, List, [], ◌∷◌, true, false, Some, None, codes}
use Rattle.isa_terms.specs.Types.{Ty, TyCon, NoTys}
use Rattle.isa_terms.specs.Terms.{Tm, Const, Unknown, Bound, Abs, App}
use Rattle.isa_terms.specs.Typing.{function_of}
use Rattle.isa_kernel.specs.Logic.{prop, imp, eq, all}
use Rattle.isa_kernel.specs.Logics.{no_roles}
use Rattle.isa_kernel.specs.Theorem.{Theorem}
use Rattle.isa_kernel.specs.declared.logic.Logic.{Logic}
use Rattle.isa_simprules.specs.RulesOf.{rules_of}
use Rattle.isa_simprules.specs.Renamings.{is_renamed}

abbrev pub o : Ty
o = TyCon (codes "o") NoTys

abbrev pub i : Ty
i = TyCon (codes "i") NoTys

-- the judgment that t is true
abbrev pub J : Tm → Tm
J t = App (Const (codes "Trueprop") (function_of o prop)) t

abbrev pub operator : List ℕ → Tm → Tm → Tm
operator c t u = App (App (Const c (function_of o (function_of o o))) t) u

abbrev pub conj : Tm → Tm → Tm
conj t u = operator (codes "conj") t u

abbrev pub arrow : Tm → Tm → Tm
arrow t u = operator (codes "imp") t u

-- `ALL x. P x` for a predicate P
abbrev pub every : Tm → Tm
every P = App (Const (codes "All") (function_of (function_of i o) o)) P

abbrev pub True : Tm
True = Const (codes "True") o

abbrev pub A : Tm
A = Const (codes "A") o

abbrev pub predicate : List ℕ → Tm
predicate c = Const c (function_of i o)

abbrev pub B : Tm → Tm
B t = App (predicate (codes "B")) t

abbrev pub C : Tm → Tm
C t = App (predicate (codes "C")) t

abbrev pub P : Tm
P = Unknown (codes "P") 0 o

abbrev pub Q : Tm
Q = Unknown (codes "Q") 0 o

abbrev pub x : ℕ → Tm
x n = Unknown (codes "x") n i

abbrev pub fact : Tm → Theorem
fact p = record { hyps = []; prop = p; base = [] }

-- `P --> Q ==> P ==> Q`, `P & Q ==> P`, `P & Q ==> Q` and `ALL x. P x ==> P x` take facts apart, and `P ==> P == True` makes equations
abbrev pub roles : Logic
roles = record no_roles {
  atomize =
      fact (imp (J (arrow P Q)) (imp (J P) (J Q)))
      ∷ fact (imp (J (conj P Q)) (J P)) ∷ fact (imp (J (conj P Q)) (J Q))
      ∷ fact (imp (J (every (Unknown (codes "P") 0 (function_of i o)))) (J (App (Unknown (codes "P") 0 (function_of i o)) (x 0)))) ∷ [];
  meta = fact (imp (J P) (eq o P True)) ∷ [];
}

pub record Rows : Type 0 where
  -- `A & (ALL x. B x --> C x)`: `A == True` and `B ?x ==> C ?x == True`
  pub apart : rules_of roles (fact (J (conj A (every (Abs (codes "x") i (arrow (B (Bound 0)) (C (Bound 0)))))))) ≡ fact (eq o A True) ∷ fact (imp (J (B (x 0))) (eq o (C (x 0)) True)) ∷ []
  -- `B ?x --> (ALL x. C x)`: the new unknown is `?x.1`
  pub numbered : rules_of roles (fact (J (arrow (B (x 0)) (every (predicate (codes "C")))))) ≡ fact (imp (J (B (x 0))) (eq o (C (x 1)) True)) ∷ []
  -- `!!x. B x` is opened
  pub opened : rules_of roles (fact (all (codes "x") i (J (B (Bound 0))))) ≡ fact (eq o (B (x 0)) True) ∷ []
  -- without roles a proposition has no rule, and an equation is its own
  pub none : rules_of no_roles (fact (J A)) ≡ []
  pub itself : rules_of no_roles (fact (eq o A True)) ≡ fact (eq o A True) ∷ []
  -- `P & Q` is `Q & P` up to a renaming, and not `P & P`
  pub renamed : is_renamed (conj P Q) (conj Q P) ≡ true
  pub not_renamed : is_renamed (conj P Q) (conj P P) ≡ false
