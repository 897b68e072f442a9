-- Worked rows of simplification, each with its ticks.
-- Source: this project.
use Rattle.std.specs.Prelude.{◌≡◌, ℕ, List, [], ◌∷◌, true, false, codes}
use Rattle.isa_terms.specs.Types.{Ty, TyCon, NoTys}
use Rattle.isa_terms.specs.Terms.{Tm, Const, Free, Unknown, Bound, Abs, App}
use Rattle.isa_terms.specs.Typing.{function_of}
use Rattle.isa_kernel.specs.Theorem.{Theorem}
use Rattle.isa_rewrite.specs.Ticking.{Gives, Past}
use Rattle.isa_kernel.specs.Logic.{prop, eq}
use Rattle.isa_kernel.specs.Logic as pure
use Rattle.isa_kernel.specs.Logics.{no_roles}
use Rattle.isa_kernel.specs.declared.logic.Logic.{Logic}
use Rattle.isa_simprules.specs.Rules.{Rule}
use Rattle.isa_simprules.specs.Congruences.{Premise, Cong}
use Rattle.isa_rewrite.specs.Simpsets.{Simpset, Place}
use Rattle.isa_rewrite.specs.Simplification.{Simp, Beyond}

abbrev pub o : Ty
o = prop

abbrev pub i : Ty
i = TyCon (codes "i") NoTys

abbrev pub c : Tm
c = Const (codes "c") i

abbrev pub d : Tm
d = Const (codes "d") i

abbrev pub Q : Tm → Tm
Q t = App (Const (codes "Q") (function_of i o)) t

abbrev pub P : Tm → Tm
P t = App (Const (codes "P") (function_of i o)) t

abbrev pub R : Tm → Tm → Tm
R t u = App (App (Const (codes "R") (function_of i (function_of i o))) t) u

abbrev pub f : Tm → Tm
f t = App (Const (codes "f") (function_of i i)) t

abbrev pub True : Tm
True = Const (codes "True") o

abbrev pub x : Tm
x = Unknown (codes "x") 0 i

abbrev pub y : Tm
y = Unknown (codes "y") 0 i

abbrev pub none : Theorem
none = record { hyps = []; prop = True; base = [] }

abbrev pub rule : List Tm → Tm → Tm → Rule
rule cs l r = record { conditions = cs; left = l; right = r; permutes = false; thm = none }

abbrev pub of_rules : List Rule → Simpset
of_rules rules = record { logic = no_roles; procs = []; rules = rules; congs = []; close = True ∷ []; limit = 2 }

abbrev pub at_start : List Tm → Place
at_start ps = record { premises = ps; level = 0; depth = 0 }

-- `Q c` under `c == d` and `Q d == True`: five ticks
abbrev pub Chain : Type 0
Chain = Simp (of_rules (rule [] (Q d) True ∷ rule [] c d ∷ [])) (at_start []) (Q c) True 5

-- with four there are more to come
abbrev pub ChainBeyond : Type 0
ChainBeyond = Beyond (of_rules (rule [] (Q d) True ∷ rule [] c d ∷ [])) (at_start []) (Q c) 4

-- under a binder: `%z. c` to `%z. d`
abbrev pub Binder : Type 0
Binder = Simp (of_rules (rule [] c d ∷ [])) (at_start []) (Abs (codes "z") i c) (Abs (codes "z") i d) 2

-- `Q (f x) ==> Q x` at the limit 2: three, five and seven ticks at the depths 0 to 2, and nothing changes
abbrev pub Limit : Type 0
Limit = Simp (of_rules (rule (Q (f x) ∷ []) (Q x) True ∷ [])) (at_start []) (Q c) (Q c) 15

-- `R x y ==> Q y ==> P x` with the premises `R c c`, `R c d`, `Q d`: the first premise is tried and given up
abbrev pub Open : Type 0
Open = Simp (of_rules (rule (R x y ∷ Q y ∷ []) (P x) True ∷ [])) (at_start (R c c ∷ R c d ∷ Q d ∷ [])) (P c) True 12

abbrev pub imp : Tm → Tm → Tm
imp t u = App (App (Const (codes "imp") (function_of o (function_of o o))) t) u

abbrev pub conj : Tm → Tm → Tm
conj t u = App (App (Const (codes "conj") (function_of o (function_of o o))) t) u

abbrev pub A : Tm
A = Const (codes "A") o

abbrev pub B : Tm
B = Const (codes "B") o

abbrev pub unknown : List ℕ → Tm
unknown n = Unknown n 0 o

abbrev pub imp_cong : Cong
imp_cong = record {
  premises =
      record { variables = []; added = []; left = unknown (codes "P"); argument = unknown (codes "P"); result = unknown (codes "P'") }
      ∷ record { variables = []; added = unknown (codes "P'") ∷ []; left = unknown (codes "Q"); argument = unknown (codes "Q"); result = unknown (codes "Q'") } ∷ [];
  left = imp (unknown (codes "P")) (unknown (codes "Q"));
  right = imp (unknown (codes "P'")) (unknown (codes "Q'"));
  thm = none;
}

-- the roles with `?P ==> ?P == True`
abbrev pub turning : Logic
turning = record no_roles { meta = record { hyps = []; prop = pure.imp (unknown (codes "P")) (eq o (unknown (codes "P")) True); base = [] } ∷ [] }

-- `A --> A & B` to `A --> B` by the congruence rule of implication, which adds A as a premise
abbrev pub Congruence : Type 0
Congruence =
    Simp (record { logic = turning; procs = []; rules = rule [] (conj True (unknown (codes "p"))) (unknown (codes "p")) ∷ []; congs = imp_cong ∷ []; close = []; limit = 2 })
    (at_start []) (imp A (conj A B)) (imp A B) 9

-- `Q c ==> P x` with `Q c == True`: the condition holds, since the fact `True` closes its result
abbrev pub Closed : Type 0
Closed = Simp (of_rules (rule [] (Q c) True ∷ rule (Q c ∷ []) (P x) True ∷ [])) (at_start []) (P c) True 8

-- `Q c` to `Q d` by the premise `c == d`
abbrev pub ByPremise : Type 0
ByPremise = Simp (of_rules []) (at_start (eq i c d ∷ [])) (Q c) (Q d) 4

-- `R x y == R y x`, whose sides are equal up to a renaming: `R d c` to `R c d`, which is smaller
abbrev pub Ordered : Type 0
Ordered = Simp (of_rules (record { conditions = []; left = R x y; right = R y x; permutes = true; thm = none } ∷ [])) (at_start []) (R d c) (R c d) 10

-- two binders: `%z. %w. R w z` stays, with a tick for each part of the body
abbrev pub Binders : Type 0
Binders = Simp (of_rules []) (at_start []) (Abs (codes "z") i (Abs (codes "w") i (R (Bound 0) (Bound 1)))) (Abs (codes "z") i (Abs (codes "w") i (R (Bound 0) (Bound 1)))) 5

pub record Rows : Type 0 where
  pub chain : Chain
  pub beyond : ChainBeyond
  pub binder : Binder
  pub limit : Limit
  pub open_condition : Open
  pub congruence : Congruence
  pub closed : Closed
  pub by_premise : ByPremise
  pub ordered : Ordered
  pub binders : Binders
