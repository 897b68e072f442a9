-- What the inferences on theorems with premises answer, and where they are refused.
-- Source: derived rules of the pure logic, as Isabelle's `RS`, `COMP`, `rotate_prems` and lifting over assumptions (Paulson, "The foundation of a generic theorem prover", 1989; The Isabelle/Isar Implementation Manual, "Object-level rules").
-- A call names premises, and a theorem has them where its own equal them, but for the names of binders. What comes has the call's names.
use Rattle.std.specs.Prelude.{◌≡◌, List, [], ◌∷◌, ◌++◌, map, Bool, true, ◌||◌, ◌&&◌, if◌then◌else◌, Option, Some, None, Result}
use Rattle.isa_terms.specs.Terms.{Tm}
use Rattle.isa_terms.specs.Equal.{tm_eq}
use Rattle.isa_terms.specs.Sets.{missing, joined}
use Rattle.isa_terms.specs.Facts.{is_normal}
use Rattle.isa_terms.specs.Normal.{IsNormal}
use Rattle.isa_terms.specs.Instances.{Each}
use Rattle.isa_kernel.specs.Logic.{IsProposition}
use Rattle.isa_kernel.specs.Forms.{◌>>=◌, imp_parts}
use Rattle.isa_kernel.specs.declared.base.BaseEntry.{BaseEntry}
use Rattle.isa_kernel.specs.Axioms.{joined_bases}
use Rattle.isa_kernel.specs.Derived.{are_propositions, conclusion_behind}
use Rattle.isa_kernel.specs.Theorem.{Theorem}
use Rattle.isa_kernel.specs.Inferences.{Answers}
use Rattle.isa_kernel.specs.declared.inference.InferenceError.{InferenceError}
use Rattle.isa_subgoal.specs.Premises.{implies, rule_of}
use Rattle.isa_subgoal.specs.Shape.{is_in_form, shaped}

-- of `us ==> a ==> c` and a rule `bs ==> r`, where r equals a: `us ==> bs ==> c` by the axioms of both, under the hypotheses of both that equal none of us and bs
abbrev pub cut : List Tm → List Tm → Theorem → Theorem → Option Theorem
cut us bs th rule = do
  behind ← conclusion_behind us th.prop
  r ← conclusion_behind bs rule.prop
  parts ← imp_parts behind
  if tm_eq parts.0 r then Some (record { hyps = missing (us ++ bs) (joined th.hyps rule.hyps); prop = implies (us ++ bs) parts.1; base = joined_bases th.base rule.base }) else None

-- of `us ==> vs ==> c`: `vs ==> us ==> c`, under the hypotheses that equal none of us and vs
abbrev pub rotated : List Tm → List Tm → Theorem → Option Theorem
rotated us vs th = do
  c ← conclusion_behind (us ++ vs) th.prop
  Some (record { hyps = missing (us ++ vs) th.hyps; prop = implies (vs ++ us) c; base = th.base })

-- of a rule `ps ==> c` and propositions hs: `(hs ==> p1) ==> .. ==> (hs ==> pn) ==> hs ==> c`, under the hypotheses that equal none of hs and of these premises
abbrev pub raised : List Tm → List Tm → Theorem → Option Theorem
raised hs ps th = do
  c ← conclusion_behind ps th.prop
  if are_propositions hs then Some (record { hyps = missing (map (implies hs) ps ++ hs) th.hyps; prop = implies (map (implies hs) ps) (implies hs c); base = th.base }) else None

-- whether each has the form of a subgoal or can be brought into it: only a normal one can
abbrev pub can_be_shaped : List Tm → Bool
can_be_shaped [] = true
can_be_shaped (s ∷ ss) = (is_in_form s || is_normal s) && can_be_shaped ss

-- of `ss ==> c`: the same with each of the ss brought into the form of a subgoal, under the hypotheses that equal none of these
abbrev pub reshaped : List Tm → Theorem → Option Theorem
reshaped ss th = do
  c ← conclusion_behind ss th.prop
  if can_be_shaped ss then Some (record { hyps = missing (map shaped ss) th.hyps; prop = implies (map shaped ss) c; base = th.base }) else None

-- the same four for theorems without hypotheses, whose premises are those of the call, names included
-- of a theorem `us ==> a ==> vs ==> c` and a rule `bs ==> r`, where r equals a, the answer is `us ==> bs ==> vs ==> c` by the axioms of both
abbrev pub Cuts : List Tm → List Tm → Theorem → Theorem → Result Theorem InferenceError → Type 0
Cuts us bs th rule answer = (a r c : Tm) (vs : List Tm) (B C : List BaseEntry) → th ≡ rule_of (us ++ (a ∷ vs)) c B → rule ≡ rule_of bs r C → tm_eq a r ≡ true → Answers answer (Some (rule_of (us ++ (bs ++ vs)) c (joined_bases B C)))

-- of a theorem `us ==> vs ==> ws ==> c` the answer is `vs ==> us ==> ws ==> c` by the same axioms
abbrev pub Rotates : List Tm → List Tm → Theorem → Result Theorem InferenceError → Type 0
Rotates us vs th answer = (ws : List Tm) (c : Tm) (B : List BaseEntry) → th ≡ rule_of (us ++ (vs ++ ws)) c B → Answers answer (Some (rule_of (vs ++ (us ++ ws)) c B))

-- of a theorem `ps ==> c` and assumptions hs that are propositions, the answer has `hs ==> p` for each p of the ps, and then `hs ==> c`
abbrev pub Raises : List Tm → List Tm → Theorem → Result Theorem InferenceError → Type 0
Raises hs ps th answer = (c : Tm) (B : List BaseEntry) → Each IsProposition hs → th ≡ rule_of ps c B → Answers answer (Some (rule_of (map (implies hs) ps) (implies hs c) B))

-- of a theorem `ss ==> c` with normal ss the answer has each of the ss brought into the form of a subgoal, and the same c and axioms
abbrev pub Reshapes : List Tm → Theorem → Result Theorem InferenceError → Type 0
Reshapes ss th answer = (c : Tm) (B : List BaseEntry) → Each IsNormal ss → th ≡ rule_of ss c B → Answers answer (Some (rule_of (map shaped ss) c B))
