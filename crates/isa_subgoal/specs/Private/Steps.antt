-- The inferences behind the calls on theorems with premises: derived rules of the pure logic, each as the primitive inferences that make it.
-- Source: Paulson, "The foundation of a generic theorem prover", 1989; The Isabelle/Isar Implementation Manual, "Primitive logic", "Object-level rules".
-- The premises are named by the call, and premises are equal that differ only in the names of binders. Hypotheses that equal a premise named go.
use Rattle.std.specs.Prelude.{List, [], ◌∷◌, map, Option, Some}
use Rattle.isa_terms.specs.Terms.{Tm}
use Rattle.isa_kernel.specs.Forms.{◌>>=◌}
use Rattle.isa_kernel.specs.Theorem.{Theorem}
use Rattle.isa_kernel.specs.Inferences.{assumed, implies_introduced, implies_eliminated}
use Rattle.isa_subgoal.specs.Premises.{implies}

-- what is behind the premises, under these as hypotheses
unfoldable pub eliminated : List Tm → Theorem → Option Theorem
eliminated [] th = Some th
eliminated (p ∷ ps) th = do
  a ← assumed p
  next ← implies_eliminated th a
  eliminated ps next

-- the premises before the theorem, and out of its hypotheses
unfoldable pub introduced : List Tm → Theorem → Option Theorem
introduced [] th = Some th
introduced (p ∷ ps) th = do
  inner ← introduced ps th
  implies_introduced p inner

-- cut of a rule into a premise, as Isabelle's `RS` and `COMP` do once both are unified: the conclusion of the rule meets the premise behind us, and the rule's premises bs come in its place
-- none where th has not the premises us and one more, where the rule has not the premises bs, or where its conclusion is not that premise
unfoldable pub cut_by : List Tm → List Tm → Theorem → Theorem → Option Theorem
cut_by us bs th rule = do
  front ← eliminated us th
  met ← eliminated bs rule
  middle ← implies_eliminated front met
  inner ← introduced bs middle
  introduced us inner

-- rotation of premises, as by Isabelle's `rotate_prems` and `permute_prems`: of the leading blocks us and vs the second one comes in front
-- none where th has not the premises us and then vs
unfoldable pub rotated_by : List Tm → List Tm → Theorem → Option Theorem
rotated_by us vs th = do
  a ← eliminated us th
  b ← eliminated vs a
  c ← introduced us b
  introduced vs c

-- what is behind the premises, each of which is met under the assumptions
unfoldable pub met_under : List Tm → List Tm → Theorem → Option Theorem
met_under hs [] th = Some th
met_under hs (p ∷ ps) th = do
  a ← assumed (implies hs p)
  b ← eliminated hs a
  next ← implies_eliminated th b
  met_under hs ps next

-- lifting of a rule over assumptions, as by Isabelle's `lift_rule` at a subgoal without parameters: each of the premises ps, and what is behind them, comes under the assumptions hs
-- none where th has not the premises ps, or where an assumption is no proposition
unfoldable pub raised_by : List Tm → List Tm → Theorem → Option Theorem
raised_by hs ps th = do
  core ← met_under hs ps th
  inner ← introduced hs core
  introduced (map (implies hs) ps) inner

-- a rule for destruction turned into one for elimination: what is behind the premises ps meets the premise of `case`, which is `B ==> R`, and R comes under the premises `all`
-- none where th has not the premises ps, or where what is behind them is not the premise of `case`
unfoldable pub eliminated_into : List Tm → Tm → List Tm → Theorem → Option Theorem
eliminated_into ps case all th = do
  met ← eliminated ps th
  a ← assumed case
  goal ← implies_eliminated a met
  introduced all goal
