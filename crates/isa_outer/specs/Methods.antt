-- Methods, as plain data.
-- Source: the methods of the Isabelle/Isar Reference Manual, chapters "Proof methods" and "Generic tools and packages"; `match` and the lines are this project's own.
use Rattle.std.specs.Prelude.{ℕ, ◌+◌, max, Bool, List, Option}
use Rattle.isa_outer.specs.declared.method.SimpMode.{SimpMode}
use Rattle.isa_outer.specs.declared.method.Modifier.{Modifier}

mutual
  -- a method with the line of its command
  pub data Method : Type 0 where
    At : (line : ℕ) (node : Node) → Method

  -- one level of a method
  pub data Node : Type 0 where
    Match : (facts : List (List ℕ)) → Node
    Rule : (facts : List (List ℕ)) → Node
    Erule : (facts : List (List ℕ)) → Node
    Drule : (facts : List (List ℕ)) → Node
    Frule : (facts : List (List ℕ)) → Node
    Assumption : Node
    Simp : (mode : Option SimpMode) (modifiers : List Modifier) → Node
    Split : (facts : List (List ℕ)) → Node
    Subst : (assumptions : Bool) (number : Option ℕ) (fact : List ℕ) → Node
    Hypsubst : (modifiers : List Modifier) → Node
    SafeStep : (modifiers : List Modifier) → Node
    ClarifyStep : (modifiers : List Modifier) → Node
    InstStep : (modifiers : List Modifier) → Node
    Step : (modifiers : List Modifier) → Node
    SlowStep : (modifiers : List Modifier) → Node
    Clarify : (modifiers : List Modifier) → Node
    Safe : (modifiers : List Modifier) → Node
    Fast : (modifiers : List Modifier) → Node
    Slow : (modifiers : List Modifier) → Node
    Best : (modifiers : List Modifier) → Node
    Blast : (modifiers : List Modifier) → Node
    Iprover : (modifiers : List Modifier) → Node
    Auto : (modifiers : List Modifier) → Node
    Then : (first : Method) (second : Method) → Node
    OrElse : (first : Method) (second : Method) → Node
    Try : (method : Method) → Node
    Plus : (method : Method) → Node

-- how deep a method is nested, a number that falls from a method to its parts
abbrev mutual
  pub method_depth : Method → ℕ
  method_depth (At line node) = node_depth node + 1

  pub node_depth : Node → ℕ
  node_depth (Match facts) = 1
  node_depth (Rule facts) = 1
  node_depth (Erule facts) = 1
  node_depth (Drule facts) = 1
  node_depth (Frule facts) = 1
  node_depth Assumption = 1
  node_depth (Simp mode modifiers) = 1
  node_depth (Split facts) = 1
  node_depth (Subst assumptions number fact) = 1
  node_depth (Hypsubst modifiers) = 1
  node_depth (SafeStep modifiers) = 1
  node_depth (ClarifyStep modifiers) = 1
  node_depth (InstStep modifiers) = 1
  node_depth (Step modifiers) = 1
  node_depth (SlowStep modifiers) = 1
  node_depth (Clarify modifiers) = 1
  node_depth (Safe modifiers) = 1
  node_depth (Fast modifiers) = 1
  node_depth (Slow modifiers) = 1
  node_depth (Best modifiers) = 1
  node_depth (Blast modifiers) = 1
  node_depth (Iprover modifiers) = 1
  node_depth (Auto modifiers) = 1
  node_depth (Then first second) = max (method_depth first) (method_depth second) + 1
  node_depth (OrElse first second) = max (method_depth first) (method_depth second) + 1
  node_depth (Try method) = method_depth method + 1
  node_depth (Plus method) = method_depth method + 1
