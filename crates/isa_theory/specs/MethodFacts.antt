-- The facts that a method names, in the order of the text.
use Rattle.std.specs.Prelude.{ℕ, List, [], ◌∷◌, ◌++◌}
use Rattle.isa_outer.specs.Methods.{Method, Node, At}
use Rattle.isa_outer.specs.Methods as method
use Rattle.isa_outer.specs.declared.method.Modifier.{Modifier}
use Rattle.isa_outer.specs.declared.method.Modifier.TheVariants as modifiers

abbrev pub modifier_facts : Modifier → List (List ℕ)
modifier_facts (modifiers.SimpAdd fs) = fs
modifier_facts (modifiers.SimpDel fs) = fs
modifier_facts (modifiers.SimpOnly fs) = fs
modifier_facts (modifiers.Cong fs) = fs
modifier_facts (modifiers.Split fs) = fs
modifier_facts (modifiers.Intro fs) = fs
modifier_facts (modifiers.SafeIntro fs) = fs
modifier_facts (modifiers.Elim fs) = fs
modifier_facts (modifiers.SafeElim fs) = fs
modifier_facts (modifiers.Dest fs) = fs
modifier_facts (modifiers.SafeDest fs) = fs
modifier_facts (modifiers.RuleDel fs) = fs
modifier_facts (modifiers.Iff fs) = fs

abbrev pub modifiers_facts : List Modifier → List (List ℕ)
modifiers_facts [] = []
modifiers_facts (m ∷ ms) = modifier_facts m ++ modifiers_facts ms

unfoldable mutual
  pub method_facts : Method → List (List ℕ)
  method_facts (At line node) = node_facts node

  pub node_facts : Node → List (List ℕ)
  node_facts (method.Match fs) = fs
  node_facts (method.Rule fs) = fs
  node_facts (method.Erule fs) = fs
  node_facts (method.Drule fs) = fs
  node_facts (method.Frule fs) = fs
  node_facts method.Assumption = []
  node_facts (method.Simp mode ms) = modifiers_facts ms
  node_facts (method.Split fs) = fs
  node_facts (method.Subst assumptions number f) = f ∷ []
  node_facts (method.Hypsubst ms) = modifiers_facts ms
  node_facts (method.SafeStep ms) = modifiers_facts ms
  node_facts (method.ClarifyStep ms) = modifiers_facts ms
  node_facts (method.InstStep ms) = modifiers_facts ms
  node_facts (method.Step ms) = modifiers_facts ms
  node_facts (method.SlowStep ms) = modifiers_facts ms
  node_facts (method.Clarify ms) = modifiers_facts ms
  node_facts (method.Safe ms) = modifiers_facts ms
  node_facts (method.Fast ms) = modifiers_facts ms
  node_facts (method.Slow ms) = modifiers_facts ms
  node_facts (method.Best ms) = modifiers_facts ms
  node_facts (method.Blast ms) = modifiers_facts ms
  node_facts (method.Iprover ms) = modifiers_facts ms
  node_facts (method.Auto ms) = modifiers_facts ms
  node_facts (method.Then m n) = method_facts m ++ method_facts n
  node_facts (method.OrElse m n) = method_facts m ++ method_facts n
  node_facts (method.Try m) = method_facts m
  node_facts (method.Plus m) = method_facts m
