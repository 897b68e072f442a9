-- What one level of a method is.
use Rattle.std.specs.Prelude.{ℕ}
use Rattle.isa_outer.specs.Methods as method
use Rattle.isa_outer.specs.Methods.{Method, Node, At}
use Rattle.isa_outer.specs.declared.method.MethodNode.{MethodNode}
use Rattle.isa_outer.specs.declared.method.MethodNode.TheVariants as code

abbrev pub node_of : MethodNode → Node
node_of (code.Match facts) = method.Match facts
node_of (code.Rule facts) = method.Rule facts
node_of (code.Erule facts) = method.Erule facts
node_of (code.Drule facts) = method.Drule facts
node_of (code.Frule facts) = method.Frule facts
node_of code.Assumption = method.Assumption
node_of (code.Simp mode modifiers) = method.Simp mode modifiers
node_of (code.Split facts) = method.Split facts
node_of (code.Subst assumptions number fact) = method.Subst assumptions number fact
node_of (code.Hypsubst modifiers) = method.Hypsubst modifiers
node_of (code.SafeStep modifiers) = method.SafeStep modifiers
node_of (code.ClarifyStep modifiers) = method.ClarifyStep modifiers
node_of (code.InstStep modifiers) = method.InstStep modifiers
node_of (code.Step modifiers) = method.Step modifiers
node_of (code.SlowStep modifiers) = method.SlowStep modifiers
node_of (code.Clarify modifiers) = method.Clarify modifiers
node_of (code.Safe modifiers) = method.Safe modifiers
node_of (code.Fast modifiers) = method.Fast modifiers
node_of (code.Slow modifiers) = method.Slow modifiers
node_of (code.Best modifiers) = method.Best modifiers
node_of (code.Blast modifiers) = method.Blast modifiers
node_of (code.Iprover modifiers) = method.Iprover modifiers
node_of (code.Auto modifiers) = method.Auto modifiers
node_of (code.Then first second) = method.Then first second
node_of (code.OrElse first second) = method.OrElse first second
node_of (code.Try inner) = method.Try inner
node_of (code.Plus inner) = method.Plus inner

abbrev pub line_of_method : Method → ℕ
line_of_method (At line node) = line
