-- A method's parts are nested less deep than the method.
use Rattle.std.specs.Prelude.{ℕ, ◌≤◌, max}
use Rattle.std.proofs.Common.{arith}
use Rattle.isa_outer.specs.Methods.{At, method_depth}
use Rattle.isa_outer.specs.Private.Layers.{node_of}
use Rattle.isa_outer.specs.declared.method.MethodNode.{MethodNode}
use Rattle.isa_outer.specs.declared.method.MethodNode.TheVariants as code
use Rattle.isa_outer.specs.declared.method.Method.TheDeep.{deep-MethodNode}

pub method_falls : (line : ℕ) (n : MethodNode) → max (deep-MethodNode n) 0 ≤ method_depth (At line (node_of n))
method_falls line (code.Match facts) = omega arith
method_falls line (code.Rule facts) = omega arith
method_falls line (code.Erule facts) = omega arith
method_falls line (code.Drule facts) = omega arith
method_falls line (code.Frule facts) = omega arith
method_falls line code.Assumption = omega arith
method_falls line (code.Simp mode modifiers) = omega arith
method_falls line (code.Split facts) = omega arith
method_falls line (code.Subst assumptions number fact) = omega arith
method_falls line (code.Hypsubst modifiers) = omega arith
method_falls line (code.SafeStep modifiers) = omega arith
method_falls line (code.ClarifyStep modifiers) = omega arith
method_falls line (code.InstStep modifiers) = omega arith
method_falls line (code.Step modifiers) = omega arith
method_falls line (code.SlowStep modifiers) = omega arith
method_falls line (code.Clarify modifiers) = omega arith
method_falls line (code.Safe modifiers) = omega arith
method_falls line (code.Fast modifiers) = omega arith
method_falls line (code.Slow modifiers) = omega arith
method_falls line (code.Best modifiers) = omega arith
method_falls line (code.Blast modifiers) = omega arith
method_falls line (code.Iprover modifiers) = omega arith
method_falls line (code.Auto modifiers) = omega arith
method_falls line (code.Then first second) = omega arith
method_falls line (code.OrElse first second) = omega arith
method_falls line (code.Try inner) = omega arith
method_falls line (code.Plus inner) = omega arith
