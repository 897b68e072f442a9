-- Inferences that don't refuse.
use Rattle.std.specs.Prelude.{Result, Ok, Err}
use Rattle.isa_kernel.specs.Theorem.{Theorem}
use Rattle.isa_kernel.specs.declared.inference.InferenceError.{InferenceError}
use Rattle.isa_kernel.specs.declared.inference.InferenceError.TheVariants.{Shape, Memory}

-- the inference gave a theorem, or memory was wanting
abbrev pub IsGranted : Result Theorem InferenceError → Type 0
IsGranted (Ok th) = Unit {0}
IsGranted (Err Shape) = ⊥
IsGranted (Err Memory) = Unit {0}
