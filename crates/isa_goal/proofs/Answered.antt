-- What is answered where a theorem is wanted.
use Rattle.std.proofs.Common.{◌≡◌, Option, Some, None, subst}
use Rattle.std.specs.Prelude.{Result, Ok, Err}
use Rattle.isa_kernel.specs.Theorem.{Theorem}
use Rattle.isa_kernel.specs.Inferences.{Answers}
use Rattle.isa_kernel.specs.declared.inference.InferenceError.{InferenceError}
use Rattle.isa_kernel.specs.declared.inference.InferenceError.TheVariants.{Shape, Memory}
use Rattle.isa_goal.specs.Goals.{Goals, Gives}

-- the theorem that comes is the one that is wanted
pub answered : (answer : Result Theorem InferenceError) (x y : Theorem) → Answers answer (Some y) → answer ≡ Ok x → x ≡ y
answered answer x y a o = let k : ◌≡◌ {A = Option Theorem} (Some y) (Some x) = subst (λ (r : Result Theorem InferenceError). Answers r (Some y)) o a in cc

-- no refusal comes, so an error is want of memory
refused_here : (e : InferenceError) (y : Theorem) (w : Option Goals) → Answers (Err e) (Some y) → Gives (Err e) w
refused_here Shape y w a = let k : ◌≡◌ {A = Option Theorem} (Some y) None = a in cc
refused_here Memory y w a = tt

pub refused : (answer : Result Theorem InferenceError) (e : InferenceError) (y : Theorem) (w : Option Goals) → Answers answer (Some y) → answer ≡ Err e → Gives (Err e) w
refused answer e y w a o = refused_here e y w (subst (λ (r : Result Theorem InferenceError). Answers r (Some y)) o a)
