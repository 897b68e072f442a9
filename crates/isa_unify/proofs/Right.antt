-- The answers of unification are right.
use Rattle.std.proofs.Common.{ℕ, List, Result, Ok, Err}
use Rattle.std.specs.declared.alloc.AllocError.{AllocError}
use Rattle.isa_terms.specs.Types.{Ty}
use Rattle.isa_unify.specs.declared.equation.Equation.{Equation}
use Rattle.isa_unify.specs.declared.unification.Unified.{Unified}
use Rattle.isa_unify.specs.declared.unification.Unified.TheVariants.{Yes, No, Outside}
use Rattle.isa_unify.specs.Unification.{unify}
use Rattle.isa_unify.specs.UnifyLaw.{AreGiven}
use Rattle.isa_unify.specs.PatternLaw.{ArePatterns}
use Rattle.isa_unify.specs.Calls.{Answers, IsRight, IsInside}
use Rattle.isa_unify.proofs.General.{no_is_right}
use Rattle.isa_unify.proofs.YesAnswers.{yes_is_right}
use Rattle.isa_unify.proofs.PatternSteps.{patterns_are_inside}

pub is_right : (r : Result Unified AllocError) (old new : ℕ) (es : List Equation) → Answers r old new (unify es old) → (typ : List ℕ → ℕ → Ty) → AreGiven typ old es → IsRight r es
is_right (Ok (Yes s)) old new es h typ g = yes_is_right typ old es g s.types s.terms new h
is_right (Ok No) old new es h typ g = no_is_right typ old es g h.0
is_right (Ok Outside) old new es h typ g = tt
is_right (Err memory) old new es h typ g = tt

pub is_inside : (r : Result Unified AllocError) (old new : ℕ) (es : List Equation) → Answers r old new (unify es old) → ArePatterns es → IsInside r old es
is_inside (Ok (Yes s)) old new es h p = tt
is_inside (Ok No) old new es h p = tt
is_inside (Ok Outside) old new es h p = patterns_are_inside es old p h.0
is_inside (Err memory) old new es h p = tt
