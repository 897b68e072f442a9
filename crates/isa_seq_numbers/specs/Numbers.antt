-- What the primitives on numbers mean.
use Rattle.std.specs.Prelude.{ℕ, zero, suc, ◌+◌, ◌-◌, ◌^◌, ◌%◌, ◌==◌, ◌&&◌, min, nat_lt, nat_le, Bool, true, false, if◌then◌else◌}
use Rattle.isa_seq.specs.declared.event.Event.TheVariants.{Tick, Outside, Res}
use Rattle.isa_seq.specs.Traces.{Trace, nothing, event}
use Rattle.isa_seq.specs.Meaning.{Primitives, Meaning}
use Rattle.isa_seq_numbers.specs.declared.prims.Step.{Step}
use Rattle.isa_seq_numbers.specs.declared.prims.Step.TheVariants.{Solve, Climb, Stray}
use Rattle.isa_seq_numbers.specs.declared.run.Run.{Run}
use Rattle.isa_seq_numbers.specs.declared.run.Run.TheVariants.{Begun, Going}

-- so many results from k on, each ten more than the one before
abbrev pub ways : ℕ → ℕ → Trace ℕ
ways k zero = nothing
ways k (suc n) = event (Res k) (ways (min (k + 10) (2 ^ 64 - 1)) n)

abbrev pub step_trace : Step → ℕ → ℕ → Trace ℕ
step_trace (Solve n) s i = event Tick (if nat_lt 0 i && nat_le i (s % 10) then ways (s - 1) n else nothing)
step_trace (Climb top) s i = event Tick (if nat_lt s top then ways (min (s + 10) (2 ^ 64 - 1)) 1 else nothing)
step_trace Stray s i = event Tick (event Outside nothing)

-- all numbers and all steps are sound, and any numbers lead to any others
abbrev pub steps : Primitives ℕ Step
steps = record {
  trace = step_trace;
  subgoals = λ s. s % 10;
  same = λ a b. a == b;
  measure = λ s. s % 10;
  focus = λ s i. s - s % 10 + 1;
  unfocus = λ s inner i. min (inner + (s % 10 - 1)) (2 ^ 64 - 1);
  is_sound_state = λ s. Unit {0};
  is_sound_primitive = λ p. Unit {0};
  leads = λ ps a b. Unit {0};
}

abbrev pub going : ℕ → ℕ → Bool → Trace ℕ
going k n true = event Outside (ways k n)
going k n false = ways k n

abbrev pub rest_of_run : Run → Trace ℕ
rest_of_run (Begun k n strays) = event Tick (going k n strays)
rest_of_run (Going k n strays) = going k n strays

abbrev pub FitsAlways : Run → Type 0
FitsAlways run = Unit {0}

abbrev pub numbers : Meaning ℕ Step Run
numbers = record { primitives = steps; rest = rest_of_run; fits = FitsAlways }
