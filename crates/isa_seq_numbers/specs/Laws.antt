-- The laws of the primitives on numbers.
use Rattle.std.proofs.Common.{◌≡◌, ℕ, zero, suc, ◌+◌, ◌-◌, ◌^◌, ◌%◌, ◌==◌, ◌&&◌, min, nat_lt, nat_le, Bool, true, false, if◌then◌else◌, refl, ap, arith}
use Rattle.std.proofs.lemmas.Bool.Decides.{nat_tests}
use Rattle.isa_seq.specs.declared.event.Event.TheVariants.{Tick, Outside, Res}
use Rattle.isa_seq.specs.Traces.{Trace, IsTrace, nothing, event}
use Rattle.isa_seq.specs.Meaning.{AreLawful, IsMeaning}
use Rattle.isa_seq.proofs.Laws.{nothing-steps, event-is_trace, choice-steps}
use Rattle.isa_seq_numbers.specs.declared.prims.Step.{Step}
use Rattle.isa_seq_numbers.specs.declared.prims.Step.TheVariants.{Solve, Climb, Stray}
use Rattle.isa_seq_numbers.specs.declared.run.Run.{Run}
use Rattle.isa_seq_numbers.specs.declared.run.Run.TheVariants.{Begun, Going}
use Rattle.isa_seq_numbers.specs.Numbers.{ways, step_trace, steps, numbers, going, rest_of_run}

pub ways-is_trace : (k n : ℕ) → IsTrace (ways k n)
ways-is_trace k zero = nothing-steps
ways-is_trace k (suc n) = event-is_trace (Res k) (ways (min (k + 10) (2 ^ 64 - 1)) n) (ways-is_trace (min (k + 10) (2 ^ 64 - 1)) n)

pub step-is_trace : (p : Step) (s i : ℕ) → IsTrace (step_trace p s i)
step-is_trace (Solve n) s i =
    event-is_trace Tick (if nat_lt 0 i && nat_le i (s % 10) then ways (s - 1) n else nothing)
    (λ k. choice-steps (nat_lt 0 i && nat_le i (s % 10)) (ways (s - 1) n) nothing k (ways-is_trace (s - 1) n k) (nothing-steps k))
step-is_trace (Climb top) s i =
    event-is_trace Tick (if nat_lt s top then ways (min (s + 10) (2 ^ 64 - 1)) 1 else nothing)
    (λ k. choice-steps (nat_lt s top) (ways (min (s + 10) (2 ^ 64 - 1)) 1) nothing k (ways-is_trace (min (s + 10) (2 ^ 64 - 1)) 1 k) (nothing-steps k))
step-is_trace Stray s i = event-is_trace Tick (event Outside nothing) (event-is_trace Outside nothing nothing-steps)

step-begins : (p : Step) (s i : ℕ) → (x : Trace ℕ) × (step_trace p s i ≡ event Tick x)
step-begins (Solve n) s i = ((if nat_lt 0 i && nat_le i (s % 10) then ways (s - 1) n else nothing), refl)
step-begins (Climb top) s i = ((if nat_lt s top then ways (min (s + 10) (2 ^ 64 - 1)) 1 else nothing), refl)
step-begins Stray s i = (event Outside nothing, refl)

same_rest : (a b : ℕ) → (a == b) ≡ true → a % 10 ≡ b % 10
same_rest a b h = let e : a ≡ b = grind (arith, nat_tests) in ap (λ z. z % 10) e

steps-are_lawful : AreLawful steps
steps-are_lawful = record {
  traces = step-is_trace;
  begins = step-begins;
  same_measure = same_rest;
  focus_sound = λ s i h k l. tt;
  stays = λ ps s all h. tt;
  goes_on = λ ps a b c all h k l f g. tt;
  with_more = λ ps qs more a b all h k f. tt;
  by_primitive = λ ps p s i n r all h m k. (tt, tt);
  in_focus = λ ps s i inner all h k l m f. (tt, tt);
}

going-is_trace : (k n : ℕ) (strays : Bool) → IsTrace (going k n strays)
going-is_trace k n true = event-is_trace Outside (ways k n) (ways-is_trace k n)
going-is_trace k n false = ways-is_trace k n

pub rest_of_run-is_trace : (run : Run) → IsTrace (rest_of_run run)
rest_of_run-is_trace (Begun k n strays) = event-is_trace Tick (going k n strays) (going-is_trace k n strays)
rest_of_run-is_trace (Going k n strays) = going-is_trace k n strays

pub numbers-is_meaning : IsMeaning numbers
numbers-is_meaning = record { primitives = steps-are_lawful; rests = λ run fits. rest_of_run-is_trace run }
