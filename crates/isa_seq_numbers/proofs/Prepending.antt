-- Events in front of a trace.
use Rattle.std.proofs.Common.{◌≡◌, ℕ, ◌≤◌, length, List, [], ◌∷◌, ◌++◌, refl, sym, ◌∙◌, ap, arith}
use Rattle.isa_seq.specs.declared.event.Event.{Event}
use Rattle.isa_seq.specs.Traces.{Trace, nothing, event}
use Rattle.isa_seq.specs.Asking.{prepend}
use Rattle.isa_seq_numbers.specs.Pulled.{BeginsWith}

prepend_more : (es : List (Event ℕ)) (e : Event ℕ) (x : Trace ℕ) → prepend (es ++ e ∷ []) x ≡ prepend es (event e x)
prepend_more [] e x = refl
prepend_more (d ∷ es) e x = ap (event d) (prepend_more es e x)

-- one event more was pulled
pub pulled_more : (x y z : Trace ℕ) (es : List (Event ℕ)) (e : Event ℕ) → x ≡ prepend es y → y ≡ event e z → x ≡ prepend (es ++ e ∷ []) z
pulled_more x y z es e h k = h ∙ ap (prepend es) k ∙ sym (prepend_more es e z)

-- nothing is left
pub begins_all : (x y : Trace ℕ) (limit : ℕ) (es : List (Event ℕ)) → x ≡ prepend es y → y ≡ nothing → length es ≤ limit → BeginsWith x limit es
begins_all x y limit es h k l = record { left = y; begins = h; within = l; whole = λ _. k }

-- as many were pulled as may be
pub begins_some : (x y : Trace ℕ) (limit : ℕ) (es : List (Event ℕ)) → x ≡ prepend es y → length es ≡ limit → BeginsWith x limit es
begins_some x y limit es h e = record { left = y; begins = h; within = omega (arith, e); whole = λ l. absurd (omega (arith, e, l)) }
