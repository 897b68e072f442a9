-- The events that are pulled from a trace.
use Rattle.std.specs.Prelude.{◌≡◌, ℕ, ◌≤◌, ◌<◌, length, List}
use Rattle.isa_seq.specs.declared.event.Event.{Event}
use Rattle.isa_seq.specs.Traces.{Trace, nothing}
use Rattle.isa_seq.specs.Asking.{prepend}

-- The trace begins with these events, which are so many at most; where they are fewer, it ends with them.
pub record BeginsWith (x : Trace ℕ) (limit : ℕ) (es : List (Event ℕ)) : Type 0 where
  pub left : Trace ℕ
  pub begins : x ≡ prepend es left
  pub within : length es ≤ limit
  pub whole : length es < limit → left ≡ nothing
