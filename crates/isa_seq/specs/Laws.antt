-- Laws of traces, of the combinators and of machines.
use Rattle.std.specs.Prelude.{◌≡◌, ℕ, ◌≤◌, length, Some, List, [], ◌∷◌, ◌++◌}
use Rattle.isa_seq.specs.declared.event.Event.{Event}
use Rattle.isa_seq.specs.declared.tac.Tac.{Tac}
use Rattle.isa_seq.specs.declared.tac.TacNode.{TacNode}
use Rattle.isa_seq.specs.declared.tac.TacNode.TheVariants.{Then}
use Rattle.isa_seq.specs.Traces.{Trace, IsTrace, nothing, event, append, then_each, or_else, first, repeat, deepen, upward, downward, Answers}
use Rattle.isa_seq.specs.Meaning.{Primitives, is_solved}
use Rattle.isa_seq.specs.Searches.{collect, best_first}
use Rattle.isa_seq.specs.Tactics.{trace}

-- ys goes on where xs ends
abbrev pub IsBeginning : {X : Type 0} → List X → List X → Type 0
IsBeginning {X} xs ys = (zs : List X) × (ys ≡ xs ++ zs)

-- Of the trace of each expression, what is seen with fewer ticks is the beginning of what is seen with more.
abbrev pub ShowsBeginnings : {S P : Type 0} → Primitives S P → Type 0
ShowsBeginnings {S} {P} m = (t : TacNode P) (s : S) (i n k : ℕ) → n ≤ k → IsBeginning (trace m t s i n) (trace m t s i k)

-- Of three expressions it doesn't matter which two are taken together first.
abbrev pub ThenIsAssociative : {S P : Type 0} → Primitives S P → Type 0
ThenIsAssociative {S} {P} m =
    (t u v tu uv : Tac P) → tu.node.value ≡ Then t u → uv.node.value ≡ Then u v → (s : S) (i : ℕ) → trace m (Then tu v) s i ≡ trace m (Then t uv) s i

-- what the combinators make of traces are traces
pub record GiveTraces (S : Type 0) : Type 0 where
  pub of_nothing : IsTrace {S = S} nothing
  pub of_event : (e : Event S) (x : Trace S) → IsTrace x → IsTrace (event e x)
  pub of_append : (x y : Trace S) → IsTrace x → IsTrace y → IsTrace (append x y)
  pub of_then_each : (x : Trace S) (f : S → Trace S) → IsTrace x → ((r : S) → IsTrace (f r)) → IsTrace (then_each x f)
  pub of_or_else : (x y : Trace S) → IsTrace x → IsTrace y → IsTrace (or_else x y)
  pub of_first : (x : Trace S) → IsTrace x → IsTrace (first x)
  pub of_repeat : (f : S → Trace S) (s : S) → ((r : S) → IsTrace (f r)) → IsTrace (repeat f s)
  pub of_upward : (f : S → ℕ → Trace S) (s : S) (i n : ℕ) → ((r : S) (k : ℕ) → IsTrace (f r k)) → IsTrace (upward f s i n)
  pub of_downward : (f : S → ℕ → Trace S) (n : ℕ) (s : S) → ((r : S) (k : ℕ) → IsTrace (f r k)) → IsTrace (downward f n s)
  pub of_collect : (x : Trace S) (g : List S → Trace S) → IsTrace x → ((rs : List S) → IsTrace (g rs)) → IsTrace (collect x g)

-- what expressions and searches give are traces
pub record AreTraces {S P : Type 0} (m : Primitives S P) : Type 0 where
  pub expressions : (t : TacNode P) (s : S) (i : ℕ) → IsTrace (trace m t s i)
  pub depth_first : (f : S → Trace S) (s : S) → ((r : S) → IsTrace (f r)) → IsTrace (deepen (is_solved m) f s)
  pub best_first : (f : S → Trace S) (list : List S) → ((r : S) → IsTrace (f r)) → IsTrace (best_first m f list)

-- These events are pulled from what is left of a machine, in this order, and then y is left.
abbrev pub Pulls : {S : Type 0} → Trace S → List (Event S) → Trace S → Type 0
Pulls x [] y = x ≡ y
Pulls {S} x (e ∷ es) z = (y : Trace S) × IsTrace y × Answers x (Some e) y × Pulls y es z

-- A machine that gives events, is stopped, and gives more when it is resumed gives what one that is pulled in one go gives, and the same is left.
abbrev pub ResumedGivesTheRest : Type 0 → Type 0
ResumedGivesTheRest S =
    (x y z w : Trace S) (es fs gs : List (Event S)) → Pulls x es y → Pulls y fs z → Pulls x gs w → length gs ≡ length (es ++ fs) → (gs ≡ es ++ fs) × (w ≡ z)
