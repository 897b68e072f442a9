-- The search that takes the best state first, as Isabelle's BEST_FIRST; the ages and the ticks are this project's own.
use Rattle.std.specs.Prelude.{ℕ, zero, suc, ◌||◌, nat_lt, Bool, false, if◌then◌else◌, List, [], ◌∷◌, ◌++◌}
use Rattle.isa_seq.specs.declared.event.Event.{Event}
use Rattle.isa_seq.specs.declared.event.Event.TheVariants.{Tick, Outside, Res}
use Rattle.isa_seq.specs.Traces.{Trace, cut, event}
use Rattle.isa_seq.specs.Meaning.{Primitives, is_solved}

-- of a list that begins with s, the first of those that are least by their number, and the others in order
abbrev pub least : {S : Type 0} → (S → ℕ) → S → List S → S × List S
least number s [] = (s, [])
least number s (t ∷ ts) = if nat_lt (number (least number t ts).0) (number s) then ((least number t ts).0, s ∷ (least number t ts).1) else (s, t ∷ ts)

-- whether r is the same as one of the list
abbrev pub has_same : {S : Type 0} → (S → S → Bool) → S → List S → Bool
has_same same r [] = false
has_same same r (s ∷ list) = same r s || has_same same r list

-- the list with these states added in order, but none that is the same as one that is there
abbrev pub added : {S : Type 0} → (S → S → Bool) → List S → List S → List S
added same list [] = list
added same list (r ∷ rs) = added same (if has_same same r list then list else list ++ r ∷ []) rs

-- the results among events
abbrev pub results_of : {S : Type 0} → List (Event S) → List S
results_of [] = []
results_of (Tick ∷ xs) = results_of xs
results_of (Outside ∷ xs) = results_of xs
results_of (Res r ∷ xs) = r ∷ results_of xs

-- the events that aren't results
abbrev pub without_results : {S : Type 0} → List (Event S) → List (Event S)
without_results [] = []
without_results (Tick ∷ xs) = Tick ∷ without_results xs
without_results (Outside ∷ xs) = Outside ∷ without_results xs
without_results (Res r ∷ xs) = without_results xs

-- a trace without its results, and then what g gives for all of them
unfoldable pub collect : {S : Type 0} → Trace S → (List S → Trace S) → Trace S
collect x g n = cut n (without_results (x n) ++ g (results_of (x n)) n)

-- The states that wait stand in a list, the oldest first. The least by measure is taken, of equals the oldest, and then comes Tick.
-- If it is solved, it is a result; otherwise the results of f on it are added. So it goes on until no state waits.
unfoldable pub best_first : {S P : Type 0} → Primitives S P → (S → Trace S) → List S → Trace S
best_first m f list zero = []
best_first m f [] (suc n) = []
best_first m f (s ∷ list) (suc n) =
    let d = least m.measure s list in
    Tick ∷ (if is_solved m d.0 then event (Res d.0) (λ k. best_first m f d.1 n) else collect (f d.0) (λ rs k. best_first m f (added m.same d.1 rs) n)) n
