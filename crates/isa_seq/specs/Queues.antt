-- A list of states with their measures, as a map by measure and age keeps it.
use Rattle.std.specs.Prelude.{◌≡◌, ℕ, zero, suc, ◌==◌, nat_lt, if◌then◌else◌, List, [], ◌∷◌, ◌++◌, map}
use Rattle.isa_seq.specs.declared.event.Event.TheVariants.{Tick, Res}
use Rattle.isa_seq.specs.Traces.{Trace, event}
use Rattle.isa_seq.specs.Meaning.{Primitives, is_solved}
use Rattle.isa_seq.specs.Searches.{least, has_same, collect}

-- an entry put in front of the first younger one; a key is a measure and an age
abbrev pub put_by_age : {S : Type 0} → (ℕ × ℕ) × S → List ((ℕ × ℕ) × S) → List ((ℕ × ℕ) × S)
put_by_age e [] = e ∷ []
put_by_age e (d ∷ entries) = if nat_lt e.0.1 d.0.1 then e ∷ d ∷ entries else d ∷ put_by_age e entries

abbrev pub by_age : {S : Type 0} → List ((ℕ × ℕ) × S) → List ((ℕ × ℕ) × S)
by_age [] = []
by_age (e ∷ entries) = put_by_age e (by_age entries)

-- the states with their measures, the oldest first
abbrev pub waiting : {S : Type 0} → List ((ℕ × ℕ) × S) → List (ℕ × S)
waiting entries = map (λ e. (e.0.0, e.1)) (by_age entries)

-- the states of this measure
abbrev pub of_measure : {S : Type 0} → ℕ → List (ℕ × S) → List S
of_measure n [] = []
of_measure n (e ∷ list) = if e.0 == n then e.1 ∷ of_measure n list else of_measure n list

-- States added with their measures, but none that is the same as one that is there, of which only those of its measure are asked.
abbrev pub enqueued : {S P : Type 0} → Primitives S P → List (ℕ × S) → List S → List (ℕ × S)
enqueued m list [] = list
enqueued m list (r ∷ rs) = enqueued m (if has_same m.same r (of_measure (m.measure r) list) then list else list ++ (m.measure r, r) ∷ []) rs

-- the search over states with their measures
unfoldable pub best_of : {S P : Type 0} → Primitives S P → (S → Trace S) → List (ℕ × S) → Trace S
best_of m f list zero = []
best_of m f [] (suc n) = []
best_of m f (e ∷ list) (suc n) =
    let d = least (λ e. e.0) e list in
    Tick ∷ (if is_solved m d.0.1 then event (Res d.0.1) (λ k. best_of m f d.1 n) else collect (f d.0.1) (λ rs k. best_of m f (enqueued m d.1 rs) n)) n

-- the least of the states that waited was taken out
pub record Takes {S : Type 0} (old : List ((ℕ × ℕ) × S)) (s : S) (new : List ((ℕ × ℕ) × S)) : Type 0 where
  pub first : ℕ × S
  pub others : List (ℕ × S)
  pub measure : ℕ
  pub waited : waiting old ≡ first ∷ others
  pub taken : least (λ e. e.0) first others ≡ ((measure, s), waiting new)
