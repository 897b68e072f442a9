-- An entry of a new name goes last.
use Rattle.std.proofs.Common.{◌≡◌, ℕ, Bool, true, false, cond, List, [], ◌∷◌, ◌++◌, Some, None, refl, ap}
use Rattle.std.specs.Map.{lookup}
use Rattle.indexmap.specs.IndexMap.{insert_entry}
use Rattle.isa_terms.specs.Equal.{name_eq}

step : {V : Type 0} (k : List ℕ) (v : V) (e : List ℕ × V) (es : List (List ℕ × V)) (b : Bool) → cond b (Some e.1) (lookup (name_eq k) es) ≡ None → (lookup (name_eq k) es ≡ None → insert_entry name_eq es k v ≡ es ++ (k, v) ∷ []) → cond b ((e.0, v) ∷ es) (e ∷ insert_entry name_eq es k v) ≡ e ∷ (es ++ (k, v) ∷ [])
step k v e es true h rest = cc
step k v e es false h rest = ap (λ r. e ∷ r) (rest h)

pub put_new : {V : Type 0} (k : List ℕ) (v : V) (es : List (List ℕ × V)) → lookup (name_eq k) es ≡ None → insert_entry name_eq es k v ≡ es ++ (k, v) ∷ []
put_new k v [] h = refl
put_new k v (e ∷ es) h = step k v e es (name_eq k e.0) h (put_new k v es)
