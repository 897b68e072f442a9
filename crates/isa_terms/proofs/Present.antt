-- A list of values that are all there.
use Rattle.std.proofs.Common.{◌≡◌, ℕ, zero, suc, List, [], ◌∷◌, length, Option, Some, None, refl, sym, ap, ◌∙◌, arith}
use Rattle.std.specs.Prelude.{map}
use Rattle.std.specs.List.{slice_get}
use Rattle.isa_terms.specs.Terms.{Tm}
use Rattle.isa_terms.specs.Spines.{present}

present_map : (ts : List Tm) → present (map Some ts) ≡ ts
present_map [] = refl
present_map (t ∷ ts) = ap (λ us. t ∷ us) (present_map ts)

length_map : (ts : List Tm) → length (map Some ts) ≡ length ts
length_map [] = refl
length_map (t ∷ ts) = ap suc (length_map ts)

get_map : (ts : List Tm) (k : ℕ) (t : Tm) → slice_get (map Some ts) k ≡ Some (Some t) → slice_get ts k ≡ Some t
get_map [] k t e = cc
get_map (u ∷ us) zero t e = cc
get_map (u ∷ us) (suc k) t e = get_map us k t e

get_map_none : (ts : List Tm) (k : ℕ) → slice_get (map Some ts) k ≡ Some None → ⊥
get_map_none [] k e = cc
get_map_none (u ∷ us) zero e = cc
get_map_none (u ∷ us) (suc k) e = get_map_none us k e

pub all_present : (os : List (Option Tm)) (ts : List Tm) → os ≡ map Some ts → os ≡ map Some (present os)
all_present os ts e = e ∙ ap (map Some) (sym (present_map ts) ∙ ap present (sym e))

pub present_are : (os : List (Option Tm)) (ts : List Tm) → os ≡ map Some ts → present os ≡ ts
present_are os ts e = ap present e ∙ present_map ts

pub present_length : (os : List (Option Tm)) → os ≡ map Some (present os) → length os ≡ length (present os)
present_length os e = ap length e ∙ length_map (present os)

pub present_get : (os : List (Option Tm)) (k : ℕ) (t : Tm) → os ≡ map Some (present os) → slice_get os k ≡ Some (Some t) → slice_get (present os) k ≡ Some t
present_get os k t e h = get_map (present os) k t (ap (λ l. slice_get l k) (sym e) ∙ h)

pub present_none : (os : List (Option Tm)) (k : ℕ) → os ≡ map Some (present os) → slice_get os k ≡ Some None → ⊥
present_none os k e h = get_map_none (present os) k (ap (λ l. slice_get l k) (sym e) ∙ h)

pub none_present : (ts : List Tm) → length ts ≡ 0 → ts ≡ []
none_present [] e = refl
none_present (t ∷ ts) e = absurd (omega arith)
