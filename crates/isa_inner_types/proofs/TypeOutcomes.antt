-- Tokens have one outcome at most; and inductions over what comes of steps.
use Rattle.std.proofs.Common.{◌≡◌, ℕ, List, refl, sym, subst}
use Rattle.isa_terms.specs.Types.{Ty}
use Rattle.isa_inner_types.specs.declared.token.TextToken.{TextToken}
use Rattle.isa_inner_types.specs.TypeReading.{Outcome, Read, Refused, Place, Step, Ends, Goes, Inside, and_then, step, Runs, ends, goes, inside}
use Rattle.isa_inner_types.specs.TypeGrammar.{OneTypeOutcome}

abbrev pub Inverted : Step → Outcome → Type 0
Inverted (Ends o) u = u ≡ o
Inverted (Goes p ts) u = Runs (step p ts) u
Inverted (Inside p ts after) u = (part : Outcome) × Runs (step p ts) part × Runs (after part) u

pub invert : (s : Step) (u : Outcome) → Runs s u → Inverted s u
invert _ _ (ends o) = refl
invert _ _ (goes p ts o r) = r
invert _ _ (inside p ts after part o a r) = (part, a, r)

one : (s : Step) (o : Outcome) → Runs s o → (u : Outcome) → Runs s u → o ≡ u
one _ _ (ends o) u r = sym (invert (Ends o) u r)
one _ _ (goes p ts o r) u s = one _ _ r u (invert (Goes p ts) u s)
one _ _ (inside p ts after part o a r) u s =
    let i = invert (Inside p ts after) u s in
    one _ _ r u (subst (λ (x : Outcome). Runs (after x) u) (sym (one _ _ a i.0 i.1)) i.2)

pub one_outcome : OneTypeOutcome
one_outcome s o u a b = one s o a u b

abbrev pub Meaning : Type 1
Meaning = Outcome → Place → List TextToken → Type 0

-- what a step says of an outcome, where M says what outcomes mean at places
abbrev pub MeansStep : Meaning → Step → Outcome → Type 0
MeansStep M (Ends o) u = u ≡ o
MeansStep M (Goes p ts) u = M u p ts
MeansStep M (Inside p ts after) u = (part : Outcome) × M part p ts × MeansStep M (after part) u

-- a part that was read, and how the step goes on
pub record Part (M : Meaning) (p : Place) (ts : List TextToken) (go : Ty → ℕ → List TextToken → Step) (u : Outcome) : Type 0 where
  pub T : Ty
  pub h : ℕ
  pub later : List TextToken
  pub reads : M (Read T h later) p ts
  pub goes_on_so : MeansStep M (go T h later) u

pub part_of : (M : Meaning) → (p : Place) (ts : List TextToken) (go : Ty → ℕ → List TextToken → Step) (T : Ty) (h : ℕ) (rest : List TextToken) → MeansStep M (Inside p ts (and_then go)) (Read T h rest) → Part M p ts go (Read T h rest)
part_of M p ts go T h rest g = choice g.0 g.1 g.2
  where
    choice : (part : Outcome) → M part p ts → MeansStep M (and_then go part) (Read T h rest) → Part M p ts go (Read T h rest)
    choice (Refused w at) a b = absurd cc
    choice (Read U k later) a b = record { T = U; h = k; later = later; reads = a; goes_on_so = b }

-- what holds step by step holds of all that comes
pub steps_mean : (M : Meaning) → ((p : Place) (ts : List TextToken) (o : Outcome) → MeansStep M (step p ts) o → M o p ts) → (s : Step) (o : Outcome) → Runs s o → MeansStep M s o
steps_mean M k _ _ (ends o) = refl
steps_mean M k _ _ (goes p ts o r) = k p ts o (steps_mean M k (step p ts) o r)
steps_mean M k _ _ (inside p ts after part o a r) = (part, k p ts part (steps_mean M k (step p ts) part a), steps_mean M k (after part) o r)
