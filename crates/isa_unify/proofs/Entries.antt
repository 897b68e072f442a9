-- Entries for different unknowns, put into a map one after another.
use Rattle.std.proofs.Common.{◌≡◌, ℕ, ◌+◌, ◌<◌, List, [], ◌∷◌, ◌++◌, Bool, true, false, cond, ◌&&◌, ◌||◌, drop, length, get_or, refl, sym, ap, subst, ◌∙◌, append_assoc, drop-cons}
use Rattle.std.proofs.Math.Numerals.{suc-eq-add-one}
use Rattle.isa_terms.specs.Entries.{set_first, passes, Once}
use Rattle.isa_terms.specs.Instance.{set_type, set_term, same_type_unknown, same_unknown}
use Rattle.isa_terms.specs.declared.inst.TypeEntry.{TypeEntry}
use Rattle.isa_terms.specs.declared.inst.TermEntry.{TermEntry}
use Rattle.isa_unify.proofs.Once.{name_turned, number_turned, typ_turned}

type_turned : (a b : TypeEntry) → same_type_unknown a b ≡ same_type_unknown b a
type_turned a b = λ i. name_turned a.name b.name i && number_turned a.number b.number i

term_turned : (a b : TermEntry) → same_unknown a b ≡ same_unknown b a
term_turned a b = λ i. name_turned a.name b.name i && (number_turned a.number b.number i && typ_turned a.typ b.typ i)

passes_later : {A : Type 0} (p : A → Bool) (acc : List A) (e : A) (rest : List A) → passes p (acc ++ e ∷ rest) ≡ false → p e ≡ false
passes_later p [] e rest h = go (p e) h
  where
    go : (c : Bool) → (c || passes p rest) ≡ false → c ≡ false
    go true k = absurd (cc)
    go false k = refl
passes_later p (d ∷ acc) e rest h = go (p d) h (passes_later p acc e rest)
  where
    go : (c : Bool) → (c || passes p (acc ++ e ∷ rest)) ≡ false → (passes p (acc ++ e ∷ rest) ≡ false → p e ≡ false) → p e ≡ false
    go true k ih = absurd (cc)
    go false k ih = ih k

-- an entry for another unknown is put behind
set_behind : {A : Type 0} (same : A → A → Bool) → ((a b : A) → same a b ≡ same b a) → (acc : List A) (e : A) (rest : List A) → Once same (acc ++ e ∷ rest) → set_first (same e) e acc ≡ acc ++ e ∷ []
set_behind same turned [] e rest o = refl
set_behind same turned (d ∷ acc) e rest o = go (same e d) (turned e d ∙ passes_later (same d) acc e rest o.0) (set_behind same turned acc e rest o.1)
  where
    go : (c : Bool) → c ≡ false → set_first (same e) e acc ≡ acc ++ e ∷ [] → cond c (e ∷ acc) (d ∷ set_first (same e) e acc) ≡ d ∷ (acc ++ e ∷ [])
    go true h ih = absurd (cc)
    go false h ih = ap (λ es. d ∷ es) ih

set_next : {A : Type 0} (same : A → A → Bool) → ((a b : A) → same a b ≡ same b a) → (all acc : List A) (i : ℕ) (e : A) → i < length all → get_or all i e ≡ e → Once same all → acc ++ drop i all ≡ all → set_first (same e) e acc ++ drop (i + 1) all ≡ all
set_next same turned all acc i e lt at o h =
    let split : drop i all ≡ e ∷ drop (i + 1) all = drop-cons all i e lt ∙ (λ j. at j ∷ drop (suc-eq-add-one i j) all) in
    let whole : acc ++ (e ∷ drop (i + 1) all) ≡ all = ap (λ es. acc ++ es) (sym split) ∙ h in
    ap (λ es. es ++ drop (i + 1) all) (set_behind same turned acc e (drop (i + 1) all) (subst (Once same) (sym whole) o)) ∙ append_assoc acc (e ∷ []) (drop (i + 1) all) ∙ whole

pub next_type : (all acc : List TypeEntry) (i : ℕ) (e : TypeEntry) → i < length all → get_or all i e ≡ e → Once same_type_unknown all → acc ++ drop i all ≡ all → set_type e acc ++ drop (i + 1) all ≡ all
next_type all acc i e lt at o h = set_next same_type_unknown type_turned all acc i e lt at o h

pub next_term : (all acc : List TermEntry) (i : ℕ) (e : TermEntry) → i < length all → get_or all i e ≡ e → Once same_unknown all → acc ++ drop i all ≡ all → set_term e acc ++ drop (i + 1) all ≡ all
next_term all acc i e lt at o h = set_next same_unknown term_turned all acc i e lt at o h
