-- Steps of naming.
use Rattle.std.proofs.Common.{◌≡◌, ◌≢◌, ℕ, zero, suc, ◌<◌, List, [], ◌∷◌, ◌++◌, length, Bool, true, false, ◌||◌, refl, sym, ap, ◌∙◌, subst, append_assoc}
use Rattle.std.proofs.lemmas.List.{append-nil}
use Rattle.isa_terms.specs.Types.{Ty}
use Rattle.isa_terms.specs.Terms.{Tm}
use Rattle.isa_terms.specs.Equal.{name_eq}
use Rattle.isa_terms.specs.Generalize.{is_named}
use Rattle.isa_terms.specs.Instance.{inst_tm}
use Rattle.isa_terms.specs.Unknowns.{type_unknowns_of}
use Rattle.isa_terms.specs.declared.inst.TypeEntry.{TypeEntry}
use Rattle.isa_typing.specs.Marks.{retyped, named, numbered, thawed}
use Rattle.isa_typing.specs.NewNames.{variable_name, IsFirstFree, AreFirstFree}
use Rattle.isa_typing.specs.Naming.{entries_for, IsNamed}

first_free_last : (taken ns : List (List ℕ)) (x : List ℕ) → AreFirstFree taken ns → IsFirstFree (taken ++ ns) x → AreFirstFree taken (ns ++ x ∷ [])
first_free_last taken [] x f h = (subst (λ l. IsFirstFree l x) (append-nil taken) h, tt)
first_free_last taken (n ∷ ns) x f h = (f.0, first_free_last (taken ++ n ∷ []) ns x f.1 (subst (λ l. IsFirstFree l x) (sym (append_assoc taken (n ∷ []) ns)) h))

-- one more name, which is the first free one
pub one_more_name : (taken all ns : List (List ℕ)) (x : List ℕ) (number : ℕ) → AreFirstFree taken ns → all ≡ taken ++ ns → x ≡ variable_name number → is_named all x ≡ false → ((k : ℕ) → k < number → is_named all (variable_name k) ≡ true) → AreFirstFree taken (ns ++ x ∷ [])
one_more_name taken all ns x number f e n free first =
    let h : IsFirstFree all x = record { number = number; name = n; is_free = free; is_first = first } in
    first_free_last taken ns x f (subst (λ l. IsFirstFree l x) e h)

named_before : (ns ms : List (List ℕ)) (a : List ℕ) → is_named ns a ≡ true → is_named (ns ++ ms) a ≡ true
named_before [] ms a h = absurd (cc)
named_before (n ∷ ns) ms a h = at (λ w. named_before ns ms a w) (name_eq a n) h where
  at : (is_named ns a ≡ true → is_named (ns ++ ms) a ≡ true) → (v : Bool) → (v || is_named ns a) ≡ true → (v || is_named (ns ++ ms) a) ≡ true
  at ih true w = refl
  at ih false w = ih w

-- what was passed is taken still
pub still_passed : (all : List (List ℕ)) (x : List ℕ) (number : ℕ) → ((k : ℕ) → k < number → is_named all (variable_name k) ≡ true) → (k : ℕ) → k < number → is_named (all ++ x ∷ []) (variable_name k) ≡ true
still_passed all x number h k lt = named_before all (x ∷ []) (variable_name k) (h k lt)

-- a byte that counts
pub named_past : (b : ℕ) (rest : List ℕ) → b ≢ 0 → named (b ∷ rest) ≡ named rest
named_past zero rest h = absurd (h refl)
named_past (suc b) rest h = refl

pub numbered_past : (b : ℕ) (rest : List ℕ) → b ≢ 0 → numbered (b ∷ rest) ≡ suc (numbered rest)
numbered_past zero rest h = absurd (h refl)
numbered_past (suc b) rest h = refl
