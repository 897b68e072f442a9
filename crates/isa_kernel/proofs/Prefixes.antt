-- What a loop over the first of two lists tells of the second, once nothing of the first is left.
use Rattle.std.proofs.Common.{◌≡◌, ℕ, nat_eq, List, [], ◌++◌, Bool, true, length, append-nil, sym, ap, ◌∙◌, arith}
use Rattle.std.proofs.lemmas.Bool.Decides.{nat_tests}
use Rattle.std.proofs.lemmas.List.{nil_from_length}
use Rattle.isa_kernel.specs.declared.axioms.NamedProp.{NamedProp}
use Rattle.isa_kernel.specs.declared.base.BaseEntry.{BaseEntry}
use Rattle.isa_kernel.specs.Distinct.{IsPrefix}

zero_is : (n : ℕ) → nat_eq n 0 ≡ true → n ≡ 0
zero_is n e = grind (arith, nat_tests)

-- a list that is told to be empty
pub empty_is : (xs : List NamedProp) (b : Bool) → b ≡ nat_eq (length xs) 0 → b ≡ true → xs ≡ []
empty_is xs b e t = nil_from_length xs (zero_is (length xs) (sym e ∙ t))

pub all_gone : (first second rest left : List NamedProp) → left ≡ [] → ((behind : List NamedProp) → rest ≡ left ++ behind → second ≡ first ++ behind) → rest ≡ [] → first ≡ second
all_gone first second rest left e h n = sym (h [] (n ∙ sym (ap (λ l. l ++ []) e)) ∙ append-nil first)

pub first_gone : (first second rest left : List BaseEntry) → left ≡ [] → ((behind : List BaseEntry) → rest ≡ left ++ behind → second ≡ first ++ behind) → IsPrefix first second
first_gone first second rest left e h = (rest, h rest (sym (ap (λ l. l ++ rest) e)))
