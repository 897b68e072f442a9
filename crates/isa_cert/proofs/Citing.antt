-- Ends by their numbers.
use Rattle.std.proofs.Common.{◌≡◌, ℕ, zero, suc, ◌<◌, ◌≤◌, List, [], ◌∷◌, length, Option, Some, None, Result, Ok, Err, refl, sym, ap, subst, ◌∙◌, arith}
use Rattle.std.specs.Prelude.{slice_get}
use Rattle.isa_kernel.specs.Theorem.{Theorem}
use Rattle.isa_cert.specs.declared.table.End.{End}
use Rattle.isa_cert.specs.declared.table.Table.{Table}
use Rattle.isa_cert.specs.declared.line.Rule.TheVariants.{Cite}
use Rattle.isa_cert.specs.declared.fail.LineFail.{LineFail}
use Rattle.isa_cert.specs.Answers.{Makes}
use Rattle.isa_cert.specs.Lines.{any_number}
use Rattle.isa_cert.specs.Checking.{Fault, Form, or_form, inferred}

get_past : (es : List End) (n : ℕ) → length es ≤ n → slice_get es n ≡ None
get_past [] n h = refl
get_past (e ∷ es) zero h = absurd (omega arith)
get_past (e ∷ es) (suc n) h = get_past es n (omega arith)

abbrev end_of : Table → ℕ → Result Theorem Fault
end_of t n = or_form (slice_get t.ends n) (λ e. Ok e.theorem)

missing : (t : Table) (o : Option ℕ) → ((n : ℕ) → o ≡ Some n → length t.ends ≤ n) → or_form o (end_of t) ≡ Err Form
missing t None h = refl
missing t (Some n) h = ap (λ (o : Option End). or_form {B = Theorem} o (λ e. Ok e.theorem)) (get_past t.ends n (h n refl))

-- a number past the ends, of a word that the digits are
pub cites_none : (t : Table) (digits word : List ℕ) → word ≡ digits → ((n : ℕ) → any_number word ≡ Some n → length t.ends ≤ n) → inferred t (Cite digits) ≡ Err Form
cites_none t digits word w h = missing t (any_number digits) (λ n e. h n (ap any_number w ∙ e))

-- a number of an end
pub cites_made : (t : Table) (digits word : List ℕ) (n : ℕ) (e : End) (r : Result Theorem LineFail) → word ≡ digits → any_number word ≡ Some n → slice_get t.ends n ≡ Some e → Makes r (Ok e.theorem) → Makes r (inferred t (Cite digits))
cites_made t digits word n e r w k g m =
    let is : inferred t (Cite digits) ≡ Ok e.theorem =
    ap (λ (o : Option ℕ). or_form o (end_of t)) (sym (ap any_number w) ∙ k) ∙ ap (λ (o : Option End). or_form {B = Theorem} o (λ e. Ok e.theorem)) g in
    subst (λ (v : Result Theorem Fault). Makes r v) (sym is) m
