-- Lines one after another.
use Rattle.std.proofs.Common.{◌≡◌, ℕ, zero, suc, map, ◌+◌, ◌<◌, List, [], ◌∷◌, length, Bool, true, false, Result, Ok, Err, refl, sym, ap, ◌∙◌, subst, arith}
use Rattle.std.specs.Prelude.{nat_eq, codes, IsErrAnd, IfOk}
use Rattle.std.specs.List.{slice_split}
use Rattle.std.proofs.lemmas.Bool.{eqb-true, eqb-false}
use Rattle.std.proofs.lemmas.List.Splits.{length-slice_split}
use Rattle.isa_terms.specs.Equal.{name_eq}
use Rattle.isa_cert.specs.declared.certs.Accepted.{Accepted}
use Rattle.isa_cert.specs.declared.table.Table.{Table}
use Rattle.isa_cert.specs.declared.table.End.{End}
use Rattle.isa_cert.proofs.Proved.{accepted_are_proved}
use Rattle.isa_cert.specs.declared.fail.LineFail.{LineFail}
use Rattle.isa_cert.specs.declared.fail.LineFail.TheVariants as fails
use Rattle.isa_cert.specs.declared.checking.CertFail.{CertFail}
use Rattle.isa_cert.specs.declared.checking.CertFail.TheVariants as cert
use Rattle.isa_cert.specs.Checking.{Fault, Refusal, FormAt, NoEnd, Form, Typed, Step, at, at_line, read_line, taken_from, closed, checked, checked_lines, accepted_of, accepted, empty, AreProved}
use Rattle.isa_cert.specs.Answers.{BecomesWith}
use Rattle.isa_cert.specs.Answered.{Takes, refusal_at}

abbrev pub lines_of : List ℕ → List (List ℕ)
lines_of text = slice_split (λ b. nat_eq b 10) text

some_line : (text : List ℕ) → 0 < length (lines_of text)
some_line text = omega (arith, length-slice_split (λ b. nat_eq b 10) text)

more : (n : ℕ) (t : Table) (ended : Bool) (part : List ℕ) (parts : List (List ℕ)) → 0 < length parts → taken_from n t ended (part ∷ parts) ≡ at_line n (read_line t part) (λ r. taken_from (n + 1) r.0 r.1 parts)
more n t ended part [] h = absurd (omega arith)
more n t ended part (next ∷ parts) h = refl

-- a line, and those behind it
pub taken_step : (n : ℕ) (t : Table) (ended : Bool) (rest line behind : List ℕ) → lines_of rest ≡ line ∷ lines_of behind → taken_from n t ended (lines_of rest) ≡ at_line n (read_line t line) (λ r. taken_from (n + 1) r.0 r.1 (lines_of behind))
taken_step n t ended rest line behind e = ap (λ parts. taken_from n t ended parts) e ∙ more n t ended line (lines_of behind) (some_line behind)

pub line_taken : (whole : Result Table Refusal) (n m : ℕ) (t u : Table) (ended is_end : Bool) (rest line behind : List ℕ) → whole ≡ taken_from n t ended (lines_of rest) → lines_of rest ≡ line ∷ lines_of behind → read_line t line ≡ Ok (u, is_end) → m ≡ n + 1 → whole ≡ taken_from m u is_end (lines_of behind)
line_taken whole n m t u ended is_end rest line behind h e r k =
    h
    ∙ taken_step n t ended rest line behind e
    ∙ ap (λ (o : Result (Table × Bool) Fault). at_line n o (λ r. taken_from (n + 1) r.0 r.1 (lines_of behind))) r
    ∙ ap (λ i. taken_from i u is_end (lines_of behind)) (sym k)

refused : (whole : Result Table Refusal) (n : ℕ) (t : Table) (ended : Bool) (rest line behind : List ℕ) (fault : Fault) → whole ≡ taken_from n t ended (lines_of rest) → lines_of rest ≡ line ∷ lines_of behind → read_line t line ≡ Err fault → whole ≡ Err (at n fault)
refused whole n t ended rest line behind fault h e r =
    h
    ∙ taken_step n t ended rest line behind e
    ∙ ap (λ (o : Result (Table × Bool) Fault). at_line n o (λ r. taken_from (n + 1) r.0 r.1 (lines_of behind))) r

-- a line that is refused
pub line_refused : (fail : LineFail) (result : CertFail) (whole : Result Table Refusal) (n : ℕ) (t u : Table) (ended : Bool) (rest line behind : List ℕ) → whole ≡ taken_from n t ended (lines_of rest) → lines_of rest ≡ line ∷ lines_of behind → BecomesWith {A = Bool} (Err fail) u (read_line t line) → result ≡ refusal_at n fail → Takes (Err result) whole
line_refused fails.Form result whole n t u ended rest line behind h e r k = subst (λ (c : CertFail). Takes {A = Table} (Err c) whole) (sym k) (refused whole n t ended rest line behind Form h e r)
line_refused fails.Typed result whole n t u ended rest line behind h e r k = subst (λ (c : CertFail). Takes {A = Table} (Err c) whole) (sym k) (refused whole n t ended rest line behind Typed h e r)
line_refused fails.Step result whole n t u ended rest line behind h e r k = subst (λ (c : CertFail). Takes {A = Table} (Err c) whole) (sym k) (refused whole n t ended rest line behind Step h e r)
line_refused fails.Memory result whole n t u ended rest line behind h e r k = subst (λ (c : CertFail). Takes {A = Table} (Err c) whole) (sym k) tt

-- what stands behind the last line feed
pub last_part : (whole : Result Table Refusal) (n : ℕ) (t : Table) (ended : Bool) (rest : List ℕ) → whole ≡ taken_from n t ended (lines_of rest) → lines_of rest ≡ rest ∷ [] → whole ≡ closed n t ended rest
last_part whole n t ended rest h e = h ∙ ap (λ parts. taken_from n t ended parts) e

closed_behind : (n : ℕ) (t : Table) (ended : Bool) (rest : List ℕ) → 0 < length rest → closed n t ended rest ≡ Err (FormAt n)
closed_behind n t ended [] h = absurd (omega arith)
closed_behind n t ended (b ∷ bs) h = refl

pub ends_behind : (whole : Result Table Refusal) (n : ℕ) (t : Table) (ended : Bool) (rest : List ℕ) → whole ≡ taken_from n t ended (lines_of rest) → lines_of rest ≡ rest ∷ [] → 0 < length rest → whole ≡ Err (FormAt n)
ends_behind whole n t ended rest h e k = last_part whole n t ended rest h e ∙ closed_behind n t ended rest k

pub ends_here : (whole : Result Table Refusal) (n : ℕ) (t : Table) (ended : Bool) (rest : List ℕ) → whole ≡ taken_from n t ended (lines_of rest) → lines_of rest ≡ rest ∷ [] → rest ≡ [] → whole ≡ closed n t ended []
ends_here whole n t ended rest h e k = last_part whole n t ended rest h e ∙ ap (λ (r : List ℕ). closed n t ended r) k

-- ---- the header
header_more : (header : List ℕ) (parts : List (List ℕ)) → 0 < length parts → name_eq header (codes "isacert 1") ≡ true → checked_lines (header ∷ parts) ≡ accepted_of (taken_from 2 empty false parts)
header_more header [] h e = absurd (omega arith)
header_more header (part ∷ parts) h e = rw e refl

header_other : (header : List ℕ) (parts : List (List ℕ)) → name_eq header (codes "isacert 1") ≡ false → checked_lines (header ∷ parts) ≡ Err (FormAt 1)
header_other header [] e = refl
header_other header (part ∷ parts) e = rw e refl

-- a text that is not empty
nonempty : (text : List ℕ) → 0 < length text → checked text ≡ checked_lines (lines_of text)
nonempty [] h = absurd (omega arith)
nonempty (b ∷ bs) h = refl

pub behind_header : (text header lines : List ℕ) → 0 < length text → lines_of text ≡ header ∷ lines_of lines → name_eq header (codes "isacert 1") ≡ true → checked text ≡ accepted_of (taken_from 2 empty false (lines_of lines))
behind_header text header lines h e k = nonempty text h ∙ ap checked_lines e ∙ header_more header (lines_of lines) (some_line lines) k

pub other_header : (text header lines : List ℕ) → 0 < length text → lines_of text ≡ header ∷ lines_of lines → name_eq header (codes "isacert 1") ≡ false → checked text ≡ Err (FormAt 1)
other_header text header lines h e k = nonempty text h ∙ ap checked_lines e ∙ header_other header (lines_of lines) k

pub no_line : (text : List ℕ) → 0 < length text → lines_of text ≡ text ∷ [] → checked text ≡ Err (FormAt 1)
no_line text h e = nonempty text h ∙ ap checked_lines e

pub refusal_kept : (fail : CertFail) (text : List ℕ) (r : Result Table Refusal) → checked text ≡ accepted_of r → Takes {A = Table} (Err fail) r → Takes {A = List Accepted} (Err fail) (checked text)
refusal_kept (cert.Form n) text r h k = h ∙ ap accepted_of k
refusal_kept (cert.Typed n) text r h k = h ∙ ap accepted_of k
refusal_kept (cert.Step n) text r h k = h ∙ ap accepted_of k
refusal_kept cert.NoEnd text r h k = h ∙ ap accepted_of k
refusal_kept cert.Memory text r h k = tt

pub passed_on_cert : {A : Type 0} (r : Result A CertFail) (fail : CertFail) (whole : Result A Refusal) → IsErrAnd r (λ e. e ≡ fail) → Takes (Err fail) whole → Takes r whole
passed_on_cert {A} (Ok a) fail whole h k = absurd h
passed_on_cert {A} (Err e) fail whole h k = subst (λ (f : CertFail). Takes {A = A} (Err f) whole) (sym h) k

-- ---- the answer
pub told_empty : (n : ℕ) (b : Bool) → b ≡ nat_eq n 0 → b ≡ true → n ≡ 0
told_empty n b e h = eqb-true n 0 (sym e ∙ h)

above_zero : (n : ℕ) → (n ≡ 0 → ⊥) → 0 < n
above_zero zero h = absurd (h refl)
above_zero (suc n) h = omega arith

pub told_nonempty : (n : ℕ) (b : Bool) → b ≡ nat_eq n 0 → b ≡ false → 0 < n
told_nonempty n b e h = above_zero n (eqb-false n 0 (sym e ∙ h))

pub empty_text : (text : List ℕ) (list : List Accepted) → length text ≡ 0 → list ≡ [] → checked text ≡ Ok list
empty_text [] list h e = ap (λ (l : List Accepted). let r : Result (List Accepted) Refusal = Ok l in r) (sym e)
empty_text (b ∷ bs) list h e = absurd (omega arith)

pub behind_text : (text header lines : List ℕ) (r : Result (List Accepted) CertFail) → 0 < length text → lines_of text ≡ header ∷ lines_of lines → Takes r (checked_lines (header ∷ lines_of lines)) → Takes r (checked text)
behind_text text header lines r h e k = subst (λ (w : Result (List Accepted) Refusal). Takes r w) (sym (nonempty text h ∙ ap checked_lines e)) k

pub behind_other : (header lines : List ℕ) → name_eq header (codes "isacert 1") ≡ false → checked_lines (header ∷ lines_of lines) ≡ Err (FormAt 1)
behind_other header lines e = header_other header (lines_of lines) e

pub behind_refused : (fail : CertFail) (header lines : List ℕ) → name_eq header (codes "isacert 1") ≡ true → Takes {A = Table} (Err fail) (taken_from 2 empty false (lines_of lines)) → Takes {A = List Accepted} (Err fail) (checked_lines (header ∷ lines_of lines))
behind_refused (cert.Form n) header lines e k = header_more header (lines_of lines) (some_line lines) e ∙ ap accepted_of k
behind_refused (cert.Typed n) header lines e k = header_more header (lines_of lines) (some_line lines) e ∙ ap accepted_of k
behind_refused (cert.Step n) header lines e k = header_more header (lines_of lines) (some_line lines) e ∙ ap accepted_of k
behind_refused cert.NoEnd header lines e k = header_more header (lines_of lines) (some_line lines) e ∙ ap accepted_of k
behind_refused cert.Memory header lines e k = tt

pub behind_taken : (header lines : List ℕ) (t : Table) (ends : List End) (list : List Accepted) → name_eq header (codes "isacert 1") ≡ true → taken_from 2 empty false (lines_of lines) ≡ Ok t → ends ≡ t.ends → list ≡ map accepted ends → checked_lines (header ∷ lines_of lines) ≡ Ok list
behind_taken header lines t ends list e k n m =
    header_more header (lines_of lines) (some_line lines) e ∙ ap accepted_of k ∙ ap (λ (l : List Accepted). let r : Result (List Accepted) Refusal = Ok l in r) (ap (λ (es : List End). map accepted es) (sym n) ∙ sym m)

pub proved_of : (text : List ℕ) (r : Result (List Accepted) CertFail) → Takes r (checked text) → IfOk r (λ list. AreProved list)
proved_of text (Ok list) h = accepted_are_proved text list h
proved_of text (Err fail) h = tt
