-- How the answer of the checker agrees with what a text proves. Want of memory alone is free.
use Rattle.std.specs.Prelude.{◌≡◌, ℕ, List, Result, Ok, Err}
use Rattle.isa_cert.specs.declared.certs.Accepted.{Accepted}
use Rattle.isa_cert.specs.declared.checking.CertFail.{CertFail}
use Rattle.isa_cert.specs.declared.checking.CertFail.TheVariants as cert
use Rattle.isa_cert.specs.declared.fail.LineFail.{LineFail}
use Rattle.isa_cert.specs.declared.fail.LineFail.TheVariants as fail
use Rattle.isa_cert.specs.Checking.{Refusal, FormAt, TypedAt, StepAt, NoEnd}

-- the value is the defined one, and the refusal is
abbrev pub Takes : {A : Type 0} → Result A CertFail → Result A Refusal → Type 0
Takes (Ok a) wanted = wanted ≡ Ok a
Takes (Err (cert.Form n)) wanted = wanted ≡ Err (FormAt n)
Takes (Err (cert.Typed n)) wanted = wanted ≡ Err (TypedAt n)
Takes (Err (cert.Step n)) wanted = wanted ≡ Err (StepAt n)
Takes (Err cert.NoEnd) wanted = wanted ≡ Err NoEnd
Takes (Err cert.Memory) wanted = Unit {0}

-- the answer is the list of what the text proves exactly where it is accepted, and else the first refusal
abbrev pub Answered : Result (List Accepted) CertFail → Result (List Accepted) Refusal → Type 0
Answered result wanted = Takes result wanted

-- the refusal of line n
abbrev pub refusal_at : ℕ → LineFail → CertFail
refusal_at n fail.Form = cert.Form n
refusal_at n fail.Typed = cert.Typed n
refusal_at n fail.Step = cert.Step n
refusal_at n fail.Memory = cert.Memory
