-- What the functions that take a command answer, as what may come of it.
use Rattle.std.proofs.Common.{◌≡◌, ℕ, List, Bool, true, false, Option, Some, None, Ok, Err, refl, sym, ap, subst, ◌∙◌}
use Rattle.std.specs.Prelude.{◌≢◌, is_some, option_map, Vec}
use Rattle.std.specs.declared.alloc.Global.{Global}
use Rattle.std.specs.declared.result.Result.{Result}
use Rattle.isa_outer.specs.declared.command.Command.{Command}
use Rattle.isa_outer.specs.declared.refusal.Kind.{Kind}
use Rattle.isa_outer.specs.declared.refusal.Kind.TheVariants as kind
use Rattle.isa_outer.specs.declared.refusal.Refused.{Refused}
use Rattle.isa_theory.specs.Contexts.{ContextSeen}
use Rattle.isa_theory.specs.Applying.{Applied, Applies, line_of}
use Rattle.isa_theory.specs.declared.lemma.Lemma.{Lemma}
use Rattle.isaprove.specs.declared.session.OpenLemma.{OpenLemma}
use Rattle.isaprove.specs.declared.session.Session.{Session}
use Rattle.isaprove.specs.declared.failure.Rejection.{Rejection}
use Rattle.isaprove.specs.declared.failure.Rejection.TheVariants as rejection
use Rattle.isaprove.specs.Shown.{shown_text}
use Rattle.isaprove.specs.Steps.{Next, Made, refused, quiet, declared, Declares, Outside, proving, ComesIn, Comes}
use Rattle.isaprove.specs.Taken.{HasCause, told, within, Proves, ComesQuiet, Shows, ComesOut}

-- ---- commands in a proof
told_ok : (wanted : Result Next Rejection) (s : Session) (text : Option (List ℕ)) → told wanted ≡ Ok (s, text) → Shows s text (λ r. wanted ≡ r)
told_ok (Ok n) s text e =
    let both : (n.session, option_map shown_text n.shows) ≡ (s, text) = cc (e) in
    record { next = n; comes = refl; session = ap (λ (p : Session × Option (List ℕ)). p.0) both; text_is = ap (λ (p : Session × Option (List ℕ)). p.1) both }
told_ok (Err r) s text e = absurd (cc (e))

told_err : (wanted : Result Next Rejection) (r : Rejection) → told wanted ≡ Err r → wanted ≡ Err r
told_err (Ok n) r e = absurd (cc (e))
told_err (Err x) r e = cc (e)

shows_in : (s new : Session) (o : Option OpenLemma) (k : Command) (text : Option (List ℕ)) → is_some o ≡ true → told (within (line_of k) o (λ l. proving s l k)) ≡ Ok (new, text) → Shows new text (ComesIn s o k)
shows_in s new None k text h e = absurd (cc (h))
shows_in s new (Some l) k text h e = told_ok (proving s l k) new text e

refuses_in : (s : Session) (o : Option OpenLemma) (k : Command) (r : Rejection) → is_some o ≡ true → told (within (line_of k) o (λ l. proving s l k)) ≡ Err r → ComesIn s o k (Err r)
refuses_in s None k r h e = absurd (cc (h))
refuses_in s (Some l) k r h e = told_err (proving s l k) r e

pub proves_comes : (s new : Session) (k : Command) (r : Result (Option (Vec ℕ Global)) Rejection) → is_some s.lemma ≡ true → Proves r s new (within (line_of k) s.lemma (λ l. proving s l k)) → ComesOut r s new (Comes s k)
proves_comes s new k (Ok text) h p = shows_in s new s.lemma k (option_map (λ (t : Vec ℕ Global). t.items) text) h p
proves_comes s new k (Err r) h p = λ c. ((p c).0, refuses_in s s.lemma k r h (p c).1)

-- ---- commands outside of proofs
outside_in : (s : Session) (o : Option OpenLemma) (k : Command) (r : Result Next Rejection) → is_some o ≡ false → Outside s k r → ComesIn s o k r
outside_in s None k r h d = d
outside_in s (Some l) k r h d = absurd (cc (h))

pub quiet_comes : (s new : Session) (k : Command) → is_some s.lemma ≡ false → ComesQuiet (Ok tt) s new (Outside s k) → ComesOut (Ok None) s new (Comes s k)
quiet_comes s new k h d = record { next = record { session = new; shows = None }; comes = outside_in s s.lemma k (quiet new) h d; session = refl; text_is = refl }

pub refused_comes : (s new : Session) (k : Command) (r : Rejection) → is_some s.lemma ≡ false → ComesQuiet (Err r) s new (Outside s k) → HasCause r → (new ≡ s) × Comes s k (Err r)
refused_comes s new k r h d c = ((d c).0, outside_in s s.lemma k (Err r) h (d c).1)

-- ---- commands that the context takes
pub applies_declares : (s new : Session) (k : Command) (c : ContextSeen) → Applied s.context k (Ok c) → new ≡ record s { context = c } → Declares s k (quiet new)
applies_declares s new k c a e = record { of = Ok c; told = a; is = ap quiet (sym e) }

pub refuses_declares : (s : Session) (k : Command) (r : Refused) → r.line ≡ line_of k → Applied s.context k (Err r.kind) → Declares s k (Err (rejection.Refused r))
refuses_declares s k r e a =
    record { of = Err r.kind; told = a; is = ap (λ (n : ℕ). let x : Result Next Rejection = refused n r.kind in x) (sym e) }
