-- Steps of the reader.
use Rattle.std.proofs.Common.{◌≡◌, ◌≢◌, ◌↔◌, ℕ, ◌≤◌, ◌<◌, ◌+◌, Bool, true, false, cond, ◌&&◌, not, nat_le, nat_lt, nat_eq, max, List, [], ◌∷◌, ◌++◌, Option, Some, None, Result, Ok, Err, length, refl, sym, ap, subst, ◌∙◌, arith, IsTrue}
use Rattle.std.specs.Result.{MatchResult, IsErrAnd, IfOk}
use Rattle.isa_terms.specs.Types.{Ty}
use Rattle.isa_inner.specs.declared.token.InfixSign.{InfixSign}
use Rattle.isa_inner.specs.declared.token.InfixSign.TheVariants as infix_sign
use Rattle.isa_inner.specs.declared.token.PrefixSign.{PrefixSign}
use Rattle.isa_inner.specs.declared.token.BinderSign.{BinderSign}
use Rattle.isa_inner.specs.declared.token.Mark.{Mark}
use Rattle.isa_inner.specs.declared.token.Mark.TheVariants as mark
use Rattle.isa_inner.specs.declared.token.Wanted.{Wanted}
use Rattle.isa_inner.specs.declared.token.Wanted.TheVariants as wanted
use Rattle.isa_inner.specs.Priorities.{infix_own, infix_left, infix_right, infix_operands, prefix_own, binder_own, binder_body, operators, mark_code}
use Rattle.isa_inner_types.specs.declared.token.TermToken.{TermToken}
use Rattle.isa_inner_types.specs.declared.token.TermToken.TheVariants as term
use Rattle.isa_inner_types.specs.declared.token.TextToken.{TextToken}
use Rattle.isa_inner_types.specs.declared.token.TextToken.TheVariants as token
use Rattle.isa_inner_text.specs.declared.refusal.Refusal.{Refusal}
use Rattle.isa_inner_text.specs.declared.refusal.Refusal.TheVariants as refusal
use Rattle.isa_inner_text.specs.declared.refusal.Expected.TheVariants as expected
use Rattle.isa_inner_types.specs.TypeReading as types
use Rattle.isa_inner_types.specs.TypeAnswers as type_answers
use Rattle.isa_inner_types.specs.declared.reading.Fail.{Fail}
use Rattle.isa_inner_types.specs.declared.reading.Fail.TheVariants as fail
use Rattle.isa_raw.specs.RawTerms.{Raw, RawName, RawUnknown}
use Rattle.isa_inner_text.specs.Signatures.{SignatureSeen}
use Rattle.isa_inner_text.specs.declared.part.Part.{Part}
use Rattle.isa_inner_text.specs.declared.part.Variable.{Variable}
use Rattle.isa_inner_text.specs.Parts.{closed, parenthesised, applied, annotated, joined, prefixed, bound, bracketed}
use Rattle.isa_inner_text.specs.Reading.{Outcome, Read, Refused, Place, Operand, Behind, Bindings, Premises, Step, Ends, Goes, Inside, InType, and_then, why, refuse, operand_expected, mark_at, is_this, starts, behind_first, expect, expect_name, expect_arrow, complete, with_judgment, limit, begins, front, goes_on, unless_deep, further, is_met, is_variable, variable_of, variable, body, behind_variable, is_first, bindings, conclusion, behind_premise, premises, step, Runs, ends, goes, inside, typed, untyped, type_why, at_end, text}
use Rattle.isa_inner_text.specs.Private.Answers.{IsThe, FailsBy, Leads, IsNoInfix, IsTypeCause}

-- an exit by `?` answers the failure that it met
pub exit : {T : Type 0} (r : Result T Refusal) (e : Refusal) (P : T → Type 0) (Q : Refusal → Type 0) → IsErrAnd r (λ x. x ≡ e) → Q e → MatchResult r P Q
exit (Ok x) e P Q h q = absurd h
exit (Err f) e P Q h q = subst Q (sym h) q

pub refusal_of : (sig : SignatureSeen) (cause wanted : Refusal) (s : Step) → IsThe wanted cause → s ≡ Ends (Refused wanted) → FailsBy sig cause s
refusal_of sig cause wanted s h e n =
    subst (λ (t : Step). Runs sig t (Refused cause)) (sym e) (subst (λ (k : Refusal). Runs sig (Ends (Refused k)) (Refused cause)) (sym (h n)) (ends (Refused cause)))

-- what fails later fails the whole
pub fails_later : (sig : SignatureSeen) (cause : Refusal) (s later : Step) → Leads sig s later → FailsBy sig cause later → FailsBy sig cause s
fails_later sig cause s later h q n = h (Refused cause) (q n)

pub fails_equal : (sig : SignatureSeen) (cause : Refusal) (s t : Step) → s ≡ t → FailsBy sig cause t → FailsBy sig cause s
fails_equal sig cause s t e q = subst (λ (x : Step). FailsBy sig cause x) (sym e) q

pub fails_at : (sig : SignatureSeen) (cause : Refusal) (s : Step) → s ≡ Ends (Refused cause) → FailsBy sig cause s
fails_at sig cause s e n = subst (λ (t : Step). Runs sig t (Refused cause)) (sym e) (ends (Refused cause))

pub refuses : {A : Type 0} (sig : SignatureSeen) (cause : Refusal) (X : (A → Step) → Step) (go : A → Step) → (cause ≢ refusal.Memory → (g : A → Step) → X g ≡ Ends (Refused cause)) → FailsBy sig cause (X go)
refuses sig cause X go q n = subst (λ (t : Step). Runs sig t (Refused cause)) (sym (q n go)) (ends (Refused cause))

pub refuses_two : {A B : Type 0} (sig : SignatureSeen) (cause : Refusal) (X : (A → B → Step) → Step) (go : A → B → Step) → (cause ≢ refusal.Memory → (g : A → B → Step) → X g ≡ Ends (Refused cause)) → FailsBy sig cause (X go)
refuses_two sig cause X go q n = subst (λ (t : Step). Runs sig t (Refused cause)) (sym (q n go)) (ends (Refused cause))

-- a refused part is the refusal of the whole
pub fails_inside : (sig : SignatureSeen) (cause : Refusal) (s : Step) (p : Place) (ts : List TextToken) (go : Part → List TextToken → Step) → s ≡ Inside p ts (and_then go) → FailsBy sig cause (step sig p ts) → FailsBy sig cause s
fails_inside sig cause s p ts go e q n =
    subst (λ (t : Step). Runs sig t (Refused cause)) (sym e) (inside p ts (and_then go) (Refused cause) (Refused cause) (q n) (ends (Refused cause)))

-- behind a part that is read the step goes on
pub leads_inside : (sig : SignatureSeen) (s : Step) (p : Place) (ts : List TextToken) (go : Part → List TextToken → Step) (part : Part) (later : List TextToken) → s ≡ Inside p ts (and_then go) → Runs sig (step sig p ts) (Read part later) → Leads sig s (go part later)
leads_inside sig s p ts go part later e q o r = subst (λ (x : Step). Runs sig x o) (sym e) (inside p ts (and_then go) (Read part later) o q r)

pub leads_equal : (sig : SignatureSeen) (s later : Step) → s ≡ later → Leads sig s later
leads_equal sig s later e o r = subst (λ (x : Step). Runs sig x o) (sym e) r

pub leads_both : (sig : SignatureSeen) (s t u : Step) → Leads sig s t → Leads sig t u → Leads sig s u
leads_both sig s t u a b o r = a o (b o r)

pub leads_goes : (sig : SignatureSeen) (p : Place) (ts : List TextToken) (s : Step) → step sig p ts ≡ s → Leads sig (Goes p ts) s
leads_goes sig p ts s e o r = goes p ts o (subst (λ (x : Step). Runs sig x o) (sym e) r)

-- what is complete goes on
pub leads_complete : (sig : SignatureSeen) (w v : Wanted) (p q : Part) (go : Part → Step) → w ≡ v → ((g : Part → Step) → complete sig w p g ≡ g q) → Leads sig (complete sig v p go) (go q)
leads_complete sig w v p q go e h = leads_equal sig (complete sig v p go) (go q) (ap (λ (x : Wanted). complete sig x p go) (sym e) ∙ h go)

pub fails_complete : (sig : SignatureSeen) (cause : Refusal) (w v : Wanted) (p : Part) (go : Part → Step) → w ≡ v → (cause ≢ refusal.Memory → (g : Part → Step) → complete sig w p g ≡ Ends (Refused cause)) → FailsBy sig cause (complete sig v p go)
fails_complete sig cause w v p go e h n = subst (λ (t : Step). Runs sig t (Refused cause)) (sym (ap (λ (x : Wanted). complete sig x p go) (sym e) ∙ h n go)) (ends (Refused cause))

-- an operand by another name and priority that are the same
pub operand_same : (sig : SignatureSeen) (d m n : ℕ) (w v : Wanted) (ts : List TextToken) (o : Outcome) → w ≡ v → m ≡ n → Runs sig (step sig (Operand d w m) ts) o → Runs sig (step sig (Operand d v n) ts) o
operand_same sig d m n w v ts o e f r = subst (λ (k : ℕ). Runs sig (step sig (Operand d v k) ts) o) f (subst (λ (x : Wanted). Runs sig (step sig (Operand d x m) ts) o) e r)

pub operand_fails_same : (sig : SignatureSeen) (cause : Refusal) (d m n : ℕ) (w v : Wanted) (ts : List TextToken) → w ≡ v → m ≡ n → FailsBy sig cause (step sig (Operand d w m) ts) → FailsBy sig cause (step sig (Operand d v n) ts)
operand_fails_same sig cause d m n w v ts e f r k = operand_same sig d m n w v ts (Refused cause) e f (r k)

-- tests of numbers
too_deep : (n : ℕ) → limit ≤ n → nat_lt n limit ≡ false
too_deep n l = grind arith

not_too_deep : (n : ℕ) → n < limit → nat_lt n limit ≡ true
not_too_deep n l = grind arith

deep_enough : (n : ℕ) → n ≤ limit → nat_lt limit n ≡ false
deep_enough n l = grind arith

deeper : (n : ℕ) → limit < n → nat_lt limit n ≡ true
deeper n l = grind arith

-- what operands begin with
pub at_first : {A : Type 0} (f : List TextToken → A) (tokens after : List TextToken) (first t : TextToken) → tokens ≡ first ∷ after → first ≡ t → f tokens ≡ f (t ∷ after)
at_first f tokens after first t e g = ap f (e ∙ ap (λ (x : TextToken). x ∷ after) g)

pub at_other : {A : Type 0} (f : List TextToken → A) (tokens after : List TextToken) (first : TextToken) (other t : TermToken) → tokens ≡ first ∷ after → first ≡ token.Other other → other ≡ t → f tokens ≡ f (token.Other t ∷ after)
at_other f tokens after first other t e g h = ap f (e ∙ ap (λ (x : TextToken). x ∷ after) (g ∙ ap token.Other h))

abbrev pub closing : ℕ → ℕ → Part → List TextToken → Step
closing d m p rest = Goes (Behind d m (parenthesised p)) rest

abbrev pub behind_open : ℕ → ℕ → Part → List TextToken → Step
behind_open d m p later = expect mark.Close later (closing d m p)

abbrev pub behind_prefix : SignatureSeen → ℕ → ℕ → PrefixSign → Part → List TextToken → Step
behind_prefix sig d m s p later = Goes (Behind d m (prefixed sig s p)) later

abbrev pub behind_whole : ℕ → ℕ → Part → List TextToken → Step
behind_whole d m p later = Goes (Behind d m p) later

pub front_nothing : (sig : SignatureSeen) (d m : ℕ) (tokens : List TextToken) → tokens ≡ [] → front sig d m tokens ≡ refuse expected.Term tokens
front_nothing sig d m tokens e = ap (front sig d m) e ∙ ap (refuse expected.Term) (sym e)

pub front_default : (sig : SignatureSeen) (d m : ℕ) (tokens after : List TextToken) (first : TextToken) → tokens ≡ first ∷ after → ((x : List ℕ) (n : Option ℕ) → first ≡ token.Name x n → ⊥) → (first ≡ token.Open → ⊥) → ((x : TermToken) → first ≡ token.Other x → ⊥) → front sig d m tokens ≡ refuse expected.Term tokens
front_default sig d m tokens after first e a b c = ap (front sig d m) e ∙ other first a b c ∙ ap (refuse expected.Term) (sym e)
  where
    other : (first : TextToken) → ((x : List ℕ) (n : Option ℕ) → first ≡ token.Name x n → ⊥) → (first ≡ token.Open → ⊥) → ((x : TermToken) → first ≡ token.Other x → ⊥) → front sig d m (first ∷ after) ≡ refuse expected.Term (first ∷ after)
    other (token.Name x n) a b c = absurd (a x n refl)
    other (token.Variable x) a b c = refl
    other (token.Unknown x) a b c = refl
    other token.Open a b c = absurd (b refl)
    other token.Close a b c = refl
    other token.OpenList a b c = refl
    other token.CloseList a b c = refl
    other token.Comma a b c = refl
    other token.Arrow a b c = refl
    other (token.Refused n) a b c = refl
    other (token.Other x) a b c = absurd (c x refl)

pub front_other : (sig : SignatureSeen) (d m : ℕ) (tokens after : List TextToken) (first : TextToken) (t : TermToken) → tokens ≡ first ∷ after → first ≡ token.Other t → ((x : List ℕ) → t ≡ term.Unknown x → ⊥) → (t ≡ term.OpenPremises → ⊥) → ((s : PrefixSign) → t ≡ term.Prefix s → ⊥) → ((s : BinderSign) → t ≡ term.Binder s → ⊥) → front sig d m tokens ≡ refuse expected.Term tokens
front_other sig d m tokens after first t e f a b c g =
    let whole : tokens ≡ token.Other t ∷ after = e ∙ ap (λ (x : TextToken). x ∷ after) f in
    ap (front sig d m) whole ∙ other t a b c g ∙ ap (refuse expected.Term) (sym whole)
  where
    other : (t : TermToken) → ((x : List ℕ) → t ≡ term.Unknown x → ⊥) → (t ≡ term.OpenPremises → ⊥) → ((s : PrefixSign) → t ≡ term.Prefix s → ⊥) → ((s : BinderSign) → t ≡ term.Binder s → ⊥) → front sig d m (token.Other t ∷ after) ≡ refuse expected.Term (token.Other t ∷ after)
    other (term.Unknown x) a b c g = absurd (a x refl)
    other (term.Infix s) a b c g = refl
    other (term.Prefix s) a b c g = absurd (c s refl)
    other (term.Binder s) a b c g = absurd (g s refl)
    other term.Dot a b c g = refl
    other term.Colons a b c g = refl
    other term.OpenPremises a b c g = absurd (b refl)
    other term.Semicolon a b c g = refl
    other term.ClosePremises a b c g = refl
    other (term.Symbol x) a b c g = refl
    other (term.Schematic x) a b c g = refl

-- what goes on behind a left operand
abbrev pub right_operand : SignatureSeen → ℕ → ℕ → InfixSign → Part → Part → List TextToken → Step
right_operand sig d m s l p later = complete sig (infix_operands s) p (λ r. Goes (Behind d m (joined sig s l r)) later)

abbrev pub infix_inside : SignatureSeen → ℕ → ℕ → InfixSign → List TextToken → Part → Step
infix_inside sig d m s after l = Inside (Operand (d + 1) (infix_operands s) (infix_right s)) after (and_then (right_operand sig d m s l))

abbrev pub infix_step : SignatureSeen → ℕ → ℕ → InfixSign → List TextToken → Part → Step
infix_step sig d m s after l = unless_deep (d + l.height) (infix_inside sig d m s after l)

pub further_infix : (sig : SignatureSeen) (d m : ℕ) (left : Part) (tokens after : List TextToken) (s : InfixSign) → tokens ≡ token.Other (term.Infix s) ∷ after → further sig d m left tokens ≡ complete sig (infix_operands s) left (infix_step sig d m s after)
further_infix sig d m left tokens after s e = ap (further sig d m left) e

pub step_deep : (n : ℕ) (s : Step) → limit ≤ n → unless_deep n s ≡ Ends (Refused refusal.Deep)
step_deep n s l = ap (λ (b : Bool). cond b s (Ends (Refused refusal.Deep))) (too_deep n l)

pub step_shallow : (n : ℕ) (s : Step) → n < limit → unless_deep n s ≡ s
step_shallow n s l = ap (λ (b : Bool). cond b s (Ends (Refused refusal.Deep))) (not_too_deep n l)

-- up to the right operand
pub to_right : (sig : SignatureSeen) (d m : ℕ) (left l : Part) (tokens after : List TextToken) (s : InfixSign) (w : Wanted) → tokens ≡ token.Other (term.Infix s) ∷ after → w ≡ infix_operands s → ((g : Part → Step) → complete sig w left g ≡ g l) → Leads sig (further sig d m left tokens) (infix_step sig d m s after l)
to_right sig d m left l tokens after s w e f h =
    leads_both sig (further sig d m left tokens) (complete sig (infix_operands s) left (infix_step sig d m s after)) (infix_step sig d m s after l)
    (leads_equal sig (further sig d m left tokens) (complete sig (infix_operands s) left (infix_step sig d m s after)) (further_infix sig d m left tokens after s e))
    (leads_complete sig w (infix_operands s) left l (infix_step sig d m s after) f h)

pub to_right_operand : (sig : SignatureSeen) (d m : ℕ) (left l : Part) (tokens after : List TextToken) (s : InfixSign) (w : Wanted) → tokens ≡ token.Other (term.Infix s) ∷ after → w ≡ infix_operands s → ((g : Part → Step) → complete sig w left g ≡ g l) → d + l.height < limit → Leads sig (further sig d m left tokens) (infix_inside sig d m s after l)
to_right_operand sig d m left l tokens after s w e f h n =
    leads_both sig (further sig d m left tokens) (infix_step sig d m s after l) (infix_inside sig d m s after l)
    (to_right sig d m left l tokens after s w e f h)
    (leads_equal sig (infix_step sig d m s after l) (infix_inside sig d m s after l) (step_shallow (d + l.height) (infix_inside sig d m s after l) n))

abbrev pub annotation : ℕ → ℕ → Part → Ty → ℕ → List TextToken → Step
annotation d m left T h later = Goes (Behind d m (annotated left T h)) later

abbrev pub argument : ℕ → ℕ → Part → Part → List TextToken → Step
argument d m left a later = Goes (Behind d m (applied left a)) later

pub starts_colons : (ts : List TextToken) → starts mark.Colons ts ≡ true → ts ≡ token.Other term.Colons ∷ behind_first ts
starts_colons [] e = absurd cc
starts_colons (token.Name x n ∷ ts) e = absurd cc
starts_colons (token.Variable x ∷ ts) e = absurd cc
starts_colons (token.Unknown x ∷ ts) e = absurd cc
starts_colons (token.Open ∷ ts) e = absurd cc
starts_colons (token.Close ∷ ts) e = absurd cc
starts_colons (token.OpenList ∷ ts) e = absurd cc
starts_colons (token.CloseList ∷ ts) e = absurd cc
starts_colons (token.Comma ∷ ts) e = absurd cc
starts_colons (token.Arrow ∷ ts) e = absurd cc
starts_colons (token.Refused n ∷ ts) e = absurd cc
starts_colons (token.Other (term.Unknown x) ∷ ts) e = absurd cc
starts_colons (token.Other (term.Infix s) ∷ ts) e = absurd cc
starts_colons (token.Other (term.Prefix s) ∷ ts) e = absurd cc
starts_colons (token.Other (term.Binder s) ∷ ts) e = absurd cc
starts_colons (token.Other term.Dot ∷ ts) e = absurd cc
starts_colons (token.Other term.Colons ∷ ts) e = refl
starts_colons (token.Other term.OpenPremises ∷ ts) e = absurd cc
starts_colons (token.Other term.Semicolon ∷ ts) e = absurd cc
starts_colons (token.Other term.ClosePremises ∷ ts) e = absurd cc
starts_colons (token.Other (term.Symbol x) ∷ ts) e = absurd cc
starts_colons (token.Other (term.Schematic x) ∷ ts) e = absurd cc

pub further_colons : (sig : SignatureSeen) (d m : ℕ) (left : Part) (tokens after : List TextToken) → starts mark.Colons tokens ≡ true → after ≡ behind_first tokens → further sig d m left tokens ≡ unless_deep (d + left.height) (InType (d + 1) after (annotation d m left))
further_colons sig d m left tokens after e a =
    ap (further sig d m left) (starts_colons tokens e) ∙ ap (λ (ts : List TextToken). unless_deep (d + left.height) (InType (d + 1) ts (annotation d m left))) (sym a)

pub further_type : (sig : SignatureSeen) (d m : ℕ) (left : Part) (tokens after : List TextToken) → starts mark.Colons tokens ≡ true → after ≡ behind_first tokens → d + left.height < limit → further sig d m left tokens ≡ InType (d + 1) after (annotation d m left)
further_type sig d m left tokens after e a l = further_colons sig d m left tokens after e a ∙ step_shallow (d + left.height) (InType (d + 1) after (annotation d m left)) l

pub further_type_deep : (sig : SignatureSeen) (d m : ℕ) (left : Part) (tokens : List TextToken) → starts mark.Colons tokens ≡ true → limit ≤ d + left.height → further sig d m left tokens ≡ Ends (Refused refusal.Deep)
further_type_deep sig d m left tokens e l = further_colons sig d m left tokens (behind_first tokens) e refl ∙ step_deep (d + left.height) (InType (d + 1) (behind_first tokens) (annotation d m left)) l

pub further_argument : (sig : SignatureSeen) (d m : ℕ) (left : Part) (tokens : List TextToken) → IsNoInfix tokens → starts mark.Colons tokens ≡ false → further sig d m left tokens ≡ Inside (Operand d wanted.Term 1000) tokens (and_then (argument d m left))
further_argument sig d m left [] n e = refl
further_argument sig d m left (token.Name x k ∷ ts) n e = refl
further_argument sig d m left (token.Variable x ∷ ts) n e = refl
further_argument sig d m left (token.Unknown x ∷ ts) n e = refl
further_argument sig d m left (token.Open ∷ ts) n e = refl
further_argument sig d m left (token.Close ∷ ts) n e = refl
further_argument sig d m left (token.OpenList ∷ ts) n e = refl
further_argument sig d m left (token.CloseList ∷ ts) n e = refl
further_argument sig d m left (token.Comma ∷ ts) n e = refl
further_argument sig d m left (token.Arrow ∷ ts) n e = refl
further_argument sig d m left (token.Refused k ∷ ts) n e = refl
further_argument sig d m left (token.Other (term.Unknown x) ∷ ts) n e = refl
further_argument sig d m left (token.Other (term.Infix s) ∷ ts) n e = absurd n
further_argument sig d m left (token.Other (term.Prefix s) ∷ ts) n e = refl
further_argument sig d m left (token.Other (term.Binder s) ∷ ts) n e = refl
further_argument sig d m left (token.Other term.Dot ∷ ts) n e = refl
further_argument sig d m left (token.Other term.Colons ∷ ts) n e = absurd cc
further_argument sig d m left (token.Other term.OpenPremises ∷ ts) n e = refl
further_argument sig d m left (token.Other term.Semicolon ∷ ts) n e = refl
further_argument sig d m left (token.Other term.ClosePremises ∷ ts) n e = refl
further_argument sig d m left (token.Other (term.Symbol x) ∷ ts) n e = refl
further_argument sig d m left (token.Other (term.Schematic x) ∷ ts) n e = refl

-- the test of whether it goes on, by the same cases
pub goes_colons : (m : ℕ) (left : Part) (tokens : List TextToken) → starts mark.Colons tokens ≡ true → goes_on m left tokens ≡ (nat_le m 3 && nat_le 4 left.priority)
goes_colons m left tokens e = ap (goes_on m left) (starts_colons tokens e)

pub goes_argument : (m : ℕ) (left : Part) (tokens : List TextToken) → IsNoInfix tokens → starts mark.Colons tokens ≡ false → goes_on m left tokens ≡ (nat_le m 999 && (left.is_function && begins 1000 tokens))
goes_argument m left [] n e = refl
goes_argument m left (token.Name x k ∷ ts) n e = refl
goes_argument m left (token.Variable x ∷ ts) n e = refl
goes_argument m left (token.Unknown x ∷ ts) n e = refl
goes_argument m left (token.Open ∷ ts) n e = refl
goes_argument m left (token.Close ∷ ts) n e = refl
goes_argument m left (token.OpenList ∷ ts) n e = refl
goes_argument m left (token.CloseList ∷ ts) n e = refl
goes_argument m left (token.Comma ∷ ts) n e = refl
goes_argument m left (token.Arrow ∷ ts) n e = refl
goes_argument m left (token.Refused k ∷ ts) n e = refl
goes_argument m left (token.Other (term.Unknown x) ∷ ts) n e = refl
goes_argument m left (token.Other (term.Infix s) ∷ ts) n e = absurd n
goes_argument m left (token.Other (term.Prefix s) ∷ ts) n e = refl
goes_argument m left (token.Other (term.Binder s) ∷ ts) n e = refl
goes_argument m left (token.Other term.Dot ∷ ts) n e = refl
goes_argument m left (token.Other term.Colons ∷ ts) n e = absurd cc
goes_argument m left (token.Other term.OpenPremises ∷ ts) n e = refl
goes_argument m left (token.Other term.Semicolon ∷ ts) n e = refl
goes_argument m left (token.Other term.ClosePremises ∷ ts) n e = refl
goes_argument m left (token.Other (term.Symbol x) ∷ ts) n e = refl
goes_argument m left (token.Other (term.Schematic x) ∷ ts) n e = refl

-- operands
abbrev operand_cases : SignatureSeen → ℕ → Wanted → List TextToken → Bool → Bool → ℕ → Step
operand_cases sig d w ts deep first m = cond deep (Ends (Refused refusal.Deep)) (cond first (front sig d m ts) (refuse (operand_expected w) ts))

pub operand_deep : (sig : SignatureSeen) (d m : ℕ) (w : Wanted) (tokens : List TextToken) → limit < d → step sig (Operand d w m) tokens ≡ Ends (Refused refusal.Deep)
operand_deep sig d m w tokens l = ap (λ (b : Bool). operand_cases sig d w tokens b (begins m tokens) m) (deeper d l)

pub operand_refused : (sig : SignatureSeen) (d m : ℕ) (w : Wanted) (tokens : List TextToken) → d ≤ limit → begins m tokens ≡ false → step sig (Operand d w m) tokens ≡ refuse (operand_expected w) tokens
operand_refused sig d m w tokens l e = ap (λ (b : Bool). operand_cases sig d w tokens b (begins m tokens) m) (deep_enough d l) ∙ ap (λ (b : Bool). operand_cases sig d w tokens false b m) e

pub operand_front : (sig : SignatureSeen) (d m : ℕ) (w : Wanted) (tokens : List TextToken) → d ≤ limit → begins m tokens ≡ true → step sig (Operand d w m) tokens ≡ front sig d m tokens
operand_front sig d m w tokens l e = ap (λ (b : Bool). operand_cases sig d w tokens b (begins m tokens) m) (deep_enough d l) ∙ ap (λ (b : Bool). operand_cases sig d w tokens false b m) e

and_false : (a b : Bool) → b ≡ false → (a && b) ≡ false
and_false true b e = e
and_false false b e = refl

met_ends : (m : ℕ) (left : Part) (ts : List TextToken) → is_met ts ≡ true → goes_on m left ts ≡ false
met_ends m left [] e = absurd cc
met_ends m left (token.Name x n ∷ ts) e = absurd cc
met_ends m left (token.Variable x ∷ ts) e = absurd cc
met_ends m left (token.Unknown x ∷ ts) e = absurd cc
met_ends m left (token.Open ∷ ts) e = absurd cc
met_ends m left (token.Close ∷ ts) e = absurd cc
met_ends m left (token.OpenList ∷ ts) e = absurd cc
met_ends m left (token.CloseList ∷ ts) e = absurd cc
met_ends m left (token.Comma ∷ ts) e = absurd cc
met_ends m left (token.Arrow ∷ ts) e = absurd cc
met_ends m left (token.Refused k ∷ ts) e = absurd cc
met_ends m left (token.Other (term.Unknown x) ∷ ts) e = absurd cc
met_ends m left (token.Other (term.Infix s) ∷ ts) e = absurd cc
met_ends m left (token.Other (term.Prefix s) ∷ ts) e = absurd cc
met_ends m left (token.Other (term.Binder s) ∷ ts) e = absurd cc
met_ends m left (token.Other term.Dot ∷ ts) e = absurd cc
met_ends m left (token.Other term.Colons ∷ ts) e = absurd cc
met_ends m left (token.Other term.OpenPremises ∷ ts) e = absurd cc
met_ends m left (token.Other term.Semicolon ∷ ts) e = absurd cc
met_ends m left (token.Other term.ClosePremises ∷ ts) e = absurd cc
met_ends m left (token.Other (term.Symbol x) ∷ ts) e = and_false (nat_le m 999) (left.is_function && false) (and_false left.is_function false refl)
met_ends m left (token.Other (term.Schematic x) ∷ ts) e = and_false (nat_le m 999) (left.is_function && false) (and_false left.is_function false refl)

not_met : (m : ℕ) (left : Part) (ts : List TextToken) (b : Bool) → is_met ts ≡ b → goes_on m left ts ≡ true → b ≡ false
not_met m left ts true e g = let f : goes_on m left ts ≡ false = met_ends m left ts e in absurd cc
not_met m left ts false e g = refl

pub behind_cases : (sig : SignatureSeen) (d m : ℕ) (left : Part) (rest : List TextToken) (b c : Bool) → is_met rest ≡ b → goes_on m left rest ≡ c → step sig (Behind d m left) rest ≡ cond b (refuse expected.EndOfText rest) (cond c (further sig d m left rest) (Ends (Read left rest)))
behind_cases sig d m left rest b c e f =
    ap (λ (x : Bool). cond x (refuse expected.EndOfText rest) (cond (goes_on m left rest) (further sig d m left rest) (Ends (Read left rest)))) e
    ∙ ap (λ (x : Bool). cond b (refuse expected.EndOfText rest) (cond x (further sig d m left rest) (Ends (Read left rest)))) f

pub behind_further : (sig : SignatureSeen) (d m : ℕ) (left : Part) (rest : List TextToken) → goes_on m left rest ≡ true → Leads sig (Goes (Behind d m left) rest) (further sig d m left rest)
behind_further sig d m left rest e = leads_goes sig (Behind d m left) rest (further sig d m left rest) (behind_cases sig d m left rest false true (not_met m left rest (is_met rest) refl e) e)

pub behind_ends : (sig : SignatureSeen) (d m : ℕ) (left : Part) (rest : List TextToken) → is_met rest ≡ false → goes_on m left rest ≡ false → Leads sig (Goes (Behind d m left) rest) (Ends (Read left rest))
behind_ends sig d m left rest e f = leads_goes sig (Behind d m left) rest (Ends (Read left rest)) (behind_cases sig d m left rest false false e f)

pub behind_met : (sig : SignatureSeen) (d m : ℕ) (left : Part) (rest : List TextToken) → is_met rest ≡ true → goes_on m left rest ≡ false → Leads sig (Goes (Behind d m left) rest) (refuse expected.EndOfText rest)
behind_met sig d m left rest e f = leads_goes sig (Behind d m left) rest (refuse expected.EndOfText rest) (behind_cases sig d m left rest true false e f)

pub operand_reads : (sig : SignatureSeen) (d m : ℕ) (w : Wanted) (tokens : List TextToken) (left : Part) (rest : List TextToken) → d ≤ limit → begins m tokens ≡ true → Leads sig (front sig d m tokens) (Goes (Behind d m left) rest) → is_met rest ≡ false → goes_on m left rest ≡ false → Runs sig (step sig (Operand d w m) tokens) (Read left rest)
operand_reads sig d m w tokens left rest l e a n g =
    leads_equal sig (step sig (Operand d w m) tokens) (front sig d m tokens) (operand_front sig d m w tokens l e) (Read left rest)
    (a (Read left rest) (behind_ends sig d m left rest n g (Read left rest) (ends (Read left rest))))

pub operand_fails : (sig : SignatureSeen) (cause : Refusal) (d m : ℕ) (w : Wanted) (tokens : List TextToken) (s : Step) → d ≤ limit → begins m tokens ≡ true → Leads sig (front sig d m tokens) s → FailsBy sig cause s → FailsBy sig cause (step sig (Operand d w m) tokens)
operand_fails sig cause d m w tokens s l e a q =
    fails_later sig cause (step sig (Operand d w m) tokens) s (leads_both sig (step sig (Operand d w m) tokens) (front sig d m tokens) s (leads_equal sig (step sig (Operand d w m) tokens) (front sig d m tokens) (operand_front sig d m w tokens l e)) a) q

-- what a later call answers is the answer
pub same_result : {T : Type 0} (sig : SignatureSeen) (r : Result T Refusal) (O : T → Outcome) (s t : Step) → Leads sig s t → MatchResult r (λ x. Runs sig t (O x)) (λ f. FailsBy sig f t) → MatchResult r (λ x. Runs sig s (O x)) (λ f. FailsBy sig f s)
same_result sig (Ok x) O s t a h = a (O x) h
same_result sig (Err f) O s t a h = λ n. a (Refused f) (h n)

-- the same where a whole place is read first
pub same_inside : {T : Type 0} (sig : SignatureSeen) (r : Result T Refusal) (part : T → Part) (rest : T → List TextToken) (s : Step) (p : Place) (ts : List TextToken) (go : Part → List TextToken → Step)
    → s ≡ Inside p ts (and_then go) → MatchResult r (λ x. Runs sig (step sig p ts) (Read (part x) (rest x))) (λ f. FailsBy sig f (step sig p ts)) → MatchResult r (λ x. Leads sig s (go (part x) (rest x))) (λ f. FailsBy sig f s)
same_inside sig (Ok x) part rest s p ts go e h = leads_inside sig s p ts go (part x) (rest x) e h
same_inside sig (Err f) part rest s p ts go e h = fails_inside sig f s p ts go e h

-- types
pub type_reads : (sig : SignatureSeen) (d : ℕ) (ts : List TextToken) (go : Ty → ℕ → List TextToken → Step) (T : Ty) (h : ℕ) (rest : List TextToken) → types.Runs (types.step (types.Whole d) ts) (types.Read T h rest) → Leads sig (InType d ts go) (go T h rest)
type_reads sig d ts go T h rest q o r = typed d ts go T h rest o q r

pub type_fails : (sig : SignatureSeen) (cause : Refusal) (d : ℕ) (ts : List TextToken) (go : Ty → ℕ → List TextToken → Step) (f : Fail) → type_answers.FailsBy f (types.step (types.Whole d) ts) → IsTypeCause f cause → FailsBy sig cause (InType d ts go)
type_fails sig cause d ts go fail.Memory q h n = absurd (n h)
type_fails sig cause d ts go (fail.Refused w at) q h n = subst (λ (k : Refusal). Runs sig (InType d ts go) (Refused k)) (h n) (untyped d ts go w at.now q)

-- variables
abbrev pub v_close : (Variable → ℕ → Bool → List TextToken → Step) → List ℕ → Ty → ℕ → List TextToken → Step
v_close go x T h end = go (variable_of x (Some T)) (h + 2) false end

abbrev pub v_type : (Variable → ℕ → Bool → List TextToken → Step) → List ℕ → Ty → ℕ → List TextToken → Step
v_type go x T h rest = expect mark.Close rest (v_close go x T h)

abbrev pub v_colons : ℕ → (Variable → ℕ → Bool → List TextToken → Step) → List ℕ → List TextToken → Step
v_colons d go x later = InType (d + 2) later (v_type go x)

abbrev pub v_name : ℕ → (Variable → ℕ → Bool → List TextToken → Step) → List ℕ → List TextToken → Step
v_name d go x rest = expect mark.Colons rest (v_colons d go x)

abbrev pub v_alone : (Variable → ℕ → Bool → List TextToken → Step) → List ℕ → Ty → ℕ → List TextToken → Step
v_alone go x T h later = go (variable_of x (Some T)) (h + 1) true later

abbrev pub v_plain : ℕ → Bool → (Variable → ℕ → Bool → List TextToken → Step) → List ℕ → List TextToken → Step
v_plain d first go x rest = cond (first && starts mark.Colons rest) (InType (d + 1) (behind_first rest) (v_alone go x)) (go (variable_of x None) 0 false rest)

pub variable_open : (d : ℕ) (first : Bool) (ts rest : List TextToken) (go : Variable → ℕ → Bool → List TextToken → Step) → starts mark.Open ts ≡ true → rest ≡ behind_first ts → variable d first ts go ≡ expect_name rest (v_name d go)
variable_open d first ts rest go e f =
    ap (λ (b : Bool). cond b (expect_name (behind_first ts) (v_name d go)) (expect_name ts (v_plain d first go))) e
    ∙ ap (λ (l : List TextToken). expect_name l (v_name d go)) (sym f)

pub variable_plain : (d : ℕ) (first : Bool) (ts : List TextToken) (go : Variable → ℕ → Bool → List TextToken → Step) → starts mark.Open ts ≡ false → variable d first ts go ≡ expect_name ts (v_plain d first go)
variable_plain d first ts go e = ap (λ (b : Bool). cond b (expect_name (behind_first ts) (v_name d go)) (expect_name ts (v_plain d first go))) e

pub plain_alone : (d : ℕ) (first : Bool) (go : Variable → ℕ → Bool → List TextToken → Step) (x : List ℕ) (ts rest : List TextToken) → first ≡ true → starts mark.Colons ts ≡ true → rest ≡ behind_first ts → v_plain d first go x ts ≡ InType (d + 1) rest (v_alone go x)
plain_alone d first go x ts rest f e g =
    ap (λ (b : Bool). cond (b && starts mark.Colons ts) (InType (d + 1) (behind_first ts) (v_alone go x)) (go (variable_of x None) 0 false ts)) f
    ∙ ap (λ (b : Bool). cond b (InType (d + 1) (behind_first ts) (v_alone go x)) (go (variable_of x None) 0 false ts)) e
    ∙ ap (λ (l : List TextToken). InType (d + 1) l (v_alone go x)) (sym g)

pub plain_bare : (d : ℕ) (first : Bool) (go : Variable → ℕ → Bool → List TextToken → Step) (x : List ℕ) (ts : List TextToken) → (first && starts mark.Colons ts) ≡ false → v_plain d first go x ts ≡ go (variable_of x None) 0 false ts
plain_bare d first go x ts e = ap (λ (b : Bool). cond b (InType (d + 1) (behind_first ts) (v_alone go x)) (go (variable_of x None) 0 false ts)) e

-- the state of reading variables: one more, or the body
abbrev pub variables_step : SignatureSeen → ℕ → BinderSign → Bool → List Variable → ℕ → List TextToken → Step
variables_step sig d s more vs h rest = cond more (bindings sig d s vs h rest) (expect mark.Dot rest (body sig d s vs h))

abbrev pub one_more : SignatureSeen → ℕ → BinderSign → List Variable → ℕ → Variable → ℕ → Bool → List TextToken → Step
one_more sig d s vs h v k only rest = behind_variable sig d s (vs ++ (v ∷ [])) (max h k) only rest

pub more_variables : (sig : SignatureSeen) (d : ℕ) (s : BinderSign) (vs : List Variable) (h : ℕ) (only more : Bool) (ts : List TextToken) → more ≡ (not only && is_variable ts) → Leads sig (behind_variable sig d s vs h only ts) (variables_step sig d s more vs h ts)
more_variables sig d s vs h only true ts e =
    leads_both sig (behind_variable sig d s vs h only ts) (Goes (Bindings d s vs h) ts) (bindings sig d s vs h ts)
    (leads_equal sig (behind_variable sig d s vs h only ts) (Goes (Bindings d s vs h) ts) (ap (λ (b : Bool). cond b (Goes (Bindings d s vs h) ts) (expect mark.Dot ts (body sig d s vs h))) (sym e)))
    (leads_goes sig (Bindings d s vs h) ts (bindings sig d s vs h ts) refl)
more_variables sig d s vs h only false ts e =
    leads_equal sig (behind_variable sig d s vs h only ts) (expect mark.Dot ts (body sig d s vs h)) (ap (λ (b : Bool). cond b (Goes (Bindings d s vs h) ts) (expect mark.Dot ts (body sig d s vs h))) (sym e))

more_true : (b x m : Bool) → b ≡ true → m ≡ x → m ≡ (b && x)
more_true true x m e f = f
more_true false x m e f = absurd (false_true e)
  where
    false_true : false ≡ true → ⊥
    false_true e = cc

pub only_more : (only x m : Bool) → not only ≡ true → m ≡ x → m ≡ (not only && x)
only_more only x m e f = more_true (not only) x m e f

pub only_last : (only x : Bool) → not only ≡ false → not only ≡ (not only && x)
only_last only x e = e ∙ ap (λ (b : Bool). b && x) (sym e)

-- one variable more
pub variables_more : (sig : SignatureSeen) (d : ℕ) (s : BinderSign) (tokens : List TextToken) (vs new : List Variable) (h k height : ℕ) (v : Variable) (first only was more : Bool) (rest after : List TextToken)
    → Leads sig (bindings sig d s [] 0 tokens) (variables_step sig d s was vs h rest) → was ≡ true → first ≡ is_first vs
    → ((x : SignatureSeen) (go : Variable → ℕ → Bool → List TextToken → Step) → Leads x (variable d first rest go) (go v k only after))
    → new ≡ vs ++ (v ∷ []) → height ≡ max h k → more ≡ (not only && is_variable after)
    → Leads sig (bindings sig d s [] 0 tokens) (variables_step sig d s more new height after)
variables_more sig d s tokens vs new h k height v first only was more rest after a w f r p q m =
    let go : Variable → ℕ → Bool → List TextToken → Step = one_more sig d s vs h in
    let start = bindings sig d s [] 0 tokens in
    let here : Leads sig start (bindings sig d s vs h rest) = leads_both sig start (variables_step sig d s was vs h rest) (bindings sig d s vs h rest) a (leads_equal sig (variables_step sig d s was vs h rest) (bindings sig d s vs h rest) (ap (λ (b : Bool). variables_step sig d s b vs h rest) w)) in
    let one : Leads sig start (variable d first rest go) = leads_both sig start (bindings sig d s vs h rest) (variable d first rest go) here (leads_equal sig (bindings sig d s vs h rest) (variable d first rest go) (ap (λ (b : Bool). variable d b rest go) (sym f))) in
    let two : Leads sig start (go v k only after) = leads_both sig start (variable d first rest go) (go v k only after) one (r sig go) in
    let three : Leads sig start (variables_step sig d s more (vs ++ (v ∷ [])) (max h k) after) = leads_both sig start (go v k only after) (variables_step sig d s more (vs ++ (v ∷ [])) (max h k) after) two (more_variables sig d s (vs ++ (v ∷ [])) (max h k) only more after m) in
    subst (λ (l : List Variable). Leads sig start (variables_step sig d s more l height after)) (sym p) (subst (λ (n : ℕ). Leads sig start (variables_step sig d s more (vs ++ (v ∷ [])) n after)) (sym q) three)

pub variables_done : (sig : SignatureSeen) (d : ℕ) (s : BinderSign) (tokens : List TextToken) (vs : List Variable) (h : ℕ) (was : Bool) (rest : List TextToken) → Leads sig (bindings sig d s [] 0 tokens) (variables_step sig d s was vs h rest) → was ≡ false → Leads sig (bindings sig d s [] 0 tokens) (expect mark.Dot rest (body sig d s vs h))
variables_done sig d s tokens vs h was rest a w =
    leads_both sig (bindings sig d s [] 0 tokens) (variables_step sig d s was vs h rest) (expect mark.Dot rest (body sig d s vs h)) a
    (leads_equal sig (variables_step sig d s was vs h rest) (expect mark.Dot rest (body sig d s vs h)) (ap (λ (b : Bool). variables_step sig d s b vs h rest) w))

pub longer_by_one : {A : Type 0} (l new : List A) (x : A) → new ≡ l ++ (x ∷ []) → length new ≡ length l + 1
longer_by_one {A = A} l new x e = ap length e ∙ snoc l
  where
    snoc : (l : List A) → length (l ++ (x ∷ [])) ≡ length l + 1
    snoc [] = refl
    snoc (y ∷ l) = let e = snoc l in omega (arith, e)

pub both_within : (d h k n : ℕ) → d + h ≤ n → d + k ≤ n → d + max h k ≤ n
both_within d h k n a b = grind arith

-- bodies
abbrev pub body_read : SignatureSeen → BinderSign → List Variable → ℕ → List TextToken → Part → Step
body_read sig s vs h rest q = Ends (Read (bound sig s vs h q) rest)

abbrev pub body_complete : SignatureSeen → BinderSign → List Variable → ℕ → Part → List TextToken → Step
body_complete sig s vs h p rest = complete sig (binder_body s) p (body_read sig s vs h rest)

pub body_inside : (sig : SignatureSeen) (d : ℕ) (s : BinderSign) (vs : List Variable) (h : ℕ) (ts : List TextToken) (w : Wanted) (own n : ℕ) → w ≡ binder_body s → own ≡ binder_own s → n ≡ operators s + length vs → body sig d s vs h ts ≡ Inside (Operand (d + n) w own) ts (and_then (body_complete sig s vs h))
body_inside sig d s vs h ts w own n e o f =
    ap (λ (k : ℕ). Inside (Operand (d + k) (binder_body s) (binder_own s)) ts (and_then (body_complete sig s vs h))) (sym f)
    ∙ ap (λ (v : Wanted). Inside (Operand (d + n) v (binder_own s)) ts (and_then (body_complete sig s vs h))) (sym e)
    ∙ ap (λ (k : ℕ). Inside (Operand (d + n) w k) ts (and_then (body_complete sig s vs h))) (sym o)

-- premises
abbrev pub conclusion_read : SignatureSeen → List Raw → ℕ → List TextToken → Part → Step
conclusion_read sig before h rest c = Ends (Read (bracketed sig before h c) rest)

abbrev pub conclusion_complete : SignatureSeen → List Raw → ℕ → Part → List TextToken → Step
conclusion_complete sig before h p rest = complete sig wanted.Proposition p (conclusion_read sig before h rest)

abbrev pub arrow : SignatureSeen → ℕ → List Raw → ℕ → List TextToken → Step
arrow sig d before h later = expect_arrow later (conclusion sig d before h)

abbrev pub premise_read : SignatureSeen → ℕ → List Raw → ℕ → List TextToken → Part → Step
premise_read sig d before h later a = behind_premise sig d (before ++ (a.term ∷ [])) (max h (a.height + 2)) later

abbrev pub premise_complete : SignatureSeen → ℕ → List Raw → ℕ → Part → List TextToken → Step
premise_complete sig d before h p later = complete sig wanted.Proposition p (premise_read sig d before h later)

abbrev pub premises_step : SignatureSeen → ℕ → Bool → List Raw → ℕ → List TextToken → Step
premises_step sig d more before h rest = cond more (premises sig d before h rest) (expect mark.ClosePremises rest (arrow sig d before h))

pub more_premises : (sig : SignatureSeen) (d : ℕ) (before : List Raw) (h : ℕ) (more : Bool) (later rest : List TextToken) → more ≡ starts mark.Semicolon later → rest ≡ cond more (behind_first later) later → Leads sig (behind_premise sig d before h later) (premises_step sig d more before h rest)
more_premises sig d before h true later rest e f =
    leads_both sig (behind_premise sig d before h later) (Goes (Premises d before h) rest) (premises sig d before h rest)
    (leads_equal sig (behind_premise sig d before h later) (Goes (Premises d before h) rest)
    (ap (λ (b : Bool). cond b (Goes (Premises d before h) (behind_first later)) (expect mark.ClosePremises later (arrow sig d before h))) (sym e) ∙ ap (λ (l : List TextToken). Goes (Premises d before h) l) (sym f)))
    (leads_goes sig (Premises d before h) rest (premises sig d before h rest) refl)
more_premises sig d before h false later rest e f =
    leads_equal sig (behind_premise sig d before h later) (expect mark.ClosePremises rest (arrow sig d before h))
    (ap (λ (b : Bool). cond b (Goes (Premises d before h) (behind_first later)) (expect mark.ClosePremises later (arrow sig d before h))) (sym e) ∙ ap (λ (l : List TextToken). expect mark.ClosePremises l (arrow sig d before h)) (sym f))

pub premises_here : (sig : SignatureSeen) (d : ℕ) (tokens : List TextToken) (before : List Raw) (h : ℕ) (was : Bool) (rest : List TextToken) → Leads sig (premises sig d [] 0 tokens) (premises_step sig d was before h rest) → was ≡ true → Leads sig (premises sig d [] 0 tokens) (premises sig d before h rest)
premises_here sig d tokens before h was rest a w =
    leads_both sig (premises sig d [] 0 tokens) (premises_step sig d was before h rest) (premises sig d before h rest) a
    (leads_equal sig (premises_step sig d was before h rest) (premises sig d before h rest) (ap (λ (b : Bool). premises_step sig d b before h rest) w))

pub premises_done : (sig : SignatureSeen) (d : ℕ) (tokens : List TextToken) (before : List Raw) (h : ℕ) (was : Bool) (rest : List TextToken) → Leads sig (premises sig d [] 0 tokens) (premises_step sig d was before h rest) → was ≡ false → Leads sig (premises sig d [] 0 tokens) (expect mark.ClosePremises rest (arrow sig d before h))
premises_done sig d tokens before h was rest a w =
    leads_both sig (premises sig d [] 0 tokens) (premises_step sig d was before h rest) (expect mark.ClosePremises rest (arrow sig d before h)) a
    (leads_equal sig (premises_step sig d was before h rest) (expect mark.ClosePremises rest (arrow sig d before h)) (ap (λ (b : Bool). premises_step sig d b before h rest) w))

-- one premise more
pub premise_more : (sig : SignatureSeen) (d : ℕ) (tokens : List TextToken) (before new : List Raw) (h height : ℕ) (p q : Part) (was more : Bool) (rest later next : List TextToken)
    → Leads sig (premises sig d [] 0 tokens) (premises_step sig d was before h rest) → was ≡ true
    → Runs sig (step sig (Operand (d + 2) wanted.Proposition 0) rest) (Read p later) → ((g : Part → Step) → complete sig wanted.Proposition p g ≡ g q)
    → new ≡ before ++ (q.term ∷ []) → height ≡ max h (q.height + 2) → more ≡ starts mark.Semicolon later → next ≡ cond more (behind_first later) later
    → Leads sig (premises sig d [] 0 tokens) (premises_step sig d more new height next)
premise_more sig d tokens before new h height p q was more rest later next a w r c e f m n =
    let start = premises sig d [] 0 tokens in
    let one : Leads sig start (premise_complete sig d before h p later) = leads_both sig start (premises sig d before h rest) (premise_complete sig d before h p later) (premises_here sig d tokens before h was rest a w) (leads_inside sig (premises sig d before h rest) (Operand (d + 2) wanted.Proposition 0) rest (premise_complete sig d before h) p later refl r) in
    let two : Leads sig start (premise_read sig d before h later q) = leads_both sig start (premise_complete sig d before h p later) (premise_read sig d before h later q) one (leads_complete sig wanted.Proposition wanted.Proposition p q (premise_read sig d before h later) refl c) in
    let three : Leads sig start (premises_step sig d more (before ++ (q.term ∷ [])) (max h (q.height + 2)) next) = leads_both sig start (premise_read sig d before h later q) (premises_step sig d more (before ++ (q.term ∷ [])) (max h (q.height + 2)) next) two (more_premises sig d (before ++ (q.term ∷ [])) (max h (q.height + 2)) more later next m n) in
    subst (λ (l : List Raw). Leads sig start (premises_step sig d more l height next)) (sym e) (subst (λ (k : ℕ). Leads sig start (premises_step sig d more (before ++ (q.term ∷ [])) k next)) (sym f) three)

pub next_behind : (b : Bool) (later next : List TextToken) → b ≡ true → next ≡ behind_first later → next ≡ cond b (behind_first later) later
next_behind b later next e f = f ∙ ap (λ (x : Bool). cond x (behind_first later) later) (sym e)

pub next_same : (b : Bool) (later : List TextToken) → b ≡ false → later ≡ cond b (behind_first later) later
next_same b later e = ap (λ (x : Bool). cond x (behind_first later) later) (sym e)

pub shorter_than : {T E : Type 0} (r : Result T E) (n : T → ℕ) (a b : ℕ) → a ≤ b → IfOk r (λ x. n x < a) → IfOk r (λ x. n x < b)
shorter_than (Ok x) n a b l h = omega arith
shorter_than (Err e) n a b l h = tt

pub behind_shorter : (ts : List TextToken) → length (behind_first ts) ≤ length ts
behind_shorter [] = omega arith
behind_shorter (t ∷ ts) = omega arith

-- whole texts
abbrev pub text_complete : SignatureSeen → Part → List TextToken → Step
text_complete sig p rest = complete sig wanted.Proposition p (λ q. at_end q rest)

pub text_read : (sig : SignatureSeen) (ts : List TextToken) (p q : Part) (rest : List TextToken) → rest ≡ [] → Runs sig (step sig (Operand 0 wanted.Proposition 0) ts) (Read p rest) → ((g : Part → Step) → complete sig wanted.Proposition p g ≡ g q) → Runs sig (text sig ts) (Read q [])
text_read sig ts p q rest e r c =
    leads_both sig (text sig ts) (text_complete sig p rest) (at_end q rest)
    (leads_inside sig (text sig ts) (Operand 0 wanted.Proposition 0) ts (text_complete sig) p rest refl r)
    (leads_complete sig wanted.Proposition wanted.Proposition p q (λ x. at_end x rest) refl c)
    (Read q []) (subst (λ (l : List TextToken). Runs sig (at_end q l) (Read q [])) (sym e) (ends (Read q [])))

pub text_refused : (sig : SignatureSeen) (cause : Refusal) (ts : List TextToken) (p q : Part) (rest after : List TextToken) (first : TextToken) → rest ≡ first ∷ after → IsThe (why expected.EndOfText rest) cause → Runs sig (step sig (Operand 0 wanted.Proposition 0) ts) (Read p rest) → ((g : Part → Step) → complete sig wanted.Proposition p g ≡ g q) → FailsBy sig cause (text sig ts)
text_refused sig cause ts p q rest after first e h r c =
    fails_later sig cause (text sig ts) (at_end q rest)
    (leads_both sig (text sig ts) (text_complete sig p rest) (at_end q rest)
    (leads_inside sig (text sig ts) (Operand 0 wanted.Proposition 0) ts (text_complete sig) p rest refl r)
    (leads_complete sig wanted.Proposition wanted.Proposition p q (λ x. at_end x rest) refl c))
    (refusal_of sig cause (why expected.EndOfText rest) (at_end q rest) h (ap (at_end q) e ∙ ap (refuse expected.EndOfText) (sym e)))
