-- What each step of a command answers.
use Rattle.std.proofs.Common.{◌≡◌, ◌≢◌, ℕ, Bool, true, false, List, [], ◌∷◌, ◌++◌, refl, sym, ap, subst, ◌∙◌}
use Rattle.std.specs.Prelude.{Option, Some, None, Result, Ok, Err, IsErrAnd, is_some}
use Rattle.isa_kernel.specs.declared.declarations.Declaration.{Declaration}
use Rattle.isa_kernel.specs.declared.declarations.TheoryFail.{TheoryFail}
use Rattle.isa_kernel.specs.declared.declarations.TheoryFail.TheVariants as fail
use Rattle.isa_kernel.specs.Theories.{Declares}
use Rattle.isa_outer.specs.declared.refusal.Kind.{Kind}
use Rattle.isa_outer.specs.declared.refusal.Kind.TheVariants as kind
use Rattle.isa_outer.specs.declared.refusal.Sort.{Sort}
use Rattle.std.specs.Map.{lookup}
use Rattle.indexmap.specs.IndexMap.{insert_entry}
use Rattle.isa_terms.specs.Equal.{name_eq}
use Rattle.isa_kernel.specs.Theorem.{Theorem}
use Rattle.isa_kernel.proofs.Theories.{insert_new}
use Rattle.isa_outer.specs.declared.refusal.Sort.TheVariants as sort
use Rattle.isa_theory.specs.Contexts.{ContextSeen, fact_of}
use Rattle.isa_theory.specs.Applying.{kind_of, declared, new_name, new_fact, with_fact}
use Rattle.isa_outer.specs.declared.command.Attribute.{Attribute}
use Rattle.isa_terms.specs.Terms.{Tm}
use Rattle.isa_theory.specs.declared.lemma.Lemma.{Lemma}
use Rattle.isa_theory.specs.Private.Growing.{Becomes, MayBecome}
use Rattle.isa_theory.specs.Results.{Answers}
use Rattle.isa_theory.specs.Told.{Reading, IsUnread, IsRead, Then, Leads, May}

-- the theory refused the declaration
pub refused : (s : Sort) (d : Declaration) (r : Option TheoryFail) (old new : List Declaration) (fault : TheoryFail) (k : Kind) (c : ContextSeen) →
    Declares d r old new (Err fault) → k ≡ kind_of s fault → k ≢ kind.Memory → declared s d r c ≡ Err k
refused s d r old new fail.Memory k c h e n = absurd (n e)
refused s d r old new (fail.Duplicate x) k c h e n = ap (λ o. declared s d o c) h.0 ∙ ap (λ (j : Kind). let z : Result ContextSeen Kind = Err j in z) (sym e)
refused s d r old new (fail.Unknown x) k c h e n = ap (λ o. declared s d o c) h.0 ∙ ap (λ (j : Kind). let z : Result ContextSeen Kind = Err j in z) (sym e)
refused s d r old new (fail.Misfit x) k c h e n = ap (λ o. declared s d o c) h.0 ∙ ap (λ (j : Kind). let z : Result ContextSeen Kind = Err j in z) (sym e)
refused s d r old new (fail.IllTyped x) k c h e n = ap (λ o. declared s d o c) h.0 ∙ ap (λ (j : Kind). let z : Result ContextSeen Kind = Err j in z) (sym e)
refused s d r old new (fail.NotProp T) k c h e n = ap (λ o. declared s d o c) h.0 ∙ ap (λ (j : Kind). let z : Result ContextSeen Kind = Err j in z) (sym e)

-- and is as it was
pub unchanged : (d : Declaration) (r : Option TheoryFail) (old new : List Declaration) (fault : TheoryFail) → Declares d r old new (Err fault) → new ≡ old
unchanged d r old new fail.Memory h = h
unchanged d r old new (fail.Duplicate x) h = h.1
unchanged d r old new (fail.Unknown x) h = h.1
unchanged d r old new (fail.Misfit x) h = h.1
unchanged d r old new (fail.IllTyped x) h = h.1
unchanged d r old new (fail.NotProp T) h = h.1

-- the declaration was made
pub accepted : (s : Sort) (d : Declaration) (r : Option TheoryFail) (new : List Declaration) (c : ContextSeen) → r ≡ None → new ≡ c.theory ++ d ∷ [] →
    declared s d r c ≡ Ok (record c { theory = new })
accepted s d r new c e n = ap (λ o. declared s d o c) e ∙ ap (λ (ds : List Declaration). let z : Result ContextSeen Kind = Ok (record c { theory = ds }) in z) (sym n)

-- a function that returned the refusal of a step
pub answers_refused : {A : Type 0} (wanted : Result A Kind) (r : Result A Kind) (k : Kind) → IsErrAnd r (λ e. e ≡ k) → (k ≢ kind.Memory → wanted ≡ Err k) → Answers r wanted
answers_refused {A} wanted (Ok a) k h f = absurd h
answers_refused {A} wanted (Err e) k h f = subst (λ (j : Kind). j ≢ kind.Memory → wanted ≡ Err j) (sym h) f

pub becomes_refused : {A : Type 0} (now : ContextSeen) (wanted : Result ContextSeen Kind) (r : Result A Kind) (k : Kind) → IsErrAnd r (λ e. e ≡ k) → (k ≢ kind.Memory → wanted ≡ Err k) → Becomes r now wanted
becomes_refused {A} now wanted (Ok a) k h f = absurd h
becomes_refused {A} now wanted (Err e) k h f = subst (λ (j : Kind). j ≢ kind.Memory → wanted ≡ Err j) (sym h) f

-- a step that reads
pub may_refused : {A : Type 0} (wanted : Result A Kind → Type 0) (r : Result A Kind) (k : Kind) → IsErrAnd r (λ e. e ≡ k) → (k ≢ kind.Memory → wanted (Err k)) → May wanted r
may_refused {A} wanted (Ok a) k h f = absurd h
may_refused {A} wanted (Err e) k h f = subst (λ (j : Kind). j ≢ kind.Memory → wanted (Err j)) (sym h) f

pub may_become_refused : {A : Type 0} (now : ContextSeen) (wanted : Result ContextSeen Kind → Type 0) (r : Result A Kind) (k : Kind) → IsErrAnd r (λ e. e ≡ k) → (k ≢ kind.Memory → wanted (Err k)) → MayBecome r now wanted
may_become_refused {A} now wanted (Ok a) k h f = absurd h
may_become_refused {A} now wanted (Err e) k h f = subst (λ (j : Kind). j ≢ kind.Memory → wanted (Err j)) (sym h) f

-- a text was read, and a known step came behind it
pub reading_becomes : {A : Type 0} (check : Result (Unit {0}) Kind) (tells : Result A Kind → Type 0) (rest : A → Result ContextSeen Kind) (a : A) (now : ContextSeen) (r : Result (Unit {0}) Kind) → check ≡ Ok tt → tells (Ok a) → Becomes r now (rest a) →
    MayBecome r now (Reading check tells rest)
reading_becomes {A} check tells rest a now (Ok u) c t h = IsRead a (Ok now) c t h
reading_becomes {A} check tells rest a now (Err k) c t h = λ n. IsRead a (Err k) c t (h n)

-- a text was read behind a check
pub reading_may : {A : Type 0} (check : Result (Unit {0}) Kind) (tells : Result A Kind → Type 0) (r : Result A Kind) → check ≡ Ok tt → May tells r → May (Reading check tells (λ a. Ok a)) r
reading_may {A} check tells (Ok a) c t = IsRead a (Ok a) c t refl
reading_may {A} check tells (Err k) c t = λ n. IsUnread k c (t n)

-- a known step came behind others
pub then_becomes : (first : Result ContextSeen Kind → Type 0) (rest : ContextSeen → Result ContextSeen Kind) (c now : ContextSeen) (r : Result (Unit {0}) Kind) → first (Ok c) → Becomes r now (rest c) → MayBecome r now (Then first rest)
then_becomes first rest c now (Ok u) f h = Leads c (Ok now) f h
then_becomes first rest c now (Err k) f h = λ n. Leads c (Err k) f (h n)

-- what may come of a known step
pub becomes_may : {A : Type 0} (r : Result A Kind) (now : ContextSeen) (wanted : Result ContextSeen Kind) → Becomes r now wanted → MayBecome r now (λ w. wanted ≡ w)
becomes_may {A} (Ok a) now wanted h = h
becomes_may {A} (Err k) now wanted h = h

-- a name that passed is new
new_of : (x : List ℕ) (b : Bool) → new_name sort.Fact x b ≡ Ok tt → b ≡ false
new_of x true e = absurd cc
new_of x false e = refl

none_of : {A : Type 0} (o : Option A) → is_some o ≡ false → o ≡ None
none_of None e = refl
none_of (Some a) e = absurd cc

pub new_fact_none : (c : ContextSeen) (x : List ℕ) → new_fact c x ≡ Ok tt → fact_of c x ≡ None
unfolding new_fact
new_fact_none c x e = none_of (fact_of c x) (new_of x (is_some (fact_of c x)) e)

-- the same after more was declared
pub still_none : (c d : ContextSeen) (x y : List ℕ) → fact_of c x ≡ None → d.facts ≡ c.facts → y ≡ x → fact_of d y ≡ None
still_none c d x y n f e = ap (λ (z : List ℕ). lookup (name_eq z) d.facts) e ∙ ap (λ (fs : List (List ℕ × List Theorem)). lookup (name_eq x) fs) f ∙ n

-- a fact of a new name goes last
pub fact_put : (c : ContextSeen) (x : List ℕ) (ths : List Theorem) (old new : List (List ℕ × List Theorem)) → old ≡ c.facts → fact_of c x ≡ None → new ≡ insert_entry name_eq old x ths → record c { facts = new } ≡ with_fact c x ths
fact_put c x ths old new o n e = ap (λ (fs : List (List ℕ × List Theorem)). record c { facts = fs }) (e ∙ ap (λ (fs : List (List ℕ × List Theorem)). insert_entry name_eq fs x ths) o ∙ insert_new x ths c.facts n)

pub answers_same : {A : Type 0} (r : Result A Kind) (wanted other : Result A Kind) → wanted ≡ other → Answers r other → Answers r wanted
answers_same r wanted other e h = subst (λ w. Answers r w) (sym e) h

-- the lemma of these parts
pub begun : (line : ℕ) (n m : Option (List ℕ)) (a b : List Attribute) (t : Tm) → m ≡ n → b ≡ a →
    (let r : Result Lemma Kind = Ok (record { line = line; name = n; attributes = a; goal = t }) in r) ≡ Ok (record { line = line; name = m; attributes = b; goal = t })
begun line n m a b t e f = λ i. Ok (record { line = line; name = sym e i; attributes = sym f i; goal = t })
