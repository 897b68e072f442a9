-- Each accepted theorem has a derivation from the axioms that it lists.
use Rattle.std.proofs.Common.{◌≡◌, ◌⊎◌, inl, inr, ℕ, ◌+◌, zero, suc, List, [], ◌∷◌, ◌++◌, map, length, Bool, true, false, cond, Option, Some, None, Result, Ok, Err, refl, sym, ap, ◌∙◌, subst}
use Rattle.std.specs.Prelude.{slice_get, is_some, codes, nat_eq}
use Rattle.std.specs.List.{slice_split}
use Rattle.std.specs.declared.cmp.Ordering.{Ordering}
use Rattle.std.specs.declared.cmp.Ordering.TheVariants.{Less, Equal, Greater}
use Rattle.isa_terms.specs.Types.{Ty}
use Rattle.isa_terms.specs.Terms.{Tm, bare}
use Rattle.isa_terms.specs.Equal.{name_eq}
use Rattle.isa_terms.specs.Order.{name_cmp}
use Rattle.isa_kernel.specs.Logic.{IsProposition}
use Rattle.isa_kernel.specs.Derivation.{Member, Within}
use Rattle.isa_kernel.specs.Axioms.{axioms_of}
use Rattle.isa_kernel.specs.Theorem.{Theorem, IsDerived, AreDerived}
use Rattle.isa_kernel.specs.Theories.{axiom_refusal, axiom_prop, axiom_theorem, arity_of, constant_type}
use Rattle.isa_kernel.specs.Well.{IsRefusedFor}
use Rattle.isa_kernel.specs.declared.axioms.NamedProp.{NamedProp}
use Rattle.isa_kernel.specs.declared.declarations.Declaration.{Declaration}
use Rattle.isa_kernel.proofs.Rules.{tree_more}
use Rattle.isa_kernel.proofs.Sound.{assumed_sound, implies_introduced_sound, implies_eliminated_sound, forall_introduced_sound, forall_eliminated_sound, reflexive_sound, turned_sound, chained_sound, combined_sound, abstracted_sound, contracted_sound, shortened_sound, equal_introduced_sound, equal_eliminated_sound}
use Rattle.isa_kernel.proofs.Instances.{instantiated_sound}
use Rattle.isa_kernel.proofs.Generals.{generalized_sound}
use Rattle.isa_kernel.proofs.Theories.{axiom_sound}
use Rattle.isa_kernel.proofs.Well.{refused_for}
use Rattle.isa_kernel.specs.Inferences.{generalized, instantiated}
use Rattle.isa_cert.specs.declared.certs.Accepted.{Accepted}
use Rattle.isa_cert.specs.declared.table.End.{End}
use Rattle.isa_cert.specs.declared.table.Table.{Table}
use Rattle.isa_cert.specs.declared.line.Line.{Line}
use Rattle.isa_cert.specs.declared.line.Line.TheVariants as line
use Rattle.isa_cert.specs.declared.line.Rule.{Rule}
use Rattle.isa_cert.specs.declared.line.Rule.TheVariants.{ByAxiom, Assume, ImpliesIntr, ImpliesElim, ForallIntr, ForallElim, Reflexive, Symmetric, Transitive, Combination, AbstractRule, Beta, Eta, EqualIntr, EqualElim, InstantiateThm, Generalize, Cite}
use Rattle.isa_cert.specs.Words.{words_of}
use Rattle.isa_cert.specs.Lines.{any_number, line_of}
use Rattle.isa_cert.specs.Checking.{Fault, Form, Typed, Step, Refusal, NoEnd, FormAt, or_form, and_then, or_step, all_typed, theorem_on, on_term, on_step, on_both, on_steps, instance_on, inferred, with_axiom, with_constructed, with_constant, with_end, with_step, taken, read_line, at_line, at, closed, taken_from, is_end, empty, put_axiom, by_name, accepted, accepted_of, checked_lines, checked, IsProved, AreProved, AcceptedAreProved, type_entries, term_entries, terms_of, all_at}

-- ---- what a table's theorems are
abbrev EndIsSound : End → Type 0
EndIsSound e = (e.theorem.hyps ≡ []) × IsDerived e.theorem

abbrev EndsAreSound : List End → Type 0
EndsAreSound [] = Unit {0}
EndsAreSound (e ∷ es) = EndIsSound e × EndsAreSound es

record IsSound (t : Table) : Type 0 where
  axioms : AreDerived t.axioms
  steps : AreDerived t.steps
  ends : EndsAreSound t.ends

derived_at : (ths : List Theorem) (n : ℕ) {th : Theorem} → slice_get ths n ≡ Some th → AreDerived ths → IsDerived th
derived_at [] n e d = cc
derived_at (a ∷ ths) zero e d = subst (λ x. IsDerived x) (cc (e)) d.0
derived_at (a ∷ ths) (suc n) e d = derived_at ths n e d.1

derived_more : (ths : List Theorem) (th : Theorem) → AreDerived ths → IsDerived th → AreDerived (ths ++ th ∷ [])
derived_more [] th d h = (h, tt)
derived_more (a ∷ ths) th d h = (d.0, derived_more ths th d.1 h)

end_at : (es : List End) (n : ℕ) {e : End} → slice_get es n ≡ Some e → EndsAreSound es → EndIsSound e
end_at [] n q d = cc
end_at (a ∷ es) zero {e} q d = let same : a ≡ e = cc (q) in subst (λ x. EndIsSound x) same d.0
end_at (a ∷ es) (suc n) q d = end_at es n q d.1

end_more : (es : List End) (e : End) → EndsAreSound es → EndIsSound e → EndsAreSound (es ++ e ∷ [])
end_more [] e d h = (h, tt)
end_more (a ∷ es) e d h = (d.0, end_more es e d.1 h)

-- ---- answers without a fault
or_form_ok : {A B : Type 0} (o : Option A) (go : A → Result B Fault) {b : B} → or_form o go ≡ Ok b → (a : A) × (o ≡ Some a) × (go a ≡ Ok b)
or_form_ok None go e = cc
or_form_ok (Some a) go e = (a, refl, e)

and_then_ok : {A B : Type 0} (r : Result A Fault) (go : A → Result B Fault) {b : B} → and_then r go ≡ Ok b → (a : A) × (r ≡ Ok a) × (go a ≡ Ok b)
and_then_ok (Err fault) go e = cc
and_then_ok (Ok a) go e = (a, refl, e)

at_line_ok : {A B : Type 0} (n : ℕ) (r : Result A Fault) (go : A → Result B Refusal) {b : B} → at_line n r go ≡ Ok b → (a : A) × (r ≡ Ok a) × (go a ≡ Ok b)
at_line_ok n (Err fault) go e = cc
at_line_ok n (Ok a) go e = (a, refl, e)

or_step_ok : (o : Option Theorem) {th : Theorem} → or_step o ≡ Ok th → o ≡ Some th
or_step_ok None e = cc
or_step_ok (Some a) e = cc (e)

typed_ok : (b : Bool) (o : Option Theorem) {th : Theorem} → cond b (or_step o) (Err Typed) ≡ Ok th → o ≡ Some th
typed_ok true o e = or_step_ok o e
typed_ok false o e = cc

theorem_on_ok : (us : List Tm) (o : Option Theorem) {th : Theorem} → theorem_on us o ≡ Ok th → o ≡ Some th
theorem_on_ok us o e = typed_ok (all_typed us) o e

-- ---- inferences
module _ (t : Table) (s : IsSound t) where
  by_term : (rule : Tm → Option Theorem) (e : ℕ) (th : Theorem) → ((u : Tm) (x : Theorem) → rule u ≡ Some x → IsDerived x) → on_term t rule e ≡ Ok th → IsDerived th
  by_term rule e th sound q =
      let u = or_form_ok (slice_get t.terms e) _ q in
      sound u.0 th (theorem_on_ok (u.0 ∷ []) (rule u.0) u.2)

  by_step : (rule : Theorem → Option Theorem) (n : ℕ) (th : Theorem) → ((a x : Theorem) → rule a ≡ Some x → IsDerived a → IsDerived x) → on_step t rule n ≡ Ok th → IsDerived th
  by_step rule n th sound q =
      let a = or_form_ok (slice_get t.steps n) _ q in
      sound a.0 th (theorem_on_ok [] (rule a.0) a.2) (derived_at t.steps n a.1 s.steps)

  by_both : (rule : Tm → Theorem → Option Theorem) (e n : ℕ) (th : Theorem) → ((u : Tm) (a x : Theorem) → rule u a ≡ Some x → IsDerived a → IsDerived x) → on_both t rule e n ≡ Ok th → IsDerived th
  by_both rule e n th sound q =
      let u = or_form_ok (slice_get t.terms e) _ q in
      let a = or_form_ok (slice_get t.steps n) _ u.2 in
      sound u.0 a.0 th (theorem_on_ok (u.0 ∷ []) (rule u.0 a.0) a.2) (derived_at t.steps n a.1 s.steps)

  by_steps : (rule : Theorem → Theorem → Option Theorem) (m n : ℕ) (th : Theorem) → ((a b x : Theorem) → rule a b ≡ Some x → IsDerived a → IsDerived b → IsDerived x) → on_steps t rule m n ≡ Ok th → IsDerived th
  by_steps rule m n th sound q =
      let a = or_form_ok (slice_get t.steps m) _ q in
      let b = or_form_ok (slice_get t.steps n) _ a.2 in
      sound a.0 b.0 th (theorem_on_ok [] (rule a.0 b.0) b.2) (derived_at t.steps m a.1 s.steps) (derived_at t.steps n b.1 s.steps)

  by_instance : (n : ℕ) (types terms : List (ℕ × ℕ)) (th : Theorem) → instance_on t n types terms ≡ Ok th → IsDerived th
  by_instance n types terms th q =
      let a = or_form_ok (slice_get t.steps n) _ q in
      let es = and_then_ok (type_entries t [] types) _ a.2 in
      let fs = and_then_ok (term_entries t [] terms) _ es.2 in
      instantiated_sound (record { types = es.0; terms = fs.0 }) a.0 th (theorem_on_ok (terms_of fs.0) (instantiated (record { types = es.0; terms = fs.0 }) a.0) fs.2) (derived_at t.steps n a.1 s.steps)

  inferred_sound : (r : Rule) (th : Theorem) → inferred t r ≡ Ok th → IsDerived th
  inferred_sound (ByAxiom a) th q =
      let x = or_form_ok (slice_get t.axioms a) Ok q in
      derived_at t.axioms a (x.1 ∙ ap Some (cc (x.2))) s.axioms
  inferred_sound (Assume e) th q = by_term _ e th assumed_sound q
  inferred_sound (ImpliesIntr e n) th q = by_both _ e n th implies_introduced_sound q
  inferred_sound (ImpliesElim m n) th q = by_steps _ m n th implies_eliminated_sound q
  inferred_sound (ForallIntr e n) th q = by_both _ e n th forall_introduced_sound q
  inferred_sound (ForallElim e n) th q = by_both _ e n th forall_eliminated_sound q
  inferred_sound (Reflexive e) th q = by_term _ e th reflexive_sound q
  inferred_sound (Symmetric n) th q = by_step _ n th turned_sound q
  inferred_sound (Transitive m n) th q = by_steps _ m n th chained_sound q
  inferred_sound (Combination m n) th q = by_steps _ m n th combined_sound q
  inferred_sound (AbstractRule e n) th q = by_both _ e n th abstracted_sound q
  inferred_sound (Beta e) th q = by_term _ e th contracted_sound q
  inferred_sound (Eta e) th q = by_term _ e th shortened_sound q
  inferred_sound (EqualIntr m n) th q = by_steps _ m n th equal_introduced_sound q
  inferred_sound (EqualElim m n) th q = by_steps _ m n th equal_eliminated_sound q
  inferred_sound (InstantiateThm n types terms) th q = by_instance n types terms th q
  inferred_sound (Generalize n xs) th q = by_step (generalized xs) n th (generalized_sound xs) q
  inferred_sound (Cite digits) th q =
      let n = or_form_ok (any_number digits) _ q in
      let e = or_form_ok (slice_get t.ends n.0) _ n.2 in
      subst (λ x. IsDerived x) (cc (e.2)) (end_at t.ends n.0 e.1 s.ends).1

-- ---- lines
cond_ok : {A : Type 0} (b : Bool) (r : Result A Fault) (f : Fault) {u : A} → cond b r (Err f) ≡ Ok u → r ≡ Ok u
cond_ok true r f e = e
cond_ok false r f e = cc

cond_err : {A : Type 0} (b : Bool) (r : Result A Fault) (f : Fault) {u : A} → cond b (Err f) r ≡ Ok u → (b ≡ false) × (r ≡ Ok u)
cond_err true r f e = cc
cond_err false r f e = (refl, e)

is_none : {A : Type 0} (o : Option A) → is_some o ≡ false → o ≡ None
is_none None e = refl
is_none (Some a) e = cc

abbrev ok_table : Table → Result Table Fault
ok_table t = Ok t

kept : {v u : Table} → ok_table v ≡ Ok u → IsSound v → IsSound u
kept e s = subst (λ x. IsSound x) (cc (e)) s

-- a table with the same theorems
same : {t : Table} {u : Table} → IsSound t → t.axioms ≡ u.axioms → t.steps ≡ u.steps → t.ends ≡ u.ends → IsSound u
same s a b c = record { axioms = subst (λ x. AreDerived x) a s.axioms; steps = subst (λ x. AreDerived x) b s.steps; ends = subst (λ x. EndsAreSound x) c s.ends }

constructed_sound : (t : Table) (c : List ℕ) (Ts : List Ty) (o : Option ℕ) (u : Table) → with_constructed t c Ts o ≡ Ok u → IsSound t → IsSound u
constructed_sound t c Ts None u q s = kept q (same s refl refl refl)
constructed_sound t c Ts (Some n) u q s = kept (cond_ok (nat_eq n (length Ts)) _ Form q) (same s refl refl refl)

constant_sound : (t : Table) (c : List ℕ) (o : Option Ty) → IsSound t → IsSound (with_constant t c o)
constant_sound t c None s = same s refl refl refl
constant_sound t c (Some T) s = s

accepted_prop : (ds : List Declaration) (x : List ℕ) (p : Tm) → axiom_refusal ds x p ≡ None → IsProposition p
accepted_prop ds x p e = let r = subst (λ o. IsRefusedFor ds x p o) e (refused_for ds x p) in r.2

with_axiom_sound : (t : Table) (x : List ℕ) (p : Tm) (u : Table) → with_axiom t x p ≡ Ok u → IsSound t → IsSound u
with_axiom_sound t x p u q s =
    let new = cond_err (is_some (axiom_prop t.declared x)) _ Form q in
    let well = cond_err (is_some (axiom_refusal t.declared x p)) _ Typed new.1 in
    let typed : IsProposition p = accepted_prop t.declared x p (is_none _ well.0) in
    kept well.1 (record { axioms = derived_more t.axioms (axiom_theorem x p) s.axioms (axiom_sound x p (axiom_theorem x p) refl typed); steps = s.steps; ends = s.ends })

with_end_sound : (t : Table) (x : List ℕ) (th : Theorem) (hs : List Tm) (u : Table) → th.hyps ≡ hs → with_end t x th hs ≡ Ok u → IsDerived th → IsSound t → IsSound u
with_end_sound t x th [] u h q d s = kept q (record { axioms = s.axioms; steps = s.steps; ends = end_more t.ends (record { name = x; theorem = th }) s.ends (h, d) })
with_end_sound t x th (a ∷ hs) u h q d s = cc

taken_sound : (t : Table) (l : Line) (u : Table) → taken t l ≡ Ok u → IsSound t → IsSound u
taken_sound t (line.TypeCon c ns) u q s = let Ts = or_form_ok (all_at t.types ns) _ q in constructed_sound t c Ts.0 (arity_of t.declared c) u Ts.2 s
taken_sound t (line.TypeFixed x) u q s = kept q (same s refl refl refl)
taken_sound t (line.TypeUnknown x i) u q s = kept q (same s refl refl refl)
taken_sound t (line.TermConst c n) u q s =
    let T = or_form_ok (slice_get t.types n) _ q in
    let d : IsSound (with_constant t c (constant_type t.declared c)) = constant_sound t c (constant_type t.declared c) s in
    kept T.2 (same d refl refl refl)
taken_sound t (line.TermFree x n) u q s = let T = or_form_ok (slice_get t.types n) _ q in kept T.2 (same s refl refl refl)
taken_sound t (line.TermUnknown x i n) u q s = let T = or_form_ok (slice_get t.types n) _ q in kept T.2 (same s refl refl refl)
taken_sound t (line.TermBound i) u q s = kept q (same s refl refl refl)
taken_sound t (line.TermAbs x n e) u q s =
    let T = or_form_ok (slice_get t.types n) _ q in
    let b = or_form_ok (slice_get t.terms e) _ T.2 in
    kept b.2 (same s refl refl refl)
taken_sound t (line.TermApp f a) u q s =
    let g = or_form_ok (slice_get t.terms f) _ q in
    let b = or_form_ok (slice_get t.terms a) _ g.2 in
    kept b.2 (same s refl refl refl)
taken_sound t (line.Axiom x e) u q s = let p = or_form_ok (slice_get t.terms e) _ q in with_axiom_sound t x p.0 u p.2 s
taken_sound t (line.Step r) u q s =
    let th = and_then_ok (inferred t r) _ q in
    kept th.2 (record { axioms = s.axioms; steps = derived_more t.steps th.0 s.steps (inferred_sound t s r th.0 th.1); ends = s.ends })
taken_sound t (line.End n x) u q s =
    let th = or_form_ok (slice_get t.steps n) _ q in
    with_end_sound t x th.0 th.0.hyps u refl th.2 (derived_at t.steps n th.1 s.steps) s

read_sound : (t : Table) (text : List ℕ) (r : Table × Bool) → read_line t text ≡ Ok r → IsSound t → IsSound r.0
read_sound t text r q s =
    let l = or_form_ok (line_of (words_of text)) _ q in
    let u = and_then_ok (taken t l.0) _ l.2 in
    let made : (u.0, is_end l.0) ≡ r = cc (u.2) in
    subst (λ (x : Table × Bool). IsSound x.0) made (taken_sound t l.0 u.0 u.1 s)

abbrev checked_table : Table → Result Table Refusal
checked_table t = Ok t

kept_at : {v u : Table} → checked_table v ≡ Ok u → IsSound v → IsSound u
kept_at e s = subst (λ x. IsSound x) (cc (e)) s

closed_sound : (n : ℕ) (t : Table) (ended : Bool) (part : List ℕ) (u : Table) → closed n t ended part ≡ Ok u → IsSound t → IsSound u
closed_sound n t ended (b ∷ bs) u q s = cc
closed_sound n t true [] u q s = kept_at q s
closed_sound n t false [] u q s = cc

taken_from_sound : (n : ℕ) (t : Table) (ended : Bool) (parts : List (List ℕ)) (u : Table) → taken_from n t ended parts ≡ Ok u → IsSound t → IsSound u
taken_from_sound n t ended [] u q s = kept_at q s
taken_from_sound n t ended (part ∷ []) u q s = closed_sound n t ended part u q s
taken_from_sound n t ended (part ∷ next ∷ parts) u q s =
    let r = at_line_ok n (read_line t part) _ q in
    taken_from_sound (n + 1) r.0.0 r.0.1 (next ∷ parts) u r.2 (read_sound t part r.0 r.1 s)

-- ---- what is accepted
abbrev statements : List NamedProp → List Tm
statements axioms = map (λ (a : NamedProp). bare a.prop) axioms

put_here : (a b : NamedProp) (bs : List NamedProp) (p : Tm) (o : Ordering) → (Member p (statements (a ∷ bs)) → Member p (statements (put_axiom a bs))) → Member p (statements (a ∷ b ∷ bs)) → Member p (statements (elim o [ Less ↦ b ∷ put_axiom a bs | Equal ↦ a ∷ b ∷ bs | Greater ↦ a ∷ b ∷ bs ]))
put_here a b bs p Less later (inl e) = inr (later (inl e))
put_here a b bs p Less later (inr (inl e)) = inl e
put_here a b bs p Less later (inr (inr m)) = inr (later (inr m))
put_here a b bs p Equal later m = m
put_here a b bs p Greater later m = m

put_member : (a : NamedProp) (bs : List NamedProp) (p : Tm) → Member p (statements (a ∷ bs)) → Member p (statements (put_axiom a bs))
put_member a [] p m = m
put_member a (b ∷ bs) p m = put_here a b bs p (name_cmp b.name a.name) (put_member a bs p) m

all_by_name : (axioms : List NamedProp) → Within (statements axioms) (statements (by_name axioms))
all_by_name [] p m = m
all_by_name (a ∷ rest) p (inl e) = put_member a (by_name rest) p (inl e)
all_by_name (a ∷ rest) p (inr m) = put_member a (by_name rest) p (inr (all_by_name rest p m))

end_proved : (e : End) → EndIsSound e → IsProved (accepted e)
end_proved e h =
    let d = h.1.derivation in
    record { derivation = record { used = d.used; tree = tree_more (all_by_name (axioms_of e.theorem.base)) d.tree; within = subst (λ (H : List Tm). Within d.used (map bare H)) h.0 d.within } }

ends_proved : (es : List End) → EndsAreSound es → AreProved (map accepted es)
ends_proved [] h = tt
ends_proved (e ∷ es) h = (end_proved e h.0, ends_proved es h.1)

table_proved : (r : Result Table Refusal) (list : List Accepted) → ((u : Table) → r ≡ Ok u → IsSound u) → accepted_of r ≡ Ok list → AreProved list
table_proved (Ok u) list h q = subst (λ x. AreProved x) (cc (q)) (ends_proved u.ends (h u refl).ends)
table_proved (Err refusal) list h q = cc

empty_sound : IsSound empty
empty_sound = record { axioms = tt; steps = tt; ends = tt }

under_header : (b : Bool) (r : Result (List Accepted) Refusal) (f : Refusal) (list : List Accepted) → (r ≡ Ok list → AreProved list) → cond b r (Err f) ≡ Ok list → AreProved list
under_header true r f list h q = h q
under_header false r f list h q = cc

lines_proved : (parts : List (List ℕ)) (list : List Accepted) → checked_lines parts ≡ Ok list → AreProved list
lines_proved [] list q = cc
lines_proved (header ∷ []) list q = cc
lines_proved (header ∷ part ∷ parts) list q =
    under_header
    (name_eq header (codes "isacert 1"))
    (accepted_of (taken_from 2 empty false (part ∷ parts)))
    (FormAt 1)
    list
    (table_proved (taken_from 2 empty false (part ∷ parts)) list (λ u e. taken_from_sound 2 empty false (part ∷ parts) u e empty_sound))
    q

pub accepted_are_proved : AcceptedAreProved
accepted_are_proved [] list q = let same : [] ≡ list = cc (q) in subst (λ x. AreProved x) same tt
accepted_are_proved (b ∷ bs) list q = lines_proved (slice_split (λ x. nat_eq x 10) (b ∷ bs)) list q
