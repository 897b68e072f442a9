-- The inferences that lift a rule answer the lifted rule.
use Rattle.std.specs.Prelude.{option_and_then, Result, Ok, Err}
use Rattle.std.proofs.Common.{◌≡◌, ℕ, ◌+◌, ◌<◌, ◌≤◌, arith, length, List, [], ◌∷◌, ◌++◌, map, Bool, true, false, cond, ◌||◌, Option, Some, None, refl, sym, ap, ◌∙◌, subst, append-nil}
use Rattle.isa_terms.specs.Types.{Ty}
use Rattle.isa_terms.specs.Terms.{Tm, Const, Free, Unknown, Bound, Abs, App, bare}
use Rattle.isa_terms.specs.Replace.{put}
use Rattle.isa_terms.specs.Binding.{occurs_in, close_at}
use Rattle.isa_terms.specs.Normal.{IsNormal}
use Rattle.isa_terms.specs.Sets.{has, joined}
use Rattle.isa_terms.specs.Instances.{Each}
use Rattle.isa_terms.proofs.Equal.{ty_decides}
use Rattle.isa_terms.proofs.Bare.{close_bare}
use Rattle.isa_terms.proofs.Typed.{Typed, TConst, TAbs, TApp, type_of_typed, typed_of_type}
use Rattle.isa_kernel.specs.Logic.{prop, imp, all}
use Rattle.isa_kernel.specs.declared.base.BaseEntry.{BaseEntry}
use Rattle.isa_kernel.specs.Axioms.{propositions, joined_bases}
use Rattle.isa_kernel.specs.Derivation.{Derives}
use Rattle.isa_kernel.specs.Theorem.{Theorem, IsDerived}
use Rattle.isa_kernel.specs.declared.inference.InferenceError.{InferenceError}
use Rattle.isa_kernel.specs.Inferences.{Answers, implies_eliminated, forall_introduced, instantiated}
use Rattle.isa_kernel.proofs.Members.{bares}
use Rattle.isa_kernel.proofs.Fill.{Var, types, fill, fill_typed, close_fill}
use Rattle.isa_kernel.proofs.Preserved.{binary_typed}
use Rattle.isa_kernel.proofs.Closed.{fill_none}
use Rattle.isa_kernel.proofs.Quantifier.{quantifier}
use Rattle.isa_subgoal.specs.declared.lift.Parameter.{Parameter}
use Rattle.isa_subgoal.specs.Premises.{implies, premises, conclusion, rule_form}
use Rattle.isa_subgoal.specs.Private.Steps.{introduced, raised_by}
use Rattle.isa_kernel.specs.Derived.{renamed}
use Rattle.isa_subgoal.specs.Private.Reshaping.{opened, colons}
use Rattle.isa_subgoal.specs.Lift.{quantified, lift, lift_over, lifted_prop, lifted_rule, types_under, Lifts}
use Rattle.isa_subgoal.specs.Private.Lifting.{longest_name, variables_from, turned, lifted_entries, raised_at, specialized, quantified_over, met_over, lifted_over, lifted_by}
use Rattle.isa_subgoal.proofs.Deriving.{ArePropositions, tm_eq_same, has_type_of, derived_propositions}
use Rattle.isa_subgoal.proofs.Counts.{parts_made}
use Rattle.isa_subgoal.proofs.Splitting.{premises_all, same_length}
use Rattle.isa_subgoal.proofs.Cutting.{more_hyps, fewer_hyps, fewer_none, introduced_is, more_within, raised_by_is}
use Rattle.isa_subgoal.proofs.Opening.{frees, opened_is, put_fill}
use Rattle.isa_subgoal.proofs.Spelling.{body_typed, AllTyped, implies_at}
use Rattle.isa_subgoal.proofs.Regaining.{IsShort, AllShort, ShortVars, short_more, all_short_more, vars_short_more, misses, new_vars, colons_length, fill_implies, filled_propositions}
use Rattle.isa_subgoal.proofs.Stating.{renamed_same}
use Rattle.isa_subgoal.proofs.Bases.{lifted_by_is}
use Rattle.isa_subgoal.proofs.LiftedRules.{lift_typed, sub, fill_lift, sub_implies, rule_at}

-- ---- the variables
abbrev pub vars : ℕ → List Parameter → List Var
vars n [] = []
vars n (x ∷ xs) = (colons n, x.typ) ∷ vars (n + 1) xs

abbrev pub turned_vars : List Var → List Var → List Var
turned_vars [] us = us
turned_vars (v ∷ vs) us = turned_vars vs (v ∷ us)

frees_vars : (n : ℕ) (xs : List Parameter) → frees (vars n xs) ≡ variables_from n xs
frees_vars n [] = refl
frees_vars n (x ∷ xs) = ap (λ ts. Free (colons n) x.typ ∷ ts) (frees_vars (n + 1) xs)

frees_turned : (vs us : List Var) → frees (turned_vars vs us) ≡ turned (frees vs) (frees us)
frees_turned [] us = refl
frees_turned (v ∷ vs) us = frees_turned vs (v ∷ us)

types_turned : (n : ℕ) (xs : List Parameter) (us : List Var) → types (turned_vars (vars n xs) us) ≡ types_under xs (types us)
types_turned n [] us = refl
types_turned n (x ∷ xs) us = types_turned (n + 1) xs ((colons n, x.typ) ∷ us)

length_turned : (n : ℕ) (xs : List Parameter) (us : List Var) → length (turned_vars (vars n xs) us) ≡ length xs + length us
length_turned n [] us = omega arith
length_turned n (x ∷ xs) us = omega (arith, length_turned (n + 1) xs ((colons n, x.typ) ∷ us))

-- ---- names
pub short_longest : (n : ℕ) (t : Tm) → longest_name t < n → IsShort n t
short_longest n (Const x T) l = tt
short_longest n (Free x T) l = l
short_longest n (Unknown x i T) l = tt
short_longest n (Bound i) l = tt
short_longest n (Abs x T b) l = short_longest n b l
short_longest n (App f a) l = (short_longest n f (omega (arith, l)), short_longest n a (omega (arith, l)))

short_implies : (n : ℕ) (ps : List Tm) (c : Tm) → IsShort n (implies ps c) → AllShort n ps × IsShort n c
short_implies n [] c s = (tt, s)
short_implies n (p ∷ ps) c s = let r = short_implies n ps c s.1 in ((s.0.1, r.0), r.1)

all_misses : (x : List ℕ) (S : Ty) (ts : List Tm) → AllShort (length x) ts → occurs_in x S ts ≡ false
all_misses x S [] s = refl
all_misses x S (t ∷ ts) s = (λ i. misses x S t s.0 i || occurs_in x S ts) ∙ all_misses x S ts s.1

short_append : (n : ℕ) (ts us : List Tm) → AllShort n ts → AllShort n us → AllShort n (ts ++ us)
short_append n [] us s r = r
short_append n (t ∷ ts) us s r = (s.0, short_append n ts us s.1 r)

short_joined : (n : ℕ) (H : List Tm) (p : Tm) → AllShort n H → IsShort n p → AllShort n (joined H (p ∷ []))
short_joined n H p s r = short_append n H _ s (go (has H p))
  where
    go : (b : Bool) → AllShort n (cond b [] (p ∷ []))
    go true = tt
    go false = (r, tt)

short_hyps : (n : ℕ) (H ps : List Tm) → AllShort n H → AllShort n ps → AllShort n (more_hyps H ps)
short_hyps n H [] s r = s
short_hyps n H (p ∷ ps) s r = short_hyps n (joined H (p ∷ [])) ps (short_joined n H p s r.0) r.1

-- ---- types
quantified_typed : (xs : List Parameter) (G : List Ty) (p : Tm) → Typed (types_under xs G) p prop → Typed G (quantified xs p) prop
quantified_typed [] G p d = d
quantified_typed (x ∷ xs) G p d = TApp TConst (TAbs (quantified_typed xs (x.typ ∷ G) p d))

all_typed : (G : List Ty) (hs : List Tm) → Each (λ h. Typed G h prop) hs → AllTyped G hs
all_typed G [] w = tt
all_typed G (h ∷ hs) w = (w.0, all_typed G hs w.1)

-- ---- from `!!`s to the variables, and back
abbrev theorem : List Tm → Tm → List BaseEntry → Theorem
theorem H p B = record { hyps = H; prop = p; base = B }

specialized_is : (xs : List Parameter) (n : ℕ) (us : List Var) (p : Tm) (H : List Tm) (B : List BaseEntry) → Typed (types us) (quantified xs p) prop → specialized (variables_from n xs) (theorem H (fill us 0 (quantified xs p)) B) ≡ Some (theorem H (fill (turned_vars (vars n xs) us) 0 p) B)
unfolding specialized
specialized_is [] n us p H B d = refl
specialized_is (x ∷ xs) n us p H B d =
    let c : List ℕ = colons n in
    let S : Ty = x.typ in
    let g : Tm = quantified xs p in
    let e : Typed (S ∷ types us) g prop = (body_typed d).1 in
    ap (λ k. option_and_then {T = Theorem} {U = Theorem} (λ y. specialized (variables_from (n + 1) xs) y) (cond k (Some (theorem H (put (Free c S) 0 (fill us 1 g)) B)) None)) ((ty_decides S S).1 refl)
    ∙ ap (λ q. specialized (variables_from (n + 1) xs) (theorem H q B)) (put_fill [] c S us refl e)
    ∙ specialized_is xs (n + 1) ((c, S) ∷ us) p H B e

-- the inferences give the proposition under `!!`s
record Quantifies (us : List Var) (t : Tm) (th : Theorem) (o : Option Theorem) : Type 0 where
  theorem_of : Theorem
  found : o ≡ Some theorem_of
  same : bare theorem_of.prop ≡ bare (fill us 0 t)
  hyps_of : theorem_of.hyps ≡ th.hyps
  base_of : theorem_of.base ≡ th.base

quantified_is : (xs : List Parameter) (n : ℕ) (us : List Var) (p : Tm) (th : Theorem) → bare th.prop ≡ bare (fill (turned_vars (vars n xs) us) 0 p) → IsShort n (quantified xs p) → ShortVars n us → AllShort n th.hyps → Quantifies us (quantified xs p) th (quantified_over (variables_from n xs) th)
unfolding quantified_over
quantified_is [] n us p th e s v h = record { theorem_of = th; found = refl; same = e; hyps_of = refl; base_of = refl }
quantified_is (x ∷ xs) n us p th e s v h =
    let c : List ℕ = colons n in
    let S : Ty = x.typ in
    let g : Tm = quantified xs p in
    let l : n ≤ n + 1 = omega arith in
    let len : length c ≡ n = colons_length n in
    let g_short : IsShort n g = s.1 in
    let here : length c < n + 1 = omega (arith, len) in
    let r : Quantifies ((c, S) ∷ us) g th (quantified_over (variables_from (n + 1) xs) th) = quantified_is xs (n + 1) ((c, S) ∷ us) p th e (short_more n (n + 1) g l g_short) (here, vars_short_more n (n + 1) us l v) (all_short_more n (n + 1) th.hyps l h) in
    let y : Theorem = r.theorem_of in
    let away : occurs_in c S y.hyps ≡ false = ap (occurs_in c S) r.hyps_of ∙ all_misses c S th.hyps (subst (λ m. AllShort m th.hyps) (sym len) h) in
    record {
      theorem_of = theorem y.hyps (all c S (close_at c S 0 y.prop)) y.base;
      found = ap (λ o. option_and_then {T = Theorem} {U = Theorem} (λ u. forall_introduced (Free c S) u) o) r.found
          ∙ ap (λ k. cond k None (Some (theorem y.hyps (all c S (close_at c S 0 y.prop)) y.base))) away;
      same = ap (λ b. App (quantifier S) (Abs [] S b)) (close_bare c S 0 y.prop ∙ ap (close_at c S 0) r.same ∙ sym (close_bare c S 0 (fill ((c, S) ∷ us) 0 g))
          ∙ ap bare (close_fill c S us 0 g (misses c S g (subst (λ m. IsShort m g) (sym len) g_short)) (new_vars c S us (subst (λ m. ShortVars m us) (sym len) v))));
      hyps_of = r.hyps_of;
      base_of = r.base_of;
    }

-- ---- the premises
module _ (xs : List Parameter) (hs : List Tm) (n : ℕ) where
  abbrev vs : List Var
  vs = turned_vars (vars n xs) []

  -- a proposition of the rule under the assumptions, and at the variables
  abbrev under : Tm → Tm
  under p = implies hs (lift xs 0 p)

  abbrev at_vars : Tm → Tm
  at_vars p = fill vs 0 (under p)

  met_over_is : (ps H : List Tm) (c : Tm) (B : List BaseEntry) → Each (λ p. Typed [] (lift_over xs hs p) prop) ps → met_over (variables_from n xs) (map (lift_over xs hs) ps) (theorem H (implies (map at_vars ps) c) B) ≡ Some (theorem (more_hyps H (map (lift_over xs hs) ps)) c B)
  unfolding met_over
  met_over_is [] H c B w = refl
  met_over_is (p ∷ ps) H c B w =
      let Q : Tm = lift_over xs hs p in
      let us : List Tm = variables_from n xs in
      let rest : List Tm = map (lift_over xs hs) ps in
      let th : Theorem = theorem H (imp (at_vars p) (implies (map at_vars ps) c)) B in
      let special : specialized us (theorem (Q ∷ []) Q []) ≡ Some (theorem (Q ∷ []) (at_vars p) []) = ap (λ q. specialized us (theorem (Q ∷ []) q [])) (sym (fill_none 0 Q)) ∙ specialized_is xs n [] (under p) (Q ∷ []) [] w.0 in
      ap (λ b. option_and_then {T = Theorem} {U = Theorem} (λ a. option_and_then {T = Theorem} {U = Theorem} (λ m. option_and_then {T = Theorem} {U = Theorem} (λ t. met_over us rest t) (implies_eliminated th m)) (specialized us a)) (cond b (Some (theorem (Q ∷ []) Q [])) None)) (has_type_of Q (type_of_typed w.0))
      ∙ ap (λ o. option_and_then {T = Theorem} {U = Theorem} (λ m. option_and_then {T = Theorem} {U = Theorem} (λ t. met_over us rest t) (implies_eliminated th m)) o) special
      ∙ ap (λ b. option_and_then {T = Theorem} {U = Theorem} (λ t. met_over us rest t) (cond b (Some (theorem (joined H (Q ∷ [])) (implies (map at_vars ps) c) (joined_bases B []))) None)) (tm_eq_same (at_vars p))
      ∙ ap (λ D. met_over us rest (theorem (joined H (Q ∷ [])) (implies (map at_vars ps) c) D)) (append-nil B)
      ∙ met_over_is ps (joined H (Q ∷ [])) c B w.1

  propositions_over : (ps : List Tm) → Each (λ p. Typed [] (lift_over xs hs p) prop) ps → ArePropositions (map (lift_over xs hs) ps)
  propositions_over [] w = tt
  propositions_over (p ∷ ps) w = (type_of_typed w.0, propositions_over ps w.1)

  lifted_over_is : (ps : List Tm) (c : Tm) (B : List BaseEntry) → Each (λ p. Typed [] (lift_over xs hs p) prop) ps → AllShort n (map (lift_over xs hs) ps) → IsShort n (lift_over xs hs c) →
      (w : Tm) × (bare w ≡ bare (lift_over xs hs c)) × (lifted_over (variables_from n xs) (map (lift_over xs hs) ps) (theorem [] (implies (map at_vars ps) (at_vars c)) B) ≡ Some (theorem [] (implies (map (lift_over xs hs) ps) w) B))
  unfolding lifted_over
  lifted_over_is ps c B w s t =
      let us : List Tm = variables_from n xs in
      let Qs : List Tm = map (lift_over xs hs) ps in
      let K : List Tm = more_hyps [] Qs in
      let core : Theorem = theorem K (at_vars c) B in
      let q : Quantifies [] (lift_over xs hs c) core (quantified_over us core) = quantified_is xs n [] (under c) core refl t tt (short_hyps n [] Qs tt s) in
      let x : Theorem = q.theorem_of in
      let none : fewer_hyps Qs x.hyps ≡ [] = ap (fewer_hyps Qs) q.hyps_of ∙ fewer_none Qs K (more_within [] Qs Qs (λ t m. absurd m) (λ t m. m)) in (
        x.prop,
        q.same ∙ ap bare (fill_none 0 (lift_over xs hs c)),
        ap (λ o. option_and_then {T = Theorem} {U = Theorem} (λ y. option_and_then {T = Theorem} {U = Theorem} (λ z. introduced Qs z) (quantified_over us y)) o) (met_over_is ps [] (at_vars c) B w)
            ∙ ap (λ o. option_and_then {T = Theorem} {U = Theorem} (λ z. introduced Qs z) o) q.found
            ∙ introduced_is Qs x.hyps x.base x.prop (propositions_over ps w)
            ∙ (λ i. Some (theorem (none i) (implies Qs x.prop) (q.base_of i))),
      )

  -- ---- the rule at the variables
  same_types : types vs ≡ types_under xs []
  same_types = types_turned n xs []

  same_count : length vs ≡ length xs
  same_count = length_turned n xs [] ∙ zero_more (length xs)
    where
      zero_more : (k : ℕ) → k + 0 ≡ k
      zero_more k = omega arith

  abbrev here : Tm → Tm
  here p = sub xs vs same_types same_count p

  here_is : {p : Tm} → Typed [] p prop → AllTyped (types_under xs []) hs → implies (map (fill vs 0) hs) (here p) ≡ at_vars p
  here_is {p} d w = ap (implies (map (fill vs 0) hs)) (sym (fill_lift xs vs same_types same_count d)) ∙ sym (fill_implies vs 0 hs (lift xs 0 p))

  all_here : (ps : List Tm) → Each (λ p. Typed [] p prop) ps → AllTyped (types_under xs []) hs → map (implies (map (fill vs 0) hs)) (map here ps) ≡ map at_vars ps
  all_here [] d w = refl
  all_here (p ∷ ps) d w = λ i. here_is d.0 w i ∷ all_here ps d.1 w i

  here_typed : {p : Tm} → Typed [] p prop → Typed [] (here p) prop
  here_typed {p} d = subst (λ t. Typed [] t prop) (fill_lift xs vs same_types same_count d) (fill_typed [] vs (sym same_types) (lift_typed xs d))

  propositions_here : (ps : List Tm) → Each (λ p. Typed [] p prop) ps → ArePropositions (map here ps)
  propositions_here [] d = tt
  propositions_here (p ∷ ps) d = (type_of_typed (here_typed d.0), propositions_here ps d.1)

  all_opened : (ts : List Tm) → map (opened (frees vs) 0) ts ≡ map (fill vs 0) ts
  all_opened [] = refl
  all_opened (t ∷ ts) = λ i. opened_is vs 0 t i ∷ all_opened ts i

  raised_at_is : (th : Theorem) → th.hyps ≡ [] → IsNormal th.prop → Each (λ p. Typed [] p prop) (premises th.prop) → Typed [] (conclusion th.prop) prop → AllTyped (types_under xs []) hs →
      raised_at xs (frees vs) hs th ≡ Some (theorem [] (implies (map at_vars (premises th.prop)) (at_vars (conclusion th.prop))) th.base)
  unfolding raised_at
  raised_at_is th h m dp dc w =
      let ps : List Tm = premises th.prop in
      let c : Tm = conclusion th.prop in
      let B : List BaseEntry = th.base in
      let hs' : List Tm = map (fill vs 0) hs in
      let rule : Theorem = theorem [] (implies (map here ps) (here c)) B in
      let made : instantiated (record { types = []; terms = lifted_entries xs (frees vs) th.prop [] }) th ≡ Some rule =
      rule_at xs vs same_types same_count th h m ∙ ap (λ p. Some (theorem [] p B)) (ap here (parts_made th.prop) ∙ sub_implies xs vs same_types same_count ps c) in
      let form : rule_form (length ps) rule ≡ Some (map here ps, here c) = ap (λ k. rule_form k rule) (sym (same_length here ps)) ∙ premises_all (map here ps) (here c) in
      ap (λ o. option_and_then {T = Theorem} {U = Theorem} (λ r. option_and_then {T = List Tm × Tm} {U = Theorem} (λ parts. raised_by (map (opened (frees vs) 0) hs) parts.0 r) (rule_form (length ps) r)) o) made
      ∙ ap (λ o. option_and_then {T = List Tm × Tm} {U = Theorem} (λ parts. raised_by (map (opened (frees vs) 0) hs) parts.0 rule) o) form
      ∙ ap (λ us. raised_by us (map here ps) rule) (all_opened hs)
      ∙ raised_by_is hs' (map here ps) B (here c) (filled_propositions vs hs (subst (λ G. AllTyped G hs) (sym same_types) w)) (propositions_here ps dp)
      ∙ (λ i. Some (theorem [] (implies (all_here ps dp w i) (here_is dc w i)) B))

-- ---- the whole
each_proposition : (ps : List Tm) → ArePropositions ps → Each (λ p. Typed [] p prop) ps
each_proposition [] w = tt
each_proposition (p ∷ ps) w = (typed_of_type [] p prop w.0, each_proposition ps w.1)

lifted_typed : (xs : List Parameter) (hs ps : List Tm) → AllTyped (types_under xs []) hs → Each (λ p. Typed [] p prop) ps → Each (λ p. Typed [] (lift_over xs hs p) prop) ps
lifted_typed xs hs [] w d = tt
lifted_typed xs hs (p ∷ ps) w d = (quantified_typed xs [] (implies hs (lift xs 0 p)) (implies_at hs w (lift_typed xs d.0)), lifted_typed xs hs ps w d.1)

pub lifted_by_gives : (xs : List Parameter) (hs : List Tm) (th : Theorem) (n : ℕ) → longest_name (lifted_prop xs hs th) < n → IsDerived th → th.hyps ≡ [] → IsNormal th.prop → Each (λ h. Typed (types_under xs []) h prop) hs →
    lifted_by xs hs (variables_from n xs) (turned (variables_from n xs) []) (map (lift_over xs hs) (premises th.prop)) (lifted_prop xs hs th) th ≡ Some (lifted_rule xs hs th)
unfolding lifted_by
lifted_by_gives xs hs th n l d h m w =
    let ps : List Tm = premises th.prop in
    let c : Tm = conclusion th.prop in
    let B : List BaseEntry = th.base in
    let us : List Tm = variables_from n xs in
    let Qs : List Tm = map (lift_over xs hs) ps in
    let W : Tm = lifted_prop xs hs th in
    let vs : List Var = turned_vars (vars n xs) [] in
    let inner : frees vs ≡ turned us [] = frees_turned (vars n xs) [] ∙ ap (λ ts. turned ts []) (frees_vars n xs) in
    let parts = derived_propositions ps c (subst (λ (x : Theorem). Derives (propositions x.base) (bares x.hyps) (bare x.prop)) (λ i. theorem (h i) (parts_made th.prop i) B) d.derivation) in
    let dp : Each (λ p. Typed [] p prop) ps = each_proposition ps parts.0 in
    let dc : Typed [] c prop = typed_of_type [] c prop parts.1 in
    let hw : AllTyped (types_under xs []) hs = all_typed (types_under xs []) hs w in
    let dq : Each (λ p. Typed [] (lift_over xs hs p) prop) ps = lifted_typed xs hs ps hw dp in
    let s = short_implies n Qs (lift_over xs hs c) (short_longest n W l) in
    let raised_to = raised_at_is xs hs n th h m dp dc hw in
    let lifted = lifted_over_is xs hs n ps c B dq s.0 s.1 in
    let same : bare W ≡ bare (implies Qs lifted.0) = bare_implies Qs (lift_over xs hs c) lifted.0 (sym lifted.1) in
    ap (λ vs. option_and_then {T = Theorem} {U = Theorem} (λ r. option_and_then {T = Theorem} {U = Theorem} (λ y. renamed W y) (lifted_over us Qs r)) (raised_at xs vs hs th)) (sym inner)
    ∙ ap (λ o. option_and_then {T = Theorem} {U = Theorem} (λ r. option_and_then {T = Theorem} {U = Theorem} (λ y. renamed W y) (lifted_over us Qs r)) o) raised_to
    ∙ ap (λ o. option_and_then {T = Theorem} {U = Theorem} (λ y. renamed W y) o) lifted.2
    ∙ renamed_same W (implies Qs lifted.0) [] B same
  where
    bare_implies : (ps : List Tm) (a b : Tm) → bare a ≡ bare b → bare (implies ps a) ≡ bare (implies ps b)
    bare_implies [] a b e = e
    bare_implies (p ∷ ps) a b e = ap (imp (bare p)) (bare_implies ps a b e)

-- ---- the answers of the call
pub record IsLifting (xs : List Parameter) (hs : List Tm) (th : Theorem) (n : ℕ) (outer inner qs : List Tm) (w : Tm) : Type 0 where
  pub outer_is : outer ≡ variables_from n xs
  pub inner_is : inner ≡ turned outer []
  pub premises_are : qs ≡ map (lift_over xs hs) (premises th.prop)
  pub whole : w ≡ lifted_prop xs hs th
  pub longer : n ≡ longest_name w + 1

lifting_gives : (xs : List Parameter) (hs : List Tm) (th : Theorem) (n : ℕ) (outer inner qs : List Tm) (w : Tm) → IsLifting xs hs th n outer inner qs w → IsDerived th → th.hyps ≡ [] → IsNormal th.prop → Each (λ h. Typed (types_under xs []) h prop) hs → lifted_by xs hs outer inner qs w th ≡ Some (lifted_rule xs hs th)
lifting_gives xs hs th n outer inner qs w l d h m t =
    (λ i. lifted_by xs hs (l.outer_is i) ((l.inner_is ∙ ap (λ us. turned us []) l.outer_is) i) (l.premises_are i) (l.whole i) th)
    ∙ lifted_by_gives xs hs th n (longer (longest_name (lifted_prop xs hs th)) n (l.longer ∙ ap (λ u. longest_name u + 1) l.whole)) d h m t
  where
    longer : (k m : ℕ) → m ≡ k + 1 → k < m
    longer k m e = omega (arith, e)

pub lifts_err : (xs : List Parameter) (hs : List Tm) (th : Theorem) (n : ℕ) (outer inner qs : List Tm) (w : Tm) (e : InferenceError) (answer : Result Theorem InferenceError) → IsLifting xs hs th n outer inner qs w → IsDerived th → Answers (Err e) (lifted_by xs hs outer inner qs w th) → answer ≡ Err e → Lifts xs hs th answer
lifts_err xs hs th n outer inner qs w e answer l d a q = λ h m t.
    subst (λ (r : Result Theorem InferenceError). Answers r (Some (lifted_rule xs hs th))) (sym q)
    (subst (λ (o : Option Theorem). Answers (Err e) o) (lifting_gives xs hs th n outer inner qs w l d h m t) a)

lifting_same : (xs : List Parameter) (hs : List Tm) (th : Theorem) (n : ℕ) (outer inner qs : List Tm) (w : Tm) (x : Theorem) → IsLifting xs hs th n outer inner qs w → IsDerived th → lifted_by xs hs outer inner qs w th ≡ Some x → th.hyps ≡ [] → IsNormal th.prop → Each (λ h. Typed (types_under xs []) h prop) hs → ◌≡◌ {A = Option Theorem} (Some (lifted_rule xs hs th)) (Some x)
lifting_same xs hs th n outer inner qs w x l d a h m t = sym (lifting_gives xs hs th n outer inner qs w l d h m t) ∙ a

pub lifts_none : (xs : List Parameter) (hs : List Tm) (th : Theorem) (n : ℕ) (outer inner qs : List Tm) (w : Tm) (x : Theorem) (answer : Result Theorem InferenceError) → IsLifting xs hs th n outer inner qs w → IsDerived th → lifted_by xs hs outer inner qs w th ≡ Some x → 0 < length x.hyps → Lifts xs hs th answer
lifts_none xs hs th n outer inner qs w x answer l d a k = λ h m t.
    let q : lifted_rule xs hs th ≡ x = cc (lifting_same xs hs th n outer inner qs w x l d a h m t) in
    absurd (omega (arith, k, ap (λ (y : Theorem). length y.hyps) q))

pub lifts_ok : (xs : List Parameter) (hs : List Tm) (th : Theorem) (n : ℕ) (outer inner qs : List Tm) (w : Tm) (x : Theorem) → IsLifting xs hs th n outer inner qs w → IsDerived th → lifted_by xs hs outer inner qs w th ≡ Some x → Lifts xs hs th (Ok x)
lifts_ok xs hs th n outer inner qs w x l d a = λ h m t. lifting_same xs hs th n outer inner qs w x l d a h m t

pub lifts_theorem : (xs : List Parameter) (hs outer inner qs : List Tm) (w : Tm) (th x : Theorem) → w ≡ lifted_prop xs hs th → lifted_by xs hs outer inner qs w th ≡ Some x → length x.hyps ≡ 0 → x ≡ lifted_rule xs hs th
lifts_theorem xs hs outer inner qs w th x e a l =
    let q = lifted_by_is xs hs outer inner qs w th x a in
    λ i. record { hyps = empty_list x.hyps l i; prop = (q.0 ∙ e) i; base = q.1 i }
  where
    empty_list : (ts : List Tm) → length ts ≡ 0 → ts ≡ []
    empty_list [] l = refl
    empty_list (t ∷ ts) l = absurd (omega (arith, l))

-- ---- where the call refuses
quantified_back : (xs : List Parameter) (G : List Ty) (p : Tm) → Typed G (quantified xs p) prop → Typed (types_under xs G) p prop
quantified_back [] G p d = d
quantified_back (x ∷ xs) G p d = quantified_back xs (x.typ ∷ G) p (body_typed d).1

premises_back : (G : List Ty) (hs : List Tm) (c : Tm) → Typed G (implies hs c) prop → Each (λ h. Typed G h prop) hs
premises_back G [] c d = tt
premises_back G (h ∷ hs) c d = let both = binary_typed d in (both.0, premises_back G hs c both.1)

-- the assumptions of a lifted rule that is derived are propositions under the parameters
pub lifted_assumptions : (xs : List Parameter) (hs : List Tm) (th x : Theorem) → IsDerived x → x ≡ lifted_rule xs hs th → Each (λ h. Typed (types_under xs []) h prop) hs
lifted_assumptions xs hs th x d e =
    let Qs : List Tm = map (lift_over xs hs) (premises th.prop) in
    let c : Tm = lift_over xs hs (conclusion th.prop) in
    let parts = derived_propositions Qs c (subst (λ (y : Theorem). Derives (propositions y.base) (bares y.hyps) (bare y.prop)) e d.derivation) in
    premises_back (types_under xs []) hs (lift xs 0 (conclusion th.prop)) (quantified_back xs [] (implies hs (lift xs 0 (conclusion th.prop))) (typed_of_type [] c prop parts.1))
