-- The rules of a fact are equations under its hypotheses.
use Rattle.std.specs.Prelude.{option_map, option_to_list, not, is_some, ◌||◌, Result, Ok, Err, IfOk}
use Rattle.std.specs.declared.alloc.AllocError.{AllocError}
use Rattle.std.proofs.Common.{◌≡◌, ℕ, zero, suc, List, [], ◌∷◌, ◌++◌, Bool, true, false, ◌&&◌, cond, Option, Some, None, refl, sym, ap, ◌∙◌, subst}
use Rattle.isa_terms.specs.Terms.{Tm, Unknown}
use Rattle.isa_terms.specs.Unknowns.{unknowns_of}
use Rattle.isa_terms.specs.Equal.{tm_eq}
use Rattle.isa_terms.specs.Sets.{has, missing, joined}
use Rattle.isa_terms.specs.Instance.{Instance, instance_of, in_tms}
use Rattle.isa_terms.proofs.Functions.{bind_some, cond_some}
use Rattle.isa_kernel.specs.Axioms.{joined_bases}
use Rattle.isa_kernel.specs.Forms.{imp_parts, quantifier_parts, at}
use Rattle.isa_kernel.specs.Theorem.{Theorem}
use Rattle.isa_kernel.specs.Derived.{conclusion_behind}
use Rattle.isa_kernel.specs.Inferences.{has_type, keeps, instantiated, forall_eliminated}
use Rattle.isa_kernel.specs.declared.logic.Logic.{Logic}
use Rattle.isa_subgoal.specs.Premises.{implies, premises, conclusion}
use Rattle.isa_subgoal.proofs.Deriving.{tm_eq_same}
use Rattle.isa_subgoal.specs.Rules.{cut}
use Rattle.isa_unify.specs.Matching.{match_of}
use Rattle.isa_simprules.specs.Roles.{apart, normal, by_match, by_fact, by_facts}
use Rattle.isa_simprules.specs.Numbers.{least_number}
use Rattle.isa_simprules.specs.Opening.{quantifiers, variable_of, opened_once, opened_often, opened}
use Rattle.isa_simprules.specs.RulesOf.{each, parts_or_itself, branches, is_equation, by_first, if_equation, turned, equation_of, depth, rules_of, AreIn, AreEquationsUnder, RulesAreEquations}

-- each stands under hypotheses among those
abbrev pub AllUnder : List Tm → List Theorem → Type 0
AllUnder hs [] = Unit {0}
AllUnder hs (th ∷ ths) = AreIn th.hyps hs × AllUnder hs ths

under_append : (hs : List Tm) (xs ys : List Theorem) → AllUnder hs xs → AllUnder hs ys → AllUnder hs (xs ++ ys)
under_append hs [] ys h k = k
under_append hs (x ∷ xs) ys h k = (h.0, under_append hs xs ys h.1 k)

equations_append : (hs : List Tm) (xs ys : List Theorem) → AreEquationsUnder hs xs → AreEquationsUnder hs ys → AreEquationsUnder hs (xs ++ ys)
equations_append hs [] ys h k = k
equations_append hs (x ∷ xs) ys h k = (h.0, equations_append hs xs ys h.1 k)

missing_in : (ks ts hs : List Tm) → AreIn ts hs → AreIn (missing ks ts) hs
missing_in ks [] hs h = tt
missing_in ks (t ∷ ts) hs h = go (has ks t) (missing_in ks ts hs h.1)
  where
    go : (b : Bool) → AreIn (missing ks ts) hs → AreIn (cond b (missing ks ts) (t ∷ missing ks ts)) hs
    go true d = d
    go false d = (h.0, d)

instantiated_hyps : (s : Instance) (th x : Theorem) → instantiated s th ≡ Some x → x.hyps ≡ th.hyps
instantiated_hyps s th x e =
    let c = cond_some (keeps s.types s.terms && not (in_tms s.types s.terms th.hyps)) _ e in
    let q : record { hyps = th.hyps; prop = instance_of s th.prop; base = th.base } ≡ x = cc (c.1) in
    ap (λ (y : Theorem). y.hyps) (sym q)

cut_hyps : (bs : List Tm) (th rule x : Theorem) → cut [] bs th rule ≡ Some x → x.hyps ≡ missing bs (joined th.hyps rule.hyps)
cut_hyps bs th rule x e =
    let r = bind_some (conclusion_behind bs rule.prop) _ e in
    let p = bind_some (imp_parts th.prop) _ r.2 in
    let c = cond_some (tm_eq p.0.0 r.0) _ p.2 in
    let q : record { hyps = missing bs (joined th.hyps rule.hyps); prop = implies bs p.0.1; base = joined_bases th.base rule.base } ≡ x = cc (c.1) in
    ap (λ (y : Theorem). y.hyps) (sym q)

match_under : (fact th x : Theorem) (hs : List Tm) → fact.hyps ≡ [] → by_match fact th ≡ Some x → AreIn th.hyps hs → AreIn x.hyps hs
match_under fact th x hs none e h =
    let p = bind_some (imp_parts fact.prop) _ e in
    let m = bind_some (match_of p.0.0 (conclusion th.prop)) _ p.2 in
    let i = bind_some (instantiated (apart (th.prop ∷ th.hyps) fact.prop m.0) fact) _ m.2 in
    let k : i.0.hyps ≡ [] = instantiated_hyps (apart (th.prop ∷ th.hyps) fact.prop m.0) fact i.0 i.1 ∙ none in
    let q : x.hyps ≡ missing (premises th.prop) (joined [] th.hyps) = cut_hyps (premises th.prop) i.0 th x i.2 ∙ ap (λ us. missing (premises th.prop) (joined us th.hyps)) k in
    subst (λ us. AreIn us hs) (sym q) (missing_in (premises th.prop) (missing [] th.hyps) hs (missing_in [] th.hyps hs h))

fact_under : (fact th x : Theorem) (hs : List Tm) → by_fact fact th ≡ Some x → AreIn th.hyps hs → AreIn x.hyps hs
fact_under fact th x hs e h = go fact.hyps refl e
  where
    go : (us : List Tm) → fact.hyps ≡ us → elim us [ [] ↦ by_match fact th | u ∷ us ↦ None ] ≡ Some x → AreIn x.hyps hs
    go [] none d = match_under fact th x hs none d h
    go (u ∷ us) some d = cc

facts_under : (facts : List Theorem) (th : Theorem) (hs : List Tm) → AreIn th.hyps hs → AllUnder hs (by_facts facts th)
facts_under [] th hs h = tt
facts_under (fact ∷ facts) th hs h = go (by_fact fact th) refl (facts_under facts th hs h)
  where
    go : (o : Option Theorem) → by_fact fact th ≡ o → AllUnder hs (by_facts facts th) → AllUnder hs (option_to_list o ++ by_facts facts th)
    go None e d = d
    go (Some x) e d = (fact_under fact th x hs e h, d)

first_under : (facts : List Theorem) (th x : Theorem) (hs : List Tm) → by_first facts th ≡ Some x → AreIn th.hyps hs → AreIn x.hyps hs
first_under [] th x hs e h = cc
first_under (fact ∷ facts) th x hs e h = go (by_fact fact th) refl (λ d. first_under facts th x hs d h) e
  where
    go : (o : Option Theorem) → by_fact fact th ≡ o → (by_first facts th ≡ Some x → AreIn x.hyps hs) → elim o [ None ↦ by_first facts th | Some y ↦ Some y ] ≡ Some x → AreIn x.hyps hs
    go None d r e = r e
    go (Some y) d r e = fact_under fact th x hs (d ∙ e) h

-- what next gives under the hypotheses, each gives
record GivesUnder (hs : List Tm) (next : Theorem → List Theorem) : Type 0 where
  gives : (th : Theorem) → AreIn th.hyps hs → AllUnder hs (next th)

each_under : (hs : List Tm) (next : Theorem → List Theorem) → GivesUnder hs next → (ths : List Theorem) → AllUnder hs ths → AllUnder hs (each next ths)
each_under hs next g [] h = tt
each_under hs next g (th ∷ ths) h = under_append hs (next th) (each next ths) (g.gives th h.0) (each_under hs next g ths h.1)

branches_under : (n : ℕ) (facts : List Theorem) (hs : List Tm) (th : Theorem) → AreIn th.hyps hs → AllUnder hs (branches n facts th)
unfolding branches
branches_under zero facts hs th h = (h, tt)
branches_under (suc n) facts hs th h = go (by_facts facts th) (facts_under facts th hs h) (record { gives = λ y d. branches_under n facts hs y d })
  where
    go : (xs : List Theorem) → AllUnder hs xs → GivesUnder hs (branches n facts) → AllUnder hs (parts_or_itself (branches n facts) th xs)
    go [] k g = (h, tt)
    go (x ∷ xs) k g = each_under hs (branches n facts) g (x ∷ xs) k

eliminated_hyps : (t : Tm) (th x : Theorem) → forall_eliminated t th ≡ Some x → x.hyps ≡ th.hyps
eliminated_hyps t th x e =
    let p = bind_some (quantifier_parts th.prop) _ e in
    let c = cond_some (has_type t p.0.0) _ p.2 in
    let r : record { hyps = th.hyps; prop = at p.0.1 t; base = th.base } ≡ x = cc (c.1) in
    ap (λ (y : Theorem). y.hyps) (sym r)

opened_once_hyps : (th x : Theorem) → opened_once th ≡ Some x → x.hyps ≡ th.hyps
opened_once_hyps th x e =
    let q = bind_some (quantifier_parts th.prop) _ e in
    eliminated_hyps (Unknown (variable_of q.0.1) (least_number (unknowns_of (th.prop ∷ th.hyps)) (variable_of q.0.1)) q.0.0) th x q.2

opened_often_hyps : (n : ℕ) (th : Theorem) → (opened_often n th).hyps ≡ th.hyps
opened_often_hyps zero th = refl
opened_often_hyps (suc n) th = go (opened_once th) refl (λ x. opened_often_hyps n x)
  where
    go : (o : Option Theorem) → opened_once th ≡ o → ((x : Theorem) → (opened_often n x).hyps ≡ x.hyps) → (elim o as (λ o. Theorem) [ None ↦ th | Some x ↦ opened_often n x ]).hyps ≡ th.hyps
    go None e r = refl
    go (Some x) e r = r x ∙ opened_once_hyps th x e

turned_under : (facts : List Theorem) (th x : Theorem) (hs : List Tm) → turned facts th ≡ Some x → AreIn th.hyps hs → AreIn x.hyps hs
turned_under facts th x hs e h = go (is_equation th) e
  where
    go : (b : Bool) → cond b (Some th) (by_first facts th) ≡ Some x → AreIn x.hyps hs
    go true d = let q : th ≡ x = cc d in subst (λ (y : Theorem). AreIn y.hyps hs) q h
    go false d = first_under facts th x hs d h

equation_under : (facts : List Theorem) (th : Theorem) (hs : List Tm) → AreIn th.hyps hs → AreEquationsUnder hs (equation_of facts th)
equation_under facts th hs h = go (turned facts th) refl
  where
    test : (x : Theorem) (b : Bool) → is_equation (normal x) ≡ b → AreIn x.hyps hs → AreEquationsUnder hs (cond b (normal x ∷ []) [])
    test x true e d = ((e, d), tt)
    test x false e d = tt

    go : (o : Option Theorem) → turned facts th ≡ o → AreEquationsUnder hs (if_equation (option_map normal o))
    go None e = tt
    go (Some x) e = test x (is_equation (normal x)) refl (turned_under facts th x hs e h)

each_equation : (facts : List Theorem) (hs : List Tm) (ths : List Theorem) → AllUnder hs ths → AreEquationsUnder hs (each (equation_of facts) ths)
each_equation facts hs [] h = tt
each_equation facts hs (th ∷ ths) h = equations_append hs (equation_of facts th) (each (equation_of facts) ths) (equation_under facts th hs h.0) (each_equation facts hs ths h.1)

in_more : (ts us : List Tm) (u : Tm) → AreIn ts us → AreIn ts (u ∷ us)
in_more [] us u h = tt
in_more (t ∷ ts) us u h = (go (tm_eq u t) h.0, in_more ts us u h.1)
  where
    go : (b : Bool) → has us t ≡ true → (b || has us t) ≡ true
    go true e = refl
    go false e = e

all_in : (ts : List Tm) → AreIn ts ts
all_in [] = tt
all_in (t ∷ ts) = (ap (λ b. b || has ts t) (tm_eq_same t), in_more ts ts t (all_in ts))

pub rules_are_equations : RulesAreEquations
unfolding rules_of
rules_are_equations logic fact =
    let h : AreIn (opened (normal fact)).hyps fact.hyps = subst (λ us. AreIn us fact.hyps) (sym (opened_often_hyps (quantifiers (normal fact).prop) (normal fact))) (all_in fact.hyps) in
    each_equation logic.meta fact.hyps (branches depth logic.atomize (opened (normal fact))) (branches_under depth logic.atomize fact.hyps (opened (normal fact)) h)

pub all_equations : (logic : Logic) (fact : Theorem) (answer : Result (List Theorem) AllocError) → IfOk answer (λ ths. ths ≡ rules_of logic fact) → IfOk answer (λ ths. AreEquationsUnder fact.hyps ths)
all_equations logic fact (Ok ths) e = subst (AreEquationsUnder fact.hyps) (sym e) (rules_are_equations logic fact)
all_equations logic fact (Err memory) e = tt
