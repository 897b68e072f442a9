-- States without free variables named `:` and digits, and what steps make of them.
use Rattle.std.specs.Prelude.{option_and_then, option_map, not, Result, Ok}
use Rattle.std.proofs.Common.{◌≡◌, ℕ, zero, suc, ◌+◌, ◌<◌, ◌-◌, arith, List, [], ◌∷◌, ◌++◌, map, take, drop, length, get_or, Bool, true, false, cond, ◌&&◌, Option, Some, None, refl, sym, ap, ◌∙◌, subst}
use Rattle.isa_terms.specs.Types.{Ty}
use Rattle.isa_terms.specs.Terms.{Tm, Const, Free, Unknown, Bound, Abs, App}
use Rattle.isa_terms.specs.Equal.{tm_eq}
use Rattle.isa_terms.specs.Instance.{Instance, instance_of, inst_ty, find_term, in_tms}
use Rattle.isa_terms.specs.declared.inst.TypeEntry.{TypeEntry}
use Rattle.isa_terms.specs.declared.inst.TermEntry.{TermEntry}
use Rattle.isa_terms.specs.Unknowns.{unknowns_of}
use Rattle.isa_terms.proofs.Functions.{bind_some, cond_some}
use Rattle.isa_terms.proofs.Loose.{or_false}
use Rattle.isa_kernel.specs.Forms.{app_parts, imp_parts}
use Rattle.isa_kernel.proofs.Parts.{app_made}
use Rattle.isa_kernel.specs.Theorem.{Theorem}
use Rattle.isa_kernel.specs.Logic.{prop}
use Rattle.isa_kernel.specs.Inferences.{has_type, keeps, instantiated}
use Rattle.isa_kernel.specs.Derived.{are_propositions, conclusion_behind}
use Rattle.isa_subgoal.specs.Premises.{implies, premises_of, premises, conclusion, leading, rule_form}
use Rattle.isa_subgoal.specs.Shape.{shaped}
use Rattle.isa_subgoal.specs.Rules.{raised}
use Rattle.isa_goal.specs.Goals.{Goals, around, refined, started}
use Rattle.isa_goal.specs.Follows.{instanced}
use Rattle.isa_goal.specs.Focus.{focused, put_back}
use Rattle.isa_goal.specs.Names.{next_number, entries, set_terms, free_names, terms_of, type_naming, naming, normalised, reshaped, canon}
use Rattle.isa_goal.specs.Matching.{matched, matched_unknown}
use Rattle.isa_goal.specs.Resolving.{apart, new_types, matching}
use Rattle.isa_goal.specs.Private.Raising.{raised_instance}
use Rattle.isa_goal.specs.Counted.{has_counted, entries_have_counted, rules_have_counted, IsUncountedState}
use Rattle.isa_goal.proofs.Refining.{around_made}
use Rattle.isa_goal.proofs.Uncounted.{Uncounted, uncounted, counted_false, AreUncounted, all_uncounted, all_false, join_uncounted, left_uncounted, right_uncounted, map_uncounted, take_uncounted, drop_uncounted, instance_uncounted, GiveUncounted, give_uncounted, set_uncounted, last_uncounted}
use Rattle.isa_goal.proofs.UncountedForms.{imp_uncounted, implies_uncounted, shaped_uncounted, premises_of_uncounted, premises_uncounted, conclusion_uncounted, leading_uncounted}

-- the subgoals and the goal have none
pub record HasNone (s : Goals) : Type 0 where
  pub subgoals : AreUncounted s.subgoals
  pub goal : Uncounted s.goal

pub has_none : (s : Goals) → IsUncountedState s → HasNone s
has_none s u = record { subgoals = all_uncounted s.subgoals u.subgoals; goal = uncounted s.goal u.goal }

pub is_uncounted : (s : Goals) → HasNone s → IsUncountedState s
is_uncounted s u = record { subgoals = all_false s.subgoals u.subgoals; goal = counted_false s.goal u.goal }

-- ---- instances and the canonical form
instanced_none : (n : Instance) (s : Goals) → GiveUncounted n.terms → HasNone s → HasNone (instanced n s)
instanced_none n s g u = record { subgoals = map_uncounted (instance_of n) s.subgoals (λ t v. instance_uncounted n t g v) u.subgoals; goal = instance_uncounted n s.goal g u.goal }

reshaped_none : (s : Goals) → HasNone s → HasNone (reshaped s)
reshaped_none s u = record { subgoals = map_uncounted shaped s.subgoals shaped_uncounted u.subgoals; goal = u.goal }

sets_uncounted : (gs fs : List TermEntry) → GiveUncounted gs → GiveUncounted fs → GiveUncounted (set_terms gs fs)
sets_uncounted [] fs p q = q
sets_uncounted (g ∷ gs) fs p q = sets_uncounted gs _ p.1 (set_uncounted g fs p.0 q)

names_uncounted : (es : List TypeEntry) (names : List (List ℕ)) (n : ℕ) (us : List Tm) → GiveUncounted (entries es names n us)
unfolding entries
names_uncounted es names n [] = tt
names_uncounted es names n (Unknown x i T ∷ us) = (tt, names_uncounted es names (next_number names n + 1) us)
names_uncounted es names n (Const x T ∷ us) = names_uncounted es names n us
names_uncounted es names n (Free x T ∷ us) = names_uncounted es names n us
names_uncounted es names n (Bound i ∷ us) = names_uncounted es names n us
names_uncounted es names n (Abs x T b ∷ us) = names_uncounted es names n us
names_uncounted es names n (App f a ∷ us) = names_uncounted es names n us

naming_uncounted : (s : Goals) → GiveUncounted (naming s).terms
naming_uncounted s = sets_uncounted (entries (type_naming s) (free_names s.goal) 1 (unknowns_of (terms_of s))) [] (names_uncounted (type_naming s) (free_names s.goal) 1 (unknowns_of (terms_of s))) tt

canon_none : (s : Goals) → HasNone s → HasNone (canon s)
canon_none s u =
    let normal : HasNone (normalised s) = instanced_none (record { types = []; terms = [] }) s tt u in
    instanced_none (naming (reshaped (normalised s))) (reshaped (normalised s)) (naming_uncounted (reshaped (normalised s))) (reshaped_none (normalised s) normal)

pub canon_uncounted : (s t : Goals) → t ≡ canon s → IsUncountedState s → IsUncountedState t
canon_uncounted s t e u = subst (λ (x : Goals). IsUncountedState x) (sym e) (is_uncounted (canon s) (canon_none s (has_none s u)))

pub instanced_uncounted : (n : Instance) (s t : Goals) → t ≡ instanced n s → entries_have_counted n.terms ≡ false → IsUncountedState s → IsUncountedState t
instanced_uncounted n s t e g u = subst (λ (x : Goals). IsUncountedState x) (sym e) (is_uncounted (instanced n s) (instanced_none n s (give_uncounted n.terms g) (has_none s u)))

-- ---- steps
pub started_uncounted : (t : Tm) (s : Goals) → started t ≡ Some s → has_counted t ≡ false → IsUncountedState s
started_uncounted t s e u =
    let c = cond_some (has_type t prop) _ e in
    let q : record { subgoals = t ∷ []; goal = t; base = [] } ≡ s = cc (c.1) in
    subst (λ (x : Goals). IsUncountedState x) q (record { subgoals = (u, tt); goal = u })

around_uncounted : (i : ℕ) (ts : List Tm) (at : List Tm × Tm × List Tm) → around i ts ≡ Some at → AreUncounted ts → AreUncounted at.0 × Uncounted at.1 × AreUncounted at.2
around_uncounted i ts at e u =
    let v : AreUncounted (at.0 ++ (at.1 ∷ at.2)) = subst (λ (us : List Tm). AreUncounted us) (around_made i ts at e) u in
    let w = right_uncounted at.0 (at.1 ∷ at.2) v in
    (left_uncounted at.0 (at.1 ∷ at.2) v, w.0, w.1)

form_uncounted : (n : ℕ) (th : Theorem) (r : List Tm × Tm) → rule_form n th ≡ Some r → Uncounted th.prop → AreUncounted r.0 × Uncounted r.1
form_uncounted n th r e u = at th.hyps e
  where
    at : (hs : List Tm) → elim hs as (λ _. Option (List Tm × Tm)) [ [] ↦ premises_of n th.prop | h ∷ ks ↦ None ] ≡ Some r → AreUncounted r.0 × Uncounted r.1
    at [] k = premises_of_uncounted n th.prop r k u
    at (h ∷ ks) k = absurd (cc)

pub refined_uncounted : (i n : ℕ) (th : Theorem) (s t : Goals) → refined i th n s ≡ Some t → has_counted th.prop ≡ false → IsUncountedState s → IsUncountedState t
refined_uncounted i n th s t e h u =
    let a = bind_some (around i s.subgoals) _ e in
    let r = bind_some (rule_form n th) _ a.2 in
    let c = cond_some (tm_eq a.0.1 r.0.1) _ r.2 in
    let v : HasNone s = has_none s u in
    let p = around_uncounted i s.subgoals a.0 a.1 v.subgoals in
    let q = form_uncounted n th r.0 r.1 (uncounted th.prop h) in
    let news : AreUncounted (a.0.0 ++ (r.0.0 ++ a.0.2)) = join_uncounted a.0.0 (r.0.0 ++ a.0.2) p.0 (join_uncounted r.0.0 a.0.2 q.0 p.2) in
    let goals : List Tm = a.0.0 ++ (r.0.0 ++ a.0.2) in
    let ss : goals ≡ t.subgoals = cc (c.1) in
    let gs : s.goal ≡ t.goal = cc (c.1) in
    is_uncounted t (record { subgoals = subst (λ (ts : List Tm). AreUncounted ts) ss news; goal = subst Uncounted gs v.goal })

pub focused_uncounted : (i : ℕ) (s t : Goals) → focused i s ≡ Some t → IsUncountedState s → IsUncountedState t
focused_uncounted i s t e u =
    let a = bind_some (around i s.subgoals) _ e in
    let v : HasNone s = has_none s u in
    let p = around_uncounted i s.subgoals a.0 a.1 v.subgoals in
    let ss : (a.0.1 ∷ []) ≡ t.subgoals = cc (a.2) in
    let gs : implies (a.0.0 ++ a.0.2) s.goal ≡ t.goal = cc (a.2) in
    is_uncounted t (record { subgoals = subst (λ (ts : List Tm). AreUncounted ts) ss (p.1, tt); goal = subst Uncounted gs (implies_uncounted (a.0.0 ++ a.0.2) s.goal (join_uncounted a.0.0 a.0.2 p.0 p.2) v.goal) })

pub put_back_uncounted : (others front : ℕ) (s t : Goals) → t ≡ put_back others front s → IsUncountedState s → IsUncountedState t
put_back_uncounted others front s t e u =
    let v : HasNone s = has_none s u in
    let w = leading_uncounted others s.goal v.goal in
    let ps : List Tm = (leading others s.goal).0 in
    subst (λ (x : Goals). IsUncountedState x) (sym e)
    (is_uncounted (put_back others front s) (record {
      subgoals = join_uncounted (take front ps) (s.subgoals ++ drop front ps) (take_uncounted front ps w.0) (join_uncounted s.subgoals (drop front ps) v.subgoals (drop_uncounted front ps w.0));
      goal = w.1;
    }))

-- ---- resolution
atom_uncounted : (b : Bool) (fs gs : List TermEntry) → cond b (Some fs) None ≡ Some gs → GiveUncounted fs → GiveUncounted gs
atom_uncounted b fs gs e g =
    let c = cond_some b (Some fs) e in
    let s : fs ≡ gs = cc (c.1) in
    subst (λ (hs : List TermEntry). GiveUncounted hs) s g

unknown_uncounted : (x : List ℕ) (i : ℕ) (T : Ty) (t : Tm) (fs gs : List TermEntry) (o : Option Tm) → matched_unknown x i T t fs o ≡ Some gs → Uncounted t → GiveUncounted fs → GiveUncounted gs
unknown_uncounted x i T t fs gs (Some u) e v g = atom_uncounted (tm_eq u t) fs gs e g
unknown_uncounted x i T t fs gs None e v g = atom_uncounted (has_type t T) (fs ++ (record { name = x; number = i; typ = T; term = t } ∷ [])) gs e (last_uncounted fs (record { name = x; number = i; typ = T; term = t }) g v)

matched_uncounted : (p t : Tm) (fs gs : List TermEntry) → matched p t fs ≡ Some gs → Uncounted t → GiveUncounted fs → GiveUncounted gs
matched_uncounted (Const x S) t fs gs e v g = atom_uncounted (tm_eq (Const x S) t) fs gs e g
matched_uncounted (Free x S) t fs gs e v g = atom_uncounted (tm_eq (Free x S) t) fs gs e g
matched_uncounted (Unknown x i T) t fs gs e v g = unknown_uncounted x i T t fs gs (find_term x i T fs) e v g
matched_uncounted (Bound i) t fs gs e v g = atom_uncounted (tm_eq (Bound i) t) fs gs e g
matched_uncounted (Abs x S b) t fs gs e v g = absurd (cc)
matched_uncounted (App f a) t fs gs e v g =
    let p = bind_some (app_parts t) _ e in
    let m = bind_some (matched f p.0.0 fs) _ p.2 in
    let w : Uncounted (App p.0.0 p.0.1) = subst Uncounted (app_made t p.0 p.1) v in
    matched_uncounted a p.0.1 m.0 gs m.2 w.1 (matched_uncounted f p.0.0 fs m.0 m.1 w.0 g)

apart_uncounted : (es : List TypeEntry) (us : List Tm) → GiveUncounted (apart es us)
unfolding apart
apart_uncounted es [] = tt
apart_uncounted es (Unknown x i T ∷ us) = (tt, apart_uncounted es us)
apart_uncounted es (Const x T ∷ us) = apart_uncounted es us
apart_uncounted es (Free x T ∷ us) = apart_uncounted es us
apart_uncounted es (Bound i ∷ us) = apart_uncounted es us
apart_uncounted es (Abs x T b ∷ us) = apart_uncounted es us
apart_uncounted es (App f a ∷ us) = apart_uncounted es us

matching_uncounted : (fs : List TermEntry) (th : Theorem) → GiveUncounted fs → GiveUncounted (matching fs th).terms
matching_uncounted fs th g = sets_uncounted fs (set_terms (apart (new_types th) (unknowns_of (th.prop ∷ []))) []) g (sets_uncounted (apart (new_types th) (unknowns_of (th.prop ∷ []))) [] (apart_uncounted (new_types th) (unknowns_of (th.prop ∷ []))) tt)

behind_uncounted : (ps : List Tm) (t c : Tm) → conclusion_behind ps t ≡ Some c → Uncounted t → Uncounted c
behind_uncounted [] t c e u = let s : t ≡ c = cc in subst Uncounted s u
behind_uncounted (p ∷ ps) t c e u =
    let q = bind_some (imp_parts t) _ e in
    let r = cond_some (tm_eq q.0.0 p) _ q.2 in
    behind_uncounted ps q.0.1 c r.1 (imp_uncounted t q.0 q.1 u).1

raised_uncounted : (hs : List Tm) (k : ℕ) (n : Instance) (th x : Theorem) → raised_instance hs k n th ≡ Some x → AreUncounted hs → GiveUncounted n.terms → Uncounted th.prop → Uncounted x.prop
raised_uncounted hs k n th x e w g u =
    let i = bind_some (instantiated n th) _ e in
    let c = cond_some (keeps n.types n.terms && not (in_tms n.types n.terms th.hyps)) (Some (record { hyps = th.hyps; prop = instance_of n th.prop; base = th.base })) i.1 in
    let same : instance_of n th.prop ≡ i.0.prop = cc (c.1) in
    let v : Uncounted i.0.prop = subst Uncounted same (instance_uncounted n th.prop g u) in
    let p = bind_some (rule_form k i.0) _ i.2 in
    let ps = form_uncounted k i.0 p.0 p.1 v in
    let q = bind_some (conclusion_behind p.0.0 i.0.prop) _ p.2 in
    let r = cond_some (are_propositions hs) _ q.2 in
    let made : implies (map (implies hs) p.0.0) (implies hs q.0) ≡ x.prop = cc (r.1) in
    subst Uncounted made (implies_uncounted (map (implies hs) p.0.0) (implies hs q.0) (map_uncounted (implies hs) p.0.0 (λ t d. implies_uncounted hs t w d) ps.0) (implies_uncounted hs q.0 w (behind_uncounted p.0.0 i.0.prop q.0 q.1 v)))

-- the rule under the subgoal's assumptions, after a match
pub resolve_uncounted : (i k : ℕ) (s : Goals) (th x : Theorem) (us vs : List Tm) (w c : Tm) (hs : List Tm) (d : Tm) (fs : List TermEntry) (n : Instance) → IsUncountedState s → has_counted th.prop ≡ false →
    around i s.subgoals ≡ Some (us, w, vs) → hs ≡ premises w → d ≡ conclusion w → matched c d [] ≡ Some fs → n ≡ matching fs th → Some x ≡ raised_instance hs k n th → has_counted x.prop ≡ false
resolve_uncounted i k s th x us vs w c hs d fs n u h a r e m z l =
    let v : Uncounted w = (around_uncounted i s.subgoals (us, w, vs) a (has_none s u).subgoals).1 in
    let ws : AreUncounted hs = subst (λ (ts : List Tm). AreUncounted ts) (sym r) (premises_uncounted w v) in
    let g : GiveUncounted fs = matched_uncounted c d [] fs m (subst Uncounted (sym e) (conclusion_uncounted w v)) tt in
    let gn : GiveUncounted n.terms = subst (λ (o : Instance). GiveUncounted o.terms) (sym z) (matching_uncounted fs th g) in
    counted_false x.prop (raised_uncounted hs k n th x (sym l) ws gn (uncounted th.prop h))

-- one of the rules
pub rule_uncounted : (rules : List Theorem) (k : ℕ) (th : Theorem) → rules_have_counted rules ≡ false → k < length rules → th ≡ get_or rules k th → has_counted th.prop ≡ false
rule_uncounted [] k th h l e = absurd (omega (arith, l))
rule_uncounted (r ∷ rs) zero th h l e = ap (λ (x : Theorem). has_counted x.prop) e ∙ (or_false (has_counted r.prop) (rules_have_counted rs) h).0
rule_uncounted (r ∷ rs) (suc k) th h l e = rule_uncounted rs k th (or_false (has_counted r.prop) (rules_have_counted rs) h).1 (omega (arith, l)) e
