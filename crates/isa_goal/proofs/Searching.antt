-- What a search gives.
use Rattle.std.proofs.Common.{◌≡◌, ℕ, zero, suc, ◌+◌, ◌<◌, arith, List, [], ◌∷◌, ◌++◌, drop, get_or, length, true, false, inl, inr, Option, Some, None, refl, sym, ap, ◌∙◌, subst}
use Rattle.std.specs.Prelude.{option_and_then, option_map, is_some, Ok, IfNone}
use Rattle.std.proofs.lemmas.List.{drop_more}
use Rattle.isa_terms.specs.Terms.{Tm}
use Rattle.isa_terms.specs.Instance.{Instance}
use Rattle.isa_terms.specs.declared.inst.TermEntry.{TermEntry}
use Rattle.isa_terms.specs.Instances.{Each}
use Rattle.isa_kernel.specs.Logic.{IsProposition}
use Rattle.isa_kernel.specs.Inferences.{keeps}
use Rattle.isa_kernel.specs.Axioms.{propositions}
use Rattle.isa_kernel.specs.Derivation.{Member, Within}
use Rattle.isa_kernel.specs.Theorem.{Theorem, IsDerived}
use Rattle.isa_kernel.proofs.Members.{bases_left, bases_right}
use Rattle.isa_goal.specs.Goals.{Goals, IsStanding, around, refined}
use Rattle.isa_subgoal.specs.Premises.{premises, conclusion}
use Rattle.isa_goal.specs.Names.{canon}
use Rattle.isa_goal.specs.Follows.{Follows}
use Rattle.isa_goal.specs.Matching.{matched, is_first_order}
use Rattle.isa_goal.specs.Private.Raising.{raised_instance}
use Rattle.isa_goal.specs.Resolving.{matching, under_assumptions, resolved, attempt, with_first, results, base_of, FollowsIfFound, Search, left, Steps}
use Rattle.isa_goal.specs.declared.found.Found.{Found}
use Rattle.isa_goal.specs.declared.found.Found.TheVariants.{Outside, Res}
use Rattle.isa_subgoal.proofs.Deriving.{derive_more}
use Rattle.isa_subgoal.proofs.Consequences.{each_of, of_each}
use Rattle.isa_goal.proofs.Lifting.{aim_propositions, matching_keeps, under_is}

-- ---- one rule
-- the rule under the subgoal's assumptions refines the state
pub resolve_is : (i k : ℕ) (s : Goals) (th x : Theorem) (us vs : List Tm) (w : Tm) (ps : List Tm) (c : Tm) (hs : List Tm) (d : Tm) (fs : List TermEntry) (n : Instance) →
    ps ≡ premises th.prop → c ≡ conclusion th.prop → around i s.subgoals ≡ Some (us, w, vs) → hs ≡ premises w → d ≡ conclusion w → matched c d [] ≡ Some fs → n ≡ matching fs th → k ≡ length ps → x ≡ under_assumptions hs n th →
    option_map canon (refined i x k s) ≡ resolved i th s
resolve_is i k s th x us vs w ps c hs d fs n p q a r e m z l y =
    let found : matched (conclusion th.prop) (conclusion w) [] ≡ Some fs = (λ j. matched (sym q j) (sym e j) []) ∙ m in
    let raised : Theorem = under_assumptions (premises w) (matching fs th) th in
    let whole : resolved i th s ≡ option_map canon (refined i raised (length (premises th.prop)) s) =
    ap (λ o. option_and_then {T = List Tm × Tm × List Tm} {U = Goals} (λ at. option_and_then {T = List TermEntry} {U = Goals} (λ gs. option_map canon (refined i (under_assumptions (premises at.1) (matching gs th) th) (length (premises th.prop)) s)) (matched (conclusion th.prop) (conclusion at.1) [])) o) a
    ∙ ap (λ o. option_and_then {T = List TermEntry} {U = Goals} (λ gs. option_map canon (refined i (under_assumptions (premises w) (matching gs th) th) (length (premises th.prop)) s)) o) found in
    (λ j. option_map canon (refined i ((y ∙ (λ v. under_assumptions (r v) (z v) th)) j) ((l ∙ ap length p) j) s)) ∙ sym whole

-- the inferences on the rule give it under the subgoal's assumptions
pub resolve_raises : (i k : ℕ) (s : Goals) (th : Theorem) (us vs : List Tm) (w : Tm) (ps : List Tm) (c : Tm) (hs : List Tm) (d : Tm) (fs : List TermEntry) (n : Instance) → IsStanding s → IsDerived th → th.hyps ≡ [] → is_first_order c ≡ true →
    ps ≡ premises th.prop → c ≡ conclusion th.prop → around i s.subgoals ≡ Some (us, w, vs) → hs ≡ premises w → matched c d [] ≡ Some fs → n ≡ matching fs th → k ≡ length ps →
    raised_instance hs k n th ≡ Some (under_assumptions hs n th)
resolve_raises i k s th us vs w ps c hs d fs n st der h o p q a r m z l =
    let found : matched (conclusion th.prop) d [] ≡ Some fs = (λ j. matched (sym q j) d []) ∙ m in
    under_is hs k n th der h (l ∙ ap length p)
    (subst (λ ts. Each IsProposition ts) (sym r) (aim_propositions i s (us, w, vs) st a))
    (subst (λ (x : Instance). keeps x.types x.terms ≡ true) (sym z) (matching_keeps fs th d (ap is_first_order (sym q) ∙ o) found))

pub resolve_never : (x : Theorem) (o : Option Theorem) → o ≡ Some x → None ≡ o → ⊥
resolve_never x o e f = cc

pub resolve_some : (x y : Theorem) (o : Option Theorem) → o ≡ Some y → Some x ≡ o → x ≡ y
resolve_some x y o e f = cc

-- ---- following under more axioms
pub follows_more : (ax bx : List Tm) (s t : Goals) → Within ax bx → Follows ax s t → Follows bx s t
follows_more ax bx s t w f = record {
  inst = f.inst;
  kept = f.kept;
  goal = f.goal;
  subgoals = each_of s.subgoals (λ a m. derive_more w (λ r n. n) (of_each _ s.subgoals f.subgoals a m));
}

pub found_more : (ax bx : List Tm) (s : Goals) (o : Option Found) → Within ax bx → FollowsIfFound ax s o → FollowsIfFound bx s o
found_more ax bx s (Some (Res t)) w f = record { follows = follows_more ax bx s t w f.follows; rests = λ p m. more (propositions s.base) p (f.rests p m) }
  where
    more : (xs : List Tm) (p : Tm) → Member p (xs ++ ax) → Member p (xs ++ bx)
    more [] p m = w p m
    more (x ∷ xs) p (inl e) = inl e
    more (x ∷ xs) p (inr m) = inr (more xs p m)
found_more ax bx s (Some Outside) w f = tt
found_more ax bx s None w f = tt

-- the axioms of a rule are among those of the list
pub base_within : (rules : List Theorem) (k : ℕ) (th : Theorem) → k < length rules → th ≡ get_or rules k th → Within (propositions th.base) (propositions (base_of rules))
base_within [] k th l e = absurd (omega (arith, l))
base_within (r ∷ rs) zero th l e = λ p m. bases_left r.base (base_of rs) p (subst (λ (x : Theorem). Within (propositions th.base) (propositions x.base)) e (λ q n. n) p m)
base_within (r ∷ rs) (suc k) th l e = λ p m. bases_right r.base (base_of rs) p (base_within rs k th (omega (arith, l)) e p m)

pub found_in : (rules : List Theorem) (k : ℕ) (th : Theorem) (s : Goals) (o : Option Found) → k < length rules → th ≡ get_or rules k th → FollowsIfFound (propositions th.base) s o → FollowsIfFound (propositions (base_of rules)) s o
found_in rules k th s o l e f = found_more (propositions th.base) (propositions (base_of rules)) s o (base_within rules k th l e) f

-- ---- the rules in their order
pub next_step : (i : ℕ) (rules : List Theorem) (s : Goals) (k : ℕ) (th : Theorem) (o : Option Found) → k < length rules → th ≡ get_or rules k th → o ≡ attempt i th s → results i (drop k rules) s ≡ with_first o (results i (drop (k + 1) rules) s)
unfolding results
next_step i rules s k th o l e f =
    ap (λ r. results i r s) (drop_more rules k th l)
    ∙ ap (λ x. with_first (attempt i x s) (results i (drop (k + 1) rules) s)) (sym e)
    ∙ ap (λ x. with_first x (results i (drop (k + 1) rules) s)) (sym f)

pub first_none : (o : Option Found) (fs : List Found) → is_some o ≡ false → with_first o fs ≡ fs
first_none None fs e = refl
first_none (Some f) fs e = absurd (cc)

drop_all : (rules : List Theorem) → drop (length rules) rules ≡ []
drop_all [] = refl
drop_all (r ∷ rs) = drop_all rs

pub none_left : (i : ℕ) (rules : List Theorem) (s : Goals) (k : ℕ) → k ≡ length rules → results i (drop k rules) s ≡ []
unfolding results
none_left i rules s k e = ap (λ r. results i r s) (ap (λ n. drop n rules) e ∙ drop_all rules)

pub steps_is : (old new : Search) (o : Option Found) → old.failed ≡ false → new.failed ≡ false → left old ≡ with_first o (left new) → IfNone o (new.tried ≡ length new.rules) → Steps old (Ok o) new
steps_is old new (Some f) h g e n = (h, e, g)
steps_is old new None h g e n = let z : left new ≡ [] = none_left new.place new.rules new.state new.tried n in (h, e ∙ z, z, g)
