-- What the rules give follows.
use Rattle.std.specs.Prelude.{option_and_then, option_map}
use Rattle.std.proofs.Common.{◌≡◌, ℕ, List, [], ◌∷◌, length, Bool, true, false, cond, Option, Some, None, refl, subst}
use Rattle.isa_terms.specs.Terms.{Tm}
use Rattle.isa_terms.specs.Instance.{Instance}
use Rattle.isa_kernel.specs.Axioms.{propositions}
use Rattle.isa_kernel.specs.Theorem.{Theorem, IsDerived, AreDerived}
use Rattle.isa_kernel.proofs.Members.{bases_left, bases_right}
use Rattle.isa_terms.proofs.Functions.{bind_some}
use Rattle.isa_goal.specs.Goals.{Goals, IsStanding, around, refined}
use Rattle.isa_subgoal.specs.Premises.{premises, conclusion}
use Rattle.isa_goal.specs.Names.{canon}
use Rattle.isa_goal.specs.Follows.{Advances}
use Rattle.isa_goal.specs.Matching.{is_first_order, matched}
use Rattle.isa_goal.specs.Resolving.{matching, under_assumptions, resolved, is_large, limited, attempt, with_first, results, base_of, FollowsIfFound, AllFollow}
use Rattle.isa_goal.specs.declared.found.Found.{Found}
use Rattle.isa_goal.specs.declared.found.Found.TheVariants.{Outside, Res}
use Rattle.isa_goal.proofs.Numbers.{refined_advances}
use Rattle.isa_goal.proofs.Lifting.{aim_propositions, matching_keeps, under_derived}
use Rattle.isa_goal.proofs.Searching.{found_more}

some_of_map : (f : Goals → Goals) (o : Option Goals) (t : Goals) → option_map f o ≡ Some t → (p : Goals) × (o ≡ Some p) × (f p ≡ t)
some_of_map f None t e = absurd (cc)
some_of_map f (Some p) t e = (p, refl, cc (e))

resolved_follows : (i : ℕ) (th : Theorem) (s t : Goals) → th.hyps ≡ [] → is_first_order (conclusion th.prop) ≡ true → resolved i th s ≡ Some t → IsStanding s → IsDerived th → Advances (propositions th.base) s t
resolved_follows i th s t h o e d f =
    let a = bind_some (around i s.subgoals) _ e in
    let m = bind_some (matched (conclusion th.prop) (conclusion a.0.1) []) _ a.2 in
    let n : Instance = matching m.0 th in
    let rule : Theorem = under_assumptions (premises a.0.1) n th in
    let sound : IsDerived rule = under_derived (premises a.0.1) n th f h (aim_propositions i s a.0 d a.1) (matching_keeps m.0 th (conclusion a.0.1) o m.1) in
    let r = some_of_map canon (refined i rule (length (premises th.prop)) s) t m.2 in
    subst (λ x. Advances (propositions th.base) s x) r.2 (refined_advances i (length (premises th.prop)) rule s r.0 r.1 d sound)

limited_follows : (ax : List Tm) (s t : Goals) (b : Bool) → Advances ax s t → FollowsIfFound ax s (Some (cond b Outside (Res t)))
limited_follows ax s t true f = tt
limited_follows ax s t false f = f

tried_follows : (i : ℕ) (th : Theorem) (s : Goals) (o : Option Goals) → th.hyps ≡ [] → is_first_order (conclusion th.prop) ≡ true → resolved i th s ≡ o → IsStanding s → IsDerived th → FollowsIfFound (propositions th.base) s (option_map limited o)
tried_follows i th s None h c e d f = tt
tried_follows i th s (Some t) h c e d f = limited_follows (propositions th.base) s t (is_large t) (resolved_follows i th s t h c e d f)

first_follows : (i : ℕ) (th : Theorem) (s : Goals) (b : Bool) → th.hyps ≡ [] → is_first_order (conclusion th.prop) ≡ b → IsStanding s → IsDerived th → FollowsIfFound (propositions th.base) s (cond b (option_map limited (resolved i th s)) (Some Outside))
first_follows i th s true h e d f = tried_follows i th s (resolved i th s) h e refl d f
first_follows i th s false h e d f = tt

pub attempt_follows : (i : ℕ) (th : Theorem) (s : Goals) → IsStanding s → IsDerived th → FollowsIfFound (propositions th.base) s (attempt i th s)
attempt_follows i th s d f = at (around i s.subgoals)
  where
    plain : (H : List Tm) → th.hyps ≡ H → FollowsIfFound (propositions th.base) s (elim H [ [] ↦ cond (is_first_order (conclusion th.prop)) (option_map limited (resolved i th s)) (Some Outside) | h ∷ hs ↦ None ])
    plain [] e = first_follows i th s (is_first_order (conclusion th.prop)) e refl d f
    plain (h ∷ hs) e = tt

    at : (o : Option (List Tm × Tm × List Tm)) → FollowsIfFound (propositions th.base) s (option_and_then {T = List Tm × Tm × List Tm} {U = Found} (λ a. elim th.hyps [ [] ↦ cond (is_first_order (conclusion th.prop)) (option_map limited (resolved i th s)) (Some Outside) | h ∷ hs ↦ None ]) o)
    at None = tt
    at (Some a) = plain th.hyps refl

-- each state among the results follows, under the axioms of all rules
all_more : (ax bx : List Tm) (s : Goals) (fs : List Found) → ((o : Option Found) → FollowsIfFound ax s o → FollowsIfFound bx s o) → AllFollow ax s fs → AllFollow bx s fs
all_more ax bx s [] h a = tt
all_more ax bx s (f ∷ fs) h a = (h (Some f) a.0, all_more ax bx s fs h a.1)

all_first : (ax : List Tm) (s : Goals) (o : Option Found) (fs : List Found) → FollowsIfFound ax s o → AllFollow ax s fs → AllFollow ax s (with_first o fs)
all_first ax s None fs h a = a
all_first ax s (Some f) fs h a = (h, a)

pub results_follow : (i : ℕ) (rules : List Theorem) (s : Goals) → IsStanding s → AreDerived rules → AllFollow (propositions (base_of rules)) s (results i rules s)
unfolding results
results_follow i [] s d ds = tt
results_follow i (th ∷ ths) s d ds =
    let ax : List Tm = propositions (base_of (th ∷ ths)) in
    all_first ax s (attempt i th s) (results i ths s)
    (found_more (propositions th.base) ax s (attempt i th s) (bases_left th.base (base_of ths)) (attempt_follows i th s d ds.0))
    (all_more (propositions (base_of ths)) ax s (results i ths s) (λ o f. found_more (propositions (base_of ths)) ax s o (bases_right th.base (base_of ths)) f) (results_follow i ths s d ds.1))
