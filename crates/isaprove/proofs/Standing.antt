-- What rules give from a state that stands: states that stand and follow.
use Rattle.std.specs.Prelude.{option_and_then, option_map}
use Rattle.std.proofs.Common.{◌≡◌, ℕ, List, [], ◌∷◌, ◌++◌, map, length, Bool, true, false, cond, Option, Some, None, Ok, Err, inl, inr, refl, sym, ap, ◌∙◌, subst}
use Rattle.isa_terms.specs.Terms.{Tm, bare}
use Rattle.isa_terms.specs.Equal.{tm_eq, ty_eq}
use Rattle.isa_terms.specs.Types.{Ty}
use Rattle.isa_terms.specs.Typing.{TypeFault, type_at}
use Rattle.isa_terms.specs.Instance.{Instance, instance_of}
use Rattle.isa_terms.specs.Instances.{Each}
use Rattle.isa_terms.proofs.Functions.{bind_some, cond_some}
use Rattle.isa_kernel.specs.Logic.{prop, IsProposition}
use Rattle.isa_kernel.specs.Derivation.{Derives, Within}
use Rattle.isa_kernel.specs.Axioms.{propositions, joined_bases}
use Rattle.isa_kernel.specs.Inferences.{has_type, typed_as}
use Rattle.isa_kernel.specs.Theorem.{Theorem, IsDerived}
use Rattle.isa_kernel.proofs.Members.{bases_left, bases_right, joined_rests, Within-append}
use Rattle.isa_kernel.proofs.Rules.{tree_more}
use Rattle.isa_kernel.proofs.Theories.{is_prop}
use Rattle.isa_subgoal.specs.Premises.{implies, premises, conclusion, rule_form}
use Rattle.isa_subgoal.proofs.Deriving.{ArePropositions}
use Rattle.isa_subgoal.proofs.Consequences.{From, itself, chain, of_each, map_member}
use Rattle.isa_subgoal.proofs.Instancing.{from_instance}
use Rattle.isa_goal.specs.Goals.{Goals, IsStanding, around, refined, started}
use Rattle.isa_goal.specs.Names.{canon}
use Rattle.isa_goal.specs.Follows.{Follows, Advances}
use Rattle.isa_goal.specs.Matching.{is_first_order, matched}
use Rattle.isa_goal.specs.Resolving.{matching, under_assumptions, resolved, is_large, limited, attempt, with_first, results}
use Rattle.isa_goal.specs.declared.found.Found.{Found}
use Rattle.isa_goal.specs.declared.found.Found.TheVariants.{Outside, Res}
use Rattle.isa_goal.proofs.Chaining.{canon_propositions, from_same}
use Rattle.isa_goal.proofs.Following.{refined_propositions}
use Rattle.isa_goal.proofs.Lifting.{aim_propositions, matching_keeps, under_derived}
use Rattle.isa_goal.proofs.Numbers.{refined_advances, canon_follows}

-- ---- more axioms derive more
pub derives_more : (ax more H : List Tm) (p : Tm) → Within ax more → Derives ax H p → Derives more H p
derives_more ax more H p w d = record { used = d.used; tree = tree_more w d.tree; within = d.within }

each_more : (ax more : List Tm) (f : Tm → Tm) (ts : List Tm) → Within ax more → Each (λ a. Derives ax [] (f a)) ts → Each (λ a. Derives more [] (f a)) ts
each_more ax more f [] w e = tt
each_more ax more f (t ∷ ts) w e = (derives_more ax more [] (f t) w e.0, each_more ax more f ts w e.1)

pub follows_more : (ax more : List Tm) (s t : Goals) → Within ax more → Follows ax s t → Follows more s t
follows_more ax more s t w f =
    record {
      inst = f.inst;
      kept = f.kept;
      goal = f.goal;
      subgoals = each_more ax more (λ a. bare (implies t.subgoals (instance_of f.inst a))) s.subgoals w f.subgoals;
    }

pub Within-trans : (xs ys zs : List Tm) → Within xs ys → Within ys zs → Within xs zs
Within-trans xs ys zs v w p m = w p (v p m)

-- ---- what follows from a state that stands
pub follows_stands : (ax : List Tm) (s t : Goals) → Within (propositions s.base) (propositions t.base) → Within ax (propositions t.base) → ArePropositions t.subgoals → IsStanding s → Follows ax s t → IsStanding t
follows_stands ax s t v w ps d f =
    let B : List Tm = propositions t.base in
    let whole : From B s.subgoals s.goal = derives_more (propositions s.base) B [] (bare (implies s.subgoals s.goal)) v d.derivation in
    let at : From B (map (instance_of f.inst) s.subgoals) (instance_of f.inst s.goal) = from_instance B f.inst s.subgoals s.goal f.kept whole in
    let each : (u : Tm) → _ → From B t.subgoals u = map_member (instance_of f.inst) (λ p. From B t.subgoals p) s.subgoals
    (λ a m. derives_more ax B [] (bare (implies t.subgoals (instance_of f.inst a))) w (of_each (λ a. Derives ax [] (bare (implies t.subgoals (instance_of f.inst a)))) s.subgoals f.subgoals a m)) in
    record {
      derivation = from_same B t.subgoals (instance_of f.inst s.goal) t.goal (sym f.goal)
          (chain B (map (instance_of f.inst) s.subgoals) t.subgoals (instance_of f.inst s.goal) ps at each);
    }

-- ---- the opening of a lemma
typed_proposition : (t : Tm) (r : _) → type_at [] t ≡ r → typed_as r prop ≡ true → IsProposition t
typed_proposition t (Ok T) e h = is_prop t T e h
typed_proposition t (Err fault) e h = absurd (cc (h))

pub alone_stands : (p : Tm) (g : Goals) → started p ≡ Some g → IsStanding (canon g)
alone_stands p g e =
    let c = cond_some (has_type p prop) _ e in
    let q : IsProposition p = typed_proposition p (type_at [] p) refl c.0 in
    let is : record { subgoals = p ∷ []; goal = p; base = [] } ≡ g = cc (c.1) in
    let ps : ArePropositions (p ∷ []) = (q, tt) in
    let alone : Goals = record { subgoals = p ∷ []; goal = p; base = [] } in
    let stands : IsStanding alone = record { derivation = itself [] (p ∷ []) p ps (inl refl) } in
    let follows : Follows [] alone (canon alone) = canon_follows [] alone alone ps q (record { goal = refl; subgoals = (itself [] (p ∷ []) p ps (inl refl), tt) }) in
    subst (λ (x : Goals). IsStanding (canon x)) is
    (follows_stands [] alone (canon alone) (λ r m. m) (λ r m. m) (canon_propositions alone ps) stands follows)

pub alone_base : (p : Tm) (g : Goals) → started p ≡ Some g → (canon g).base ≡ []
alone_base p g e =
    let c = cond_some (has_type p prop) _ e in
    let is : record { subgoals = p ∷ []; goal = p; base = [] } ≡ g = cc (c.1) in
    ap (λ (x : Goals). x.base) (sym is)

-- ---- refinement
refined_base : (i n : ℕ) (th : Theorem) (s t : Goals) → refined i th n s ≡ Some t → t.base ≡ joined_bases s.base th.base
refined_base i n th s t e =
    let a = bind_some (around i s.subgoals) _ e in
    let r = bind_some (rule_form n th) _ a.2 in
    let c = cond_some (tm_eq a.0.1 r.0.1) _ r.2 in
    let q : record { subgoals = a.0.0 ++ (r.0.0 ++ a.0.2); goal = s.goal; base = joined_bases s.base th.base } ≡ t = cc (c.1) in
    ap (λ (x : Goals). x.base) (sym q)

pub refined_stands : (i n : ℕ) (th : Theorem) (s p : Goals) → refined i th n s ≡ Some p → IsStanding s → IsDerived th → IsStanding (canon p)
refined_stands i n th s p e d f =
    let base : p.base ≡ joined_bases s.base th.base = refined_base i n th s p e in
    follows_stands (propositions th.base) s (canon p)
    (subst (λ b. Within (propositions s.base) (propositions b)) (sym base) (bases_left s.base th.base))
    (subst (λ b. Within (propositions th.base) (propositions b)) (sym base) (bases_right s.base th.base))
    (canon_propositions p (refined_propositions i n th s p e d f)) d (refined_advances i n th s p e d f).follows

-- ---- what rules give
-- the state stands, rests on the axioms, and follows from the one before
pub record IsNext (ax : List Tm) (s t : Goals) : Type 0 where
  pub stands : IsStanding t
  pub rests : Within (propositions t.base) ax
  pub follows : Follows ax s t

-- each state that is found is such
abbrev pub AllNext : List Tm → Goals → List Found → Type 0
AllNext ax s [] = Unit {0}
AllNext ax s (Outside ∷ fs) = AllNext ax s fs
AllNext ax s (Res t ∷ fs) = IsNext ax s t × AllNext ax s fs

-- a rule that has a derivation from the axioms, without hypotheses
pub record IsKept (ax : List Tm) (th : Theorem) : Type 0 where
  pub derived : IsDerived th
  pub closed : th.hyps ≡ []
  pub rests : Within (propositions th.base) ax

abbrev pub AreKept : List Tm → List Theorem → Type 0
AreKept ax [] = Unit {0}
AreKept ax (th ∷ ths) = IsKept ax th × AreKept ax ths

some_of_map : (f : Goals → Goals) (o : Option Goals) (t : Goals) → option_map f o ≡ Some t → (p : Goals) × (o ≡ Some p) × (f p ≡ t)
some_of_map f None t e = absurd (cc)
some_of_map f (Some p) t e = (p, refl, cc (e))

resolved_next : (ax : List Tm) (i : ℕ) (th : Theorem) (s t : Goals) → IsKept ax th → is_first_order (conclusion th.prop) ≡ true → resolved i th s ≡ Some t → IsStanding s → Within (propositions s.base) ax → IsNext ax s t
resolved_next ax i th s t k o e d w =
    let a = bind_some (around i s.subgoals) _ e in
    let m = bind_some (matched (conclusion th.prop) (conclusion a.0.1) []) _ a.2 in
    let n : Instance = matching m.0 th in
    let rule : Theorem = under_assumptions (premises a.0.1) n th in
    let sound : IsDerived rule = under_derived (premises a.0.1) n th k.derived k.closed (aim_propositions i s a.0 d a.1) (matching_keeps m.0 th (conclusion a.0.1) o m.1) in
    let r = some_of_map canon (refined i rule (length (premises th.prop)) s) t m.2 in
    let f : Advances (propositions th.base) s (canon r.0) = refined_advances i (length (premises th.prop)) rule s r.0 r.1 d sound in
    subst (λ (x : Goals). IsNext ax s x) r.2
    (record {
      stands = refined_stands i (length (premises th.prop)) rule s r.0 r.1 d sound;
      rests = Within-trans (propositions (canon r.0).base) (propositions s.base ++ propositions th.base) ax f.rests (Within-append (propositions s.base) (propositions th.base) ax w k.rests);
      follows = follows_more (propositions th.base) ax s (canon r.0) k.rests f.follows;
    })

-- what is found, if anything is
abbrev NextIfFound : List Tm → Goals → Option Found → Type 0
NextIfFound ax s None = Unit {0}
NextIfFound ax s (Some Outside) = Unit {0}
NextIfFound ax s (Some (Res t)) = IsNext ax s t

limited_next : (ax : List Tm) (s t : Goals) (b : Bool) → IsNext ax s t → NextIfFound ax s (Some (cond b Outside (Res t)))
limited_next ax s t true f = tt
limited_next ax s t false f = f

tried_next : (ax : List Tm) (i : ℕ) (th : Theorem) (s : Goals) (o : Option Goals) → IsKept ax th → is_first_order (conclusion th.prop) ≡ true → resolved i th s ≡ o → IsStanding s → Within (propositions s.base) ax → NextIfFound ax s (option_map limited o)
tried_next ax i th s None k c e d w = tt
tried_next ax i th s (Some t) k c e d w = limited_next ax s t (is_large t) (resolved_next ax i th s t k c e d w)

first_next : (ax : List Tm) (i : ℕ) (th : Theorem) (s : Goals) (b : Bool) → IsKept ax th → is_first_order (conclusion th.prop) ≡ b → IsStanding s → Within (propositions s.base) ax → NextIfFound ax s (cond b (option_map limited (resolved i th s)) (Some Outside))
first_next ax i th s true k e d w = tried_next ax i th s (resolved i th s) k e refl d w
first_next ax i th s false k e d w = tt

attempt_next : (ax : List Tm) (i : ℕ) (th : Theorem) (s : Goals) → IsKept ax th → IsStanding s → Within (propositions s.base) ax → NextIfFound ax s (attempt i th s)
attempt_next ax i th s k d w = at (around i s.subgoals)
  where
    plain : (H : List Tm) → th.hyps ≡ H → NextIfFound ax s (elim H [ [] ↦ cond (is_first_order (conclusion th.prop)) (option_map limited (resolved i th s)) (Some Outside) | h ∷ hs ↦ None ])
    plain [] e = first_next ax i th s (is_first_order (conclusion th.prop)) k refl d w
    plain (h ∷ hs) e = tt

    at : (o : Option (List Tm × Tm × List Tm)) → NextIfFound ax s (option_and_then {T = List Tm × Tm × List Tm} {U = Found} (λ a. elim th.hyps [ [] ↦ cond (is_first_order (conclusion th.prop)) (option_map limited (resolved i th s)) (Some Outside) | h ∷ hs ↦ None ]) o)
    at None = tt
    at (Some a) = plain th.hyps refl

all_first : (ax : List Tm) (s : Goals) (o : Option Found) (fs : List Found) → NextIfFound ax s o → AllNext ax s fs → AllNext ax s (with_first o fs)
all_first ax s None fs h a = a
all_first ax s (Some Outside) fs h a = a
all_first ax s (Some (Res t)) fs h a = (h, a)

pub results_next : (ax : List Tm) (i : ℕ) (rules : List Theorem) (s : Goals) → AreKept ax rules → IsStanding s → Within (propositions s.base) ax → AllNext ax s (results i rules s)
unfolding results
results_next ax i [] s k d w = tt
results_next ax i (th ∷ ths) s k d w = all_first ax s (attempt i th s) (results i ths s) (attempt_next ax i th s k.0 d w) (results_next ax i ths s k.1 d w)
