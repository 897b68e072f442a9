-- States that follow from sound ones are sound.
use Rattle.std.specs.Prelude.{option_and_then, option_map}
use Rattle.std.proofs.Common.{◌≡◌, ◌⊎◌, inl, inr, ℕ, ◌-◌, length, List, [], ◌∷◌, ◌++◌, map, take, drop, Bool, true, false, cond, Option, Some, None, refl, sym, ap, ◌∙◌, subst}
use Rattle.std.proofs.lemmas.List.{take-append-drop}
use Rattle.isa_terms.specs.Terms.{Tm, bare}
use Rattle.isa_terms.specs.Equal.{tm_eq}
use Rattle.isa_terms.specs.Instance.{Instance, instance_of}
use Rattle.isa_terms.specs.Instances.{Each}
use Rattle.isa_terms.proofs.Functions.{bind_some, cond_some}
use Rattle.isa_kernel.specs.Axioms.{propositions, joined_bases}
use Rattle.isa_kernel.specs.Logic.{IsProposition}
use Rattle.isa_kernel.specs.Derivation.{Member, Within, Derives}
use Rattle.isa_kernel.specs.Theorem.{Theorem, IsDerived, AreDerived}
use Rattle.isa_kernel.proofs.Members.{bares, bases_left, bases_right}
use Rattle.isa_subgoal.specs.Premises.{implies, leading, premises, conclusion, rule_form}
use Rattle.isa_subgoal.proofs.Deriving.{ArePropositions, derived_propositions, propositions_append, propositions_left, propositions_right, propositions_bare, propositions_member, derive_more, derive_assume, implies_append, implies_proposition}
use Rattle.isa_subgoal.proofs.Consequences.{From, from_all, under, of_each, chain, map_member}
use Rattle.isa_subgoal.proofs.Instancing.{from_instance}
use Rattle.isa_subgoal.proofs.Rotating.{leading_made}
use Rattle.isa_goal.specs.Goals.{Goals, IsStanding, around, refined}
use Rattle.isa_goal.specs.Follows.{Follows, Reduces, IsNormalState}
use Rattle.isa_goal.specs.Names.{canon}
use Rattle.isa_goal.specs.Focus.{focused, put_back}
use Rattle.isa_goal.specs.Matching.{is_first_order, matched}
use Rattle.isa_goal.specs.Resolving.{matching, under_assumptions, resolved, is_large, limited, attempt, with_first, results}
use Rattle.isa_goal.specs.declared.found.Found.{Found}
use Rattle.isa_goal.specs.declared.found.Found.TheVariants.{Outside, Res}
use Rattle.isa_goal.proofs.Following.{refined_reduces, refined_propositions, reduced_follows, reduces_itself}
use Rattle.isa_goal.proofs.Refining.{around_made, standing_propositions}
use Rattle.isa_goal.proofs.Chaining.{from_same, canon_propositions, canon_normal}
use Rattle.isa_goal.proofs.Numbers.{canon_follows}
use Rattle.isa_goal.proofs.Focusing.{leading_propositions}
use Rattle.isa_goal.proofs.Unfocusing.{put_back_propositions}
use Rattle.isa_goal.proofs.Lifting.{aim_propositions, matching_keeps, under_derived}
use Rattle.isa_seq_states.specs.Introductions.{IsSoundState}

-- what follows from a state that stands stands by the axioms of both
pub standing_after : (ax : List Tm) (s t : Goals) → IsStanding s → ArePropositions t.subgoals → Follows ax s t → Within (propositions s.base) (propositions t.base) → Within ax (propositions t.base) → IsStanding t
standing_after ax s t d w f l m =
    let B : List Tm = propositions t.base in
    let whole : From B s.subgoals s.goal = derive_more l (λ r n. n) d.derivation in
    let old : List Tm = map (instance_of f.inst) s.subgoals in
    let each : (p : Tm) → Member p old → From B t.subgoals p = map_member (instance_of f.inst) (λ p. From B t.subgoals p) s.subgoals (λ a n. derive_more m (λ r k. k) (of_each _ s.subgoals f.subgoals a n)) in
    let done : From B t.subgoals (instance_of f.inst s.goal) = chain B old t.subgoals (instance_of f.inst s.goal) w (from_instance B f.inst s.subgoals s.goal f.kept whole) each in
    record { derivation = from_same B t.subgoals (instance_of f.inst s.goal) t.goal (sym f.goal) done }

-- the canonical form of a state that stands is sound
pub canon_sound : (s : Goals) → IsStanding s → IsSoundState (canon s)
canon_sound s d =
    let w = standing_propositions s d in
    let f : Follows [] s (canon s) = canon_follows [] s s w (derived_propositions s.subgoals s.goal d.derivation).1 (reduces_itself s d) in
    record {
      standing = standing_after [] s (canon s) d (canon_propositions s w) f (λ p m. m) (λ p m. absurd m);
      normal = canon_normal s (canon s) d refl;
    }

refined_base : (i n : ℕ) (th : Theorem) (s t : Goals) → refined i th n s ≡ Some t → t.base ≡ joined_bases s.base th.base
refined_base i n th s t e =
    let a = bind_some (around i s.subgoals) _ e in
    let r = bind_some (rule_form n th) _ a.2 in
    let c = cond_some (tm_eq a.0.1 r.0.1) _ r.2 in
    let q : record { subgoals = a.0.0 ++ (r.0.0 ++ a.0.2); goal = s.goal; base = joined_bases s.base th.base } ≡ t = cc (c.1) in
    ap (λ (x : Goals). x.base) (sym q)

refined_sound : (i n : ℕ) (th : Theorem) (s p : Goals) → refined i th n s ≡ Some p → IsSoundState s → IsDerived th → IsSoundState (canon p)
refined_sound i n th s p e d f =
    let ax : List Tm = propositions th.base in
    let base = sym (refined_base i n th s p e) in
    canon_sound p (standing_after ax s p d.standing (refined_propositions i n th s p e d.standing f) (reduced_follows ax s p d.normal (refined_reduces i n th s p e d.standing f))
    (subst (λ b. Within (propositions s.base) (propositions b)) base (bases_left s.base th.base)) (subst (λ b. Within ax (propositions b)) base (bases_right s.base th.base)))

some_of_map : (f : Goals → Goals) (o : Option Goals) (t : Goals) → option_map f o ≡ Some t → (p : Goals) × (o ≡ Some p) × (f p ≡ t)
some_of_map f None t e = absurd (cc)
some_of_map f (Some p) t e = (p, refl, cc (e))

resolved_sound : (i : ℕ) (th : Theorem) (s t : Goals) → th.hyps ≡ [] → is_first_order (conclusion th.prop) ≡ true → resolved i th s ≡ Some t → IsSoundState s → IsDerived th → IsSoundState t
resolved_sound i th s t h o e d f =
    let a = bind_some (around i s.subgoals) _ e in
    let m = bind_some (matched (conclusion th.prop) (conclusion a.0.1) []) _ a.2 in
    let n : Instance = matching m.0 th in
    let rule : Theorem = under_assumptions (premises a.0.1) n th in
    let sound : IsDerived rule = under_derived (premises a.0.1) n th f h (aim_propositions i s a.0 d.standing a.1) (matching_keeps m.0 th (conclusion a.0.1) o m.1) in
    let r = some_of_map canon (refined i rule (length (premises th.prop)) s) t m.2 in
    subst (λ x. IsSoundState x) r.2 (refined_sound i (length (premises th.prop)) rule s r.0 r.1 d sound)

-- where a state is found, it is sound
abbrev pub SoundIfFound : Option Found → Type 0
SoundIfFound (Some (Res t)) = IsSoundState t
SoundIfFound (Some Outside) = Unit {0}
SoundIfFound None = Unit {0}

-- each state that is found is sound
abbrev pub AllSound : List Found → Type 0
AllSound [] = Unit {0}
AllSound (f ∷ fs) = SoundIfFound (Some f) × AllSound fs

limited_sound : (t : Goals) (b : Bool) → IsSoundState t → SoundIfFound (Some (cond b Outside (Res t)))
limited_sound t true f = tt
limited_sound t false f = f

tried_sound : (i : ℕ) (th : Theorem) (s : Goals) (o : Option Goals) → th.hyps ≡ [] → is_first_order (conclusion th.prop) ≡ true → resolved i th s ≡ o → IsSoundState s → IsDerived th → SoundIfFound (option_map limited o)
tried_sound i th s None h c e d f = tt
tried_sound i th s (Some t) h c e d f = limited_sound t (is_large t) (resolved_sound i th s t h c e d f)

first_sound : (i : ℕ) (th : Theorem) (s : Goals) (b : Bool) → th.hyps ≡ [] → is_first_order (conclusion th.prop) ≡ b → IsSoundState s → IsDerived th → SoundIfFound (cond b (option_map limited (resolved i th s)) (Some Outside))
first_sound i th s true h e d f = tried_sound i th s (resolved i th s) h e refl d f
first_sound i th s false h e d f = tt

attempt_sound : (i : ℕ) (th : Theorem) (s : Goals) → IsSoundState s → IsDerived th → SoundIfFound (attempt i th s)
attempt_sound i th s d f = at (around i s.subgoals)
  where
    plain : (H : List Tm) → th.hyps ≡ H → SoundIfFound (elim H [ [] ↦ cond (is_first_order (conclusion th.prop)) (option_map limited (resolved i th s)) (Some Outside) | h ∷ hs ↦ None ])
    plain [] e = first_sound i th s (is_first_order (conclusion th.prop)) e refl d f
    plain (h ∷ hs) e = tt

    at : (o : Option (List Tm × Tm × List Tm)) → SoundIfFound (option_and_then {T = List Tm × Tm × List Tm} {U = Found} (λ a. elim th.hyps [ [] ↦ cond (is_first_order (conclusion th.prop)) (option_map limited (resolved i th s)) (Some Outside) | h ∷ hs ↦ None ]) o)
    at None = tt
    at (Some a) = plain th.hyps refl

first_of_all : (o : Option Found) (fs : List Found) → SoundIfFound o → AllSound fs → AllSound (with_first o fs)
first_of_all None fs h a = a
first_of_all (Some f) fs h a = (h, a)

pub results_sound : (i : ℕ) (rules : List Theorem) (s : Goals) → IsSoundState s → AreDerived rules → AllSound (results i rules s)
unfolding results
results_sound i [] s d ds = tt
results_sound i (th ∷ ths) s d ds = first_of_all (attempt i th s) (results i ths s) (attempt_sound i th s d ds.0) (results_sound i ths s d ds.1)

-- ---- a subgoal alone, and put back
wider : (ax ps qs : List Tm) (q : Tm) → ArePropositions ps → ArePropositions qs → Within (bares ps) (bares qs) → From ax ps q → From ax qs q
wider ax ps qs q w v i d = from_all ax qs q v (λ G f. under ax ps q G d (λ r m. derive_assume G r (f r (i r m)) (propositions_member (bares ps) r (propositions_bare ps w) m)))

moved : (p : Tm) (us vs : List Tm) (w : Tm) → Member p (bares (us ++ (w ∷ vs))) → Member p (bares (w ∷ (us ++ vs)))
moved p [] vs w m = m
moved p (u ∷ us) vs w (inl e) = inr (inl e)
moved p (u ∷ us) vs w (inr m) = elim (moved p us vs w m) [ inl e ↦ inl e | inr n ↦ inr (inr n) ]

made_focus : (i : ℕ) (s f : Goals) → focused i s ≡ Some f → (at : List Tm × Tm × List Tm) × (around i s.subgoals ≡ Some at) × (record { subgoals = at.1 ∷ []; goal = implies (at.0 ++ at.2) s.goal; base = s.base } ≡ f)
made_focus i s f e = let at = bind_some (around i s.subgoals) _ e in (at.0, at.1, cc (at.2))

pub focused_base : (i : ℕ) (s f : Goals) → focused i s ≡ Some f → f.base ≡ s.base
focused_base i s f e = ap (λ (x : Goals). x.base) (sym (made_focus i s f e).2)

pub focused_sound : (i : ℕ) (s f : Goals) → focused i s ≡ Some f → IsStanding s → IsSoundState (canon f)
focused_sound i s f e d =
    let made = made_focus i s f e in
    let us : List Tm = made.0.0 in
    let w : Tm = made.0.1 in
    let vs : List Tm = made.0.2 in
    let here : s.subgoals ≡ us ++ (w ∷ vs) = around_made i s.subgoals made.0 made.1 in
    let all : ArePropositions (us ++ (w ∷ vs)) = subst (λ ts. ArePropositions ts) here (standing_propositions s d) in
    let wv = propositions_right us (w ∷ vs) all in
    let news : ArePropositions (w ∷ (us ++ vs)) = (wv.0, propositions_append us vs (propositions_left us (w ∷ vs) all) wv.1) in
    let whole : From (propositions s.base) (us ++ (w ∷ vs)) s.goal = subst (λ ts. From (propositions s.base) ts s.goal) here d.derivation in
    let alone : IsStanding (record { subgoals = w ∷ []; goal = implies (us ++ vs) s.goal; base = s.base }) =
    record { derivation = wider (propositions s.base) (us ++ (w ∷ vs)) (w ∷ (us ++ vs)) s.goal all news (λ p m. moved p us vs w m) whole } in
    canon_sound f (subst (λ x. IsStanding x) made.2 alone)

member_left : (p : Tm) (xs ys : List Tm) → Member p (bares xs) → Member p (bares (xs ++ ys))
member_left p [] ys m = absurd m
member_left p (x ∷ xs) ys (inl e) = inl e
member_left p (x ∷ xs) ys (inr m) = inr (member_left p xs ys m)

member_right : (p : Tm) (xs ys : List Tm) → Member p (bares ys) → Member p (bares (xs ++ ys))
member_right p [] ys m = m
member_right p (x ∷ xs) ys m = inr (member_right p xs ys m)

member_split : (p : Tm) (xs ys : List Tm) → Member p (bares (xs ++ ys)) → Member p (bares xs) ⊎ Member p (bares ys)
member_split p [] ys m = inr m
member_split p (x ∷ xs) ys (inl e) = inl (inl e)
member_split p (x ∷ xs) ys (inr m) = elim (member_split p xs ys m) [ inl n ↦ inl (inr n) | inr n ↦ inr n ]

around_both : (p : Tm) (k : ℕ) (qs ts : List Tm) → Member p (bares (ts ++ qs)) → Member p (bares (take k qs ++ (ts ++ drop k qs)))
around_both p k qs ts m =
    elim (member_split p ts qs m) [
      | inl n ↦ member_right p (take k qs) (ts ++ drop k qs) (member_left p ts (drop k qs) n)
      | inr n ↦ elim (member_split p (take k qs) (drop k qs) (subst (λ xs. Member p (bares xs)) (sym (take-append-drop k qs)) n)) [
        | inl o ↦ member_left p (take k qs) (ts ++ drop k qs) o
        | inr o ↦ member_right p (take k qs) (ts ++ drop k qs) (member_right p ts (drop k qs) o)
      ]
    ]

pub put_back_sound : (n k : ℕ) (s : Goals) → IsStanding s → IsSoundState (canon (put_back n k s))
put_back_sound n k s d =
    let B : List Tm = propositions s.base in
    let qs : List Tm = (leading n s.goal).0 in
    let r : Tm = (leading n s.goal).1 in
    let parts = leading_propositions n s d in
    let whole : From B s.subgoals (implies qs r) = subst (λ g. From B s.subgoals g) (leading_made n s.goal) d.derivation in
    let all : From B (s.subgoals ++ qs) r = subst (λ g. Derives B [] (bare g)) (sym (implies_append s.subgoals qs r)) whole in
    let olds : ArePropositions (s.subgoals ++ qs) = propositions_append s.subgoals qs (standing_propositions s d) parts.0 in
    canon_sound (put_back n k s) (record { derivation = wider B (s.subgoals ++ qs) (put_back n k s).subgoals r olds (put_back_propositions n k s d) (λ p m. around_both p k qs s.subgoals m) all })
