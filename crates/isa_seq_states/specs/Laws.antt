-- The laws of introductions.
use Rattle.std.specs.Prelude.{option_and_then, option_map, not}
use Rattle.std.proofs.Common.{◌≡◌, ◌⊎◌, inl, inr, ℕ, ◌+◌, ◌-◌, ◌^◌, ◌<◌, ◌≤◌, ◌&&◌, min, nat_eq, length, List, [], ◌∷◌, ◌++◌, take, drop, Bool, true, false, if◌then◌else◌, Option, Some, None, refl, sym, ap, ◌∙◌, subst, arith}
use Rattle.std.proofs.lemmas.Bool.Decides.{nat_tests}
use Rattle.std.proofs.lemmas.List.{length-drop}
use Rattle.isa_terms.specs.Terms.{Tm, Const, Free, Unknown, Bound, Abs, App, bare, tm_size}
use Rattle.isa_terms.specs.Equal.{tm_eq}
use Rattle.isa_terms.proofs.Bare.{tm_decides}
use Rattle.isa_kernel.specs.Axioms.{propositions}
use Rattle.isa_kernel.specs.Derivation.{Member, Within}
use Rattle.isa_kernel.specs.Theorem.{Theorem, AreDerived}
use Rattle.isa_kernel.proofs.Members.{bases_left, bases_right, joined_rests, Member-left, Member-right}
use Rattle.isa_subgoal.specs.Premises.{implies}
use Rattle.isa_subgoal.proofs.Deriving.{derived_propositions}
use Rattle.isa_goal.specs.Goals.{Goals, has_parameter, around, head_split}
use Rattle.isa_goal.specs.Follows.{Advances}
use Rattle.isa_goal.specs.Names.{canon}
use Rattle.isa_goal.specs.Focus.{focused, unfocused}
use Rattle.isa_goal.specs.Measures.{same_terms, same_state, total_size, measure}
use Rattle.isa_goal.specs.Resolving.{Search, results, left, base_of, all_first_order, AllFollow}
use Rattle.isa_goal.specs.declared.found.Found.{Found}
use Rattle.isa_goal.specs.declared.found.Found.TheVariants.{Outside, Res}
use Rattle.isa_goal.proofs.Matches.{both_true}
use Rattle.isa_goal.proofs.Following.{follows_itself}
use Rattle.isa_goal.proofs.Refining.{standing_propositions}
use Rattle.isa_goal.proofs.Chaining.{follows_chain}
use Rattle.isa_goal.proofs.Searching.{follows_more, found_more}
use Rattle.isa_goal.proofs.Sound.{results_follow}
use Rattle.isa_goal.proofs.Unfocusing.{unfocus_follows}
use Rattle.isa_seq.specs.declared.event.Event.TheVariants as variant
use Rattle.isa_seq.specs.Traces.{Trace, IsTrace, nothing, event}
use Rattle.isa_seq.specs.Meaning.{AreLawful, IsMeaning, IsMember, IsResult}
use Rattle.isa_seq.proofs.Laws.{nothing-steps, event-is_trace, choice-steps}
use Rattle.isa_seq.proofs.Results.{of-tick, of-outside, of-result, of_choose, of_nothing}
use Rattle.isa_seq_states.specs.Introductions.{found_trace, may_try, introduced, state_or, IsSoundState, base_of_all, rule_primitives, left_of, introductions}
use Rattle.isa_seq_states.specs.Standing.{AllSound, results_sound, focused_base, focused_sound, put_back_sound}

-- ---- the same states have the same measure
size_bare : (t : Tm) → tm_size (bare t) ≡ tm_size t
size_bare (Const n T) = refl
size_bare (Free n T) = refl
size_bare (Unknown n k T) = refl
size_bare (Bound k) = refl
size_bare (Abs n T b) = ap (λ k. k + 1) (size_bare b)
size_bare (App f a) = λ i. size_bare f i + size_bare a i

same_total : (ts us : List Tm) → same_terms ts us ≡ true → total_size ts ≡ total_size us
same_total [] [] e = refl
same_total [] (u ∷ us) e = cc
same_total (t ∷ ts) [] e = cc
same_total (t ∷ ts) (u ∷ us) e =
    let b = both_true (tm_eq t u) (same_terms ts us) e in
    let s : tm_size t ≡ tm_size u = sym (size_bare t) ∙ ap tm_size ((tm_decides t u).0 b.0) ∙ size_bare u in
    let r : total_size ts ≡ total_size us = same_total ts us b.1 in
    λ i. s i + r i

same_measures : (a b : Goals) → same_state a b ≡ true → measure a ≡ measure b
same_measures a b e = ap (λ n. min n (2 ^ 64 - 1)) (same_total a.subgoals b.subgoals (both_true (same_terms a.subgoals b.subgoals) (tm_eq a.goal b.goal) e).0)

-- ---- traces
found-is_trace : (fs : List Found) → IsTrace (found_trace fs)
found-is_trace [] = nothing-steps
found-is_trace (Outside ∷ fs) = event-is_trace variant.Outside (found_trace fs) (found-is_trace fs)
found-is_trace (Res t ∷ fs) = event-is_trace (variant.Res t) (found_trace fs) (found-is_trace fs)

introduced-is_trace : (rules : List Theorem) (s : Goals) (i : ℕ) → IsTrace (introduced rules s i)
introduced-is_trace rules s i =
    let tried : Bool = may_try rules s i in
    event-is_trace variant.Tick (if tried then found_trace (results i rules s) else nothing)
    (λ k. choice-steps tried (found_trace (results i rules s)) nothing k (found-is_trace (results i rules s) k) (nothing-steps k))

introduced-begins : (rules : List Theorem) (s : Goals) (i : ℕ) → (x : Trace Goals) × (introduced rules s i ≡ event variant.Tick x)
introduced-begins rules s i = ((if may_try rules s i then found_trace (results i rules s) else nothing), refl)

left-is_trace : (search : Option Search) → IsTrace (left_of search)
left-is_trace None = nothing-steps
left-is_trace (Some search) = found-is_trace (left search)

-- ---- what is found follows, and is sound
found_result : (ax : List Tm) (s : Goals) (fs : List Found) (r : Goals) (n : ℕ) → AllFollow ax s fs → AllSound fs → IsResult r (found_trace fs n) → Advances ax s r × IsSoundState r
found_result ax s [] r n f d h = absurd (of_nothing r n h)
found_result ax s (Outside ∷ fs) r n f d h = found_result ax s fs r n f.1 d.1 (of-outside r (found_trace fs) n h)
found_result ax s (Res t ∷ fs) r n f d h =
    elim (of-result r t (found_trace fs) n h) [ inl e ↦ subst (λ x. Advances ax s x × IsSoundState x) e (f.0, d.0) | inr k ↦ found_result ax s fs r n f.1 d.1 k ]

introduced_result : (rules : List Theorem) (s : Goals) (i n : ℕ) (r : Goals) → AreDerived rules → IsSoundState s → IsResult r (introduced rules s i n) → Advances (propositions (base_of rules)) s r × IsSoundState r
introduced_result rules s i n r ds d h =
    let tried : Bool = may_try rules s i in
    let t = of-tick r (if tried then found_trace (results i rules s) else nothing) n h in
    elim (of_choose tried (found_trace (results i rules s)) nothing t.0 r t.1) [
      | inl j ↦ found_result (propositions (base_of rules)) s (results i rules s) r t.0 (results_follow i rules s d.standing ds) (results_sound i rules s d ds) j.1
      | inr j ↦ absurd (of_nothing r t.0 j.1)
    ]

-- ---- the axioms of lists of rules
split : (x : Tm) (xs ys : List Tm) → Member x (xs ++ ys) → Member x xs ⊎ Member x ys
split x [] ys m = inr m
split x (y ∷ xs) ys (inl e) = inl (inl e)
split x (y ∷ xs) ys (inr m) = elim (split x xs ys m) [ inl n ↦ inl (inr n) | inr n ↦ inr n ]

base_in : (p : List Theorem) (ps : List (List Theorem)) → IsMember p ps → Within (propositions (base_of p)) (propositions (base_of_all ps))
base_in p [] m = absurd m
base_in p (q ∷ ps) (inl e) = subst (λ x. Within (propositions (base_of x)) (propositions (base_of_all (q ∷ ps)))) e (bases_left (base_of q) (base_of_all ps))
base_in p (q ∷ ps) (inr m) = λ x n. bases_right (base_of q) (base_of_all ps) x (base_in p ps m x n)

base_more : (ps qs : List (List Theorem)) → ((p : List Theorem) → IsMember p ps → IsMember p qs) → Within (propositions (base_of_all ps)) (propositions (base_of_all qs))
base_more [] qs more = λ x m. absurd m
base_more (p ∷ ps) qs more = λ x m.
    elim (split x (propositions (base_of p)) (propositions (base_of_all ps)) (joined_rests (base_of p) (base_of_all ps) x m)) [
      | inl n ↦ base_in p qs (more p (inl refl)) x n
      | inr n ↦ base_more ps qs (λ q k. more q (inr k)) x n
    ]

-- ---- following, and what it rests on
advances_more : (ax bx : List Tm) (s t : Goals) → Within ax bx → Advances ax s t → Advances bx s t
advances_more ax bx s t w f = found_more ax bx s (Some (Res t)) w f

advances_itself : (ax : List Tm) (s : Goals) → IsSoundState s → Advances ax s s
advances_itself ax s d = record {
  follows = follows_more [] ax s s (λ p m. absurd m) (follows_itself s d.standing d.normal);
  rests = λ p m. Member-left p (propositions s.base) ax m;
}

advances_chain : (ax : List Tm) (a b c : Goals) → IsSoundState a → IsSoundState c → Advances ax a b → Advances ax b c → Advances ax a c
advances_chain ax a b c d k f g = record {
  follows = follows_chain ax a b c (standing_propositions a d.standing) (derived_propositions a.subgoals a.goal d.standing.derivation).1 (standing_propositions c k.standing) f.follows g.follows;
  rests = λ p m. elim (split p (propositions b.base) ax (g.rests p m)) [ inl n ↦ f.rests p n | inr n ↦ Member-right p (propositions a.base) ax n ];
}

-- ---- a subgoal alone
no_head : (ts : List Tm) (f : Tm × List Tm → List Tm × Tm × List Tm) → 0 < length ts → option_map f (head_split ts) ≡ None → ⊥
no_head [] f l e = absurd (omega (arith, l))
no_head (t ∷ ts) f l e = cc

no_around : (i : ℕ) (ts : List Tm) → 0 < i → i ≤ length ts → around i ts ≡ None → ⊥
no_around i ts l m = choose (nat_eq i 0) refl
  where
    parts : Tm × List Tm → List Tm × Tm × List Tm
    parts p = (take (i - 1) ts, p.0, p.1)

    there : Option (List Tm × Tm × List Tm)
    there = option_map parts (head_split (drop (i - 1) ts))

    zero_is : nat_eq i 0 ≡ true → i ≡ 0
    zero_is e = grind (arith, nat_tests)

    choose : (b : Bool) → nat_eq i 0 ≡ b → (if b then None else there) ≡ None → ⊥
    choose true e n = absurd (let z = zero_is e in omega (arith, z, l))
    choose false e n = no_head (drop (i - 1) ts) parts (let k = length-drop (i - 1) ts in omega (arith, k, l, m)) n

no_step : (o : Option (List Tm × Tm × List Tm)) (f : List Tm × Tm × List Tm → Goals) → option_and_then (λ at. Some (f at)) o ≡ None → o ≡ None
no_step None f e = refl
no_step (Some at) f e = cc

no_focus : (i : ℕ) (s : Goals) → 0 < i → i ≤ length s.subgoals → focused i s ≡ None → ⊥
no_focus i s l m e = no_around i s.subgoals l m (no_step (around i s.subgoals) (λ at. record { subgoals = at.1 ∷ []; goal = implies (at.0 ++ at.2) s.goal; base = s.base }) e)

focus_at : (i : ℕ) (s : Goals) (o : Option Goals) → focused i s ≡ o → IsSoundState s → IsSoundState (state_or s (option_map canon o))
focus_at i s None e d = d
focus_at i s (Some f) e d = focused_sound i s f e d.standing

back_at : (ax : List Tm) (i : ℕ) (s inner : Goals) (o : Option Goals) → focused i s ≡ o → 0 < i → i ≤ length s.subgoals → IsSoundState s → IsSoundState inner → Advances ax (state_or s (option_map canon o)) inner →
    Advances ax s (canon (unfocused s inner i)) × IsSoundState (canon (unfocused s inner i))
back_at ax i s inner None e l m d k h = absurd (no_focus i s l m e)
back_at ax i s inner (Some f) e l m d k h = (
  record {
    follows = unfocus_follows ax i s f inner e d.standing k.standing h.follows;
    rests = subst (λ b. Within (propositions inner.base) (propositions b ++ ax)) (focused_base i s f e) h.rests;
  },
  put_back_sound (length s.subgoals - 1) (i - 1) inner k.standing,
)

-- ---- the laws
primitives-are_lawful : AreLawful rule_primitives
primitives-are_lawful = record {
  traces = introduced-is_trace;
  begins = introduced-begins;
  same_measure = same_measures;
  focus_sound = λ s i d l m. focus_at i s (focused i s) refl d;
  stays = λ ps s all d. advances_itself (propositions (base_of_all ps)) s d;
  goes_on = λ ps a b c all d e k f g. advances_chain (propositions (base_of_all ps)) a b c d k f g;
  with_more = λ ps qs more a b all d e f. advances_more (propositions (base_of_all ps)) (propositions (base_of_all qs)) a b (base_more ps qs more) f;
  by_primitive = λ ps p s i n r all d m h. let f = introduced_result p s i n r (all p m) d h in (advances_more (propositions (base_of p)) (propositions (base_of_all ps)) s r (base_in p ps m) f.0, f.1);
  in_focus = λ ps s i inner all d k l m f. back_at (propositions (base_of_all ps)) i s inner (focused i s) refl l m d k f;
}

pub introductions-is_meaning : IsMeaning introductions
introductions-is_meaning = record {
  primitives = primitives-are_lawful;
  rests = λ run fits k. choice-steps run.ticked (left_of run.search) (event variant.Tick (left_of run.search)) k (left-is_trace run.search k) (event-is_trace variant.Tick (left_of run.search) (left-is_trace run.search) k);
}
