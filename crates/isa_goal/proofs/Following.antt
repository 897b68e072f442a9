-- States that follow from others.
use Rattle.std.proofs.Common.{◌≡◌, ◌⊎◌, inl, inr, ℕ, List, [], ◌∷◌, ◌++◌, map, true, Some, refl, sym, ap, ◌∙◌, subst}
use Rattle.isa_terms.specs.Terms.{Tm, bare}
use Rattle.isa_terms.specs.Equal.{tm_eq}
use Rattle.isa_terms.specs.Instance.{Instance, instance_of}
use Rattle.isa_terms.proofs.Bare.{tm_decides}
use Rattle.isa_kernel.specs.Axioms.{propositions}
use Rattle.isa_kernel.specs.Derivation.{Member, Derives}
use Rattle.isa_kernel.specs.Theorem.{Theorem, IsDerived}
use Rattle.isa_kernel.specs.Inferences.{keeps}
use Rattle.isa_terms.proofs.Functions.{bind_some, cond_some}
use Rattle.isa_kernel.proofs.Members.{bares, Member-left, Member-right}
use Rattle.isa_subgoal.proofs.Consequences.{From, from_all, under, itself, each_of, of_each, chain, map_member}
use Rattle.isa_subgoal.proofs.Instancing.{from_instance, empty_instance}
use Rattle.isa_goal.specs.Goals.{Goals, IsStanding, around, refined}
use Rattle.isa_terms.specs.Instances.{Each}
use Rattle.isa_subgoal.specs.Premises.{rule_form}
use Rattle.isa_goal.specs.Follows.{Follows, Reduces, instanced, IsNormalState}
use Rattle.isa_subgoal.proofs.Deriving.{ArePropositions, propositions_append, propositions_left, propositions_right, propositions_bare, propositions_member, derive_more, derive_assume}
use Rattle.isa_goal.proofs.Refining.{around_made, standing_propositions, placed}
use Rattle.isa_subgoal.proofs.Splitting.{rule_made, rule_propositions}

-- ---- refining
bares_front : (xs ys : List Tm) (q : Tm) → Member q (bares xs) → Member q (bares (xs ++ ys))
bares_front [] ys q m = absurd m
bares_front (x ∷ xs) ys q (inl e) = inl e
bares_front (x ∷ xs) ys q (inr m) = inr (bares_front xs ys q m)

bares_back : (xs ys : List Tm) (q : Tm) → Member q (bares ys) → Member q (bares (xs ++ ys))
bares_back [] ys q m = m
bares_back (x ∷ xs) ys q m = inr (bares_back xs ys q m)

split : (x : Tm) (us vs : List Tm) (a : Tm) → Member x (us ++ (a ∷ vs)) → Member x us ⊎ ((x ≡ a) ⊎ Member x vs)
split x [] vs a m = inr m
split x (u ∷ us) vs a (inl e) = inl (inl e)
split x (u ∷ us) vs a (inr m) = elim (split x us vs a m) [ inl k ↦ inl (inr k) | inr k ↦ inr k ]

module _ (ax us bs vs : List Tm) (a r : Tm) (ws : ArePropositions (us ++ (bs ++ vs))) (wb : ArePropositions bs) (same : bare a ≡ bare r) (rule : From ax bs r) where
  -- the subgoal that the rule concludes
  met : (x : Tm) → x ≡ a → From ax (us ++ (bs ++ vs)) x
  met x e = from_all ax (us ++ (bs ++ vs)) x ws (λ G h.
      subst (λ p. Derives ax G p) (sym same ∙ ap bare (sym e))
      (under ax bs r G rule (λ q m. derive_assume G q (h q (bares_back us (bs ++ vs) q (bares_front bs vs q m))) (propositions_member (bares bs) q (propositions_bare bs wb) m))))

  -- each of the old subgoals
  old : (x : Tm) → Member x (us ++ (a ∷ vs)) → From ax (us ++ (bs ++ vs)) x
  old x m = elim (split x us vs a m) [
    | inl k ↦ itself ax (us ++ (bs ++ vs)) x ws (Member-left x us (bs ++ vs) k)
    | inr k ↦ elim k [ inl e ↦ met x e | inr n ↦ itself ax (us ++ (bs ++ vs)) x ws (Member-right x us (bs ++ vs) (Member-right x bs vs n)) ]
  ]

placed_propositions : (i n : ℕ) (th : Theorem) (s : Goals) (at : List Tm × Tm × List Tm) (parts : List Tm × Tm) → around i s.subgoals ≡ Some at → rule_form n th ≡ Some parts → IsStanding s → IsDerived th → ArePropositions (at.0 ++ (parts.0 ++ at.2))
placed_propositions i n th s at parts a r d f =
    let all : ArePropositions (at.0 ++ (at.1 ∷ at.2)) = subst (λ ts. ArePropositions ts) (around_made i s.subgoals at a) (standing_propositions s d) in
    propositions_append at.0 (parts.0 ++ at.2) (propositions_left at.0 (at.1 ∷ at.2) all)
    (propositions_append parts.0 at.2 (rule_propositions n th parts r f) (propositions_right at.0 (at.1 ∷ at.2) all).1)

placed_reduces : (i n : ℕ) (th : Theorem) (s : Goals) (at : List Tm × Tm × List Tm) (parts : List Tm × Tm) → around i s.subgoals ≡ Some at → rule_form n th ≡ Some parts → bare at.1 ≡ bare parts.1 → IsStanding s → IsDerived th → Reduces (propositions th.base) s (placed s th at parts.0)
placed_reduces i n th s at parts a r same d f =
    let here = around_made i s.subgoals at a in
    let all : ArePropositions (at.0 ++ (at.1 ∷ at.2)) = subst (λ ts. ArePropositions ts) here (standing_propositions s d) in
    let us : ArePropositions at.0 = propositions_left at.0 (at.1 ∷ at.2) all in
    let vs : ArePropositions (at.1 ∷ at.2) = propositions_right at.0 (at.1 ∷ at.2) all in
    let bs : ArePropositions parts.0 = rule_propositions n th parts r f in
    let news : List Tm = at.0 ++ (parts.0 ++ at.2) in
    let ws : ArePropositions news = propositions_append at.0 (parts.0 ++ at.2) us (propositions_append parts.0 at.2 bs vs.1) in
    let rule : From (propositions th.base) parts.0 parts.1 = subst (λ (x : Theorem). Derives (propositions th.base) (bares x.hyps) (bare x.prop)) (rule_made n th parts r) f.derivation in
    record {
      goal = refl;
      subgoals = subst (λ ts. Each (λ x. From (propositions th.base) news x) ts) (sym here) (each_of (at.0 ++ (at.1 ∷ at.2)) (old (propositions th.base) at.0 parts.0 at.2 at.1 parts.1 ws bs same rule));
    }

pub refined_reduces : (i n : ℕ) (th : Theorem) (s t : Goals) → refined i th n s ≡ Some t → IsStanding s → IsDerived th → Reduces (propositions th.base) s t
refined_reduces i n th s t e d f =
    let a = bind_some (around i s.subgoals) _ e in
    let r = bind_some (rule_form n th) _ a.2 in
    let c = cond_some (tm_eq a.0.1 r.0.1) _ r.2 in
    subst (λ x. Reduces (propositions th.base) s x) (cc (c.1)) (placed_reduces i n th s a.0 r.0 a.1 r.1 ((tm_decides a.0.1 r.0.1).0 c.0) d f)

pub refined_propositions : (i n : ℕ) (th : Theorem) (s t : Goals) → refined i th n s ≡ Some t → IsStanding s → IsDerived th → ArePropositions t.subgoals
refined_propositions i n th s t e d f =
    let a = bind_some (around i s.subgoals) _ e in
    let r = bind_some (rule_form n th) _ a.2 in
    let c = cond_some (tm_eq a.0.1 r.0.1) _ r.2 in
    let q : placed s th a.0 r.0.0 ≡ t = cc (c.1) in
    subst (λ (x : Goals). ArePropositions x.subgoals) q (placed_propositions i n th s a.0 r.0 a.1 r.1 d f)

-- what is reduced and then instantiated follows
pub instanced_follows : (ax : List Tm) (n : Instance) (s t : Goals) → keeps n.types n.terms ≡ true → Reduces ax s t → Follows ax s (instanced n t)
instanced_follows ax n s t k d = record {
  inst = n;
  kept = k;
  goal = ap (λ g. bare (instance_of n g)) d.goal;
  subgoals = each_of s.subgoals (λ a m. from_instance ax n t.subgoals a k (of_each _ s.subgoals d.subgoals a m));
}

-- a normal state follows from itself, and what reduces it follows from it
pub reduced_follows : (ax : List Tm) (s t : Goals) → IsNormalState s → Reduces ax s t → Follows ax s t
reduced_follows ax s t n d = record {
  inst = record { types = []; terms = [] };
  kept = refl;
  goal = ap bare (d.goal ∙ sym (empty_instance s.goal n.goal));
  subgoals = each_of s.subgoals (λ a m. subst (λ q. From ax t.subgoals q) (sym (empty_instance a (of_each _ s.subgoals n.subgoals a m))) (of_each _ s.subgoals d.subgoals a m));
}

pub reduces_itself : (s : Goals) → IsStanding s → Reduces [] s s
reduces_itself s d = record { goal = refl; subgoals = each_of s.subgoals (λ a m. itself [] s.subgoals a (standing_propositions s d) m) }

-- one reduction after the other
pub reduces_more : (ax : List Tm) (s t u : Goals) → ArePropositions u.subgoals → Reduces ax s t → Reduces [] t u → Reduces ax s u
reduces_more ax s t u w d e = record {
  goal = e.goal ∙ d.goal;
  subgoals = each_of s.subgoals (λ a m. chain ax t.subgoals u.subgoals a w (of_each _ s.subgoals d.subgoals a m) (λ p n. derive_more (λ r k. absurd k) (λ r k. k) (of_each _ t.subgoals e.subgoals p n)));
}

-- a state that follows from one to which another reduces
pub reduces_follows : (ax : List Tm) (s t u : Goals) → ArePropositions u.subgoals → Reduces ax s t → Follows ax t u → Follows ax s u
reduces_follows ax s t u w d f = record {
  inst = f.inst;
  kept = f.kept;
  goal = f.goal ∙ ap (λ g. bare (instance_of f.inst g)) d.goal;
  subgoals = each_of s.subgoals (λ a m. chain ax (map (instance_of f.inst) t.subgoals) u.subgoals (instance_of f.inst a) w
      (from_instance ax f.inst t.subgoals a f.kept (of_each _ s.subgoals d.subgoals a m))
      (map_member (instance_of f.inst) (λ p. From ax u.subgoals p) t.subgoals (of_each _ t.subgoals f.subgoals)));
}

-- a normal state follows from itself
pub follows_itself : (s : Goals) → IsStanding s → IsNormalState s → Follows [] s s
follows_itself s d n = reduced_follows [] s s n (reduces_itself s d)
