-- What the inferences behind a step answer.
use Rattle.std.proofs.Common.{◌≡◌, inl, inr, List, [], ◌∷◌, ◌++◌, map, Bool, true, false, cond, Some, None, refl, sym, ap, ◌∙◌, subst, append-nil}
use Rattle.std.specs.Prelude.{option_and_then}
use Rattle.isa_terms.specs.Terms.{Tm}
use Rattle.isa_terms.specs.Equal.{tm_eq}
use Rattle.isa_terms.specs.Sets.{has, missing, joined, without}
use Rattle.isa_kernel.specs.Logic.{imp}
use Rattle.isa_kernel.specs.declared.base.BaseEntry.{BaseEntry}
use Rattle.isa_kernel.specs.Axioms.{joined_bases}
use Rattle.isa_kernel.specs.Derivation.{Member, Within}
use Rattle.isa_kernel.specs.Theorem.{Theorem, IsDerived}
use Rattle.isa_kernel.specs.Inferences.{assumed, implies_introduced, implies_eliminated}
use Rattle.isa_kernel.proofs.Sound.{assumed_sound, implies_introduced_sound, implies_eliminated_sound}
use Rattle.isa_terms.proofs.Functions.{bind_some}
use Rattle.isa_kernel.proofs.Members.{Member-left, Member-right, Within-append, Member-without}
use Rattle.isa_subgoal.specs.Premises.{implies}
use Rattle.isa_subgoal.specs.Private.Steps.{eliminated, introduced, cut_by, met_under, raised_by}
use Rattle.isa_subgoal.proofs.Deriving.{tm_eq_same, has_type_of, ArePropositions, implies_append, implies_proposition, propositions_under}

-- the hypotheses after premises were assumed, and after some were brought in
abbrev pub more_hyps : List Tm → List Tm → List Tm
more_hyps H [] = H
more_hyps H (p ∷ ps) = more_hyps (joined H (p ∷ [])) ps

abbrev pub fewer_hyps : List Tm → List Tm → List Tm
fewer_hyps [] H = H
fewer_hyps (p ∷ ps) H = without p (fewer_hyps ps H)

pub eliminated_is : (ps H : List Tm) (B : List BaseEntry) (q : Tm) → ArePropositions ps → eliminated ps (record { hyps = H; prop = implies ps q; base = B }) ≡ Some (record { hyps = more_hyps H ps; prop = q; base = B })
unfolding eliminated
eliminated_is [] H B q w = refl
eliminated_is (p ∷ ps) H B q w =
    let th : Theorem = record { hyps = H; prop = imp p (implies ps q); base = B } in
    ap (λ b. option_and_then (λ a. option_and_then (λ n. eliminated ps n) (implies_eliminated th a)) (cond b (Some (record { hyps = p ∷ []; prop = p; base = [] })) None)) (has_type_of p w.0)
    ∙ ap (λ b. option_and_then (λ n. eliminated ps n) (cond b (Some (record { hyps = joined H (p ∷ []); prop = implies ps q; base = joined_bases B [] })) None)) (tm_eq_same p)
    ∙ ap (λ C. eliminated ps (record { hyps = joined H (p ∷ []); prop = implies ps q; base = C })) (append-nil B)
    ∙ eliminated_is ps (joined H (p ∷ [])) B q w.1

pub introduced_is : (ps H : List Tm) (B : List BaseEntry) (q : Tm) → ArePropositions ps → introduced ps (record { hyps = H; prop = q; base = B }) ≡ Some (record { hyps = fewer_hyps ps H; prop = implies ps q; base = B })
unfolding introduced
introduced_is [] H B q w = refl
introduced_is (p ∷ ps) H B q w =
    ap (λ o. option_and_then (λ x. implies_introduced p x) o) (introduced_is ps H B q w.1)
    ∙ ap (λ b. cond b (Some (record { hyps = without p (fewer_hyps ps H); prop = imp p (implies ps q); base = B })) None) (has_type_of p w.0)

missing_here : (known us : List Tm) (u t : Tm) (b : Bool) → (Member t (missing known us) → Member t us) → Member t (cond b (missing known us) (u ∷ missing known us)) → Member t (u ∷ us)
missing_here known us u t true h m = inr (h m)
missing_here known us u t false h (inl e) = inl e
missing_here known us u t false h (inr m) = inr (h m)

pub missing_member : (known us : List Tm) (t : Tm) → Member t (missing known us) → Member t us
missing_member known [] t m = absurd m
missing_member known (u ∷ us) t m = missing_here known us u t (has known u) (missing_member known us t) m

pub joined_within : (ts us vs : List Tm) → Within ts vs → Within us vs → Within (joined ts us) vs
joined_within ts us vs f g = Within-append ts (missing ts us) vs f (λ t m. g t (missing_member ts us t m))

pub more_within : (H ps vs : List Tm) → Within H vs → Within ps vs → Within (more_hyps H ps) vs
more_within H [] vs f g = f
more_within H (p ∷ ps) vs f g = more_within (joined H (p ∷ [])) ps vs (joined_within H (p ∷ []) vs f (λ t m. g t (only t m))) (λ t m. g t (inr m))
  where
    only : (t : Tm) → Member t (p ∷ []) → Member t (p ∷ ps)
    only t (inl e) = inl e
    only t (inr m) = absurd m

fewer_member : (ps H : List Tm) (t : Tm) → Member t (fewer_hyps ps H) → Member t H × ((p : Tm) → Member p ps → tm_eq p t ≡ false)
fewer_member [] H t m = (m, λ p n. absurd n)
fewer_member (q ∷ ps) H t m =
    let r = Member-without q t (fewer_hyps ps H) m in
    let s = fewer_member ps H t r.0 in
    (s.0, λ p n. elim n [ inl e ↦ ap (λ x. tm_eq x t) e ∙ r.1 | inr k ↦ s.1 p k ])

none_left : (ts : List Tm) → ((t : Tm) → Member t ts → ⊥) → ts ≡ []
none_left [] h = refl
none_left (t ∷ ts) h = absurd (h t (inl refl))

pub fewer_none : (ps H : List Tm) → Within H ps → fewer_hyps ps H ≡ []
fewer_none ps H w = none_left (fewer_hyps ps H) (λ t m. let r = fewer_member ps H t m in let no : tm_eq t t ≡ false = r.1 t (w t r.0) in let yes : tm_eq t t ≡ true = tm_eq_same t in absurd (cc))

fewer_append : (ps qs H : List Tm) → fewer_hyps ps (fewer_hyps qs H) ≡ fewer_hyps (ps ++ qs) H
fewer_append [] qs H = refl
fewer_append (p ∷ ps) qs H = ap (without p) (fewer_append ps qs H)

pub two_none : (ps qs H : List Tm) → Within H (ps ++ qs) → fewer_hyps ps (fewer_hyps qs H) ≡ []
two_none ps qs H w = fewer_append ps qs H ∙ fewer_none (ps ++ qs) H w

-- a rule's premises come in the place of the subgoal that its conclusion equals
pub cut_is : (us bs vs : List Tm) (B C : List BaseEntry) (a r c : Tm) → ArePropositions us → ArePropositions bs → tm_eq a r ≡ true →
    cut_by us bs (record { hyps = []; prop = implies (us ++ (a ∷ vs)) c; base = B }) (record { hyps = []; prop = implies bs r; base = C })
    ≡ Some (record { hyps = []; prop = implies (us ++ (bs ++ vs)) c; base = joined_bases B C })
unfolding cut_by
cut_is us bs vs B C a r c wu wb e =
    let K : List Tm = joined (more_hyps [] us) (more_hyps [] bs) in
    let k_in : Within K (us ++ bs) = joined_within (more_hyps [] us) (more_hyps [] bs) (us ++ bs)
    (more_within [] us (us ++ bs) (λ t m. absurd m) (λ t m. Member-left t us bs m))
    (more_within [] bs (us ++ bs) (λ t m. absurd m) (λ t m. Member-right t us bs m)) in
    let rule : Theorem = record { hyps = []; prop = implies bs r; base = C } in
    let last = λ (x : Theorem). option_and_then (λ inner. introduced us inner) (introduced bs x) in
    let late = λ (x : Theorem). option_and_then (λ met. option_and_then last (implies_eliminated x met)) (eliminated bs rule) in
    ap (λ p. option_and_then late (eliminated us (record { hyps = []; prop = p; base = B }))) (implies_append us (a ∷ vs) c)
    ∙ ap (λ o. option_and_then late o) (eliminated_is us [] B (imp a (implies vs c)) wu)
    ∙ ap (λ o. option_and_then (λ met. option_and_then last (implies_eliminated (record { hyps = more_hyps [] us; prop = imp a (implies vs c); base = B }) met)) o) (eliminated_is bs [] C r wb)
    ∙ ap (λ b. option_and_then last (cond b (Some (record { hyps = K; prop = implies vs c; base = joined_bases B C })) None)) e
    ∙ ap (λ o. option_and_then (λ inner. introduced us inner) o) (introduced_is bs K (joined_bases B C) (implies vs c) wb)
    ∙ introduced_is us (fewer_hyps bs K) (joined_bases B C) (implies bs (implies vs c)) wu
    ∙ (λ i. Some (record { hyps = two_none us bs K k_in i; prop = (ap (implies us) (sym (implies_append bs vs c)) ∙ sym (implies_append us (bs ++ vs) c)) i; base = joined_bases B C }))

-- ---- lifting over assumptions
abbrev pub met_hyps : List Tm → List Tm → List Tm → List Tm
met_hyps H hs [] = H
met_hyps H hs (p ∷ ps) = met_hyps (joined H (more_hyps (implies hs p ∷ []) hs)) hs ps

pub met_is : (hs ps H : List Tm) (B : List BaseEntry) (q : Tm) → ArePropositions hs → ArePropositions ps → met_under hs ps (record { hyps = H; prop = implies ps q; base = B }) ≡ Some (record { hyps = met_hyps H hs ps; prop = q; base = B })
unfolding met_under
met_is hs [] H B q w v = refl
met_is hs (p ∷ ps) H B q w v =
    let th : Theorem = record { hyps = H; prop = imp p (implies ps q); base = B } in
    let met : List Tm = more_hyps (implies hs p ∷ []) hs in
    ap (λ b. option_and_then (λ a. option_and_then (λ m. option_and_then (λ n. met_under hs ps n) (implies_eliminated th m)) (eliminated hs a)) (cond b (Some (record { hyps = implies hs p ∷ []; prop = implies hs p; base = [] })) None)) (has_type_of (implies hs p) (implies_proposition hs p w v.0))
    ∙ ap (λ o. option_and_then (λ m. option_and_then (λ n. met_under hs ps n) (implies_eliminated th m)) o) (eliminated_is hs (implies hs p ∷ []) [] p w)
    ∙ ap (λ b. option_and_then (λ n. met_under hs ps n) (cond b (Some (record { hyps = joined H met; prop = implies ps q; base = joined_bases B [] })) None)) (tm_eq_same p)
    ∙ ap (λ C. met_under hs ps (record { hyps = joined H met; prop = implies ps q; base = C })) (append-nil B)
    ∙ met_is hs ps (joined H met) B q w v.1

met_within : (H hs ps vs : List Tm) → Within H vs → Within hs vs → Within (map (implies hs) ps) vs → Within (met_hyps H hs ps) vs
met_within H hs [] vs f g h = f
met_within H hs (p ∷ ps) vs f g h =
    met_within (joined H (more_hyps (implies hs p ∷ []) hs)) hs ps vs
    (joined_within H (more_hyps (implies hs p ∷ []) hs) vs f (more_within (implies hs p ∷ []) hs vs (λ t m. h t (only t m)) g))
    g (λ t m. h t (inr m))
  where
    only : (t : Tm) → Member t (implies hs p ∷ []) → Member t (implies hs p ∷ map (implies hs) ps)
    only t (inl e) = inl e
    only t (inr m) = absurd m

-- the premises and the conclusion of a rule come under the assumptions
pub raised_by_is : (hs ps : List Tm) (B : List BaseEntry) (q : Tm) → ArePropositions hs → ArePropositions ps → raised_by hs ps (record { hyps = []; prop = implies ps q; base = B }) ≡ Some (record { hyps = []; prop = implies (map (implies hs) ps) (implies hs q); base = B })
unfolding raised_by
raised_by_is hs ps B q w v =
    let K : List Tm = met_hyps [] hs ps in
    let news : List Tm = map (implies hs) ps in
    let k_in : Within K (news ++ hs) = met_within [] hs ps (news ++ hs) (λ t m. absurd m) (λ t m. Member-right t news hs m) (λ t m. Member-left t news hs m) in
    ap (λ o. option_and_then (λ core. option_and_then (λ inner. introduced news inner) (introduced hs core)) o) (met_is hs ps [] B q w v)
    ∙ ap (λ o. option_and_then (λ inner. introduced news inner) o) (introduced_is hs K B q w)
    ∙ introduced_is news (fewer_hyps hs K) B (implies hs q) (propositions_under hs ps w v)
    ∙ ap (λ H. Some (record { hyps = H; prop = implies news (implies hs q); base = B })) (two_none news hs K k_in)

-- ---- what the inferences give is derived
pub eliminated_sound : (ps : List Tm) (th x : Theorem) → eliminated ps th ≡ Some x → IsDerived th → IsDerived x
unfolding eliminated
eliminated_sound [] th x e d = subst (λ y. IsDerived y) (cc (e)) d
eliminated_sound (p ∷ ps) th x e d =
    let a = bind_some (assumed p) _ e in
    let n = bind_some (implies_eliminated th a.0) _ a.2 in
    eliminated_sound ps n.0 x n.2 (implies_eliminated_sound th a.0 n.0 n.1 d (assumed_sound p a.0 a.1))

pub introduced_sound : (ps : List Tm) (th x : Theorem) → introduced ps th ≡ Some x → IsDerived th → IsDerived x
unfolding introduced
introduced_sound [] th x e d = subst (λ y. IsDerived y) (cc (e)) d
introduced_sound (p ∷ ps) th x e d =
    let i = bind_some (introduced ps th) _ e in
    implies_introduced_sound p i.0 x i.2 (introduced_sound ps th i.0 i.1 d)

met_sound : (hs ps : List Tm) (th x : Theorem) → met_under hs ps th ≡ Some x → IsDerived th → IsDerived x
unfolding met_under
met_sound hs [] th x e d = subst (λ y. IsDerived y) (cc (e)) d
met_sound hs (p ∷ ps) th x e d =
    let a = bind_some (assumed (implies hs p)) _ e in
    let b = bind_some (eliminated hs a.0) _ a.2 in
    let n = bind_some (implies_eliminated th b.0) _ b.2 in
    met_sound hs ps n.0 x n.2 (implies_eliminated_sound th b.0 n.0 n.1 d (eliminated_sound hs a.0 b.0 b.1 (assumed_sound (implies hs p) a.0 a.1)))

pub raised_sound : (hs ps : List Tm) (th x : Theorem) → raised_by hs ps th ≡ Some x → IsDerived th → IsDerived x
unfolding raised_by
raised_sound hs ps th x e d =
    let c = bind_some (met_under hs ps th) _ e in
    let i = bind_some (introduced hs c.0) _ c.2 in
    introduced_sound (map (implies hs) ps) i.0 x i.2 (introduced_sound hs c.0 i.0 i.1 (met_sound hs ps th c.0 c.1 d))
