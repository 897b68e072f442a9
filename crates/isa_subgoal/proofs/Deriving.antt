-- Derivations with a list of hypotheses.
use Rattle.std.specs.Prelude.{codes}
use Rattle.std.proofs.Common.{◌≡◌, inl, inr, List, [], ◌∷◌, ◌++◌, map, true, false, refl, sym, ap, ◌∙◌, subst}
use Rattle.isa_terms.specs.Terms.{Tm, bare}
use Rattle.isa_terms.specs.Equal.{tm_eq}
use Rattle.isa_terms.specs.Sets.{without}
use Rattle.isa_terms.proofs.Bare.{tm_decides, type_at_bare}
use Rattle.isa_terms.specs.Typing.{HasType}
use Rattle.isa_kernel.specs.Logic.{prop, imp, IsProposition}
use Rattle.isa_kernel.specs.Derivation.{Member, Within, Assumption, ImpliesIntro, ImpliesElim, Derives}
use Rattle.isa_kernel.specs.Inferences.{has_type, typed_as}
use Rattle.isa_kernel.proofs.Members.{bares, Within-append, Member-without}
use Rattle.isa_kernel.proofs.Rules.{tree_more}
use Rattle.isa_terms.proofs.Typed.{Typed, TConst, TApp, type_of_typed, typed_of_type}
use Rattle.isa_kernel.proofs.Preserved.{derived_typed, imp_both}
use Rattle.isa_terms.specs.Instances.{Each}
use Rattle.isa_subgoal.specs.Premises.{implies}

pub tm_eq_same : (t : Tm) → tm_eq t t ≡ true
tm_eq_same t = (tm_decides t t).1 refl

pub has_type_of : (t : Tm) → HasType t prop → has_type t prop ≡ true
has_type_of t h = ap (λ r. typed_as r prop) h

-- each of the terms is a proposition
abbrev pub ArePropositions : List Tm → Type 0
ArePropositions ps = Each IsProposition ps

pub propositions_append : (ps qs : List Tm) → ArePropositions ps → ArePropositions qs → ArePropositions (ps ++ qs)
propositions_append [] qs w v = v
propositions_append (p ∷ ps) qs w v = (w.0, propositions_append ps qs w.1 v)

pub propositions_left : (ps qs : List Tm) → ArePropositions (ps ++ qs) → ArePropositions ps
propositions_left [] qs w = tt
propositions_left (p ∷ ps) qs w = (w.0, propositions_left ps qs w.1)

pub propositions_right : (ps qs : List Tm) → ArePropositions (ps ++ qs) → ArePropositions qs
propositions_right [] qs w = w
propositions_right (p ∷ ps) qs w = propositions_right ps qs w.1

pub propositions_bare : (ps : List Tm) → ArePropositions ps → ArePropositions (bares ps)
propositions_bare [] w = tt
propositions_bare (p ∷ ps) w = (type_at_bare [] p ∙ w.0, propositions_bare ps w.1)

-- the premises and the conclusion of a proposition are propositions
pub implies_typed : (ps : List Tm) (c : Tm) → Typed [] (implies ps c) prop → ArePropositions ps × IsProposition c
implies_typed [] c d = (tt, type_of_typed d)
implies_typed (p ∷ ps) c d =
    let both = imp_both d in
    let rest = implies_typed ps c both.1 in
    ((type_of_typed both.0, rest.0), rest.1)

pub implies_bare : (ps : List Tm) (c : Tm) → bare (implies ps c) ≡ implies (bares ps) (bare c)
implies_bare [] c = refl
implies_bare (p ∷ ps) c = ap (imp (bare p)) (implies_bare ps c)

pub implies_append : (ps qs : List Tm) (c : Tm) → implies (ps ++ qs) c ≡ implies ps (implies qs c)
implies_append [] qs c = refl
implies_append (p ∷ ps) qs c = ap (imp p) (implies_append ps qs c)

-- a proposition under premises is one
pub implies_proposition : (ps : List Tm) (c : Tm) → ArePropositions ps → IsProposition c → IsProposition (implies ps c)
implies_proposition [] c w h = h
implies_proposition (p ∷ ps) c w h = type_of_typed (TApp (TApp (TConst {x = codes "Pure.imp"}) (typed_of_type [] p prop w.0)) (typed_of_type [] (implies ps c) prop (implies_proposition ps c w.1 h)))

pub propositions_under : (hs ps : List Tm) → ArePropositions hs → ArePropositions ps → ArePropositions (map (implies hs) ps)
propositions_under hs [] w v = tt
propositions_under hs (p ∷ ps) w v = (implies_proposition hs p w v.0, propositions_under hs ps w v.1)

-- what is derived as `ps ==> c` is made of propositions
pub derived_propositions : {ax H : List Tm} (ps : List Tm) (c : Tm) → Derives ax H (bare (implies ps c)) → ArePropositions ps × IsProposition c
derived_propositions ps c d =
    let t : HasType (implies ps c) prop = sym (type_at_bare [] (implies ps c)) ∙ type_of_typed (derived_typed d.tree) in
    implies_typed ps c (typed_of_type [] (implies ps c) prop t)

pub derive_more : {ax bx G H : List Tm} {p : Tm} → Within ax bx → Within G H → Derives ax G p → Derives bx H p
derive_more a w d = record { used = d.used; tree = tree_more a d.tree; within = λ q m. w q (d.within q m) }

pub derive_assume : {ax : List Tm} (H : List Tm) (p : Tm) → Member p H → IsProposition p → Derives ax H p
derive_assume H p m h = record { used = p ∷ []; tree = Assumption h; within = λ q n. elim n [ inl e ↦ subst (λ x. Member x H) (sym e) m | inr x ↦ absurd x ] }

intro_within : (p q : Tm) (H : List Tm) → tm_eq p q ≡ false → Member q (p ∷ H) → Member q H
intro_within p q H n (inl e) = let t : tm_eq p q ≡ true = ap (tm_eq p) e ∙ tm_eq_same p in absurd (cc)
intro_within p q H n (inr m) = m

pub derive_intro : {ax H : List Tm} {p q : Tm} → IsProposition p → Derives ax (p ∷ H) q → Derives ax H (imp p q)
derive_intro {ax} {H} {p} {q} h d = record {
  used = without p d.used;
  tree = ImpliesIntro h d.tree;
  within = λ t m. let r = Member-without p t d.used m in intro_within p t H r.1 (d.within t r.0);
}

pub derive_elim : {ax H : List Tm} {p q : Tm} → Derives ax H (imp p q) → Derives ax H p → Derives ax H q
derive_elim {ax} {H} d e = record { used = d.used ++ e.used; tree = ImpliesElim d.tree e.tree; within = Within-append d.used e.used H d.within e.within }

-- premises are brought in one after the other
pub derive_intros : {ax : List Tm} (ps H : List Tm) (q : Tm) → ArePropositions ps → ((G : List Tm) → Within ps G → Within H G → Derives ax G q) → Derives ax H (implies ps q)
derive_intros [] H q w h = h H (λ r m. absurd m) (λ r m. m)
derive_intros {ax} (p ∷ ps) H q w h = derive_intro w.0 (derive_intros ps (p ∷ H) q w.1 (λ G f g. h G (first G f g) (λ r m. g r (inr m))))
  where
    first : (G : List Tm) → Within ps G → Within (p ∷ H) G → Within (p ∷ ps) G
    first G f g r (inl e) = g r (inl e)
    first G f g r (inr m) = f r m

-- and met one after the other
pub derive_elims : {ax H : List Tm} (ps : List Tm) (q : Tm) → Derives ax H (implies ps q) → ((r : Tm) → Member r ps → Derives ax H r) → Derives ax H q
derive_elims [] q d h = d
derive_elims (p ∷ ps) q d h = derive_elims ps q (derive_elim d (h p (inl refl))) (λ r m. h r (inr m))

pub propositions_member : (ps : List Tm) (q : Tm) → ArePropositions ps → Member q ps → IsProposition q
propositions_member [] q w m = absurd m
propositions_member (p ∷ ps) q w (inl e) = subst (λ x. IsProposition x) (sym e) w.0
propositions_member (p ∷ ps) q w (inr m) = propositions_member ps q w.1 m
