-- What follows from premises.
use Rattle.std.proofs.Common.{inl, inr, List, [], ◌∷◌, map, refl, sym, ap, ◌∙◌, subst}
use Rattle.isa_terms.specs.Terms.{Tm, bare}
use Rattle.isa_terms.proofs.Bare.{type_at_bare}
use Rattle.isa_kernel.specs.Derivation.{Member, Within, Derives}
use Rattle.isa_kernel.proofs.Members.{bares}
use Rattle.isa_terms.specs.Instances.{Each}
use Rattle.isa_subgoal.specs.Premises.{implies}
use Rattle.isa_subgoal.proofs.Deriving.{ArePropositions, propositions_bare, propositions_member, implies_bare, derive_more, derive_assume, derive_intros, derive_elims}

-- ---- derivations of `ps ==> q`
abbrev pub From : List Tm → List Tm → Tm → Type 0
From ax ps q = Derives ax [] (bare (implies ps q))

-- q follows from the ps where it follows from each list of hypotheses that has them
pub from_all : (ax ps : List Tm) (q : Tm) → ArePropositions ps → ((G : List Tm) → Within (bares ps) G → Derives ax G (bare q)) → From ax ps q
from_all ax ps q w h = subst (λ p. Derives ax [] p) (sym (implies_bare ps q)) (derive_intros (bares ps) [] (bare q) (propositions_bare ps w) (λ G f g. h G f))

-- under hypotheses that have the ps
pub under : (ax ps : List Tm) (q : Tm) (G : List Tm) → From ax ps q → ((r : Tm) → Member r (bares ps) → Derives ax G r) → Derives ax G (bare q)
under ax ps q G d h = derive_elims (bares ps) (bare q) (subst (λ p. Derives ax G p) (implies_bare ps q) (derive_more (λ r m. m) (λ r m. absurd m) d)) h

pub bare_member : (t : Tm) (ts : List Tm) → Member t ts → Member (bare t) (bares ts)
bare_member t [] m = absurd m
bare_member t (u ∷ us) (inl e) = inl (ap bare e)
bare_member t (u ∷ us) (inr m) = inr (bare_member t us m)

-- each of the premises follows from them all
pub itself : (ax ps : List Tm) (q : Tm) → ArePropositions ps → Member q ps → From ax ps q
itself ax ps q w m = from_all ax ps q w (λ G f. derive_assume G (bare q) (f (bare q) (bare_member q ps m)) (type_at_bare [] q ∙ propositions_member ps q w m))

pub each_of : {P : Tm → Type 0} (ts : List Tm) → ((t : Tm) → Member t ts → P t) → Each P ts
each_of [] h = tt
each_of (t ∷ ts) h = (h t (inl refl), each_of ts (λ u m. h u (inr m)))

pub of_each : (P : Tm → Type 0) (ts : List Tm) → Each P ts → (t : Tm) → Member t ts → P t
of_each P [] e t m = absurd m
of_each P (u ∷ us) e t (inl q) = subst P (sym q) e.0
of_each P (u ∷ us) e t (inr m) = of_each P us e.1 t m

-- ---- one after the other
pub chain : (ax : List Tm) (ps qs : List Tm) (a : Tm) → ArePropositions qs → From ax ps a → ((p : Tm) → Member p ps → From ax qs p) → From ax qs a
chain ax ps qs a w d h = from_all ax qs a w (λ G f. under ax ps a G d (λ r m. each_under ps r G f h m))
  where
    each_under : (ps : List Tm) (r : Tm) (G : List Tm) → Within (bares qs) G → ((p : Tm) → Member p ps → From ax qs p) → Member r (bares ps) → Derives ax G r
    each_under [] r G f h m = absurd m
    each_under (p ∷ ps) r G f h (inl e) = subst (λ x. Derives ax G x) (sym e) (under ax qs p G (h p (inl refl)) (λ q n. derive_assume G q (f q n) (propositions_member (bares qs) q (propositions_bare qs w) n)))
    each_under (p ∷ ps) r G f h (inr m) = each_under ps r G f (λ q n. h q (inr n)) m

pub map_member : (g : Tm → Tm) (P : Tm → Type 0) (ts : List Tm) → ((t : Tm) → Member t ts → P (g t)) → (u : Tm) → Member u (map g ts) → P u
map_member g P [] h u m = absurd m
map_member g P (t ∷ ts) h u (inl e) = subst P (sym e) (h t (inl refl))
map_member g P (t ∷ ts) h u (inr m) = map_member g P ts (λ x n. h x (inr n)) u m
