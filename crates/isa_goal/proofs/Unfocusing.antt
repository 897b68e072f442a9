-- What follows from a subgoal alone follows when it is put back.
use Rattle.std.proofs.Common.{◌≡◌, ◌⊎◌, inl, inr, ℕ, suc, ◌-◌, arith, length, List, [], ◌∷◌, ◌++◌, map, take, drop, Some, None, refl, sym, ap, ◌∙◌, subst}
use Rattle.std.proofs.lemmas.List.{take-append-drop, length-append}
use Rattle.isa_terms.specs.Types.{Ty}
use Rattle.isa_terms.specs.Terms.{Tm, Const, Free, Unknown, Bound, Abs, App, bare}
use Rattle.isa_terms.specs.Instance.{Instance, instance_of}
use Rattle.isa_kernel.specs.Logic.{imp, IsProposition}
use Rattle.isa_kernel.specs.Forms.{imp_parts}
use Rattle.isa_kernel.specs.Derivation.{Member, Within}
use Rattle.isa_kernel.proofs.Members.{bares}
use Rattle.isa_terms.proofs.Functions.{bind_some}
use Rattle.isa_goal.specs.Goals.{Goals, IsStanding, around}
use Rattle.isa_terms.specs.Instances.{Each}
use Rattle.isa_subgoal.specs.Premises.{implies, leading}
use Rattle.isa_goal.specs.Follows.{Follows, Reduces}
use Rattle.isa_goal.specs.Names.{canon}
use Rattle.isa_goal.specs.Focus.{focused, put_back, unfocused}
use Rattle.isa_subgoal.proofs.Deriving.{ArePropositions, implies_proposition, derived_propositions, propositions_append, propositions_left, propositions_right, propositions_bare, propositions_member, derive_assume}
use Rattle.isa_goal.proofs.Refining.{around_made, standing_propositions}
use Rattle.isa_subgoal.proofs.Consequences.{From, from_all, each_of, of_each, under, bare_member}
use Rattle.isa_subgoal.proofs.Instancing.{instance_implies}
use Rattle.isa_goal.proofs.Numbers.{canon_follows}
use Rattle.isa_goal.proofs.Chaining.{follows_chain, canon_propositions}
use Rattle.isa_goal.proofs.Focusing.{leading_propositions}

-- ---- the premises of a proposition that is equal to `P ==> Q`
constant_of : (c : Tm) (x : List ℕ) (T : Ty) → bare c ≡ Const x T → c ≡ Const x T
constant_of (Const y S) x T e = e
constant_of (Free y S) x T e = absurd (cc)
constant_of (Unknown y i S) x T e = absurd (cc)
constant_of (Bound i) x T e = absurd (cc)
constant_of (Abs y S b) x T e = absurd (cc)
constant_of (App f a) x T e = absurd (cc)

abbrev fun_of : Tm → Tm
fun_of (App h b) = h
fun_of t = t

abbrev arg_of : Tm → Tm
arg_of (App h b) = b
arg_of t = t

app_of : (g F A : Tm) → bare g ≡ App F A → (p : Tm × Tm) × (g ≡ App p.0 p.1) × (bare p.0 ≡ F) × (bare p.1 ≡ A)
app_of (Const y S) F A e = absurd (cc)
app_of (Free y S) F A e = absurd (cc)
app_of (Unknown y i S) F A e = absurd (cc)
app_of (Bound i) F A e = absurd (cc)
app_of (Abs y S b) F A e = absurd (cc)
app_of (App f a) F A e = ((f, a), refl, ap fun_of e, ap arg_of e)

imp_of : (g P Q : Tm) → bare g ≡ imp P Q → (p : Tm × Tm) × (imp_parts g ≡ Some p) × (bare p.0 ≡ P) × (bare p.1 ≡ Q)
imp_of g P Q e =
    let outer = app_of g _ Q e in
    let inner = app_of outer.0.0 _ P outer.2 in
    let c = constant_of inner.0.0 _ _ inner.2 in
    let whole : g ≡ imp inner.0.1 outer.0.1 = outer.1 ∙ (λ i. App (inner.1 i) outer.0.1) ∙ (λ i. App (App (c i) inner.0.1) outer.0.1) in
    ((inner.0.1, outer.0.1), ap imp_parts whole, inner.3, outer.3)

pub leading_bare : (ps : List Tm) (c g : Tm) → bare g ≡ bare (implies ps c) → (bares (leading (length ps) g).0 ≡ bares ps) × (bare (leading (length ps) g).1 ≡ bare c)
leading_bare [] c g e = (refl, e)
leading_bare (p ∷ ps) c g e =
    let q = imp_of g (bare p) (bare (implies ps c)) e in
    let rest = leading_bare ps c q.0.1 q.3 in
    let k : leading (suc (length ps)) g ≡ (q.0.0 ∷ (leading (length ps) q.0.1).0, (leading (length ps) q.0.1).1) = ap (λ o. elim o as (λ _. List Tm × Tm) [ None ↦ ([], g) | Some r ↦ (r.0 ∷ (leading (length ps) r.1).0, (leading (length ps) r.1).1) ]) q.1 in
    (ap (λ (r : List Tm × Tm). bares r.0) k ∙ (λ i. q.2 i ∷ rest.0 i), ap (λ (r : List Tm × Tm). bare r.1) k ∙ rest.1)

bares_append : (xs ys : List Tm) → bares (xs ++ ys) ≡ bares xs ++ bares ys
bares_append [] ys = refl
bares_append (x ∷ xs) ys = ap (λ zs. bare x ∷ zs) (bares_append xs ys)

member_left : (p : Tm) (xs ys : List Tm) → Member p (bares xs) → Member p (bares (xs ++ ys))
member_left p [] ys m = absurd m
member_left p (x ∷ xs) ys (inl e) = inl e
member_left p (x ∷ xs) ys (inr m) = inr (member_left p xs ys m)

member_right : (p : Tm) (xs ys : List Tm) → Member p (bares ys) → Member p (bares (xs ++ ys))
member_right p [] ys m = m
member_right p (x ∷ xs) ys m = inr (member_right p xs ys m)

member_split : (p : Tm) (xs ys : List Tm) → Member p (bares (xs ++ ys)) → Member p (bares xs) ⊎ Member p (bares ys)
member_split p [] ys m = inr m
member_split p (x ∷ xs) ys (inl e) = inl (inl e)
member_split p (x ∷ xs) ys (inr m) = elim (member_split p xs ys m) [ inl n ↦ inl (inr n) | inr n ↦ inr n ]

-- each of the premises is still there
around_both : (p : Tm) (k : ℕ) (qs ts : List Tm) → Member p (bares qs) → Member p (bares (take k qs ++ (ts ++ drop k qs)))
around_both p k qs ts m =
    elim (member_split p (take k qs) (drop k qs) (subst (λ xs. Member p (bares xs)) (sym (take-append-drop k qs)) m)) [
      | inl n ↦ member_left p (take k qs) (ts ++ drop k qs) n
      | inr n ↦ member_right p (take k qs) (ts ++ drop k qs) (member_right p ts (drop k qs) n)
    ]

within_both : (k : ℕ) (qs ts : List Tm) → Within (bares ts) (bares (take k qs ++ (ts ++ drop k qs)))
within_both k qs ts p m = member_right p (take k qs) (ts ++ drop k qs) (member_left p ts (drop k qs) m)

mapped : (n : Instance) (t : Tm) (ts : List Tm) → Member t ts → Member (bare (instance_of n t)) (bares (map (instance_of n) ts))
mapped n t [] m = absurd m
mapped n t (u ∷ us) (inl e) = inl (ap (λ x. bare (instance_of n x)) e)
mapped n t (u ∷ us) (inr m) = inr (mapped n t us m)

map_length : (n : Instance) (ts : List Tm) → length (map (instance_of n) ts) ≡ length ts
map_length n [] = refl
map_length n (t ∷ ts) = ap suc (map_length n ts)

-- a premise that is there, whatever it is called
present : (ax ps : List Tm) (q : Tm) → ArePropositions ps → Member (bare q) (bares ps) → From ax ps q
present ax ps q w m = from_all ax ps q w (λ G f. derive_assume G (bare q) (f (bare q) m) (propositions_member (bares ps) (bare q) (propositions_bare ps w) m))

wider : (ax ps qs : List Tm) (q : Tm) → ArePropositions ps → ArePropositions qs → Within (bares ps) (bares qs) → From ax ps q → From ax qs q
wider ax ps qs q w v i d = from_all ax qs q v (λ G f. under ax ps q G d (λ r m. derive_assume G r (f r (i r m)) (propositions_member (bares ps) r (propositions_bare ps w) m)))

pub put_back_propositions : (n k : ℕ) (s : Goals) → IsStanding s → ArePropositions (put_back n k s).subgoals
put_back_propositions n k s d =
    let qs : List Tm = (leading n s.goal).0 in
    let both : ArePropositions (take k qs ++ drop k qs) = subst (λ ts. ArePropositions ts) (sym (take-append-drop k qs)) (leading_propositions n s d).0 in
    propositions_append (take k qs) (s.subgoals ++ drop k qs) (propositions_left (take k qs) (drop k qs) both) (propositions_append s.subgoals (drop k qs) (standing_propositions s d) (propositions_right (take k qs) (drop k qs) both))

one_less : (us vs : List Tm) (w : Tm) → length (us ++ (w ∷ vs)) - 1 ≡ length (us ++ vs)
one_less us vs w = omega (arith, length-append us (w ∷ vs), length-append us vs)

split_at : (x : Tm) (us vs : List Tm) (a : Tm) → Member x (us ++ (a ∷ vs)) → Member x (us ++ vs) ⊎ (x ≡ a)
split_at x [] vs a (inl e) = inr e
split_at x [] vs a (inr m) = inl m
split_at x (u ∷ us) vs a (inl e) = inl (inl e)
split_at x (u ∷ us) vs a (inr m) = elim (split_at x us vs a m) [ inl n ↦ inl (inr n) | inr e ↦ inr e ]

-- without names: what follows from the subgoal alone follows when its subgoals are put back
plain_follows : (ax : List Tm) (i k : ℕ) (s f inner : Goals) (us vs : List Tm) (w : Tm) → s.subgoals ≡ us ++ (w ∷ vs) → f ≡ record { subgoals = w ∷ []; goal = implies (us ++ vs) s.goal; base = s.base } → IsStanding inner → Follows ax f inner → Follows ax s (put_back (length s.subgoals - 1) k inner)
plain_follows ax i k s f inner us vs w here e d h =
    let n : Instance = h.inst in
    let ms : List Tm = map (instance_of n) (us ++ vs) in
    let goal : bare inner.goal ≡ bare (implies ms (instance_of n s.goal)) = h.goal ∙ ap (λ (x : Goals). bare (instance_of n x.goal)) e ∙ ap bare (instance_implies n (us ++ vs) s.goal) in
    let count : length s.subgoals - 1 ≡ length ms = ap (λ ts. length ts - 1) here ∙ one_less us vs w ∙ sym (map_length n (us ++ vs)) in
    let parts = leading_bare ms (instance_of n s.goal) inner.goal goal in
    let c : ℕ = length s.subgoals - 1 in
    let qs : List Tm = (leading c inner.goal).0 in
    let same : bares ms ≡ bares qs = sym (ap (λ j. bares (leading j inner.goal).0) count ∙ parts.0) in
    let news : List Tm = take k qs ++ (inner.subgoals ++ drop k qs) in
    let ws : ArePropositions news = put_back_propositions c k inner d in
    let met : From ax inner.subgoals (instance_of n w) = of_each (λ a. From ax inner.subgoals (instance_of n a)) (w ∷ []) (subst (λ (x : Goals). Each (λ a. From ax inner.subgoals (instance_of n a)) x.subgoals) e h.subgoals) w (inl refl) in
    record {
      inst = n;
      kept = h.kept;
      goal = ap (λ j. bare (leading j inner.goal).1) count ∙ parts.1;
      subgoals = each_of s.subgoals (λ a m. elim (split_at a us vs w (subst (λ ts. Member a ts) here m)) [
        | inl l ↦ present ax news (instance_of n a) ws (around_both (bare (instance_of n a)) k qs inner.subgoals (subst (λ ts. Member (bare (instance_of n a)) ts) same (mapped n a (us ++ vs) l)))
        | inr q ↦ wider ax inner.subgoals news (instance_of n a) (standing_propositions inner d) ws (within_both k qs inner.subgoals) (subst (λ x. From ax inner.subgoals (instance_of n x)) (sym q) met)
      ]);
    }

-- each state reduces to itself
alone_reduces : (ax : List Tm) (s : Goals) → ArePropositions s.subgoals → Reduces ax s s
alone_reduces ax s w = record { goal = refl; subgoals = each_of s.subgoals (λ a m. present ax s.subgoals a w (bare_member a s.subgoals m)) }

-- the subgoal alone is a state that stands
alone_propositions : (s : Goals) (us vs : List Tm) (w : Tm) → IsStanding s → s.subgoals ≡ us ++ (w ∷ vs) → ArePropositions (w ∷ []) × IsProposition (implies (us ++ vs) s.goal)
alone_propositions s us vs w d here =
    let all : ArePropositions (us ++ (w ∷ vs)) = subst (λ ts. ArePropositions ts) here (standing_propositions s d) in
    let g : IsProposition s.goal = (derived_propositions s.subgoals s.goal d.derivation).1 in
    let wv = propositions_right us (w ∷ vs) all in
    ((wv.0, tt), implies_proposition (us ++ vs) s.goal (propositions_append us vs (propositions_left us (w ∷ vs) all) wv.1) g)

pub unfocus_follows : (ax : List Tm) (i : ℕ) (s f inner : Goals) → focused i s ≡ Some f → IsStanding s → IsStanding inner → Follows ax (canon f) inner → Follows ax s (canon (unfocused s inner i))
unfocus_follows ax i s f inner e ds di h =
    let at = bind_some (around i s.subgoals) _ e in
    let us : List Tm = at.0.0 in
    let w : Tm = at.0.1 in
    let vs : List Tm = at.0.2 in
    let here : s.subgoals ≡ us ++ (w ∷ vs) = around_made i s.subgoals at.0 at.1 in
    let made : record { subgoals = w ∷ []; goal = implies (us ++ vs) s.goal; base = s.base } ≡ f = cc (at.2) in
    let alone = alone_propositions s us vs w ds here in
    let g : Goals = record { subgoals = w ∷ []; goal = implies (us ++ vs) s.goal; base = s.base } in
    let k : Follows ax (canon g) inner = subst (λ x. Follows ax (canon x) inner) (sym made) h in
    let to_canon : Follows ax g (canon g) = canon_follows ax g g alone.0 alone.1 (alone_reduces ax g alone.0) in
    let first : Follows ax g inner = follows_chain ax g (canon g) inner alone.0 alone.1 (standing_propositions inner di) to_canon k in
    let plain : Follows ax s (unfocused s inner i) = plain_follows ax i (i - 1) s g inner us vs w here refl di first in
    let news : ArePropositions (unfocused s inner i).subgoals = put_back_propositions (length s.subgoals - 1) (i - 1) inner di in
    let last : Follows ax (unfocused s inner i) (canon (unfocused s inner i)) = canon_follows ax (unfocused s inner i) (unfocused s inner i) news (leading_propositions (length s.subgoals - 1) inner di).1 (alone_reduces ax (unfocused s inner i) news) in
    follows_chain ax s (unfocused s inner i) (canon (unfocused s inner i)) (standing_propositions s ds) (derived_propositions s.subgoals s.goal ds.derivation).1 (canon_propositions (unfocused s inner i) news) plain last
