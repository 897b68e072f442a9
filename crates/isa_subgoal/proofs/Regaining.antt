-- The inferences that bring a subgoal into its form give what they should.
use Rattle.std.specs.Prelude.{option_and_then, Result, Err}
use Rattle.std.proofs.Common.{◌≡◌, inl, inr, ℕ, zero, suc, ◌+◌, ◌<◌, ◌≤◌, arith, length, List, [], ◌∷◌, ◌++◌, map, true, false, cond, ◌||◌, nat_lt, Option, Some, None, refl, sym, ap, ◌∙◌, subst, ◌-◌, length-append}
use Rattle.std.specs.List.{slice_get}
use Rattle.isa_terms.specs.Types.{Ty}
use Rattle.isa_terms.specs.Terms.{Tm, Const, Free, Unknown, Bound, Abs, App, bare}
use Rattle.isa_terms.specs.Equal.{name_eq, ty_eq, tm_eq}
use Rattle.isa_terms.specs.Replace.{raise, put}
use Rattle.isa_terms.specs.Binding.{occurs, occurs_in, close_at}
use Rattle.isa_terms.specs.Sets.{without}
use Rattle.isa_terms.proofs.Equal.{ty_decides}
use Rattle.isa_terms.proofs.Bare.{close_bare}
use Rattle.isa_kernel.specs.Logic.{prop, imp, all}
use Rattle.isa_kernel.specs.Forms.{imp_parts, quantifier_parts}
use Rattle.isa_kernel.specs.Derivation.{Member, Within}
use Rattle.isa_kernel.specs.Theorem.{Theorem}
use Rattle.isa_terms.specs.Normal.{IsHead}
use Rattle.isa_kernel.specs.declared.inference.InferenceError.{InferenceError}
use Rattle.isa_kernel.specs.declared.inference.InferenceError.TheVariants.{Shape, Memory}
use Rattle.isa_kernel.specs.Inferences.{Answers, implies_introduced, forall_introduced, forall_eliminated}
use Rattle.isa_kernel.proofs.Members.{Member-without, occurs_in_false}
use Rattle.isa_kernel.proofs.Fill.{Var, types, filled, fill, fill_typed, IsNew, close_fill, longer_name}
use Rattle.isa_kernel.proofs.Quantifier.{quantifier}
use Rattle.isa_terms.proofs.Typed.{Typed, type_of_typed}
use Rattle.isa_subgoal.specs.Premises.{implies}
use Rattle.isa_subgoal.specs.Private.Steps.{eliminated}
use Rattle.isa_subgoal.specs.Shape.{gathered}
use Rattle.isa_subgoal.specs.Private.Reshaping.{opened, colons, regained}
use Rattle.isa_subgoal.proofs.Deriving.{ArePropositions, tm_eq_same, has_type_of}
use Rattle.isa_subgoal.proofs.Cutting.{more_hyps, eliminated_is, more_within}
use Rattle.isa_subgoal.proofs.Opening.{frees, opened_is, put_fill, fill_next}
use Rattle.isa_subgoal.proofs.Spelling.{implication, imp_front, premise_typed, body_typed, all_constant, AllTyped, all_raised, all_more, gathered_typed}

-- ---- names
-- the names of free variables have less than that length
abbrev pub IsShort : ℕ → Tm → Type 0
IsShort n (Free x T) = length x < n
IsShort n (Abs x T b) = IsShort n b
IsShort n (App f a) = IsShort n f × IsShort n a
IsShort n _ = Unit {0}

abbrev pub AllShort : ℕ → List Tm → Type 0
AllShort n [] = Unit {0}
AllShort n (t ∷ ts) = IsShort n t × AllShort n ts

abbrev pub ShortVars : ℕ → List Var → Type 0
ShortVars n [] = Unit {0}
ShortVars n (v ∷ vs) = (length v.0 < n) × ShortVars n vs

pub short_more : (n m : ℕ) (t : Tm) → n ≤ m → IsShort n t → IsShort m t
short_more n m (Const x T) l s = tt
short_more n m (Free x T) l s = omega (arith, s, l)
short_more n m (Unknown x i T) l s = tt
short_more n m (Bound i) l s = tt
short_more n m (Abs x T b) l s = short_more n m b l s
short_more n m (App f a) l s = (short_more n m f l s.0, short_more n m a l s.1)

pub all_short_more : (n m : ℕ) (ts : List Tm) → n ≤ m → AllShort n ts → AllShort m ts
all_short_more n m [] l s = tt
all_short_more n m (t ∷ ts) l s = (short_more n m t l s.0, all_short_more n m ts l s.1)

pub vars_short_more : (n m : ℕ) (vs : List Var) → n ≤ m → ShortVars n vs → ShortVars m vs
vars_short_more n m [] l s = tt
vars_short_more n m (v ∷ vs) l s = let h : length v.0 < n = s.0 in (omega arith, vars_short_more n m vs l s.1)

raised_short : (n k : ℕ) (t : Tm) → IsShort n t → IsShort n (raise 1 k t)
raised_short n k (Const x T) s = tt
raised_short n k (Free x T) s = s
raised_short n k (Unknown x i T) s = tt
raised_short n k (Bound i) s = elim (nat_lt i k) as (λ b. IsShort n (cond b (Bound i) (Bound (i + 1)))) [ true ↦ tt | false ↦ tt ]
raised_short n k (Abs x T b) s = raised_short n (k + 1) b s
raised_short n k (App f a) s = (raised_short n k f s.0, raised_short n k a s.1)

all_raised_short : (n : ℕ) (ts : List Tm) → AllShort n ts → AllShort n (map (raise 1 0) ts)
all_raised_short n [] s = tt
all_raised_short n (t ∷ ts) s = (raised_short n 0 t s.0, all_raised_short n ts s.1)

filled_short : (n i j : ℕ) (vs : List Var) → ShortVars n vs → IsShort n (filled i (slice_get vs j))
filled_short n i j [] s = tt
filled_short n i zero (v ∷ vs) s = s.0
filled_short n i (suc j) (v ∷ vs) s = filled_short n i j vs s.1

fill_short : (n k : ℕ) (vs : List Var) (t : Tm) → ShortVars n vs → IsShort n t → IsShort n (fill vs k t)
fill_short n k vs (Const x T) v s = tt
fill_short n k vs (Free x T) v s = s
fill_short n k vs (Unknown x i T) v s = tt
fill_short n k vs (Bound i) v s = elim (nat_lt i k) as (λ b. IsShort n (cond b (Bound i) (filled i (slice_get vs (i - k))))) [ true ↦ tt | false ↦ filled_short n i (i - k) vs v ]
fill_short n k vs (Abs x T b) v s = fill_short n (k + 1) vs b v s
fill_short n k vs (App f a) v s = (fill_short n k vs f v s.0, fill_short n k vs a v s.1)

all_fill_short : (n : ℕ) (vs : List Var) (ts : List Tm) → ShortVars n vs → AllShort n ts → AllShort n (map (fill vs 0) ts)
all_fill_short n vs [] v s = tt
all_fill_short n vs (t ∷ ts) v s = (fill_short n 0 vs t v s.0, all_fill_short n vs ts v s.1)

pub misses : (x : List ℕ) (S : Ty) (t : Tm) → IsShort (length x) t → occurs x S t ≡ false
misses x S (Const y T) s = refl
misses x S (Free y T) s = longer_name x y (ty_eq S T) (name_eq x y) refl s
misses x S (Unknown y i T) s = refl
misses x S (Bound i) s = refl
misses x S (Abs y T b) s = misses x S b s
misses x S (App f a) s = (λ i. misses x S f s.0 i || occurs x S a) ∙ misses x S a s.1

member_misses : (x : List ℕ) (S : Ty) (ts : List Tm) (t : Tm) → AllShort (length x) ts → Member t ts → occurs x S t ≡ false
member_misses x S [] t s m = absurd m
member_misses x S (u ∷ us) t s (inl e) = ap (occurs x S) e ∙ misses x S u s.0
member_misses x S (u ∷ us) t s (inr m) = member_misses x S us t s.1 m

pub new_vars : (x : List ℕ) (S : Ty) (vs : List Var) → ShortVars (length x) vs → IsNew x S vs
new_vars x S [] s = tt
new_vars x S (v ∷ vs) s = (longer_name x v.0 (ty_eq S v.1) (name_eq x v.0) refl s.0, new_vars x S vs s.1)

pub colons_length : (n : ℕ) → length (colons n) ≡ n
colons_length zero = refl
colons_length (suc n) = let l = length-append (colons n) (58 ∷ []) in omega (arith, l, colons_length n)

pub colons_zero : (n : ℕ) → n ≡ 0 → colons n ≡ []
colons_zero n e = ap colons e

pub colons_step : (n : ℕ) → 0 < n → colons n ≡ colons (n - 1) ++ 58 ∷ []
colons_step zero l = absurd (omega (arith, l))
colons_step (suc n) l = let e : n ≡ suc n - 1 = omega arith in ap (λ k. colons k ++ 58 ∷ []) e

-- names of that length are new in the assumptions, in the term and in the hypothesis
pub record IsFresh (n : ℕ) (vs : List Var) (hs : List Tm) (t w : Tm) : Type 0 where
  pub vars : ShortVars n vs
  pub hyps : AllShort n hs
  pub term : IsShort n t
  pub whole : IsShort n w

-- ---- the claim
abbrev pub under : Tm → Tm → Theorem
under w p = record { hyps = w ∷ []; prop = p; base = [] }

-- the inferences give the proposition, from the hypothesis and the assumptions
pub record Regains (vs : List Var) (hs : List Tm) (t w : Tm) (o : Option Theorem) : Type 0 where
  pub theorem : Theorem
  pub found : o ≡ Some theorem
  pub same : bare theorem.prop ≡ bare (fill vs 0 t)
  pub base : theorem.base ≡ []
  pub within : Within theorem.hyps (w ∷ map (fill vs 0) hs)

-- at the conclusion the assumptions are eliminated
pub fill_implies : (vs : List Var) (k : ℕ) (hs : List Tm) (c : Tm) → fill vs k (implies hs c) ≡ implies (map (fill vs k) hs) (fill vs k c)
fill_implies vs k [] c = refl
fill_implies vs k (h ∷ hs) c = ap (imp (fill vs k h)) (fill_implies vs k hs c)

pub filled_propositions : (vs : List Var) (hs : List Tm) → AllTyped (types vs) hs → ArePropositions (map (fill vs 0) hs)
filled_propositions vs [] w = tt
filled_propositions vs (h ∷ hs) w = (type_of_typed (fill_typed [] vs refl w.0), filled_propositions vs hs w.1)

at_conclusion : (vs : List Var) (hs : List Tm) (t w : Tm) → AllTyped (types vs) hs → Regains vs hs t w (eliminated (map (fill vs 0) hs) (under w (fill vs 0 (implies hs t))))
at_conclusion vs hs t w h =
    let hs' : List Tm = map (fill vs 0) hs in
    record {
      theorem = record { hyps = more_hyps (w ∷ []) hs'; prop = fill vs 0 t; base = [] };
      found = ap (λ p. eliminated hs' (under w p)) (fill_implies vs 0 hs t) ∙ eliminated_is hs' (w ∷ []) [] (fill vs 0 t) (filled_propositions vs hs h);
      same = refl;
      base = refl;
      within = more_within (w ∷ []) hs' (w ∷ hs') (λ q m. elim m [ inl e ↦ inl e | inr k ↦ absurd k ]) (λ q m. inr m);
    }

-- ---- a premise
member_more : (q a : Tm) (xs : List Tm) → Member q (xs ++ a ∷ []) → tm_eq a q ≡ false → Member q xs
member_more q a [] (inl e) n = let yes : tm_eq a q ≡ true = ap (tm_eq a) e ∙ tm_eq_same a in absurd (cc)
member_more q a [] (inr m) n = absurd m
member_more q a (x ∷ xs) (inl e) n = inl e
member_more q a (x ∷ xs) (inr m) n = inr (member_more q a xs m n)

maps_append : (vs : List Var) (hs : List Tm) (a : Tm) → map (fill vs 0) (hs ++ a ∷ []) ≡ map (fill vs 0) hs ++ fill vs 0 a ∷ []
maps_append vs [] a = refl
maps_append vs (h ∷ hs) a = ap (λ xs. fill vs 0 h ∷ xs) (maps_append vs hs a)

at_premise : (n : ℕ) (vs : List Var) (hs : List Tm) (a b w : Tm) → Typed (types vs) a prop →
    Regains vs (hs ++ a ∷ []) b w (regained n (frees vs) (map (fill vs 0) (hs ++ a ∷ [])) b (under w (fill vs 0 (gathered (hs ++ a ∷ []) b)))) →
    Regains vs hs (App (App implication a) b) w (option_and_then {T = Theorem} {U = Theorem} (λ x. implies_introduced (opened (frees vs) 0 a) x) (regained n (frees vs) (map (fill vs 0) hs ++ opened (frees vs) 0 a ∷ []) b (under w (fill vs 0 (gathered (hs ++ a ∷ []) b)))))
at_premise n vs hs a b w d r =
    let a' : Tm = fill vs 0 a in
    let hs' : List Tm = map (fill vs 0) hs in
    let th : Theorem = under w (fill vs 0 (gathered (hs ++ a ∷ []) b)) in
    let x : Theorem = r.theorem in
    let o : opened (frees vs) 0 a ≡ a' = opened_is vs 0 a in
    record {
      theorem = record { hyps = without a' x.hyps; prop = imp a' x.prop; base = x.base };
      found = (λ i. option_and_then {T = Theorem} {U = Theorem} (λ y. implies_introduced (o i) y) (regained n (frees vs) (hs' ++ o i ∷ []) b th))
          ∙ ap (λ xs. option_and_then {T = Theorem} {U = Theorem} (λ y. implies_introduced a' y) (regained n (frees vs) xs b th)) (sym (maps_append vs hs a))
          ∙ ap (λ y. option_and_then {T = Theorem} {U = Theorem} (λ z. implies_introduced a' z) y) r.found
          ∙ ap (λ c. cond c (Some (record { hyps = without a' x.hyps; prop = imp a' x.prop; base = x.base })) None) (has_type_of a' (type_of_typed (fill_typed [] vs refl d)));
      same = ap (imp (bare a')) r.same;
      base = r.base;
      within = λ q m. let k = Member-without a' q x.hyps m in member_more q a' (w ∷ hs') (subst (λ xs. Member q (w ∷ xs)) (maps_append vs hs a) (r.within q k.0)) k.1;
    }

-- ---- a parameter
maps_next : (v : Var) (vs : List Var) (hs : List Tm) → AllTyped (types vs) hs → map (fill vs 0) hs ≡ map (fill (v ∷ vs) 0) (map (raise 1 0) hs)
maps_next v vs [] h = refl
maps_next v vs (t ∷ ts) h = λ i. sym (fill_next [] v vs refl h.0) i ∷ maps_next v vs ts h.1 i

at_parameter : (n : ℕ) (vs : List Var) (hs : List Tm) (y : List ℕ) (S : Ty) (b w : Tm) → Typed (S ∷ types vs) b prop → AllTyped (types vs) hs → IsFresh n vs hs b w →
    Regains ((colons n, S) ∷ vs) (map (raise 1 0) hs) b w (regained (n + 1) (frees ((colons n, S) ∷ vs)) (map (fill ((colons n, S) ∷ vs) 0) (map (raise 1 0) hs)) b (under w (fill ((colons n, S) ∷ vs) 0 (gathered (map (raise 1 0) hs) b)))) →
    Regains vs hs (App (quantifier S) (Abs y S b)) w (option_and_then {T = Theorem} {U = Theorem} (λ x. option_and_then {T = Theorem} {U = Theorem} (λ z. forall_introduced (Free (colons n) S) z) (regained (n + 1) (Free (colons n) S ∷ frees vs) (map (fill vs 0) hs) b x))
    (forall_eliminated (Free (colons n) S) (under w (fill vs 0 (App (quantifier S) (Abs y S (gathered (map (raise 1 0) hs) b)))))))
at_parameter n vs hs y S b w d h f r =
    let v : Var = (colons n, S) in
    let c : List ℕ = colons n in
    let hs' : List Tm = map (fill vs 0) hs in
    let ups : List Tm = map (raise 1 0) hs in
    let g : Tm = gathered ups b in
    let x : Theorem = r.theorem in
    let len : length c ≡ n = colons_length n in
    let next : hs' ≡ map (fill (v ∷ vs) 0) ups = maps_next v vs hs h in
    let late = λ (z : Theorem). option_and_then {T = Theorem} {U = Theorem} (λ u. forall_introduced (Free c S) u) (regained (n + 1) (Free c S ∷ frees vs) hs' b z) in
    let put_in : put (Free c S) 0 (fill vs 1 g) ≡ fill (v ∷ vs) 0 g = put_fill [] c S vs refl (gathered_typed b ups (all_raised (types vs) S hs h) d) in
    let short : AllShort (length c) (w ∷ hs') = subst (λ m. AllShort m (w ∷ hs')) (sym len) (f.whole, all_fill_short n vs hs f.vars f.hyps) in
    let away : occurs_in c S x.hyps ≡ false = occurs_in_false c S x.hyps (λ t m. member_misses c S (w ∷ hs') t short (subst (λ xs. Member t (w ∷ xs)) (sym next) (r.within t m))) in
    record {
      theorem = record { hyps = x.hyps; prop = all c S (close_at c S 0 x.prop); base = x.base };
      found = ap (λ k. option_and_then {T = Theorem} {U = Theorem} late (cond k (Some (under w (put (Free c S) 0 (fill vs 1 g)))) None)) ((ty_decides S S).1 refl)
          ∙ ap (λ p. late (under w p)) put_in
          ∙ ap (λ xs. option_and_then {T = Theorem} {U = Theorem} (λ u. forall_introduced (Free c S) u) (regained (n + 1) (Free c S ∷ frees vs) xs b (under w (fill (v ∷ vs) 0 g)))) next
          ∙ ap (λ o. option_and_then {T = Theorem} {U = Theorem} (λ u. forall_introduced (Free c S) u) o) r.found
          ∙ ap (λ k. cond k None (Some (record { hyps = x.hyps; prop = all c S (close_at c S 0 x.prop); base = x.base }))) away;
      same = ap (λ e. App (quantifier S) (Abs [] S e)) (close_bare c S 0 x.prop ∙ ap (close_at c S 0) r.same ∙ sym (close_bare c S 0 (fill (v ∷ vs) 0 b))
          ∙ ap bare (close_fill c S vs 0 b (misses c S b (subst (λ m. IsShort m b) (sym len) f.term)) (new_vars c S vs (subst (λ m. ShortVars m vs) (sym len) f.vars))));
      base = r.base;
      within = λ t m. subst (λ xs. Member t (w ∷ xs)) (sym next) (r.within t m);
    }

-- ---- all of them
fresh_inside : (n : ℕ) (vs : List Var) (hs : List Tm) (S : Ty) (b w : Tm) → IsFresh n vs hs b w → IsFresh (n + 1) ((colons n, S) ∷ vs) (map (raise 1 0) hs) b w
fresh_inside n vs hs S b w f =
    let l : n ≤ n + 1 = omega arith in
    record {
      vars = (omega (arith, colons_length n), vars_short_more n (n + 1) vs l f.vars);
      hyps = all_raised_short (n + 1) hs (all_short_more n (n + 1) hs l f.hyps);
      term = short_more n (n + 1) b l f.term;
      whole = short_more n (n + 1) w l f.whole;
    }

all_short_append : (n : ℕ) (hs : List Tm) (a : Tm) → AllShort n hs → IsShort n a → AllShort n (hs ++ a ∷ [])
all_short_append n [] a s t = (t, tt)
all_short_append n (h ∷ hs) a s t = (s.0, all_short_append n hs a s.1 t)

regained_abs : (f : Tm) (x : List ℕ) (S : Ty) (b : Tm) (n : ℕ) (vs : List Var) (hs : List Tm) (w : Tm) (o : Option (Ty × Tm)) → quantifier_parts (App f (Abs x S b)) ≡ o → Typed (types vs) (App f (Abs x S b)) prop → AllTyped (types vs) hs → IsFresh n vs hs (App f (Abs x S b)) w →
    (Typed (S ∷ types vs) b prop → AllTyped (S ∷ types vs) (map (raise 1 0) hs) → IsFresh (n + 1) ((colons n, S) ∷ vs) (map (raise 1 0) hs) b w →
    Regains ((colons n, S) ∷ vs) (map (raise 1 0) hs) b w (regained (n + 1) (frees ((colons n, S) ∷ vs)) (map (fill ((colons n, S) ∷ vs) 0) (map (raise 1 0) hs)) b (under w (fill ((colons n, S) ∷ vs) 0 (gathered (map (raise 1 0) hs) b))))) →
    Regains vs hs (App f (Abs x S b)) w (elim o as (λ _. Option Theorem) [
      | None ↦ eliminated (map (fill vs 0) hs) (under w (fill vs 0 (elim o as (λ _. Tm) [ None ↦ implies hs (App f (Abs x S b)) | Some q ↦ App f (Abs x S (gathered (map (raise 1 0) hs) b)) ])))
      | Some k ↦ option_and_then {T = Theorem} {U = Theorem} (λ y. option_and_then {T = Theorem} {U = Theorem} (λ z. forall_introduced (Free (colons n) S) z) (regained (n + 1) (Free (colons n) S ∷ frees vs) (map (fill vs 0) hs) b y))
          (forall_eliminated (Free (colons n) S) (under w (fill vs 0 (elim o as (λ _. Tm) [ None ↦ implies hs (App f (Abs x S b)) | Some q ↦ App f (Abs x S (gathered (map (raise 1 0) hs) b)) ]))))
    ])
regained_abs f x S b n vs hs w None e d h r ih = at_conclusion vs hs (App f (Abs x S b)) w h
regained_abs f x S b n vs hs w (Some q) e d h r ih =
    let c : f ≡ quantifier S = all_constant f x S b q e d in
    let k : Typed (S ∷ types vs) b prop = (body_typed (subst (λ g. Typed (types vs) (App g (Abs x S b)) prop) c d)).1 in
    let s : IsFresh n vs hs b w = record { vars = r.vars; hyps = r.hyps; term = r.term.1; whole = r.whole } in
    subst (λ g. Regains vs hs (App g (Abs x S b)) w (option_and_then {T = Theorem} {U = Theorem} (λ y. option_and_then {T = Theorem} {U = Theorem} (λ z. forall_introduced (Free (colons n) S) z) (regained (n + 1) (Free (colons n) S ∷ frees vs) (map (fill vs 0) hs) b y))
    (forall_eliminated (Free (colons n) S) (under w (fill vs 0 (App g (Abs x S (gathered (map (raise 1 0) hs) b)))))))) (sym c)
    (at_parameter n vs hs x S b w k h s (ih k (all_raised (types vs) S hs h) (fresh_inside n vs hs S b w s)))

regained_app : (f a : Tm) (n : ℕ) (vs : List Var) (hs : List Tm) (w : Tm) (o : Option (Tm × Tm)) → imp_parts (App f a) ≡ o → Typed (types vs) (App f a) prop → AllTyped (types vs) hs → IsFresh n vs hs (App f a) w →
    ((A : Tm) → AllTyped (types vs) (hs ++ A ∷ []) → Typed (types vs) a prop → IsFresh n vs (hs ++ A ∷ []) a w → Regains vs (hs ++ A ∷ []) a w (regained n (frees vs) (map (fill vs 0) (hs ++ A ∷ [])) a (under w (fill vs 0 (gathered (hs ++ A ∷ []) a))))) →
    Regains vs hs (App f a) w (elim o as (λ _. Option Theorem) [
      | None ↦ eliminated (map (fill vs 0) hs) (under w (fill vs 0 (elim o as (λ _. Tm) [ None ↦ implies hs (App f a) | Some p ↦ gathered (hs ++ p.0 ∷ []) a ])))
      | Some k ↦ option_and_then {T = Theorem} {U = Theorem} (λ y. implies_introduced (opened (frees vs) 0 k.0) y)
          (regained n (frees vs) (map (fill vs 0) hs ++ opened (frees vs) 0 k.0 ∷ []) a (under w (fill vs 0 (elim o as (λ _. Tm) [ None ↦ implies hs (App f a) | Some p ↦ gathered (hs ++ p.0 ∷ []) a ]))))
    ])
regained_app f a n vs hs w None e d h r ih = at_conclusion vs hs (App f a) w h
regained_app f a n vs hs w (Some p) e d h r ih =
    let c : f ≡ App implication p.0 = (imp_front f a p e).0 in
    let k = premise_typed (subst (λ g. Typed (types vs) (App g a) prop) c d) in
    let short : IsShort n (App implication p.0) = subst (λ g. IsShort n g) c r.term.0 in
    let s : IsFresh n vs (hs ++ p.0 ∷ []) a w = record { vars = r.vars; hyps = all_short_append n hs p.0 r.hyps short.1; term = r.term.1; whole = r.whole } in
    subst (λ g. Regains vs hs (App g a) w (option_and_then {T = Theorem} {U = Theorem} (λ y. implies_introduced (opened (frees vs) 0 p.0) y) (regained n (frees vs) (map (fill vs 0) hs ++ opened (frees vs) 0 p.0 ∷ []) a (under w (fill vs 0 (gathered (hs ++ p.0 ∷ []) a)))))) (sym c)
    (at_premise n vs hs p.0 a w k.0 (ih p.0 (all_more hs p.0 h k.0) k.1 s))

pub regained_is : (t : Tm) (n : ℕ) (vs : List Var) (hs : List Tm) (w : Tm) → Typed (types vs) t prop → AllTyped (types vs) hs → IsFresh n vs hs t w → Regains vs hs t w (regained n (frees vs) (map (fill vs 0) hs) t (under w (fill vs 0 (gathered hs t))))
unfolding regained
regained_is (App f (Abs x S b)) n vs hs w d h r = regained_abs f x S b n vs hs w (quantifier_parts (App f (Abs x S b))) refl d h r (λ k l s. regained_is b (n + 1) ((colons n, S) ∷ vs) (map (raise 1 0) hs) w k l s)
regained_is (App f a) n vs hs w d h r = regained_app f a n vs hs w (imp_parts (App f a)) refl d h r (λ A l k s. regained_is a n vs (hs ++ A ∷ []) w k l s)
regained_is (Const x T) n vs hs w d h r = at_conclusion vs hs (Const x T) w h
regained_is (Free x T) n vs hs w d h r = at_conclusion vs hs (Free x T) w h
regained_is (Unknown x i T) n vs hs w d h r = at_conclusion vs hs (Unknown x i T) w h
regained_is (Bound i) n vs hs w d h r = at_conclusion vs hs (Bound i) w h
regained_is (Abs x T b) n vs hs w d h r = at_conclusion vs hs (Abs x T b) w h

-- ---- the steps as the code takes them
parameter_step : (n m : ℕ) (vs hs us : List Tm) (t f : Tm) (x : List ℕ) (T : Ty) (b v : Tm) (q : Ty × Tm) (th y : Theorem) → App f (Abs x T b) ≡ t → Some q ≡ quantifier_parts t → v ≡ Free (colons n) T → us ≡ v ∷ vs → m ≡ n + 1 → forall_eliminated v th ≡ Some y →
    regained n vs hs t th ≡ option_and_then {T = Theorem} {U = Theorem} (λ z. forall_introduced v z) (regained m us hs b y)
unfolding regained
parameter_step n m vs hs us t f x T b v q th y e g h k s l =
    let w : Tm = Free (colons n) T in
    let there : quantifier_parts (App f (Abs x T b)) ≡ Some q = ap quantifier_parts e ∙ sym g in
    ap (λ u. regained n vs hs u th) (sym e)
    ∙ ap (λ o. elim o as (λ _. Option Theorem) [ None ↦ eliminated hs th | Some p ↦ option_and_then {T = Theorem} {U = Theorem} (λ i. option_and_then {T = Theorem} {U = Theorem} (λ z. forall_introduced w z) (regained (n + 1) (w ∷ vs) hs b i)) (forall_eliminated w th) ]) there
    ∙ (λ j. option_and_then {T = Theorem} {U = Theorem} (λ i. option_and_then {T = Theorem} {U = Theorem} (λ z. forall_introduced (sym h j) z) (regained (n + 1) (sym h j ∷ vs) hs b i)) (forall_eliminated (sym h j) th))
    ∙ ap (λ o. option_and_then {T = Theorem} {U = Theorem} (λ i. option_and_then {T = Theorem} {U = Theorem} (λ z. forall_introduced v z) (regained (n + 1) (v ∷ vs) hs b i)) o) l
    ∙ (λ j. option_and_then {T = Theorem} {U = Theorem} (λ z. forall_introduced v z) (regained (sym s j) (sym k j) hs b y))

premise_step : (n : ℕ) (vs hs gs : List Tm) (t f a h : Tm) (p : Tm × Tm) (th : Theorem) → App f a ≡ t → IsHead a → Some p ≡ imp_parts t → h ≡ opened vs 0 p.0 → gs ≡ hs ++ h ∷ [] →
    regained n vs hs t th ≡ option_and_then {T = Theorem} {U = Theorem} (λ z. implies_introduced h z) (regained n vs gs a th)
unfolding regained
premise_step n vs hs gs t f a h p th e i g o k =
    ap (λ u. regained n vs hs u th) (sym e) ∙ shape a i
    ∙ ap (λ (r : Option (Tm × Tm)). elim r as (λ _. Option Theorem) [ None ↦ eliminated hs th | Some q ↦ option_and_then {T = Theorem} {U = Theorem} (λ z. implies_introduced (opened vs 0 q.0) z) (regained n vs (hs ++ opened vs 0 q.0 ∷ []) a th) ]) (ap imp_parts e ∙ sym g)
    ∙ (λ j. option_and_then {T = Theorem} {U = Theorem} (λ z. implies_introduced (sym o j) z) (regained n vs (hs ++ sym o j ∷ []) a th))
    ∙ ap (λ xs. option_and_then {T = Theorem} {U = Theorem} (λ z. implies_introduced h z) (regained n vs xs a th)) (sym k)
  where
    shape : (a : Tm) → IsHead a → regained n vs hs (App f a) th ≡ elim (imp_parts (App f a)) as (λ _. Option Theorem) [ None ↦ eliminated hs th | Some q ↦ option_and_then {T = Theorem} {U = Theorem} (λ z. implies_introduced (opened vs 0 q.0) z) (regained n vs (hs ++ opened vs 0 q.0 ∷ []) a th) ]
    shape (Const x T) i = refl
    shape (Free x T) i = refl
    shape (Unknown x m T) i = refl
    shape (Bound m) i = refl
    shape (App g c) i = refl
    shape (Abs x T b) i = absurd i

err_through : (f : Theorem → Option Theorem) (o w : Option Theorem) (e : InferenceError) → w ≡ option_and_then {T = Theorem} {U = Theorem} f o → Answers (Err e) o → Answers (Err e) w
err_through f o w Shape k a = k ∙ ap (option_and_then {T = Theorem} {U = Theorem} f) a
err_through f o w Memory k a = tt

ok_through : (f : Theorem → Option Theorem) (o w : Option Theorem) (z : Theorem) (r : Result Theorem InferenceError) → w ≡ option_and_then {T = Theorem} {U = Theorem} f o → o ≡ Some z → Answers r (f z) → Answers r w
ok_through f o w z r k l a = subst (λ u. Answers r u) (sym (k ∙ ap (option_and_then {T = Theorem} {U = Theorem} f) l)) a

pub parameter_err : (n m : ℕ) (vs hs us : List Tm) (t f : Tm) (x : List ℕ) (T : Ty) (b v : Tm) (q : Ty × Tm) (th y : Theorem) (e : InferenceError) (r : Result Theorem InferenceError) → App f (Abs x T b) ≡ t → Some q ≡ quantifier_parts t → v ≡ Free (colons n) T → us ≡ v ∷ vs → m ≡ n + 1 → forall_eliminated v th ≡ Some y →
    r ≡ Err e → Answers (Err e) (regained m us hs b y) → Answers r (regained n vs hs t th)
parameter_err n m vs hs us t f x T b v q th y e r h g k s l a i j = subst (λ u. Answers u (regained n vs hs t th)) (sym i) (err_through (λ z. forall_introduced v z) _ _ e (parameter_step n m vs hs us t f x T b v q th y h g k s l a) j)

pub parameter_ok : (n m : ℕ) (vs hs us : List Tm) (t f : Tm) (x : List ℕ) (T : Ty) (b v : Tm) (q : Ty × Tm) (th y z : Theorem) (r : Result Theorem InferenceError) → App f (Abs x T b) ≡ t → Some q ≡ quantifier_parts t → v ≡ Free (colons n) T → us ≡ v ∷ vs → m ≡ n + 1 → forall_eliminated v th ≡ Some y →
    regained m us hs b y ≡ Some z → Answers r (forall_introduced v z) → Answers r (regained n vs hs t th)
parameter_ok n m vs hs us t f x T b v q th y z r h g k s l a i j = ok_through (λ z. forall_introduced v z) _ _ z r (parameter_step n m vs hs us t f x T b v q th y h g k s l a) i j

pub premise_err : (n : ℕ) (vs hs gs : List Tm) (t f a h : Tm) (p : Tm × Tm) (th : Theorem) (e : InferenceError) (r : Result Theorem InferenceError) → App f a ≡ t → IsHead a → Some p ≡ imp_parts t → h ≡ opened vs 0 p.0 → gs ≡ hs ++ h ∷ [] →
    r ≡ Err e → Answers (Err e) (regained n vs gs a th) → Answers r (regained n vs hs t th)
premise_err n vs hs gs t f a h p th e r k i g o l m j = subst (λ u. Answers u (regained n vs hs t th)) (sym m) (err_through (λ z. implies_introduced h z) _ _ e (premise_step n vs hs gs t f a h p th k i g o l) j)

pub premise_ok : (n : ℕ) (vs hs gs : List Tm) (t f a h : Tm) (p : Tm × Tm) (th z : Theorem) (r : Result Theorem InferenceError) → App f a ≡ t → IsHead a → Some p ≡ imp_parts t → h ≡ opened vs 0 p.0 → gs ≡ hs ++ h ∷ [] →
    regained n vs gs a th ≡ Some z → Answers r (implies_introduced h z) → Answers r (regained n vs hs t th)
premise_ok n vs hs gs t f a h p th z r k i g o l m j = ok_through (λ z. implies_introduced h z) _ _ z r (premise_step n vs hs gs t f a h p th k i g o l) m j
