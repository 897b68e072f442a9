-- What stands in a term after unknowns or types are replaced, and what the first place that decides says.
use Rattle.std.proofs.Common.{◌≡◌, ℕ, ◌+◌, ◌-◌, List, [], ◌∷◌, ◌++◌, map, filter, length, Bool, true, false, cond, ◌&&◌, ◌||◌, nat_eq, nat_lt, refl, sym, ap, ◌∙◌, ◌⊎◌, inl, inr, Option, Some, None, unwrap_or}
use Rattle.std.specs.Prelude.{option_map, option_and_then}
use Rattle.isa_terms.specs.Types.{Ty, Tys, TyCon, TyFixed, TyUnknown, NoTys, MoreTys}
use Rattle.isa_terms.specs.Terms.{Tm, Const, Free, Unknown, Bound, Abs, App}
use Rattle.isa_terms.specs.Equal.{name_eq, ty_eq}
use Rattle.isa_terms.specs.Instance.{find_term, inst_ty, inst_tys, inst_tm}
use Rattle.isa_terms.specs.declared.inst.TypeEntry.{TypeEntry}
use Rattle.isa_terms.specs.declared.inst.TermEntry.{TermEntry}
use Rattle.isa_unify.specs.declared.equation.Variable.{Variable}
use Rattle.isa_unify.specs.declared.equation.Equation.{Equation}
use Rattle.isa_unify.specs.declared.progress.Verdict.{Verdict}
use Rattle.isa_unify.specs.declared.progress.Verdict.TheVariants.{Fine, Refused, Strays, Prunes}
use Rattle.isa_unify.specs.Spines.{head_of, args_of, is_flexible, bounds_of, if_distinct, distinct_bounds}
use Rattle.isa_unify.specs.Unification.{retyped, retyped_equation, filled, filled_equation, bind_all, variable, place_behind, moved, abstracted, arrows, on_bounds, over, allowed, at_pattern, at_unknown, first_verdict, first_place}
use Rattle.isa_unify.proofs.Unknowns.{Key, key, key_eq, key_eq-true, key_eq_self, stands, stands-eta, stands-norm, either_true, or_left, or_right}
use Rattle.isa_unify.proofs.Measure.{some_stands, occurs}

-- 1. Terms for unknowns

abbrev pub some_term_has : Key → List TermEntry → Bool
some_term_has k [] = false
some_term_has k (e ∷ es) = stands k e.term || some_term_has k es

abbrev pub assigns : List TermEntry → Key → Bool
assigns [] k = false
assigns (e ∷ es) k = key_eq k (key e.name e.number e.typ) || assigns es k

mutual
  pub inst_ty_nothing : (T : Ty) → inst_ty [] T ≡ T
  inst_ty_nothing (TyCon c Ts) = ap (TyCon c) (inst_tys_nothing Ts)
  inst_ty_nothing (TyFixed x) = refl
  inst_ty_nothing (TyUnknown x n) = refl

  pub inst_tys_nothing : (Ts : Tys) → inst_tys [] Ts ≡ Ts
  inst_tys_nothing NoTys = refl
  inst_tys_nothing (MoreTys T Ts) = λ i. MoreTys (inst_ty_nothing T i) (inst_tys_nothing Ts i)

looked_up : (es : List TermEntry) (k : Key) (x : List ℕ) (n : ℕ) (T : Ty) (t : Tm) → stands k (unwrap_or (find_term x n T es) t) ≡ true → (some_term_has k es ≡ true) ⊎ ((stands k t ≡ true) × (assigns es (key x n T) ≡ false))
looked_up [] k x n T t h = inr (h, refl)
looked_up (e ∷ es) k x n T t h = go (key_eq (key x n T) (key e.name e.number e.typ)) h (looked_up es k x n T t)
  where
    later : (some_term_has k es ≡ true) ⊎ ((stands k t ≡ true) × (assigns es (key x n T) ≡ false)) → (some_term_has k (e ∷ es) ≡ true) ⊎ ((stands k t ≡ true) × (assigns es (key x n T) ≡ false))
    later (inl d) = inl (or_right (stands k e.term) (some_term_has k es) d)
    later (inr d) = inr d

    go : (c : Bool) → stands k (unwrap_or (cond c (Some e.term) (find_term x n T es)) t) ≡ true → (stands k (unwrap_or (find_term x n T es) t) ≡ true → (some_term_has k es ≡ true) ⊎ ((stands k t ≡ true) × (assigns es (key x n T) ≡ false))) → (some_term_has k (e ∷ es) ≡ true) ⊎ ((stands k t ≡ true) × ((c || assigns es (key x n T)) ≡ false))
    go true d ih = inl (or_left (stands k e.term) (some_term_has k es) d)
    go false d ih = later (ih d)

pub stands-inst_tm : (es : List TermEntry) (k : Key) (t : Tm) → stands k (inst_tm [] es t) ≡ true → (some_term_has k es ≡ true) ⊎ ((stands k t ≡ true) × (assigns es k ≡ false))
stands-inst_tm es k (Const x T) h = absurd (cc)
stands-inst_tm es k (Free x T) h = absurd (cc)
stands-inst_tm es k (Bound n) h = absurd (cc)
stands-inst_tm es k (Abs x T t) h = stands-inst_tm es k t h
stands-inst_tm es k (Unknown x n T) h = go (looked_up es k x n T (Unknown x n (inst_ty [] T)) h)
  where
    go : (some_term_has k es ≡ true) ⊎ ((stands k (Unknown x n (inst_ty [] T)) ≡ true) × (assigns es (key x n T) ≡ false)) → (some_term_has k es ≡ true) ⊎ ((stands k (Unknown x n T) ≡ true) × (assigns es k ≡ false))
    go (inl d) = inl d
    go (inr d) =
        let here : stands k (Unknown x n T) ≡ true = ap (λ S. stands k (Unknown x n S)) (sym (inst_ty_nothing T)) ∙ d.0 in
        inr (here, ap (assigns es) (key_eq-true k (key x n T) here) ∙ d.1)
stands-inst_tm es k (App f t) h = go (either_true (stands k (inst_tm [] es f)) (stands k (inst_tm [] es t)) h) (stands-inst_tm es k f) (stands-inst_tm es k t)
  where
    at_fun : (some_term_has k es ≡ true) ⊎ ((stands k f ≡ true) × (assigns es k ≡ false)) → (some_term_has k es ≡ true) ⊎ ((stands k (App f t) ≡ true) × (assigns es k ≡ false))
    at_fun (inl d) = inl d
    at_fun (inr d) = inr (or_left (stands k f) (stands k t) d.0, d.1)

    at_arg : (some_term_has k es ≡ true) ⊎ ((stands k t ≡ true) × (assigns es k ≡ false)) → (some_term_has k es ≡ true) ⊎ ((stands k (App f t) ≡ true) × (assigns es k ≡ false))
    at_arg (inl d) = inl d
    at_arg (inr d) = inr (or_right (stands k f) (stands k t) d.0, d.1)

    go : (stands k (inst_tm [] es f) ≡ true) ⊎ (stands k (inst_tm [] es t) ≡ true) → (stands k (inst_tm [] es f) ≡ true → (some_term_has k es ≡ true) ⊎ ((stands k f ≡ true) × (assigns es k ≡ false))) → (stands k (inst_tm [] es t) ≡ true → (some_term_has k es ≡ true) ⊎ ((stands k t ≡ true) × (assigns es k ≡ false))) → (some_term_has k es ≡ true) ⊎ ((stands k (App f t) ≡ true) × (assigns es k ≡ false))
    go (inl d) p q = at_fun (p d)
    go (inr d) p q = at_arg (q d)

pub stands-filled : (es : List TermEntry) (k : Key) (t : Tm) → stands k (filled es t) ≡ true → (some_term_has k es ≡ true) ⊎ ((stands k t ≡ true) × (assigns es k ≡ false))
stands-filled es k t h = stands-inst_tm es k t (stands-norm k (inst_tm [] es t) h)

pub occurs-filled : (es : List TermEntry) (k : Key) (eqs : List Equation) → occurs k (map (filled_equation es) eqs) ≡ true → (some_term_has k es ≡ true) ⊎ ((occurs k eqs ≡ true) × (assigns es k ≡ false))
occurs-filled es k [] h = absurd (cc)
occurs-filled es k (e ∷ eqs) h = go (either_true (stands k (filled es e.left)) (stands k (filled es e.right) || occurs k (map (filled_equation es) eqs)) h) (occurs-filled es k eqs)
  where
    at_left : (some_term_has k es ≡ true) ⊎ ((stands k e.left ≡ true) × (assigns es k ≡ false)) → (some_term_has k es ≡ true) ⊎ ((occurs k (e ∷ eqs) ≡ true) × (assigns es k ≡ false))
    at_left (inl d) = inl d
    at_left (inr d) = inr (or_left (stands k e.left) (stands k e.right || occurs k eqs) d.0, d.1)

    at_right : (some_term_has k es ≡ true) ⊎ ((stands k e.right ≡ true) × (assigns es k ≡ false)) → (some_term_has k es ≡ true) ⊎ ((occurs k (e ∷ eqs) ≡ true) × (assigns es k ≡ false))
    at_right (inl d) = inl d
    at_right (inr d) = inr (or_right (stands k e.left) (stands k e.right || occurs k eqs) (or_left (stands k e.right) (occurs k eqs) d.0), d.1)

    at_rest : (some_term_has k es ≡ true) ⊎ ((occurs k eqs ≡ true) × (assigns es k ≡ false)) → (some_term_has k es ≡ true) ⊎ ((occurs k (e ∷ eqs) ≡ true) × (assigns es k ≡ false))
    at_rest (inl d) = inl d
    at_rest (inr d) = inr (or_right (stands k e.left) (stands k e.right || occurs k eqs) (or_right (stands k e.right) (occurs k eqs) d.0), d.1)

    second : (stands k (filled es e.right) ≡ true) ⊎ (occurs k (map (filled_equation es) eqs) ≡ true) → (occurs k (map (filled_equation es) eqs) ≡ true → (some_term_has k es ≡ true) ⊎ ((occurs k eqs ≡ true) × (assigns es k ≡ false))) → (some_term_has k es ≡ true) ⊎ ((occurs k (e ∷ eqs) ≡ true) × (assigns es k ≡ false))
    second (inl d) ih = at_right (stands-filled es k e.right d)
    second (inr d) ih = at_rest (ih d)

    go : (stands k (filled es e.left) ≡ true) ⊎ ((stands k (filled es e.right) || occurs k (map (filled_equation es) eqs)) ≡ true) → (occurs k (map (filled_equation es) eqs) ≡ true → (some_term_has k es ≡ true) ⊎ ((occurs k eqs ≡ true) × (assigns es k ≡ false))) → (some_term_has k es ≡ true) ⊎ ((occurs k (e ∷ eqs) ≡ true) × (assigns es k ≡ false))
    go (inl d) ih = at_left (stands-filled es k e.left d)
    go (inr d) ih = second (either_true (stands k (filled es e.right)) (occurs k (map (filled_equation es) eqs)) d) ih

-- 2. Types for type unknowns

abbrev pub retyped_key : List TypeEntry → Key → Key
retyped_key s k = record k { typ = inst_ty s k.typ }

-- the unknown that became k
abbrev pub CameFrom : List TypeEntry → Key → (Key → Bool) → Type 0
CameFrom s k stood = (l : Key) × (stood l ≡ true) × (k ≡ retyped_key s l)

pub stands-retyped : (s : List TypeEntry) (k : Key) (t : Tm) → stands k (retyped s t) ≡ true → CameFrom s k (λ l. stands l t)
stands-retyped s k (Const x T) h = absurd (cc)
stands-retyped s k (Free x T) h = absurd (cc)
stands-retyped s k (Bound n) h = absurd (cc)
stands-retyped s k (Abs x T t) h = stands-retyped s k t h
stands-retyped s k (Unknown x n T) h = (key x n T, key_eq_self (key x n T), key_eq-true k (key x n (inst_ty s T)) h)
stands-retyped s k (App f t) h = go (either_true (stands k (retyped s f)) (stands k (retyped s t)) h) (stands-retyped s k f) (stands-retyped s k t)
  where
    go : (stands k (retyped s f) ≡ true) ⊎ (stands k (retyped s t) ≡ true) → (stands k (retyped s f) ≡ true → CameFrom s k (λ l. stands l f)) → (stands k (retyped s t) ≡ true → CameFrom s k (λ l. stands l t)) → CameFrom s k (λ l. stands l (App f t))
    go (inl d) p q = let c = p d in (c.0, or_left (stands c.0 f) (stands c.0 t) c.1, c.2)
    go (inr d) p q = let c = q d in (c.0, or_right (stands c.0 f) (stands c.0 t) c.1, c.2)

pub occurs-retyped : (s : List TypeEntry) (k : Key) (es : List Equation) → occurs k (map (retyped_equation s) es) ≡ true → CameFrom s k (λ l. occurs l es)
occurs-retyped s k [] h = absurd (cc)
occurs-retyped s k (e ∷ es) h = go (either_true (stands k (retyped s e.left)) (stands k (retyped s e.right) || occurs k (map (retyped_equation s) es)) h) (occurs-retyped s k es)
  where
    second : (stands k (retyped s e.right) ≡ true) ⊎ (occurs k (map (retyped_equation s) es) ≡ true) → (occurs k (map (retyped_equation s) es) ≡ true → CameFrom s k (λ l. occurs l es)) → CameFrom s k (λ l. occurs l (e ∷ es))
    second (inl d) ih = let c = stands-retyped s k e.right d in (c.0, or_right (stands c.0 e.left) (stands c.0 e.right || occurs c.0 es) (or_left (stands c.0 e.right) (occurs c.0 es) c.1), c.2)
    second (inr d) ih = let c = ih d in (c.0, or_right (stands c.0 e.left) (stands c.0 e.right || occurs c.0 es) (or_right (stands c.0 e.right) (occurs c.0 es) c.1), c.2)

    go : (stands k (retyped s e.left) ≡ true) ⊎ ((stands k (retyped s e.right) || occurs k (map (retyped_equation s) es)) ≡ true) → (occurs k (map (retyped_equation s) es) ≡ true → CameFrom s k (λ l. occurs l es)) → CameFrom s k (λ l. occurs l (e ∷ es))
    go (inl d) ih = let c = stands-retyped s k e.left d in (c.0, or_left (stands c.0 e.left) (stands c.0 e.right || occurs c.0 es) c.1, c.2)
    go (inr d) ih = second (either_true (stands k (retyped s e.right)) (occurs k (map (retyped_equation s) es)) d) ih

-- 3. Solutions

stands-moved : (k : Key) (xs : List ℕ) (j : ℕ) (t : Tm) → stands k (moved xs j t) ≡ stands k t
stands-moved k xs j (Const x T) = refl
stands-moved k xs j (Free x T) = refl
stands-moved k xs j (Unknown x i T) = refl
stands-moved k xs j (Bound n) = elim (nat_lt n j) as (λ c. stands k (cond c (Bound n) (Bound (j + place_behind xs (n - j)))) ≡ false) [ true ↦ refl | false ↦ refl ]
stands-moved k xs j (Abs x T b) = stands-moved k xs (j + 1) b
stands-moved k xs j (App f a) = λ i. stands-moved k xs j f i || stands-moved k xs j a i

stands-bind_all : (k : Key) (vs : List Variable) (t : Tm) → stands k (bind_all vs t) ≡ true → stands k t ≡ true
stands-bind_all k [] t h = h
stands-bind_all k (v ∷ vs) t h = stands-bind_all k vs t (stands-eta k v.name v.typ (bind_all vs t) h)

pub stands-abstracted : (k : Key) (bs : List Variable) (xs : List ℕ) (t : Tm) → stands k (abstracted bs xs t) ≡ true → stands k t ≡ true
stands-abstracted k bs xs t h = sym (stands-moved k xs 0 t) ∙ stands-bind_all k (map (variable bs) xs) (moved xs 0 t) h

stands-on_bounds : (k : Key) (f : Tm) (xs : List ℕ) → stands k (on_bounds f xs) ≡ true → stands k f ≡ true
stands-on_bounds k f [] h = h
stands-on_bounds k f (x ∷ xs) h = first (stands k f) (stands-on_bounds k (App f (Bound x)) xs h)
  where
    first : (a : Bool) → (a || false) ≡ true → a ≡ true
    first true d = refl
    first false d = absurd (cc)

-- the only unknown of a new one over variables
pub new_key : List Variable → List ℕ → ℕ → List ℕ → Ty → Key
new_key bs x n xs T = key x n (arrows bs xs T)

pub stands-over : (k : Key) (bs : List Variable) (x : List ℕ) (n : ℕ) (xs : List ℕ) (T : Ty) → stands k (over bs x n xs T) ≡ true → key_eq k (new_key bs x n xs T) ≡ true
unfolding new_key
stands-over k bs x n xs T h = stands-on_bounds k (Unknown x n (arrows bs xs T)) xs h

-- 4. The first place that decides

bounds_stand : (k : Key) (ts : List Tm) (ns : List ℕ) → bounds_of ts ≡ Some ns → some_stands k ts ≡ false
bounds_stand k [] ns h = refl
bounds_stand k (Bound n ∷ ts) ns h = go (bounds_of ts) (λ ms. bounds_stand k ts ms) h
  where
    go : (o : Option (List ℕ)) → ((ms : List ℕ) → o ≡ Some ms → some_stands k ts ≡ false) → option_map (λ ms. n ∷ ms) o ≡ Some ns → some_stands k ts ≡ false
    go None p d = absurd (cc)
    go (Some ms) p d = p ms refl
bounds_stand k (Const x T ∷ ts) ns h = absurd (cc)
bounds_stand k (Free x T ∷ ts) ns h = absurd (cc)
bounds_stand k (Unknown x m T ∷ ts) ns h = absurd (cc)
bounds_stand k (Abs x T t ∷ ts) ns h = absurd (cc)
bounds_stand k (App f t ∷ ts) ns h = absurd (cc)

distinct_bounds_stand : (k : Key) (ts : List Tm) (o : Option (List ℕ)) → bounds_of ts ≡ o → (ns : List ℕ) → option_and_then if_distinct o ≡ Some ns → some_stands k ts ≡ false
distinct_bounds_stand k ts None e ns h = absurd (cc)
distinct_bounds_stand k ts (Some ms) e ns h = bounds_stand k ts ms e

neither : (a b : Bool) → a ≡ false → b ≡ false → (a || b) ≡ false
neither true b h k = absurd (cc)
neither false b h k = k

other_key : (p q r : Bool) → (p && q) ≡ false → (p && (q && r)) ≡ false
other_key true true r h = absurd (cc)
other_key true false r h = refl
other_key false q r h = refl

fine_pattern : (l : Key) (xs : List ℕ) (depth : ℕ) (bs : List Variable) (x : List ℕ) (n : ℕ) (T : Ty) (ys : List ℕ) → at_pattern l.name l.number xs depth bs x n T ys ≡ Fine → stands l (Unknown x n T) ≡ false
fine_pattern l xs depth bs x n T ys h = go (name_eq l.name x && nat_eq l.number n) refl h
  where
    go : (c : Bool) → (name_eq l.name x && nat_eq l.number n) ≡ c → cond c Refused (let kept = filter (allowed xs depth) ys in cond (nat_eq (length kept) (length ys)) Fine (Prunes x n T bs ys kept)) ≡ Fine → stands l (Unknown x n T) ≡ false
    go true d k = absurd (cc)
    go false d k = other_key (name_eq l.name x) (nat_eq l.number n) (ty_eq l.typ T) d

-- an unknown of a term is its head or stands in its arguments
in_spine : (k : Key) (t : Tm) → stands k (head_of t) ≡ false → some_stands k (args_of t) ≡ false → stands k t ≡ false
in_spine k (Const x T) h j = refl
in_spine k (Free x T) h j = refl
in_spine k (Unknown x i T) h j = h
in_spine k (Bound n) h j = refl
in_spine k (Abs x T b) h j = h
in_spine k (App f a) h j = neither (stands k f) (stands k a) (in_spine k f h (front (args_of f) j)) (last (args_of f) j)
  where
    front : (ts : List Tm) → some_stands k (ts ++ a ∷ []) ≡ false → some_stands k ts ≡ false
    front [] d = refl
    front (t ∷ ts) d = at (stands k t) d (front ts)
      where
        at : (c : Bool) → (c || some_stands k (ts ++ a ∷ [])) ≡ false → (some_stands k (ts ++ a ∷ []) ≡ false → some_stands k ts ≡ false) → (c || some_stands k ts) ≡ false
        at true e ih = absurd (cc)
        at false e ih = ih e

    last : (ts : List Tm) → some_stands k (ts ++ a ∷ []) ≡ false → stands k a ≡ false
    last [] d = alone (stands k a) d
      where
        alone : (c : Bool) → (c || false) ≡ false → c ≡ false
        alone true e = absurd (cc)
        alone false e = refl
    last (t ∷ ts) d = at (stands k t) d (last ts)
      where
        at : (c : Bool) → (c || some_stands k (ts ++ a ∷ [])) ≡ false → (some_stands k (ts ++ a ∷ []) ≡ false → stands k a ≡ false) → stands k a ≡ false
        at true e ih = absurd (cc)
        at false e ih = ih e

-- a place that is an unknown with its arguments
fine_unknown : (l : Key) (xs : List ℕ) (depth : ℕ) (bs : List Variable) (g : Tm) (args : List Tm) → is_flexible g ≡ true → at_unknown l.name l.number xs depth bs (head_of g) args ≡ Fine → (stands l (head_of g) ≡ false) × (some_stands l args ≡ false)
fine_unknown l xs depth bs (Unknown x n T) args f q = go (distinct_bounds args) refl q
  where
    go : (o : Option (List ℕ)) → distinct_bounds args ≡ o → elim o [ None ↦ Strays | Some ys ↦ at_pattern l.name l.number xs depth bs x n T ys ] ≡ Fine → (stands l (Unknown x n T) ≡ false) × (some_stands l args ≡ false)
    go None d k = absurd (cc)
    go (Some ys) d k = (fine_pattern l xs depth bs x n T ys k, distinct_bounds_stand l args (bounds_of args) refl ys d)
fine_unknown l xs depth bs (App g a) args f q = fine_unknown l xs depth bs g args f q
fine_unknown l xs depth bs (Const x T) args f q = absurd (cc)
fine_unknown l xs depth bs (Free x T) args f q = absurd (cc)
fine_unknown l xs depth bs (Bound n) args f q = absurd (cc)
fine_unknown l xs depth bs (Abs x T b) args f q = absurd (cc)

both_fine : (v w : Verdict) → first_verdict v w ≡ Fine → (v ≡ Fine) × (w ≡ Fine)
both_fine Fine w h = (refl, h)
both_fine Refused w h = absurd (cc)
both_fine Strays w h = absurd (cc)
both_fine (Prunes x n T bs ys kept) w h = absurd (cc)

fine_app : (l : Key) (xs : List ℕ) (depth : ℕ) (bs : List Variable) (g a : Tm) (v w : Verdict) → (v ≡ Fine → stands l g ≡ false) → (w ≡ Fine → stands l a ≡ false)
    → (c : Bool) → is_flexible g ≡ c → cond c (at_unknown l.name l.number xs depth bs (head_of g) (args_of g ++ a ∷ [])) (first_verdict v w) ≡ Fine → stands l (App g a) ≡ false
fine_app l xs depth bs g a v w p q true e h =
    let both = fine_unknown l xs depth bs g (args_of g ++ a ∷ []) e h in
    in_spine l (App g a) both.0 both.1
fine_app l xs depth bs g a v w p q false e h =
    let both = both_fine v w h in
    neither (stands l g) (stands l a) (p both.0) (q both.1)

-- where no place decides, the unknown does not stand in the term
pub fine_stands : (l : Key) (xs : List ℕ) (depth : ℕ) (bs : List Variable) (t : Tm) → first_place l.name l.number xs depth bs t ≡ Fine → stands l t ≡ false
fine_stands l xs depth bs (Const x T) h = refl
fine_stands l xs depth bs (Free x T) h = refl
fine_stands l xs depth bs (Bound n) h = refl
fine_stands l xs depth bs (Unknown x n T) h = fine_pattern l xs depth bs x n T [] h
fine_stands l xs depth bs (Abs x T b) h = fine_stands l xs (depth + 1) (record { name = x; typ = T } ∷ bs) b h
fine_stands l xs depth bs (App g a) h =
    fine_app l xs depth bs g a (first_place l.name l.number xs depth bs g) (first_place l.name l.number xs depth bs a)
    (fine_stands l xs depth bs g) (fine_stands l xs depth bs a) (is_flexible g) refl h

-- the unknown that loses variables stands in the term

prunes_pattern : (f : List ℕ) (k : ℕ) (xs : List ℕ) (depth : ℕ) (bs : List Variable) (x : List ℕ) (n : ℕ) (T : Ty) (zs : List ℕ) (y : List ℕ) (m : ℕ) (S : Ty) (cs : List Variable) (ys kept : List ℕ)
    → at_pattern f k xs depth bs x n T zs ≡ Prunes y m S cs ys kept → stands (key y m S) (Unknown x n T) ≡ true
prunes_pattern f k xs depth bs x n T zs y m S cs ys kept h = go (name_eq f x && nat_eq k n) (nat_eq (length (filter (allowed xs depth) zs)) (length zs)) h
  where
    same_key : Prunes x n T bs zs (filter (allowed xs depth) zs) ≡ Prunes y m S cs ys kept → key x n T ≡ key y m S
    same_key e = cc

    go : (c d : Bool) → cond c Refused (cond d Fine (Prunes x n T bs zs (filter (allowed xs depth) zs))) ≡ Prunes y m S cs ys kept → stands (key y m S) (Unknown x n T) ≡ true
    go true d e = absurd (cc)
    go false true e = absurd (cc)
    go false false e = ap (λ l. key_eq l (key x n T)) (sym (same_key e)) ∙ key_eq_self (key x n T)

prunes_unknown : (f : List ℕ) (k : ℕ) (xs : List ℕ) (depth : ℕ) (bs : List Variable) (g : Tm) (args : List Tm) (y : List ℕ) (m : ℕ) (S : Ty) (cs : List Variable) (ys kept : List ℕ)
    → at_unknown f k xs depth bs (head_of g) args ≡ Prunes y m S cs ys kept → stands (key y m S) g ≡ true
prunes_unknown f k xs depth bs (Unknown x n T) args y m S cs ys kept h = go (distinct_bounds args) h
  where
    go : (o : Option (List ℕ)) → elim o [ None ↦ Strays | Some zs ↦ at_pattern f k xs depth bs x n T zs ] ≡ Prunes y m S cs ys kept → stands (key y m S) (Unknown x n T) ≡ true
    go None e = absurd (cc)
    go (Some zs) e = prunes_pattern f k xs depth bs x n T zs y m S cs ys kept e
prunes_unknown f k xs depth bs (App g a) args y m S cs ys kept h = or_left (stands (key y m S) g) (stands (key y m S) a) (prunes_unknown f k xs depth bs g args y m S cs ys kept h)
prunes_unknown f k xs depth bs (Const x T) args y m S cs ys kept h = absurd (cc)
prunes_unknown f k xs depth bs (Free x T) args y m S cs ys kept h = absurd (cc)
prunes_unknown f k xs depth bs (Bound n) args y m S cs ys kept h = absurd (cc)
prunes_unknown f k xs depth bs (Abs x T b) args y m S cs ys kept h = absurd (cc)

first_prunes : (l : Key) (g a : Tm) (v w r : Verdict) → (v ≡ r → stands l g ≡ true) → (w ≡ r → stands l a ≡ true) → first_verdict v w ≡ r → stands l (App g a) ≡ true
first_prunes l g a Fine w r p q h = or_right (stands l g) (stands l a) (q h)
first_prunes l g a Refused w r p q h = or_left (stands l g) (stands l a) (p h)
first_prunes l g a Strays w r p q h = or_left (stands l g) (stands l a) (p h)
first_prunes l g a (Prunes x n T bs ys kept) w r p q h = or_left (stands l g) (stands l a) (p h)

pub prunes_stands : (f : List ℕ) (k : ℕ) (xs : List ℕ) (depth : ℕ) (bs : List Variable) (t : Tm) (y : List ℕ) (m : ℕ) (S : Ty) (cs : List Variable) (ys kept : List ℕ) → first_place f k xs depth bs t ≡ Prunes y m S cs ys kept → stands (key y m S) t ≡ true
prunes_stands f k xs depth bs (Const x T) y m S cs ys kept h = absurd (cc)
prunes_stands f k xs depth bs (Free x T) y m S cs ys kept h = absurd (cc)
prunes_stands f k xs depth bs (Bound n) y m S cs ys kept h = go (allowed xs depth n) h
  where
    go : (c : Bool) → cond c Fine Refused ≡ Prunes y m S cs ys kept → stands (key y m S) (Bound n) ≡ true
    go true e = absurd (cc)
    go false e = absurd (cc)
prunes_stands f k xs depth bs (Unknown x n T) y m S cs ys kept h = prunes_pattern f k xs depth bs x n T [] y m S cs ys kept h
prunes_stands f k xs depth bs (Abs x T b) y m S cs ys kept h = prunes_stands f k xs (depth + 1) (record { name = x; typ = T } ∷ bs) b y m S cs ys kept h
prunes_stands f k xs depth bs (App g a) y m S cs ys kept h = go (is_flexible g) (prunes_stands f k xs depth bs g y m S cs ys kept) (prunes_stands f k xs depth bs a y m S cs ys kept) h
  where
    go : (c : Bool) → (first_place f k xs depth bs g ≡ Prunes y m S cs ys kept → stands (key y m S) g ≡ true) → (first_place f k xs depth bs a ≡ Prunes y m S cs ys kept → stands (key y m S) a ≡ true)
        → cond c (at_unknown f k xs depth bs (head_of g) (args_of g ++ a ∷ [])) (first_verdict (first_place f k xs depth bs g) (first_place f k xs depth bs a)) ≡ Prunes y m S cs ys kept → stands (key y m S) (App g a) ≡ true
    go true p q e = or_left (stands (key y m S) g) (stands (key y m S) a) (prunes_unknown f k xs depth bs g (args_of g ++ a ∷ []) y m S cs ys kept e)
    go false p q e = first_prunes (key y m S) g a (first_place f k xs depth bs g) (first_place f k xs depth bs a) (Prunes y m S cs ys kept) p q e
