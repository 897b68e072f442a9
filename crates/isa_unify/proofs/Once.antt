-- Each type unknown and each unknown that is asked for has one entry.
use Rattle.std.proofs.Common.{◌≡◌, ℕ, List, [], ◌∷◌, ◌++◌, map, filter, length, Bool, true, false, cond, ◌&&◌, ◌||◌, nat_eq, refl, sym, subst, ◌∙◌, Option, Some, None}
use Rattle.std.specs.Prelude.{is_some}
use Rattle.std.proofs.lemmas.Bool.Decides.{Decides-like, Decides-eqb, same_from_decides}
use Rattle.std.specs.Cmp.Lexicographic.{bytes_decides}
use Rattle.isa_terms.specs.Types.{Ty, Tys, TyCon, TyFixed, TyUnknown, NoTys, MoreTys}
use Rattle.isa_terms.specs.Terms.{Tm, Const, Free, Unknown, Bound, Abs, App}
use Rattle.isa_terms.specs.Equal.{name_eq, ty_eq}
use Rattle.isa_terms.specs.Entries.{passes, Once}
use Rattle.isa_terms.specs.Instance.{find_type, find_term, inst_ty, same_type_unknown, same_unknown}
use Rattle.isa_terms.specs.declared.inst.TypeEntry.{TypeEntry}
use Rattle.isa_terms.specs.declared.inst.TermEntry.{TermEntry}
use Rattle.isa_terms.proofs.Equal.{ty_decides}
use Rattle.isa_unify.specs.declared.equation.Equation.{Equation}
use Rattle.isa_unify.specs.declared.progress.Parts.{Parts}
use Rattle.isa_unify.specs.declared.progress.Parts.TheVariants.{Flexible, Clash, Into, Heads}
use Rattle.isa_unify.specs.declared.progress.Verdict.{Verdict}
use Rattle.isa_unify.specs.declared.progress.Verdict.TheVariants.{Fine, Refused, Strays, Prunes}
use Rattle.isa_unify.specs.declared.progress.State.{State}
use Rattle.isa_unify.specs.declared.progress.Answer.{Answer}
use Rattle.isa_unify.specs.declared.progress.Answer.TheVariants.{Yes, No, Outside}
use Rattle.isa_unify.specs.Descent.{Done, Lighter, Solved, Ends, now, lighter, solved}
use Rattle.isa_unify.specs.TypeUnification.{unify_typs}
use Rattle.isa_unify.specs.Spines.{head_of, args_of, has_number, distinct_bounds}
use Rattle.isa_unify.specs.Calls.{AreOnce}
use Rattle.isa_unify.specs.Unification.{parts_at, clashes, abstracted, range_behind, over, first_place, filled_entry, filled_state, retyped_entry, retyped_state, UnifyStep, becomes, renewed, both_become, after_new, with_first, with_new, solve_at, solve, agreeing, solve_same, solve_two, on_pattern, flexible_step, after_types, front_step, unify_step, unified, with_type_unknowns, with_all_type_unknowns, with_types, with_unknowns, asked_types, asked_terms, start, answer_at, all_types, unify}
use Rattle.isa_unify.proofs.Adequacy.{unified_reached}

-- 1. Entries that keep their keys

passes_mapped : {A : Type 0} (same : A → A → Bool) (f : A → A) → ((d e : A) → same (f d) (f e) ≡ same d e) → (d : A) (es : List A) → passes (same (f d)) (map f es) ≡ passes (same d) es
passes_mapped same f h d [] = refl
passes_mapped same f h d (e ∷ es) = λ i. h d e i || passes_mapped same f h d es i

once_mapped : {A : Type 0} (same : A → A → Bool) (f : A → A) → ((d e : A) → same (f d) (f e) ≡ same d e) → (es : List A) → Once same es → Once same (map f es)
once_mapped same f h [] o = tt
once_mapped same f h (e ∷ es) o = (passes_mapped same f h e es ∙ o.0, once_mapped same f h es o.1)

abbrev pub KeepsOnce : State → Type 0
KeepsOnce st = AreOnce st.types st.terms

once_filled : (s : List TermEntry) (st : State) → KeepsOnce st → KeepsOnce (filled_state s st)
once_filled s st o = record { types = o.types; terms = once_mapped same_unknown (filled_entry s) (λ d e. refl) st.terms o.terms }

once_retyped : (s : List TypeEntry) (st : State) → KeepsOnce st → KeepsOnce (retyped_state s st)
once_retyped s st o = record {
  types = once_mapped same_type_unknown (λ (e : TypeEntry). record e { typ = inst_ty s e.typ }) (λ d e. refl) st.types o.types;
  terms = once_mapped same_unknown (retyped_entry s) (λ d e. refl) st.terms o.terms;
}

-- 2. The steps

abbrev OnceAnswer : Answer → Type 0
OnceAnswer (Yes ts fs n) = AreOnce ts fs
OnceAnswer No = Unit {0}
OnceAnswer Outside = Unit {0}

abbrev Keeps : UnifyStep → Type 0
Keeps (Done a) = OnceAnswer a
Keeps (Lighter t) = KeepsOnce t
Keeps (Solved t) = KeepsOnce t

with_new_keeps : (st : State) (f : ℕ → State → UnifyStep) → ((new : ℕ) → Keeps (f new (after_new st))) → Keeps (with_new st f)
with_new_keeps st f h = go (nat_eq st.left 0)
  where
    go : (c : Bool) → Keeps (cond c (Done Outside) (f st.next (after_new st)))
    go true = tt
    go false = h st.next

pattern_keeps : (o : Option (List ℕ)) (f : List ℕ → UnifyStep) → ((xs : List ℕ) → Keeps (f xs)) → Keeps (on_pattern o f)
pattern_keeps None f h = tt
pattern_keeps (Some xs) f h = h xs

module _ (st : State) (o : KeepsOnce st) (e : Equation) where
  fine_keeps : (es : List TermEntry) → Keeps (Solved (filled_state es st))
  fine_keeps es = once_filled es st o

  renewed_keeps : (es : List TermEntry) (st' : State) → st'.types ≡ st.types → st'.terms ≡ st.terms → Keeps (Solved (filled_state es st'))
  renewed_keeps es st' h k = once_filled es st' (record { types = subst (Once same_type_unknown) (sym h) o.types; terms = subst (Once same_unknown) (sym k) o.terms })

  solved_keeps : (f : List ℕ) (k : ℕ) (S : Ty) (xs : List ℕ) (t : Tm) (v : Verdict) → Keeps (solve_at st e f k S xs t v)
  solved_keeps f k S xs t Fine = fine_keeps (becomes f k S (abstracted e.binders xs t) ∷ [])
  solved_keeps f k S xs t Refused = tt
  solved_keeps f k S xs t Strays = tt
  solved_keeps f k S xs t (Prunes x m T cs ys kept) = with_new_keeps st (λ new st'. Solved (renewed (with_first e st') cs x m T ys new kept))
      (λ new. renewed_keeps (becomes x m T (abstracted cs ys (over cs x new kept (range_behind ys T))) ∷ []) (with_first e (after_new st)) refl refl)

  solve_keeps : (f : List ℕ) (k : ℕ) (S : Ty) (xs : List ℕ) (t : Tm) → Keeps (solve st e f k S xs t)
  solve_keeps f k S xs t = solved_keeps f k S xs t (first_place f k xs 0 e.binders t)

  same_keeps : (f : List ℕ) (k : ℕ) (S : Ty) (xs ys : List ℕ) (c : Bool) → Keeps (cond c (Lighter st) (with_new st (λ new st'. Solved (renewed st' e.binders f k S xs new (agreeing xs ys)))))
  same_keeps f k S xs ys true = o
  same_keeps f k S xs ys false = with_new_keeps st (λ new st'. Solved (renewed st' e.binders f k S xs new (agreeing xs ys)))
      (λ new. renewed_keeps (becomes f k S (abstracted e.binders xs (over e.binders f new (agreeing xs ys) (range_behind xs S))) ∷ []) (after_new st) refl refl)

  two_keeps : (f : List ℕ) (k : ℕ) (S : Ty) (xs : List ℕ) (g : List ℕ) (m : ℕ) (T : Ty) (ys : List ℕ) → Keeps (solve_two st e f k S xs g m T ys)
  two_keeps f k S xs g m T ys = with_new_keeps st (λ new st'. Solved (both_become st' e f k S xs g m T ys (over e.binders f new (filter (has_number ys) xs) (range_behind xs S))))
      (λ new. renewed_keeps (becomes f k S (abstracted e.binders xs (over e.binders f new (filter (has_number ys) xs) (range_behind xs S))) ∷ becomes g m T (abstracted e.binders ys (over e.binders f new (filter (has_number ys) xs) (range_behind xs S))) ∷ []) (after_new st) refl refl)

  both_keep : (f : List ℕ) (k : ℕ) (S : Ty) (xs : List ℕ) (g : List ℕ) (m : ℕ) (T : Ty) (ys : List ℕ) (c : Bool) → Keeps (cond c (solve_same st e f k S xs ys) (solve_two st e f k S xs g m T ys))
  both_keep f k S xs g m T ys true = same_keeps f k S xs ys (nat_eq (length (agreeing xs ys)) (length xs))
  both_keep f k S xs g m T ys false = two_keeps f k S xs g m T ys

  flexible_keeps : (t u : Tm) → Keeps (flexible_step st e t u)
  flexible_keeps (Const x1 T1) (Const x2 T2) = tt
  flexible_keeps (Const x1 T1) (Free x2 T2) = tt
  flexible_keeps (Const x1 T1) (Unknown x2 n2 T2) = pattern_keeps (distinct_bounds (args_of e.right)) _ (λ ys. solve_keeps x2 n2 T2 ys e.left)
  flexible_keeps (Const x1 T1) (Bound n2) = tt
  flexible_keeps (Const x1 T1) (Abs x2 T2 t2) = tt
  flexible_keeps (Const x1 T1) (App f2 t2) = tt
  flexible_keeps (Free x1 T1) (Const x2 T2) = tt
  flexible_keeps (Free x1 T1) (Free x2 T2) = tt
  flexible_keeps (Free x1 T1) (Unknown x2 n2 T2) = pattern_keeps (distinct_bounds (args_of e.right)) _ (λ ys. solve_keeps x2 n2 T2 ys e.left)
  flexible_keeps (Free x1 T1) (Bound n2) = tt
  flexible_keeps (Free x1 T1) (Abs x2 T2 t2) = tt
  flexible_keeps (Free x1 T1) (App f2 t2) = tt
  flexible_keeps (Unknown x1 n1 T1) (Const x2 T2) = pattern_keeps (distinct_bounds (args_of e.left)) _ (λ xs. solve_keeps x1 n1 T1 xs e.right)
  flexible_keeps (Unknown x1 n1 T1) (Free x2 T2) = pattern_keeps (distinct_bounds (args_of e.left)) _ (λ xs. solve_keeps x1 n1 T1 xs e.right)
  flexible_keeps (Unknown x1 n1 T1) (Unknown x2 n2 T2) = pattern_keeps (distinct_bounds (args_of e.left)) _ (λ xs. pattern_keeps (distinct_bounds (args_of e.right)) _ (λ ys. both_keep x1 n1 T1 xs x2 n2 T2 ys (name_eq x1 x2 && nat_eq n1 n2)))
  flexible_keeps (Unknown x1 n1 T1) (Bound n2) = pattern_keeps (distinct_bounds (args_of e.left)) _ (λ xs. solve_keeps x1 n1 T1 xs e.right)
  flexible_keeps (Unknown x1 n1 T1) (Abs x2 T2 t2) = pattern_keeps (distinct_bounds (args_of e.left)) _ (λ xs. solve_keeps x1 n1 T1 xs e.right)
  flexible_keeps (Unknown x1 n1 T1) (App f2 t2) = pattern_keeps (distinct_bounds (args_of e.left)) _ (λ xs. solve_keeps x1 n1 T1 xs e.right)
  flexible_keeps (Bound n1) (Const x2 T2) = tt
  flexible_keeps (Bound n1) (Free x2 T2) = tt
  flexible_keeps (Bound n1) (Unknown x2 n2 T2) = pattern_keeps (distinct_bounds (args_of e.right)) _ (λ ys. solve_keeps x2 n2 T2 ys e.left)
  flexible_keeps (Bound n1) (Bound n2) = tt
  flexible_keeps (Bound n1) (Abs x2 T2 t2) = tt
  flexible_keeps (Bound n1) (App f2 t2) = tt
  flexible_keeps (Abs x1 T1 t1) (Const x2 T2) = tt
  flexible_keeps (Abs x1 T1 t1) (Free x2 T2) = tt
  flexible_keeps (Abs x1 T1 t1) (Unknown x2 n2 T2) = pattern_keeps (distinct_bounds (args_of e.right)) _ (λ ys. solve_keeps x2 n2 T2 ys e.left)
  flexible_keeps (Abs x1 T1 t1) (Bound n2) = tt
  flexible_keeps (Abs x1 T1 t1) (Abs x2 T2 t2) = tt
  flexible_keeps (Abs x1 T1 t1) (App f2 t2) = tt
  flexible_keeps (App f1 t1) (Const x2 T2) = tt
  flexible_keeps (App f1 t1) (Free x2 T2) = tt
  flexible_keeps (App f1 t1) (Unknown x2 n2 T2) = pattern_keeps (distinct_bounds (args_of e.right)) _ (λ ys. solve_keeps x2 n2 T2 ys e.left)
  flexible_keeps (App f1 t1) (Bound n2) = tt
  flexible_keeps (App f1 t1) (Abs x2 T2 t2) = tt
  flexible_keeps (App f1 t1) (App f2 t2) = tt

  types_keep : (parts : List Equation) (q : Option (List TypeEntry)) → Keeps (after_types (record st { equations = parts ++ st.equations }) q)
  types_keep parts None = tt
  types_keep parts (Some s) = once_retyped s (record st { equations = parts ++ st.equations }) (record { types = o.types; terms = o.terms })

  front_keeps : (r : Parts) → Keeps (front_step st e r)
  front_keeps Clash = tt
  front_keeps (Into parts) = record { types = o.types; terms = o.terms }
  front_keeps (Heads S T parts) = types_keep parts (unify_typs ((S, T) ∷ []))
  front_keeps Flexible = flexible_keeps (head_of e.left) (head_of e.right)

step_keeps : (st : State) → KeepsOnce st → Keeps (unify_step st)
unfolding unify_step
step_keeps st o = go st.equations
  where
    go : (eqs : List Equation) → Keeps (elim eqs [
      | [] ↦ Done (Yes st.types st.terms st.next)
      | e ∷ es ↦ front_step (record st { equations = es }) e (parts_at e.binders e.left e.right)
    ])
    go [] = o
    go (e ∷ es) = front_keeps (record st { equations = es }) (record { types = o.types; terms = o.terms }) e (parts_at e.binders e.left e.right)

ended : {a : Answer} {st : State} {k : ℕ} → Ends unify_step a st k → KeepsOnce st → OnceAnswer a
ended {a} {st} (now e) o = subst Keeps e (step_keeps st o)
ended {a} {st} (lighter t e h) o = ended h (subst Keeps e (step_keeps st o))
ended {a} {st} (solved t e h) o = ended h (subst Keeps e (step_keeps st o))

unified_once : (st : State) → KeepsOnce st → OnceAnswer (unified st)
unified_once st o = ended (unified_reached st).1 o

-- 3. The start

pub name_turned : (x y : List ℕ) → name_eq x y ≡ name_eq y x
name_turned x y = same_from_decides (name_eq x y) (name_eq y x) (bytes_decides x y) (Decides-like _ (λ e. sym e) (λ e. sym e) (bytes_decides y x))

pub number_turned : (m n : ℕ) → nat_eq m n ≡ nat_eq n m
number_turned m n = same_from_decides (nat_eq m n) (nat_eq n m) (Decides-eqb m n) (Decides-like _ (λ e. sym e) (λ e. sym e) (Decides-eqb n m))

pub typ_turned : (S T : Ty) → ty_eq S T ≡ ty_eq T S
typ_turned S T = same_from_decides (ty_eq S T) (ty_eq T S) (ty_decides S T) (Decides-like _ (λ e. sym e) (λ e. sym e) (ty_decides T S))

or_false : (a b : Bool) → a ≡ false → b ≡ false → (a || b) ≡ false
or_false true b h k = absurd (cc)
or_false false b h k = k

passes_behind : {A : Type 0} (p : A → Bool) (es : List A) (e : A) → passes p es ≡ false → p e ≡ false → passes p (es ++ e ∷ []) ≡ false
passes_behind p [] e h k = or_false (p e) false k refl
passes_behind p (d ∷ es) e h k = go (p d) h (passes_behind p es e)
  where
    go : (c : Bool) → (c || passes p es) ≡ false → (passes p es ≡ false → p e ≡ false → passes p (es ++ e ∷ []) ≡ false) → (c || passes p (es ++ e ∷ [])) ≡ false
    go true q ih = absurd (cc)
    go false q ih = ih q k

type_behind : (x : List ℕ) (i : ℕ) (T : Ty) (es : List TypeEntry) → is_some (find_type x i es) ≡ false → Once same_type_unknown es → Once same_type_unknown (es ++ record { name = x; number = i; typ = T } ∷ [])
type_behind x i T [] h o = (refl, tt)
type_behind x i T (d ∷ es) h o = go (name_eq x d.name && nat_eq i d.number) refl h (type_behind x i T es)
  where
    go : (c : Bool) → (name_eq x d.name && nat_eq i d.number) ≡ c → is_some (cond c (Some d.typ) (find_type x i es)) ≡ false
        → (is_some (find_type x i es) ≡ false → Once same_type_unknown es → Once same_type_unknown (es ++ record { name = x; number = i; typ = T } ∷ []))
        → Once same_type_unknown (d ∷ (es ++ record { name = x; number = i; typ = T } ∷ []))
    go true e q ih = absurd (cc)
    go false e q ih = (passes_behind (same_type_unknown d) es (record { name = x; number = i; typ = T }) o.0 ((λ j. name_turned d.name x j && number_turned d.number i j) ∙ e), ih q o.1)

term_behind : (x : List ℕ) (i : ℕ) (T : Ty) (t : Tm) (es : List TermEntry) → is_some (find_term x i T es) ≡ false → Once same_unknown es → Once same_unknown (es ++ record { name = x; number = i; typ = T; term = t } ∷ [])
term_behind x i T t [] h o = (refl, tt)
term_behind x i T t (d ∷ es) h o = go (name_eq x d.name && (nat_eq i d.number && ty_eq T d.typ)) refl h (term_behind x i T t es)
  where
    go : (c : Bool) → (name_eq x d.name && (nat_eq i d.number && ty_eq T d.typ)) ≡ c → is_some (cond c (Some d.term) (find_term x i T es)) ≡ false
        → (is_some (find_term x i T es) ≡ false → Once same_unknown es → Once same_unknown (es ++ record { name = x; number = i; typ = T; term = t } ∷ []))
        → Once same_unknown (d ∷ (es ++ record { name = x; number = i; typ = T; term = t } ∷ []))
    go true e q ih = absurd (cc)
    go false e q ih = (passes_behind (same_unknown d) es (record { name = x; number = i; typ = T; term = t }) o.0 ((λ j. name_turned d.name x j && (number_turned d.number i j && typ_turned d.typ T j)) ∙ e), ih q o.1)

mutual
  type_unknowns_once : (es : List TypeEntry) (T : Ty) → Once same_type_unknown es → Once same_type_unknown (with_type_unknowns es T)
  type_unknowns_once es (TyCon c Ts) o = all_type_unknowns_once es Ts o
  type_unknowns_once es (TyFixed x) o = o
  type_unknowns_once es (TyUnknown x i) o = go (is_some (find_type x i es)) refl
    where
      go : (c : Bool) → is_some (find_type x i es) ≡ c → Once same_type_unknown (cond c es (es ++ record { name = x; number = i; typ = TyUnknown x i } ∷ []))
      go true e = o
      go false e = type_behind x i (TyUnknown x i) es e o

  all_type_unknowns_once : (es : List TypeEntry) (Ts : Tys) → Once same_type_unknown es → Once same_type_unknown (with_all_type_unknowns es Ts)
  all_type_unknowns_once es NoTys o = o
  all_type_unknowns_once es (MoreTys T Ts) o = all_type_unknowns_once (with_type_unknowns es T) Ts (type_unknowns_once es T o)

pub types_once : (es : List TypeEntry) (t : Tm) → Once same_type_unknown es → Once same_type_unknown (with_types es t)
types_once es (Const x T) o = type_unknowns_once es T o
types_once es (Free x T) o = type_unknowns_once es T o
types_once es (Unknown x i T) o = type_unknowns_once es T o
types_once es (Bound n) o = o
types_once es (Abs x T b) o = types_once (with_type_unknowns es T) b (type_unknowns_once es T o)
types_once es (App f a) o = types_once (with_types es f) a (types_once es f o)

pub unknowns_once : (es : List TermEntry) (t : Tm) → Once same_unknown es → Once same_unknown (with_unknowns es t)
unknowns_once es (Const x T) o = o
unknowns_once es (Free x T) o = o
unknowns_once es (Unknown x i T) o = go (is_some (find_term x i T es)) refl
  where
    go : (c : Bool) → is_some (find_term x i T es) ≡ c → Once same_unknown (cond c es (es ++ record { name = x; number = i; typ = T; term = Unknown x i T } ∷ []))
    go true e = o
    go false e = term_behind x i T (Unknown x i T) es e o
unknowns_once es (Bound n) o = o
unknowns_once es (Abs x T b) o = unknowns_once es b o
unknowns_once es (App f a) o = unknowns_once (with_unknowns es f) a (unknowns_once es f o)

asked_types_once : (ts : List TypeEntry) (es : List Equation) → Once same_type_unknown ts → Once same_type_unknown (asked_types ts es)
asked_types_once ts [] o = o
asked_types_once ts (e ∷ es) o = asked_types_once (with_types (with_types ts e.left) e.right) es (types_once (with_types ts e.left) e.right (types_once ts e.left o))

asked_terms_once : (ts : List TermEntry) (es : List Equation) → Once same_unknown ts → Once same_unknown (asked_terms ts es)
asked_terms_once ts [] o = o
asked_terms_once ts (e ∷ es) o = asked_terms_once (with_unknowns (with_unknowns ts e.left) e.right) es (unknowns_once (with_unknowns ts e.left) e.right (unknowns_once ts e.left o))

answer_once : (es : List Equation) (k : ℕ) (q : Option (List TypeEntry)) → OnceAnswer (answer_at es k q)
answer_once es k None = tt
answer_once es k (Some s) = go (clashes (retyped_state s (start es k)).equations)
  where
    go : (c : Bool) → OnceAnswer (cond c No (unified (retyped_state s (start es k))))
    go true = tt
    go false = unified_once (retyped_state s (start es k)) (once_retyped s (start es k) (record { types = asked_types_once [] es tt; terms = asked_terms_once [] es tt }))

-- the instance that is answered has one entry for each
pub unify_once : (es : List Equation) (k : ℕ) (ts : List TypeEntry) (fs : List TermEntry) (n : ℕ) → Yes ts fs n ≡ unify es k → AreOnce ts fs
unfolding unify
unify_once es k ts fs n h = subst OnceAnswer (sym h) (answer_once es k (unify_typs (all_types es)))
