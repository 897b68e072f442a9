-- Unification ends, and `unified` says with what.
use Rattle.std.proofs.Common.{◌≡◌, ℕ, zero, suc, ◌+◌, ◌-◌, ◌<◌, ◌≤◌, List, [], ◌∷◌, ◌++◌, map, filter, length, Bool, true, false, cond, ◌&&◌, ◌||◌, nat_eq, refl, sym, ap, subst, ◌∙◌, ◌⊎◌, inl, inr, arith, Option, Some, None, length-append}
use Rattle.std.specs.Prelude.{is_some}
use Rattle.std.proofs.lemmas.List.{length-map}
use Rattle.isa_terms.specs.Types.{Ty}
use Rattle.isa_terms.specs.Terms.{Tm, Const, Free, Unknown, Bound, Abs, App}
use Rattle.isa_terms.specs.Equal.{name_eq}
use Rattle.isa_terms.specs.declared.inst.TypeEntry.{TypeEntry}
use Rattle.isa_terms.specs.declared.inst.TermEntry.{TermEntry}
use Rattle.isa_unify.specs.declared.equation.Variable.{Variable}
use Rattle.isa_unify.specs.declared.equation.Equation.{Equation}
use Rattle.isa_unify.specs.declared.progress.Parts.{Parts}
use Rattle.isa_unify.specs.declared.progress.Parts.TheVariants.{Flexible, Clash, Into, Heads}
use Rattle.isa_unify.specs.declared.progress.Verdict.{Verdict}
use Rattle.isa_unify.specs.declared.progress.Verdict.TheVariants.{Fine, Refused, Strays, Prunes}
use Rattle.isa_unify.specs.declared.progress.State.{State}
use Rattle.isa_unify.specs.declared.progress.Answer.{Answer}
use Rattle.isa_unify.specs.declared.progress.Answer.TheVariants.{Yes, Outside}
use Rattle.isa_unify.specs.Descent as Ending
use Rattle.isa_unify.specs.Descent.{Step, Done, Lighter, Solved, descend}
use Rattle.isa_unify.specs.TypeUnification.{unify_typs}
use Rattle.isa_unify.specs.Spines.{head_of, args_of, has_number, distinct_bounds}
use Rattle.isa_unify.specs.Unification.{parts_at, weight, clash_step_at, clash_step, clashes, abstracted, over, range_behind, first_place, filled_state, UnifyStep, becomes, with_new, with_first, solve_at, solve, agreeing, solve_same, solve_two, on_pattern, flexible_step, after_types, front_step, unify_step, unknowns_of, all_unknowns_of, unified}
use Rattle.isa_unify.proofs.Descent.{Reaches, Within, bounded, ends_once}
use Rattle.isa_unify.proofs.Unknowns.{Key, key, key_eq, key_eq-true, key_eq_self, stands, either_true, or_left, or_right}
use Rattle.isa_unify.proofs.Measure.{occurs, head_stands, weight-retyped_equations, weight-append, AreParts, PartsFall, parts_fall}
use Rattle.isa_unify.proofs.Assigned.{some_term_has, assigns, occurs-filled, retyped_key, CameFrom, occurs-retyped, stands-abstracted, new_key, stands-over, fine_stands, prunes_stands}

-- 1. Lists of unknowns

abbrev pub key_in : Key → List Key → Bool
key_in k [] = false
key_in k (l ∷ ls) = key_eq k l || key_in k ls

abbrev pub dropped : Key → List Key → List Key
dropped k [] = []
dropped k (l ∷ ls) = cond (key_eq k l) (dropped k ls) (l ∷ dropped k ls)

dropped_le : (k : Key) (ls : List Key) → length (dropped k ls) ≤ length ls
dropped_le k [] = omega arith
dropped_le k (l ∷ ls) = go (key_eq k l) (dropped_le k ls)
  where
    go : (c : Bool) → length (dropped k ls) ≤ length ls → length (cond c (dropped k ls) (l ∷ dropped k ls)) ≤ length (l ∷ ls)
    go true h = omega arith
    go false h = omega arith

dropped_lt : (k : Key) (ls : List Key) → key_in k ls ≡ true → length (dropped k ls) < length ls
dropped_lt k [] h = absurd (cc)
dropped_lt k (l ∷ ls) h = go (key_eq k l) h (dropped_le k ls) (dropped_lt k ls)
  where
    go : (c : Bool) → (c || key_in k ls) ≡ true → length (dropped k ls) ≤ length ls → (key_in k ls ≡ true → length (dropped k ls) < length ls) → length (cond c (dropped k ls) (l ∷ dropped k ls)) < length (l ∷ ls)
    go true e le lt = omega arith
    go false e le lt = let h = lt e in omega (arith, h)

kept_in : (k l : Key) (ls : List Key) → key_in l ls ≡ true → key_eq k l ≡ false → key_in l (dropped k ls) ≡ true
kept_in k l [] h e = absurd (cc)
kept_in k l (m ∷ ms) h e = go (key_eq l m) refl (key_eq k m) refl h (λ d. kept_in k l ms d e)
  where
    go : (b : Bool) → key_eq l m ≡ b → (c : Bool) → key_eq k m ≡ c → (b || key_in l ms) ≡ true → (key_in l ms ≡ true → key_in l (dropped k ms) ≡ true) → key_in l (cond c (dropped k ms) (m ∷ dropped k ms)) ≡ true
    go true p true q d ih =
        let f : key_eq k m ≡ false = ap (key_eq k) (sym (key_eq-true l m p)) ∙ e in
        absurd (cc)
    go true p false q d ih = or_left (key_eq l m) (key_in l (dropped k ms)) p
    go false p true q d ih = ih d
    go false p false q d ih = or_right (key_eq l m) (key_in l (dropped k ms)) (ih d)

in_later : (k : Key) (ks ls : List Key) → key_in k ls ≡ true → key_in k (ks ++ ls) ≡ true
in_later k [] ls h = h
in_later k (l ∷ ks) ls h = or_right (key_eq k l) (key_in k (ks ++ ls)) (in_later k ks ls h)

in_front : (k : Key) (ks ls : List Key) → key_in k ks ≡ true → key_in k (ks ++ ls) ≡ true
in_front k [] ls h = absurd (cc)
in_front k (l ∷ ks) ls h = go (either_true (key_eq k l) (key_in k ks) h) (in_front k ks ls)
  where
    go : (key_eq k l ≡ true) ⊎ (key_in k ks ≡ true) → (key_in k ks ≡ true → key_in k (ks ++ ls) ≡ true) → (key_eq k l || key_in k (ks ++ ls)) ≡ true
    go (inl d) ih = or_left (key_eq k l) (key_in k (ks ++ ls)) d
    go (inr d) ih = or_right (key_eq k l) (key_in k (ks ++ ls)) (ih d)

in_retyped : (s : List TypeEntry) (l : Key) (ls : List Key) → key_in l ls ≡ true → key_in (retyped_key s l) (map (retyped_key s) ls) ≡ true
in_retyped s l [] h = absurd (cc)
in_retyped s l (m ∷ ms) h = go (either_true (key_eq l m) (key_in l ms) h) (in_retyped s l ms)
  where
    go : (key_eq l m ≡ true) ⊎ (key_in l ms ≡ true) → (key_in l ms ≡ true → key_in (retyped_key s l) (map (retyped_key s) ms) ≡ true) → (key_eq (retyped_key s l) (retyped_key s m) || key_in (retyped_key s l) (map (retyped_key s) ms)) ≡ true
    go (inl d) ih = or_left (key_eq (retyped_key s l) (retyped_key s m)) (key_in (retyped_key s l) (map (retyped_key s) ms)) (ap (λ x. key_eq (retyped_key s l) (retyped_key s x)) (sym (key_eq-true l m d)) ∙ key_eq_self (retyped_key s l))
    go (inr d) ih = or_right (key_eq (retyped_key s l) (retyped_key s m)) (key_in (retyped_key s l) (map (retyped_key s) ms)) (ih d)

flipped : (k l : Key) → key_eq k l ≡ false → key_eq l k ≡ false
flipped k l e = go (key_eq l k) refl
  where
    go : (c : Bool) → key_eq l k ≡ c → c ≡ false
    go true q =
        let r : key_eq k l ≡ true = ap (λ m. key_eq k m) (key_eq-true l k q) ∙ key_eq_self k in
        absurd (cc)
    go false q = refl

-- 2. What is left to solve

-- At most n steps solve: the unknowns of the equations are among some, which with the new ones that may come are at most n.
pub record AtMost (n : ℕ) (st : State) : Type 0 where
  pub live : List Key
  pub among : (k : Key) → occurs k st.equations ≡ true → key_in k live ≡ true
  pub bound : length live + st.left ≤ n

abbrev weigh : State → ℕ
weigh st = weight st.equations

-- a step that solves the unknown f, and brings the unknowns of extra in
assigning : (n : ℕ) (st : State) (p : AtMost n st) (f : Key) (extra : List Key) (new : State)
    → occurs f st.equations ≡ true
    → ((k : Key) → occurs k new.equations ≡ true → (key_in k extra ≡ true) ⊎ ((occurs k st.equations ≡ true) × (key_eq k f ≡ false)))
    → length extra + new.left ≤ st.left
    → (m : ℕ) × (m < n) × AtMost m new
assigning n st p f extra new here from le =
    let live = extra ++ dropped f p.live in (
      length live + new.left,
      (let a = length-append extra (dropped f p.live) in let b = dropped_lt f p.live (p.among f here) in let c = p.bound in omega (arith, a, b, c, le)),
      record { live = live; among = λ k h. go k (from k h); bound = omega arith },
    )
  where
    go : (k : Key) → (key_in k extra ≡ true) ⊎ ((occurs k st.equations ≡ true) × (key_eq k f ≡ false)) → key_in k (extra ++ dropped f p.live) ≡ true
    go k (inl d) = in_front k extra (dropped f p.live) d
    go k (inr d) = in_later k extra (dropped f p.live) (kept_in f k p.live (p.among k d.0) (flipped k f d.1))

abbrev Goes : ℕ → State → UnifyStep → Type 0
Goes n st r = Within weigh AtMost n st r

pattern_goes : (n : ℕ) (st : State) (o : Option (List ℕ)) (f : List ℕ → UnifyStep) → ((xs : List ℕ) → Goes n st (f xs)) → Goes n st (on_pattern o f)
pattern_goes n st None f h = tt
pattern_goes n st (Some xs) f h = h xs

some_left : (l : ℕ) → nat_eq l 0 ≡ false → suc (l - 1) ≡ l
some_left zero e = absurd (cc)
some_left (suc l) e = omega arith

-- a step with a new unknown: st is the state that it stands at, old the one before
with_new_goes : (n : ℕ) (old st : State) (f : ℕ → State → UnifyStep) → ((new : ℕ) (st' : State) → st'.equations ≡ st.equations → suc st'.left ≡ st.left → Goes n old (f new st')) → Goes n old (with_new st f)
with_new_goes n old st f h = go (nat_eq st.left 0) refl
  where
    go : (c : Bool) → nat_eq st.left 0 ≡ c → Goes n old (cond c (Done Outside) (f st.next (record st { next = st.next + 1; left = st.left - 1 })))
    go true e = tt
    go false e = h st.next (record st { next = st.next + 1; left = st.left - 1 }) refl (some_left st.left e)

-- 3. The steps that solve

first_true : (a : Bool) → (a || false) ≡ true → a ≡ true
first_true true d = refl
first_true false d = absurd (cc)

first_false : (a b : Bool) → (a || b) ≡ false → a ≡ false
first_false true b k = absurd (cc)
first_false false b k = refl

abbrev front : State → Equation → List Equation → Type 0
front st e es = st.equations ≡ e ∷ es

in_equations : (k : Key) (st : State) (e : Equation) (es : List Equation) → front st e es → (stands k e.left ≡ true) ⊎ (stands k e.right ≡ true) → occurs k st.equations ≡ true
in_equations k st e es h d = ap (occurs k) h ∙ go d
  where
    go : (stands k e.left ≡ true) ⊎ (stands k e.right ≡ true) → occurs k (e ∷ es) ≡ true
    go (inl c) = or_left (stands k e.left) (stands k e.right || occurs k es) c
    go (inr c) = or_right (stands k e.left) (stands k e.right || occurs k es) (or_left (stands k e.right) (occurs k es) c)

in_rest : (k : Key) (st : State) (e : Equation) (es : List Equation) → front st e es → occurs k es ≡ true → occurs k st.equations ≡ true
in_rest k st e es h d = ap (occurs k) h ∙ or_right (stands k e.left) (stands k e.right || occurs k es) (or_right (stands k e.right) (occurs k es) d)

module _ (n : ℕ) (st : State) (p : AtMost n st) (e : Equation) (es : List Equation) (h : front st e es) where
  abbrev behind : State
  behind = record st { equations = es }

  -- the state after one unknown became a term, and after two did
  abbrev solved_one : State → List ℕ → ℕ → Ty → Tm → State
  solved_one s f k S t = filled_state (becomes f k S t ∷ []) s

  -- an unknown that becomes a term with no unknowns but old ones that aren't it
  fine_goes : (f : List ℕ) (k : ℕ) (S : Ty) (xs : List ℕ) (t : Tm) → occurs (key f k S) st.equations ≡ true → ((l : Key) → stands l t ≡ true → occurs l st.equations ≡ true) → stands (key f k S) t ≡ false → Goes n st (Solved (solved_one behind f k S (abstracted e.binders xs t)))
  fine_goes f k S xs t here inside without = assigning n st p (key f k S) [] (solved_one behind f k S (abstracted e.binders xs t)) here
      (λ l d. from l (occurs-filled (becomes f k S (abstracted e.binders xs t) ∷ []) l es d)) (omega arith)
    where
      other : (l : Key) (c : Bool) → key_eq l (key f k S) ≡ c → stands l t ≡ true → c ≡ false
      other l true q s =
          let r : stands (key f k S) t ≡ true = ap (λ m. stands m t) (sym (key_eq-true l (key f k S) q)) ∙ s in
          absurd (cc)
      other l false q s = refl

      from : (l : Key) → (some_term_has l (becomes f k S (abstracted e.binders xs t) ∷ []) ≡ true) ⊎ ((occurs l es ≡ true) × (assigns (becomes f k S (abstracted e.binders xs t) ∷ []) l ≡ false)) → (key_in l [] ≡ true) ⊎ ((occurs l st.equations ≡ true) × (key_eq l (key f k S) ≡ false))
      from l (inl d) =
          let s = stands-abstracted l e.binders xs t (first_true (stands l (abstracted e.binders xs t)) d) in
          inr (inside l s, other l (key_eq l (key f k S)) refl s)
      from l (inr d) = inr (in_rest l st e es h d.0, first_false (key_eq l (key f k S)) false d.1)

  -- an unknown that becomes a new one over variables, before equations that are there
  new_goes : (f : List ℕ) (k : ℕ) (S : Ty) (xs : List ℕ) (cs : List Variable) (x : List ℕ) (new : ℕ) (kept : List ℕ) (T : Ty) (st' : State) → occurs (key f k S) st.equations ≡ true → ((l : Key) → occurs l st'.equations ≡ true → occurs l st.equations ≡ true) → suc st'.left ≡ st.left → Goes n st (Solved (solved_one st' f k S (abstracted cs xs (over cs x new kept T))))
  new_goes f k S xs cs x new kept T st' here within z = assigning n st p (key f k S) (new_key cs x new kept T ∷ []) (solved_one st' f k S (abstracted cs xs (over cs x new kept T))) here
      (λ l d. from l (occurs-filled (becomes f k S (abstracted cs xs (over cs x new kept T)) ∷ []) l st'.equations d)) (omega (arith, z))
    where
      from : (l : Key) → (some_term_has l (becomes f k S (abstracted cs xs (over cs x new kept T)) ∷ []) ≡ true) ⊎ ((occurs l st'.equations ≡ true) × (assigns (becomes f k S (abstracted cs xs (over cs x new kept T)) ∷ []) l ≡ false)) → (key_in l (new_key cs x new kept T ∷ []) ≡ true) ⊎ ((occurs l st.equations ≡ true) × (key_eq l (key f k S) ≡ false))
      from l (inl d) = inl (or_left (key_eq l (new_key cs x new kept T)) false (stands-over l cs x new kept T (stands-abstracted l cs xs (over cs x new kept T) (first_true (stands l (abstracted cs xs (over cs x new kept T))) d))))
      from l (inr d) = inr (within l d.0, first_false (key_eq l (key f k S)) false d.1)

  solve_goes : (f : List ℕ) (k : ℕ) (S : Ty) (xs : List ℕ) (t : Tm) → occurs (key f k S) st.equations ≡ true → ((l : Key) → stands l t ≡ true → occurs l st.equations ≡ true) → Goes n st (solve behind e f k S xs t)
  solve_goes f k S xs t here inside = go (first_place f k xs 0 e.binders t) refl
    where
      go : (v : Verdict) → first_place f k xs 0 e.binders t ≡ v → Goes n st (solve_at behind e f k S xs t v)
      go Fine q = fine_goes f k S xs t here inside (fine_stands (key f k S) xs 0 e.binders t q)
      go Refused q = tt
      go Strays q = tt
      go (Prunes x m T cs ys kept) q = with_new_goes n st behind (λ new st'. Solved (solved_one (with_first e st') x m T (abstracted cs ys (over cs x new kept (range_behind ys T)))))
          (λ new st' same z. new_goes x m T ys cs x new kept (range_behind ys T) (with_first e st') (inside (key x m T) (prunes_stands f k xs 0 e.binders t x m T cs ys kept q))
          (λ l d. ap (occurs l) (h ∙ ap (λ eqs. e ∷ eqs) (sym same)) ∙ d) z)

  behind_lighter : (weigh behind < weigh st) × AtMost n behind
  behind_lighter = ((let w = ap weight h in omega (arith, w)), record { live = p.live; among = λ k d. p.among k (in_rest k st e es h d); bound = p.bound })

  same_goes : (f : List ℕ) (k : ℕ) (S : Ty) (xs ys : List ℕ) → occurs (key f k S) st.equations ≡ true → Goes n st (solve_same behind e f k S xs ys)
  same_goes f k S xs ys here = go (nat_eq (length (agreeing xs ys)) (length xs))
    where
      go : (c : Bool) → Goes n st (cond c (Lighter behind) (with_new behind (λ new st'. Solved (solved_one st' f k S (abstracted e.binders xs (over e.binders f new (agreeing xs ys) (range_behind xs S)))))))
      go true = behind_lighter
      go false = with_new_goes n st behind (λ new st'. Solved (solved_one st' f k S (abstracted e.binders xs (over e.binders f new (agreeing xs ys) (range_behind xs S)))))
          (λ new st' same z. new_goes f k S xs e.binders f new (agreeing xs ys) (range_behind xs S) st' here (λ l d. in_rest l st e es h (ap (occurs l) (sym same) ∙ d)) z)

  two_goes : (f : List ℕ) (k : ℕ) (S : Ty) (xs : List ℕ) (g : List ℕ) (m : ℕ) (T : Ty) (ys : List ℕ) → occurs (key f k S) st.equations ≡ true → Goes n st (solve_two behind e f k S xs g m T ys)
  two_goes f k S xs g m T ys here = with_new_goes n st behind (λ new st'. Solved (filled_state (becomes f k S (abstracted e.binders xs (over e.binders f new (filter (has_number ys) xs) (range_behind xs S))) ∷ becomes g m T (abstracted e.binders ys (over e.binders f new (filter (has_number ys) xs) (range_behind xs S))) ∷ []) st'))
      (λ new st' same z. assigning n st p (key f k S) (new_key e.binders f new (filter (has_number ys) xs) (range_behind xs S) ∷ []) (filled_state (solutions new) st') here
      (λ i d. from new st' same i (occurs-filled (solutions new) i st'.equations d)) (omega (arith, z)))
    where
      new_term : ℕ → Tm
      new_term new = over e.binders f new (filter (has_number ys) xs) (range_behind xs S)

      solutions : ℕ → List TermEntry
      solutions new = becomes f k S (abstracted e.binders xs (new_term new)) ∷ becomes g m T (abstracted e.binders ys (new_term new)) ∷ []

      new_from : (new : ℕ) (l : Key) → (stands l (abstracted e.binders xs (new_term new)) ≡ true) ⊎ (stands l (abstracted e.binders ys (new_term new)) ≡ true) → stands l (new_term new) ≡ true
      new_from new l (inl d) = stands-abstracted l e.binders xs (new_term new) d
      new_from new l (inr d) = stands-abstracted l e.binders ys (new_term new) d

      second : (c d : Bool) → (c || (d || false)) ≡ true → (c ≡ true) ⊎ (d ≡ true)
      second true d q = inl refl
      second false true q = inr refl
      second false false q = absurd (cc)

      from : (new : ℕ) (st' : State) → st'.equations ≡ es → (l : Key) → (some_term_has l (solutions new) ≡ true) ⊎ ((occurs l st'.equations ≡ true) × (assigns (solutions new) l ≡ false)) → (key_in l (new_key e.binders f new (filter (has_number ys) xs) (range_behind xs S) ∷ []) ≡ true) ⊎ ((occurs l st.equations ≡ true) × (key_eq l (key f k S) ≡ false))
      from new st' same l (inl d) = inl (or_left (key_eq l (new_key e.binders f new (filter (has_number ys) xs) (range_behind xs S))) false (stands-over l e.binders f new (filter (has_number ys) xs) (range_behind xs S)
          (new_from new l (second (stands l (abstracted e.binders xs (new_term new))) (stands l (abstracted e.binders ys (new_term new))) d))))
      from new st' same l (inr d) = inr (in_rest l st e es h (ap (occurs l) (sym same) ∙ d.0), first_false (key_eq l (key f k S)) (key_eq l (key g m T) || false) d.1)

  left_here : (l : Key) → stands l e.left ≡ true → occurs l st.equations ≡ true
  left_here l d = in_equations l st e es h (inl d)

  right_here : (l : Key) → stands l e.right ≡ true → occurs l st.equations ≡ true
  right_here l d = in_equations l st e es h (inr d)

  both_goes : (f : List ℕ) (k : ℕ) (S : Ty) (xs : List ℕ) (g : List ℕ) (m : ℕ) (T : Ty) (ys : List ℕ) (c : Bool) → occurs (key f k S) st.equations ≡ true → Goes n st (cond c (solve_same behind e f k S xs ys) (solve_two behind e f k S xs g m T ys))
  both_goes f k S xs g m T ys true here = same_goes f k S xs ys here
  both_goes f k S xs g m T ys false here = two_goes f k S xs g m T ys here

  flexible_goes : (t u : Tm) → ((l : Key) → stands l t ≡ true → stands l e.left ≡ true) → ((l : Key) → stands l u ≡ true → stands l e.right ≡ true) → Goes n st (flexible_step behind e t u)
  flexible_goes (Const x1 T1) (Const x2 T2) p q = tt
  flexible_goes (Const x1 T1) (Free x2 T2) p q = tt
  flexible_goes (Const x1 T1) (Unknown x2 n2 T2) p q = pattern_goes n st (distinct_bounds (args_of e.right)) _ (λ ys. solve_goes x2 n2 T2 ys e.left (right_here (key x2 n2 T2) (q (key x2 n2 T2) (key_eq_self (key x2 n2 T2)))) left_here)
  flexible_goes (Const x1 T1) (Bound n2) p q = tt
  flexible_goes (Const x1 T1) (Abs x2 T2 t2) p q = tt
  flexible_goes (Const x1 T1) (App f2 t2) p q = tt
  flexible_goes (Free x1 T1) (Const x2 T2) p q = tt
  flexible_goes (Free x1 T1) (Free x2 T2) p q = tt
  flexible_goes (Free x1 T1) (Unknown x2 n2 T2) p q = pattern_goes n st (distinct_bounds (args_of e.right)) _ (λ ys. solve_goes x2 n2 T2 ys e.left (right_here (key x2 n2 T2) (q (key x2 n2 T2) (key_eq_self (key x2 n2 T2)))) left_here)
  flexible_goes (Free x1 T1) (Bound n2) p q = tt
  flexible_goes (Free x1 T1) (Abs x2 T2 t2) p q = tt
  flexible_goes (Free x1 T1) (App f2 t2) p q = tt
  flexible_goes (Unknown x1 n1 T1) (Const x2 T2) p q = pattern_goes n st (distinct_bounds (args_of e.left)) _ (λ xs. solve_goes x1 n1 T1 xs e.right (left_here (key x1 n1 T1) (p (key x1 n1 T1) (key_eq_self (key x1 n1 T1)))) right_here)
  flexible_goes (Unknown x1 n1 T1) (Free x2 T2) p q = pattern_goes n st (distinct_bounds (args_of e.left)) _ (λ xs. solve_goes x1 n1 T1 xs e.right (left_here (key x1 n1 T1) (p (key x1 n1 T1) (key_eq_self (key x1 n1 T1)))) right_here)
  flexible_goes (Unknown x1 n1 T1) (Unknown x2 n2 T2) p q = pattern_goes n st (distinct_bounds (args_of e.left)) _ (λ xs. pattern_goes n st (distinct_bounds (args_of e.right)) _ (λ ys. both_goes x1 n1 T1 xs x2 n2 T2 ys (name_eq x1 x2 && nat_eq n1 n2) (left_here (key x1 n1 T1) (p (key x1 n1 T1) (key_eq_self (key x1 n1 T1))))))
  flexible_goes (Unknown x1 n1 T1) (Bound n2) p q = pattern_goes n st (distinct_bounds (args_of e.left)) _ (λ xs. solve_goes x1 n1 T1 xs e.right (left_here (key x1 n1 T1) (p (key x1 n1 T1) (key_eq_self (key x1 n1 T1)))) right_here)
  flexible_goes (Unknown x1 n1 T1) (Abs x2 T2 t2) p q = pattern_goes n st (distinct_bounds (args_of e.left)) _ (λ xs. solve_goes x1 n1 T1 xs e.right (left_here (key x1 n1 T1) (p (key x1 n1 T1) (key_eq_self (key x1 n1 T1)))) right_here)
  flexible_goes (Unknown x1 n1 T1) (App f2 t2) p q = pattern_goes n st (distinct_bounds (args_of e.left)) _ (λ xs. solve_goes x1 n1 T1 xs e.right (left_here (key x1 n1 T1) (p (key x1 n1 T1) (key_eq_self (key x1 n1 T1)))) right_here)
  flexible_goes (Bound n1) (Const x2 T2) p q = tt
  flexible_goes (Bound n1) (Free x2 T2) p q = tt
  flexible_goes (Bound n1) (Unknown x2 n2 T2) p q = pattern_goes n st (distinct_bounds (args_of e.right)) _ (λ ys. solve_goes x2 n2 T2 ys e.left (right_here (key x2 n2 T2) (q (key x2 n2 T2) (key_eq_self (key x2 n2 T2)))) left_here)
  flexible_goes (Bound n1) (Bound n2) p q = tt
  flexible_goes (Bound n1) (Abs x2 T2 t2) p q = tt
  flexible_goes (Bound n1) (App f2 t2) p q = tt
  flexible_goes (Abs x1 T1 t1) (Const x2 T2) p q = tt
  flexible_goes (Abs x1 T1 t1) (Free x2 T2) p q = tt
  flexible_goes (Abs x1 T1 t1) (Unknown x2 n2 T2) p q = pattern_goes n st (distinct_bounds (args_of e.right)) _ (λ ys. solve_goes x2 n2 T2 ys e.left (right_here (key x2 n2 T2) (q (key x2 n2 T2) (key_eq_self (key x2 n2 T2)))) left_here)
  flexible_goes (Abs x1 T1 t1) (Bound n2) p q = tt
  flexible_goes (Abs x1 T1 t1) (Abs x2 T2 t2) p q = tt
  flexible_goes (Abs x1 T1 t1) (App f2 t2) p q = tt
  flexible_goes (App f1 t1) (Const x2 T2) p q = tt
  flexible_goes (App f1 t1) (Free x2 T2) p q = tt
  flexible_goes (App f1 t1) (Unknown x2 n2 T2) p q = pattern_goes n st (distinct_bounds (args_of e.right)) _ (λ ys. solve_goes x2 n2 T2 ys e.left (right_here (key x2 n2 T2) (q (key x2 n2 T2) (key_eq_self (key x2 n2 T2)))) left_here)
  flexible_goes (App f1 t1) (Bound n2) p q = tt
  flexible_goes (App f1 t1) (Abs x2 T2 t2) p q = tt
  flexible_goes (App f1 t1) (App f2 t2) p q = tt

  -- the parts before the equations that are there
  appended : (l : Key) (ps : List Equation) → occurs l (ps ++ es) ≡ true → (occurs l ps ≡ true) ⊎ (occurs l es ≡ true)
  appended l [] d = inr d
  appended l (q ∷ ps) d = go (either_true (stands l q.left) (stands l q.right || occurs l (ps ++ es)) d) (appended l ps)
    where
      rest : (occurs l ps ≡ true) ⊎ (occurs l es ≡ true) → (occurs l (q ∷ ps) ≡ true) ⊎ (occurs l es ≡ true)
      rest (inl c) = inl (or_right (stands l q.left) (stands l q.right || occurs l ps) (or_right (stands l q.right) (occurs l ps) c))
      rest (inr c) = inr c

      second : (stands l q.right ≡ true) ⊎ (occurs l (ps ++ es) ≡ true) → (occurs l (ps ++ es) ≡ true → (occurs l ps ≡ true) ⊎ (occurs l es ≡ true)) → (occurs l (q ∷ ps) ≡ true) ⊎ (occurs l es ≡ true)
      second (inl c) ih = inl (or_right (stands l q.left) (stands l q.right || occurs l ps) (or_left (stands l q.right) (occurs l ps) c))
      second (inr c) ih = rest (ih c)

      go : (stands l q.left ≡ true) ⊎ ((stands l q.right || occurs l (ps ++ es)) ≡ true) → (occurs l (ps ++ es) ≡ true → (occurs l ps ≡ true) ⊎ (occurs l es ≡ true)) → (occurs l (q ∷ ps) ≡ true) ⊎ (occurs l es ≡ true)
      go (inl c) ih = inl (or_left (stands l q.left) (stands l q.right || occurs l ps) c)
      go (inr c) ih = second (either_true (stands l q.right) (occurs l (ps ++ es)) c) ih

  stood : (parts : List Equation) → PartsFall e.left e.right parts → (l : Key) → (occurs l parts ≡ true) ⊎ (occurs l es ≡ true) → occurs l st.equations ≡ true
  stood parts f l (inl d) = in_equations l st e es h (f.within l d)
  stood parts f l (inr d) = in_rest l st e es h d

  parts_go : (parts : List Equation) → PartsFall e.left e.right parts → Goes n st (Lighter (record st { equations = parts ++ es }))
  parts_go parts f = (
    (let b = weight-append parts es in let c = ap weight h in let d = f.falls in omega (arith, b, c, d)),
    record { live = p.live; among = λ k d. p.among k (stood parts f k (appended k parts d)); bound = p.bound },
  )

  -- the types of two heads have a unifier
  types_go : (parts : List Equation) → PartsFall e.left e.right parts → (o : Option (List TypeEntry)) → Goes n st (after_types (record st { equations = parts ++ es }) o)
  types_go parts f None = tt
  types_go parts f (Some s) = (
    (let a = weight-retyped_equations s (parts ++ es) in let b = weight-append parts es in let c = ap weight h in let d = f.falls in omega (arith, a, b, c, d)),
    record { live = map (retyped_key s) p.live; among = λ k d. among k (occurs-retyped s k (parts ++ es) d); bound = let b = p.bound in let l = length-map p.live (retyped_key s) in omega (arith, b, l) },
  )
    where
      among : (k : Key) → CameFrom s k (λ l. occurs l (parts ++ es)) → key_in k (map (retyped_key s) p.live) ≡ true
      among k c = ap (λ l. key_in l (map (retyped_key s) p.live)) c.2 ∙ in_retyped s c.0 p.live (p.among c.0 (stood parts f c.0 (appended c.0 parts c.1)))

  front_goes : (r : Parts) → parts_at e.binders e.left e.right ≡ r → Goes n st (front_step behind e r)
  front_goes Clash q = tt
  front_goes (Into parts) q = parts_go parts (parts_fall e.binders e.left e.right parts (subst (λ r. AreParts r parts) (sym q) refl))
  front_goes (Heads S T parts) q = types_go parts (parts_fall e.binders e.left e.right parts (subst (λ r. AreParts r parts) (sym q) refl)) (unify_typs ((S, T) ∷ []))
  front_goes Flexible q = flexible_goes (head_of e.left) (head_of e.right) (λ l d. head_stands l e.left d) (λ l d. head_stands l e.right d)

-- 4. All steps

pub unify_step_goes : (n : ℕ) (st : State) → AtMost n st → Goes n st (unify_step st)
unfolding unify_step
unify_step_goes n st p = go st.equations refl
  where
    go : (eqs : List Equation) → st.equations ≡ eqs → Goes n st (elim eqs [
      | [] ↦ Done (Yes st.types st.terms st.next)
      | e ∷ es ↦ front_step (record st { equations = es }) e (parts_at e.binders e.left e.right)
    ])
    go [] q = tt
    go (e ∷ es) q = front_goes n st p e es q (parts_at e.binders e.left e.right) refl

-- 5. The unknowns of the equations

keys_of : Tm → List Key
keys_of (Const x T) = []
keys_of (Free x T) = []
keys_of (Unknown x i T) = key x i T ∷ []
keys_of (Bound n) = []
keys_of (Abs x T b) = keys_of b
keys_of (App f a) = keys_of f ++ keys_of a

all_keys : List Equation → List Key
all_keys [] = []
all_keys (e ∷ es) = (keys_of e.left ++ keys_of e.right) ++ all_keys es

count-keys : (t : Tm) → length (keys_of t) ≡ unknowns_of t
unfolding keys_of
count-keys (Const x T) = refl
count-keys (Free x T) = refl
count-keys (Unknown x i T) = refl
count-keys (Bound n) = refl
count-keys (Abs x T b) = count-keys b
count-keys (App f a) = let e = length-append (keys_of f) (keys_of a) in let p = count-keys f in let q = count-keys a in omega (arith, e, p, q)

count-all_keys : (es : List Equation) → length (all_keys es) ≡ all_unknowns_of es
unfolding all_keys
count-all_keys [] = refl
count-all_keys (e ∷ es) =
    let a = length-append (keys_of e.left ++ keys_of e.right) (all_keys es) in
    let b = length-append (keys_of e.left) (keys_of e.right) in
    let p = count-keys e.left in let q = count-keys e.right in let r = count-all_keys es in omega (arith, a, b, p, q, r)

in_keys : (k : Key) (t : Tm) → stands k t ≡ true → key_in k (keys_of t) ≡ true
unfolding keys_of
in_keys k (Const x T) h = absurd (cc)
in_keys k (Free x T) h = absurd (cc)
in_keys k (Bound n) h = absurd (cc)
in_keys k (Unknown x i T) h = or_left (key_eq k (key x i T)) false h
in_keys k (Abs x T b) h = in_keys k b h
in_keys k (App f a) h = go (either_true (stands k f) (stands k a) h) (in_keys k f) (in_keys k a)
  where
    go : (stands k f ≡ true) ⊎ (stands k a ≡ true) → (stands k f ≡ true → key_in k (keys_of f) ≡ true) → (stands k a ≡ true → key_in k (keys_of a) ≡ true) → key_in k (keys_of f ++ keys_of a) ≡ true
    go (inl d) p q = in_front k (keys_of f) (keys_of a) (p d)
    go (inr d) p q = in_later k (keys_of f) (keys_of a) (q d)

in_all_keys : (k : Key) (es : List Equation) → occurs k es ≡ true → key_in k (all_keys es) ≡ true
unfolding all_keys
in_all_keys k [] h = absurd (cc)
in_all_keys k (e ∷ es) h = go (either_true (stands k e.left) (stands k e.right || occurs k es) h) (in_all_keys k es)
  where
    second : (stands k e.right ≡ true) ⊎ (occurs k es ≡ true) → (occurs k es ≡ true → key_in k (all_keys es) ≡ true) → key_in k ((keys_of e.left ++ keys_of e.right) ++ all_keys es) ≡ true
    second (inl d) ih = in_front k (keys_of e.left ++ keys_of e.right) (all_keys es) (in_later k (keys_of e.left) (keys_of e.right) (in_keys k e.right d))
    second (inr d) ih = in_later k (keys_of e.left ++ keys_of e.right) (all_keys es) (ih d)

    go : (stands k e.left ≡ true) ⊎ ((stands k e.right || occurs k es) ≡ true) → (occurs k es ≡ true → key_in k (all_keys es) ≡ true) → key_in k ((keys_of e.left ++ keys_of e.right) ++ all_keys es) ≡ true
    go (inl d) ih = in_front k (keys_of e.left ++ keys_of e.right) (all_keys es) (in_front k (keys_of e.left) (keys_of e.right) (in_keys k e.left d))
    go (inr d) ih = second (either_true (stands k e.right) (occurs k es) d) ih

at_most : (st : State) → AtMost (all_unknowns_of st.equations + st.left) st
at_most st = record {
  live = all_keys st.equations;
  among = λ k h. in_all_keys k st.equations h;
  bound = let c = count-all_keys st.equations in omega (arith, c);
}

-- 6. The ends

-- Unification ends, and `unified` says with what.
pub unified_reached : (st : State) → Reaches unify_step (unified st) st
unfolding unified
unified_reached st = bounded unify_step weigh Outside AtMost unify_step_goes (suc (all_unknowns_of st.equations + st.left)) (all_unknowns_of st.equations + st.left) st (omega arith) (at_most st)

-- how many steps are left
pub steps_left : State → ℕ
steps_left st = (unified_reached st).0

pub unified-lighter : (s t : State) → unify_step s ≡ Lighter t → unified s ≡ unified t
unified-lighter s t e = (ends_once (unified_reached s).1 (Ending.lighter t e (unified_reached t).1)).0

pub unified-solved : (s t : State) → unify_step s ≡ Solved t → unified s ≡ unified t
unified-solved s t e = (ends_once (unified_reached s).1 (Ending.solved t e (unified_reached t).1)).0

pub unified-done : (s : State) (a : Answer) → unify_step s ≡ Done a → unified s ≡ a
unified-done s a e = (ends_once (unified_reached s).1 (Ending.now e)).0

pub steps_left-lighter : (s t : State) → unify_step s ≡ Lighter t → steps_left s ≡ suc (steps_left t)
unfolding steps_left
steps_left-lighter s t e = (ends_once (unified_reached s).1 (Ending.lighter t e (unified_reached t).1)).1

pub steps_left-solved : (s t : State) → unify_step s ≡ Solved t → steps_left s ≡ suc (steps_left t)
unfolding steps_left
steps_left-solved s t e = (ends_once (unified_reached s).1 (Ending.solved t e (unified_reached t).1)).1

-- 7. Clashes

abbrev pub ClashGoes : List Equation → Step (List Equation) Bool → Type 0
ClashGoes es (Done a) = Unit {0}
ClashGoes es (Lighter fs) = weight fs < weight es
ClashGoes es (Solved fs) = ⊥

clash_parts : (e : Equation) (es : List Equation) (r : Parts) → parts_at e.binders e.left e.right ≡ r → ClashGoes (e ∷ es) (clash_step_at r es)
clash_parts e es Flexible q = omega arith
clash_parts e es Clash q = tt
clash_parts e es (Into parts) q =
    let f = (parts_fall e.binders e.left e.right parts (subst (λ r. AreParts r parts) (sym q) refl)).falls in
    let a = weight-append parts es in omega (arith, f, a)
clash_parts e es (Heads S T parts) q = go (is_some (unify_typs ((S, T) ∷ [])))
  where
    go : (c : Bool) → ClashGoes (e ∷ es) (cond c (Lighter (parts ++ es)) (Done true))
    go true =
        let f = (parts_fall e.binders e.left e.right parts (subst (λ r. AreParts r parts) (sym q) refl)).falls in
        let a = weight-append parts es in omega (arith, f, a)
    go false = tt

pub clash_goes : (es : List Equation) → ClashGoes es (clash_step es)
unfolding clash_step
clash_goes [] = tt
clash_goes (e ∷ es) = clash_parts e es (parts_at e.binders e.left e.right) refl

pub clashes_reached : (es : List Equation) → Reaches clash_step (clashes es) es
unfolding clashes
clashes_reached es = bounded clash_step weight true (λ n s. n ≡ n) (λ n s p. at n s (clash_step s) (clash_goes s)) 1 0 es (omega arith) refl
  where
    at : (n : ℕ) (s : List Equation) (r : Step (List Equation) Bool) → ClashGoes s r → Within weight (λ n s. n ≡ n) n s r
    at n s (Done a) h = tt
    at n s (Lighter fs) h = (h, refl)
    at n s (Solved fs) h = absurd h

pub clashes-lighter : (s t : List Equation) → clash_step s ≡ Lighter t → clashes s ≡ clashes t
clashes-lighter s t e = (ends_once (clashes_reached s).1 (Ending.lighter t e (clashes_reached t).1)).0

pub clashes-done : (s : List Equation) (b : Bool) → clash_step s ≡ Done b → clashes s ≡ b
clashes-done s b e = (ends_once (clashes_reached s).1 (Ending.now e)).0
