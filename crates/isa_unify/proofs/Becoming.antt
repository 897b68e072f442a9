-- What unknowns become, where the code holds the parts under names of their own.
use Rattle.std.proofs.Common.{◌≡◌, ℕ, List, [], ◌∷◌, ◌++◌, filter, false, cond, nat_eq, Result, IfOk, sym, ap, ◌∙◌, arith}
use Rattle.std.proofs.lemmas.Bool.Decides.{nat_tests}
use Rattle.std.proofs.lemmas.Result.{IfOk-weaker}
use Rattle.isa_terms.specs.Types.{Ty}
use Rattle.isa_terms.specs.Terms.{Tm}
use Rattle.isa_terms.specs.declared.inst.TermEntry.{TermEntry}
use Rattle.isa_unify.specs.declared.equation.Variable.{Variable}
use Rattle.isa_unify.specs.declared.equation.Equation.{Equation}
use Rattle.isa_unify.specs.declared.progress.State.{State}
use Rattle.isa_unify.specs.declared.progress.Answer.TheVariants.{Outside}
use Rattle.isa_unify.specs.declared.progress.Progress.TheVariants.{Going}
use Rattle.isa_unify.specs.declared.progress.Verdict.{Verdict}
use Rattle.isa_unify.specs.declared.progress.Verdict.TheVariants.{Fine}
use Rattle.isa_unify.specs.Descent.{Done, Solved}
use Rattle.isa_unify.specs.Spines.{has_number}
use Rattle.isa_unify.specs.Steps.{taken}
use Rattle.isa_unify.specs.Unification.{abstracted, range_behind, over, becomes, assigned, renewed, both_become, filled_state, first_place, solve_at, solve, after_new, solve_two}

pub renewed_by : {E : Type 0} (r : Result State E) (st : State) (bs : List Variable) (x : List ℕ) (i : ℕ) (T : Ty) (ys vs : List ℕ) (new : ℕ) (kept : List ℕ) (R : Ty) (u t : Tm)
    → vs ≡ ys → R ≡ range_behind vs T → u ≡ over bs x new kept R → t ≡ abstracted bs vs u
    → IfOk r (λ s. s ≡ assigned st x i T t) → IfOk r (λ s. s ≡ renewed st bs x i T ys new kept)
renewed_by r st bs x i T ys vs new kept R u t v e f g d = IfOk-weaker r (λ s. s ≡ assigned st x i T t) (λ s. s ≡ renewed st bs x i T ys new kept) (λ s q. q ∙ ap (assigned st x i T) same) d
  where
    range : R ≡ range_behind ys T
    range = e ∙ ap (λ zs. range_behind zs T) v

    unknown : u ≡ over bs x new kept (range_behind ys T)
    unknown = f ∙ ap (over bs x new kept) range

    same : t ≡ abstracted bs ys (over bs x new kept (range_behind ys T))
    same = g ∙ (λ j. abstracted bs (v j) (unknown j))

two_pushed : (n p q : List TermEntry) (a b : TermEntry) → n ≡ [] → p ≡ n ++ a ∷ [] → q ≡ p ++ b ∷ [] → q ≡ a ∷ b ∷ []
two_pushed n p q a b e f g = g ∙ ap (λ l. l ++ b ∷ []) (f ∙ ap (λ l. l ++ a ∷ []) e)

pub both_by : {E : Type 0} (r : Result State E) (st : State) (e : Equation) (f : List ℕ) (k : ℕ) (S : Ty) (xs : List ℕ) (g : List ℕ) (i : ℕ) (T : Ty) (ys : List ℕ) (h : Tm) (us vs : List ℕ) (t u : Tm) (n p q : List TermEntry) (a b : TermEntry)
    → us ≡ xs → vs ≡ ys → t ≡ abstracted e.binders us h → u ≡ abstracted e.binders vs h → a ≡ becomes f k S t → b ≡ becomes g i T u
    → n ≡ [] → p ≡ n ++ a ∷ [] → q ≡ p ++ b ∷ []
    → IfOk r (λ s. s ≡ filled_state q st) → IfOk r (λ s. s ≡ both_become st e f k S xs g i T ys h)
both_by r st e f k S xs g i T ys h us vs t u n p q a b c d l m v w x y z o =
    IfOk-weaker r (λ s. s ≡ filled_state q st) (λ s. s ≡ both_become st e f k S xs g i T ys h) (λ s j. j ∙ ap (λ es. filled_state es st) same) o
  where
    first : a ≡ becomes f k S (abstracted e.binders xs h)
    first = v ∙ ap (becomes f k S) (l ∙ ap (λ zs. abstracted e.binders zs h) c)

    second : b ≡ becomes g i T (abstracted e.binders ys h)
    second = w ∙ ap (becomes g i T) (m ∙ ap (λ zs. abstracted e.binders zs h) d)

    same : q ≡ becomes f k S (abstracted e.binders xs h) ∷ becomes g i T (abstracted e.binders ys h) ∷ []
    same = two_pushed n p q a b x y z ∙ (λ j. first j ∷ second j ∷ [])

pub solved_by : (st : State) (e : Equation) (f : List ℕ) (k : ℕ) (S : Ty) (xs : List ℕ) (t : Tm) (v : Verdict) (us : List ℕ) (u : Tm) (new : State)
    → v ≡ first_place f k xs 0 e.binders t → v ≡ Fine → us ≡ xs → u ≡ abstracted e.binders us t → new ≡ assigned st f k S u
    → Going new ≡ taken (solve st e f k S xs t)
solved_by st e f k S xs t v us u new a b c d g =
    ap Going (g ∙ ap (assigned st f k S) (d ∙ ap (λ zs. abstracted e.binders zs t) c)) ∙ ap (λ w. taken (solve_at st e f k S xs t w)) (sym b ∙ a)

some_left : (n m : ℕ) → n ≡ m → (n ≡ 0 → ⊥) → nat_eq m 0 ≡ false
some_left n m e f = grind (arith, nat_tests)

pub two_by : (st : State) (e : Equation) (f : List ℕ) (k : ℕ) (S : Ty) (xs : List ℕ) (g : List ℕ) (i : ℕ) (T : Ty) (ys : List ℕ) (left new : ℕ) (us vs kept ks : List ℕ) (R : Ty) (h : Tm) (later found : State)
    → left ≡ st.left → (left ≡ 0 → ⊥) → new ≡ st.next → us ≡ ys → vs ≡ xs → kept ≡ filter (has_number us) vs → R ≡ range_behind vs S → ks ≡ kept → h ≡ over e.binders f new ks R
    → later ≡ after_new st → found ≡ both_become later e f k S xs g i T ys h
    → Going found ≡ taken (solve_two st e f k S xs g i T ys)
two_by st e f k S xs g i T ys left new us vs kept ks R h later found l z n u v w r q o a b =
    ap Going same ∙ ap (λ c. taken (cond c (Done Outside) (Solved (both_become (after_new st) e f k S xs g i T ys (over e.binders f st.next (filter (has_number ys) xs) (range_behind xs S)))))) (sym (some_left left st.left l z))
  where
    numbers : ks ≡ filter (has_number ys) xs
    numbers = q ∙ (w ∙ (λ j. filter (has_number (u j)) (v j)))

    range : R ≡ range_behind xs S
    range = r ∙ ap (λ zs. range_behind zs S) v

    term : h ≡ over e.binders f st.next (filter (has_number ys) xs) (range_behind xs S)
    term = o ∙ (λ j. over e.binders f (n j) (numbers j) (range j))

    same : found ≡ both_become (after_new st) e f k S xs g i T ys (over e.binders f st.next (filter (has_number ys) xs) (range_behind xs S))
    same = b ∙ (λ j. both_become (a j) e f k S xs g i T ys (term j))
