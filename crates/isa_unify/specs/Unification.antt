-- Unification of terms by patterns, after Miller and Nipkow; the order of the steps is this project's.
use Rattle.std.specs.Prelude.{ℕ, suc, ◌+◌, ◌-◌, Bool, true, false, ◌&&◌, nat_eq, nat_lt, if◌then◌else◌, List, [], ◌∷◌, ◌++◌, map, filter, length, Option, Some, None, option_map, Result, Ok, slice_get, unwrap_or, is_some}
use Rattle.isa_terms.specs.Types.{Ty, Tys, TyCon, TyFixed, TyUnknown, NoTys, MoreTys}
use Rattle.isa_terms.specs.Terms.{Tm, Const, Free, Unknown, Bound, Abs, App}
use Rattle.isa_terms.specs.Equal.{name_eq}
use Rattle.isa_terms.specs.Typing.{TypeFault, function_of, function_parts, type_at}
use Rattle.isa_terms.specs.Replace.{raise}
use Rattle.isa_terms.specs.Norm.{eta, norm}
use Rattle.isa_terms.specs.Instance.{find_type, find_term, inst_ty, inst_tm}
use Rattle.isa_terms.specs.declared.inst.TypeEntry.{TypeEntry}
use Rattle.isa_terms.specs.declared.inst.TermEntry.{TermEntry}
use Rattle.isa_unify.specs.Descent.{Step, Done, Lighter, Solved, descend}
use Rattle.isa_unify.specs.TypeUnification.{unify_typs, entries_under}
use Rattle.isa_unify.specs.Spines.{head_of, args_of, is_flexible, has_number, distinct_bounds}
use Rattle.isa_unify.specs.declared.equation.Variable.{Variable}
use Rattle.isa_unify.specs.declared.equation.Equation.{Equation}
use Rattle.isa_unify.specs.declared.progress.Parts.{Parts}
use Rattle.isa_unify.specs.declared.progress.Parts.TheVariants.{Flexible, Clash, Into, Heads}
use Rattle.isa_unify.specs.declared.progress.Verdict.{Verdict}
use Rattle.isa_unify.specs.declared.progress.Verdict.TheVariants.{Fine, Refused, Strays, Prunes}
use Rattle.isa_unify.specs.declared.progress.State.{State}
use Rattle.isa_unify.specs.declared.progress.Answer.{Answer}
use Rattle.isa_unify.specs.declared.progress.Answer.TheVariants.{Yes, No, Outside}

-- 1. The parts of an equation

-- the equations of the arguments from left to right, where there are as many on both sides
abbrev pub paired : List Variable → List Tm → List Tm → Option (List Equation)
paired bs [] [] = Some []
paired bs (t ∷ ts) (u ∷ us) = option_map (λ es. record { binders = bs; left = t; right = u } ∷ es) (paired bs ts us)
paired bs _ _ = None

-- of heads that agree
abbrev pub inner_parts : Option (List Equation) → Parts
inner_parts None = Clash
inner_parts (Some es) = Into es

-- of heads that agree where the types do
abbrev pub typed_parts : Ty → Ty → Option (List Equation) → Parts
typed_parts S T None = Clash
typed_parts S T (Some es) = Heads S T es

-- two terms that are no abstractions, by their heads and arguments
abbrev pub meet : List Variable → Tm → List Tm → Tm → List Tm → Parts
meet bs (Unknown x i S) ts h us = Flexible
meet bs h ts (Unknown y j T) us = Flexible
meet bs (Const x S) ts (Const y T) us = if name_eq x y then typed_parts S T (paired bs ts us) else Clash
meet bs (Free x S) ts (Free y T) us = if name_eq x y then typed_parts S T (paired bs ts us) else Clash
meet bs (Bound m) ts (Bound n) us = if nat_eq m n then inner_parts (paired bs ts us) else Clash
meet bs g ts h us = Clash

-- a term applied to the variable of a new binder
abbrev pub opened : Tm → Tm
opened t = App (raise 1 0 t) (Bound 0)

abbrev pub stripped : List ℕ → Ty → List Variable → Tm → Tm → Parts
stripped x T bs t u = Into (record { binders = record { name = x; typ = T } ∷ bs; left = t; right = u } ∷ [])

-- Abstractions are stripped together, and the left one names the variable; a side that is none is applied to it.
unfoldable pub parts_at : List Variable → Tm → Tm → Parts
parts_at bs (Abs x S t) (Abs y T u) = stripped x S bs t u
parts_at bs (Abs x S t) u = stripped x S bs t (opened u)
parts_at bs t (Abs y T u) = stripped y T bs (opened t) u
parts_at bs t u = meet bs (head_of t) (args_of t) (head_of u) (args_of u)

-- what an equation weighs: its parts weigh less
abbrev pub tm_weight : Tm → ℕ
tm_weight (Const x T) = 1
tm_weight (Free x T) = 1
tm_weight (Unknown x i T) = 1
tm_weight (Bound n) = 1
tm_weight (Abs x T b) = 4 + tm_weight b
tm_weight (App f a) = suc (tm_weight f + tm_weight a)

abbrev pub weight : List Equation → ℕ
weight [] = 0
weight (e ∷ es) = suc (tm_weight e.left + tm_weight e.right + weight es)

-- 2. Clashes

-- Of the equations that are left: the heads of two rigid sides that don't agree, each pair alone, are a clash.
abbrev pub clash_step_at : Parts → List Equation → Step (List Equation) Bool
clash_step_at Flexible es = Lighter es
clash_step_at Clash es = Done true
clash_step_at (Into parts) es = Lighter (parts ++ es)
clash_step_at (Heads S T parts) es = if is_some (unify_typs ((S, T) ∷ [])) then Lighter (parts ++ es) else Done true

unfoldable pub clash_step : List Equation → Step (List Equation) Bool
unfolding parts_at
clash_step [] = Done false
clash_step (e ∷ es) = clash_step_at (parts_at e.binders e.left e.right) es

-- whether two rigid heads don't agree at some place, or have other numbers of arguments
unfoldable pub clashes : List Equation → Bool
unfolding clash_step unify_typs descend
clashes es = descend clash_step weight true 1 es

-- 3. Solutions

-- %vs. t, the outermost first, in normal form where t is
abbrev pub bind_all : List Variable → Tm → Tm
bind_all [] t = t
bind_all (v ∷ vs) t = eta v.name v.typ (bind_all vs t)

abbrev pub no_variable : Variable
no_variable = record { name = []; typ = TyCon [] NoTys }

abbrev pub variable : List Variable → ℕ → Variable
variable bs n = unwrap_or (slice_get bs n) no_variable

-- the number of the variable n under binders over xs, the first of them the outermost
abbrev pub place_behind : List ℕ → ℕ → ℕ
place_behind [] n = 0
place_behind (x ∷ xs) n = if nat_eq x n then length xs else place_behind xs n

-- the term, whose loose variables are among xs, under binders over xs
abbrev pub moved : List ℕ → ℕ → Tm → Tm
moved xs k (Const x T) = Const x T
moved xs k (Free x T) = Free x T
moved xs k (Unknown x i T) = Unknown x i T
moved xs k (Bound n) = if nat_lt n k then Bound n else Bound (k + place_behind xs (n - k))
moved xs k (Abs x T b) = Abs x T (moved xs (k + 1) b)
moved xs k (App f a) = App (moved xs k f) (moved xs k a)

-- %xs. t, xs being variables among the binders, which give their names and types
abbrev pub abstracted : List Variable → List ℕ → Tm → Tm
abstracted bs xs t = bind_all (map (variable bs) xs) (moved xs 0 t)

-- the type of functions from the variables to T
abbrev pub arrows : List Variable → List ℕ → Ty → Ty
arrows bs [] T = T
arrows bs (x ∷ xs) T = function_of (variable bs x).typ (arrows bs xs T)

-- the type that a function gives at as many arguments
abbrev pub range_behind : List ℕ → Ty → Ty
range_behind [] T = T
range_behind (x ∷ xs) T = elim (function_parts T) [ None ↦ T | Some p ↦ range_behind xs p.1 ]

abbrev pub on_bounds : Tm → List ℕ → Tm
on_bounds f [] = f
on_bounds f (x ∷ xs) = on_bounds (App f (Bound x)) xs

-- the unknown of that name and number on the variables xs, with the range T
abbrev pub over : List Variable → List ℕ → ℕ → List ℕ → Ty → Tm
over bs x i xs T = on_bounds (Unknown x i (arrows bs xs T)) xs

-- 4. The first place that decides, in preorder, in a term t for an unknown f, k on xs

-- the variable n under so many binders of t is one of these, or one of xs
abbrev pub allowed : List ℕ → ℕ → ℕ → Bool
allowed xs depth n = if nat_lt n depth then true else has_number xs (n - depth)

-- an unknown on the variables ys: f, k itself, or another, which keeps those that are allowed
abbrev pub at_pattern : List ℕ → ℕ → List ℕ → ℕ → List Variable → List ℕ → ℕ → Ty → List ℕ → Verdict
at_pattern f k xs depth bs x i T ys = if name_eq f x && nat_eq k i then Refused else (let kept = filter (allowed xs depth) ys in if nat_eq (length kept) (length ys) then Fine else Prunes x i T bs ys kept)

-- a term whose head is an unknown is one place
abbrev pub at_unknown : List ℕ → ℕ → List ℕ → ℕ → List Variable → Tm → List Tm → Verdict
at_unknown f k xs depth bs (Unknown x i T) args = elim (distinct_bounds args) [ None ↦ Strays | Some ys ↦ at_pattern f k xs depth bs x i T ys ]
at_unknown f k xs depth bs h args = Fine

-- the first verdict, unless it is fine
abbrev pub first_verdict : Verdict → Verdict → Verdict
first_verdict Fine w = w
first_verdict v w = v

abbrev pub first_place : List ℕ → ℕ → List ℕ → ℕ → List Variable → Tm → Verdict
first_place f k xs depth bs (Const x T) = Fine
first_place f k xs depth bs (Free x T) = Fine
first_place f k xs depth bs (Unknown x i T) = at_pattern f k xs depth bs x i T []
first_place f k xs depth bs (Bound n) = if allowed xs depth n then Fine else Refused
first_place f k xs depth bs (Abs x T b) = first_place f k xs (depth + 1) (record { name = x; typ = T } ∷ bs) b
first_place f k xs depth bs (App g a) = if is_flexible g then at_unknown f k xs depth bs (head_of g) (args_of g ++ a ∷ []) else first_verdict (first_place f k xs depth bs g) (first_place f k xs depth bs a)

-- 5. Steps

-- terms for unknowns, in normal form
abbrev pub filled : List TermEntry → Tm → Tm
filled s t = norm (inst_tm [] s t)

abbrev pub filled_equation : List TermEntry → Equation → Equation
filled_equation s e = record e { left = filled s e.left; right = filled s e.right }

abbrev pub filled_entry : List TermEntry → TermEntry → TermEntry
filled_entry s e = record e { term = filled s e.term }

-- each solution is substituted in all that is there
abbrev pub filled_state : List TermEntry → State → State
filled_state s st = record st { equations = map (filled_equation s) st.equations; terms = map (filled_entry s) st.terms }

-- types for type unknowns, which leave normal terms normal
abbrev pub retyped : List TypeEntry → Tm → Tm
retyped s t = inst_tm s [] t

abbrev pub retyped_variable : List TypeEntry → Variable → Variable
retyped_variable s v = record v { typ = inst_ty s v.typ }

abbrev pub retyped_equation : List TypeEntry → Equation → Equation
retyped_equation s e = record { binders = map (retyped_variable s) e.binders; left = retyped s e.left; right = retyped s e.right }

abbrev pub retyped_entry : List TypeEntry → TermEntry → TermEntry
retyped_entry s e = record e { term = retyped s e.term }

abbrev pub retyped_state : List TypeEntry → State → State
retyped_state s st = record st { equations = map (retyped_equation s) st.equations; types = entries_under s st.types; terms = map (retyped_entry s) st.terms }

abbrev pub UnifyStep : Type 0
UnifyStep = Step State Answer

abbrev pub becomes : List ℕ → ℕ → Ty → Tm → TermEntry
becomes x i T t = record { name = x; number = i; typ = T; term = t }

-- the unknown becomes t
abbrev pub assigned : State → List ℕ → ℕ → Ty → Tm → State
assigned st x i T t = filled_state (becomes x i T t ∷ []) st

-- the unknown on the variables ys becomes the new unknown of that number over those that it keeps
abbrev pub renewed : State → List Variable → List ℕ → ℕ → Ty → List ℕ → ℕ → List ℕ → State
renewed st bs x i T ys new kept = assigned st x i T (abstracted bs ys (over bs x new kept (range_behind ys T)))

-- the number of a new unknown is taken
abbrev pub after_new : State → State
after_new st = record st { next = st.next + 1; left = st.left - 1 }

-- a step with a new unknown, of which there is a number left
abbrev pub with_new : State → (ℕ → State → UnifyStep) → UnifyStep
with_new st f = if nat_eq st.left 0 then Done Outside else f st.next (after_new st)

abbrev pub with_first : Equation → State → State
with_first e st = record st { equations = e ∷ st.equations }

-- ?F xs against the rigid t: F is solved, or an unknown of t loses variables and the equation comes again
abbrev pub solve_at : State → Equation → List ℕ → ℕ → Ty → List ℕ → Tm → Verdict → UnifyStep
solve_at st e f k S xs t Fine = Solved (assigned st f k S (abstracted e.binders xs t))
solve_at st e f k S xs t Refused = Done No
solve_at st e f k S xs t Strays = Done Outside
solve_at st e f k S xs t (Prunes x i T bs ys kept) = with_new st (λ new st'. Solved (renewed (with_first e st') bs x i T ys new kept))

abbrev pub solve : State → Equation → List ℕ → ℕ → Ty → List ℕ → Tm → UnifyStep
solve st e f k S xs t = solve_at st e f k S xs t (first_place f k xs 0 e.binders t)

-- the variables at the places where both lists agree
abbrev pub agreeing : List ℕ → List ℕ → List ℕ
agreeing (x ∷ xs) (y ∷ ys) = if nat_eq x y then (x ∷ agreeing xs ys) else agreeing xs ys
agreeing _ _ = []

-- ?F xs against ?F ys
abbrev pub solve_same : State → Equation → List ℕ → ℕ → Ty → List ℕ → List ℕ → UnifyStep
solve_same st e f k S xs ys =
    let kept = agreeing xs ys in
    if nat_eq (length kept) (length xs) then Lighter st else
    with_new st (λ new st'. Solved (renewed st' e.binders f k S xs new kept))

-- ?F xs against ?G ys
abbrev pub both_become : State → Equation → List ℕ → ℕ → Ty → List ℕ → List ℕ → ℕ → Ty → List ℕ → Tm → State
both_become st e f k S xs g i T ys h = filled_state (becomes f k S (abstracted e.binders xs h) ∷ becomes g i T (abstracted e.binders ys h) ∷ []) st

abbrev pub solve_two : State → Equation → List ℕ → ℕ → Ty → List ℕ → List ℕ → ℕ → Ty → List ℕ → UnifyStep
solve_two st e f k S xs g i T ys = with_new st (λ new st'. Solved (both_become st' e f k S xs g i T ys (over e.binders f new (filter (has_number ys) xs) (range_behind xs S))))

abbrev pub solve_unknowns : State → Equation → List ℕ → ℕ → Ty → List ℕ → List ℕ → ℕ → Ty → List ℕ → UnifyStep
solve_unknowns st e f k S xs g i T ys = if name_eq f g && nat_eq k i then solve_same st e f k S xs ys else solve_two st e f k S xs g i T ys

-- each flexible side is an unknown on distinct bound variables, else the answer is Outside
abbrev pub on_pattern : Option (List ℕ) → (List ℕ → UnifyStep) → UnifyStep
on_pattern None f = Done Outside
on_pattern (Some xs) f = f xs

-- an equation with a flexible side, by the heads
abbrev pub flexible_step : State → Equation → Tm → Tm → UnifyStep
flexible_step st e (Unknown f k S) (Unknown g i T) = on_pattern (distinct_bounds (args_of e.left)) (λ xs. on_pattern (distinct_bounds (args_of e.right)) (λ ys. solve_unknowns st e f k S xs g i T ys))
flexible_step st e (Unknown f k S) h = on_pattern (distinct_bounds (args_of e.left)) (λ xs. solve st e f k S xs e.right)
flexible_step st e h (Unknown g i T) = on_pattern (distinct_bounds (args_of e.right)) (λ ys. solve st e g i T ys e.left)
flexible_step st e g h = Done No

abbrev pub after_types : State → Option (List TypeEntry) → UnifyStep
after_types st None = Done No
after_types st (Some s) = Lighter (retyped_state s st)

-- the equation e before those of st
abbrev pub front_step : State → Equation → Parts → UnifyStep
front_step st e Flexible = flexible_step st e (head_of e.left) (head_of e.right)
front_step st e Clash = Done No
front_step st e (Into parts) = Lighter (record st { equations = parts ++ st.equations })
front_step st e (Heads S T parts) = after_types (record st { equations = parts ++ st.equations }) (unify_typs ((S, T) ∷ []))

-- the first equation is taken, until none is left
unfoldable pub unify_step : State → UnifyStep
unfolding parts_at unify_typs
unify_step st = elim st.equations [
  | [] ↦ Done (Yes st.types st.terms st.next)
  | e ∷ es ↦ front_step (record st { equations = es }) e (parts_at e.binders e.left e.right)
]

-- 6. The answer

-- how many places of a term are unknowns
abbrev pub unknowns_of : Tm → ℕ
unknowns_of (Const x T) = 0
unknowns_of (Free x T) = 0
unknowns_of (Unknown x i T) = 1
unknowns_of (Bound n) = 0
unknowns_of (Abs x T b) = unknowns_of b
unknowns_of (App f a) = unknowns_of f + unknowns_of a

abbrev pub all_unknowns_of : List Equation → ℕ
all_unknowns_of [] = 0
all_unknowns_of (e ∷ es) = unknowns_of e.left + unknowns_of e.right + all_unknowns_of es

-- The end of the steps. Each step that solves takes one from the unknowns together with the new ones that may still come.
unfoldable pub unified : State → Answer
unfolding unify_step descend
unified st = descend unify_step (λ s. weight s.equations) Outside (suc (all_unknowns_of st.equations + st.left)) st

-- what has a type on both sides
abbrev pub types_of : Result Ty TypeFault → Result Ty TypeFault → List (Ty × Ty) → List (Ty × Ty)
types_of (Ok S) (Ok T) rest = (S, T) ∷ rest
types_of _ _ rest = rest

abbrev pub types_in : List Variable → List Ty
types_in bs = map (λ (v : Variable). v.typ) bs

abbrev pub all_types : List Equation → List (Ty × Ty)
all_types [] = []
all_types (e ∷ es) = types_of (type_at (types_in e.binders) e.left) (type_at (types_in e.binders) e.right) (all_types es)

-- the type unknowns, each once, by first occurrence, behind others
abbrev mutual
  pub with_type_unknowns : List TypeEntry → Ty → List TypeEntry
  with_type_unknowns es (TyCon c Ts) = with_all_type_unknowns es Ts
  with_type_unknowns es (TyFixed x) = es
  with_type_unknowns es (TyUnknown x i) = if is_some (find_type x i es) then es else (es ++ record { name = x; number = i; typ = TyUnknown x i } ∷ [])

  pub with_all_type_unknowns : List TypeEntry → Tys → List TypeEntry
  with_all_type_unknowns es NoTys = es
  with_all_type_unknowns es (MoreTys T Ts) = with_all_type_unknowns (with_type_unknowns es T) Ts

abbrev pub with_types : List TypeEntry → Tm → List TypeEntry
with_types es (Const x T) = with_type_unknowns es T
with_types es (Free x T) = with_type_unknowns es T
with_types es (Unknown x i T) = with_type_unknowns es T
with_types es (Bound n) = es
with_types es (Abs x T b) = with_types (with_type_unknowns es T) b
with_types es (App f a) = with_types (with_types es f) a

-- the unknowns, likewise
abbrev pub with_unknowns : List TermEntry → Tm → List TermEntry
with_unknowns es (Const x T) = es
with_unknowns es (Free x T) = es
with_unknowns es (Unknown x i T) = if is_some (find_term x i T es) then es else (es ++ becomes x i T (Unknown x i T) ∷ [])
with_unknowns es (Bound n) = es
with_unknowns es (Abs x T b) = with_unknowns es b
with_unknowns es (App f a) = with_unknowns (with_unknowns es f) a

abbrev pub asked_types : List TypeEntry → List Equation → List TypeEntry
asked_types ts [] = ts
asked_types ts (e ∷ es) = asked_types (with_types (with_types ts e.left) e.right) es

abbrev pub asked_terms : List TermEntry → List Equation → List TermEntry
asked_terms ts [] = ts
asked_terms ts (e ∷ es) = asked_terms (with_unknowns (with_unknowns ts e.left) e.right) es

-- at most so many new unknowns
abbrev pub new_unknowns : ℕ
new_unknowns = 1000000

-- each type unknown and each unknown of the equations as itself
abbrev pub start : List Equation → ℕ → State
start es k = record { equations = es; types = asked_types [] es; terms = asked_terms [] es; next = k; left = new_unknowns }

-- what the equations become if none clashes
abbrev pub unless_clash : State → Answer
unless_clash st = if clashes st.equations then No else unified st

abbrev pub answer_at : List Equation → ℕ → Option (List TypeEntry) → Answer
answer_at es k None = No
answer_at es k (Some s) = unless_clash (retyped_state s (start es k))

-- The types, then the clashes, then the equations from the front. New unknowns are numbered from k.
unfoldable pub unify : List Equation → ℕ → Answer
unfolding unify_typs clashes unified
unify es k = answer_at es k (unify_typs (all_types es))
