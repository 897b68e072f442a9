-- Simplification.
-- Source: the Simplifier of Isabelle (the Isabelle/Isar Reference Manual, "The Simplifier"); the order of its steps is this project's.
use Rattle.std.specs.Prelude.{◌≡◌, ℕ, zero, suc, ◌+◌, nat_eq, nat_lt, List, [], ◌∷◌, ◌++◌, length, map, Bool, true, false, ◌&&◌, ◌||◌, not, Option, Some, None, if◌then◌else◌, is_some}
use Rattle.std.specs.declared.cmp.Ordering.{Ordering}
use Rattle.std.specs.declared.cmp.Ordering.TheVariants.{Less, Equal, Greater}
use Rattle.isa_terms.specs.Types.{Ty}
use Rattle.isa_terms.specs.Terms.{Tm, Const, Free, Unknown, Bound, Abs, App}
use Rattle.isa_terms.specs.Equal.{tm_eq}
use Rattle.isa_terms.specs.Sets.{has}
use Rattle.isa_terms.specs.Order.{tm_cmp}
use Rattle.isa_terms.specs.Instance.{Instance, instance_of, set_term, inst_tm, inst_ty}
use Rattle.isa_terms.specs.Norm.{norm}
use Rattle.isa_terms.specs.declared.inst.TermEntry.{TermEntry}
use Rattle.isa_unify.specs.Matching.{match_of, match_from, is_pattern_from}
use Rattle.isa_unify.specs.Constants.{constants_of}
use Rattle.isa_subgoal.specs.declared.lift.Parameter.{Parameter}
use Rattle.isa_simprules.specs.Rules.{Rule}
use Rattle.isa_simprules.specs.Congruences.{Premise, Cong}
use Rattle.isa_rewrite.specs.Ticking.{Spent, Past, Gives, Ticking, now, then_do, tick, choose, or_else}
use Rattle.isa_rewrite.specs.Simpsets.{Simpset, Place, Procedure, rules_of_premises}
use Rattle.isa_rewrite.specs.Opening.{opened, closed, opened_all, closed_all, named_as}
use Rattle.isa_rewrite.specs.Unknowns.{apart, has_nothing_open, fixes}
use Rattle.isa_rewrite.specs.Weight.{weight}

abbrev pub Simplifier : Type 0
Simplifier = Place → Tm → Ticking Tm

-- Conditions.

-- one instance after the other, the first first
abbrev pub after : List Instance → Tm → Tm
after [] t = t
after (s ∷ ss) t = after ss (instance_of s t)

abbrev pub deeper : Place → Place
deeper p = record p { depth = p.depth + 1 }

-- whether one of the patterns matches t
abbrev pub some_match : List Tm → Tm → Bool
some_match [] t = false
some_match (c ∷ cs) t = is_some (match_of c t) || some_match cs t

-- whether the result of a condition holds
abbrev pub holds : Simpset → Place → Tm → Bool
holds ss p t = has p.premises t || some_match ss.close t

-- for each premise that the open condition matches, in order: a tick, and then the rest at what its unknowns are
abbrev pub at_premises : (Tm → Option Instance) → (Instance → Ticking (Option (List Instance))) → List Tm → Ticking (Option (List Instance))
at_premises match rest [] = now None
at_premises match rest (q ∷ qs) = elim (match q) [ None ↦ at_premises match rest qs | Some r ↦ tick (or_else (rest r) (at_premises match rest qs)) ]

-- Whether the conditions hold, s being the instances so far: None, or the instances that they hold at. The unknowns of the known terms count as constants, all others are open.
abbrev pub conds : Simpset → Simplifier → Place → List Tm → List Tm → List Instance → Ticking (Option (List Instance))
conds ss simp p known [] s = now (Some s)
conds ss simp p known (c ∷ cs) s =
    if nat_eq p.depth ss.limit then now None
    else if has_nothing_open known (after s c)
    then then_do (simp (deeper p) (after s c)) (λ r. if holds ss p r then conds ss simp p known cs s else now None)
    else if is_pattern_from (constants_of known) (after s c)
    then at_premises (λ q. match_from (constants_of known) (after s c) q) (λ r. conds ss simp p known cs (s ++ r ∷ [])) p.premises
    else now None

-- The attempt at a root.

abbrev pub is_less : Ordering → Bool
is_less Less = true
is_less Equal = false
is_less Greater = false

-- whether the sides of a rule's instance differ, the right one being smaller if the rule is permutative
abbrev pub improves : Rule → Tm → Tm → Bool
improves rule t u = not (tm_eq t u) && (not rule.permutes || is_less (tm_cmp u t))

-- u, where it improves t
abbrev pub if_improving : Rule → Tm → Tm → Option Tm
if_improving rule t u = if improves rule t u then Some u else None

-- what a rule whose left side matches by s makes of t; the tests come before the conditions where nothing is open in the right side
abbrev pub by_instance : Simpset → Simplifier → Place → Tm → Rule → Instance → Ticking (Option Tm)
by_instance ss simp p t rule s =
    let known = t ∷ p.premises in
    let r = apart known (rule.left ∷ rule.conditions ++ rule.right ∷ []) s in
    if fixes s rule.right && not (improves rule t (instance_of r rule.right)) then now None
    else then_do (conds ss simp p known rule.conditions (r ∷ [])) (λ o. elim o [ None ↦ now None | Some is ↦ now (if_improving rule t (after is rule.right)) ])

-- the match of a rule's left side with t; unknowns in the hypotheses of its theorem count as constants
abbrev pub left_match : Rule → Tm → Option Instance
left_match rule t = match_from (constants_of rule.thm.hyps) rule.left t

-- what a rule makes of t
abbrev pub by_rule : Simpset → Simplifier → Place → Tm → Rule → Ticking (Option Tm)
by_rule ss simp p t rule = elim (left_match rule t) [ None ↦ now None | Some s ↦ by_instance ss simp p t rule s ]

-- what the first rule that applies makes of t
abbrev pub by_rules : Simpset → Simplifier → Place → Tm → List Rule → Ticking (Option Tm)
by_rules ss simp p t [] = now None
by_rules ss simp p t (rule ∷ rules) = or_else (by_rule ss simp p t rule) (by_rules ss simp p t rules)

-- what the first simplification procedure that applies makes of t
abbrev pub by_procs : List Procedure → Place → Tm → Option Tm
by_procs [] p t = None
by_procs (proc ∷ procs) p t = elim (proc p t) [ None ↦ by_procs procs p t | Some u ↦ Some u ]

-- the rules of the premises, then those of the simpset
abbrev pub candidates : Simpset → Place → List Rule
candidates ss p = rules_of_premises ss.logic p.premises ++ ss.rules

-- what the first of the procedures and the rules makes of t
abbrev pub by_candidates : Simpset → Simplifier → Place → Tm → Ticking (Option Tm)
by_candidates ss simp p t = choose (by_procs ss.procs p t) (by_rules ss simp p t (candidates ss p))

-- Congruence rules.

-- a congruence rule with the instance of its left side
pub record Found : Type 0 where
  pub cong : Cong
  pub instance : Instance

-- the premise's variables at an instance
abbrev pub variables_at : Instance → Premise → List Parameter
variables_at s a = map {A = Parameter} {B = Parameter} (λ v. record v { typ = inst_ty s.types v.typ }) a.variables

-- the term under the premise's variables at an instance, opened
abbrev pub opened_at : Place → Instance → Premise → Tm → Tm
opened_at p s a t = norm (opened_all p.level (variables_at s a) (inst_tm s.types s.terms t))

-- the added premises that the instance fixes
abbrev pub added_at : Place → Instance → Premise → List Tm → List Tm
added_at p s a [] = []
added_at p s a (h ∷ hs) = if fixes s h then (opened_at p s a h ∷ added_at p s a hs) else added_at p s a hs

abbrev pub inside : Place → Instance → Premise → Place
inside p s a = record p { premises = p.premises ++ added_at p s a a.added; level = p.level + length a.variables }

-- the entry for an unknown
abbrev pub set_unknown : Tm → Tm → List TermEntry → List TermEntry
set_unknown (Unknown x i T) t fs = set_term (record { name = x; number = i; typ = T; term = t }) fs
set_unknown u t fs = fs

-- s with the result of a premise
abbrev pub with_result : Place → Instance → Premise → Tm → Instance
with_result p s a r =
    let zs = named_as (instance_of s a.argument) (variables_at s a) in
    record s { terms = set_unknown a.result (closed_all p.level zs r) s.terms }

-- the premises of a congruence rule whose left side matches by m, in order, each giving the term for its right side's unknown; s has these besides
abbrev pub by_premises : Simplifier → Place → Instance → List Premise → Instance → Ticking Instance
by_premises simp p m [] s = now s
by_premises simp p m (a ∷ rest) s = then_do (simp (inside p s a) (opened_at p m a a.left)) (λ r. by_premises simp p m rest (with_result p s a r))

-- whether the premises' left sides are lighter than t: for well-typed terms and rules they are
abbrev pub all_lighter : Place → Tm → Instance → List Premise → Bool
all_lighter p t s [] = true
all_lighter p t s (a ∷ rest) = nat_lt (weight (opened_at p s a a.left)) (weight t) && all_lighter p t s rest

-- the latest congruence rule whose left side matches
abbrev pub cong_at : Place → Tm → List Cong → Option Found
cong_at p t [] = None
cong_at p t (c ∷ cs) = elim (match_of c.left t) [
  | None ↦ cong_at p t cs
  | Some s ↦ if all_lighter p t s c.premises then Some (record { cong = c; instance = s }) else cong_at p t cs
]

-- The four steps.

abbrev pub under : Place → Place
under p = record p { level = p.level + 1 }

-- the parts of t, which is no abstraction: by a congruence rule, or function and then argument
abbrev pub by_parts : Simplifier → Place → Tm → Option Found → Ticking Tm
by_parts simp p t (Some found) = then_do (by_premises simp p found.instance found.cong.premises found.instance) (λ s. now (instance_of s found.cong.right))
by_parts simp p (App f a) None = then_do (simp p f) (λ g. then_do (simp p a) (λ b. now (norm (App g b))))
by_parts simp p t None = now t

-- t by its parts, and then what is done at its root; the number bounds its weight
unfoldable pub walk : Simpset → Simplifier → ℕ → Simplifier
walk ss root zero p t = λ n. Past
walk ss root (suc h) p (Abs x T b) = then_do (walk ss root h (under p) (opened p.level T b)) (λ c. now (closed p.level x T c))
walk ss root (suc h) p t = then_do (by_parts (walk ss root h) p t (cong_at p t ss.congs)) (root p)

-- what a used rule's right side is simplified to, or else t
abbrev pub go_on_with : (Tm → Ticking Tm) → Tm → Option Tm → Ticking Tm
go_on_with again t (Some u) = again u
go_on_with again t None = now t

abbrev pub at_root : Simpset → Simplifier → Simplifier
at_root ss again p t = tick (then_do (by_candidates ss again p t) (go_on_with (again p) t))

-- the attempts at the root, for at most so many ticks in all
unfoldable pub attempts : Simpset → ℕ → Simplifier
unfolding walk
attempts ss zero p t = λ n. Past
attempts ss (suc m) p t = at_root ss (λ q u. walk ss (attempts ss m) (suc (weight u)) q u) p t

unfoldable pub root : Simpset → Simplifier
root ss p t n = attempts ss n p t n

-- t simplified
unfoldable pub simp : Simpset → Simplifier
simp ss p t n = walk ss (attempts ss n) (suc (weight t)) p t n

-- t gives u after n ticks
abbrev pub Simp : Simpset → Place → Tm → Tm → ℕ → Type 0
Simp ss p t u n = simp ss p t n ≡ Gives u 0

-- more than n ticks come
abbrev pub Beyond : Simpset → Place → Tm → ℕ → Type 0
Beyond ss p t n = simp ss p t n ≡ Past
