-- What a rewriter works with.
-- Source: simpsets of Isabelle's Simplifier (the Isabelle/Isar Reference Manual, "The Simplifier").
use Rattle.std.specs.Prelude.{ℕ, List, [], ◌∷◌, ◌++◌, Bool, ◌&&◌, Option, if◌then◌else◌}
use Rattle.isa_terms.specs.Terms.{Tm}
use Rattle.isa_kernel.specs.Theorem.{Theorem}
use Rattle.isa_kernel.specs.declared.logic.Logic.{Logic}
use Rattle.isa_unify.specs.Matching.{is_pattern_from}
use Rattle.isa_unify.specs.Constants.{constants_of}
use Rattle.isa_simprules.specs.RulesOf.{rules_of}
use Rattle.isa_simprules.specs.Rules.{Rule, rules_in}
use Rattle.isa_simprules.specs.Congruences.{Cong}
use Rattle.isa_rewrite.specs.Unknowns.{are_known}

-- what is in force at a place: the premises, how many parameters and opened binders there are, and how deep it stands in conditions
pub record Place : Type 0 where
  pub premises : List Tm
  pub level : ℕ
  pub depth : ℕ

-- a simplification procedure: what it makes of a term at a place, if it applies
abbrev pub Procedure : Type 0
Procedure = Place → Tm → Option Tm

pub record Simpset : Type 0 where
  -- the roles in force
  pub logic : Logic
  -- in declared order
  pub procs : List Procedure
  -- by rank
  pub rules : List Rule
  -- the latest first
  pub congs : List Cong
  -- the conclusions of `close` facts
  pub close : List Tm
  pub limit : ℕ

-- the premise as a theorem, under itself
abbrev pub supposed : Tm → Theorem
supposed p = record { hyps = p ∷ []; prop = p; base = [] }

-- whether the left side is a pattern, and the unknowns of the right side are on the left side or in the conditions; the unknowns of the premise count as constants
abbrev pub may_serve : Tm → Rule → Bool
may_serve p r = is_pattern_from (constants_of (p ∷ [])) r.left && are_known (p ∷ r.left ∷ r.conditions) r.right

abbrev pub serving : Tm → List Rule → List Rule
serving p [] = []
serving p (r ∷ rs) = if may_serve p r then (r ∷ serving p rs) else serving p rs

-- the rules of the premises, in their order
abbrev pub rules_of_premises : Logic → List Tm → List Rule
rules_of_premises logic [] = []
rules_of_premises logic (p ∷ ps) = serving p (rules_in (rules_of logic (supposed p))) ++ rules_of_premises logic ps
