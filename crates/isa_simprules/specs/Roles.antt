-- What a fact of the logic makes of a theorem whose conclusion its first premise matches.
-- Source: resolution with a rule for the object logic, as in the Simplifier's preparation of rewrite rules (the Isabelle/Isar Reference Manual, "The Simplifier", "Simplifier declarations"; `Simplifier.set_mksimps`).
use Rattle.std.specs.Prelude.{ℕ, List, [], ◌∷◌, ◌++◌, option_to_list, Option, Some, None, is_some, if◌then◌else◌}
use Rattle.isa_terms.specs.Types.{Ty, TyUnknown}
use Rattle.isa_terms.specs.Terms.{Tm, Unknown}
use Rattle.isa_terms.specs.Norm.{norm}
use Rattle.isa_terms.specs.Instance.{Instance, find_type, find_term, inst_ty, set_type, set_term}
use Rattle.isa_terms.specs.Unknowns.{unknowns_of, type_unknowns_of}
use Rattle.isa_terms.specs.declared.inst.TypeEntry.{TypeEntry}
use Rattle.isa_terms.specs.declared.inst.TermEntry.{TermEntry}
use Rattle.isa_kernel.specs.Forms.{◌>>=◌, imp_parts}
use Rattle.isa_kernel.specs.Theorem.{Theorem}
use Rattle.isa_kernel.specs.Inferences.{instantiated}
use Rattle.isa_subgoal.specs.Premises.{premises, conclusion}
use Rattle.isa_subgoal.specs.Rules.{cut}
use Rattle.isa_unify.specs.Matching.{match_of}
use Rattle.isa_simprules.specs.Numbers.{least_number, least_type_number}

-- the types for type unknowns, and for each of the others named a type unknown of its name with the least number that is not taken, which then is taken
abbrev pub types_apart : List Ty → List Ty → List TypeEntry → List TypeEntry
types_apart taken [] es = es
types_apart taken (TyUnknown x i ∷ Us) es =
    if is_some (find_type x i es) then types_apart taken Us es
    else types_apart (taken ++ TyUnknown x (least_type_number taken x) ∷ []) Us (set_type (record { name = x; number = i; typ = TyUnknown x (least_type_number taken x) }) es)
types_apart taken (U ∷ Us) es = types_apart taken Us es

-- the terms for unknowns, and for each of the others named an unknown, likewise, of its type under those types
abbrev pub terms_apart : List Tm → List TypeEntry → List Tm → List TermEntry → List TermEntry
terms_apart taken es [] fs = fs
terms_apart taken es (Unknown x i T ∷ us) fs =
    if is_some (find_term x i T fs) then terms_apart taken es us fs
    else terms_apart (taken ++ Unknown x (least_number taken x) (inst_ty es T) ∷ []) es us
    (set_term (record { name = x; number = i; typ = T; term = Unknown x (least_number taken x) (inst_ty es T) }) fs)
terms_apart taken es (u ∷ us) fs = terms_apart taken es us fs

-- the instance, and for each unknown and type unknown of p that it leaves open one that the known terms don't have
abbrev pub apart : List Tm → Tm → Instance → Instance
apart known p s = record {
  types = types_apart (type_unknowns_of known) (type_unknowns_of (p ∷ [])) s.types;
  terms = terms_apart (unknowns_of known) (types_apart (type_unknowns_of known) (type_unknowns_of (p ∷ [])) s.types) (unknowns_of (p ∷ [])) s.terms;
}

-- the theorem with its proposition in normal form
abbrev pub normal : Theorem → Theorem
normal th = record { hyps = th.hyps; prop = norm th.prop; base = th.base }

-- of a theorem `As ==> B` and a fact `B1 ==> Bs ==> C` whose premise B1 matches B: `As ==> Bs ==> C` at that instance of Bs and C
abbrev pub by_match : Theorem → Theorem → Option Theorem
by_match fact th = do
  parts ← imp_parts fact.prop
  s ← match_of parts.0 (conclusion th.prop)
  made ← instantiated (apart (th.prop ∷ th.hyps) fact.prop s) fact
  cut [] (premises th.prop) made th

-- a theorem with hypotheses is no fact of a logic
abbrev pub by_fact : Theorem → Theorem → Option Theorem
by_fact fact th = elim fact.hyps [ [] ↦ by_match fact th | h ∷ hs ↦ None ]

-- what those of the facts make of the theorem whose first premise matches, in their order
abbrev pub by_facts : List Theorem → Theorem → List Theorem
by_facts [] th = []
by_facts (fact ∷ facts) th = option_to_list (by_fact fact th) ++ by_facts facts th
