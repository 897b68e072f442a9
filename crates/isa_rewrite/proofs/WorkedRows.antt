-- The worked rows hold.
use Rattle.std.proofs.Common.{◌≡◌, refl}
use Rattle.std.specs.Fmt.{digits}
use Rattle.isa_simprules.specs.RulesOf.{branches, rules_of}
use Rattle.isa_rewrite.specs.Simplification.{walk, attempts, simp}
use Rattle.isa_rewrite.specs.ProcedureRows.{ProcedureRows}
use Rattle.isa_rewrite.specs.Rows.{Chain, ChainBeyond, Binder, Limit, Open, Congruence, Closed, ByPremise, Ordered, Binders, Rows}

chain : Chain
unfolding walk attempts simp branches rules_of
chain = refl

beyond : ChainBeyond
unfolding walk attempts simp branches rules_of
beyond = refl

binder : Binder
unfolding walk attempts simp branches rules_of
binder = refl

limit : Limit
unfolding walk attempts simp branches rules_of
limit = refl

open_condition : Open
unfolding walk attempts simp branches rules_of
open_condition = refl

congruence : Congruence
unfolding walk attempts simp branches rules_of
congruence = refl

closed : Closed
unfolding walk attempts simp branches rules_of
closed = refl

by_premise : ByPremise
unfolding walk attempts simp branches rules_of
by_premise = refl

ordered : Ordered
unfolding walk attempts simp branches rules_of
ordered = refl

binders : Binders
unfolding walk attempts simp branches rules_of digits
binders = refl

pub rows : Rows
rows = record { chain = chain; beyond = beyond; binder = binder; limit = limit; open_condition = open_condition; congruence = congruence; closed = closed; by_premise = by_premise; ordered = ordered; binders = binders }

pub procedure_rows : ProcedureRows
unfolding digits
procedure_rows = record { front = refl; swapped = refl; left = refl; assoc = refl; first = refl; none = refl; no_role = refl; no_fact = refl; inequality = refl; no_premise = refl }
