-- Simpsets: what each call adds or takes out, and why it refuses. A simpset is seen as its lists, each in the order in which it is tried.
-- Source: simpsets of Isabelle's Simplifier (the Isabelle/Isar Reference Manual, "The Simplifier", "Simplifier declarations", "Simplification procedures", "Configurable Simplifier strategies").
use Rattle.std.specs.Prelude.{◌≡◌, List, [], ◌∷◌, ◌++◌, Option, Some, None, Result, Ok, Err, if◌then◌else◌}
use Rattle.isa_kernel.specs.Theorem.{Theorem}
use Rattle.isa_kernel.specs.declared.logic.Logic.{Logic}
use Rattle.isa_simprules.specs.RulesOf.{rules_of}
use Rattle.isa_simprules.specs.Rules.{Rule, rules_in}
use Rattle.isa_simprules.specs.Congruences.{Cong, cong_of}
use Rattle.isa_simpset.specs.Lists.{is_stated, is_stated_by, is_fact_of, with_rules, without_rule, without_rules, without_cong, has_some, with_found, with_last, with_proc_of}
use Rattle.isa_simpset.specs.Refusals.{rules_refusal, split_of, split_refusal, proc_of, proc_refusal}
use Rattle.isa_simpset.specs.declared.fail.SimpFail.{SimpFail}
use Rattle.isa_simpset.specs.declared.fail.SimpFail.TheVariants.{NotEquation, NotThere, Memory}
use Rattle.isa_simpset.specs.declared.procs.Proc.{Proc}
use Rattle.isa_simpset.specs.declared.simpset.Simpset.{Simpset}

-- the simpset of a logic without rules
abbrev pub no_rules : Logic → Simpset
no_rules logic = record { logic = logic; rules = []; congs = []; splits = []; procs = []; solvers = []; loopers = [] }

abbrev pub with_logic : Logic → Simpset → Simpset
with_logic logic s = record s { logic = logic }

abbrev pub cleared : Simpset → Simpset
cleared s = record s { rules = []; congs = []; splits = [] }

-- what a call makes of a simpset, or why it refuses
abbrev pub Change : Type 0
Change = Result Simpset SimpFail

abbrev pub unless : Option SimpFail → Simpset → Change
unless None s = Ok s
unless (Some fail) s = Err fail

abbrev pub rules_for : Simpset → Theorem → List Rule
rules_for s fact = rules_in (rules_of s.logic fact)

abbrev pub added : Simpset → Theorem → Change
added s fact = unless (rules_refusal (rules_for s fact)) (record s { rules = with_rules s.rules (rules_for s fact) })

abbrev pub deleted : Simpset → Theorem → Change
deleted s fact = if has_some s.rules (rules_for s fact) then Ok (record s { rules = without_rules s.rules (rules_for s fact) }) else Err NotThere

abbrev pub with_cong : Simpset → Cong → Simpset
with_cong s c = if is_stated_by s.congs c.thm.prop then s else record s { congs = c ∷ s.congs }

abbrev pub cong_added : Simpset → Theorem → Change
cong_added s fact = elim (cong_of fact) [ None ↦ Err NotEquation | Some c ↦ Ok (with_cong s c) ]

abbrev pub cong_deleted : Simpset → Theorem → Change
cong_deleted s fact = if is_stated_by s.congs fact.prop then Ok (record s { congs = without_cong fact.prop s.congs }) else Err NotThere

abbrev pub split_added : Simpset → Theorem → Change
split_added s fact = unless (split_refusal (split_of s.logic fact)) (record s { splits = with_found s.splits (split_of s.logic fact) })

abbrev pub split_deleted : Simpset → Theorem → Change
split_deleted s fact = elim (split_of s.logic fact) [ None ↦ Err NotThere | Some r ↦ if is_stated s.splits r.thm.prop then Ok (record s { splits = without_rule r.thm.prop s.splits }) else Err NotThere ]

abbrev pub looper_added : Simpset → Theorem → Change
looper_added s fact = unless (split_refusal (split_of s.logic fact)) (record s { loopers = with_last s.loopers (split_of s.logic fact) })

abbrev pub proc_added : Proc → Simpset → Theorem → Change
proc_added k s fact = unless (proc_refusal (proc_of k s.logic fact)) (record s { procs = with_proc_of k s.procs (proc_of k s.logic fact) })

abbrev pub with_solver : Simpset → Theorem → Simpset
with_solver s fact = if is_fact_of s.solvers fact.prop then s else record s { solvers = s.solvers ++ fact ∷ [] }

-- the refusal is the wanted one; want of memory alone is free
abbrev pub Refuses : SimpFail → Change → Type 0
Refuses Memory wanted = Unit {0}
Refuses fail wanted = wanted ≡ Err fail

-- The call made that change, or refused as it says; a refusal, and want of memory, leave the simpset as it was.
abbrev pub Answers : Result (Unit {0}) SimpFail → Simpset → Change → Simpset → Type 0
Answers (Ok done) old wanted new = wanted ≡ Ok new
Answers (Err fail) old wanted new = (new ≡ old) × Refuses fail wanted
