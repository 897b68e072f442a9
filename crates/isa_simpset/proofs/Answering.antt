-- What the calls of a simpset answer, by their tests.
use Rattle.std.proofs.Common.{◌≡◌, ℕ, List, [], ◌∷◌, ◌++◌, Bool, true, false, cond, Option, Some, None, Result, Ok, Err, length, refl, sym, ap, ◌∙◌, ◌≢◌, arith}
use Rattle.isa_terms.specs.Terms.{Tm}
use Rattle.isa_kernel.specs.Theorem.{Theorem}
use Rattle.isa_simprules.specs.RulesOf.{rules_of}
use Rattle.isa_simprules.specs.Rules.{Rule, rules_in}
use Rattle.isa_simprules.specs.Congruences.{Cong, cong_of}
use Rattle.isa_simpset.specs.Lists.{is_stated, is_stated_by, is_fact_of, with_rules, without_rule, without_rules, without_cong, has_some, with_found, with_last, with_proc_of}
use Rattle.isa_simpset.specs.Refusals.{rules_refusal, only_rule, split_of, split_refusal, proc_of, proc_refusal}
use Rattle.isa_simpset.specs.Simpsets.{Change, unless, with_cong, added, deleted, cong_added, cong_deleted, split_added, split_deleted, looper_added, proc_added, with_solver, Refuses}
use Rattle.isa_simpset.specs.declared.fail.SimpFail.{SimpFail}
use Rattle.isa_simpset.specs.declared.fail.SimpFail.TheVariants.{NotEquation, NotPattern, ExtraVar, NotSplit, NotThere, Memory}
use Rattle.isa_simpset.specs.declared.procs.Proc.{Proc}
use Rattle.isa_simpset.specs.declared.simpset.Simpset.{Simpset}

pub only_one : (r : Rule) (rs : List Rule) → length rs ≡ 0 → only_rule (r ∷ rs) ≡ Some r
only_one r [] e = refl
only_one r (q ∷ qs) e = absurd (omega (arith, e))

pub only_more : (r : Rule) (rs : List Rule) → length rs ≢ 0 → only_rule (r ∷ rs) ≡ None
only_more r [] n = absurd (n refl)
only_more r (q ∷ qs) n = refl

-- a refusal that is the wanted one
pub refused : (f : SimpFail) (wanted : Change) → wanted ≡ Err f → Refuses f wanted
refused NotEquation wanted e = e
refused NotPattern wanted e = e
refused (ExtraVar x) wanted e = e
refused NotSplit wanted e = e
refused NotThere wanted e = e
refused Memory wanted e = tt

pub added_refused : (s : Simpset) (fact : Theorem) (f : SimpFail) → rules_refusal (rules_in (rules_of s.logic fact)) ≡ Some f → added s fact ≡ Err f
added_refused s fact f e = ap (λ o. unless o (record s { rules = with_rules s.rules (rules_in (rules_of s.logic fact)) })) e

pub added_ok : (s : Simpset) (fact : Theorem) → rules_refusal (rules_in (rules_of s.logic fact)) ≡ None → added s fact ≡ Ok (record s { rules = with_rules s.rules (rules_in (rules_of s.logic fact)) })
added_ok s fact e = ap (λ o. unless o (record s { rules = with_rules s.rules (rules_in (rules_of s.logic fact)) })) e

pub deleted_refused : (s : Simpset) (fact : Theorem) → has_some s.rules (rules_in (rules_of s.logic fact)) ≡ false → deleted s fact ≡ Err NotThere
deleted_refused s fact e = ap (λ b. cond b (Ok (record s { rules = without_rules s.rules (rules_in (rules_of s.logic fact)) })) (Err NotThere)) e

pub deleted_ok : (s : Simpset) (fact : Theorem) → has_some s.rules (rules_in (rules_of s.logic fact)) ≡ true → deleted s fact ≡ Ok (record s { rules = without_rules s.rules (rules_in (rules_of s.logic fact)) })
deleted_ok s fact e = ap (λ b. cond b (Ok (record s { rules = without_rules s.rules (rules_in (rules_of s.logic fact)) })) (Err NotThere)) e

abbrev cong_change : Simpset → Option Cong → Change
cong_change s o = elim o [ None ↦ Err NotEquation | Some c ↦ Ok (with_cong s c) ]

pub cong_refused : (s : Simpset) (fact : Theorem) → cong_of fact ≡ None → cong_added s fact ≡ Err NotEquation
cong_refused s fact e = ap (cong_change s) e

pub cong_there : (s : Simpset) (fact : Theorem) (c : Cong) → cong_of fact ≡ Some c → is_stated_by s.congs c.thm.prop ≡ true → cong_added s fact ≡ Ok s
cong_there s fact c e d = ap (cong_change s) e ∙ ap (λ b. Ok (cond b s (record s { congs = c ∷ s.congs }))) d

pub cong_ok : (s : Simpset) (fact : Theorem) (c : Cong) → cong_of fact ≡ Some c → is_stated_by s.congs c.thm.prop ≡ false → cong_added s fact ≡ Ok (record s { congs = c ∷ s.congs })
cong_ok s fact c e d = ap (cong_change s) e ∙ ap (λ b. Ok (cond b s (record s { congs = c ∷ s.congs }))) d

pub cong_not_there : (s : Simpset) (fact : Theorem) → is_stated_by s.congs fact.prop ≡ false → cong_deleted s fact ≡ Err NotThere
cong_not_there s fact e = ap (λ b. cond b (Ok (record s { congs = without_cong fact.prop s.congs })) (Err NotThere)) e

pub cong_deleted_ok : (s : Simpset) (fact : Theorem) → is_stated_by s.congs fact.prop ≡ true → cong_deleted s fact ≡ Ok (record s { congs = without_cong fact.prop s.congs })
cong_deleted_ok s fact e = ap (λ b. cond b (Ok (record s { congs = without_cong fact.prop s.congs })) (Err NotThere)) e

pub split_refused : (s : Simpset) (fact : Theorem) (f : SimpFail) → split_refusal (split_of s.logic fact) ≡ Some f → split_added s fact ≡ Err f
split_refused s fact f e = ap (λ o. unless o (record s { splits = with_found s.splits (split_of s.logic fact) })) e

pub split_ok : (s : Simpset) (fact : Theorem) → split_refusal (split_of s.logic fact) ≡ None → split_added s fact ≡ Ok (record s { splits = with_found s.splits (split_of s.logic fact) })
split_ok s fact e = ap (λ o. unless o (record s { splits = with_found s.splits (split_of s.logic fact) })) e

abbrev split_change : Simpset → Option Rule → Change
split_change s o = elim o [ None ↦ Err NotThere | Some r ↦ cond (is_stated s.splits r.thm.prop) (Ok (record s { splits = without_rule r.thm.prop s.splits })) (Err NotThere) ]

pub no_split : (s : Simpset) (fact : Theorem) → split_of s.logic fact ≡ None → split_deleted s fact ≡ Err NotThere
no_split s fact e = ap (split_change s) e

pub split_not_there : (s : Simpset) (fact : Theorem) (r : Rule) → split_of s.logic fact ≡ Some r → is_stated s.splits r.thm.prop ≡ false → split_deleted s fact ≡ Err NotThere
split_not_there s fact r e d = ap (split_change s) e ∙ ap (λ b. cond b (Ok (record s { splits = without_rule r.thm.prop s.splits })) (Err NotThere)) d

pub split_deleted_ok : (s : Simpset) (fact : Theorem) (r : Rule) → split_of s.logic fact ≡ Some r → is_stated s.splits r.thm.prop ≡ true → split_deleted s fact ≡ Ok (record s { splits = without_rule r.thm.prop s.splits })
split_deleted_ok s fact r e d = ap (split_change s) e ∙ ap (λ b. cond b (Ok (record s { splits = without_rule r.thm.prop s.splits })) (Err NotThere)) d

pub looper_refused : (s : Simpset) (fact : Theorem) (f : SimpFail) → split_refusal (split_of s.logic fact) ≡ Some f → looper_added s fact ≡ Err f
looper_refused s fact f e = ap (λ o. unless o (record s { loopers = with_last s.loopers (split_of s.logic fact) })) e

pub looper_ok : (s : Simpset) (fact : Theorem) → split_refusal (split_of s.logic fact) ≡ None → looper_added s fact ≡ Ok (record s { loopers = with_last s.loopers (split_of s.logic fact) })
looper_ok s fact e = ap (λ o. unless o (record s { loopers = with_last s.loopers (split_of s.logic fact) })) e

pub proc_refused : (k : Proc) (s : Simpset) (fact : Theorem) (f : SimpFail) → proc_refusal (proc_of k s.logic fact) ≡ Some f → proc_added k s fact ≡ Err f
proc_refused k s fact f e = ap (λ o. unless o (record s { procs = with_proc_of k s.procs (proc_of k s.logic fact) })) e

pub proc_ok : (k : Proc) (s : Simpset) (fact : Theorem) → proc_refusal (proc_of k s.logic fact) ≡ None → proc_added k s fact ≡ Ok (record s { procs = with_proc_of k s.procs (proc_of k s.logic fact) })
proc_ok k s fact e = ap (λ o. unless o (record s { procs = with_proc_of k s.procs (proc_of k s.logic fact) })) e

pub solver_there : (s : Simpset) (fact : Theorem) → is_fact_of s.solvers fact.prop ≡ true → with_solver s fact ≡ s
solver_there s fact e = ap (λ b. cond b s (record s { solvers = s.solvers ++ fact ∷ [] })) e

pub solver_new : (s : Simpset) (fact : Theorem) → is_fact_of s.solvers fact.prop ≡ false → with_solver s fact ≡ record s { solvers = s.solvers ++ fact ∷ [] }
solver_new s fact e = ap (λ b. cond b s (record s { solvers = s.solvers ++ fact ∷ [] })) e
