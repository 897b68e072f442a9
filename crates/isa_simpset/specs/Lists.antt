-- Lists of rules: what is there, what is put in and what is taken out.
-- Source: finite maps as lists, as in textbooks; the order of rules is this project's.
use Rattle.std.specs.Prelude.{◌≡◌, refl, ℕ, suc, ◌+◌, nat_eq, nat_lt, List, [], ◌∷◌, ◌++◌, length, Bool, true, false, ◌&&◌, ◌||◌, Option, Some, None, if◌then◌else◌}
use Rattle.std.specs.Coded.{Coded, code_by, coded×, coded_ℕ}
use Rattle.isa_terms.specs.Terms.{Tm}
use Rattle.isa_terms.specs.Equal.{tm_eq}
use Rattle.isa_kernel.specs.Theorem.{Theorem, theorem_code}
use Rattle.isa_simprules.specs.Rules.{Rule}
use Rattle.isa_simprules.specs.Congruences.{Cong}
use Rattle.isa_simpset.specs.declared.procs.Proc.{Proc}
use Rattle.isa_simpset.specs.declared.procs.Proc.TheVariants.{Neq, OnePoint, PullAssoc, PullLeft, PullSwap}
use Rattle.isa_simpset.specs.declared.procs.ProcRule.{ProcRule}

-- the kinds as numbers, and back
abbrev pub proc_number : Proc → ℕ
proc_number Neq = 0
proc_number OnePoint = 1
proc_number PullAssoc = 2
proc_number PullLeft = 3
proc_number PullSwap = 4

abbrev pub proc_at : ℕ → Proc
proc_at n = if nat_eq n 0 then Neq else if nat_eq n 1 then OnePoint else if nat_eq n 2 then PullAssoc else if nat_eq n 3 then PullLeft else PullSwap

abbrev pub proc_back : (k : Proc) → proc_at (proc_number k) ≡ k
proc_back Neq = refl
proc_back OnePoint = refl
proc_back PullAssoc = refl
proc_back PullLeft = refl
proc_back PullSwap = refl

abbrev pub proc_code : Coded ProcRule
proc_code = code_by (ℕ × Theorem) (coded× coded_ℕ theorem_code) (λ r. (proc_number r.proc, r.fact)) (λ p. record { proc = proc_at p.0; fact = p.1 }) (λ r i. record { proc = proc_back r.proc i; fact = r.fact })

-- whether a rule's theorem states that proposition
abbrev pub is_stated : List Rule → Tm → Bool
is_stated [] p = false
is_stated (r ∷ rs) p = tm_eq r.thm.prop p || is_stated rs p

-- whether one of the rules states the proposition
abbrev pub is_stated_by : List Cong → Tm → Bool
is_stated_by [] p = false
is_stated_by (c ∷ cs) p = tm_eq c.thm.prop p || is_stated_by cs p

-- the place of the first one that does, the first of the list being counted as k
abbrev pub place_of_cong : Tm → ℕ → List Cong → Option ℕ
place_of_cong p k [] = None
place_of_cong p k (c ∷ cs) = if tm_eq c.thm.prop p then Some k else place_of_cong p (k + 1) cs

-- the others, without that one
abbrev pub without_cong : Tm → List Cong → List Cong
without_cong p [] = []
without_cong p (c ∷ cs) = if tm_eq c.thm.prop p then cs else (c ∷ without_cong p cs)

abbrev pub is_fact_of : List Theorem → Tm → Bool
is_fact_of [] p = false
is_fact_of (th ∷ ths) p = tm_eq th.prop p || is_fact_of ths p

-- the rule in its rank: behind those with fewer conditions
abbrev pub ranked : Rule → List Rule → List Rule
ranked r [] = r ∷ []
ranked r (q ∷ qs) = if nat_lt (length q.conditions) (length r.conditions) then (q ∷ ranked r qs) else (r ∷ q ∷ qs)

-- how many rules with fewer conditions stand in front
abbrev pub rank_place : ℕ → List Rule → ℕ
rank_place n [] = 0
rank_place n (q ∷ qs) = if nat_lt (length q.conditions) n then suc (rank_place n qs) else 0

-- the place of the first rule that states the proposition, the first of the list being counted as k
abbrev pub place_of : Tm → ℕ → List Rule → Option ℕ
place_of p k [] = None
place_of p k (r ∷ rs) = if tm_eq r.thm.prop p then Some k else place_of p (k + 1) rs

-- a rule that is there already changes nothing
abbrev pub with_rule : List Rule → Rule → List Rule
with_rule rs r = if is_stated rs r.thm.prop then rs else ranked r rs

-- with each of the others, the first of them declared first
abbrev pub with_rules : List Rule → List Rule → List Rule
with_rules rs [] = rs
with_rules rs (q ∷ qs) = with_rules (with_rule rs q) qs

abbrev pub without_rule : Tm → List Rule → List Rule
without_rule p [] = []
without_rule p (r ∷ rs) = if tm_eq r.thm.prop p then rs else (r ∷ without_rule p rs)

abbrev pub without_rules : List Rule → List Rule → List Rule
without_rules rs [] = rs
without_rules rs (q ∷ qs) = without_rules (without_rule q.thm.prop rs) qs

-- whether one of the second rules is among the first
abbrev pub has_some : List Rule → List Rule → Bool
has_some rs [] = false
has_some rs (q ∷ qs) = is_stated rs q.thm.prop || has_some rs qs

abbrev pub same_proc : Proc → Proc → Bool
same_proc Neq Neq = true
same_proc OnePoint OnePoint = true
same_proc PullAssoc PullAssoc = true
same_proc PullLeft PullLeft = true
same_proc PullSwap PullSwap = true
same_proc _ _ = false

abbrev pub has_proc : Proc → Tm → List ProcRule → Bool
has_proc k p [] = false
has_proc k p (q ∷ qs) = (same_proc q.proc k && tm_eq q.fact.prop p) || has_proc k p qs

-- the rules with that one in its rank, where it is there
abbrev pub with_found : List Rule → Option Rule → List Rule
with_found rs None = rs
with_found rs (Some r) = with_rule rs r

-- the rules with that one behind the others
abbrev pub with_last : List Rule → Option Rule → List Rule
with_last rs None = rs
with_last rs (Some r) = if is_stated rs r.thm.prop then rs else (rs ++ r ∷ [])

abbrev pub with_proc_of : Proc → List ProcRule → Option Rule → List ProcRule
with_proc_of k qs None = qs
with_proc_of k qs (Some r) = if has_proc k r.thm.prop qs then qs else (qs ++ record { proc = k; fact = r.thm } ∷ [])
