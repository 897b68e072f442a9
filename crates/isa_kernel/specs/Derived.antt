-- Inferences that the primitive ones make, each as the theorem that it gives.
-- Source: the derived rules of LCF provers, as `DISCH`, `UNDISCH` and `ALPHA` of HOL Light (Harrison, "HOL Light: a tutorial introduction", 1996).
use Rattle.std.specs.Prelude.{List, [], ◌∷◌, Option, Some, None, Bool, true, ◌&&◌, if◌then◌else◌}
use Rattle.isa_terms.specs.Terms.{Tm}
use Rattle.isa_terms.specs.Equal.{tm_eq}
use Rattle.isa_terms.specs.Sets.{missing, joined}
use Rattle.isa_terms.specs.Typing.{type_at}
use Rattle.isa_terms.specs.Norm.{norm}
use Rattle.isa_kernel.specs.Logic.{prop, imp, eq}
use Rattle.isa_kernel.specs.Theorem.{Theorem}
use Rattle.isa_kernel.specs.Forms.{◌>>=◌, imp_parts}
use Rattle.isa_kernel.specs.Inferences.{has_type, well_typed}

-- the same theorem with a proposition that equals its own but for the names of binders
abbrev pub renamed : Tm → Theorem → Option Theorem
renamed p th = if tm_eq p th.prop then Some (record { hyps = th.hyps; prop = p; base = th.base }) else None

-- `A1 ==> .. ==> An ==> B`
abbrev pub implies : List Tm → Tm → Tm
implies [] q = q
implies (p ∷ ps) q = imp p (implies ps q)

-- whether each is a well-typed proposition
abbrev pub are_propositions : List Tm → Bool
are_propositions [] = true
are_propositions (p ∷ ps) = has_type p prop && are_propositions ps

-- the theorem behind the premises, without the hypotheses that equal one of them
abbrev pub behind_premises : List Tm → Theorem → Theorem
behind_premises ps th = record { hyps = missing ps th.hyps; prop = implies ps th.prop; base = th.base }

-- `A1 ==> .. ==> An ==> B`, for propositions A1 .. An, without the hypotheses that equal one of them
abbrev pub discharged : List Tm → Theorem → Option Theorem
discharged ps th = if are_propositions ps then Some (behind_premises ps th) else None

-- the hypotheses, and each of the premises that isn't there yet
abbrev pub with_premises : List Tm → List Tm → List Tm
with_premises us [] = us
with_premises us (p ∷ ps) = with_premises (joined us (p ∷ [])) ps

-- B of `A1 ==> .. ==> An ==> B`, where these are the first premises
abbrev pub conclusion_behind : List Tm → Tm → Option Tm
conclusion_behind [] t = Some t
conclusion_behind (p ∷ ps) t = do
  parts ← imp_parts t
  if tm_eq parts.0 p then conclusion_behind ps parts.1 else None

-- B under the hypotheses A1 .. An besides, from `A1 ==> .. ==> An ==> B`
abbrev pub undischarged : List Tm → Theorem → Option Theorem
undischarged ps th = do
  q ← conclusion_behind ps th.prop
  Some (record { hyps = with_premises th.hyps ps; prop = q; base = th.base })

-- `t == t'` for a well-typed t and its normal form t'
abbrev pub normal_form_at : Tm → Option Theorem
normal_form_at t = do
  T ← well_typed (type_at [] t)
  Some (record { hyps = []; prop = eq T t (norm t); base = [] })
