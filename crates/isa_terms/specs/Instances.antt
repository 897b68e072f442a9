-- Instances that keep types, and one instance after another.
-- Source: composition of substitutions (textbooks on unification), here for terms with types.
use Rattle.std.specs.Prelude.{◌≡◌, List, [], ◌∷◌, ◌++◌}
use Rattle.isa_terms.specs.Terms.{Tm, Const, Free, Unknown, Bound, Abs, App, bare}
use Rattle.isa_terms.specs.Typing.{HasType}
use Rattle.isa_terms.specs.Instance.{Instance, inst_ty, inst_tm}
use Rattle.isa_terms.specs.Norm.{norm}
use Rattle.isa_terms.specs.declared.inst.TypeEntry.{TypeEntry}
use Rattle.isa_terms.specs.declared.inst.TermEntry.{TermEntry}

-- each term has the instance of the type of its unknown, and no loose bound variables
abbrev pub IsKept : List TypeEntry → List TermEntry → Type 0
IsKept es [] = Unit {0}
IsKept es (f ∷ fs) = HasType f.term (inst_ty es f.typ) × IsKept es fs

-- on each type and each unknown of the term the instance does what the first and then the second do
abbrev pub IsFollowed : List TypeEntry → List TermEntry → List TypeEntry → List TermEntry → List TypeEntry → List TermEntry → Tm → Type 0
IsFollowed es fs es1 fs1 es2 fs2 (Const x T) = inst_ty es T ≡ inst_ty es2 (inst_ty es1 T)
IsFollowed es fs es1 fs1 es2 fs2 (Free x T) = inst_ty es T ≡ inst_ty es2 (inst_ty es1 T)
IsFollowed es fs es1 fs1 es2 fs2 (Unknown x i T) =
    (inst_ty es T ≡ inst_ty es2 (inst_ty es1 T)) × (bare (norm (inst_tm es fs (Unknown x i T))) ≡ bare (norm (inst_tm es2 fs2 (norm (inst_tm es1 fs1 (Unknown x i T))))))
IsFollowed es fs es1 fs1 es2 fs2 (Bound n) = Unit {0}
IsFollowed es fs es1 fs1 es2 fs2 (Abs x T b) = (inst_ty es T ≡ inst_ty es2 (inst_ty es1 T)) × IsFollowed es fs es1 fs1 es2 fs2 b
IsFollowed es fs es1 fs1 es2 fs2 (App f a) = IsFollowed es fs es1 fs1 es2 fs2 f × IsFollowed es fs es1 fs1 es2 fs2 a

-- the types of the first instance under the second, and then those of the second
abbrev pub types_after : List TypeEntry → List TypeEntry → List TypeEntry
types_after [] es2 = es2
types_after (e ∷ es1) es2 = record { name = e.name; number = e.number; typ = inst_ty es2 e.typ } ∷ types_after es1 es2

-- for each unknown of the term, at its own type, what the first instance and then the second make of it
abbrev pub terms_after : List TypeEntry → List TermEntry → List TypeEntry → List TermEntry → Tm → List TermEntry
terms_after es1 fs1 es2 fs2 (Unknown x i T) = record { name = x; number = i; typ = T; term = inst_tm es2 fs2 (inst_tm es1 fs1 (Unknown x i T)) } ∷ []
terms_after es1 fs1 es2 fs2 (Abs x T b) = terms_after es1 fs1 es2 fs2 b
terms_after es1 fs1 es2 fs2 (App f a) = terms_after es1 fs1 es2 fs2 f ++ terms_after es1 fs1 es2 fs2 a
terms_after es1 fs1 es2 fs2 _ = []

-- the same for a list of terms
abbrev pub all_after : List TypeEntry → List TermEntry → List TypeEntry → List TermEntry → List Tm → List TermEntry
all_after es1 fs1 es2 fs2 [] = []
all_after es1 fs1 es2 fs2 (t ∷ ts) = terms_after es1 fs1 es2 fs2 t ++ all_after es1 fs1 es2 fs2 ts

-- it holds of each of the terms
abbrev pub Each : (Tm → Type 0) → List Tm → Type 0
Each P [] = Unit {0}
Each P (t ∷ ts) = P t × Each P ts

-- its terms have the types of their unknowns
abbrev pub KeepsTypes : Instance → Type 0
KeepsTypes s = IsKept s.types s.terms

-- s and then r, as one instance of the terms ts
abbrev pub followed_by : Instance → Instance → List Tm → Instance
followed_by s r ts = record { types = types_after s.types r.types; terms = all_after s.types s.terms r.types r.terms ts }
