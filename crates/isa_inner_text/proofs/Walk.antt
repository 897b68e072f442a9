-- Inductions over what comes of steps.
use Rattle.std.proofs.Common.{◌≡◌, ℕ, ◌≤◌, Bool, true, false, cond, ◌&&◌, nat_le, nat_eq, List, [], ◌∷◌, Option, Some, None, ◌⊎◌, inl, inr, refl, sym, ap, ◌∙◌, arith}
use Rattle.isa_terms.specs.Types.{Ty}
use Rattle.isa_inner.specs.declared.token.InfixSign.TheVariants as infix_sign
use Rattle.isa_inner.specs.declared.token.Mark.{Mark}
use Rattle.isa_inner.specs.declared.token.Mark.TheVariants as mark
use Rattle.isa_inner.specs.Priorities.{mark_code}
use Rattle.isa_inner_types.specs.declared.token.TermToken.TheVariants as term
use Rattle.isa_inner_types.specs.declared.token.TextToken.{TextToken}
use Rattle.isa_inner_types.specs.declared.token.TextToken.TheVariants as token
use Rattle.isa_inner_types.specs.declared.token.TypeRefusal.{TypeRefusal}
use Rattle.isa_inner_types.specs.TypeReading as types
use Rattle.isa_inner_text.specs.Signatures.{SignatureSeen}
use Rattle.isa_inner_text.specs.declared.part.Part.{Part}
use Rattle.isa_inner_text.specs.declared.refusal.Expected.TheVariants as need
use Rattle.isa_inner_text.specs.Reading.{Outcome, Read, Refused, Place, Step, Ends, Goes, Inside, InType, and_then, refuse, starts, mark_at, is_this, behind_first, expect, expect_name, expect_arrow, type_why, step, Runs, ends, goes, inside, typed, untyped}

abbrev pub Meaning : Type 1
Meaning = Outcome → Place → List TextToken → Type 0

-- a type that was read, and how the step goes on; or its refusal
abbrev pub MeansStep : Meaning → Step → Outcome → Type 0
MeansStep M (Ends o) u = u ≡ o
MeansStep M (Goes p ts) u = M u p ts
MeansStep M (Inside p ts after) u = (part : Outcome) × M part p ts × MeansStep M (after part) u
MeansStep M (InType d ts after) u =
    ((T : Ty) × (h : ℕ) × (rest : List TextToken) × types.Runs (types.step (types.Whole d) ts) (types.Read T h rest) × MeansStep M (after T h rest) u)
    ⊎ ((w : TypeRefusal) × (at : List TextToken) × (u ≡ Refused (type_why w at)))

-- tests
pub le_of : (m n : ℕ) → nat_le m n ≡ true → m ≤ n
le_of m n e = grind arith

pub eq_of : (m n : ℕ) → nat_eq m n ≡ true → m ≡ n
eq_of m n e = grind arith

pub and_left : (a b : Bool) → (a && b) ≡ true → a ≡ true
and_left true b e = refl
and_left false b e = absurd cc

pub and_right : (a b : Bool) → (a && b) ≡ true → b ≡ true
and_right true b e = e
and_right false b e = absurd cc

mark_of : ℕ → Mark
mark_of n = cond (nat_eq n 0) mark.Open (cond (nat_eq n 1) mark.Close (cond (nat_eq n 2) mark.Dot (cond (nat_eq n 3) mark.Colons (cond (nat_eq n 4) mark.OpenPremises (cond (nat_eq n 5) mark.Semicolon mark.ClosePremises)))))

of_code : (m : Mark) → mark_of (mark_code m) ≡ m
unfolding mark_of
of_code mark.Open = refl
of_code mark.Close = refl
of_code mark.Dot = refl
of_code mark.Colons = refl
of_code mark.OpenPremises = refl
of_code mark.Semicolon = refl
of_code mark.ClosePremises = refl

same_mark : (n m : Mark) → nat_eq (mark_code n) (mark_code m) ≡ true → n ≡ m
same_mark n m e = sym (of_code n) ∙ ap mark_of (eq_of (mark_code n) (mark_code m) e) ∙ of_code m

-- the token that punctuation is
abbrev pub mark_token : Mark → TextToken
mark_token mark.Open = token.Open
mark_token mark.Close = token.Close
mark_token mark.Dot = token.Other term.Dot
mark_token mark.Colons = token.Other term.Colons
mark_token mark.OpenPremises = token.Other term.OpenPremises
mark_token mark.Semicolon = token.Other term.Semicolon
mark_token mark.ClosePremises = token.Other term.ClosePremises

starts_so : (m n : Mark) (ts : List TextToken) → nat_eq (mark_code n) (mark_code m) ≡ true → mark_token n ∷ ts ≡ mark_token m ∷ ts
starts_so m n ts e = ap (λ (x : Mark). mark_token x ∷ ts) (same_mark n m e)

pub starts_mark : (m : Mark) (ts : List TextToken) → starts m ts ≡ true → ts ≡ mark_token m ∷ behind_first ts
starts_mark m [] e = absurd cc
starts_mark m (token.Open ∷ ts) e = starts_so m mark.Open ts e
starts_mark m (token.Close ∷ ts) e = starts_so m mark.Close ts e
starts_mark m (token.Other term.Dot ∷ ts) e = starts_so m mark.Dot ts e
starts_mark m (token.Other term.Colons ∷ ts) e = starts_so m mark.Colons ts e
starts_mark m (token.Other term.OpenPremises ∷ ts) e = starts_so m mark.OpenPremises ts e
starts_mark m (token.Other term.Semicolon ∷ ts) e = starts_so m mark.Semicolon ts e
starts_mark m (token.Other term.ClosePremises ∷ ts) e = starts_so m mark.ClosePremises ts e
starts_mark m (token.Other (term.Unknown x) ∷ ts) e = absurd cc
starts_mark m (token.Other (term.Infix x) ∷ ts) e = absurd cc
starts_mark m (token.Other (term.Prefix x) ∷ ts) e = absurd cc
starts_mark m (token.Other (term.Binder x) ∷ ts) e = absurd cc
starts_mark m (token.Other (term.Symbol x) ∷ ts) e = absurd cc
starts_mark m (token.Other (term.Schematic x) ∷ ts) e = absurd cc
starts_mark m (token.Name x n ∷ ts) e = absurd cc
starts_mark m (token.Variable x ∷ ts) e = absurd cc
starts_mark m (token.Unknown x ∷ ts) e = absurd cc
starts_mark m (token.OpenList ∷ ts) e = absurd cc
starts_mark m (token.CloseList ∷ ts) e = absurd cc
starts_mark m (token.Comma ∷ ts) e = absurd cc
starts_mark m (token.Arrow ∷ ts) e = absurd cc
starts_mark m (token.Refused n ∷ ts) e = absurd cc

-- what is expected stands there
pub expected : (M : Meaning) → (m : Mark) (ts : List TextToken) (go : List TextToken → Step) (q : Part) (rest : List TextToken) → MeansStep M (expect m ts go) (Read q rest) → (ts ≡ mark_token m ∷ behind_first ts) × MeansStep M (go (behind_first ts)) (Read q rest)
expected M m ts go q rest g = choice (starts m ts) refl g
  where
    choice : (b : Bool) → starts m ts ≡ b → MeansStep M (cond b (go (behind_first ts)) (refuse (need.Mark m) ts)) (Read q rest) → (ts ≡ mark_token m ∷ behind_first ts) × MeansStep M (go (behind_first ts)) (Read q rest)
    choice true e g = (starts_mark m ts e, g)
    choice false e g = absurd cc

pub expected_name : (M : Meaning) → (ts : List TextToken) (go : List ℕ → List TextToken → Step) (q : Part) (rest : List TextToken) → MeansStep M (expect_name ts go) (Read q rest) → (x : List ℕ) × (n : Option ℕ) × (later : List TextToken) × (ts ≡ token.Name x n ∷ later) × MeansStep M (go x later) (Read q rest)
expected_name M [] go q rest g = absurd cc
expected_name M (token.Name x n ∷ ts) go q rest g = (x, n, ts, refl, g)
expected_name M (token.Variable x ∷ ts) go q rest g = absurd cc
expected_name M (token.Unknown x ∷ ts) go q rest g = absurd cc
expected_name M (token.Open ∷ ts) go q rest g = absurd cc
expected_name M (token.Close ∷ ts) go q rest g = absurd cc
expected_name M (token.OpenList ∷ ts) go q rest g = absurd cc
expected_name M (token.CloseList ∷ ts) go q rest g = absurd cc
expected_name M (token.Comma ∷ ts) go q rest g = absurd cc
expected_name M (token.Arrow ∷ ts) go q rest g = absurd cc
expected_name M (token.Refused n ∷ ts) go q rest g = absurd cc
expected_name M (token.Other x ∷ ts) go q rest g = absurd cc

pub expected_arrow : (M : Meaning) → (ts : List TextToken) (go : List TextToken → Step) (q : Part) (rest : List TextToken) → MeansStep M (expect_arrow ts go) (Read q rest) → (later : List TextToken) × (ts ≡ token.Other (term.Infix infix_sign.Implies) ∷ later) × MeansStep M (go later) (Read q rest)
expected_arrow M [] go q rest g = absurd cc
expected_arrow M (token.Name x n ∷ ts) go q rest g = absurd cc
expected_arrow M (token.Variable x ∷ ts) go q rest g = absurd cc
expected_arrow M (token.Unknown x ∷ ts) go q rest g = absurd cc
expected_arrow M (token.Open ∷ ts) go q rest g = absurd cc
expected_arrow M (token.Close ∷ ts) go q rest g = absurd cc
expected_arrow M (token.OpenList ∷ ts) go q rest g = absurd cc
expected_arrow M (token.CloseList ∷ ts) go q rest g = absurd cc
expected_arrow M (token.Comma ∷ ts) go q rest g = absurd cc
expected_arrow M (token.Arrow ∷ ts) go q rest g = absurd cc
expected_arrow M (token.Refused n ∷ ts) go q rest g = absurd cc
expected_arrow M (token.Other (term.Infix infix_sign.Implies) ∷ ts) go q rest g = (ts, refl, g)
expected_arrow M (token.Other (term.Infix infix_sign.Equals) ∷ ts) go q rest g = absurd cc
expected_arrow M (token.Other (term.Infix (infix_sign.Declared c f p)) ∷ ts) go q rest g = absurd cc
expected_arrow M (token.Other (term.Unknown x) ∷ ts) go q rest g = absurd cc
expected_arrow M (token.Other (term.Prefix x) ∷ ts) go q rest g = absurd cc
expected_arrow M (token.Other (term.Binder x) ∷ ts) go q rest g = absurd cc
expected_arrow M (token.Other term.Dot ∷ ts) go q rest g = absurd cc
expected_arrow M (token.Other term.Colons ∷ ts) go q rest g = absurd cc
expected_arrow M (token.Other term.OpenPremises ∷ ts) go q rest g = absurd cc
expected_arrow M (token.Other term.Semicolon ∷ ts) go q rest g = absurd cc
expected_arrow M (token.Other term.ClosePremises ∷ ts) go q rest g = absurd cc
expected_arrow M (token.Other (term.Symbol x) ∷ ts) go q rest g = absurd cc
expected_arrow M (token.Other (term.Schematic x) ∷ ts) go q rest g = absurd cc

-- a part that was read, and how the step goes on
pub record Inner (M : Meaning) (p : Place) (ts : List TextToken) (go : Part → List TextToken → Step) (u : Outcome) : Type 0 where
  pub part : Part
  pub later : List TextToken
  pub reads : M (Read part later) p ts
  pub goes_on_so : MeansStep M (go part later) u

pub inner_of : (M : Meaning) → (p : Place) (ts : List TextToken) (go : Part → List TextToken → Step) (q : Part) (rest : List TextToken) → MeansStep M (Inside p ts (and_then go)) (Read q rest) → Inner M p ts go (Read q rest)
inner_of M p ts go q rest g = choice g.0 g.1 g.2
  where
    choice : (part : Outcome) → M part p ts → MeansStep M (and_then go part) (Read q rest) → Inner M p ts go (Read q rest)
    choice (Refused w) a b = absurd cc
    choice (Read u later) a b = record { part = u; later = later; reads = a; goes_on_so = b }

-- a type that was read, and how the step goes on
pub record InnerType (M : Meaning) (d : ℕ) (ts : List TextToken) (go : Ty → ℕ → List TextToken → Step) (u : Outcome) : Type 0 where
  pub T : Ty
  pub h : ℕ
  pub later : List TextToken
  pub reads : types.Runs (types.step (types.Whole d) ts) (types.Read T h later)
  pub goes_on_so : MeansStep M (go T h later) u

pub type_of : (M : Meaning) → (d : ℕ) (ts : List TextToken) (go : Ty → ℕ → List TextToken → Step) (q : Part) (rest : List TextToken) → MeansStep M (InType d ts go) (Read q rest) → InnerType M d ts go (Read q rest)
type_of M d ts go q rest (inl g) = record { T = g.0; h = g.1; later = g.2; reads = g.3; goes_on_so = g.4 }
type_of M d ts go q rest (inr g) = absurd (let e = g.2 in cc)

-- what holds step by step holds of all that comes
pub steps_mean : (sig : SignatureSeen) (M : Meaning) → ((p : Place) (ts : List TextToken) (o : Outcome) → MeansStep M (step sig p ts) o → M o p ts) → (s : Step) (o : Outcome) → Runs sig s o → MeansStep M s o
steps_mean sig M k _ _ (ends o) = refl
steps_mean sig M k _ _ (goes p ts o r) = k p ts o (steps_mean sig M k (step sig p ts) o r)
steps_mean sig M k _ _ (inside p ts after part o a r) = (part, k p ts part (steps_mean sig M k (step sig p ts) part a), steps_mean sig M k (after part) o r)
steps_mean sig M k _ _ (typed d ts after T h rest o a r) = inl (T, h, rest, a, steps_mean sig M k (after T h rest) o r)
steps_mean sig M k _ _ (untyped d ts after w at a) = inr (w, at, refl)
