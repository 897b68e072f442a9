-- Worked rows: the definitions compute what the examples say.
use Rattle.std.proofs.Common.{◌≡◌, ℕ, true, false, List, [], ◌∷◌, refl}
use Rattle.isa_terms.specs.Types.{Ty, TyCon, NoTys}
use Rattle.isa_terms.specs.Terms.{Tm, Const, Free, Unknown, Bound, Abs, App}
use Rattle.isa_net.specs.Words.{Along, word, agrees}
use Rattle.isa_net.specs.Count.{agreeing}
use Rattle.isa_net.specs.declared.mode.Mode.TheVariants.{Unifiable, Matching}

abbrev o : Ty
o = TyCon [] NoTys

abbrev c : ℕ → Tm
c n = Const (n ∷ []) o

abbrev q : Tm → Tm → Tm
q t u = App (App (c 81) t) u

abbrev x : ℕ → Tm
x n = Unknown (n ∷ []) 0 o

-- the empty prefix, Q, Q c1 and Q c1 c2
four_prefixes : agreeing Matching (Along (q (c 1) (c 2)) ∷ []) (word (q (c 1) (c 2)) ∷ word (q (c 1) (c 3)) ∷ word (q (c 3) (c 1)) ∷ []) ≡ 4
four_prefixes = refl

unknown_gets_all : agrees Unifiable (x 0) (word (q (c 1) (c 2))) ≡ true
unknown_gets_all = refl

unknown_is_a_constant : agrees Matching (x 0) (word (q (c 1) (c 2))) ≡ false
unknown_is_a_constant = refl

star_passes : agrees Matching (q (c 1) (c 2)) (word (x 0)) ≡ true
star_passes = refl

other_argument : agrees Matching (q (c 1) (c 2)) (word (q (x 1) (c 3))) ≡ false
other_argument = refl

abstraction_passes : agrees Matching (q (Abs [] o (Bound 0)) (c 2)) (word (q (c 1) (c 2))) ≡ true
abstraction_passes = refl

-- the abstraction passes over a whole subword, and then the last arguments differ
last_differs : agrees Matching (q (Abs [] o (Bound 0)) (c 2)) (word (q (q (c 1) (c 2)) (c 3))) ≡ false
last_differs = refl
