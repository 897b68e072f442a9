-- What facts play a role for the logic: the forms of the roles, and the facts that have them.
-- Source: the object logic's rules that Isabelle's simplifier and classical reasoner are set up with (the Isabelle/Isar Reference Manual, "Generic tools and packages"); the roles by name are this project's own.
use Rattle.std.specs.Prelude.{ℕ, List, [], ◌∷◌, ◌++◌, Bool, false, ◌&&◌, ◌||◌, not, Option, Some, None, is_some, codes, if◌then◌else◌}
use Rattle.isa_terms.specs.Terms.{Tm, Const, App}
use Rattle.isa_terms.specs.Equal.{name_eq, tm_eq}
use Rattle.isa_terms.specs.Pattern.{is_pattern, is_unknown}
use Rattle.isa_kernel.specs.Logic.{imp}
use Rattle.isa_kernel.specs.Forms.{◌>>=◌, imp_parts, eq_parts}
use Rattle.isa_kernel.specs.Theorem.{Theorem}
use Rattle.isa_kernel.specs.declared.logic.Logic.{Logic}
use Rattle.isa_outer.specs.declared.command.Role.{Role}
use Rattle.isa_outer.specs.declared.command.Role.TheVariants as role

-- ---- the forms, by their letters: J is the judgment, N, I, E and F are constants, and the other letters are unknowns
abbrev pub swap_form : Tm → Tm → Tm → Tm → Tm
swap_form J N P R = imp (App J (App N P)) (imp (imp (App J (App N R)) (App J P)) (App J R))

abbrev pub classical_form : Tm → Tm → Tm → Tm
classical_form J N P = imp (imp (App J (App N P)) (App J P)) (App J P)

abbrev pub not_elim_form : Tm → Tm → Tm → Tm → Tm
not_elim_form J N P R = imp (App J (App N P)) (imp (App J P) (App J R))

-- that of `mp` and of `iff_d1`
abbrev pub mp_form : Tm → Tm → Tm → Tm → Tm
mp_form J I P Q = imp (App J (App (App I P) Q)) (imp (App J P) (App J Q))

abbrev pub iff_d2_form : Tm → Tm → Tm → Tm → Tm
iff_d2_form J F P Q = imp (App J (App (App F P) Q)) (imp (App J Q) (App J P))

abbrev pub subst_form : Tm → Tm → Tm → Tm → Tm → Tm
subst_form J E a b P = imp (App J (App (App E a) b)) (imp (App J (App P a)) (App J (App P b)))

abbrev pub sym_form : Tm → Tm → Tm → Tm → Tm
sym_form J E a b = imp (App J (App (App E a) b)) (App J (App (App E b) a))

-- ---- the letters, each read at its first place; j is the judgment's name
-- J and t of `J t`
abbrev pub judged : List ℕ → Tm → Option (Tm × Tm)
judged j (App (Const x T) t) = if name_eq x j then Some (Const x T, t) else None
judged j _ = None

-- c and a of `c a`, for a constant c
abbrev pub unary : Tm → Option (Tm × Tm)
unary (App (Const x T) a) = Some (Const x T, a)
unary _ = None

-- c, a and b of `c a b`, for a constant c
abbrev pub binary : Tm → Option (Tm × Tm × Tm)
binary (App (App (Const x T) a) b) = Some (Const x T, a, b)
binary _ = None

-- f of `f a`
abbrev pub function_part : Tm → Option Tm
function_part (App f a) = Some f
function_part _ = None

-- J, N and P of `J (N P)`
abbrev pub judged_unary : List ℕ → Tm → Option (Tm × Tm × Tm)
judged_unary j t = do
  s ← judged j t
  l ← unary s.1
  Some (s.0, l.0, l.1)

-- J, I, P and Q of `J (I P Q)`
abbrev pub judged_binary : List ℕ → Tm → Option (Tm × Tm × Tm × Tm)
judged_binary j t = do
  s ← judged j t
  l ← binary s.1
  Some (s.0, l.0, l.1, l.2)

-- R of `A ==> B ==> J R`
abbrev pub last_judged : List ℕ → Tm → Option Tm
last_judged j t = do
  p ← imp_parts t
  q ← imp_parts p.1
  s ← judged j q.1
  Some s.1

-- whether they are distinct unknowns
abbrev pub are_two_letters : Tm → Tm → Bool
are_two_letters t u = is_unknown t && (is_unknown u && not (tm_eq t u))

abbrev pub are_three_letters : Tm → Tm → Tm → Bool
are_three_letters t u v = are_two_letters t u && (are_two_letters t v && are_two_letters u v)

-- ---- whether a proposition has the form of a role
abbrev pub holds : Option Bool → Bool
holds None = false
holds (Some b) = b

-- no premise, and a pattern
abbrev pub is_close : Tm → Bool
is_close t = not (is_some (imp_parts t)) && is_pattern t

-- `A ==> J R`, where A is a pattern and R an unknown
abbrev pub is_close_asm : List ℕ → Tm → Bool
is_close_asm j t = holds do
  p ← imp_parts t
  s ← judged j p.1
  Some (is_unknown s.1 && is_pattern p.0)

-- at least one premise, of which the first is a pattern
abbrev pub is_atomize : Tm → Bool
is_atomize t = holds do
  p ← imp_parts t
  Some (is_pattern p.0)

-- `A ==> l == r`, where A is a pattern
abbrev pub is_meta : Tm → Bool
is_meta t = holds do
  p ← imp_parts t
  Some (is_some (eq_parts p.1) && is_pattern p.0)

abbrev pub is_swap : List ℕ → Tm → Bool
is_swap j t = holds do
  p ← imp_parts t
  l ← judged_unary j p.0
  R ← last_judged j t
  Some (are_two_letters l.2 R && tm_eq t (swap_form l.0 l.1 l.2 R))

abbrev pub is_classical : List ℕ → Tm → Bool
is_classical j t = holds do
  p ← imp_parts t
  q ← imp_parts p.0
  l ← judged_unary j q.0
  Some (is_unknown l.2 && tm_eq t (classical_form l.0 l.1 l.2))

abbrev pub is_not_elim : List ℕ → Tm → Bool
is_not_elim j t = holds do
  p ← imp_parts t
  l ← judged_unary j p.0
  R ← last_judged j t
  Some (are_two_letters l.2 R && tm_eq t (not_elim_form l.0 l.1 l.2 R))

abbrev pub is_mp : List ℕ → Tm → Bool
is_mp j t = holds do
  p ← imp_parts t
  l ← judged_binary j p.0
  Some (are_two_letters l.2 l.3 && tm_eq t (mp_form l.0 l.1 l.2 l.3))

abbrev pub is_iff_d2 : List ℕ → Tm → Bool
is_iff_d2 j t = holds do
  p ← imp_parts t
  l ← judged_binary j p.0
  Some (are_two_letters l.2 l.3 && tm_eq t (iff_d2_form l.0 l.1 l.2 l.3))

abbrev pub is_subst : List ℕ → Tm → Bool
is_subst j t = holds do
  p ← imp_parts t
  l ← judged_binary j p.0
  s ← last_judged j t
  P ← function_part s
  Some (are_three_letters l.2 l.3 P && tm_eq t (subst_form l.0 l.1 l.2 l.3 P))

abbrev pub is_sym : List ℕ → Tm → Bool
is_sym j t = holds do
  p ← imp_parts t
  l ← judged_binary j p.0
  Some (are_two_letters l.2 l.3 && tm_eq t (sym_form l.0 l.1 l.2 l.3))

unfoldable pub has_form : List ℕ → Role → Tm → Bool
has_form j role.Close t = is_close t
has_form j role.CloseAsm t = is_close_asm j t
has_form j role.Atomize t = is_atomize t
has_form j role.Meta t = is_meta t
has_form j role.Swap t = is_swap j t
has_form j role.Classical t = is_classical j t
has_form j role.NotElim t = is_not_elim j t
has_form j role.Mp t = is_mp j t
has_form j role.Subst t = is_subst j t
has_form j role.Sym t = is_sym j t
has_form j role.IffD1 t = is_mp j t
has_form j role.IffD2 t = is_iff_d2 j t

-- ---- the facts of the roles
-- the theorem stands last, if none there states the same
abbrev pub states : List Theorem → Tm → Bool
states [] t = false
states (th ∷ ths) t = tm_eq th.prop t || states ths t

abbrev pub with_theorem : List Theorem → Theorem → List Theorem
with_theorem ths th = if states ths th.prop then ths else (ths ++ th ∷ [])

-- The first four roles keep lists; of the others the latest fact counts.
unfoldable pub with_role : Logic → Role → Theorem → Logic
with_role l role.Close th = record l { close = with_theorem l.close th }
with_role l role.CloseAsm th = record l { close_asm = with_theorem l.close_asm th }
with_role l role.Atomize th = record l { atomize = with_theorem l.atomize th }
with_role l role.Meta th = record l { meta = with_theorem l.meta th }
with_role l role.Swap th = record l { swap = Some th }
with_role l role.Classical th = record l { classical = Some th }
with_role l role.NotElim th = record l { not_elim = Some th }
with_role l role.Mp th = record l { mp = Some th }
with_role l role.Subst th = record l { subst = Some th }
with_role l role.Sym th = record l { sym = Some th }
with_role l role.IffD1 th = record l { iff_d1 = Some th }
with_role l role.IffD2 th = record l { iff_d2 = Some th }

-- the role's word
abbrev pub role_name : Role → List ℕ
role_name role.Close = codes "close"
role_name role.CloseAsm = codes "close_asm"
role_name role.Atomize = codes "atomize"
role_name role.Meta = codes "meta"
role_name role.Swap = codes "swap"
role_name role.Classical = codes "classical"
role_name role.NotElim = codes "not_elim"
role_name role.Mp = codes "mp"
role_name role.Subst = codes "subst"
role_name role.Sym = codes "sym"
role_name role.IffD1 = codes "iff_d1"
role_name role.IffD2 = codes "iff_d2"
