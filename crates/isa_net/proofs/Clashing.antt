-- A key whose word doesn't agree with a term clashes with it, and a pattern that does has no match.
use Rattle.std.proofs.Common.{◌≡◌, ◌≢◌, ◌⊎◌, inl, inr, ℕ, zero, suc, ◌+◌, ◌<◌, ◌≤◌, Bool, true, false, not, cond, ◌&&◌, nat_eq, List, [], ◌∷◌, ◌++◌, length, length-append, append_assoc, Option, Some, None, refl, sym, ap, ◌∙◌, subst, arith}
use Rattle.std.specs.Prelude.{is_some, option_map, unwrap_or}
use Rattle.std.specs.List.{slice_get}
use Rattle.std.proofs.lemmas.Bool.Decides.{nat_tests}
use Rattle.std.proofs.lemmas.List.{append-nil}
use Rattle.isa_terms.specs.Types.{Ty, Tys, TyCon, TyFixed, TyUnknown, NoTys, MoreTys}
use Rattle.isa_terms.specs.Terms.{Tm, Const, Free, Unknown, Bound, Abs, App, nodes}
use Rattle.isa_terms.specs.Equal.{name_eq}
use Rattle.isa_terms.specs.Normal.{IsHead}
use Rattle.isa_terms.specs.Instance.{Instance, find_type, inst_ty, inst_tys}
use Rattle.isa_terms.specs.declared.inst.TypeEntry.{TypeEntry}
use Rattle.isa_unify.specs.Spines.{head_of, args_of, is_flexible}
use Rattle.isa_unify.specs.TypeUnification.{unify_typs, ty_has, tys_have}
use Rattle.isa_unify.specs.Matching.{ty_matched}
use Rattle.isa_unify.specs.Clashes.{TypesAgree, HeadsAgree, AreRigid, Clash, heads, numbers, argument}
use Rattle.isa_unify.proofs.Tests.{name_self, name_true, number_self, key_true, key_turned, either_true}
use Rattle.isa_unify.proofs.TypesUnify.{types_most_general, types_no_unifier}
use Rattle.isa_unify.proofs.TypeMatches.{TypesWithin, types_within_self, ty_finds, ty_completes}
use Rattle.isa_net.specs.declared.symbol.Symbol.{Symbol}
use Rattle.isa_net.specs.declared.symbol.Symbol.TheVariants.{Star, Constant, Variable as Variable'}
use Rattle.isa_net.specs.declared.mode.Mode.{Mode}
use Rattle.isa_net.specs.declared.mode.Mode.TheVariants.{Unifiable, Matching}
use Rattle.isa_net.specs.Symbols.{arity, symbol_eq}
use Rattle.isa_net.specs.Words.{Item, Along, Over, overs, alongs, symbol_on, symbol_of, with_args, args_word, word, opens_unknowns, passes, along, after, reads, agrees}

-- the unknowns of the term count as constants
abbrev pub is_fixed : Mode → Bool
is_fixed mode = not (opens_unknowns mode)

-- ---- whether types agree
-- each type unknown of the type stands for itself
abbrev mutual
  themselves : Ty → List TypeEntry
  themselves (TyCon c Ts) = all_themselves Ts
  themselves (TyFixed a) = []
  themselves (TyUnknown x i) = record { name = x; number = i; typ = TyUnknown x i } ∷ []

  all_themselves : Tys → List TypeEntry
  all_themselves NoTys = []
  all_themselves (MoreTys T Ts) = themselves T ++ all_themselves Ts

-- entries by which each type unknown stands for itself
abbrev AreThemselves : List TypeEntry → Type 0
AreThemselves [] = Unit {0}
AreThemselves (e ∷ es) = (e.typ ≡ TyUnknown e.name e.number) × AreThemselves es

themselves_join : (es fs : List TypeEntry) → AreThemselves es → AreThemselves fs → AreThemselves (es ++ fs)
themselves_join [] fs a b = b
themselves_join (e ∷ es) fs a b = (a.0, themselves_join es fs a.1 b)

mutual
  themselves_are : (T : Ty) → AreThemselves (themselves T)
  themselves_are (TyCon c Ts) = all_themselves_are Ts
  themselves_are (TyFixed a) = tt
  themselves_are (TyUnknown x i) = (refl, tt)

  all_themselves_are : (Ts : Tys) → AreThemselves (all_themselves Ts)
  all_themselves_are NoTys = tt
  all_themselves_are (MoreTys T Ts) = themselves_join (themselves T) (all_themselves Ts) (themselves_are T) (all_themselves_are Ts)

-- one of them is found, or the other
found_right : (x : List ℕ) (i : ℕ) (es fs : List TypeEntry) → is_some (find_type x i fs) ≡ true → is_some (find_type x i (es ++ fs)) ≡ true
found_right x i [] fs h = h
found_right x i (e ∷ es) fs h = at (name_eq x e.name && nat_eq i e.number) (found_right x i es fs h)
  where
    at : (b : Bool) → is_some (find_type x i (es ++ fs)) ≡ true → is_some (cond b (Some e.typ) (find_type x i (es ++ fs))) ≡ true
    at true k = refl
    at false k = k

found_left : (x : List ℕ) (i : ℕ) (es fs : List TypeEntry) → is_some (find_type x i es) ≡ true → is_some (find_type x i (es ++ fs)) ≡ true
found_left x i [] fs h = absurd (cc)
found_left x i (e ∷ es) fs h = at (name_eq x e.name && nat_eq i e.number) h (λ k. found_left x i es fs k)
  where
    at : (b : Bool) → is_some (cond b (Some e.typ) (find_type x i es)) ≡ true → (is_some (find_type x i es) ≡ true → is_some (find_type x i (es ++ fs)) ≡ true) → is_some (cond b (Some e.typ) (find_type x i (es ++ fs))) ≡ true
    at true k g = refl
    at false k g = g k

mutual
  themselves_cover : (x : List ℕ) (i : ℕ) (T : Ty) → ty_has x i T ≡ true → is_some (find_type x i (themselves T)) ≡ true
  themselves_cover x i (TyCon c Ts) h = all_themselves_cover x i Ts h
  themselves_cover x i (TyFixed a) h = absurd (cc)
  themselves_cover x i (TyUnknown y j) h =
      ap (λ b. is_some (cond b (Some (TyUnknown y j)) None)) (key_turned y j x i h)

  all_themselves_cover : (x : List ℕ) (i : ℕ) (Ts : Tys) → tys_have x i Ts ≡ true → is_some (find_type x i (all_themselves Ts)) ≡ true
  all_themselves_cover x i NoTys h = absurd (cc)
  all_themselves_cover x i (MoreTys T Ts) h = at (either_true (ty_has x i T) (tys_have x i Ts) h) (λ k. themselves_cover x i T k) (λ k. all_themselves_cover x i Ts k)
    where
      at : (ty_has x i T ≡ true) ⊎ (tys_have x i Ts ≡ true) → (ty_has x i T ≡ true → is_some (find_type x i (themselves T)) ≡ true) → (tys_have x i Ts ≡ true → is_some (find_type x i (all_themselves Ts)) ≡ true) → is_some (find_type x i (themselves T ++ all_themselves Ts)) ≡ true
      at (inl k) f g = found_left x i (themselves T) (all_themselves Ts) (f k)
      at (inr k) f g = found_right x i (themselves T) (all_themselves Ts) (g k)

-- what stands for itself changes nothing
found_same : (x : List ℕ) (i : ℕ) (es fs : List TypeEntry) → AreThemselves fs → unwrap_or (find_type x i (es ++ fs)) (TyUnknown x i) ≡ unwrap_or (find_type x i es) (TyUnknown x i)
found_same x i [] [] a = refl
found_same x i [] (f ∷ fs) a = at (name_eq x f.name && nat_eq i f.number) refl (found_same x i [] fs a.1)
  where
    at : (b : Bool) → (name_eq x f.name && nat_eq i f.number) ≡ b → unwrap_or (find_type x i fs) (TyUnknown x i) ≡ TyUnknown x i → unwrap_or (cond b (Some f.typ) (find_type x i fs)) (TyUnknown x i) ≡ TyUnknown x i
    at true q e = let k = key_true x i f.name f.number q in a.0 ∙ ap (λ n. TyUnknown n f.number) (sym k.0) ∙ ap (λ n. TyUnknown x n) (sym k.1)
    at false q e = e
found_same x i (e ∷ es) fs a = at (name_eq x e.name && nat_eq i e.number) (found_same x i es fs a)
  where
    at : (b : Bool) → unwrap_or (find_type x i (es ++ fs)) (TyUnknown x i) ≡ unwrap_or (find_type x i es) (TyUnknown x i) → unwrap_or (cond b (Some e.typ) (find_type x i (es ++ fs))) (TyUnknown x i) ≡ unwrap_or (cond b (Some e.typ) (find_type x i es)) (TyUnknown x i)
    at true k = refl
    at false k = k

mutual
  inst_with_themselves : (es fs : List TypeEntry) → AreThemselves fs → (T : Ty) → inst_ty (es ++ fs) T ≡ inst_ty es T
  inst_with_themselves es fs a (TyCon c Ts) = ap (TyCon c) (insts_with_themselves es fs a Ts)
  inst_with_themselves es fs a (TyFixed x) = refl
  inst_with_themselves es fs a (TyUnknown x i) = found_same x i es fs a

  insts_with_themselves : (es fs : List TypeEntry) → AreThemselves fs → (Ts : Tys) → inst_tys (es ++ fs) Ts ≡ inst_tys es Ts
  insts_with_themselves es fs a NoTys = refl
  insts_with_themselves es fs a (MoreTys T Ts) = ap (λ U. MoreTys U (inst_tys (es ++ fs) Ts)) (inst_with_themselves es fs a T) ∙ ap (λ Us. MoreTys (inst_ty es T) Us) (insts_with_themselves es fs a Ts)

abbrev nothing : Instance
nothing = record { types = []; terms = [] }

types_decided : (fixed : Bool) (S T : Ty) → TypesAgree fixed S T ⊎ (TypesAgree fixed S T → ⊥)
types_decided false S T = at (unify_typs ((S, T) ∷ [])) refl
  where
    at : (o : Option (List TypeEntry)) → unify_typs ((S, T) ∷ []) ≡ o → TypesAgree false S T ⊎ (TypesAgree false S T → ⊥)
    at (Some r) e = inl (r, (types_most_general ((S, T) ∷ []) r e).unifies.0)
    at None e = inr (λ a. types_no_unifier ((S, T) ∷ []) e a.0 (a.1, tt))
types_decided true S T = at (ty_matched nothing S T) refl
  where
    never : ty_matched nothing S T ≡ None → TypesAgree true S T → ⊥
    never e a =
        let all = a.0 ++ themselves S in
        let within : TypesWithin [] all = record { keeps = λ x i U h. absurd (cc) } in
        let found = ty_completes S T nothing all within (λ x i h. found_right x i a.0 (themselves S) (themselves_cover x i S h)) (inst_with_themselves a.0 (themselves S) (themselves_are S) S ∙ a.1) in
        let z : Some found.0 ≡ None = sym found.1 ∙ e in
        absurd (cc)

    at : (o : Option Instance) → ty_matched nothing S T ≡ o → TypesAgree true S T ⊎ (TypesAgree true S T → ⊥)
    at (Some r) e = inl (r.types, (ty_finds S T nothing r e).fit.gives r.types (types_within_self r.types))
    at None e = inr (never e)

-- ---- heads
one_more : (n : ℕ) (f a : Tm) → n + 1 + length (args_of f) ≡ n + length (args_of f ++ a ∷ [])
one_more n f a = let e = length-append (args_of f) (a ∷ []) in omega (arith, e)

pub data Rigid (n : ℕ) (t : Tm) : Type 0 where
  is_const : (c : List ℕ) (T : Ty) → head_of t ≡ Const c T → symbol_on n t ≡ Constant c (n + length (args_of t)) → IsHead t → Rigid n t
  is_free : (x : List ℕ) (T : Ty) → head_of t ≡ Free x T → symbol_on n t ≡ Variable' x (n + length (args_of t)) → IsHead t → Rigid n t

pub kind_of : (n : ℕ) (t : Tm) → (symbol_on n t ≡ Star) ⊎ Rigid n t
kind_of n (Const c T) = let e : n ≡ n + 0 = omega arith in inr (is_const c T refl (ap (λ m. Constant c m) e) tt)
kind_of n (Free x T) = let e : n ≡ n + 0 = omega arith in inr (is_free x T refl (ap (λ m. Variable' x m) e) tt)
kind_of n (Unknown x i T) = inl refl
kind_of n (Bound i) = inl refl
kind_of n (Abs x T b) = inl refl
kind_of n (App f a) = at (kind_of (n + 1) f)
  where
    at : (symbol_on (n + 1) f ≡ Star) ⊎ Rigid (n + 1) f → (symbol_on n (App f a) ≡ Star) ⊎ Rigid n (App f a)
    at (inl e) = inl e
    at (inr (is_const c T h s k)) = inr (is_const c T h (s ∙ ap (λ m. Constant c m) (one_more n f a)) tt)
    at (inr (is_free x T h s k)) = inr (is_free x T h (s ∙ ap (λ m. Variable' x m) (one_more n f a)) tt)

-- the symbol of a term by its head
const_symbol : (n : ℕ) (t : Tm) (d : List ℕ) (T : Ty) → head_of t ≡ Const d T → symbol_on n t ≡ Constant d (n + length (args_of t))
const_symbol n (Const c U) d T h = let e : n ≡ n + 0 = omega arith in let z : c ≡ d = cc in ap (λ v. Constant v n) z ∙ ap (λ m. Constant d m) e
const_symbol n (Free x U) d T h = absurd (cc)
const_symbol n (Unknown x i U) d T h = absurd (cc)
const_symbol n (Bound i) d T h = absurd (cc)
const_symbol n (Abs x U b) d T h = absurd (cc)
const_symbol n (App f a) d T h = const_symbol (n + 1) f d T h ∙ ap (λ m. Constant d m) (one_more n f a)

free_symbol : (n : ℕ) (t : Tm) (d : List ℕ) (T : Ty) → head_of t ≡ Free d T → symbol_on n t ≡ Variable' d (n + length (args_of t))
free_symbol n (Free c U) d T h = let e : n ≡ n + 0 = omega arith in let z : c ≡ d = cc in ap (λ v. Variable' v n) z ∙ ap (λ m. Variable' d m) e
free_symbol n (Const x U) d T h = absurd (cc)
free_symbol n (Unknown x i U) d T h = absurd (cc)
free_symbol n (Bound i) d T h = absurd (cc)
free_symbol n (Abs x U b) d T h = absurd (cc)
free_symbol n (App f a) d T h = free_symbol (n + 1) f d T h ∙ ap (λ m. Variable' d m) (one_more n f a)

-- names and types, whether they agree
named_decided : (fixed : Bool) (c d : List ℕ) (S T : Ty) → ((c ≡ d) × TypesAgree fixed S T) ⊎ ((c ≡ d) × TypesAgree fixed S T → ⊥)
named_decided fixed c d S T = at (name_eq c d) refl (types_decided fixed S T)
  where
    at : (b : Bool) → name_eq c d ≡ b → TypesAgree fixed S T ⊎ (TypesAgree fixed S T → ⊥) → ((c ≡ d) × TypesAgree fixed S T) ⊎ ((c ≡ d) × TypesAgree fixed S T → ⊥)
    at true e (inl a) = inl (name_true c d e, a)
    at true e (inr n) = inr (λ p. n p.1)
    at false e o = inr (λ p. let z : name_eq c d ≡ true = subst (λ v. name_eq c v ≡ true) p.0 (name_self c) in absurd (cc))

const_decided : (fixed : Bool) (c : List ℕ) (S : Ty) (g : Tm) → HeadsAgree fixed (Const c S) g ⊎ (HeadsAgree fixed (Const c S) g → ⊥)
const_decided fixed c S (Const d T) = named_decided fixed c d S T
const_decided fixed c S (Free d T) = inr (λ a. a)
const_decided fixed c S (Unknown d i T) = inr (λ a. a)
const_decided fixed c S (Bound i) = inr (λ a. a)
const_decided fixed c S (Abs d T b) = inr (λ a. a)
const_decided fixed c S (App f a) = inr (λ a. a)

free_decided : (fixed : Bool) (c : List ℕ) (S : Ty) (g : Tm) → HeadsAgree fixed (Free c S) g ⊎ (HeadsAgree fixed (Free c S) g → ⊥)
free_decided fixed c S (Free d T) = named_decided fixed c d S T
free_decided fixed c S (Const d T) = inr (λ a. a)
free_decided fixed c S (Unknown d i T) = inr (λ a. a)
free_decided fixed c S (Bound i) = inr (λ a. a)
free_decided fixed c S (Abs d T b) = inr (λ a. a)
free_decided fixed c S (App f a) = inr (λ a. a)

-- the heads agree, with as many arguments, or the terms clash
data Meets (fixed : Bool) (p t : Tm) : Type 0 where
  agree : HeadsAgree fixed (head_of p) (head_of t) → length (args_of p) ≡ length (args_of t) → symbol_eq (symbol_of p) (symbol_of t) ≡ true → Meets fixed p t
  part : Clash fixed p t → Meets fixed p t

numbers_agree : (m n : ℕ) → nat_eq m n ≡ true → m ≡ n
numbers_agree m n h = grind (arith, nat_tests)

numbers_differ : (m n : ℕ) → nat_eq m n ≡ false → m ≡ n → ⊥
numbers_differ m n h e = grind (arith, nat_tests)

same_key : (c d : List ℕ) (m n : ℕ) → c ≡ d → m ≡ n → (name_eq c d && nat_eq (0 + m) (0 + n)) ≡ true
same_key c d m n e q = ap (λ v. name_eq c v && nat_eq (0 + m) (0 + n)) (sym e) ∙ ap (λ b. b && nat_eq (0 + m) (0 + n)) (name_self c) ∙ ap (λ k. nat_eq (0 + m) (0 + k)) (sym q) ∙ number_self (0 + m)

meets : (fixed : Bool) (p t : Tm) → AreRigid fixed p t → Rigid 0 p → Meets fixed p t
meets fixed p t r (is_const c S h s k) = at (const_decided fixed c S (head_of t))
  where
    same : (g : Tm) → head_of t ≡ g → HeadsAgree fixed (Const c S) g → length (args_of p) ≡ length (args_of t) → symbol_eq (symbol_of p) (symbol_of t) ≡ true
    same (Const d T) e a l = ap (λ v. symbol_eq v (symbol_of t)) s ∙ ap (λ v. symbol_eq (Constant c (0 + length (args_of p))) v) (const_symbol 0 t d T e) ∙ same_key c d (length (args_of p)) (length (args_of t)) a.0 l
    same (Free d T) e a l = absurd a
    same (Unknown d i T) e a l = absurd a
    same (Bound i) e a l = absurd a
    same (Abs d T b) e a l = absurd a
    same (App f b) e a l = absurd a

    counted : HeadsAgree fixed (Const c S) (head_of t) → (b : Bool) → nat_eq (length (args_of p)) (length (args_of t)) ≡ b → Meets fixed p t
    counted a false q = part (numbers r (numbers_differ (length (args_of p)) (length (args_of t)) q))
    counted a true q = let l = numbers_agree (length (args_of p)) (length (args_of t)) q in agree (subst (λ v. HeadsAgree fixed v (head_of t)) (sym h) a) l (same (head_of t) refl a l)

    at : HeadsAgree fixed (Const c S) (head_of t) ⊎ (HeadsAgree fixed (Const c S) (head_of t) → ⊥) → Meets fixed p t
    at (inr n) = part (heads r (λ a. n (subst (λ v. HeadsAgree fixed v (head_of t)) h a)))
    at (inl a) = counted a (nat_eq (length (args_of p)) (length (args_of t))) refl
meets fixed p t r (is_free c S h s k) = at (free_decided fixed c S (head_of t))
  where
    same : (g : Tm) → head_of t ≡ g → HeadsAgree fixed (Free c S) g → length (args_of p) ≡ length (args_of t) → symbol_eq (symbol_of p) (symbol_of t) ≡ true
    same (Free d T) e a l = ap (λ v. symbol_eq v (symbol_of t)) s ∙ ap (λ v. symbol_eq (Variable' c (0 + length (args_of p))) v) (free_symbol 0 t d T e) ∙ same_key c d (length (args_of p)) (length (args_of t)) a.0 l
    same (Const d T) e a l = absurd a
    same (Unknown d i T) e a l = absurd a
    same (Bound i) e a l = absurd a
    same (Abs d T b) e a l = absurd a
    same (App f b) e a l = absurd a

    counted : HeadsAgree fixed (Free c S) (head_of t) → (b : Bool) → nat_eq (length (args_of p)) (length (args_of t)) ≡ b → Meets fixed p t
    counted a false q = part (numbers r (numbers_differ (length (args_of p)) (length (args_of t)) q))
    counted a true q = let l = numbers_agree (length (args_of p)) (length (args_of t)) q in agree (subst (λ v. HeadsAgree fixed v (head_of t)) (sym h) a) l (same (head_of t) refl a l)

    at : HeadsAgree fixed (Free c S) (head_of t) ⊎ (HeadsAgree fixed (Free c S) (head_of t) → ⊥) → Meets fixed p t
    at (inr n) = part (heads r (λ a. n (subst (λ v. HeadsAgree fixed v (head_of t)) h a)))
    at (inl a) = counted a (nat_eq (length (args_of p)) (length (args_of t))) refl

-- ---- rigid terms
flexible_head : (t : Tm) → is_flexible t ≡ is_flexible (head_of t)
flexible_head (Const c T) = refl
flexible_head (Free x T) = refl
flexible_head (Unknown x i T) = refl
flexible_head (Bound i) = refl
flexible_head (Abs x T b) = refl
flexible_head (App f a) = flexible_head f

unpassed_head : (mode : Mode) (t : Tm) → passes mode t ≡ false → IsHead t
unpassed_head mode (Const c T) h = tt
unpassed_head mode (Free x T) h = tt
unpassed_head mode (Unknown x i T) h = tt
unpassed_head mode (Bound i) h = tt
unpassed_head mode (Abs x T b) h = absurd (cc)
unpassed_head mode (App f a) h = tt

unpassed_rigid : (t : Tm) → passes Unifiable t ≡ false → is_flexible t ≡ false
unpassed_rigid (Const c T) h = refl
unpassed_rigid (Free x T) h = refl
unpassed_rigid (Unknown x i T) h = absurd (cc)
unpassed_rigid (Bound i) h = refl
unpassed_rigid (Abs x T b) h = refl
unpassed_rigid (App f a) h = unpassed_rigid f h

unpassed_right : (mode : Mode) (t : Tm) → passes mode t ≡ false → is_fixed mode ≡ false → is_flexible t ≡ false
unpassed_right Unifiable t h e = unpassed_rigid t h
unpassed_right Matching t h e = absurd (cc)

are_rigid : (mode : Mode) (p t : Tm) → Rigid 0 p → passes mode t ≡ false → AreRigid (is_fixed mode) p t
are_rigid mode p t (is_const c S h s k) b = record { left_head = k; right_head = unpassed_head mode t b; left = flexible_head p ∙ ap is_flexible h; right = unpassed_right mode t b }
are_rigid mode p t (is_free c S h s k) b = record { left_head = k; right_head = unpassed_head mode t b; left = flexible_head p ∙ ap is_flexible h; right = unpassed_right mode t b }

-- ---- words of arguments
abbrev pub words_of : List Tm → List Symbol
words_of [] = []
words_of (p ∷ ps) = word p ++ words_of ps

words_of-append : (ps qs : List Tm) → words_of (ps ++ qs) ≡ words_of ps ++ words_of qs
words_of-append [] qs = refl
words_of-append (p ∷ ps) qs = ap (λ v. word p ++ v) (words_of-append ps qs) ∙ sym (append_assoc (word p) (words_of ps) (words_of qs))

args_words : (t : Tm) → args_word t ≡ words_of (args_of t)
args_words (Const c T) = refl
args_words (Free x T) = refl
args_words (Unknown x i T) = refl
args_words (Bound i) = refl
args_words (Abs x T b) = refl
args_words (App f a) = ap (λ v. v ++ word a) (args_words f) ∙ ap (λ v. words_of (args_of f) ++ v) (sym (append-nil (word a))) ∙ sym (words_of-append (args_of f) (a ∷ []))

abbrev pub size_of : List Tm → ℕ
size_of [] = 0
size_of (p ∷ ps) = nodes p + size_of ps

size_of-append : (ps qs : List Tm) → size_of (ps ++ qs) ≡ size_of ps + size_of qs
size_of-append [] qs = omega arith
size_of-append (p ∷ ps) qs = let e = size_of-append ps qs in omega (arith, e)

pub args_size : (t : Tm) → size_of (args_of t) < nodes t
args_size (Const c T) = omega arith
args_size (Free x T) = omega arith
args_size (Unknown x i T) = omega arith
args_size (Bound i) = omega arith
args_size (Abs x T b) = omega arith
args_size (App f a) = let e = args_size f in let q = size_of-append (args_of f) (a ∷ []) in omega (arith, e, q)

-- the word of a term: a star, or a symbol with the words of as many arguments
pub data Spelled (p : Tm) : Type 0 where
  as_star : word p ≡ Star ∷ [] → Spelled p
  as_symbol : (s : Symbol) → s ≡ symbol_of p → s ≢ Star → arity s ≡ length (args_of p) → word p ≡ s ∷ words_of (args_of p) → Rigid 0 p → Spelled p

pub spelled : (p : Tm) → Spelled p
spelled p = at (kind_of 0 p)
  where
    at : (symbol_on 0 p ≡ Star) ⊎ Rigid 0 p → Spelled p
    at (inl e) = as_star (ap (λ s. with_args s (args_word p)) e)
    at (inr (is_const c T h e k)) = as_symbol (Constant c (length (args_of p))) (let q : length (args_of p) ≡ 0 + length (args_of p) = omega arith in ap (λ m. Constant c m) q ∙ sym e) (λ q. cc) refl (let q : 0 + length (args_of p) ≡ length (args_of p) = omega arith in ap (λ s. with_args s (args_word p)) (e ∙ ap (λ m. Constant c m) q) ∙ ap (λ v. Constant c (length (args_of p)) ∷ v) (args_words p)) (is_const c T h e k)
    at (inr (is_free c T h e k)) = as_symbol (Variable' c (length (args_of p))) (let q : length (args_of p) ≡ 0 + length (args_of p) = omega arith in ap (λ m. Variable' c m) q ∙ sym e) (λ q. cc) refl (let q : 0 + length (args_of p) ≡ length (args_of p) = omega arith in ap (λ s. with_args s (args_word p)) (e ∙ ap (λ m. Variable' c m) q) ∙ ap (λ v. Variable' c (length (args_of p)) ∷ v) (args_words p)) (is_free c T h e k)

-- ---- passing over words
pub over_reads : (mode : Mode) (k : ℕ) (ps : List Tm) → size_of ps ≤ k → (is : List Item) (w : List Symbol) → reads mode (overs (length ps) ++ is) (words_of ps ++ w) ≡ reads mode is w
over_reads mode k [] l is w = refl
over_reads mode zero (p ∷ ps) l is w = let q = args_size p in absurd (omega (arith, q))
over_reads mode (suc k) (p ∷ ps) l is w =
    ap (λ v. reads mode (Over ∷ (overs (length ps) ++ is)) v) (append_assoc (word p) (words_of ps) w) ∙ at (spelled p) (λ v. over_reads mode k (args_of p) (let q = args_size p in omega (arith, q)) (overs (length ps) ++ is) v) ∙ over_reads mode k ps (let q = args_size p in omega (arith, q)) is w
  where
    at : Spelled p → ((v : List Symbol) → reads mode (overs (length (args_of p)) ++ (overs (length ps) ++ is)) (words_of (args_of p) ++ v) ≡ reads mode (overs (length ps) ++ is) v) → reads mode (Over ∷ (overs (length ps) ++ is)) (word p ++ (words_of ps ++ w)) ≡ reads mode (overs (length ps) ++ is) (words_of ps ++ w)
    at (as_star e) f = ap (λ v. reads mode (Over ∷ (overs (length ps) ++ is)) (v ++ (words_of ps ++ w))) e
    at (as_symbol s q d n e r) f = ap (λ v. reads mode (Over ∷ (overs (length ps) ++ is)) (v ++ (words_of ps ++ w))) e ∙ ap (λ m. reads mode (overs m ++ (overs (length ps) ++ is)) (words_of (args_of p) ++ (words_of ps ++ w))) n ∙ f (words_of ps ++ w)

-- ---- what follows a symbol
pub along_same : (t : Tm) (s : Symbol) → (s ≡ Star → ⊥) → symbol_eq s (symbol_of t) ≡ true → along t s ≡ Some (alongs (args_of t))
along_same t Star d e = absurd (d refl)
along_same t (Constant c m) d e = ap (λ b. cond b (Some (alongs (args_of t))) None) e
along_same t (Variable' c m) d e = ap (λ b. cond b (Some (alongs (args_of t))) None) e

-- what follows the symbol, by what is to be read behind it
pub follows : (mode : Mode) (t : Tm) (s : Symbol) (js is : List Item) (v : List Symbol) → after mode (Along t) s ≡ Some js → reads mode (Along t ∷ is) (s ∷ v) ≡ reads mode (js ++ is) v
follows mode t s js is v e = ap (λ (o : Option (List Item)). elim (option_map (λ ks. ks ++ is) o) as (λ x. Option (List Item)) [ None ↦ None | Some ks ↦ reads mode ks v ]) e

pub after_passed : (mode : Mode) (t : Tm) (s : Symbol) → passes mode t ≡ true → after mode (Along t) s ≡ Some (overs (arity s))
after_passed mode t s e = ap (λ b. cond b (Some (overs (arity s))) (along t s)) e

pub after_star : (mode : Mode) (t : Tm) → after mode (Along t) Star ≡ Some []
after_star mode t = at (passes mode t)
  where
    at : (b : Bool) → cond b (Some (overs 0)) (Some []) ≡ Some []
    at true = refl
    at false = refl

pub after_along : (mode : Mode) (t : Tm) (s : Symbol) → passes mode t ≡ false → after mode (Along t) s ≡ along t s
after_along mode t s e = ap (λ b. cond b (Some (overs (arity s))) (along t s)) e

-- ---- reading along terms
-- the words of the terms can be read along the others, or two of them clash
data Reads (mode : Mode) (ps ts : List Tm) : Type 0 where
  reads_on : ((is : List Item) (w : List Symbol) → reads mode (alongs ts ++ is) (words_of ps ++ w) ≡ reads mode is w) → Reads mode ps ts
  clash_at : (i : ℕ) (a b : Tm) → slice_get ps i ≡ Some a → slice_get ts i ≡ Some b → Clash (is_fixed mode) a b → Reads mode ps ts

data ReadsOne (mode : Mode) (p t : Tm) : Type 0 where
  reads_on_one : ((is : List Item) (w : List Symbol) → reads mode (Along t ∷ is) (word p ++ w) ≡ reads mode is w) → ReadsOne mode p t
  clash_there : Clash (is_fixed mode) p t → ReadsOne mode p t

-- one term, by its arguments
read_one : (mode : Mode) (p t : Tm) → ((length (args_of p) ≡ length (args_of t)) → Reads mode (args_of p) (args_of t)) → ReadsOne mode p t
read_one mode p t f = at (spelled p)
  where
    star : word p ≡ Star ∷ [] → ReadsOne mode p t
    star e = reads_on_one (λ is w. ap (λ v. reads mode (Along t ∷ is) (v ++ w)) e ∙ follows mode t Star [] is w (after_star mode t))

    passed : (s : Symbol) → arity s ≡ length (args_of p) → word p ≡ s ∷ words_of (args_of p) → passes mode t ≡ true → ReadsOne mode p t
    passed s n e b = reads_on_one (λ is w. ap (λ v. reads mode (Along t ∷ is) (v ++ w)) e ∙ follows mode t s (overs (arity s)) is (words_of (args_of p) ++ w) (after_passed mode t s b) ∙ ap (λ m. reads mode (overs m ++ is) (words_of (args_of p) ++ w)) n ∙ over_reads mode (size_of (args_of p)) (args_of p) (omega arith) is w)

    args : (s : Symbol) → s ≡ symbol_of p → (s ≡ Star → ⊥) → word p ≡ s ∷ words_of (args_of p) → passes mode t ≡ false → AreRigid (is_fixed mode) p t → HeadsAgree (is_fixed mode) (head_of p) (head_of t) → symbol_eq (symbol_of p) (symbol_of t) ≡ true → Reads mode (args_of p) (args_of t) → ReadsOne mode p t
    args s q d e b r a x (reads_on g) = reads_on_one (λ is w. ap (λ v. reads mode (Along t ∷ is) (v ++ w)) e ∙ follows mode t s (alongs (args_of t)) is (words_of (args_of p) ++ w) (after_along mode t s b ∙ along_same t s d (ap (λ v. symbol_eq v (symbol_of t)) q ∙ x)) ∙ g is w)
    args s q d e b r a x (clash_at i y u h k c) = clash_there (argument r a i y u h k c)

    meeting : (s : Symbol) → s ≡ symbol_of p → (s ≡ Star → ⊥) → word p ≡ s ∷ words_of (args_of p) → passes mode t ≡ false → AreRigid (is_fixed mode) p t → Meets (is_fixed mode) p t → ReadsOne mode p t
    meeting s q d e b r (part c) = clash_there c
    meeting s q d e b r (agree a l x) = args s q d e b r a x (f l)

    symbol : (s : Symbol) → s ≡ symbol_of p → (s ≡ Star → ⊥) → arity s ≡ length (args_of p) → word p ≡ s ∷ words_of (args_of p) → Rigid 0 p → (b : Bool) → passes mode t ≡ b → ReadsOne mode p t
    symbol s q d n e r true b = passed s n e b
    symbol s q d n e r false b = let g = are_rigid mode p t r b in meeting s q d e b g (meets (is_fixed mode) p t g r)

    at : Spelled p → ReadsOne mode p t
    at (as_star e) = star e
    at (as_symbol s q d n e r) = symbol s q d n e r (passes mode t) refl

along_reads : (mode : Mode) (k : ℕ) (ps ts : List Tm) → size_of ps ≤ k → length ps ≡ length ts → Reads mode ps ts
along_reads mode k [] [] l m = reads_on (λ is w. refl)
along_reads mode k [] (t ∷ ts) l m = absurd (omega arith)
along_reads mode k (p ∷ ps) [] l m = absurd (omega arith)
along_reads mode zero (p ∷ ps) (t ∷ ts) l m = let q = args_size p in absurd (omega (arith, q))
along_reads mode (suc k) (p ∷ ps) (t ∷ ts) l m = at (read_one mode p t (λ n. along_reads mode k (args_of p) (args_of t) (let q = args_size p in omega (arith, q)) n)) (along_reads mode k ps ts (let q = args_size p in omega (arith, q)) (omega arith))
  where
    at : ReadsOne mode p t → Reads mode ps ts → Reads mode (p ∷ ps) (t ∷ ts)
    at (clash_there c) r = clash_at 0 p t refl refl c
    at (reads_on_one f) (clash_at i a b h k c) = clash_at (suc i) a b h k c
    at (reads_on_one f) (reads_on g) = reads_on (λ is w. ap (λ v. reads mode (Along t ∷ (alongs ts ++ is)) v) (append_assoc (word p) (words_of ps) w) ∙ f (alongs ts ++ is) (words_of ps ++ w) ∙ g is w)

-- a key whose word doesn't agree with the term clashes with it
pub missed_clashes : (mode : Mode) (p t : Tm) → agrees mode t (word p) ≡ false → Clash (is_fixed mode) p t
missed_clashes mode p t h = at (read_one mode p t (λ n. along_reads mode (size_of (args_of p)) (args_of p) (args_of t) (omega arith) n))
  where
    at : ReadsOne mode p t → Clash (is_fixed mode) p t
    at (clash_there c) = c
    at (reads_on_one f) =
        let e : reads mode (Along t ∷ []) (word p) ≡ Some [] = ap (λ v. reads mode (Along t ∷ []) v) (sym (append-nil (word p))) ∙ f [] [] in
        let q : agrees mode t (word p) ≡ true = ap (λ o. is_some o) e in
        absurd (cc)
