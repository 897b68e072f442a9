-- How `t == t'`, t' being the normal form of t, comes of primitive inferences.
-- An instance is answered in normal form, the hypotheses aside. So with c a proposition that isn't in `t == t'`, the hypothesis `t == t' ==> c` gives `t' == t' ==> c`, and hence c. What follows, `!!c. (t == t' ==> c) ==> c`, gives `t == t'` at `t == t'`.
use Rattle.std.proofs.Common.{◌≡◌, ℕ, ◌+◌, List, [], ◌∷◌, Bool, true, false, cond, ◌||◌, ◌&&◌, Some, None, Result, Ok, refl, sym, ap, ◌∙◌, subst, not, arith}
use Rattle.std.specs.Prelude.{option_and_then}
use Rattle.std.specs.Cmp.Lexicographic.{bytes_decides}
use Rattle.isa_terms.specs.Types.{Ty, Tys, TyCon, TyFixed, TyUnknown, NoTys, MoreTys}
use Rattle.isa_terms.specs.Terms.{Tm, Const, Free, Unknown, Bound, Abs, App}
use Rattle.isa_terms.specs.Equal.{name_eq, ty_eq, tm_eq}
use Rattle.isa_terms.specs.Typing.{type_at}
use Rattle.isa_terms.specs.Norm.{norm}
use Rattle.isa_terms.specs.Normal.{IsNormal}
use Rattle.isa_terms.specs.Replace.{replace}
use Rattle.isa_terms.specs.Binding.{occurs, close, close_at}
use Rattle.isa_terms.specs.Instance.{Instance, instance_of, inst_ty, inst_tys, inst_tm, in_ty, in_tys, in_tm}
use Rattle.isa_terms.proofs.Bare.{tm_decides}
use Rattle.isa_terms.proofs.Equal.{ty_decides}
use Rattle.isa_terms.proofs.Typed.{Typed, TFree, type_of_typed, typed_of_type}
use Rattle.isa_terms.proofs.Conv.{right_typed, norm_conv}
use Rattle.isa_terms.proofs.ConversionLaws.{norm_twice}
use Rattle.isa_terms.proofs.NormalForms.{norm_same}
use Rattle.isa_terms.proofs.Instances.{put_same}
use Rattle.isa_terms.proofs.Shared.{raise_zero}
use Rattle.isa_kernel.specs.Logic.{prop, imp, eq, all}
use Rattle.isa_kernel.specs.Theorem.{Theorem}
use Rattle.isa_kernel.specs.Inferences.{Answers, has_type, well_typed, assumed, implies_introduced, implies_eliminated, forall_introduced, forall_eliminated, reflexive_at, instantiated}
use Rattle.isa_kernel.specs.Derived.{normal_form_at}
use Rattle.isa_kernel.specs.declared.inference.InferenceError.{InferenceError}
use Rattle.isa_kernel.specs.Replay.{Replay, IsRecorded}
use Rattle.isa_kernel.specs.Replays.{replay_of}
use Rattle.isa_kernel.specs.declared.log.LogNode.TheVariants.{Assume, ImpliesIntr, ImpliesElim, ForallIntr, ForallElim, Reflexive, InstantiateThm}
use Rattle.isa_kernel.proofs.Preserved.{imp_typed, eq_typed}
use Rattle.isa_kernel.proofs.Recorded.{proposition_typed, assumed_recorded, implies_introduced_recorded, implies_eliminated_recorded, forall_introduced_recorded, forall_eliminated_recorded, reflexive_at_recorded, instantiated_recorded}

or_none : (a b : Bool) → a ≡ false → b ≡ false → (a || b) ≡ false
or_none a b e f = ap (λ x. x || b) e ∙ f

-- ---- the empty instance
mutual
  empty_ty : (T : Ty) → (inst_ty [] T ≡ T) × (in_ty [] T ≡ false)
  empty_ty (TyCon x Ts) = let p = empty_tys Ts in (ap (TyCon x) p.0, p.1)
  empty_ty (TyFixed x) = (refl, refl)
  empty_ty (TyUnknown x i) = (refl, refl)

  empty_tys : (Ts : Tys) → (inst_tys [] Ts ≡ Ts) × (in_tys [] Ts ≡ false)
  empty_tys NoTys = (refl, refl)
  empty_tys (MoreTys T Ts) = let p = empty_ty T in let q = empty_tys Ts in ((λ i. MoreTys (p.0 i) (q.0 i)), or_none (in_ty [] T) (in_tys [] Ts) p.1 q.1)

empty_tm : (t : Tm) → (inst_tm [] [] t ≡ t) × (in_tm [] [] t ≡ false)
empty_tm (Const x T) = let p = empty_ty T in (ap (Const x) p.0, p.1)
empty_tm (Free x T) = let p = empty_ty T in (ap (Free x) p.0, p.1)
empty_tm (Unknown x n T) = let p = empty_ty T in (ap (Unknown x n) p.0, p.1)
empty_tm (Bound n) = (refl, refl)
empty_tm (Abs x T b) = let p = empty_ty T in let q = empty_tm b in ((λ i. Abs x (p.0 i) (q.0 i)), or_none (in_ty [] T) (in_tm [] [] b) p.1 q.1)
empty_tm (App f a) = let p = empty_tm f in let q = empty_tm a in ((λ i. App (p.0 i) (q.0 i)), or_none (in_tm [] [] f) (in_tm [] [] a) p.1 q.1)

-- ---- a free variable that isn't there
or_parts : (a b : Bool) → (a || b) ≡ false → (a ≡ false) × (b ≡ false)
or_parts true b e = cc
or_parts false b e = (refl, e)

close_absent : (x : List ℕ) (S : Ty) (k : ℕ) (t : Tm) → occurs x S t ≡ false → close_at x S k t ≡ t
close_absent x S k (Const y T) e = refl
close_absent x S k (Free y T) e = ap (λ b. cond b (Bound k) (Free y T)) e
close_absent x S k (Unknown y n T) e = refl
close_absent x S k (Bound n) e = refl
close_absent x S k (Abs y T b) e = ap (Abs y T) (close_absent x S (k + 1) b e)
close_absent x S k (App f a) e = let p = or_parts (occurs x S f) (occurs x S a) e in λ i. App (close_absent x S k f p.0 i) (close_absent x S k a p.1 i)

same_itself : (p : Tm) → tm_eq p p ≡ true
same_itself p = (tm_decides p p).1 refl

without_itself : (p q : Tm) → has_type p prop ≡ true → implies_introduced p (record { hyps = p ∷ []; prop = q; base = [] }) ≡ Some (record { hyps = []; prop = imp p q; base = [] })
without_itself p q w =
    ap (λ b. cond b (Some (record { hyps = cond (tm_eq p p) [] (p ∷ []); prop = imp p q; base = [] })) None) w ∙ ap (λ b. Some (record { hyps = cond b [] (p ∷ []); prop = imp p q; base = [] })) (same_itself p)

assumes : (p : Tm) → has_type p prop ≡ true → assumed p ≡ Some (record { hyps = p ∷ []; prop = p; base = [] })
assumes p w = ap (λ b. cond b (Some (record { hyps = p ∷ []; prop = p; base = [] })) None) w

module _ (t : Tm) (T : Ty) (x : List ℕ) (typed : type_at [] t ≡ Ok T) (new : occurs x prop (eq T t (norm t)) ≡ false) where
  normal_typed : Typed [] (norm t) T
  normal_typed = right_typed (norm_conv (typed_of_type [] t T typed))

  equation_typed : Typed [] (eq T t (norm t)) prop
  equation_typed = eq_typed (typed_of_type [] t T typed) normal_typed

  hidden_typed : Typed [] (imp (eq T t (norm t)) (Free x prop)) prop
  hidden_typed = imp_typed equation_typed TFree

  is_typed : (p : Tm) → Typed [] p prop → has_type p prop ≡ true
  is_typed p d = proposition_typed p (type_of_typed d)

  -- the hypothesis gives its normal form
  hidden_norm : instance_of (record { types = []; terms = [] }) (imp (eq T t (norm t)) (Free x prop)) ≡ imp (eq T (norm t) (norm t)) (Free x prop)
  hidden_norm = ap norm (empty_tm (imp (eq T t (norm t)) (Free x prop))).0 ∙ ap (λ m. imp (eq T (norm t) m) (Free x prop)) (norm_twice (typed_of_type [] t T typed))

  instance_answers : instantiated (record { types = []; terms = [] }) (record { hyps = imp (eq T t (norm t)) (Free x prop) ∷ []; prop = imp (eq T t (norm t)) (Free x prop); base = [] })
      ≡ Some (record { hyps = imp (eq T t (norm t)) (Free x prop) ∷ []; prop = imp (eq T (norm t) (norm t)) (Free x prop); base = [] })
  instance_answers =
      ap (λ b. cond (not_in b) (Some (record { hyps = imp (eq T t (norm t)) (Free x prop) ∷ []; prop = instance_of (record { types = []; terms = [] }) (imp (eq T t (norm t)) (Free x prop)); base = [] })) None) (or_none (in_tm [] [] (imp (eq T t (norm t)) (Free x prop))) false (empty_tm (imp (eq T t (norm t)) (Free x prop))).1 refl)
      ∙ ap (λ q. Some (record { hyps = imp (eq T t (norm t)) (Free x prop) ∷ []; prop = q; base = [] })) hidden_norm
    where
      not_in : Bool → Bool
      not_in b = true && not b

  reflexive_answers : reflexive_at (norm t) ≡ Some (record { hyps = []; prop = eq T (norm t) (norm t); base = [] })
  reflexive_answers = ap (λ r. option_and_then (λ (S : Ty). Some (record { hyps = []; prop = eq S (norm t) (norm t); base = [] })) (well_typed r)) (type_of_typed normal_typed)

  eliminated_answers : implies_eliminated (record { hyps = imp (eq T t (norm t)) (Free x prop) ∷ []; prop = imp (eq T (norm t) (norm t)) (Free x prop); base = [] }) (record { hyps = []; prop = eq T (norm t) (norm t); base = [] })
      ≡ Some (record { hyps = imp (eq T t (norm t)) (Free x prop) ∷ []; prop = Free x prop; base = [] })
  eliminated_answers = ap (λ b. cond b (Some (record { hyps = imp (eq T t (norm t)) (Free x prop) ∷ []; prop = Free x prop; base = [] })) None) (same_itself (eq T (norm t) (norm t)))

  variable_itself : (name_eq x x && ty_eq prop prop) ≡ true
  variable_itself = ap (λ b. b && ty_eq prop prop) ((bytes_decides x x).1 refl) ∙ (ty_decides prop prop).1 refl

  closes : close x prop (imp (imp (eq T t (norm t)) (Free x prop)) (Free x prop)) ≡ imp (imp (eq T t (norm t)) (Bound 0)) (Bound 0)
  closes = λ i. imp (imp (close_absent x prop 0 (eq T t (norm t)) new i) (cond (variable_itself i) (Bound 0) (Free x prop))) (cond (variable_itself i) (Bound 0) (Free x prop))

  forall_answers : forall_introduced (Free x prop) (record { hyps = []; prop = imp (imp (eq T t (norm t)) (Free x prop)) (Free x prop); base = [] })
      ≡ Some (record { hyps = []; prop = all x prop (imp (imp (eq T t (norm t)) (Bound 0)) (Bound 0)); base = [] })
  forall_answers = ap (λ b. Some (record { hyps = []; prop = all x prop b; base = [] })) closes

  replaces : replace (imp (imp (eq T t (norm t)) (Bound 0)) (Bound 0)) (eq T t (norm t)) ≡ imp (imp (eq T t (norm t)) (eq T t (norm t))) (eq T t (norm t))
  replaces = λ i. imp (imp (put_same equation_typed (eq T t (norm t)) 0 (omega arith) i) (raise_zero 0 0 (eq T t (norm t)) refl i)) (raise_zero 0 0 (eq T t (norm t)) refl i)

  at_answers : forall_eliminated (eq T t (norm t)) (record { hyps = []; prop = all x prop (imp (imp (eq T t (norm t)) (Bound 0)) (Bound 0)); base = [] })
      ≡ Some (record { hyps = []; prop = imp (imp (eq T t (norm t)) (eq T t (norm t))) (eq T t (norm t)); base = [] })
  at_answers =
      ap (λ b. cond b (Some (record { hyps = []; prop = replace (imp (imp (eq T t (norm t)) (Bound 0)) (Bound 0)) (eq T t (norm t)); base = [] })) None) (is_typed (eq T t (norm t)) equation_typed)
      ∙ ap (λ b. Some (record { hyps = []; prop = b; base = [] })) replaces

  last_answers : implies_eliminated (record { hyps = []; prop = imp (imp (eq T t (norm t)) (eq T t (norm t))) (eq T t (norm t)); base = [] }) (record { hyps = []; prop = imp (eq T t (norm t)) (eq T t (norm t)); base = [] })
      ≡ Some (record { hyps = []; prop = eq T t (norm t); base = [] })
  last_answers = ap (λ b. cond b (Some (record { hyps = []; prop = eq T t (norm t); base = [] })) None) (same_itself (imp (eq T t (norm t)) (eq T t (norm t))))

  pub recorded : (la li lr le lh lf lg ls lt log : Replay) → la ≡ replay_of (Assume (imp (eq T t (norm t)) (Free x prop))) → li ≡ replay_of (InstantiateThm (record { types = []; terms = [] }) la) → lr ≡ replay_of (Reflexive (norm t))
      → le ≡ replay_of (ImpliesElim li lr) → lh ≡ replay_of (ImpliesIntr (imp (eq T t (norm t)) (Free x prop)) le) → lf ≡ replay_of (ForallIntr (Free x prop) lh) → lg ≡ replay_of (ForallElim (eq T t (norm t)) lf)
      → ls ≡ replay_of (Assume (eq T t (norm t))) → lt ≡ replay_of (ImpliesIntr (eq T t (norm t)) ls) → log ≡ replay_of (ImpliesElim lg lt) → IsRecorded (record { hyps = []; prop = eq T t (norm t); base = [] }) log
  recorded la li lr le lh lf lg ls lt log ea ei er ee eh ef eg es et el =
      let wP = is_typed (imp (eq T t (norm t)) (Free x prop)) hidden_typed in
      let wE = is_typed (eq T t (norm t)) equation_typed in
      let a = assumed_recorded (imp (eq T t (norm t)) (Free x prop)) (imp (eq T t (norm t)) (Free x prop)) _ la ea refl (assumes (imp (eq T t (norm t)) (Free x prop)) wP) in
      let i = instantiated_recorded (record { types = []; terms = [] }) (record { types = []; terms = [] }) _ _ li la ei refl a instance_answers in
      let r = reflexive_at_recorded (norm t) (norm t) _ lr er refl reflexive_answers in
      let e = implies_eliminated_recorded _ _ _ le li lr ee i r eliminated_answers in
      let h = implies_introduced_recorded (imp (eq T t (norm t)) (Free x prop)) (imp (eq T t (norm t)) (Free x prop)) _ _ lh le eh refl e (without_itself (imp (eq T t (norm t)) (Free x prop)) (Free x prop) wP) in
      let f = forall_introduced_recorded (Free x prop) (Free x prop) _ _ lf lh ef refl h forall_answers in
      let g = forall_eliminated_recorded (eq T t (norm t)) (eq T t (norm t)) _ _ lg lf eg refl f at_answers in
      let s = assumed_recorded (eq T t (norm t)) (eq T t (norm t)) _ ls es refl (assumes (eq T t (norm t)) wE) in
      let u = implies_introduced_recorded (eq T t (norm t)) (eq T t (norm t)) _ _ lt ls et refl s (without_itself (eq T t (norm t)) (eq T t (norm t)) wE) in
      implies_eliminated_recorded _ _ _ log lg lt el g u last_answers

pub normal_form_recorded : (t m e c p : Tm) (T : Ty) (x : List ℕ) (la li lr le lh lf lg ls lt log : Replay) (s : Instance) (r d f : Tm) → type_at [] t ≡ Ok T → m ≡ norm t → e ≡ eq T t m → c ≡ Free x prop → p ≡ imp e c → occurs x prop e ≡ false
    → s ≡ record { types = []; terms = [] } → r ≡ m → d ≡ c → f ≡ e
    → la ≡ replay_of (Assume p) → li ≡ replay_of (InstantiateThm s la) → lr ≡ replay_of (Reflexive r) → le ≡ replay_of (ImpliesElim li lr) → lh ≡ replay_of (ImpliesIntr p le) → lf ≡ replay_of (ForallIntr d lh) → lg ≡ replay_of (ForallElim f lf)
    → ls ≡ replay_of (Assume e) → lt ≡ replay_of (ImpliesIntr e ls) → log ≡ replay_of (ImpliesElim lg lt) → IsRecorded (record { hyps = []; prop = e; base = [] }) log
normal_form_recorded t m e c p T x la li lr le lh lf lg ls lt log s r d f typed hm he hc hp new hs hr hd hf ea ei er ee eh ef eg es et el =
    let equation : e ≡ eq T t (norm t) = he ∙ ap (eq T t) hm in
    let hidden : p ≡ imp (eq T t (norm t)) (Free x prop) = hp ∙ (λ i. imp (equation i) (hc i)) in
    let absent : occurs x prop (eq T t (norm t)) ≡ false = ap (occurs x prop) (sym equation) ∙ new in
    subst
    (λ (q : Tm). IsRecorded (record { hyps = []; prop = q; base = [] }) log)
    (sym equation)
    (recorded
    t T x typed absent la li lr le lh lf lg ls lt log
    (ea ∙ ap (λ q. replay_of (Assume q)) hidden)
    (ei ∙ ap (λ q. replay_of (InstantiateThm q la)) hs)
    (er ∙ ap (λ q. replay_of (Reflexive q)) (hr ∙ hm))
    ee
    (eh ∙ ap (λ q. replay_of (ImpliesIntr q le)) hidden)
    (ef ∙ ap (λ q. replay_of (ForallIntr q lh)) (hd ∙ hc))
    (eg ∙ ap (λ q. replay_of (ForallElim q lf)) (hf ∙ equation))
    (es ∙ ap (λ q. replay_of (Assume q)) equation)
    (et ∙ ap (λ q. replay_of (ImpliesIntr q ls)) equation)
    el)

pub normal_form_of : (t m e : Tm) (T : Ty) (th : Theorem) (log : Replay) → type_at [] t ≡ Ok T → m ≡ norm t → e ≡ eq T t m → normal_form_at t ≡ Some th → IsRecorded (record { hyps = []; prop = e; base = [] }) log → IsRecorded th log
normal_form_of t m e T th log typed hm he h r =
    let made : normal_form_at t ≡ Some (record { hyps = []; prop = eq T t (norm t); base = [] }) = ap (λ q. option_and_then (λ (S : Ty). Some (record { hyps = []; prop = eq S t (norm t); base = [] })) (well_typed q)) typed in
    let same : Some (record { hyps = []; prop = eq T t (norm t); base = [] }) ≡ Some th = sym made ∙ h in
    let is : record { hyps = []; prop = eq T t (norm t); base = [] } ≡ th = cc (same) in
    subst (λ (x : Theorem). IsRecorded x log) is (subst (λ (q : Tm). IsRecorded (record { hyps = []; prop = q; base = [] }) log) (he ∙ ap (eq T t) hm) r)

-- a normal term is its own normal form
normal_reflexive : (t : Tm) → IsNormal t → reflexive_at t ≡ normal_form_at t
normal_reflexive t n = ap (λ m. option_and_then (λ (T : Ty). Some (record { hyps = []; prop = eq T t m; base = [] })) (well_typed (type_at [] t))) (sym (norm_same t n))

pub normal_answers : (t : Tm) (r : Result Theorem InferenceError) → IsNormal t → Answers r (reflexive_at t) → Answers r (normal_form_at t)
normal_answers t r n a = subst (Answers r) (normal_reflexive t n) a
