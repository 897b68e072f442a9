-- The reading of types has no dead end.
use Rattle.std.proofs.Common.{◌≡◌, ℕ, ◌≤◌, ◌<◌, ◌+◌, ◌⊎◌, Bool, true, false, cond, nat_lt, nat_eq, max, List, [], ◌∷◌, ◌++◌, Option, None, Some, length, refl, sym, ap, subst, ◌∙◌, inl, inr, append_assoc, arith}
use Rattle.isa_terms.specs.Types.{Ty, TyCon, TyFixed, TyUnknown, tys_of}
use Rattle.isa_terms.specs.Typing.{function_of}
use Rattle.isa_inner_types.specs.declared.token.TextToken.{TextToken}
use Rattle.isa_inner_types.specs.declared.token.TextToken.TheVariants as token
use Rattle.isa_inner_types.specs.declared.token.TypeRefusal.{TypeRefusal}
use Rattle.isa_inner_types.specs.declared.token.TypeRefusal.TheVariants as refusal
use Rattle.isa_inner_types.specs.TypeReading.{Outcome, Read, Refused, Place, Whole, Behind, Arguments, Domains, Step, Ends, Goes, Inside, and_then, limit, Right, Wrong, used, construct, functions_of, front, behind, closed, arguments, range, domains, step, Runs, at_end, type_text}
use Rattle.isa_inner_types.specs.TypeAnswers.{IsNoName, IsNoArrow}
use Rattle.isa_inner_types.specs.TypeGrammar.{TypePhrase, Alone, To, From, Closed, Fixed, Open, Named, Postfix, Tuple, Parenthesised, Several, Last, Next, IsDeep, NoTypeDeadEnd}
use Rattle.isa_inner_types.proofs.TypeOutcomes.{invert}
use Rattle.isa_inner_types.proofs.TypeSteps.{behind_name, behind_end, first_argument, first_domain, next_argument, next_domain, to_function, to_functions}

-- what comes of a part that ends the whole
after_deep : (go : Ty → ℕ → List TextToken → Step) (part o : Outcome) → Runs (and_then go part) o → IsDeep part → IsDeep o
after_deep go (Read T h rest) o x d = absurd d
after_deep go (Refused refusal.Deep at) o x d = subst IsDeep (sym (invert (Ends (Refused refusal.Deep at)) o x)) tt
after_deep go (Refused (refusal.Expected w) at) o x d = absurd d
after_deep go (Refused refusal.Undeclared at) o x d = absurd d
after_deep go (Refused refusal.Arity at) o x d = absurd d
after_deep go (Refused (refusal.Met n) at) o x d = absurd d

after_read : (go : Ty → ℕ → List TextToken → Step) (part o : Outcome) → Runs (and_then go part) o → (T : Ty) (h : ℕ) (later : List TextToken) → part ≡ Read T h later → Runs (go T h later) o
after_read go part o x T h later e = subst (λ (u : Outcome). Runs (and_then go u) o) e x

whole_runs : (d : ℕ) (ts : List TextToken) (o : Outcome) → Runs (step (Whole d) ts) o → IsDeep o ⊎ Runs (front d ts) o
whole_runs d ts o x = choice (nat_lt limit d) x
  where
    choice : (deep : Bool) → Runs (cond deep (Ends (Refused refusal.Deep ts)) (front d ts)) o → IsDeep o ⊎ Runs (front d ts) o
    choice true x = inl (subst IsDeep (sym (invert (Ends (Refused refusal.Deep ts)) o x)) tt)
    choice false x = inr x

same_length : (n : ℕ) → nat_eq n n ≡ true
same_length n = grind arith

-- a constructor with as many arguments as it takes
constructs : (c : List ℕ) (Ts : List Ty) (at : List TextToken) (go : Ty → Step) (o : Outcome) → Runs (construct c (Some (length Ts)) Ts at go) o → Runs (go (TyCon c (tys_of Ts))) o
constructs c Ts at go o x = subst (λ (b : Bool). Runs (used (cond b Right (Wrong refusal.Arity)) c Ts at go) o) (same_length (length Ts)) x

abbrev Stands : ℕ → Ty → List TextToken → Outcome → Type 0
Stands d T rest o = (h : ℕ) × Runs (behind d T h rest) o

abbrev Finished : Ty → List TextToken → Outcome → Type 0
Finished T rest o = (h : ℕ) × (o ≡ Read T h rest)

closes : (d : ℕ) (Ts : List Ty) (c : List ℕ) (h : ℕ) (rest : List TextToken) (o : Outcome) → Runs (closed d Ts h (token.Name c (Some (length Ts)) ∷ rest)) o → Stands d (TyCon c (tys_of Ts)) rest o
closes d [] c h rest o x = (h, invert (Goes (Behind d (TyCon c (tys_of [])) h) rest) o (constructs c [] (token.Name c (Some (length {A = Ty} [])) ∷ rest) (behind_name d h rest) o x))
closes d (T ∷ []) c h rest o x =
    let y = invert (Goes (Behind d T h) (token.Name c (Some (length (T ∷ []))) ∷ rest)) o x in
    (h, invert (Goes (Behind d (TyCon c (tys_of (T ∷ []))) h) rest) o (constructs c (T ∷ []) (token.Name c (Some (length (T ∷ []))) ∷ rest) (behind_name d h rest) o y))
closes d (T ∷ S ∷ Ts) c h rest o x = (h, invert (Goes (Behind d (TyCon c (tys_of (T ∷ S ∷ Ts))) h) rest) o (constructs c (T ∷ S ∷ Ts) (token.Name c (Some (length (T ∷ S ∷ Ts))) ∷ rest) (behind_name d h rest) o x))

abbrev further_argument : ℕ → List Ty → (ℕ → ℕ) → Ty → ℕ → List TextToken → Step
further_argument d Us f T h later = Goes (Arguments d (Us ++ T ∷ []) (f h)) later

abbrev further_domain : ℕ → List Ty → (ℕ → ℕ) → Ty → ℕ → List TextToken → Step
further_domain d Us f T h later = Goes (Domains d (Us ++ T ∷ []) (f h)) later

-- behind `=>`
arrow_at : (d : ℕ) (T : Ty) (h : ℕ) (later : List TextToken) (U : Ty) (rest : List TextToken) (o : Outcome) → ((e : ℕ) (part : Outcome) → Runs (step (Whole e) later) part → IsDeep part ⊎ Finished U rest part) → Runs (behind d T h (token.Arrow ∷ later)) o → IsDeep o ⊎ Finished (function_of T U) rest o
arrow_at d T h later U rest o f x = choice (nat_lt (d + h) limit) x
  where
    choice : (b : Bool) → Runs (cond b (Inside (Whole (d + 1)) later (and_then (to_function T h))) (Ends (Refused refusal.Deep (token.Arrow ∷ later)))) o → IsDeep o ⊎ Finished (function_of T U) rest o
    choice false x = inl (subst IsDeep (sym (invert (Ends (Refused refusal.Deep (token.Arrow ∷ later))) o x)) tt)
    choice true x =
        let i = invert (Inside (Whole (d + 1)) later (and_then (to_function T h))) o x in
        elim (f (d + 1) i.0 i.1) [
          | inl z ↦ inl (after_deep (to_function T h) i.0 o i.2 z)
          | inr r ↦ inr (max h r.0 + 1, invert (Ends (Read (function_of T U) (max h r.0 + 1) rest)) o (after_read (to_function T h) i.0 o i.2 U r.0 rest r.1))
        ]

mutual
  phrase_at : (ts : List TextToken) (T : Ty) (rest : List TextToken) → TypePhrase ts T rest → IsNoName rest → IsNoArrow rest → (d : ℕ) (o : Outcome) → Runs (step (Whole d) ts) o → IsDeep o ⊎ Finished T rest o
  phrase_at _ _ _ (Alone T ts rest p) n a d o x =
      elim (closed_at ts T rest p d o x) [
        | inl z ↦ inl z
        | inr y ↦ inr (y.0, invert (Ends (Read T y.0 rest)) o (subst (λ (s : Step). Runs s o) (behind_end d T y.0 rest n a) y.1))
      ]
  phrase_at _ _ _ (To T U ts later rest p q) n a d o x =
      elim (closed_at ts T (token.Arrow ∷ later) p d o x) [
        | inl z ↦ inl z
        | inr y ↦ arrow_at d T y.0 later U rest o (λ e v w. phrase_at later U rest q n a e v w) y.1
      ]
  phrase_at _ _ _ (From Ts U ts later rest p q) n a d o x =
      elim (whole_runs d (token.OpenList ∷ ts) o x) [
        | inl z ↦ inl z
        | inr y ↦ elim (domains_at ts Ts (token.CloseList ∷ token.Arrow ∷ later) p (token.Arrow ∷ later) refl d [] (λ h. h + 2) o y) [
          | inl z ↦ inl z
          | inr w ↦
              let i = invert (Inside (Whole (d + 1)) later (and_then (to_functions Ts w.0))) o w.1 in
              elim (phrase_at later U rest q n a (d + 1) i.0 i.1) [
                | inl z ↦ inl (after_deep (to_functions Ts w.0) i.0 o i.2 z)
                | inr r ↦ inr (max w.0 (r.0 + 1), invert (Ends (Read (functions_of Ts U) (max w.0 (r.0 + 1)) rest)) o (after_read (to_functions Ts w.0) i.0 o i.2 U r.0 rest r.1))
              ]
        ]
      ]

  closed_at : (ts : List TextToken) (T : Ty) (rest : List TextToken) → Closed ts T rest → (d : ℕ) (o : Outcome) → Runs (step (Whole d) ts) o → IsDeep o ⊎ Stands d T rest o
  closed_at _ _ _ (Fixed x rest) d o r =
      elim (whole_runs d (token.Variable x ∷ rest) o r) [ inl z ↦ inl z | inr y ↦ inr (0, invert (Goes (Behind d (TyFixed x) 0) rest) o y) ]
  closed_at _ _ _ (Open x rest) d o r =
      elim (whole_runs d (token.Unknown x ∷ rest) o r) [ inl z ↦ inl z | inr y ↦ inr (0, invert (Goes (Behind d (TyUnknown x 0) 0) rest) o y) ]
  closed_at _ _ _ (Named c rest) d o r =
      elim (whole_runs d (token.Name c (Some 0) ∷ rest) o r) [ inl z ↦ inl z | inr y ↦ inr (0, invert (Goes (Behind d (TyCon c (tys_of [])) 0) rest) o y) ]
  closed_at _ _ _ (Postfix T c ts rest p) d o r =
      elim (closed_at ts T (token.Name c (Some 1) ∷ rest) p d o r) [
        | inl z ↦ inl z
        | inr y ↦ inr (y.0, invert (Goes (Behind d (TyCon c (tys_of (T ∷ []))) y.0) rest) o (constructs c (T ∷ []) (token.Name c (Some 1) ∷ rest) (behind_name d y.0 rest) o y.1))
      ]
  closed_at _ _ _ (Tuple Ts c ts rest p) d o r =
      elim (whole_runs d (token.Open ∷ ts) o r) [
        | inl z ↦ inl z
        | inr y ↦ elim (arguments_at ts Ts (token.Close ∷ token.Name c (Some (length Ts)) ∷ rest) p (token.Name c (Some (length Ts)) ∷ rest) refl d [] (λ h. h + 1) o y) [
          | inl z ↦ inl z
          | inr w ↦ inr (closes d Ts c w.0 rest o w.1)
        ]
      ]
  closed_at _ _ _ (Parenthesised T ts rest p) d o r =
      elim (whole_runs d (token.Open ∷ ts) o r) [
        | inl z ↦ inl z
        | inr y ↦
            let i = invert (Inside (Whole (d + 1)) ts (and_then (first_argument d))) o y in
            elim (phrase_at ts T (token.Close ∷ rest) p tt tt (d + 1) i.0 i.1) [
              | inl z ↦ inl (after_deep (first_argument d) i.0 o i.2 z)
              | inr w ↦
                  let g = invert (Goes (Arguments d (T ∷ []) (w.0 + 1)) (token.Close ∷ rest)) o (after_read (first_argument d) i.0 o i.2 T w.0 (token.Close ∷ rest) w.1) in
                  inr (w.0 + 1, invert (Goes (Behind d T (w.0 + 1)) rest) o g)
            ]
      ]

  arguments_at : (ts : List TextToken) (Ts : List Ty) (at : List TextToken) → Several ts Ts at → (rest : List TextToken) → at ≡ token.Close ∷ rest → (d : ℕ) (Us : List Ty) (f : ℕ → ℕ) (o : Outcome) → Runs (Inside (Whole (d + 1)) ts (and_then (further_argument d Us f))) o → IsDeep o ⊎ ((h : ℕ) × Runs (closed d (Us ++ Ts) h rest) o)
  arguments_at _ _ _ (Last T ts at p) rest e d Us f o x =
      let i = invert (Inside (Whole (d + 1)) ts (and_then (further_argument d Us f))) o x in
      elim (phrase_at ts T at p (subst IsNoName (sym e) tt) (subst IsNoArrow (sym e) tt) (d + 1) i.0 i.1) [
        | inl z ↦ inl (after_deep (further_argument d Us f) i.0 o i.2 z)
        | inr w ↦ inr (f w.0, invert (Goes (Arguments d (Us ++ T ∷ []) (f w.0)) (token.Close ∷ rest)) o (subst (λ (l : List TextToken). Runs (Goes (Arguments d (Us ++ T ∷ []) (f w.0)) l) o) e (after_read (further_argument d Us f) i.0 o i.2 T w.0 at w.1)))
      ]
  arguments_at _ _ _ (Next T Ts ts later at p q) rest e d Us f o x =
      let i = invert (Inside (Whole (d + 1)) ts (and_then (further_argument d Us f))) o x in
      elim (phrase_at ts T (token.Comma ∷ later) p tt tt (d + 1) i.0 i.1) [
        | inl z ↦ inl (after_deep (further_argument d Us f) i.0 o i.2 z)
        | inr w ↦
            let g = invert (Goes (Arguments d (Us ++ T ∷ []) (f w.0)) (token.Comma ∷ later)) o (after_read (further_argument d Us f) i.0 o i.2 T w.0 (token.Comma ∷ later) w.1) in
            elim (arguments_at later Ts at q rest e d (Us ++ T ∷ []) (λ k. max (f w.0) (k + 1)) o g) [
              | inl z ↦ inl z
              | inr v ↦ inr (v.0, subst (λ (l : List Ty). Runs (closed d l v.0 rest) o) (append_assoc Us (T ∷ []) Ts) v.1)
            ]
      ]

  domains_at : (ts : List TextToken) (Ts : List Ty) (at : List TextToken) → Several ts Ts at → (rest : List TextToken) → at ≡ token.CloseList ∷ rest → (d : ℕ) (Us : List Ty) (f : ℕ → ℕ) (o : Outcome) → Runs (Inside (Whole (d + 2)) ts (and_then (further_domain d Us f))) o → IsDeep o ⊎ ((h : ℕ) × Runs (range d (Us ++ Ts) h rest) o)
  domains_at _ _ _ (Last T ts at p) rest e d Us f o x =
      let i = invert (Inside (Whole (d + 2)) ts (and_then (further_domain d Us f))) o x in
      elim (phrase_at ts T at p (subst IsNoName (sym e) tt) (subst IsNoArrow (sym e) tt) (d + 2) i.0 i.1) [
        | inl z ↦ inl (after_deep (further_domain d Us f) i.0 o i.2 z)
        | inr w ↦ inr (f w.0, invert (Goes (Domains d (Us ++ T ∷ []) (f w.0)) (token.CloseList ∷ rest)) o (subst (λ (l : List TextToken). Runs (Goes (Domains d (Us ++ T ∷ []) (f w.0)) l) o) e (after_read (further_domain d Us f) i.0 o i.2 T w.0 at w.1)))
      ]
  domains_at _ _ _ (Next T Ts ts later at p q) rest e d Us f o x =
      let i = invert (Inside (Whole (d + 2)) ts (and_then (further_domain d Us f))) o x in
      elim (phrase_at ts T (token.Comma ∷ later) p tt tt (d + 2) i.0 i.1) [
        | inl z ↦ inl (after_deep (further_domain d Us f) i.0 o i.2 z)
        | inr w ↦
            let g = invert (Goes (Domains d (Us ++ T ∷ []) (f w.0)) (token.Comma ∷ later)) o (after_read (further_domain d Us f) i.0 o i.2 T w.0 (token.Comma ∷ later) w.1) in
            elim (domains_at later Ts at q rest e d (Us ++ T ∷ []) (λ k. max (f w.0) (k + 2)) o g) [
              | inl z ↦ inl z
              | inr v ↦ inr (v.0, subst (λ (l : List Ty). Runs (range d l v.0 rest) o) (append_assoc Us (T ∷ []) Ts) v.1)
            ]
      ]

pub no_dead_end : NoTypeDeadEnd
no_dead_end ts T o p x =
    let i = invert (Inside (Whole 0) ts (and_then at_end)) o x in
    elim (phrase_at ts T [] p tt tt 0 i.0 i.1) [
      | inl z ↦ inl (after_deep at_end i.0 o i.2 z)
      | inr w ↦ inr (w.0, invert (Ends (Read T w.0 [])) o (after_read at_end i.0 o i.2 T w.0 [] w.1))
    ]
