-- What is read as a type is a phrase of the grammar.
use Rattle.std.proofs.Common.{◌≡◌, ℕ, ◌≤◌, ◌+◌, Bool, true, false, cond, nat_lt, nat_eq, max, List, [], ◌∷◌, ◌++◌, Option, None, Some, length, refl, sym, ap, subst, ◌∙◌, arith}
use Rattle.isa_terms.specs.Types.{Ty, TyCon, TyFixed, TyUnknown, tys_of}
use Rattle.isa_terms.specs.Typing.{function_of}
use Rattle.isa_inner_types.specs.declared.token.TextToken.{TextToken}
use Rattle.isa_inner_types.specs.declared.token.TextToken.TheVariants as token
use Rattle.isa_inner_types.specs.declared.token.TypeRefusal.TheVariants as refusal
use Rattle.isa_inner_types.specs.TypeReading.{Outcome, Read, Refused, Place, Whole, Behind, Arguments, Domains, Step, Ends, Goes, Inside, and_then, limit, Use, Right, Wrong, use_of, used, construct, functions_of, front, behind, closed, arguments, range, domains, step}
use Rattle.isa_inner_types.specs.TypeGrammar.{TypePhrase, Alone, To, From, Closed, Fixed, Open, Named, Postfix, Tuple, Parenthesised, Several, Last, Next, ReadsTypes}
use Rattle.isa_inner_types.proofs.TypeOutcomes.{MeansStep, part_of, steps_mean}
use Rattle.isa_inner_types.proofs.TypeSteps.{behind_name, first_argument, first_domain, next_argument, next_domain, to_function, to_functions}

-- what an outcome of a place means in the grammar
abbrev Means : Outcome → Place → List TextToken → Type 0
Means (Refused why at) p ts = Unit {0}
Means (Read T h rest) (Whole d) ts = TypePhrase ts T rest
Means (Read T h rest) (Behind d left k) ts = (start : List TextToken) → Closed start left ts → TypePhrase start T rest
Means (Read T h rest) (Arguments d Ts k) ts = (start : List TextToken) → Several start Ts ts → TypePhrase (token.Open ∷ start) T rest
Means (Read T h rest) (Domains d Ts k) ts = (start : List TextToken) → Several start Ts ts → TypePhrase (token.OpenList ∷ start) T rest

-- one more type
several_more : (start : List TextToken) (Ts : List Ty) (at : List TextToken) → Several start Ts at → (later : List TextToken) → at ≡ token.Comma ∷ later → (T : Ty) (rest : List TextToken) → TypePhrase later T rest → Several start (Ts ++ T ∷ []) rest
several_more _ _ _ (Last S ts at p) later e T rest q = Next S (T ∷ []) ts later rest (subst (λ (l : List TextToken). TypePhrase ts S l) e p) (Last T later rest q)
several_more _ _ _ (Next S Ts ts us at p r) later e T rest q = Next S (Ts ++ T ∷ []) ts us rest p (several_more us Ts at r later e T rest q)

-- the only type of a list
only_of : (start : List TextToken) (Ts : List Ty) (at : List TextToken) → Several start Ts at → (T : Ty) → Ts ≡ T ∷ [] → TypePhrase start T at
only_of _ _ _ (Last S ts at p) T e = let same : S ≡ T = cc in subst (λ (U : Ty). TypePhrase ts U at) same p
only_of _ _ _ (Next S Ts ts us at p r) T e = none us Ts at r (cc)
  where
    none : (us : List TextToken) (Ts : List Ty) (at : List TextToken) → Several us Ts at → Ts ≡ [] → TypePhrase ts T at
    none _ _ _ (Last S ts at p) e = absurd cc
    none _ _ _ (Next S Ts ts us at p r) e = absurd cc

-- a constructor that is used takes so many arguments
constructed : (c : List ℕ) (n : Option ℕ) (Ts : List Ty) (at : List TextToken) (go : Ty → Step) (T : Ty) (h : ℕ) (rest : List TextToken) → MeansStep Means (construct c n Ts at go) (Read T h rest) → (n ≡ Some (length Ts)) × MeansStep Means (go (TyCon c (tys_of Ts))) (Read T h rest)
constructed c None Ts at go T h rest g = absurd cc
constructed c (Some k) Ts at go T h rest g = choice (nat_eq k (length Ts)) refl g
  where
    choice : (b : Bool) → nat_eq k (length Ts) ≡ b → MeansStep Means (used (cond b Right (Wrong refusal.Arity)) c Ts at go) (Read T h rest) → (Some k ≡ Some (length Ts)) × MeansStep Means (go (TyCon c (tys_of Ts))) (Read T h rest)
    choice true e g = let same : k ≡ length Ts = grind arith in (ap Some same, g)
    choice false e g = absurd cc

front_means : (d : ℕ) (ts : List TextToken) (T : Ty) (h : ℕ) (rest : List TextToken) → MeansStep Means (front d ts) (Read T h rest) → TypePhrase ts T rest
front_means d [] T h rest g = absurd cc
front_means d (token.Name c n ∷ ts) T h rest g =
    let k = constructed c n [] (token.Name c n ∷ ts) (behind_name d 0 ts) T h rest g in
    k.1 (token.Name c n ∷ ts) (subst (λ (o : Option ℕ). Closed (token.Name c o ∷ ts) (TyCon c (tys_of [])) ts) (sym k.0) (Named c ts))
front_means d (token.Variable x ∷ ts) T h rest g = g (token.Variable x ∷ ts) (Fixed x ts)
front_means d (token.Unknown x ∷ ts) T h rest g = g (token.Unknown x ∷ ts) (Open x ts)
front_means d (token.Open ∷ ts) T h rest g =
    let p = part_of Means (Whole (d + 1)) ts (first_argument d) T h rest g in
    p.goes_on_so ts (Last p.T ts p.later p.reads)
front_means d (token.Close ∷ ts) T h rest g = absurd cc
front_means d (token.OpenList ∷ ts) T h rest g =
    let p = part_of Means (Whole (d + 2)) ts (first_domain d) T h rest g in
    p.goes_on_so ts (Last p.T ts p.later p.reads)
front_means d (token.CloseList ∷ ts) T h rest g = absurd cc
front_means d (token.Comma ∷ ts) T h rest g = absurd cc
front_means d (token.Arrow ∷ ts) T h rest g = absurd cc
front_means d (token.Refused k ∷ ts) T h rest g = absurd cc
front_means d (token.Other x ∷ ts) T h rest g = absurd cc

whole_means : (d : ℕ) (ts : List TextToken) (T : Ty) (h : ℕ) (rest : List TextToken) → MeansStep Means (step (Whole d) ts) (Read T h rest) → TypePhrase ts T rest
whole_means d ts T h rest g = choice (nat_lt limit d) g
  where
    choice : (deep : Bool) → MeansStep Means (cond deep (Ends (Refused refusal.Deep ts)) (front d ts)) (Read T h rest) → TypePhrase ts T rest
    choice true g = absurd cc
    choice false g = front_means d ts T h rest g

-- nothing goes on
ended : (start ts : List TextToken) (left T : Ty) (k h : ℕ) (rest : List TextToken) → Closed start left ts → Read T h rest ≡ Read left k ts → TypePhrase start T rest
ended start ts left T k h rest p g =
    let same : T ≡ left = cc in
    let rests : rest ≡ ts = cc in
    subst (λ (U : Ty). TypePhrase start U rest) (sym same) (subst (λ (l : List TextToken). TypePhrase start left l) (sym rests) (Alone left start ts p))

behind_means : (d : ℕ) (left : Ty) (k : ℕ) (ts : List TextToken) (T : Ty) (h : ℕ) (rest : List TextToken) → MeansStep Means (behind d left k ts) (Read T h rest) → (start : List TextToken) → Closed start left ts → TypePhrase start T rest
behind_means d left k [] T h rest g start p = ended start [] left T k h rest p g
behind_means d left k (token.Name c n ∷ ts) T h rest g start p =
    let q = constructed c n (left ∷ []) (token.Name c n ∷ ts) (behind_name d k ts) T h rest g in
    q.1 start (Postfix left c start ts (subst (λ (o : Option ℕ). Closed start left (token.Name c o ∷ ts)) q.0 p))
behind_means d left k (token.Variable x ∷ ts) T h rest g start p = ended start (token.Variable x ∷ ts) left T k h rest p g
behind_means d left k (token.Unknown x ∷ ts) T h rest g start p = ended start (token.Unknown x ∷ ts) left T k h rest p g
behind_means d left k (token.Open ∷ ts) T h rest g start p = ended start (token.Open ∷ ts) left T k h rest p g
behind_means d left k (token.Close ∷ ts) T h rest g start p = ended start (token.Close ∷ ts) left T k h rest p g
behind_means d left k (token.OpenList ∷ ts) T h rest g start p = ended start (token.OpenList ∷ ts) left T k h rest p g
behind_means d left k (token.CloseList ∷ ts) T h rest g start p = ended start (token.CloseList ∷ ts) left T k h rest p g
behind_means d left k (token.Comma ∷ ts) T h rest g start p = ended start (token.Comma ∷ ts) left T k h rest p g
behind_means d left k (token.Arrow ∷ ts) T h rest g start p = choice (nat_lt (d + k) limit) g
  where
    choice : (b : Bool) → MeansStep Means (cond b (Inside (Whole (d + 1)) ts (and_then (to_function left k))) (Ends (Refused refusal.Deep (token.Arrow ∷ ts)))) (Read T h rest) → TypePhrase start T rest
    choice false g = absurd cc
    choice true g =
        let q = part_of Means (Whole (d + 1)) ts (to_function left k) T h rest g in
        let e : Read T h rest ≡ Read (function_of left q.T) (max k q.h + 1) q.later = q.goes_on_so in
        let same : T ≡ function_of left q.T = cc in
        let rests : q.later ≡ rest = cc in
        subst (λ (U : Ty). TypePhrase start U rest) (sym same) (To left q.T start ts rest p (subst (λ (l : List TextToken). TypePhrase ts q.T l) rests q.reads))
behind_means d left k (token.Refused i ∷ ts) T h rest g start p = ended start (token.Refused i ∷ ts) left T k h rest p g
behind_means d left k (token.Other x ∷ ts) T h rest g start p = ended start (token.Other x ∷ ts) left T k h rest p g

-- what stands in parentheses
closed_means : (d : ℕ) (Ts : List Ty) (k : ℕ) (ts : List TextToken) (T : Ty) (h : ℕ) (rest : List TextToken) → MeansStep Means (closed d Ts k ts) (Read T h rest) → (start : List TextToken) → Several start Ts (token.Close ∷ ts) → TypePhrase (token.Open ∷ start) T rest
closed_means d (S ∷ []) k ts T h rest g start p = g (token.Open ∷ start) (Parenthesised S start ts (only_of start (S ∷ []) (token.Close ∷ ts) p S refl))
closed_means d [] k [] T h rest g start p = absurd cc
closed_means d [] k (token.Name c n ∷ ts) T h rest g start p =
    let q = constructed c n [] (token.Name c n ∷ ts) (behind_name d k ts) T h rest g in
    q.1 (token.Open ∷ start) (Tuple [] c start ts (subst (λ (o : Option ℕ). Several start [] (token.Close ∷ token.Name c o ∷ ts)) q.0 p))
closed_means d [] k (token.Variable x ∷ ts) T h rest g start p = absurd cc
closed_means d [] k (token.Unknown x ∷ ts) T h rest g start p = absurd cc
closed_means d [] k (token.Open ∷ ts) T h rest g start p = absurd cc
closed_means d [] k (token.Close ∷ ts) T h rest g start p = absurd cc
closed_means d [] k (token.OpenList ∷ ts) T h rest g start p = absurd cc
closed_means d [] k (token.CloseList ∷ ts) T h rest g start p = absurd cc
closed_means d [] k (token.Comma ∷ ts) T h rest g start p = absurd cc
closed_means d [] k (token.Arrow ∷ ts) T h rest g start p = absurd cc
closed_means d [] k (token.Refused i ∷ ts) T h rest g start p = absurd cc
closed_means d [] k (token.Other x ∷ ts) T h rest g start p = absurd cc
closed_means d (S ∷ U ∷ Ts) k [] T h rest g start p = absurd cc
closed_means d (S ∷ U ∷ Ts) k (token.Name c n ∷ ts) T h rest g start p =
    let q = constructed c n (S ∷ U ∷ Ts) (token.Name c n ∷ ts) (behind_name d k ts) T h rest g in
    q.1 (token.Open ∷ start) (Tuple (S ∷ U ∷ Ts) c start ts (subst (λ (o : Option ℕ). Several start (S ∷ U ∷ Ts) (token.Close ∷ token.Name c o ∷ ts)) q.0 p))
closed_means d (S ∷ U ∷ Ts) k (token.Variable x ∷ ts) T h rest g start p = absurd cc
closed_means d (S ∷ U ∷ Ts) k (token.Unknown x ∷ ts) T h rest g start p = absurd cc
closed_means d (S ∷ U ∷ Ts) k (token.Open ∷ ts) T h rest g start p = absurd cc
closed_means d (S ∷ U ∷ Ts) k (token.Close ∷ ts) T h rest g start p = absurd cc
closed_means d (S ∷ U ∷ Ts) k (token.OpenList ∷ ts) T h rest g start p = absurd cc
closed_means d (S ∷ U ∷ Ts) k (token.CloseList ∷ ts) T h rest g start p = absurd cc
closed_means d (S ∷ U ∷ Ts) k (token.Comma ∷ ts) T h rest g start p = absurd cc
closed_means d (S ∷ U ∷ Ts) k (token.Arrow ∷ ts) T h rest g start p = absurd cc
closed_means d (S ∷ U ∷ Ts) k (token.Refused i ∷ ts) T h rest g start p = absurd cc
closed_means d (S ∷ U ∷ Ts) k (token.Other x ∷ ts) T h rest g start p = absurd cc

arguments_mean : (d : ℕ) (Ts : List Ty) (k : ℕ) (ts : List TextToken) (T : Ty) (h : ℕ) (rest : List TextToken) → MeansStep Means (arguments d Ts k ts) (Read T h rest) → (start : List TextToken) → Several start Ts ts → TypePhrase (token.Open ∷ start) T rest
arguments_mean d Ts k [] T h rest g start p = absurd cc
arguments_mean d Ts k (token.Name c n ∷ ts) T h rest g start p = absurd cc
arguments_mean d Ts k (token.Variable x ∷ ts) T h rest g start p = absurd cc
arguments_mean d Ts k (token.Unknown x ∷ ts) T h rest g start p = absurd cc
arguments_mean d Ts k (token.Open ∷ ts) T h rest g start p = absurd cc
arguments_mean d Ts k (token.Close ∷ ts) T h rest g start p = closed_means d Ts k ts T h rest g start p
arguments_mean d Ts k (token.OpenList ∷ ts) T h rest g start p = absurd cc
arguments_mean d Ts k (token.CloseList ∷ ts) T h rest g start p = absurd cc
arguments_mean d Ts k (token.Comma ∷ ts) T h rest g start p =
    let q = part_of Means (Whole (d + 1)) ts (next_argument d Ts k) T h rest g in
    q.goes_on_so start (several_more start Ts (token.Comma ∷ ts) p ts refl q.T q.later q.reads)
arguments_mean d Ts k (token.Arrow ∷ ts) T h rest g start p = absurd cc
arguments_mean d Ts k (token.Refused i ∷ ts) T h rest g start p = absurd cc
arguments_mean d Ts k (token.Other x ∷ ts) T h rest g start p = absurd cc

range_means : (d : ℕ) (Ts : List Ty) (k : ℕ) (ts : List TextToken) (T : Ty) (h : ℕ) (rest : List TextToken) → MeansStep Means (range d Ts k ts) (Read T h rest) → (start : List TextToken) → Several start Ts (token.CloseList ∷ ts) → TypePhrase (token.OpenList ∷ start) T rest
range_means d Ts k [] T h rest g start p = absurd cc
range_means d Ts k (token.Name c n ∷ ts) T h rest g start p = absurd cc
range_means d Ts k (token.Variable x ∷ ts) T h rest g start p = absurd cc
range_means d Ts k (token.Unknown x ∷ ts) T h rest g start p = absurd cc
range_means d Ts k (token.Open ∷ ts) T h rest g start p = absurd cc
range_means d Ts k (token.Close ∷ ts) T h rest g start p = absurd cc
range_means d Ts k (token.OpenList ∷ ts) T h rest g start p = absurd cc
range_means d Ts k (token.CloseList ∷ ts) T h rest g start p = absurd cc
range_means d Ts k (token.Comma ∷ ts) T h rest g start p = absurd cc
range_means d Ts k (token.Arrow ∷ ts) T h rest g start p =
    let q = part_of Means (Whole (d + 1)) ts (to_functions Ts k) T h rest g in
    let e : Read T h rest ≡ Read (functions_of Ts q.T) (max k (q.h + 1)) q.later = q.goes_on_so in
    let same : T ≡ functions_of Ts q.T = cc in
    let rests : q.later ≡ rest = cc in
    subst (λ (U : Ty). TypePhrase (token.OpenList ∷ start) U rest) (sym same) (From Ts q.T start ts rest p (subst (λ (l : List TextToken). TypePhrase ts q.T l) rests q.reads))
range_means d Ts k (token.Refused i ∷ ts) T h rest g start p = absurd cc
range_means d Ts k (token.Other x ∷ ts) T h rest g start p = absurd cc

domains_mean : (d : ℕ) (Ts : List Ty) (k : ℕ) (ts : List TextToken) (T : Ty) (h : ℕ) (rest : List TextToken) → MeansStep Means (domains d Ts k ts) (Read T h rest) → (start : List TextToken) → Several start Ts ts → TypePhrase (token.OpenList ∷ start) T rest
domains_mean d Ts k [] T h rest g start p = absurd cc
domains_mean d Ts k (token.Name c n ∷ ts) T h rest g start p = absurd cc
domains_mean d Ts k (token.Variable x ∷ ts) T h rest g start p = absurd cc
domains_mean d Ts k (token.Unknown x ∷ ts) T h rest g start p = absurd cc
domains_mean d Ts k (token.Open ∷ ts) T h rest g start p = absurd cc
domains_mean d Ts k (token.Close ∷ ts) T h rest g start p = absurd cc
domains_mean d Ts k (token.OpenList ∷ ts) T h rest g start p = absurd cc
domains_mean d Ts k (token.CloseList ∷ ts) T h rest g start p = range_means d Ts k ts T h rest g start p
domains_mean d Ts k (token.Comma ∷ ts) T h rest g start p =
    let q = part_of Means (Whole (d + 2)) ts (next_domain d Ts k) T h rest g in
    q.goes_on_so start (several_more start Ts (token.Comma ∷ ts) p ts refl q.T q.later q.reads)
domains_mean d Ts k (token.Arrow ∷ ts) T h rest g start p = absurd cc
domains_mean d Ts k (token.Refused i ∷ ts) T h rest g start p = absurd cc
domains_mean d Ts k (token.Other x ∷ ts) T h rest g start p = absurd cc

place_means : (p : Place) (ts : List TextToken) (o : Outcome) → MeansStep Means (step p ts) o → Means o p ts
place_means p ts (Refused w at) g = tt
place_means (Whole d) ts (Read T h rest) g = whole_means d ts T h rest g
place_means (Behind d left k) ts (Read T h rest) g = behind_means d left k ts T h rest g
place_means (Arguments d Ts k) ts (Read T h rest) g = arguments_mean d Ts k ts T h rest g
place_means (Domains d Ts k) ts (Read T h rest) g = domains_mean d Ts k ts T h rest g

pub reads_types : ReadsTypes
reads_types d ts T h rest r = whole_means d ts T h rest (steps_mean Means place_means (step (Whole d) ts) (Read T h rest) r)
