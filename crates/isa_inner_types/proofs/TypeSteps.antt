-- Steps of the reader of types.
use Rattle.std.proofs.Common.{◌≡◌, ℕ, ◌≤◌, ◌<◌, ◌+◌, Bool, true, false, cond, nat_lt, max, List, [], ◌∷◌, ◌++◌, Option, Some, None, Result, Ok, Err, length, refl, sym, ap, subst, ◌∙◌, arith}
use Rattle.std.specs.Result.{MatchResult, IsErrAnd}
use Rattle.isa_terms.specs.Types.{Ty, TyFixed, TyUnknown}
use Rattle.isa_terms.specs.Typing.{function_of}
use Rattle.isa_inner_types.specs.declared.token.TextToken.{TextToken}
use Rattle.isa_inner_types.specs.declared.token.TextToken.TheVariants as token
use Rattle.isa_inner_types.specs.declared.token.TypeRefusal.{TypeRefusal}
use Rattle.isa_inner_types.specs.declared.token.TypeRefusal.TheVariants as refusal
use Rattle.isa_inner_types.specs.declared.token.TypeWanted.{TypeWanted}
use Rattle.isa_inner_types.specs.declared.token.TypeWanted.TheVariants as wanted
use Rattle.isa_inner_types.specs.declared.reading.Fail.{Fail}
use Rattle.isa_inner_types.specs.declared.reading.Fail.TheVariants as fail
use Rattle.isa_inner_types.specs.TypeReading.{Outcome, Read, Refused, Place, Whole, Behind, Arguments, Domains, Step, Ends, Goes, Inside, and_then, why, refuse, limit, construct, functions_of, front, behind, closed, arguments, range, domains, step, Runs, ends, goes, inside, at_end, type_text}
use Rattle.isa_inner_types.specs.TypeAnswers.{IfRefused, FailsBy, Leads, IsRefusal, IsNoName, IsNoComma, IsNoClose, IsNoCloseList, IsNoArrow, IsNoSingle}

pub functions_last : (Ts : List Ty) (T U : Ty) → functions_of (Ts ++ T ∷ []) U ≡ functions_of Ts (function_of T U)
functions_last [] T U = refl
functions_last (S ∷ Ts) T U = ap (function_of S) (functions_last Ts T U)

-- an exit by `?` answers the failure that it met
pub exit : {T : Type 0} (r : Result T Fail) (e : Fail) (P : T → Type 0) (s : Step) → IsErrAnd r (λ x. x ≡ e) → FailsBy e s → MatchResult r P (λ f. FailsBy f s)
exit (Ok x) e P s h q = absurd h
exit (Err f) e P s h q = subst (λ (x : Fail). FailsBy x s) (sym h) q

pub refusal_of : (f : Fail) (w : TypeRefusal) (ts : List TextToken) (s : Step) → IsRefusal f w ts → s ≡ Ends (Refused w ts) → FailsBy f s
refusal_of fail.Memory w ts s h e = tt
refusal_of (fail.Refused x at) w ts s h e =
    subst (λ (t : Step). Runs t (Refused x at.now)) (sym e) (subst (λ (y : TypeRefusal). Runs (Ends (Refused w ts)) (Refused y at.now)) (sym h.0) (subst (λ (y : List TextToken). Runs (Ends (Refused w ts)) (Refused w y)) (sym h.1) (ends (Refused w ts))))

-- what fails later fails the whole
pub fails_later : (f : Fail) (s later : Step) → Leads s later → FailsBy f later → FailsBy f s
fails_later fail.Memory s later h q = tt
fails_later (fail.Refused w at) s later h q = h (Refused w at.now) q

pub fails_at : (f : Fail) (s : Step) → IfRefused f (λ w at. s ≡ Ends (Refused w at)) → FailsBy f s
fails_at fail.Memory s q = tt
fails_at (fail.Refused w at) s q = subst (λ (t : Step). Runs t (Refused w at.now)) (sym q) (ends (Refused w at.now))

pub refuses : (f : Fail) (X : (Ty → Step) → Step) (go : Ty → Step) → IfRefused f (λ w at. (g : Ty → Step) → X g ≡ Ends (Refused w at)) → FailsBy f (X go)
refuses fail.Memory X go q = tt
refuses (fail.Refused w at) X go q = fails_at (fail.Refused w at) (X go) (q go)

-- a refused part is the refusal of the whole
pub fails_inside : (f : Fail) (s : Step) (p : Place) (ts : List TextToken) (go : Ty → ℕ → List TextToken → Step) → s ≡ Inside p ts (and_then go) → FailsBy f (step p ts) → FailsBy f s
fails_inside fail.Memory s p ts go e q = tt
fails_inside (fail.Refused w at) s p ts go e q =
    subst (λ (t : Step). Runs t (Refused w at.now)) (sym e) (inside p ts (and_then go) (Refused w at.now) (Refused w at.now) q (ends (Refused w at.now)))

-- behind a part that is read the step goes on
pub leads_inside : (s : Step) (p : Place) (ts : List TextToken) (go : Ty → ℕ → List TextToken → Step) (T : Ty) (h : ℕ) (later : List TextToken) → s ≡ Inside p ts (and_then go) → Runs (step p ts) (Read T h later) → Leads s (go T h later)
leads_inside s p ts go T h later e q o r = subst (λ (x : Step). Runs x o) (sym e) (inside p ts (and_then go) (Read T h later) o q r)

pub leads_equal : (s later : Step) → s ≡ later → Leads s later
leads_equal s later e o r = subst (λ (x : Step). Runs x o) (sym e) r

pub leads_both : (s t u : Step) → Leads s t → Leads t u → Leads s u
leads_both s t u a b o r = a o (b o r)

pub leads_place : (s : Step) (p : Place) (ts : List TextToken) → s ≡ Goes p ts → Leads s (step p ts)
leads_place s p ts e o r = subst (λ (x : Step). Runs x o) (sym e) (goes p ts o r)

-- what a later call answers is the answer
pub later_result : {T : Type 0} (r : Result T Fail) (O : T → Outcome) (s t : Step) → Leads s t → MatchResult r (λ x. Runs t (O x)) (λ f. FailsBy f t) → MatchResult r (λ x. Runs s (O x)) (λ f. FailsBy f s)
later_result (Ok x) O s t h q = h (O x) q
later_result (Err f) O s t h q = fails_later f s t h q

-- tests of numbers
pub deeper : (n : ℕ) → limit < n → nat_lt limit n ≡ true
deeper n l = grind arith

pub deep_enough : (n : ℕ) → n ≤ limit → nat_lt limit n ≡ false
deep_enough n l = grind arith

pub too_deep : (n : ℕ) → limit ≤ n → nat_lt n limit ≡ false
too_deep n l = grind arith

pub not_too_deep : (n : ℕ) → n < limit → nat_lt n limit ≡ true
not_too_deep n l = grind arith

-- types
pub whole_deep : (d : ℕ) (ts : List TextToken) → limit < d → step (Whole d) ts ≡ Ends (Refused refusal.Deep ts)
whole_deep d ts l = ap (λ (b : Bool). cond b (Ends (Refused refusal.Deep ts)) (front d ts)) (deeper d l)

pub whole_front : (d : ℕ) (ts : List TextToken) → d ≤ limit → step (Whole d) ts ≡ front d ts
whole_front d ts l = ap (λ (b : Bool). cond b (Ends (Refused refusal.Deep ts)) (front d ts)) (deep_enough d l)

pub front_other : (d : ℕ) (ts : List TextToken) (first : TextToken) (after : List TextToken) → ts ≡ first ∷ after
    → ((x : List ℕ) → first ≡ token.Variable x → ⊥) → ((x : List ℕ) → first ≡ token.Unknown x → ⊥) → ((x : List ℕ) (n : Option ℕ) → first ≡ token.Name x n → ⊥) → (first ≡ token.Open → ⊥) → (first ≡ token.OpenList → ⊥)
    → front d ts ≡ refuse wanted.Type ts
front_other d ts first after e a b c f g = ap (front d) e ∙ other first a b c f g ∙ ap (refuse wanted.Type) (sym e)
  where
    other : (first : TextToken) → ((x : List ℕ) → first ≡ token.Variable x → ⊥) → ((x : List ℕ) → first ≡ token.Unknown x → ⊥) → ((x : List ℕ) (n : Option ℕ) → first ≡ token.Name x n → ⊥) → (first ≡ token.Open → ⊥) → (first ≡ token.OpenList → ⊥) → front d (first ∷ after) ≡ refuse wanted.Type (first ∷ after)
    other (token.Name x n) a b c f g = absurd (c x n refl)
    other (token.Variable x) a b c f g = absurd (a x refl)
    other (token.Unknown x) a b c f g = absurd (b x refl)
    other token.Open a b c f g = absurd (f refl)
    other token.Close a b c f g = refl
    other token.OpenList a b c f g = absurd (g refl)
    other token.CloseList a b c f g = refl
    other token.Comma a b c f g = refl
    other token.Arrow a b c f g = refl
    other (token.Refused n) a b c f g = refl
    other (token.Other x) a b c f g = refl

pub behind_end : (d : ℕ) (T : Ty) (h : ℕ) (ts : List TextToken) → IsNoName ts → IsNoArrow ts → behind d T h ts ≡ Ends (Read T h ts)
behind_end d T h [] n a = refl
behind_end d T h (token.Name x k ∷ ts) n a = absurd n
behind_end d T h (token.Variable x ∷ ts) n a = refl
behind_end d T h (token.Unknown x ∷ ts) n a = refl
behind_end d T h (token.Open ∷ ts) n a = refl
behind_end d T h (token.Close ∷ ts) n a = refl
behind_end d T h (token.OpenList ∷ ts) n a = refl
behind_end d T h (token.CloseList ∷ ts) n a = refl
behind_end d T h (token.Comma ∷ ts) n a = refl
behind_end d T h (token.Arrow ∷ ts) n a = absurd a
behind_end d T h (token.Refused k ∷ ts) n a = refl
behind_end d T h (token.Other x ∷ ts) n a = refl

abbrev pub to_function : Ty → ℕ → Ty → ℕ → List TextToken → Step
to_function T h U k later = Ends (Read (function_of T U) (max h k + 1) later)

pub behind_arrow : (d : ℕ) (T : Ty) (h : ℕ) (ts after : List TextToken) → ts ≡ token.Arrow ∷ after → d + h < limit → behind d T h ts ≡ Inside (Whole (d + 1)) after (and_then (to_function T h))
behind_arrow d T h ts after e l = ap (behind d T h) e ∙ ap (λ (b : Bool). cond b (Inside (Whole (d + 1)) after (and_then (to_function T h))) (Ends (Refused refusal.Deep (token.Arrow ∷ after)))) (not_too_deep (d + h) l)

pub behind_deep : (d : ℕ) (T : Ty) (h : ℕ) (ts after : List TextToken) → ts ≡ token.Arrow ∷ after → limit ≤ d + h → behind d T h ts ≡ Ends (Refused refusal.Deep ts)
behind_deep d T h ts after e l =
    ap (behind d T h) e
    ∙ ap (λ (b : Bool). cond b (Inside (Whole (d + 1)) after (and_then (to_function T h))) (Ends (Refused refusal.Deep (token.Arrow ∷ after)))) (too_deep (d + h) l)
    ∙ ap (λ (x : List TextToken). Ends (Refused refusal.Deep x)) (sym e)

abbrev pub behind_name : ℕ → ℕ → List TextToken → Ty → Step
behind_name d h after U = Goes (Behind d U h) after

abbrev pub first_argument : ℕ → Ty → ℕ → List TextToken → Step
first_argument d T h later = Goes (Arguments d (T ∷ []) (h + 1)) later

abbrev pub first_domain : ℕ → Ty → ℕ → List TextToken → Step
first_domain d T h later = Goes (Domains d (T ∷ []) (h + 2)) later

abbrev pub next_argument : ℕ → List Ty → ℕ → Ty → ℕ → List TextToken → Step
next_argument d Ts h T k later = Goes (Arguments d (Ts ++ T ∷ []) (max h (k + 1))) later

abbrev pub next_domain : ℕ → List Ty → ℕ → Ty → ℕ → List TextToken → Step
next_domain d Ts h T k later = Goes (Domains d (Ts ++ T ∷ []) (max h (k + 2))) later

abbrev pub to_functions : List Ty → ℕ → Ty → ℕ → List TextToken → Step
to_functions Ts h U k later = Ends (Read (functions_of Ts U) (max h (k + 1)) later)

pub closed_name : (d : ℕ) (Ts : List Ty) (h : ℕ) (ts : List TextToken) (c : List ℕ) (n : Option ℕ) (after : List TextToken) → IsNoSingle Ts → ts ≡ token.Name c n ∷ after → closed d Ts h ts ≡ construct c n Ts ts (behind_name d h after)
closed_name d [] h ts c n after s e = ap (closed d [] h) e ∙ ap (λ (l : List TextToken). construct c n [] l (behind_name d h after)) (sym e)
closed_name d (T ∷ []) h ts c n after s e = absurd s
closed_name d (T ∷ S ∷ Ts) h ts c n after s e = ap (closed d (T ∷ S ∷ Ts) h) e ∙ ap (λ (l : List TextToken). construct c n (T ∷ S ∷ Ts) l (behind_name d h after)) (sym e)

pub closed_refused : (d : ℕ) (Ts : List Ty) (h : ℕ) (ts : List TextToken) → IsNoSingle Ts → IsNoName ts → closed d Ts h ts ≡ refuse wanted.Name ts
closed_refused d [] h [] s n = refl
closed_refused d [] h (token.Name x k ∷ ts) s n = absurd n
closed_refused d [] h (token.Variable x ∷ ts) s n = refl
closed_refused d [] h (token.Unknown x ∷ ts) s n = refl
closed_refused d [] h (token.Open ∷ ts) s n = refl
closed_refused d [] h (token.Close ∷ ts) s n = refl
closed_refused d [] h (token.OpenList ∷ ts) s n = refl
closed_refused d [] h (token.CloseList ∷ ts) s n = refl
closed_refused d [] h (token.Comma ∷ ts) s n = refl
closed_refused d [] h (token.Arrow ∷ ts) s n = refl
closed_refused d [] h (token.Refused k ∷ ts) s n = refl
closed_refused d [] h (token.Other x ∷ ts) s n = refl
closed_refused d (T ∷ []) h ts s n = absurd s
closed_refused d (T ∷ S ∷ Ts) h [] s n = refl
closed_refused d (T ∷ S ∷ Ts) h (token.Name x k ∷ ts) s n = absurd n
closed_refused d (T ∷ S ∷ Ts) h (token.Variable x ∷ ts) s n = refl
closed_refused d (T ∷ S ∷ Ts) h (token.Unknown x ∷ ts) s n = refl
closed_refused d (T ∷ S ∷ Ts) h (token.Open ∷ ts) s n = refl
closed_refused d (T ∷ S ∷ Ts) h (token.Close ∷ ts) s n = refl
closed_refused d (T ∷ S ∷ Ts) h (token.OpenList ∷ ts) s n = refl
closed_refused d (T ∷ S ∷ Ts) h (token.CloseList ∷ ts) s n = refl
closed_refused d (T ∷ S ∷ Ts) h (token.Comma ∷ ts) s n = refl
closed_refused d (T ∷ S ∷ Ts) h (token.Arrow ∷ ts) s n = refl
closed_refused d (T ∷ S ∷ Ts) h (token.Refused k ∷ ts) s n = refl
closed_refused d (T ∷ S ∷ Ts) h (token.Other x ∷ ts) s n = refl

-- what ends a list
pub arguments_refused : (d : ℕ) (Ts : List Ty) (h : ℕ) (ts : List TextToken) → IsNoComma ts → IsNoClose ts → arguments d Ts h ts ≡ refuse wanted.Close ts
arguments_refused d Ts h [] a b = refl
arguments_refused d Ts h (token.Name x k ∷ ts) a b = refl
arguments_refused d Ts h (token.Variable x ∷ ts) a b = refl
arguments_refused d Ts h (token.Unknown x ∷ ts) a b = refl
arguments_refused d Ts h (token.Open ∷ ts) a b = refl
arguments_refused d Ts h (token.Close ∷ ts) a b = absurd b
arguments_refused d Ts h (token.OpenList ∷ ts) a b = refl
arguments_refused d Ts h (token.CloseList ∷ ts) a b = refl
arguments_refused d Ts h (token.Comma ∷ ts) a b = absurd a
arguments_refused d Ts h (token.Arrow ∷ ts) a b = refl
arguments_refused d Ts h (token.Refused k ∷ ts) a b = refl
arguments_refused d Ts h (token.Other x ∷ ts) a b = refl

pub domains_refused : (d : ℕ) (Ts : List Ty) (h : ℕ) (ts : List TextToken) → IsNoComma ts → IsNoCloseList ts → domains d Ts h ts ≡ refuse wanted.CloseList ts
domains_refused d Ts h [] a b = refl
domains_refused d Ts h (token.Name x k ∷ ts) a b = refl
domains_refused d Ts h (token.Variable x ∷ ts) a b = refl
domains_refused d Ts h (token.Unknown x ∷ ts) a b = refl
domains_refused d Ts h (token.Open ∷ ts) a b = refl
domains_refused d Ts h (token.Close ∷ ts) a b = refl
domains_refused d Ts h (token.OpenList ∷ ts) a b = refl
domains_refused d Ts h (token.CloseList ∷ ts) a b = absurd b
domains_refused d Ts h (token.Comma ∷ ts) a b = absurd a
domains_refused d Ts h (token.Arrow ∷ ts) a b = refl
domains_refused d Ts h (token.Refused k ∷ ts) a b = refl
domains_refused d Ts h (token.Other x ∷ ts) a b = refl

pub range_refused : (d : ℕ) (Ts : List Ty) (h : ℕ) (ts : List TextToken) → IsNoArrow ts → range d Ts h ts ≡ refuse wanted.Arrow ts
range_refused d Ts h [] a = refl
range_refused d Ts h (token.Name x k ∷ ts) a = refl
range_refused d Ts h (token.Variable x ∷ ts) a = refl
range_refused d Ts h (token.Unknown x ∷ ts) a = refl
range_refused d Ts h (token.Open ∷ ts) a = refl
range_refused d Ts h (token.Close ∷ ts) a = refl
range_refused d Ts h (token.OpenList ∷ ts) a = refl
range_refused d Ts h (token.CloseList ∷ ts) a = refl
range_refused d Ts h (token.Comma ∷ ts) a = refl
range_refused d Ts h (token.Arrow ∷ ts) a = absurd a
range_refused d Ts h (token.Refused k ∷ ts) a = refl
range_refused d Ts h (token.Other x ∷ ts) a = refl

pub arguments_comma : (d : ℕ) (Ts : List Ty) (h : ℕ) (ts after : List TextToken) → ts ≡ token.Comma ∷ after → arguments d Ts h ts ≡ Inside (Whole (d + 1)) after (and_then (next_argument d Ts h))
arguments_comma d Ts h ts after e = ap (arguments d Ts h) e

pub arguments_close : (d : ℕ) (Ts : List Ty) (h : ℕ) (ts after : List TextToken) → ts ≡ token.Close ∷ after → arguments d Ts h ts ≡ closed d Ts h after
arguments_close d Ts h ts after e = ap (arguments d Ts h) e

pub closed_single : (d : ℕ) (Ts : List Ty) (T : Ty) (h : ℕ) (ts : List TextToken) → Ts ≡ T ∷ [] → closed d Ts h ts ≡ Goes (Behind d T h) ts
closed_single d Ts T h ts e = ap (λ (l : List Ty). closed d l h ts) e

pub domains_comma : (d : ℕ) (Ts : List Ty) (h : ℕ) (ts after : List TextToken) → ts ≡ token.Comma ∷ after → domains d Ts h ts ≡ Inside (Whole (d + 2)) after (and_then (next_domain d Ts h))
domains_comma d Ts h ts after e = ap (domains d Ts h) e

pub domains_close : (d : ℕ) (Ts : List Ty) (h : ℕ) (ts after : List TextToken) → ts ≡ token.CloseList ∷ after → domains d Ts h ts ≡ range d Ts h after
domains_close d Ts h ts after e = ap (domains d Ts h) e

pub range_arrow : (d : ℕ) (Ts : List Ty) (h : ℕ) (ts after : List TextToken) → ts ≡ token.Arrow ∷ after → range d Ts h ts ≡ Inside (Whole (d + 1)) after (and_then (to_functions Ts h))
range_arrow d Ts h ts after e = ap (range d Ts h) e

pub behind_named : (d : ℕ) (T : Ty) (h : ℕ) (ts : List TextToken) (c : List ℕ) (n : Option ℕ) (after : List TextToken) → ts ≡ token.Name c n ∷ after → behind d T h ts ≡ construct c n (T ∷ []) ts (behind_name d h after)
behind_named d T h ts c n after e = ap (behind d T h) e ∙ ap (λ (l : List TextToken). construct c n (T ∷ []) l (behind_name d h after)) (sym e)

pub front_named : (d : ℕ) (ts : List TextToken) (first : TextToken) (c : List ℕ) (n : Option ℕ) (after : List TextToken) → ts ≡ first ∷ after → first ≡ token.Name c n → front d ts ≡ construct c n [] ts (behind_name d 0 after)
front_named d ts first c n after e f =
    let whole : ts ≡ token.Name c n ∷ after = e ∙ ap (λ (x : TextToken). x ∷ after) f in
    ap (front d) whole ∙ ap (λ (l : List TextToken). construct c n [] l (behind_name d 0 after)) (sym whole)

pub front_at : (d : ℕ) (ts : List TextToken) (first one : TextToken) (after : List TextToken) → ts ≡ first ∷ after → first ≡ one → front d ts ≡ front d (one ∷ after)
front_at d ts first one after e f = ap (front d) (e ∙ ap (λ (x : TextToken). x ∷ after) f)

pub front_nothing : (d : ℕ) (ts : List TextToken) → ts ≡ [] → front d ts ≡ refuse wanted.Type ts
front_nothing d ts e = ap (front d) e ∙ ap (refuse wanted.Type) (sym e)

pub nil_of : (ts : List TextToken) → length ts ≡ 0 → ts ≡ []
nil_of [] e = refl
nil_of (t ∷ ts) e = absurd (omega (arith, e))

pub variable_leads : (d : ℕ) (ts : List TextToken) (first : TextToken) (after : List TextToken) (x y : List ℕ) (T : Ty) → ts ≡ first ∷ after → first ≡ token.Variable x → T ≡ TyFixed y → y ≡ x → Leads (front d ts) (behind d T 0 after)
variable_leads d ts first after x y T e f g h =
    subst (λ (u : Ty). Leads (front d ts) (behind d u 0 after)) (sym (g ∙ ap TyFixed h)) (leads_place (front d ts) (Behind d (TyFixed x) 0) after (front_at d ts first (token.Variable x) after e f))

pub unknown_leads : (d : ℕ) (ts : List TextToken) (first : TextToken) (after : List TextToken) (x y : List ℕ) (T : Ty) → ts ≡ first ∷ after → first ≡ token.Unknown x → T ≡ TyUnknown y 0 → y ≡ x → Leads (front d ts) (behind d T 0 after)
unknown_leads d ts first after x y T e f g h =
    subst (λ (u : Ty). Leads (front d ts) (behind d u 0 after)) (sym (g ∙ ap (λ (z : List ℕ). TyUnknown z 0) h)) (leads_place (front d ts) (Behind d (TyUnknown x 0) 0) after (front_at d ts first (token.Unknown x) after e f))

pub one_of : (args old : List Ty) (T : Ty) → args ≡ old ++ T ∷ [] → old ≡ [] → args ≡ T ∷ []
one_of args old T e f = e ∙ ap (λ (l : List Ty). l ++ T ∷ []) f

pub named_refuses : (f : Fail) (c : List ℕ) (n : Option ℕ) (args : List Ty) (T : Ty) (at : List TextToken) (go : Ty → Step) → args ≡ T ∷ [] → IfRefused f (λ w ts. (g : Ty → Step) → construct c n args at g ≡ Ends (Refused w ts)) → FailsBy f (construct c n (T ∷ []) at go)
named_refuses f c n args T at go e q = refuses f (construct c n (T ∷ []) at) go (subst (λ (l : List Ty). IfRefused f (λ w ts. (g : Ty → Step) → construct c n l at g ≡ Ends (Refused w ts))) e q)

pub named_leads : (d : ℕ) (T : Ty) (h : ℕ) (ts : List TextToken) (c : List ℕ) (n : Option ℕ) (after : List TextToken) (args : List Ty) (U : Ty) → ts ≡ token.Name c n ∷ after → args ≡ T ∷ [] → ((go : Ty → Step) → construct c n args ts go ≡ go U) → Leads (behind d T h ts) (behind d U h after)
named_leads d T h ts c n after args U e f g =
    leads_place (behind d T h ts) (Behind d U h) after
    (behind_named d T h ts c n after e ∙ subst (λ (l : List Ty). construct c n l ts (behind_name d h after) ≡ behind_name d h after U) f (g (behind_name d h after)))

pub single_leads : (d : ℕ) (Ts : List Ty) (T U : Ty) (h : ℕ) (ts : List TextToken) → Ts ≡ T ∷ [] → U ≡ T → Leads (closed d Ts h ts) (behind d U h ts)
single_leads d Ts T U h ts e f = subst (λ (u : Ty). Leads (closed d Ts h ts) (behind d u h ts)) (sym f) (leads_place (closed d Ts h ts) (Behind d T h) ts (closed_single d Ts T h ts e))

pub none_refuses : (f : Fail) (c : List ℕ) (n : Option ℕ) (args : List Ty) (at : List TextToken) (go : Ty → Step) → args ≡ [] → IfRefused f (λ w ts. (g : Ty → Step) → construct c n args at g ≡ Ends (Refused w ts)) → FailsBy f (construct c n [] at go)
none_refuses f c n args at go e q = refuses f (construct c n [] at) go (subst (λ (l : List Ty). IfRefused f (λ w ts. (g : Ty → Step) → construct c n l at g ≡ Ends (Refused w ts))) e q)

pub front_leads : (d : ℕ) (ts : List TextToken) (first : TextToken) (c : List ℕ) (n : Option ℕ) (after : List TextToken) (args : List Ty) (U : Ty) → ts ≡ first ∷ after → first ≡ token.Name c n → args ≡ [] → ((go : Ty → Step) → construct c n args ts go ≡ go U) → Leads (front d ts) (behind d U 0 after)
front_leads d ts first c n after args U e f g h =
    leads_place (front d ts) (Behind d U 0) after
    (front_named d ts first c n after e f ∙ subst (λ (l : List Ty). construct c n l ts (behind_name d 0 after) ≡ behind_name d 0 after U) g (h (behind_name d 0 after)))

-- whole texts
pub text_read : (ts : List TextToken) (T : Ty) (h : ℕ) (rest : List TextToken) → rest ≡ [] → Runs (step (Whole 0) ts) (Read T h rest) → (height : ℕ) × Runs (type_text ts) (Read T height [])
text_read ts T h rest e r =
    (h, leads_inside (type_text ts) (Whole 0) ts at_end T h [] refl (subst (λ (l : List TextToken). Runs (step (Whole 0) ts) (Read T h l)) e r) (Read T h []) (ends (Read T h [])))

pub text_refused : (f : Fail) (ts : List TextToken) (T : Ty) (h : ℕ) (rest after : List TextToken) (first : TextToken) → rest ≡ first ∷ after → IsRefusal f (why wanted.EndOfText rest) rest → Runs (step (Whole 0) ts) (Read T h rest) → FailsBy f (type_text ts)
text_refused f ts T h rest after first e q r =
    fails_later f (type_text ts) (at_end T h rest) (leads_inside (type_text ts) (Whole 0) ts at_end T h rest refl r)
    (refusal_of f (why wanted.EndOfText rest) rest (at_end T h rest) q (ap (at_end T h) e ∙ ap (refuse wanted.EndOfText) (sym e)))
