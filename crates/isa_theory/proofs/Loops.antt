-- Steps over lists, one item after the other.
use Rattle.std.proofs.Common.{◌≡◌, ◌⊎◌, inl, inr, ℕ, ◌+◌, ◌<◌, ◌≤◌, List, [], ◌∷◌, ◌++◌, length, drop, get_or, refl, sym, ap, subst, ◌∙◌, append_assoc, append-nil}
use Rattle.std.proofs.lemmas.List.{drop_more}
use Rattle.std.proofs.Math.ListN.{drop_of_length-le}
use Rattle.std.specs.Prelude.{Result, Ok, Err}
use Rattle.isa_kernel.specs.Theorem.{Theorem}
use Rattle.isa_outer.specs.declared.refusal.Kind.{Kind}
use Rattle.isa_outer.specs.declared.command.Declaration.{Declaration}
use Rattle.isa_outer.specs.declared.method.Modifier.{Modifier}
use Rattle.isa_theory.specs.Contexts.{ContextSeen}
use Rattle.isa_theory.specs.Results.{◌>>=◌, each}
use Rattle.isa_theory.specs.Told.{Each, IsDone, Stops, GoesOn}
use Rattle.isa_theory.specs.Applying.{known_fact, known_facts, all_known, declared_facts}
use Rattle.isa_outer.specs.Methods.{Method, At}
use Rattle.isa_outer.specs.Methods as method
use Rattle.isa_outer.specs.Private.Layers.{node_of}
use Rattle.isa_outer.specs.declared.method.MethodNode.{MethodNode}
use Rattle.isa_outer.specs.declared.method.MethodNode.TheVariants as code
use Rattle.isa_theory.specs.MethodFacts.{modifier_facts, modifiers_facts, method_facts, node_facts}
use Rattle.isa_theory.specs.Private.Growing.{Grows}
use Rattle.isa_theory.proofs.Growing.{grows_same, grows_on}

-- ---- facts that are there
pub known_front : (c : ContextSeen) (x : List ℕ) (xs : List (List ℕ)) (ths : List Theorem) → known_fact c x ≡ Ok ths → all_known c (x ∷ xs) ≡ all_known c xs
known_front c x xs ths e = ap (λ r. r >>= (λ u. all_known c xs)) e

pub unknown_front : (c : ContextSeen) (x : List ℕ) (xs : List (List ℕ)) (k : Kind) → known_fact c x ≡ Err k → all_known c (x ∷ xs) ≡ Err k
unknown_front c x xs k e = ap (λ r. r >>= (λ u. all_known c xs)) e

pub known_passed : (c : ContextSeen) (xs : List (List ℕ)) (i : ℕ) (x : List ℕ) (ths : List Theorem) → i < length xs → x ≡ get_or xs i x → all_known c xs ≡ all_known c (drop i xs) → known_fact c x ≡ Ok ths →
    all_known c xs ≡ all_known c (drop (i + 1) xs)
known_passed c xs i x ths h at so e =
    so ∙ ap (λ l. all_known c l) (drop_more xs i x h) ∙ known_front c (get_or xs i x) (drop (i + 1) xs) ths (subst (λ (y : List ℕ). known_fact c y ≡ Ok ths) at e)

pub known_refused : (c : ContextSeen) (xs : List (List ℕ)) (i : ℕ) (x : List ℕ) (k : Kind) → i < length xs → x ≡ get_or xs i x → all_known c xs ≡ all_known c (drop i xs) → known_fact c x ≡ Err k → all_known c xs ≡ Err k
known_refused c xs i x k h at so e =
    so ∙ ap (λ l. all_known c l) (drop_more xs i x h) ∙ unknown_front c (get_or xs i x) (drop (i + 1) xs) k (subst (λ (y : List ℕ). known_fact c y ≡ Err k) at e)

pub known_end : (c : ContextSeen) (xs : List (List ℕ)) (i : ℕ) → length xs ≤ i → all_known c xs ≡ all_known c (drop i xs) → all_known c xs ≡ Ok tt
known_end c xs i h so = so ∙ ap (λ l. all_known c l) (drop_of_length-le xs h)

-- facts, and then others
pub known_both : (c : ContextSeen) (xs ys : List (List ℕ)) → all_known c (xs ++ ys) ≡ (all_known c xs >>= (λ u. all_known c ys))
known_both c [] ys = refl
known_both c (x ∷ xs) ys = joined (known_fact c x) (known_both c xs ys)
  where
    joined : (r : Result (List Theorem) Kind) → all_known c (xs ++ ys) ≡ (all_known c xs >>= (λ u. all_known c ys)) → (r >>= (λ t. all_known c (xs ++ ys))) ≡ ((r >>= (λ t. all_known c xs)) >>= (λ u. all_known c ys))
    joined (Ok a) e = e
    joined (Err k) e = refl

pub both_known : (c : ContextSeen) (xs ys : List (List ℕ)) → all_known c xs ≡ Ok tt → all_known c (xs ++ ys) ≡ all_known c ys
both_known c xs ys e = known_both c xs ys ∙ ap (λ r. r >>= (λ u. all_known c ys)) e

pub first_unknown : (c : ContextSeen) (xs ys : List (List ℕ)) (k : Kind) → all_known c xs ≡ Err k → all_known c (xs ++ ys) ≡ Err k
first_unknown c xs ys k e = known_both c xs ys ∙ ap (λ r. r >>= (λ u. all_known c ys)) e

-- ---- their theorems
pub record FactsSoFar (c : ContextSeen) (xs : List (List ℕ)) (i : ℕ) (all : List Theorem) : Type 0 where
  pub is : known_facts c xs ≡ (known_facts c (drop i xs) >>= (λ more. Ok (all ++ more)))

pub facts_start : (c : ContextSeen) (xs : List (List ℕ)) (all : List Theorem) → all ≡ [] → FactsSoFar c xs 0 all
facts_start c xs all e = record { is = same (known_facts c xs) }
  where
    same : (r : Result (List Theorem) Kind) → r ≡ (r >>= (λ more. Ok (all ++ more)))
    same (Ok a) = ap (λ (l : List Theorem). let z : Result (List Theorem) Kind = Ok (l ++ a) in z) (sym e)
    same (Err k) = refl

front_facts : (c : ContextSeen) (x : List ℕ) (xs : List (List ℕ)) (ths all : List Theorem) → known_fact c x ≡ Ok ths →
    (known_facts c (x ∷ xs) >>= (λ more. Ok (all ++ more))) ≡ (known_facts c xs >>= (λ more. Ok ((all ++ ths) ++ more)))
front_facts c x xs ths all e = ap (λ r. (r >>= (λ t. known_facts c xs >>= (λ more. Ok (t ++ more)))) >>= (λ more. Ok (all ++ more))) e ∙ joined (known_facts c xs)
  where
    joined : (r : Result (List Theorem) Kind) → ((r >>= (λ more. Ok (ths ++ more))) >>= (λ more. Ok (all ++ more))) ≡ (r >>= (λ more. Ok ((all ++ ths) ++ more)))
    joined (Ok a) = ap (λ (l : List Theorem). let z : Result (List Theorem) Kind = Ok l in z) (sym (append_assoc all ths a))
    joined (Err k) = refl

pub facts_next : (c : ContextSeen) (xs : List (List ℕ)) (i : ℕ) (x : List ℕ) (ths all longer : List Theorem) → i < length xs → x ≡ get_or xs i x → FactsSoFar c xs i all → known_fact c x ≡ Ok ths → longer ≡ all ++ ths →
    FactsSoFar c xs (i + 1) longer
facts_next c xs i x ths all longer h at so e l =
    record {
      is = so.is ∙ ap (λ l. known_facts c l >>= (λ more. Ok (all ++ more))) (drop_more xs i x h)
          ∙ front_facts c (get_or xs i x) (drop (i + 1) xs) ths all (subst (λ (y : List ℕ). known_fact c y ≡ Ok ths) at e)
          ∙ ap (λ (t : List Theorem). known_facts c (drop (i + 1) xs) >>= (λ more. Ok (t ++ more))) (sym l);
    }

pub facts_refused : (c : ContextSeen) (xs : List (List ℕ)) (i : ℕ) (x : List ℕ) (all : List Theorem) (k : Kind) → i < length xs → x ≡ get_or xs i x → FactsSoFar c xs i all → known_fact c x ≡ Err k → known_facts c xs ≡ Err k
facts_refused c xs i x all k h at so e =
    so.is ∙ ap (λ l. known_facts c l >>= (λ more. Ok (all ++ more))) (drop_more xs i x h)
    ∙ ap (λ r. (r >>= (λ t. known_facts c (drop (i + 1) xs) >>= (λ more. Ok (t ++ more)))) >>= (λ more. Ok (all ++ more))) (subst (λ (y : List ℕ). known_fact c y ≡ Err k) at e)

pub facts_end : (c : ContextSeen) (xs : List (List ℕ)) (i : ℕ) (all : List Theorem) → length xs ≤ i → FactsSoFar c xs i all → known_facts c xs ≡ Ok all
facts_end c xs i all h so =
    so.is ∙ ap (λ l. known_facts c l >>= (λ more. Ok (all ++ more))) (drop_of_length-le xs h) ∙ ap (λ (l : List Theorem). let z : Result (List Theorem) Kind = Ok l in z) (append-nil all)

-- ---- one step for each item: the context so far
pub record EachSoFar {B : Type 0} (f : ContextSeen → B → Result ContextSeen Kind) (first now : ContextSeen) (xs : List B) (i : ℕ) : Type 0 where
  pub is : each f first xs ≡ each f now (drop i xs)
  pub grows : Grows first now

pub each_start : {B : Type 0} (f : ContextSeen → B → Result ContextSeen Kind) (c : ContextSeen) (xs : List B) → EachSoFar f c c xs 0
each_start f c xs = record { is = refl; grows = grows_same c }

pub each_next : {B : Type 0} (f : ContextSeen → B → Result ContextSeen Kind) (first now then : ContextSeen) (xs : List B) (i : ℕ) (x : B) → i < length xs → x ≡ get_or xs i x → EachSoFar f first now xs i → f now x ≡ Ok then → Grows now then →
    EachSoFar f first then xs (i + 1)
each_next f first now then xs i x h at so e g =
    record {
      is = so.is ∙ ap (λ l. each f now l) (drop_more xs i x h)
          ∙ ap (λ r. r >>= (λ d. each f d (drop (i + 1) xs))) (subst (λ y. f now y ≡ Ok then) at e);
      grows = grows_on first now then so.grows g;
    }

pub each_refused : {B : Type 0} (f : ContextSeen → B → Result ContextSeen Kind) (first now : ContextSeen) (xs : List B) (i : ℕ) (x : B) (cause : Kind) → i < length xs → x ≡ get_or xs i x → EachSoFar f first now xs i → f now x ≡ Err cause →
    each f first xs ≡ Err cause
each_refused f first now xs i x cause h at so e =
    so.is ∙ ap (λ l. each f now l) (drop_more xs i x h)
    ∙ ap (λ r. r >>= (λ d. each f d (drop (i + 1) xs))) (subst (λ y. f now y ≡ Err cause) at e)

pub each_end : {B : Type 0} (f : ContextSeen → B → Result ContextSeen Kind) (first now : ContextSeen) (xs : List B) (i : ℕ) → length xs ≤ i → EachSoFar f first now xs i → each f first xs ≡ Ok now
each_end f first now xs i h so = so.is ∙ ap (λ l. each f now l) (drop_of_length-le xs h)

-- ---- one step that reads for each item: what may come of the rest may come of all
pub record ToldSoFar {B : Type 0} (step : ContextSeen → B → Result ContextSeen Kind → Type 0) (first now : ContextSeen) (xs : List B) (i : ℕ) : Type 0 where
  pub is : (r : Result ContextSeen Kind) → Each step now (drop i xs) r → Each step first xs r
  pub grows : Grows first now

pub told_start : {B : Type 0} (step : ContextSeen → B → Result ContextSeen Kind → Type 0) (c : ContextSeen) (xs : List B) → ToldSoFar step c c xs 0
told_start step c xs = record { is = λ r e. e; grows = grows_same c }

pub told_next : {B : Type 0} (step : ContextSeen → B → Result ContextSeen Kind → Type 0) (first now then : ContextSeen) (xs : List B) (i : ℕ) (x : B) → i < length xs → x ≡ get_or xs i x → ToldSoFar step first now xs i → step now x (Ok then) → Grows now then →
    ToldSoFar step first then xs (i + 1)
told_next {B} step first now then xs i x h at so e g =
    record {
      is = λ r all. so.is r (subst (λ (l : List B). Each step now l r) (sym (drop_more xs i x h)) (GoesOn now then (get_or xs i x) (drop (i + 1) xs) r (subst (λ (y : B). step now y (Ok then)) at e) all));
      grows = grows_on first now then so.grows g;
    }

pub told_refused : {B : Type 0} (step : ContextSeen → B → Result ContextSeen Kind → Type 0) (first now : ContextSeen) (xs : List B) (i : ℕ) (x : B) (cause : Kind) → i < length xs → x ≡ get_or xs i x → ToldSoFar step first now xs i → step now x (Err cause) →
    Each step first xs (Err cause)
told_refused {B} step first now xs i x cause h at so e =
    so.is (Err cause) (subst (λ (l : List B). Each step now l (Err cause)) (sym (drop_more xs i x h)) (Stops now (get_or xs i x) (drop (i + 1) xs) cause (subst (λ (y : B). step now y (Err cause)) at e)))

pub told_end : {B : Type 0} (step : ContextSeen → B → Result ContextSeen Kind → Type 0) (first now : ContextSeen) (xs : List B) (i : ℕ) → length xs ≤ i → ToldSoFar step first now xs i → Each step first xs (Ok now)
told_end {B} step first now xs i h so = so.is (Ok now) (subst (λ (l : List B). Each step now l (Ok now)) (sym (drop_of_length-le xs h)) (IsDone now))

-- ---- the facts of modifiers
pub modifiers_passed : (c : ContextSeen) (ms : List Modifier) (i : ℕ) (m : Modifier) → i < length ms → m ≡ get_or ms i m → all_known c (modifiers_facts ms) ≡ all_known c (modifiers_facts (drop i ms)) →
    all_known c (modifier_facts m) ≡ Ok tt → all_known c (modifiers_facts ms) ≡ all_known c (modifiers_facts (drop (i + 1) ms))
modifiers_passed c ms i m h at so e =
    so ∙ ap (λ l. all_known c (modifiers_facts l)) (drop_more ms i m h)
    ∙ both_known c (modifier_facts (get_or ms i m)) (modifiers_facts (drop (i + 1) ms)) (subst (λ (y : Modifier). all_known c (modifier_facts y) ≡ Ok tt) at e)

pub modifiers_refused : (c : ContextSeen) (ms : List Modifier) (i : ℕ) (m : Modifier) (k : Kind) → i < length ms → m ≡ get_or ms i m → all_known c (modifiers_facts ms) ≡ all_known c (modifiers_facts (drop i ms)) →
    all_known c (modifier_facts m) ≡ Err k → all_known c (modifiers_facts ms) ≡ Err k
modifiers_refused c ms i m k h at so e =
    so ∙ ap (λ l. all_known c (modifiers_facts l)) (drop_more ms i m h)
    ∙ first_unknown c (modifier_facts (get_or ms i m)) (modifiers_facts (drop (i + 1) ms)) k (subst (λ (y : Modifier). all_known c (modifier_facts y) ≡ Err k) at e)

pub modifiers_end : (c : ContextSeen) (ms : List Modifier) (i : ℕ) → length ms ≤ i → all_known c (modifiers_facts ms) ≡ all_known c (modifiers_facts (drop i ms)) → all_known c (modifiers_facts ms) ≡ Ok tt
modifiers_end c ms i h so = so ∙ ap (λ l. all_known c (modifiers_facts l)) (drop_of_length-le ms h)

-- ---- declared facts
pub declared_passed : (c : ContextSeen) (ds : List Declaration) (i : ℕ) (d : Declaration) (ths : List Theorem) → i < length ds → d ≡ get_or ds i d → all_known c (declared_facts ds) ≡ all_known c (declared_facts (drop i ds)) →
    known_fact c d.fact ≡ Ok ths → all_known c (declared_facts ds) ≡ all_known c (declared_facts (drop (i + 1) ds))
declared_passed c ds i d ths h at so e =
    so ∙ ap (λ l. all_known c (declared_facts l)) (drop_more ds i d h)
    ∙ known_front c (get_or ds i d).fact (declared_facts (drop (i + 1) ds)) ths (subst (λ (y : Declaration). known_fact c y.fact ≡ Ok ths) at e)

pub declared_refused : (c : ContextSeen) (ds : List Declaration) (i : ℕ) (d : Declaration) (k : Kind) → i < length ds → d ≡ get_or ds i d → all_known c (declared_facts ds) ≡ all_known c (declared_facts (drop i ds)) →
    known_fact c d.fact ≡ Err k → all_known c (declared_facts ds) ≡ Err k
declared_refused c ds i d k h at so e =
    so ∙ ap (λ l. all_known c (declared_facts l)) (drop_more ds i d h)
    ∙ unknown_front c (get_or ds i d).fact (declared_facts (drop (i + 1) ds)) k (subst (λ (y : Declaration). known_fact c y.fact ≡ Err k) at e)

pub declared_end : (c : ContextSeen) (ds : List Declaration) (i : ℕ) → length ds ≤ i → all_known c (declared_facts ds) ≡ all_known c (declared_facts (drop i ds)) → all_known c (declared_facts ds) ≡ Ok tt
declared_end c ds i h so = so ∙ ap (λ l. all_known c (declared_facts l)) (drop_of_length-le ds h)

-- ---- methods of two parts
pub then_unknown : (c : ContextSeen) (m a b : Method) (line : ℕ) (k : Kind) → At line (method.Then a b) ≡ m → all_known c (method_facts a) ≡ Err k → all_known c (method_facts m) ≡ Err k
unfolding method_facts node_facts
then_unknown c m a b line k e h = ap (λ n. all_known c (method_facts n)) (sym e) ∙ first_unknown c (method_facts a) (method_facts b) k h

pub then_known : (c : ContextSeen) (m a b : Method) (line : ℕ) → At line (method.Then a b) ≡ m → all_known c (method_facts a) ≡ Ok tt → all_known c (method_facts m) ≡ all_known c (method_facts b)
unfolding method_facts node_facts
then_known c m a b line e h = ap (λ n. all_known c (method_facts n)) (sym e) ∙ both_known c (method_facts a) (method_facts b) h

pub else_unknown : (c : ContextSeen) (m a b : Method) (line : ℕ) (k : Kind) → At line (method.OrElse a b) ≡ m → all_known c (method_facts a) ≡ Err k → all_known c (method_facts m) ≡ Err k
unfolding method_facts node_facts
else_unknown c m a b line k e h = ap (λ n. all_known c (method_facts n)) (sym e) ∙ first_unknown c (method_facts a) (method_facts b) k h

pub else_known : (c : ContextSeen) (m a b : Method) (line : ℕ) → At line (method.OrElse a b) ≡ m → all_known c (method_facts a) ≡ Ok tt → all_known c (method_facts m) ≡ all_known c (method_facts b)
unfolding method_facts node_facts
else_known c m a b line e h = ap (λ n. all_known c (method_facts n)) (sym e) ∙ both_known c (method_facts a) (method_facts b) h

-- of a method of two parts, the first has an unknown fact, or none
pub part_unknown : (c : ContextSeen) (m a b : Method) (line : ℕ) (node : MethodNode) (k : Kind) → At line (node_of node) ≡ m → (node ≡ code.Then a b) ⊎ (node ≡ code.OrElse a b) → all_known c (method_facts a) ≡ Err k →
    all_known c (method_facts m) ≡ Err k
part_unknown c m a b line node k v (inl e) h = then_unknown c m a b line k (ap (λ n. At line (node_of n)) (sym e) ∙ v) h
part_unknown c m a b line node k v (inr e) h = else_unknown c m a b line k (ap (λ n. At line (node_of n)) (sym e) ∙ v) h

pub part_known : (c : ContextSeen) (m a b : Method) (line : ℕ) (node : MethodNode) → At line (node_of node) ≡ m → (node ≡ code.Then a b) ⊎ (node ≡ code.OrElse a b) → all_known c (method_facts a) ≡ Ok tt →
    all_known c (method_facts m) ≡ all_known c (method_facts b)
part_known c m a b line node v (inl e) h = then_known c m a b line (ap (λ n. At line (node_of n)) (sym e) ∙ v) h
part_known c m a b line node v (inr e) h = else_known c m a b line (ap (λ n. At line (node_of n)) (sym e) ∙ v) h
