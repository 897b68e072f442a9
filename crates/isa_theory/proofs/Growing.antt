-- Contexts that grow, and are cut back.
use Rattle.isa_kernel.specs.Theorem.{Theorem}
use Rattle.isa_outer.specs.declared.refusal.Kind.{Kind}
use Rattle.isa_syntax.proofs.Growing.{takes_back}
use Rattle.isa_syntax.specs.Growing.{Stays, mark_of, undone, Goes as SyntaxGoes, Grows as SyntaxGrows}
use Rattle.isa_syntax.specs.Syntaxes.{SyntaxSeen}
use Rattle.isa_theory.specs.Applying.{with_fact}
use Rattle.isa_theory.specs.Contexts.{ContextSeen}
use Rattle.isa_theory.specs.Private.Growing.{Goes, Grows, GrowsIfRefused, IsMark}
use Rattle.isa_theory.specs.declared.context.Mark.{Mark}
use Rattle.isa_theory.specs.Storing.{with_named}
use Rattle.std.proofs.Common.{◌≡◌, ◌≤◌, ℕ, List, [], ◌∷◌, ◌++◌, length, take, refl, sym, ap, subst, ◌∙◌, append_assoc, append-nil, length-append, arith}
use Rattle.std.proofs.Math.Seq.{take-append_seam}
use Rattle.std.specs.Prelude.{Option, Some, None, Result, Ok, Err}

pub goes_same : {A : Type 0} (xs : List A) → Goes xs xs
goes_same xs = record { more = []; is = sym (append-nil xs) }

pub goes_more : {A : Type 0} (xs ys zs : List A) → zs ≡ xs ++ ys → Goes xs zs
goes_more xs ys zs e = record { more = ys; is = e }

pub goes_on : {A : Type 0} (xs ys zs : List A) → Goes xs ys → Goes ys zs → Goes xs zs
goes_on xs ys zs p q = record { more = p.more ++ q.more; is = q.is ∙ ap (λ l. l ++ q.more) p.is ∙ append_assoc xs p.more q.more }

pub goes_longer : {A : Type 0} (xs ys : List A) → Goes xs ys → length xs ≤ length ys
goes_longer xs ys g = omega (arith, ap (λ l. length l) g.is, length-append xs g.more)

pub goes_front : {A : Type 0} (xs ys : List A) → Goes xs ys → take (length xs) ys ≡ xs
goes_front xs ys g = ap (λ l. take (length xs) l) g.is ∙ take-append_seam xs g.more

-- the same of a syntax
pub syntax_goes_same : {A : Type 0} (xs : List A) → SyntaxGoes xs xs
syntax_goes_same xs = record { more = []; is = sym (append-nil xs) }

pub syntax_goes_more : {A : Type 0} (xs ys zs : List A) → zs ≡ xs ++ ys → SyntaxGoes xs zs
syntax_goes_more xs ys zs e = record { more = ys; is = e }

pub syntax_goes_on : {A : Type 0} (xs ys zs : List A) → SyntaxGoes xs ys → SyntaxGoes ys zs → SyntaxGoes xs zs
syntax_goes_on xs ys zs p q = record { more = p.more ++ q.more; is = q.is ∙ ap (λ l. l ++ q.more) p.is ∙ append_assoc xs p.more q.more }

pub stays_same : (o : Option (List ℕ)) → Stays o o
stays_same None = tt
stays_same (Some x) = refl

stays_on : (a b c : Option (List ℕ)) → Stays a b → Stays b c → Stays a c
stays_on None b c p q = tt
stays_on (Some x) b c p q = (let r : Stays (Some x) c = subst (λ (o : Option (List ℕ)). Stays o c) p q in r)

pub syntax_same : (s : SyntaxSeen) → SyntaxGrows s s
syntax_same s = record {
  types = syntax_goes_same s.signature.arities;
  signs = syntax_goes_same s.signature.signs;
  notated = syntax_goes_same s.signature.notated;
  judgment = stays_same s.signature.judgment;
  constants = syntax_goes_same s.constants;
}

pub syntax_on : (a b c : SyntaxSeen) → SyntaxGrows a b → SyntaxGrows b c → SyntaxGrows a c
syntax_on a b c g h = record {
  types = syntax_goes_on a.signature.arities b.signature.arities c.signature.arities g.types h.types;
  signs = syntax_goes_on a.signature.signs b.signature.signs c.signature.signs g.signs h.signs;
  notated = syntax_goes_on a.signature.notated b.signature.notated c.signature.notated g.notated h.notated;
  judgment = stays_on a.signature.judgment b.signature.judgment c.signature.judgment g.judgment h.judgment;
  constants = syntax_goes_on a.constants b.constants c.constants g.constants h.constants;
}

pub grows_same : (c : ContextSeen) → Grows c c
grows_same c = record { theory = goes_same c.theory; syntax = syntax_same c.syntax; facts = goes_same c.facts; declarations = goes_same c.declarations; options = refl; lemmas = refl }

pub grows_on : (a b c : ContextSeen) → Grows a b → Grows b c → Grows a c
grows_on a b c g h = record {
  theory = goes_on a.theory b.theory c.theory g.theory h.theory;
  syntax = syntax_on a.syntax b.syntax c.syntax g.syntax h.syntax;
  facts = goes_on a.facts b.facts c.facts g.facts h.facts;
  declarations = goes_on a.declarations b.declarations c.declarations g.declarations h.declarations;
  options = h.options ∙ g.options;
  lemmas = h.lemmas ∙ g.lemmas;
}

pub grows_cut : (a b : ContextSeen) → Grows a b → record b { theory = take (length a.theory) b.theory; syntax = undone (mark_of a.syntax) b.syntax; facts = take (length a.facts) b.facts; declarations = take (length a.declarations) b.declarations; logic = a.logic } ≡ a
grows_cut a b g = λ i. record {
  theory = goes_front a.theory b.theory g.theory i;
  syntax = takes_back a.syntax b.syntax g.syntax i;
  facts = goes_front a.facts b.facts g.facts i;
  declarations = goes_front a.declarations b.declarations g.declarations i;
  logic = a.logic;
  options = g.options i;
  lemmas = g.lemmas i;
}

-- what is left behind a mark is what there was
pub cut_back : (m : Mark) (a b now : ContextSeen) → IsMark m a → Grows a b →
    now ≡ record b { theory = take m.theory b.theory; syntax = undone m.syntax b.syntax; facts = take m.facts b.facts; declarations = take m.declarations b.declarations; logic = m.logic.value } → now ≡ a
cut_back m a b now s g e =
    e ∙ (λ i. record b { theory = take (s.theory i) b.theory; syntax = undone (s.syntax i) b.syntax; facts = take (s.facts i) b.facts; declarations = take (s.declarations i) b.declarations; logic = s.logic i }) ∙ grows_cut a b g

-- another syntax that has grown
pub grows_syntax : (c : ContextSeen) (s : SyntaxSeen) → SyntaxGrows c.syntax s → Grows c (record c { syntax = s })
grows_syntax c s g = record { theory = goes_same c.theory; syntax = g; facts = goes_same c.facts; declarations = goes_same c.declarations; options = refl; lemmas = refl }

pub grows_fact : (c d : ContextSeen) (x : List ℕ) (ths : List Theorem) → d ≡ with_fact c x ths → Grows c d
grows_fact c d x ths e =
    let put : Grows c (with_fact c x ths) = record { theory = goes_same c.theory; syntax = syntax_same c.syntax; facts = goes_more c.facts ((x, ths) ∷ []) (c.facts ++ (x, ths) ∷ []) refl; declarations = goes_same c.declarations; options = refl; lemmas = refl } in
    subst (λ (k : ContextSeen). Grows c k) (sym e) put

pub grows_named : (c d : ContextSeen) (name : Option (List ℕ)) (th : Theorem) → d ≡ with_named c name th → Grows c d
grows_named c d None th e = subst (λ (k : ContextSeen). Grows c k) (sym e) (grows_same c)
grows_named c d (Some x) th e = grows_fact c d x (th ∷ []) e

pub grows_if_refused : {A : Type 0} (r : Result A Kind) (a b d : ContextSeen) → Grows a b → d ≡ b → GrowsIfRefused r a d
grows_if_refused {A} (Ok x) a b d g e = tt
grows_if_refused {A} (Err k) a b d g e = subst (λ (m : ContextSeen). Grows a m) (sym e) g
