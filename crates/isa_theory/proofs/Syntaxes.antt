-- Declarations in the syntax of a context.
use Rattle.std.proofs.Common.{◌≡◌, ℕ, Bool, true, false, List, [], ◌∷◌, ◌++◌, length, refl, sym, ap, subst}
use Rattle.std.specs.Prelude.{Option, Some, None, Result, Ok, Err, is_some, not, nat_le, if◌then◌else◌}
use Rattle.isa_terms.specs.Types.{Ty}
use Rattle.isa_inner_text.specs.Signatures.{arity_of, with_arity, with_sign}
use Rattle.isa_inner_text.specs.Signatures as signature
use Rattle.isa_outer.specs.declared.command.Notation.{Notation}
use Rattle.isa_outer.specs.declared.refusal.Kind.{Kind}
use Rattle.isa_outer.specs.declared.refusal.Kind.TheVariants as kind
use Rattle.isa_outer.specs.declared.refusal.Sort.TheVariants as sort
use Rattle.isa_syntax.specs.Syntaxes.{SyntaxSeen, constant_type, with_type, with_constant, with_judgment}
use Rattle.isa_syntax.specs.Notations.{with_notation, greatest, fits_some, is_taken, sign_of}
use Rattle.isa_syntax.specs.Growing.{Stays, Becomes as SyntaxBecomes, Grows as SyntaxGrows}
use Rattle.isa_theory.specs.Contexts.{ContextSeen}
use Rattle.isa_theory.specs.Applying.{in_syntax}
use Rattle.isa_theory.specs.Private.Growing.{Grows, Becomes}
use Rattle.isa_theory.proofs.Growing.{grows_same, grows_syntax, syntax_goes_same, syntax_goes_more, stays_same}

-- what comes of a declaration in the syntax comes of the context
pub in_syntax_becomes : (c : ContextSeen) (new : SyntaxSeen) (wanted : Result SyntaxSeen Kind) (r : Result (Unit {0}) Kind) → SyntaxBecomes c.syntax new wanted r → Becomes r (record c { syntax = new }) (in_syntax c wanted)
in_syntax_becomes c new wanted (Ok u) h = ap (λ (w : Result SyntaxSeen Kind). in_syntax c w) h
in_syntax_becomes c new wanted (Err k) h = λ n. ap (λ (w : Result SyntaxSeen Kind). in_syntax c w) (h.1 n)

pub in_syntax_grows : (c : ContextSeen) (new : SyntaxSeen) (wanted : Result SyntaxSeen Kind) (r : Result (Unit {0}) Kind) → SyntaxBecomes c.syntax new wanted r → ((t : SyntaxSeen) → wanted ≡ Ok t → SyntaxGrows c.syntax t) →
    Grows c (record c { syntax = new })
in_syntax_grows c new wanted (Ok u) h g = grows_syntax c new (g new h)
in_syntax_grows c new wanted (Err k) h g = subst (λ (s : SyntaxSeen). Grows c (record c { syntax = s })) (sym h.0) (grows_same c)

-- the same of the context as the code holds it
pub held_grows : (c d : ContextSeen) (new : SyntaxSeen) (wanted : Result SyntaxSeen Kind) (r : Result (Unit {0}) Kind) → d ≡ c → SyntaxBecomes d.syntax new wanted r → ((t : SyntaxSeen) → wanted ≡ Ok t → SyntaxGrows d.syntax t) →
    Grows c (record d { syntax = new })
held_grows c d new wanted r e h g = subst (λ (k : ContextSeen). Grows k (record d { syntax = new })) e (in_syntax_grows d new wanted r h g)

-- each declaration grows the syntax
behind_test : (b : Bool) (k : Kind) (s u t : SyntaxSeen) → (let r : Result SyntaxSeen Kind = if b then Err k else Ok u in r) ≡ Ok t → SyntaxGrows s u → SyntaxGrows s t
behind_test true k s u t e g = absurd cc
behind_test false k s u t e g = let same : u ≡ t = cc in subst (λ (v : SyntaxSeen). SyntaxGrows s v) same g

pub type_grows : (s : SyntaxSeen) (x : List ℕ) (n : ℕ) (t : SyntaxSeen) → with_type s x n ≡ Ok t → SyntaxGrows s t
unfolding with_type
type_grows s x n t e =
    behind_test (is_some (arity_of s.signature x)) (kind.Duplicate sort.Type x) s (record s { signature = with_arity s.signature x n }) t e
    (record {
      types = syntax_goes_more s.signature.arities ((x, n) ∷ []) (s.signature.arities ++ (x, n) ∷ []) refl;
      signs = syntax_goes_same s.signature.signs;
      notated = syntax_goes_same s.signature.notated;
      judgment = stays_same s.signature.judgment;
      constants = syntax_goes_same s.constants;
    })

pub constant_grows : (s : SyntaxSeen) (x : List ℕ) (T : Ty) (t : SyntaxSeen) → with_constant s x T ≡ Ok t → SyntaxGrows s t
unfolding with_constant
constant_grows s x T t e =
    behind_test (is_some (constant_type s x)) (kind.Duplicate sort.Constant x) s (record s { constants = s.constants ++ (x, T) ∷ [] }) t e
    (record {
      types = syntax_goes_same s.signature.arities;
      signs = syntax_goes_same s.signature.signs;
      notated = syntax_goes_same s.signature.notated;
      judgment = stays_same s.signature.judgment;
      constants = syntax_goes_more s.constants ((x, T) ∷ []) (s.constants ++ (x, T) ∷ []) refl;
    })

judgment_stays : (o : Option (List ℕ)) (x : List ℕ) → is_some o ≡ false → Stays o (Some x)
judgment_stays None x e = tt
judgment_stays (Some y) x e = absurd cc

judgment_behind : (b : Bool) (k : Kind) (s u t : SyntaxSeen) → (let r : Result SyntaxSeen Kind = if b then Err k else Ok u in r) ≡ Ok t → (b ≡ false → SyntaxGrows s u) → SyntaxGrows s t
judgment_behind true k s u t e g = absurd cc
judgment_behind false k s u t e g = let same : u ≡ t = cc in subst (λ (v : SyntaxSeen). SyntaxGrows s v) same (g refl)

pub judgment_grows : (s : SyntaxSeen) (x : List ℕ) (t : SyntaxSeen) → with_judgment s x ≡ Ok t → SyntaxGrows s t
unfolding with_judgment
judgment_grows s x t e =
    judgment_behind (is_some s.signature.judgment) (kind.Duplicate sort.Judgment x) s (record s { signature = signature.with_judgment s.signature x }) t e
    (λ n. record {
      types = syntax_goes_same s.signature.arities;
      signs = syntax_goes_same s.signature.signs;
      notated = syntax_goes_same s.signature.notated;
      judgment = judgment_stays s.signature.judgment x n;
      constants = syntax_goes_same s.constants;
    })

behind_tests : (a b c : Bool) (i j k : Kind) (s u t : SyntaxSeen) → (let r : Result SyntaxSeen Kind = if a then Err i else (if b then Err j else (if c then Err k else Ok u)) in r) ≡ Ok t → SyntaxGrows s u → SyntaxGrows s t
behind_tests true b c i j k s u t e g = absurd cc
behind_tests false true c i j k s u t e g = absurd cc
behind_tests false false c i j k s u t e g = behind_test c k s u t e g

pub notation_grows : (s : SyntaxSeen) (x : List ℕ) (n : Notation) (t : SyntaxSeen) → with_notation s x n ≡ Ok t → SyntaxGrows s t
unfolding with_notation
notation_grows s x n t e =
    let sg = sign_of n.kind n.priority (length s.signature.notated) in
    behind_tests (not (nat_le n.priority (greatest n.kind))) (not (fits_some n.kind (constant_type s x))) (is_taken s n.token) kind.Number kind.Types (kind.Token n.token) s (record s { signature = with_sign s.signature n.token sg x }) t e
    (record {
      types = syntax_goes_same s.signature.arities;
      signs = syntax_goes_more s.signature.signs ((n.token, sg) ∷ []) (s.signature.signs ++ (n.token, sg) ∷ []) refl;
      notated = syntax_goes_more s.signature.notated (x ∷ []) (s.signature.notated ++ x ∷ []) refl;
      judgment = stays_same s.signature.judgment;
      constants = syntax_goes_same s.constants;
    })
