-- What the order of symbols says of a node's edges.
use Rattle.std.proofs.Common.{◌≡◌, ℕ, Bool, true, false, ◌&&◌, nat_eq, cond, List, [], ◌∷◌, Option, Some, None, refl, sym, ap, ◌∙◌, arith}
use Rattle.std.specs.declared.cmp.Ordering.{Ordering}
use Rattle.std.specs.declared.cmp.Ordering.TheVariants.{Less, Equal, Greater}
use Rattle.std.specs.Ordering.{is_eq, nat_cmp, ordering_then}
use Rattle.std.specs.Cmp.Lexicographic.{slice_cmp, texts_ties}
use Rattle.std.proofs.lemmas.Bool.Decides.{nat_tests}
use Rattle.std.specs.List.{AllByRecursion}
use Rattle.std.specs.List.Sorted.{IsStrictlySortedBy}
use Rattle.std.specs.Map.{keys_of, lookup}
use Rattle.std.specs.BTreeMap.{BTreeMap, is_at, IsOrdered, Updates, UpdatesBy}
use Rattle.std.proofs.lemmas.Map.Keys.{sorted_head, sorted_tail}
use Rattle.isa_terms.specs.Equal.{name_eq}
use Rattle.isa_net.specs.declared.symbol.Symbol.{Symbol}
use Rattle.isa_net.specs.declared.symbol.Symbol.TheVariants.{Star, Constant, Variable}
use Rattle.isa_net.specs.Symbols.{symbol_eq, symbol_cmp}
use Rattle.isa_net.specs.Inside.Reach.{target, Apart}
use Rattle.isa_net.specs.Inside.Index.{AddsEdge}
use Rattle.isa_net.proofs.Members.{symbol_decides}

nat_tie : (m n : ℕ) → is_eq (nat_cmp m n) ≡ nat_eq m n
nat_tie m n = grind (arith, nat_tests)

bytes_tie : (a b : List ℕ) → is_eq (slice_cmp nat_cmp a b) ≡ name_eq a b
bytes_tie a b = sym (texts_ties a b)

then_tie : (a b : Ordering) (x y : Bool) → is_eq a ≡ x → is_eq b ≡ y → is_eq (ordering_then a b) ≡ (x && y)
then_tie Less b x y h g = ap (λ v. v && y) h
then_tie Equal b x y h g = g ∙ ap (λ v. v && y) h
then_tie Greater b x y h g = ap (λ v. v && y) h

-- the order tells just the same symbols apart
pub same_test : (a b : Symbol) → is_eq (symbol_cmp a b) ≡ symbol_eq a b
same_test Star Star = refl
same_test Star (Constant d n) = refl
same_test Star (Variable d n) = refl
same_test (Constant c m) Star = refl
same_test (Constant c m) (Constant d n) = then_tie _ _ _ _ (bytes_tie c d) (nat_tie m n)
same_test (Constant c m) (Variable d n) = refl
same_test (Variable c m) Star = refl
same_test (Variable c m) (Constant d n) = refl
same_test (Variable c m) (Variable d n) = then_tie _ _ _ _ (bytes_tie c d) (nat_tie m n)

-- what the map of edges finds
pub target_found : (s : Symbol) (es : List (Symbol × ℕ)) → lookup (is_at (symbol_cmp s)) es ≡ target s es
target_found s [] = refl
target_found s (e ∷ es) = ap (λ b. cond b (Some e.1) (lookup (is_at (symbol_cmp s)) es)) (same_test s e.0) ∙ ap (λ v. cond (symbol_eq s e.0) (Some e.1) v) (target_found s es)

above : (s : Symbol) (es : List (Symbol × ℕ)) → AllByRecursion (λ y. symbol_cmp s y ≡ Less) (keys_of es) → target s es ≡ None
above s [] a = refl
above s (e ∷ es) a = ap (λ b. cond b (Some e.1) (target s es)) (sym (same_test s e.0) ∙ ap is_eq a.0) ∙ above s es a.1

pub apart_sorted : (es : List (Symbol × ℕ)) → IsStrictlySortedBy symbol_cmp (keys_of es) → Apart es
apart_sorted [] x = tt
apart_sorted (e ∷ es) x = (above e.0 es (sorted_head symbol_cmp e.0 (keys_of es) x), apart_sorted es (sorted_tail symbol_cmp e.0 (keys_of es) x))

not_star_below : (s : Symbol) (es : List (Symbol × ℕ)) → symbol_eq Star s ≡ false → AllByRecursion (λ y. symbol_cmp s y ≡ Less) (keys_of es) → target Star es ≡ None
not_star_below s [] h a = refl
not_star_below s (e ∷ es) h a = ap (λ b. cond b (Some e.1) (target Star es)) (at s e.0 h a.0) ∙ not_star_below s es h a.1
  where
    at : (s t : Symbol) → symbol_eq Star s ≡ false → symbol_cmp s t ≡ Less → symbol_eq Star t ≡ false
    at Star t h g = absurd (cc)
    at (Constant c n) Star h g = absurd (cc)
    at (Variable c n) Star h g = absurd (cc)
    at (Constant c n) (Constant d m) h g = refl
    at (Constant c n) (Variable d m) h g = refl
    at (Variable c n) (Constant d m) h g = refl
    at (Variable c n) (Variable d m) h g = refl

-- the star comes first
pub star_first : (e : Symbol × ℕ) (es : List (Symbol × ℕ)) → IsStrictlySortedBy symbol_cmp (keys_of (e ∷ es)) → symbol_eq Star e.0 ≡ false → target Star es ≡ None
star_first e es x h = not_star_below e.0 es h (sorted_head symbol_cmp e.0 (keys_of es) x)

unequal : (s t : Symbol) → (t ≡ s → ⊥) → is_at (symbol_cmp s) t ≡ false
unequal s t d = same_test s t ∙ at (symbol_eq s t) refl
  where
    at : (x : Bool) → symbol_eq s t ≡ x → x ≡ false
    at true e = absurd (d (sym ((symbol_decides s t).0 e)))
    at false e = refl

-- an edge is put into a node's map
pub adds_edge : (old new : BTreeMap Symbol ℕ) (s : Symbol) (c : ℕ) → IsOrdered symbol_cmp old → IsOrdered symbol_cmp new → Updates symbol_cmp old new s (Some c) → target s old.entries ≡ None → AddsEdge old.entries new.entries s c
adds_edge old new s c a b h free = record {
  free = free;
  leads = sym (target_found s new.entries) ∙ h.1;
  same = λ t d. sym (target_found t new.entries) ∙ h.2 t (unequal s t d) ∙ target_found t old.entries;
  was_apart = apart_sorted old.entries a;
  apart = apart_sorted new.entries b;
}

-- an edge is taken out of it
pub takes_edge : (old new : BTreeMap Symbol ℕ) (s : Symbol) → IsOrdered symbol_cmp new → UpdatesBy symbol_cmp (symbol_cmp s) old new None → (c : ℕ) → Apart old.entries → target s old.entries ≡ Some c → AddsEdge new.entries old.entries s c
takes_edge old new s b h c a leads = record {
  free = sym (target_found s new.entries) ∙ h.1;
  leads = leads;
  same = λ t d. sym (target_found t old.entries) ∙ sym (h.2 t (unequal s t d)) ∙ target_found t new.entries;
  was_apart = apart_sorted new.entries b;
  apart = a;
}
