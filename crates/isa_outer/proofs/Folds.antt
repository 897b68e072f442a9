-- Reading an operand and what follows it, from the left.
use Rattle.std.proofs.Common.{◌≡◌, ◌<◌, true, false, List, [], ◌∷◌, ◌++◌, length, refl, sym, ap, ◌∙◌, arith}
use Rattle.std.specs.Prelude.{fold}
use Rattle.std.proofs.lemmas.List.Sums.{fold-append}
use Rattle.isa_tokens.specs.declared.token.Token.{Token}
use Rattle.isa_outer.specs.declared.refusal.Kind.{Kind}
use Rattle.isa_outer.specs.Private.Answers.{IsCause}
use Rattle.isa_outer.specs.Grammar.{◌▸◌, ◌&◌, chain}
use Rattle.isa_outer.specs.Forms.{Form, many, value, is_optional, Reading, Got, begins, read, ◌>>=◌}
use Rattle.isa_outer.proofs.Lists.{PairSoFar, pair_start, pair_next, pair_end, pair_refused, begins_behind, behind_sign, dropped}

pub record FoldSoFar (A B : Type 0) (join : A → B → A) (first : Form A) (next : Form B) (tokens rest : List Token) (m : A) : Type 0 where
  pub a : A
  pub items : List B
  pub is : m ≡ fold join a items
  pub pairs : PairSoFar A B first next tokens rest a items

abbrev folded : {A B : Type 0} → (A → B → A) → Form A → Form B → Form A
folded join first next = value (λ p. fold join p.0 p.1) (first & many next)

abbrev joined : {A B : Type 0} → (A → B → A) → Reading (A × List B) → Reading A
joined join r = r >>= λ p. Got (fold join p.0.0 p.0.1) p.1

pub fold_start : (A B : Type 0) (join : A → B → A) (first : Form A) (next : Form B) (tokens start : List Token) (a : A) →
    (read first tokens ≡ Got a start) × (length start < length tokens) → FoldSoFar A B join first next tokens start a
fold_start A B join first next tokens start a h = record { a = a; items = []; is = refl; pairs = pair_start A B first next tokens start a h.0 h.1 }

pub fold_next : (A B : Type 0) (join : A → B → A) (first : Form A) (next : Form B) (tokens rest after : List Token) (m longer : A) (b : B) →
    FoldSoFar A B join first next tokens rest m → (begins next rest ≡ true) × (read next rest ≡ Got b after) × (length after < length rest) → longer ≡ join m b →
    FoldSoFar A B join first next tokens after longer
fold_next A B join first next tokens rest after m longer b so r l =
    record {
      a = so.a;
      items = so.items ++ b ∷ [];
      is = l ∙ ap (λ x. join x b) so.is ∙ sym (fold-append join so.a so.items (b ∷ []));
      pairs = pair_next A B first next tokens rest after so.a so.items b so.pairs r.0 r.1 r.2;
    }

pub fold_end : (A B : Type 0) (join : A → B → A) (first : Form A) (next : Form B) (tokens rest : List Token) (m : A) →
    FoldSoFar A B join first next tokens rest m → begins next rest ≡ false → (read (folded join first next) tokens ≡ Got m rest) × (length rest < length tokens)
fold_end A B join first next tokens rest m so e =
    (ap (λ (r : Reading (A × List B)). joined join r) (pair_end A B first next tokens rest so.a so.items so.pairs e) ∙ ap (λ x. Got x rest) (sym so.is), so.pairs.shorter)

pub chain_next : (A : Type 0) (join : A → A → A) (by : Form (Unit {0})) (f : Form A) (tokens rest between after : List Token) (m longer b : A) →
    FoldSoFar A A join f (by ▸ f) tokens rest m → is_optional by ≡ false → (begins by rest ≡ true) × (read by rest ≡ Got tt between) × (length between < length rest) →
    (read f between ≡ Got b after) × (length after < length between) → longer ≡ join m b → FoldSoFar A A join f (by ▸ f) tokens after longer
chain_next A join by f tokens rest between after m longer b so o s r l =
    fold_next A A join f (by ▸ f) tokens rest after m longer b so
    (begins_behind by f rest true o s.0, behind_sign by f rest between s.1 ∙ ap (λ (x : Reading A). dropped x) r.0, omega (arith, s.2, r.1)) l

pub chain_end : (A : Type 0) (join : A → A → A) (by : Form (Unit {0})) (f : Form A) (tokens rest : List Token) (m : A) →
    FoldSoFar A A join f (by ▸ f) tokens rest m → is_optional by ≡ false → begins by rest ≡ false → (read (chain join by f) tokens ≡ Got m rest) × (length rest < length tokens)
chain_end A join by f tokens rest m so o e = fold_end A A join f (by ▸ f) tokens rest m so (begins_behind by f rest false o e)

pub chain_refused : (A : Type 0) (join : A → A → A) (by : Form (Unit {0})) (f : Form A) (tokens rest between : List Token) (m : A) (cause : Kind) →
    FoldSoFar A A join f (by ▸ f) tokens rest m → is_optional by ≡ false → (begins by rest ≡ true) × (read by rest ≡ Got tt between) × (length between < length rest) →
    IsCause cause (read f between) → IsCause cause (read (chain join by f) tokens)
chain_refused A join by f tokens rest between m cause so o s r n =
    ap (λ (r : Reading (A × List A)). joined join r)
    (pair_refused A A f (by ▸ f) tokens rest so.a so.items cause so.pairs (begins_behind by f rest true o s.0) (behind_sign by f rest between s.1 ∙ ap (λ (x : Reading A). dropped x) (r n)))

pub fold_first : (A B : Type 0) (join : A → B → A) (first : Form A) (next : Form B) (tokens : List Token) (cause : Kind) →
    IsCause cause (read first tokens) → IsCause cause (read (folded join first next) tokens)
fold_first A B join first next tokens cause h n =
    ap (λ (r : Reading A). let both : Reading (A × List B) = r >>= λ p. read (many next) p.1 >>= λ q. Got (p.0, q.0) q.1 in joined join both) (h n)
