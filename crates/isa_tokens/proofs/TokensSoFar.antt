-- Cutting a text into tokens, one after the other.
use Rattle.std.proofs.Common.{◌≡◌, ℕ, zero, suc, ◌+◌, ◌-◌, ◌≤◌, ◌<◌, cond, nat_eq, List, [], ◌∷◌, ◌++◌, length, take, drop, refl, sym, ap, subst, ◌∙◌, arith, append_assoc}
use Rattle.std.specs.Prelude.{count_by}
use Rattle.std.proofs.lemmas.List.Sums.{sum_by-append}
use Rattle.isa_tokens.specs.declared.token.Fault.{Fault}
use Rattle.isa_tokens.specs.declared.token.Lexeme.{Lexeme}
use Rattle.isa_tokens.specs.declared.token.Lexeme.TheVariants.{End, Broken}
use Rattle.isa_tokens.specs.declared.token.Token.{Token}
use Rattle.isa_tokens.specs.Tokens.{Ends, Skips, Gives, Faults, front_of, line_of, Reads, ends, skips, gives, faults}
use Rattle.isa_tokens.specs.Private.Scans.{IsBehind}
use Rattle.isa_tokens.proofs.InsideSteps.{still_behind, all_behind}

abbrev feeds : List ℕ → ℕ
feeds bytes = count_by (λ b. nat_eq b 10) bytes

take-more : (n m : ℕ) (xs : List ℕ) → take (n + m) xs ≡ take n xs ++ take m (drop n xs)
take-more zero m xs = ap (λ k. take k xs) (let e : 0 + m ≡ m = omega arith in e)
take-more (suc n) m [] = take-none (suc n + m) ∙ sym (take-none m)
  where
    take-none : (k : ℕ) → take k (let none : List ℕ = [] in none) ≡ []
    take-none zero = refl
    take-none (suc k) = refl
take-more (suc n) m (x ∷ xs) = ap (λ k. take k (x ∷ xs)) (let e : suc n + m ≡ suc (n + m) = omega arith in e) ∙ ap (λ l. x ∷ l) (take-more n m xs)

line_next : (text rest after : List ℕ) → IsBehind text rest → IsBehind rest after → line_of text after ≡ line_of text rest + feeds (take (length rest - length after) rest)
line_next text rest after b c =
    let n : ℕ = length text - length rest in
    let m : ℕ = length rest - length after in
    let count : length text - length after ≡ (length text - length rest) + (length rest - length after) = omega (arith, b.0, c.0) in
    let cut : take (length text - length after) text ≡ take (length text - length rest) text ++ take (length rest - length after) rest =
    ap (λ k. take k text) count ∙ take-more (length text - length rest) (length rest - length after) text
    ∙ ap (λ (l : List ℕ). take (length text - length rest) text ++ take (length rest - length after) l) (sym b.1) in
    let sums : feeds (take (length text - length rest) text ++ take (length rest - length after) rest) ≡ feeds (take (length text - length rest) text) + feeds (take (length rest - length after) rest) =
    sum_by-append (λ b. cond (nat_eq b 10) 1 0) (take (length text - length rest) text) (take (length rest - length after) rest) in
    omega (arith, ap (λ (l : List ℕ). feeds l) cut, sums)

-- the tokens before the rest were read, and it begins on this line
pub record TokensSoFar (text rest : List ℕ) (tokens : List Token) (line : ℕ) : Type 0 where
  pub reads : (more : List Token) → Reads text rest more → Reads text text (tokens ++ more)
  pub line_is : line ≡ line_of text rest
  pub behind : IsBehind text rest
  pub low : line + length rest ≤ length text + 1

pub tokens_start : (text : List ℕ) (empty : List Token) → empty ≡ [] → TokensSoFar text text empty 1
tokens_start text empty e =
    record {
      reads = λ more r. subst (λ (ts : List Token). Reads text text (ts ++ more)) (sym e) r;
      line_is = ap (λ k. feeds (take k text) + 1) (let n : 0 ≡ length text - length text = omega arith in n);
      behind = all_behind text;
      low = omega arith;
    }

pub tokens_skip : (text rest after : List ℕ) (tokens : List Token) (line count : ℕ) → TokensSoFar text rest tokens line → Skips after ≡ front_of rest →
    (IsBehind rest after) × (length after < length rest) → count ≡ feeds (take (length rest - length after) rest) → count ≤ length rest - length after → TokensSoFar text after tokens (line + count)
tokens_skip text rest after tokens line count so f b c l =
    record {
      reads = λ more r. so.reads more (skips rest after more (sym f) r);
      line_is = omega (arith, so.line_is, c, line_next text rest after so.behind b.0);
      behind = still_behind text rest after (length rest - length after) so.behind (omega arith) b.0.1;
      low = omega (arith, so.low, l, b.1);
    }

pub tokens_give : (text rest after : List ℕ) (lexeme : Lexeme) (tokens longer : List Token) (line count : ℕ) → TokensSoFar text rest tokens line → Gives lexeme after ≡ front_of rest →
    (IsBehind rest after) × (length after < length rest) → count ≡ feeds (take (length rest - length after) rest) → count ≤ length rest - length after →
    longer ≡ tokens ++ record { lexeme = lexeme; line = line } ∷ [] → TokensSoFar text after longer (line + count)
tokens_give text rest after lexeme tokens longer line count so f b c l e =
    record {
      reads = λ more r.
          let here : Token = record { lexeme = lexeme; line = line_of text rest } in
          let all : Reads text text (tokens ++ here ∷ more) = so.reads (here ∷ more) (gives rest after lexeme more (sym f) r) in
          let same : longer ≡ tokens ++ here ∷ [] = e ∙ ap (λ n. tokens ++ record { lexeme = lexeme; line = n } ∷ []) so.line_is in
          subst (λ (ts : List Token). Reads text text ts) (sym (ap (λ (ts : List Token). ts ++ more) same ∙ append_assoc tokens (here ∷ []) more)) all;
      line_is = omega (arith, so.line_is, c, line_next text rest after so.behind b.0);
      behind = still_behind text rest after (length rest - length after) so.behind (omega arith) b.0.1;
      low = omega (arith, so.low, l, b.1);
    }

pub tokens_end : (text rest : List ℕ) (tokens longer : List Token) (line : ℕ) → TokensSoFar text rest tokens line → Ends ≡ front_of rest →
    longer ≡ tokens ++ record { lexeme = End; line = line } ∷ [] → Reads text text longer
tokens_end text rest tokens longer line so f e =
    let all : Reads text text (tokens ++ record { lexeme = End; line = line_of text rest } ∷ []) = so.reads (record { lexeme = End; line = line_of text rest } ∷ []) (ends rest (sym f)) in
    subst (λ (ts : List Token). Reads text text ts) (sym (e ∙ ap (λ n. tokens ++ record { lexeme = End; line = n } ∷ []) so.line_is)) all

pub tokens_fault : (text rest place : List ℕ) (fault : Fault) (tokens longer : List Token) (line count : ℕ) → TokensSoFar text rest tokens line → Faults fault place ≡ front_of rest →
    IsBehind rest place → count ≡ feeds (take (length rest - length place) rest) →
    longer ≡ tokens ++ record { lexeme = Broken fault; line = line + count } ∷ [] → Reads text text longer
tokens_fault text rest place fault tokens longer line count so f b c e =
    let lines : line + count ≡ line_of text place = omega (arith, so.line_is, c, line_next text rest place so.behind b) in
    let all : Reads text text (tokens ++ record { lexeme = Broken fault; line = line_of text place } ∷ []) = so.reads (record { lexeme = Broken fault; line = line_of text place } ∷ []) (faults rest place fault (sym f)) in
    subst (λ (ts : List Token). Reads text text ts) (sym (e ∙ ap (λ n. tokens ++ record { lexeme = Broken fault; line = n } ∷ []) lines)) all
