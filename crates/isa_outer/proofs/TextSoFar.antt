-- Reading the commands of a text, one after the other.
use Rattle.std.proofs.Common.{◌≡◌, ◌≢◌, ℕ, ◌<◌, true, false, List, [], ◌∷◌, ◌++◌, length, sym, ap, subst, ◌∙◌, append_assoc, append-nil}
use Rattle.std.specs.Prelude.{Option, Some, None, Result, Ok, Err}
use Rattle.std.specs.Result.{IsErrAnd}
use Rattle.isa_tokens.specs.declared.token.Token.{Token}
use Rattle.isa_outer.specs.declared.refusal.Kind.TheVariants as kind
use Rattle.isa_outer.specs.declared.refusal.Refused.{Refused}
use Rattle.isa_outer.specs.declared.command.Command.{Command}
use Rattle.isa_outer.specs.Forms.{read, Got, Refuses}
use Rattle.isa_outer.specs.Grammar.{command}
use Rattle.isa_outer.specs.Texts.{Reads, ends, next, refuses, is_end, first_line, line_at, AnswersTokens}

-- these commands were read, and the others stand in the rest
pub record TextSoFar (tokens rest : List Token) (last : Option ℕ) (commands : List Command) : Type 0 where
  pub reads : (more : List Command) (refusal : Option Refused) → Reads last rest more refusal → Reads None tokens (commands ++ more) refusal

pub text_start : (tokens rest : List Token) (last : Option ℕ) (empty : List Command) → last ≡ None → rest ≡ tokens → empty ≡ [] → TextSoFar tokens rest last empty
text_start tokens rest last empty l e n =
    record {
      reads = λ more refusal r.
          let one : Reads None tokens more refusal = subst (λ (us : List Token). Reads None us more refusal) e (subst (λ (o : Option ℕ). Reads o rest more refusal) l r) in
          subst (λ (cs : List Command). Reads None tokens (cs ++ more) refusal) (sym n) one;
    }

pub text_next : (tokens rest after : List Token) (last : Option ℕ) (commands longer : List Command) (c : Command) (line : ℕ) →
    TextSoFar tokens rest last commands → is_end rest ≡ false → line ≡ first_line rest →
    (read (command (first_line rest)) rest ≡ Got c after) × (length after < length rest) → longer ≡ commands ++ c ∷ [] → TextSoFar tokens after (Some line) longer
text_next tokens rest after last commands longer c line so h is r l =
    record {
      reads = λ more refusal s.
          let step : Reads last rest (c ∷ more) refusal = next last rest after c more refusal h r.0 (subst (λ n. Reads (Some n) after more refusal) is s) in
          let all : Reads None tokens (commands ++ c ∷ more) refusal = so.reads (c ∷ more) refusal step in
          subst (λ (cs : List Command). Reads None tokens cs refusal) (sym (ap (λ (cs : List Command). cs ++ more) l ∙ append_assoc commands (c ∷ []) more)) all;
    }

pub text_end : (tokens rest : List Token) (last : Option ℕ) (commands : List Command) → TextSoFar tokens rest last commands → is_end rest ≡ true → Reads None tokens commands None
text_end tokens rest last commands so e = subst (λ (cs : List Command). Reads None tokens cs None) (append-nil commands) (so.reads [] None (ends last rest e))

pub text_refused : (tokens rest : List Token) (last : Option ℕ) (commands : List Command) (r : Result (List Command) Refused) (refused : Refused) →
    TextSoFar tokens rest last commands → is_end rest ≡ false →
    (refused.kind ≢ kind.Memory → (refused.line ≡ line_at last rest) × (read (command (first_line rest)) rest ≡ Refuses refused.kind)) →
    IsErrAnd r (λ e. e ≡ refused) → AnswersTokens tokens r
text_refused tokens rest last commands (Ok cs) refused so h r e = absurd e
text_refused tokens rest last commands (Err x) refused so h r e = λ n.
    let fact = r (λ m. n (ap (λ (y : Refused). y.kind) e ∙ m)) in
    let step : Reads last rest [] (Some (record { line = line_at last rest; kind = refused.kind })) = refuses last rest refused.kind h fact.1 in
    let same : Reads last rest [] (Some refused) = subst (λ k. Reads last rest [] (Some (record { line = k; kind = refused.kind }))) (sym fact.0) step in
    (commands ++ [], so.reads [] (Some x) (subst (λ (y : Refused). Reads last rest [] (Some y)) (sym e) same))
