-- An operand by the number of parentheses that may be opened.
use Rattle.std.proofs.Common.{◌≡◌, ◌≢◌, ℕ, zero, suc, ◌-◌, Bool, true, false, List, sym, subst, arith}
use Rattle.std.specs.Prelude.{Result}
use Rattle.std.specs.Borrow.{Bor}
use Rattle.isa_tokens.specs.declared.token.Token.{Token}
use Rattle.isa_outer.specs.declared.refusal.Kind.{Kind}
use Rattle.isa_outer.specs.Methods.{Method}
use Rattle.isa_outer.specs.Private.Answers.{Answers}
use Rattle.isa_outer.specs.Private.Heads.{stops_in}
use Rattle.isa_outer.specs.Grammar.{layer, operand, choice, simple_method}

less-one : (m : ℕ) → m ≡ suc m - 1
less-one m = omega arith

pub operand_deep : (line n : ℕ) (stops : List Token → Bool) (ts : List Token) (r : Result (Method × Bor (List Token)) Kind) → n ≡ 0 →
    Answers r (layer line true stops (simple_method line true stops)) ts → Answers r (operand line n stops) ts
unfolding operand
operand_deep line zero stops ts r e h = h
operand_deep line (suc n) stops ts r e h = absurd (omega arith)

pub operand_less : (line n : ℕ) (stops : List Token → Bool) (ts : List Token) (r : Result (Method × Bor (List Token)) Kind) → n ≢ 0 →
    Answers r (layer line false stops (choice line (operand line (n - 1) (stops_in true)))) ts → Answers r (operand line n stops) ts
unfolding operand
operand_less line zero stops ts r e h = absurd (omega arith)
operand_less line (suc n) stops ts r e h = subst (λ k. Answers r (layer line false stops (choice line (operand line k (stops_in true)))) ts) (sym (less-one n)) h
