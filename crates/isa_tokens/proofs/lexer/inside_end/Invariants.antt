use Rattle.std.proofs.Common.{◌≡◌, ◌≤◌, length}
use Rattle.isa_tokens.specs.Tokens.{inside_end}
use Rattle.isa_tokens.specs.Private.Scans.{IsBehind}
use Rattle.isa_tokens.proofs.lexer.inside_end.Given as goal

abbrev pub invariant-loop-first : goal.invariant-loop-first
invariant-loop-first l = record {
  end_is : inside_end l.bracket 0 1 l.text ≡ inside_end l.bracket 0 l.depth l.rest;
  positive : 1 ≤ l.depth;
  bounded : l.depth ≤ 500;
  behind : IsBehind l.text l.rest;
}

abbrev pub decreases-loop-first : goal.decreases-loop-first
decreases-loop-first l = length l.rest
