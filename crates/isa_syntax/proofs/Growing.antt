-- What was declared behind a mark is taken back.
use Rattle.std.proofs.Common.{◌≡◌, ℕ, Bool, true, false, List, [], ◌∷◌, ◌++◌, Option, Some, None, take, length, refl, sym, ap, ◌∙◌}
use Rattle.std.specs.Prelude.{is_some, if◌then◌else◌}
use Rattle.std.proofs.Math.Seq.{take-append_seam}
use Rattle.isa_syntax.specs.Syntaxes.{SyntaxSeen}
use Rattle.isa_syntax.specs.Growing.{Goes, Stays, Grows, undone, mark_of, TakesBack}

goes_front : {A : Type 0} (xs ys : List A) → Goes xs ys → take (length xs) ys ≡ xs
goes_front xs ys g = ap (λ l. take (length xs) l) g.is ∙ take-append_seam xs g.more

judgment_back : (old new : Option (List ℕ)) → Stays old new → (if is_some old then new else None) ≡ old
judgment_back None new s = refl
judgment_back (Some x) new s = s

pub takes_back : TakesBack
takes_back old new g = λ i. record {
  signature = record {
    arities = goes_front old.signature.arities new.signature.arities g.types i;
    signs = goes_front old.signature.signs new.signature.signs g.signs i;
    notated = goes_front old.signature.notated new.signature.notated g.notated i;
    judgment = judgment_back old.signature.judgment new.signature.judgment g.judgment i;
  };
  constants = goes_front old.constants new.constants g.constants i;
}
