use Rattle.std.proofs.Common.{◌≡◌, ◌∙◌, refl, ap}
use Rattle.isa_kernel.specs.Logic.{prop}
use Rattle.isa_raw.specs.RawTerms.{RawTyped}
use Rattle.isa_syntax.proofs.Telling.{untyped}
use Rattle.isa_syntax.proofs.reading.principal.Goals as goal

pub returns-in-Err-Types : goal.returns-in-Err-Types
returns-in-Err-Types c =
    let same : c.in_ok-typed.typed ≡ RawTyped c.args.raw prop = c.in_ok-typed.ensures ∙ ap (RawTyped c.args.raw) c.in_ok-prop_type.ensures in
    λ n. (refl, untyped c.constants.result.now.entries c.args.syntax.now.constants c.in_ok-typed.typed (RawTyped c.args.raw prop) c.constants.ensures same (rw c.in-Err-Types.field-0-is at c.in-Err-Types.ensures))
