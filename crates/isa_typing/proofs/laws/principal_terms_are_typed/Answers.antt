use Rattle.isa_typing.proofs.WellTyped.{principal_terms_are_typed_law, annotations_hold_law, variables_have_one_type_law}
use Rattle.isa_typing.proofs.laws.principal_terms_are_typed.Goals as goal

pub returns : goal.returns
returns c = record { typed = principal_terms_are_typed_law; annotated = annotations_hold_law; variables = variables_have_one_type_law }
