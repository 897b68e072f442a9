use Rattle.std.proofs.Common.{[], refl}
use Rattle.isa_terms.specs.Norm.{norm}
use Rattle.isa_terms.specs.Instance.{inst_tm}
use Rattle.isa_typing.specs.Inference.{term_of}
use Rattle.isa_typing.proofs.MostGeneral.{no_typing, solved_by_unifier, principal_of_named}
use Rattle.isa_typing.proofs.laws.unifiers_are_principal.Goals as goal

pub returns : goal.returns
returns c = record {
  principal = λ declared u q p g n. let solved = inst_tm q [] (term_of declared u) in principal_of_named declared u solved p (norm p) (solved_by_unifier declared u q solved g refl) n refl;
  none = no_typing;
}
