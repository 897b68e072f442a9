use Rattle.std.proofs.Common.{refl, []}
use Rattle.isa_terms.proofs.Typed.{typed_of_type}
use Rattle.isa_goal.proofs.Matches.{matched_sound, grows_same}
use Rattle.isa_goal.proofs.Completing.{matched_found}
use Rattle.isa_goal.proofs.laws.matches_are_exact.Goals as goal

pub returns : goal.returns
returns c = record { sound = λ p t gs e. let s = matched_sound p t [] gs e in (s.gives gs (grows_same gs), s.keeps refl); found = λ n p t T o h k e. matched_found n k p t T o (typed_of_type [] p T h) e }
