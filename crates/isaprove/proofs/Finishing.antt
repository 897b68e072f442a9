-- A lemma with a subgoal left is not closed.
use Rattle.std.proofs.Common.{◌≡◌, ℕ, ◌<◌, List, [], ◌∷◌, length, Option, Some, Err, refl, sym, ap, subst, ◌∙◌, arith}
use Rattle.isa_terms.specs.Terms.{Tm}
use Rattle.isa_goal.specs.Goals.{Goals}
use Rattle.isaprove.specs.declared.session.OpenLemma.{OpenLemma}
use Rattle.isaprove.specs.declared.session.Session.{Session}
use Rattle.isaprove.specs.declared.failure.Failure.TheVariants.{NoResult}
use Rattle.isaprove.specs.declared.failure.Rejection.TheVariants.{Failed}
use Rattle.isaprove.specs.Steps.{closed, finishing}
use Rattle.isaprove.specs.Taken.{told, within}

closed_left : (s : Session) (l : OpenLemma) (ts : List Tm) → 0 < length ts → closed s l ts ≡ Err (Failed (NoResult 0))
closed_left s l [] h = absurd (omega arith)
closed_left s l (t ∷ ts) h = refl

finishing_left : (s : Session) (l : OpenLemma) → 0 < length l.state.subgoals → finishing s l ≡ Err (Failed (NoResult 0))
unfolding finishing
finishing_left s l h = closed_left s l l.state.subgoals h

pub finish_left : (s : Session) (line : ℕ) (l : OpenLemma) (o : Option OpenLemma) (t : Goals) → o ≡ Some l → t ≡ l.state → 0 < length t.subgoals → told (within line o (λ l. finishing s l)) ≡ Err (Failed (NoResult 0))
finish_left s line l o t e f h =
    ap (λ (o : Option OpenLemma). told (within line o (λ l. finishing s l))) e
    ∙ ap told (finishing_left s l (subst (λ (u : Goals). 0 < length u.subgoals) f h))
