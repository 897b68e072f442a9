use Rattle.isaprove.proofs.Turning.{closed_whole, closed_open}
use Rattle.isaprove.proofs.progress.close_text.Goals as goal

pub returns-in-None-clause-does : goal.returns-in-None-clause-does
returns-in-None-clause-does g c = closed_whole _ _ _ c.in-None.is

pub returns-in-Some-clause-does : goal.returns-in-Some-clause-does
returns-in-Some-clause-does g c = closed_open _ _ c.in-Some.lemma _ _ _ c.in-Some.is c.refuse.ensures.stops
