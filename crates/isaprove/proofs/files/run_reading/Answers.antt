use Rattle.isaprove.proofs.Turning.{long_refused, unread_refused}
use Rattle.isaprove.proofs.files.run_reading.Goals as goal

pub returns-in-Long-clause-does : goal.returns-in-Long-clause-does
returns-in-Long-clause-does g c = rw c.in-Long.is (long_refused _ _ _ _ _ _ c.refuse_file.ensures.stops)

pub returns-in-Failed-clause-does : goal.returns-in-Failed-clause-does
returns-in-Failed-clause-does g c = rw c.in-Failed.is (unread_refused _ _ _ _ _ _ c.refuse_file-in-Failed.ensures.stops)
