use Rattle.isaprove.proofs.InputLemmas.{runs_reading, runs_nothing}
use Rattle.isaprove.proofs.files.run_file.Goals as goal

pub returns-in_err-reading-clause-runs : goal.returns-in_err-reading-clause-runs
returns-in_err-reading-clause-runs g c =
    let failed = c.in_err-reading.ensures.answer in
    runs_nothing _ _ _ _ _ _ _ _ c.from_residual.ensures.1 failed.0 failed.1

pub returns-clause-runs : goal.returns-clause-runs
returns-clause-runs g c = runs_reading _ _ _ _ _ _ _ _ _ c.in_ok-reading.ensures.answer c.run_reading.ensures.does
