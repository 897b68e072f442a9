use Rattle.std.proofs.Common.{rules, ◌≡◌, ap, ◌∙◌, true}
use Rattle.isaprove.specs.declared.progress.Progress.{Progress}
use Rattle.isaprove.specs.Run.{names, keeps_on, start, is_reading}
use Rattle.isaprove.proofs.WordLemmas.{runs_usage, words_nothing, words_stopped, words_ended}
use Rattle.isaprove.proofs.top.run_words.Goals as goal

pub returns-then-not-is_reading-clause-runs : goal.returns-then-not-is_reading-clause-runs
returns-then-not-is_reading-clause-runs g c = runs_usage _ _ _ _ _ (search rules) c.requires.opens c.tell_usage.ensures.stops

pub returns-in_err-progress-clause-runs : goal.returns-in_err-progress-clause-runs
returns-in_err-progress-clause-runs g c = words_nothing _ _ _ _ c.requires.opens c.from_residual.ensures.1

pub returns-in_err-run_files-clause-runs : goal.returns-in_err-run_files-clause-runs
returns-in_err-run_files-clause-runs g c =
    let read : is_reading (names c.args.words.now) ≡ true = search rules in
    let begun : c.in_ok-progress.progress ≡ start (keeps_on (names c.args.words.now)) = c.in_ok-progress.ensures ∙ ap start c.keeps_on.ensures in
    words_stopped _ _ _ _ _ _ _ _ _ _ read begun c.file_words.ensures c.from_residual-in_err-run_files.ensures.1 c.in_err-run_files.ensures.runs

pub returns-clause-runs : goal.returns-clause-runs
returns-clause-runs g c =
    let read : is_reading (names c.args.words.now) ≡ true = search rules in
    let begun : c.in_ok-progress.progress ≡ start (keeps_on (names c.args.words.now)) = c.in_ok-progress.ensures ∙ ap start c.keeps_on.ensures in
    words_ended _ _ _ _ _ _ _ _ _ _ read begun c.file_words.ensures c.end_code.ensures c.in_ok-run_files.ensures.runs
