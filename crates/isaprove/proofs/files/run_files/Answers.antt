use Rattle.std.proofs.Common.{◌<◌, ◌≤◌, ◌≡◌, length, get_or, [], arith, refl}
use Rattle.isaprove.specs.Run.{names}
use Rattle.isaprove.proofs.Writing.{same_trans}
use Rattle.isaprove.proofs.InputLemmas.{files_begin, files_passed, files_stopped, files_end, name_at, names_length}
use Rattle.isaprove.proofs.files.run_files.Goals as goal

pub loop-word-init : goal.loop-word-init
loop-word-init g c = (record { out = refl; err = refl }, files_begin _ _ _ _ c.requires.opens)

pub run_file-requires-clause-out : goal.run_file-requires-clause-out
run_file-requires-clause-out g c = omega (arith, c.loop-word.invariant.1.calm.out)

pub run_file-requires-clause-err : goal.run_file-requires-clause-err
run_file-requires-clause-err g c = omega (arith, c.loop-word.invariant.1.calm.err)

pub returns-in_err-run_file-clause-runs : goal.returns-in_err-run_file-clause-runs
returns-in_err-run_file-clause-runs g c =
    let inside : c.loop-word.word-index < length c.args.words.now = omega arith in
    let within : c.loop-word.word-index < length (names c.args.words.now) = omega (arith, names_length c.args.words.now) in
    let named : c.as_str.result.now ≡ get_or (names c.args.words.now) c.loop-word.word-index [] = name_at c.args.words.now c.loop-word.word-index c.word-item.result c.as_str.result.now inside c.word-item.is c.as_str.ensures.value in
    files_stopped _ _ _ _ _ [] _ _ _ _ _ _ _ _ _ c.as_str.result.now within named c.loop-word.invariant.1 c.in_err-run_file.ensures.runs c.in_err-run_file.ensures.opens c.from_residual.ensures.1

pub loop-word-preserved : goal.loop-word-preserved
loop-word-preserved g c =
    let inside : c.loop-word.word-index < length c.args.words.now = omega arith in
    let within : c.loop-word.word-index < length (names c.args.words.now) = omega (arith, names_length c.args.words.now) in
    let named : c.as_str.result.now ≡ get_or (names c.args.words.now) c.loop-word.word-index [] = name_at c.args.words.now c.loop-word.word-index c.word-item.result c.as_str.result.now inside c.word-item.is c.as_str.ensures.value in (
      same_trans _ _ _ c.loop-word.invariant.0 c.in_ok-run_file.ensures.same,
      files_passed _ _ _ _ _ [] _ _ _ _ _ _ c.as_str.result.now within named c.loop-word.invariant.1 c.in_ok-run_file.ensures.runs c.in_ok-run_file.ensures.opens c.in_ok-run_file.ensures.texts,
    )

pub returns-clause-runs : goal.returns-clause-runs
returns-clause-runs g c =
    let all : length (names c.args.words.now) ≤ c.loop-word.word-index = omega (arith, names_length c.args.words.now) in
    let fewer : c.loop-word.word-index ≤ length (names c.args.words.now) = omega (arith, names_length c.args.words.now) in
    files_end _ _ _ _ _ _ _ _ _ all fewer c.loop-word.invariant.1
