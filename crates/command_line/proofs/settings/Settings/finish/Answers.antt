use Rattle.std.proofs.Common.{◌≡◌, Err, map, string_bytes}
use Rattle.std.proofs.lemmas.Result.{err_from_is_err_and}
use Rattle.command_line.specs.CommandLine.{Package, package_word}
use Rattle.command_line.specs.Reading.{continued}
use Rattle.command_line.proofs.Names.{NamesWord-weaker}
use Rattle.command_line.proofs.Packaged.{continued-packages, continued-bad}
use Rattle.command_line.proofs.settings.Settings.finish.Goals as goal

pub returns-in-Some-clause-bad_word : goal.returns-in-Some-clause-bad_word
returns-in-Some-clause-bad_word c = rw (continued-packages c.args.self _, c.in-Some.is) c.alone.ensures.bad_word

pub returns-in_err-word-in-None-clause-bad_word : goal.returns-in_err-word-in-None-clause-bad_word
returns-in_err-word-in-None-clause-bad_word c =
    let p = err_from_is_err_and c.from_residual.result c.from_residual.ensures.1 in
    let words = map string_bytes c.args.words.now in
    rw (p.1, p.2) (NamesWord-weaker c.in_err-word-in-None.field-0.0 (λ word. package_word words ≡ Err word) (λ word. continued c.args.self (map Package words) ≡ Err word) (λ word bad. continued-bad c.args.self words word c.in-None.is bad) c.in_err-word-in-None.ensures.bad_word)
