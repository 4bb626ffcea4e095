use Rattle.std.proofs.Common.{rules}
use Rattle.go_store.proofs.Spelled.{runes_exist}
use Rattle.go_store.proofs.conversions.runes_of_text.Goals as goal

pub returns-in_err-runes : goal.returns-in_err-runes
returns-in_err-runes c =
    let all = runes_exist c.args.text.now in
    (all.0, all.1, record { value = search rules; ok = search rules; err = search rules })
