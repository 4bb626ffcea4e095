use Rattle.std.proofs.Common.{◌≡◌, ◌∙◌, [], ◌∷◌, inr}
use Rattle.std.proofs.lemmas.Result.{err_from_is_err_and}
use Rattle.go_sources.specs.BuiltIns.{built_in_text}
use Rattle.go_load.proofs.FileLaws.{built_in_read, built_in_refused}
use Rattle.go_load.proofs.package_files.read_built_in.Goals as goal

pub returns-in_err-source-clause-why : goal.returns-in_err-source-clause-why
returns-in_err-source-clause-why c =
    let p = err_from_is_err_and c.from_residual-in_err-source.result c.from_residual-in_err-source.ensures.1 in
    let text : c.in_ok-bytes.bytes.items ≡ built_in_text c.args.built_in = c.in_ok-bytes.ensures.items ∙ c.as_bytes.ensures.value ∙ c.text.ensures.says in
    rw (p.1, p.2) (λ files. c.in_err-source.ensures.why files (inr (c.args.built_in, c.path.ensures, text)))

pub returns-in_err-source-clause-answer : goal.returns-in_err-source-clause-answer
returns-in_err-source-clause-answer c =
    let p = err_from_is_err_and c.from_residual-in_err-source.result c.from_residual-in_err-source.ensures.1 in
    let text : c.in_ok-bytes.bytes.items ≡ built_in_text c.args.built_in = c.in_ok-bytes.ensures.items ∙ c.as_bytes.ensures.value ∙ c.text.ensures.says in
    rw (p.1, p.2) (built_in_refused c.args.built_in c.path.result.now c.in_ok-bytes.bytes.items c.in_err-source.field-0.0 c.path.ensures text c.in_err-source.ensures.answer)

pub returns-clause-answer : goal.returns-clause-answer
returns-clause-answer c =
    let text : c.in_ok-bytes.bytes.items ≡ built_in_text c.args.built_in = c.in_ok-bytes.ensures.items ∙ c.as_bytes.ensures.value ∙ c.text.ensures.says in
    let items : c.push.new.self.items ≡ c.in_ok-source.source ∷ [] = (cc (c.in_ok-push.ensures.items, c.new-sources.ensures.items)) in
    built_in_read c.args.built_in c.path.result.now c.in_ok-bytes.bytes.items c.in_ok-source.source c.push.new.self c.path.ensures text c.in_ok-source.ensures.answer items
