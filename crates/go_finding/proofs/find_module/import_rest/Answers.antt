use Rattle.std.proofs.Common.{◌∙◌, ◌++◌, ap, sym, lit<}
use Rattle.std.proofs.lemmas.Str.Pattern.{strip_prefix_char}
use Rattle.go_finding.proofs.ImportPaths.{import_rest-none, import_rest-stripped}
use Rattle.go_finding.proofs.find_module.import_rest.Goals as goal

pub returns-in_err-strip_prefix : goal.returns-in_err-strip_prefix
returns-in_err-strip_prefix c =
    rw c.from_residual.ensures (sym (import_rest-none c.args.front.now c.args.import.now (λ rest e. c.in_err-strip_prefix.ensures.cases rest e)))

pub returns : goal.returns
returns c =
    let cases = c.in_ok-strip_prefix.ensures.cases in
    let first = c.in_ok-strip_prefix.field-0.now in
    import_rest-stripped c.args.front.now c.args.import.now first c.strip_prefix-2.result (cases.1.1 ∙ ap (λ l. c.args.front.now ++ l) (sym cases.2))
    (strip_prefix_char 47 first c.strip_prefix-2.result c.strip_prefix-2.ensures.cases (lit< tt))
