use Rattle.std.proofs.Common.{◌∙◌, ◌∷◌, ◌++◌, ap, sym, lit<, rules}
use Rattle.std.proofs.lemmas.Str.Pattern.{strip_prefix_char}
use Rattle.go_base.proofs.Below.{below_no, below_stripped, rest_below_other}
use Rattle.go_base.proofs.paths.rest_below.Goals as goal

pub returns-in_err-strip_prefix : goal.returns-in_err-strip_prefix
returns-in_err-strip_prefix c =
    rw c.from_residual.ensures (sym (rest_below_other c.args.dir.now c.args.path.now (search rules)
    ∙ below_no c.args.dir.now c.args.path.now (λ rest e. c.in_err-strip_prefix.ensures.cases (47 ∷ rest) e)))

pub returns : goal.returns
returns c =
    let cases = c.in_ok-strip_prefix.ensures.cases in
    let first = c.in_ok-strip_prefix.field-0.now in
    below_stripped c.args.dir.now c.args.path.now first c.strip_prefix-2.result (cases.1.1 ∙ ap (λ l. c.args.dir.now ++ l) (sym cases.2))
    (strip_prefix_char 47 first c.strip_prefix-2.result c.strip_prefix-2.ensures.cases (lit< tt))
    ∙ sym (rest_below_other c.args.dir.now c.args.path.now (search rules))
