use Rattle.std.proofs.Common.{rules, ◌∙◌, sym, ap, Some}
use Rattle.go_scan.proofs.pieces.is_kind.Goals as goal
use denote.Enum.Bare.{same_true}
use Rattle.go_ast.specs.contracts.token.Kind.{the_type}

pub returns-in-Some-clause-same : goal.returns-in-Some-clause-same
returns-in-Some-clause-same c = λ same.
    c.in-Some.is ∙ ap Some (same_true the_type (search rules) c.in-Some.found c.args.kind (sym c.eq.ensures ∙ same))
