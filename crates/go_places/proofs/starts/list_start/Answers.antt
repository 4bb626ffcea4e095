use Rattle.std.proofs.Common.{ap, refl, sym, ◌∙◌}
use Rattle.go_syntax.specs.declared.exprs.Expr.{Expr}
use Rattle.go_grammar.specs.View.{each, one, view_expr, view_listed_expr}
use Rattle.go_places.specs.Begins.{start_of}
use Rattle.go_places.proofs.Fronts.{begins_with, each_first, listed_first}
use Rattle.go_places.proofs.starts.list_start.Goals as goal

pub returns-in-Some : goal.returns-in-Some
returns-in-Some c = begins_with (each view_listed_expr c.args.exprs.now) (one c.args.operator) c.expr_start.result (each_first view_listed_expr c.args.exprs.now c.args.exprs.now c.in-Some.first.now c.expr_start.result refl c.in-Some.ensures.value
    (listed_first c.in-Some.first.now c.expr_start.result (ap (λ (x : Expr). start_of (view_expr x)) (sym c.deref.ensures) ∙ c.expr_start.ensures)))
