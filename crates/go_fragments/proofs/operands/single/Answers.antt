use Rattle.std.proofs.Common.{◌≡◌, ◌<◌, Some, length, sym, ap, ◌∙◌, arith}
use Rattle.std.specs.Global.{Box}
use Rattle.std.specs.Option.{is_some}
use Rattle.go_grammar.specs.View.{view_expr}
use Rattle.go_syntax.specs.declared.exprs.Expr.{Expr}
use Rattle.std.proofs.lemmas.Bool.Decides.{nat_tests}
use Rattle.go_fragments.proofs.Singles.{single_many, single_with_comma, single_without}
use Rattle.go_fragments.proofs.operands.single.Goals as goal

pub returns-then-not-is_empty : goal.returns-then-not-is_empty
returns-then-not-is_empty c =
    let some : 0 < length c.pop.new.self.items = grind (arith, nat_tests, c.pop.new.self.ok.0) in
    single_many c.pop.new.self.items c.args.list.items c.in_ok-last.last c.in_ok-last.ensures.items some

pub returns-then-is_some : goal.returns-then-is_some
returns-then-is_some c =
    let none : length c.pop.new.self.items ≡ 0 = grind (arith, nat_tests, c.pop.new.self.ok.0) in
    single_with_comma c.pop.new.self.items c.args.list.items c.in_ok-last.last c.in_ok-last.ensures.items none (ap is_some (sym c.into_parts-expr.ensures.comma) ∙ sym c.is_some.ensures ∙ c.if-is_some.true)

pub returns : goal.returns
returns c =
    let none : length c.pop.new.self.items ≡ 0 = grind (arith, nat_tests, c.pop.new.self.ok.0) in
    single_without c.pop.new.self.items c.args.list.items c.in_ok-last.last c.in_ok-last.ensures.items none (ap is_some (sym c.into_parts-expr.ensures.comma) ∙ sym c.is_some.ensures ∙ c.if-is_some.false)
    ∙ ap (λ (held : Box Expr). Some (view_expr held.value)) (sym c.into_parts-expr.ensures.expr)
