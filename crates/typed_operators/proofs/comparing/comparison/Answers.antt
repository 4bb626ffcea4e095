use Rattle.typed_parts.specs.declared.meaning.Given.{Given}
use Rattle.typed_operators.specs.Pairs.{two_values}
use Rattle.typed_operators.specs.Comparing.{IsComparisonOf}
use Rattle.go_type.specs.Table.{Table}
use Rattle.typed_operators.proofs.Operating.{exact_nothing, exact_then}
use Rattle.typed_operators.proofs.comparing.comparison.Goals as goal

pub returns-in-Some : goal.returns-in-Some
returns-in-Some c =
    exact_then c.args.ground.now c.two_values.new.ground c.comparison_of.new.ground (two_values c.args.ground.now.types c.args.x c.args.y) (λ (types : Table). λ (p : Given × Given). IsComparisonOf types c.args.op p.0 p.1) c.two_values.result (c.in-Some.x, c.in-Some.y)
    c.comparison_of.result c.two_values.ensures.answer c.two_values.ensures.broken c.in-Some.is c.comparison_of.ensures

pub returns-in-None : goal.returns-in-None
returns-in-None c =
    exact_nothing c.args.ground.now c.two_values.new.ground (two_values c.args.ground.now.types c.args.x c.args.y) (λ (types : Table). λ (p : Given × Given). IsComparisonOf types c.args.op p.0 p.1) c.two_values.result c.two_values.ensures.answer
    c.two_values.ensures.broken c.in-None.is
