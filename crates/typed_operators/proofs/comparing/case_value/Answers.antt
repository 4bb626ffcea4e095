use Rattle.typed_parts.specs.Meanings.{one_value}
use Rattle.typed_operators.specs.Comparing.{IsCaseOf}
use Rattle.go_type.specs.Table.{Table}
use Rattle.typed_operators.proofs.Operating.{exact_nothing, exact_then}
use Rattle.typed_operators.proofs.comparing.case_value.Goals as goal

pub returns-in-Some : goal.returns-in-Some
returns-in-Some c =
    exact_then c.args.ground.now c.one_value.new.ground c.case_given.new.ground (one_value c.args.ground.now.types c.args.value) (λ (types : Table). IsCaseOf types c.args.tag) c.one_value.result c.in-Some.x
    c.case_given.result c.one_value.ensures.answer c.one_value.ensures.broken c.in-Some.is c.case_given.ensures

pub returns-in-None : goal.returns-in-None
returns-in-None c =
    exact_nothing c.args.ground.now c.one_value.new.ground (one_value c.args.ground.now.types c.args.value) (λ (types : Table). IsCaseOf types c.args.tag) c.one_value.result c.one_value.ensures.answer
    c.one_value.ensures.broken c.in-None.is
