use Rattle.std.proofs.Common.{subst}
use Rattle.go_base.specs.declared.ids.TypeId.{TypeId}
use Rattle.go_tree.specs.declared.stmts.TypedCase.{TypedCase}
use Rattle.go_type.specs.Table.{Table}
use Rattle.typed_parts.specs.Judged.{Comes, IsFine, IsThen}
use Rattle.typed_operators.specs.Comparing.{IsCaseValue, IsTruthCaseOf}
use Rattle.typed_parts.proofs.Steps.{fine_made, nothing_came, then_comes, then_nothing}
use Rattle.typed_operators.proofs.comparing.truth_case.Goals as goal

pub returns-in-Some : goal.returns-in-Some
returns-in-Some c =
    subst (λ (to : TypeId). Comes c.args.ground.now c.case_value.new.ground c.sound.result (IsThen (IsCaseValue c.args.ground.now.types to c.args.value) (λ (one : TypedCase). IsFine (IsTruthCaseOf c.args.ground.now.types one)))) c.basic.ensures
    (then_comes c.args.ground.now c.case_value.new.ground c.case_value.new.ground (IsCaseValue c.args.ground.now.types c.basic.result c.args.value) (λ (types : Table). λ (one : TypedCase). IsFine (IsTruthCaseOf types one)) c.in_ok-case.field-0 c.in-Some.case c.sound.result
    c.in-Some.is c.in_ok-case.ensures (fine_made c.case_value.new.ground (IsTruthCaseOf c.case_value.new.ground.types c.in-Some.case) c.with_truth.result c.sound.result c.with_truth.ensures c.sound.ensures))

pub returns-in-None : goal.returns-in-None
returns-in-None c =
    subst (λ (to : TypeId). Comes c.args.ground.now c.case_value.new.ground (nothing_came {A = TypedCase}) (IsThen (IsCaseValue c.args.ground.now.types to c.args.value) (λ (one : TypedCase). IsFine (IsTruthCaseOf c.args.ground.now.types one)))) c.basic.ensures
    (then_nothing c.args.ground.now c.case_value.new.ground (IsCaseValue c.args.ground.now.types c.basic.result c.args.value) (λ (types : Table). λ (one : TypedCase). IsFine (IsTruthCaseOf types one)) c.in_ok-case.field-0 c.in-None.is c.in_ok-case.ensures)
