use Rattle.std.proofs.Common.{ℕ, List, Option, Some, None, unwrap_or, ap, refl, sym, ◌∙◌}
use Rattle.std.specs.Global.{Box}
use Rattle.go_ast.specs.declared.token.Token.{Token}
use Rattle.go_syntax.specs.declared.exprs.ListedExpr.{ListedExpr}
use Rattle.go_syntax.specs.declared.stmts.Block.{Block}
use Rattle.go_syntax.specs.declared.stmts.ForStmt.{ForStmt}
use Rattle.go_syntax.specs.declared.stmts.RangeStmt.{RangeStmt}
use Rattle.go_syntax.specs.declared.stmts.Stmt.{Stmt}
use Rattle.go_syntax.specs.declared.stmts.SwitchStmt.{SwitchStmt}
use Rattle.go_syntax.specs.declared.stmts.TypeSwitchStmt.{TypeSwitchStmt}
use Rattle.go_grammar.specs.View.{◌⊕◌, each, if_some, one, token_if, view_block, view_for_stmt, view_if_arm, view_label, view_listed_expr, view_range_stmt, view_stmt, view_switch_stmt, view_type_switch_stmt}
use Rattle.go_grammar.proofs.Views.{view_stmt_assign, view_stmt_block, view_stmt_define, view_stmt_for, view_stmt_if, view_stmt_labeled, view_stmt_range, view_stmt_send, view_stmt_step, view_stmt_switch, view_stmt_type_switch}
use Rattle.go_places.specs.Begins.{start_of}
use Rattle.go_places.proofs.Fronts.{block_first, each_first, each_none, for_first, range_first, stmt_begins, stmt_expr, stmt_front, stmt_list, stmt_rest, switch_first, type_switch_first}
use Rattle.go_places.proofs.starts.«+stmt_start».Goals as goal

pub returns-in-Some : goal.returns-in-Some
returns-in-Some t c = stmt_front _ _ _ (each view_label c.in-Labeled.labels.items) (if_some (λ (y : Box Stmt). view_stmt y.value) c.in-Labeled.stmt) _ c.in-Labeled.is (view_stmt_labeled _ _) (each_first view_label _ _ c.in-Some.label.now _ c.deref-in-Labeled.ensures.value c.in-Some.ensures.value refl)

pub returns-in-Some-stmt : goal.returns-in-Some-stmt
returns-in-Some-stmt t c = stmt_rest _ _ _ _ _ _ c.in-Labeled.is (view_stmt_labeled _ _) (each_none view_label _ _ c.deref-in-Labeled.ensures.value c.in-None.ensures.value)
    (c.stmt_start.ensures ∙ ap (λ (s : Stmt). unwrap_or (start_of (view_stmt s)) 0) c.deref-in-Some-stmt.ensures
    ∙ ap (λ (o : Option (Box Stmt)). unwrap_or (start_of (if_some (λ (y : Box Stmt). view_stmt y.value) o)) 0) (sym c.in-Some-stmt.is))

pub returns-in-None-stmt : goal.returns-in-None-stmt
returns-in-None-stmt t c = stmt_rest _ _ _ _ _ _ c.in-Labeled.is (view_stmt_labeled _ _) (each_none view_label _ _ c.deref-in-Labeled.ensures.value c.in-None.ensures.value)
    (ap (λ (o : Option (Box Stmt)). unwrap_or (start_of (if_some (λ (y : Box Stmt). view_stmt y.value) o)) 0) (sym c.in-None-stmt.is))

pub returns-in-Send : goal.returns-in-Send
returns-in-Send t c = stmt_expr _ _ _ _ _ _ _ c.in-Send.is (view_stmt_send _ _ _) c.deref-in-Send.ensures c.expr_start-in-Send.ensures

pub returns-in-Step : goal.returns-in-Step
returns-in-Step t c = stmt_expr _ _ _ _ _ _ _ c.in-Step.is (view_stmt_step _ _) c.deref-in-Step.ensures c.expr_start-in-Step.ensures

pub returns-in-Assign : goal.returns-in-Assign
returns-in-Assign t c = stmt_list _ _ _ _ _ _ _ _ c.in-Assign.is (view_stmt_assign _ _ _) c.as_slice.ensures.value c.list_start.ensures

pub returns-in-Define : goal.returns-in-Define
returns-in-Define t c = stmt_list _ _ _ _ _ _ _ _ c.in-Define.is (view_stmt_define _ _ _) c.as_slice-in-Define.ensures.value c.list_start-in-Define.ensures

pub returns-in-Block : goal.returns-in-Block
returns-in-Block t c = stmt_begins _ _ _ _ c.in-Block.is (view_stmt_block _) (block_first c.in-Block.block)

pub returns-in-Some-first : goal.returns-in-Some-first
returns-in-Some-first t c = stmt_front _ _ _ (each view_if_arm c.in-If.arms.items) (token_if c.in-If.else_word ⊕ if_some (λ (y : Box Block). view_block y.value) c.in-If.otherwise) _ c.in-If.is (view_stmt_if _ _ _) (each_first view_if_arm _ _ c.in-Some-first.arm.now _ c.deref-in-If.ensures.value c.in-Some-first.ensures.value c.arm_start.ensures)

pub returns-in-Some-default : goal.returns-in-Some-default
returns-in-Some-default t c = stmt_rest _ _ _ _ _ _ c.in-If.is (view_stmt_if _ _ _) (each_none view_if_arm _ _ c.deref-in-If.ensures.value c.in-None-first.ensures.value)
    (ap (λ (w : Option Token). unwrap_or (start_of (token_if w ⊕ if_some (λ (y : Box Block). view_block y.value) c.in-If.otherwise)) 0) (sym c.in-Some-default.is-0))

pub returns-in-None-Some : goal.returns-in-None-Some
returns-in-None-Some t c = stmt_rest _ _ _ _ _ _ c.in-If.is (view_stmt_if _ _ _) (each_none view_if_arm _ _ c.deref-in-If.ensures.value c.in-None-first.ensures.value)
    (sym (ap (λ (o : Option ℕ). unwrap_or o 0) (block_first c.deref-in-None-Some.result.now)) ∙ ap (λ (b : Block). unwrap_or (start_of (view_block b)) 0) c.deref-in-None-Some.ensures
    ∙ (λ i. unwrap_or (start_of (token_if (sym c.in-None-Some.is-0 i) ⊕ if_some (λ (y : Box Block). view_block y.value) (sym c.in-None-Some.is-1 i))) 0))

pub returns-in-None-None : goal.returns-in-None-None
returns-in-None-None t c = stmt_rest _ _ _ _ _ _ c.in-If.is (view_stmt_if _ _ _) (each_none view_if_arm _ _ c.deref-in-If.ensures.value c.in-None-first.ensures.value)
    (λ i. unwrap_or (start_of (token_if (sym c.in-None-None.is-0 i) ⊕ if_some (λ (y : Box Block). view_block y.value) (sym c.in-None-None.is-1 i))) 0)

pub returns-in-Switch : goal.returns-in-Switch
returns-in-Switch t c = stmt_begins _ _ _ _ c.in-Switch.is (view_stmt_switch _) (ap (λ (s : SwitchStmt). start_of (view_switch_stmt s)) (sym c.deref-in-Switch.ensures) ∙ switch_first c.deref-in-Switch.result.now)

pub returns-in-TypeSwitch : goal.returns-in-TypeSwitch
returns-in-TypeSwitch t c = stmt_begins _ _ _ _ c.in-TypeSwitch.is (view_stmt_type_switch _) (ap (λ (s : TypeSwitchStmt). start_of (view_type_switch_stmt s)) (sym c.deref-in-TypeSwitch.ensures) ∙ type_switch_first c.deref-in-TypeSwitch.result.now)

pub returns-in-For : goal.returns-in-For
returns-in-For t c = stmt_begins _ _ _ _ c.in-For.is (view_stmt_for _) (ap (λ (s : ForStmt). start_of (view_for_stmt s)) (sym c.deref-in-For.ensures) ∙ for_first c.deref-in-For.result.now)

pub returns-in-Range : goal.returns-in-Range
returns-in-Range t c = stmt_begins _ _ _ _ c.in-Range.is (view_stmt_range _) (ap (λ (s : RangeStmt). start_of (view_range_stmt s)) (sym c.deref-in-Range.ensures) ∙ range_first c.deref-in-Range.result.now)
