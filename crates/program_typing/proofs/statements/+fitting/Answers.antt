use Rattle.std.proofs.Common.{refl, sym, ap, ◌∙◌, List, Bool, Option}
use Rattle.std.specs.Prelude.{◌&&◌, false, if◌then◌else◌, nat_le, count_by}
use Rattle.std.specs.List.{list_all}
use Rattle.go_base.specs.declared.ids.TypeId.{TypeId}
use Rattle.go_base.specs.declared.ids.VarId.{VarId}
use Rattle.go_tree.specs.declared.stmts.DefineTarget.{DefineTarget}
use Rattle.go_tree.specs.declared.stmts.SelectClause.{SelectClause}
use Rattle.go_tree.specs.declared.stmts.Target.{Target}
use Rattle.go_tree.specs.declared.stmts.TypeClause.{TypeClause}
use Rattle.go_tree.specs.declared.stmts.TypedArm.{TypedArm}
use Rattle.go_tree.specs.declared.stmts.TypedBlock.{TypedBlock}
use Rattle.go_tree.specs.declared.stmts.TypedClause.{TypedClause}
use Rattle.go_tree.specs.declared.stmts.TypedStmt.{TypedStmt}
use Rattle.go_type.specs.Assignable.{underlying_term_of}
use Rattle.type_shapes.specs.Shapes.{is_interface}
use Rattle.expr_typing.specs.Telling.{at_tests}
use Rattle.typed_trees.specs.Statements.{Within, in_block, in_clause, declares, fits_block, communicates, is_default_comm}
use Rattle.program_typing.specs.Placing.{within_of}
use Rattle.program_typing.specs.Walk as walk
use Rattle.program_typing.proofs.Both.{told_as}
use Rattle.program_typing.proofs.Lists.{all-kept, all-ended, all-done, turn-kept, turn-ended, turn-done}
use Rattle.program_typing.proofs.StmtForms as forms
use Rattle.program_typing.proofs.ClauseForms as clauses
use Rattle.program_typing.proofs.statements.+fitting.Goals as goal

pub fits_statement-returns-in-Const : goal.fits_statement-returns-in-Const
fits_statement-returns-in-Const t c = λ told.
    let A = at_tests c.args.around told.tests in
    let w = within_of c.args.within in
    sym (ap (λ (s : TypedStmt). walk.fits_stmt A s w) c.in-Const.is ∙ forms.const_fits A c.in-Const.at w)

pub fits_statement-returns-in-TypeDecl : goal.fits_statement-returns-in-TypeDecl
fits_statement-returns-in-TypeDecl t c = λ told.
    let A = at_tests c.args.around told.tests in
    let w = within_of c.args.within in
    sym (ap (λ (s : TypedStmt). walk.fits_stmt A s w) c.in-TypeDecl.is ∙ forms.type_decl_fits A c.in-TypeDecl.at w)

pub fits_statement-returns-in-Var : goal.fits_statement-returns-in-Var
fits_statement-returns-in-Var t c = λ told.
    let A = at_tests c.args.around told.tests in
    let w = within_of c.args.within in
    told_as _ _ _ (c.declares.ensures told) (ap (λ (xs : List VarId). declares A xs c.in-Var.values) c.deref.ensures.value ∙ sym (ap (λ (s : TypedStmt). walk.fits_stmt A s w) c.in-Var.is ∙ forms.var_fits A c.in-Var.at c.in-Var.variables c.in-Var.values w))

pub fits_statement-returns-in-Labeled : goal.fits_statement-returns-in-Labeled
fits_statement-returns-in-Labeled t c = λ told.
    let A = at_tests c.args.around told.tests in
    let w = within_of c.args.within in
    told_as _ _ _ (c.fits_optional.ensures told) (sym (ap (λ (s : TypedStmt). walk.fits_stmt A s w) c.in-Labeled.is ∙ forms.labeled_fits A c.in-Labeled.at c.in-Labeled.labels c.in-Labeled.stmt w))

pub fits_statement-returns-in-Expr : goal.fits_statement-returns-in-Expr
fits_statement-returns-in-Expr t c = λ told.
    let A = at_tests c.args.around told.tests in
    let w = within_of c.args.within in
    told_as _ _ _ (c.fits_expr.ensures told) (sym (ap (λ (s : TypedStmt). walk.fits_stmt A s w) c.in-Expr.is ∙ forms.expr_fits A c.in-Expr.at c.in-Expr.expr w))

pub fits_statement-returns-in-Send : goal.fits_statement-returns-in-Send
fits_statement-returns-in-Send t c = λ told.
    let A = at_tests c.args.around told.tests in
    let w = within_of c.args.within in
    told_as _ _ _ (c.sends.ensures told) (sym (ap (λ (s : TypedStmt). walk.fits_stmt A s w) c.in-Send.is ∙ forms.send_fits A c.in-Send.at c.in-Send.channel c.in-Send.value w))

pub fits_statement-returns-in-Step : goal.fits_statement-returns-in-Step
fits_statement-returns-in-Step t c = λ told.
    let A = at_tests c.args.around told.tests in
    let w = within_of c.args.within in
    told_as _ _ _ (c.operates_on.ensures told) (sym (ap (λ (s : TypedStmt). walk.fits_stmt A s w) c.in-Step.is ∙ forms.step_fits A c.in-Step.at c.in-Step.target c.in-Step.op c.in-Step.one w))

pub fits_statement-returns-in-Assign : goal.fits_statement-returns-in-Assign
fits_statement-returns-in-Assign t c = λ told.
    let A = at_tests c.args.around told.tests in
    let w = within_of c.args.within in
    told_as _ _ _ (c.assigns.ensures told) (ap (λ (xs : List Target). walk.assigns A xs c.in-Assign.values) c.deref-in-Assign.ensures.value ∙ sym (ap (λ (s : TypedStmt). walk.fits_stmt A s w) c.in-Assign.is ∙ forms.assign_fits A c.in-Assign.at c.in-Assign.targets c.in-Assign.values w))

pub fits_statement-returns-in-AssignOp : goal.fits_statement-returns-in-AssignOp
fits_statement-returns-in-AssignOp t c = λ told.
    let A = at_tests c.args.around told.tests in
    let w = within_of c.args.within in
    told_as _ _ _ (c.operates_on-in-AssignOp.ensures told) (sym (ap (λ (s : TypedStmt). walk.fits_stmt A s w) c.in-AssignOp.is ∙ forms.assign_op_fits A c.in-AssignOp.at c.in-AssignOp.target c.in-AssignOp.op c.in-AssignOp.value w))

pub fits_statement-returns-in-Define : goal.fits_statement-returns-in-Define
fits_statement-returns-in-Define t c = λ told.
    let A = at_tests c.args.around told.tests in
    let w = within_of c.args.within in
    told_as _ _ _ (c.define.ensures told) (ap (λ (xs : List DefineTarget). walk.defines_with A xs c.in-Define.values) c.deref-in-Define.ensures.value ∙ sym (ap (λ (s : TypedStmt). walk.fits_stmt A s w) c.in-Define.is ∙ forms.define_fits A c.in-Define.at c.in-Define.targets c.in-Define.values w))

pub fits_statement-returns-in-Go : goal.fits_statement-returns-in-Go
fits_statement-returns-in-Go t c = λ told.
    let A = at_tests c.args.around told.tests in
    let w = within_of c.args.within in
    told_as _ _ _ (c.is_call_of.ensures told) (sym (ap (λ (s : TypedStmt). walk.fits_stmt A s w) c.in-Go.is ∙ forms.go_fits A c.in-Go.at c.in-Go.call w))

pub fits_statement-returns-in-Defer : goal.fits_statement-returns-in-Defer
fits_statement-returns-in-Defer t c = λ told.
    let A = at_tests c.args.around told.tests in
    let w = within_of c.args.within in
    told_as _ _ _ (c.is_call_of-in-Defer.ensures told) (sym (ap (λ (s : TypedStmt). walk.fits_stmt A s w) c.in-Defer.is ∙ forms.defer_fits A c.in-Defer.at c.in-Defer.call w))

pub fits_statement-returns-in-Return : goal.fits_statement-returns-in-Return
fits_statement-returns-in-Return t c = λ told.
    let A = at_tests c.args.around told.tests in
    let w = within_of c.args.within in
    told_as _ _ _ (c.returns.ensures told) (sym (ap (λ (s : TypedStmt). walk.fits_stmt A s w) c.in-Return.is ∙ forms.return_fits A c.in-Return.at c.in-Return.values w))

pub fits_statement-returns-in-Break : goal.fits_statement-returns-in-Break
fits_statement-returns-in-Break t c = λ told.
    let A = at_tests c.args.around told.tests in
    let w = within_of c.args.within in
    c.is_within.ensures ∙ sym (ap (λ (s : TypedStmt). walk.fits_stmt A s w) c.in-Break.is ∙ forms.break_fits A c.in-Break.at c.in-Break.levels w)

pub fits_statement-returns-in-Continue : goal.fits_statement-returns-in-Continue
fits_statement-returns-in-Continue t c = λ told.
    let A = at_tests c.args.around told.tests in
    let w = within_of c.args.within in
    c.is_within-in-Continue.ensures ∙ sym (ap (λ (s : TypedStmt). walk.fits_stmt A s w) c.in-Continue.is ∙ forms.continue_fits A c.in-Continue.at c.in-Continue.levels w)

pub fits_statement-returns-in-Fallthrough : goal.fits_statement-returns-in-Fallthrough
fits_statement-returns-in-Fallthrough t c = λ told.
    let A = at_tests c.args.around told.tests in
    let w = within_of c.args.within in
    sym (ap (λ (s : TypedStmt). walk.fits_stmt A s w) c.in-Fallthrough.is ∙ forms.fallthrough_fits A c.in-Fallthrough.at w)

pub fits_statement-returns-in-Block : goal.fits_statement-returns-in-Block
fits_statement-returns-in-Block t c = λ told.
    let A = at_tests c.args.around told.tests in
    let w = within_of c.args.within in
    told_as _ _ _ (c.fits_block.ensures told) (ap (λ (v : Within). fits_block A c.in-Block.block v) c.in_block.ensures ∙ sym (ap (λ (s : TypedStmt). walk.fits_stmt A s w) c.in-Block.is ∙ forms.block_fits A c.in-Block.block w))

pub fits_statement-returns-in_ok-otherwise-in-If : goal.fits_statement-returns-in_ok-otherwise-in-If
fits_statement-returns-in_ok-otherwise-in-If t c = λ told.
    let A = at_tests c.args.around told.tests in
    let w = within_of c.args.within in
    (λ i. (c.in_ok-arms-in-If.ensures told ∙ ap (λ (xs : List TypedArm). walk.arms_fit A xs w) c.deref-in-If.ensures.value) i && c.in_ok-otherwise-in-If.ensures told i) ∙ sym (ap (λ (s : TypedStmt). walk.fits_stmt A s w) c.in-If.is ∙ forms.if_fits A c.in-If.at c.in-If.arms c.in-If.otherwise w)

pub fits_statement-returns-in_ok-bodies-in-Switch : goal.fits_statement-returns-in_ok-bodies-in-Switch
fits_statement-returns-in_ok-bodies-in-Switch t c = λ told.
    let A = at_tests c.args.around told.tests in
    let w = within_of c.args.within in
    (λ i. (c.in_ok-init-in-Switch.ensures told ∙ ap (λ (v : Within). walk.optional_fits A c.in-Switch.init v) c.in_block-in-Switch.ensures) i && (c.in_ok-tag-in-Switch.ensures.fits told i && ((c.in_ok-cases-in-Switch.ensures told ∙ λ j. list_all (walk.has_cases A (c.in_ok-tag-in-Switch.ensures.of told j)) (c.deref-in-Switch.ensures.value j)) i && ((c.has_one_default.ensures ∙ ap (λ (xs : List TypedClause). nat_le (count_by (λ (it : TypedClause). it.is_default) xs) 1) c.deref-in-Switch-3.ensures.value) i && (c.in_ok-bodies-in-Switch.ensures told ∙ ap (λ (xs : List TypedClause). walk.fall_in_turn A xs w) c.deref-in-Switch-2.ensures.value) i)))) ∙ sym (ap (λ (s : TypedStmt). walk.fits_stmt A s w) c.in-Switch.is ∙ clauses.switch_fits A c.in-Switch.at c.in-Switch.init c.in-Switch.tag c.in-Switch.clauses c.in-Switch.«end» w)

pub fits_statement-returns-in_ok-bodies-in-TypeSwitch : goal.fits_statement-returns-in_ok-bodies-in-TypeSwitch
fits_statement-returns-in_ok-bodies-in-TypeSwitch t c = λ told.
    let A = at_tests c.args.around told.tests in
    let w = within_of c.args.within in
    (λ i. (c.in_ok-init-in-TypeSwitch.ensures told ∙ ap (λ (v : Within). walk.optional_fits A c.in-TypeSwitch.init v) c.in_block-in-TypeSwitch.ensures) i && (c.in_ok-operand-in-TypeSwitch.ensures.fits told.tests told.told i && ((c.is_interface.ensures ∙ ap (λ (of : TypeId). is_interface (underlying_term_of c.args.around.program.now.types of)) (c.in_ok-operand-in-TypeSwitch.ensures.of told.tests told.told)) i && ((c.have_type_cases-cases.ensures told ∙ λ j. list_all (walk.has_type_cases A (c.in_ok-operand-in-TypeSwitch.ensures.of told.tests told.told j)) (c.deref-in-TypeSwitch.ensures.value j)) i && ((c.has_one_type_default.ensures ∙ ap (λ (xs : List TypeClause). nat_le (count_by (λ (it : TypeClause). it.is_default) xs) 1) c.deref-in-TypeSwitch-3.ensures.value) i && (c.in_ok-bodies-in-TypeSwitch.ensures told ∙ ap (λ (xs : List TypeClause). walk.type_bodies_fit A xs w) c.deref-in-TypeSwitch-2.ensures.value) i))))) ∙ sym (ap (λ (s : TypedStmt). walk.fits_stmt A s w) c.in-TypeSwitch.is ∙ clauses.type_switch_fits A c.in-TypeSwitch.at c.in-TypeSwitch.init c.in-TypeSwitch.operand c.in-TypeSwitch.clauses c.in-TypeSwitch.«end» w)

pub fits_statement-returns-in_ok-bodies-in-Select : goal.fits_statement-returns-in_ok-bodies-in-Select
fits_statement-returns-in_ok-bodies-in-Select t c = λ told.
    let A = at_tests c.args.around told.tests in
    let w = within_of c.args.within in
    (λ i. (c.in_ok-cases-in-Select.ensures told ∙ ap (λ (xs : List SelectClause). list_all (λ (it : SelectClause). communicates A it.comm) xs) c.deref-in-Select.ensures.value) i && ((c.has_one_default_comm.ensures A ∙ ap (λ (xs : List SelectClause). nat_le (count_by (λ (it : SelectClause). is_default_comm A it.comm) xs) 1) c.deref-in-Select-3.ensures.value) i && (c.in_ok-bodies-in-Select.ensures told ∙ ap (λ (xs : List SelectClause). walk.select_bodies_fit A xs w) c.deref-in-Select-2.ensures.value) i)) ∙ sym (ap (λ (s : TypedStmt). walk.fits_stmt A s w) c.in-Select.is ∙ clauses.select_fits A c.in-Select.at c.in-Select.clauses c.in-Select.«end» w)

pub fits_statement-returns-in_ok-body-in-For : goal.fits_statement-returns-in_ok-body-in-For
fits_statement-returns-in_ok-body-in-For t c = λ told.
    let A = at_tests c.args.around told.tests in
    let w = within_of c.args.within in
    (λ i. (c.in_ok-init-in-For.ensures told ∙ ap (λ (v : Within). walk.optional_fits A c.in-For.init v) c.in_block-in-For.ensures) i && (c.in_ok-condition-in-For.ensures told i && ((c.in_ok-post-in-For.ensures told ∙ ap (λ (v : Within). walk.optional_fits A c.in-For.post v) c.in_block-in-For-2.ensures) i && c.in_ok-body-in-For.ensures told i))) ∙ sym (ap (λ (s : TypedStmt). walk.fits_stmt A s w) c.in-For.is ∙ forms.for_fits A c.in-For.at c.in-For.fresh c.in-For.init c.in-For.condition c.in-For.post c.in-For.body w)

pub fits_statement-returns-in_ok-body-in-Range : goal.fits_statement-returns-in_ok-body-in-Range
fits_statement-returns-in_ok-body-in-Range t c = λ told.
    let A = at_tests c.args.around told.tests in
    let w = within_of c.args.within in
    (λ i. c.in_ok-ranges-in-Range.ensures told i && c.in_ok-body-in-Range.ensures told i) ∙ sym (ap (λ (s : TypedStmt). walk.fits_stmt A s w) c.in-Range.is ∙ forms.range_fits A c.in-Range.at c.in-Range.fresh c.in-Range.over c.in-Range.operand c.in-Range.targets c.in-Range.body w)

pub fits_block-returns : goal.fits_block-returns
fits_block-returns t c = λ told.
    let A = at_tests c.args.around told.tests in
    let w = within_of c.args.within in
    told_as _ _ _ (c.fit_in_turn.ensures told) (ap (λ (xs : List TypedStmt). walk.fit_in_turn A xs w) c.deref.ensures.value ∙ sym (forms.block_is A c.args.block.now w))

pub fits_loop-returns : goal.fits_loop-returns
fits_loop-returns t c = λ told.
    let A = at_tests c.args.around told.tests in
    let w = within_of c.args.within in
    told_as _ _ _ (c.fits_block.ensures told) (ap (λ (v : Within). fits_block A c.args.body.now v) c.in_ok-inner.ensures)

pub fits_body-returns : goal.fits_body-returns
fits_body-returns t c = λ told.
    let A = at_tests c.args.around told.tests in
    let w = within_of c.args.within in
    told_as _ _ _ (c.fits_block.ensures told) (ap (λ (v : Within). fits_block A c.args.body.now v) c.in_ok-inner.ensures)

pub fits_otherwise-returns-in-Some : goal.fits_otherwise-returns-in-Some
fits_otherwise-returns-in-Some t c = λ told.
    let A = at_tests c.args.around told.tests in
    let w = within_of c.args.within in
    told_as _ _ _ (c.fits_block.ensures told) (ap (λ (v : Within). fits_block A c.in-Some.block v) c.in_block.ensures ∙ ap (λ (o : Option TypedBlock). walk.otherwise_fits A o w) (sym c.in-Some.is))

pub fits_arm-returns : goal.fits_arm-returns
fits_arm-returns t c = λ told.
    let A = at_tests c.args.around told.tests in
    let w = within_of c.args.within in
    (λ i. (c.in_ok-init.ensures told ∙ ap (λ (v : Within). walk.optional_fits A c.args.arm.now.init v) c.in_block.ensures) i && (c.in_ok-condition.ensures told i && (c.in_ok-body.ensures told ∙ ap (λ (v : Within). fits_block A c.args.arm.now.body v) c.in_block-2.ensures) i)) ∙ sym (forms.arm_is A c.args.arm.now w)

pub arms_fit-returns-then-not-branch : goal.arms_fit-returns-then-not-branch
arms_fit-returns-then-not-branch t c = λ told.
    let A = at_tests c.args.around told.tests in
    let w = within_of c.args.within in
    all-ended (λ (x : TypedArm). walk.fits_arm A x w) c.args.arms.now c.loop-arm.arm-index c.arm-item.result _ _ _ c.loop-arm-test.true c.arm-item.is (c.in_ok-fits_arm.ensures told) c.if-not-branch.true (c.loop-arm.invariant told)

pub arms_fit-loop-arm-preserved : goal.arms_fit-loop-arm-preserved
arms_fit-loop-arm-preserved t c = λ told.
    let A = at_tests c.args.around told.tests in
    let w = within_of c.args.within in
    all-kept (λ (x : TypedArm). walk.fits_arm A x w) c.args.arms.now c.loop-arm.arm-index c.arm-item.result _ _ _ c.loop-arm-test.true c.arm-item.is (c.in_ok-fits_arm.ensures told) c.if-not-branch.false (c.loop-arm.invariant told)

pub arms_fit-returns : goal.arms_fit-returns
arms_fit-returns t c = λ told.
    let A = at_tests c.args.around told.tests in
    let w = within_of c.args.within in
    all-done (λ (x : TypedArm). walk.fits_arm A x w) c.args.arms.now c.loop-arm.arm-index _ c.loop-arm-test.false (c.loop-arm.invariant told)

pub type_bodies_fit-returns-then-not-branch : goal.type_bodies_fit-returns-then-not-branch
type_bodies_fit-returns-then-not-branch t c = λ told.
    let A = at_tests c.args.around told.tests in
    let w = within_of c.args.within in
    all-ended (λ (x : TypeClause). fits_block A x.body (in_clause false w)) c.args.clauses.now c.loop-clause.clause-index c.clause-item.result _ _ _ c.loop-clause-test.true c.clause-item.is (c.in_ok-fits_body.ensures told) c.if-not-branch.true (c.loop-clause.invariant told)

pub type_bodies_fit-loop-clause-preserved : goal.type_bodies_fit-loop-clause-preserved
type_bodies_fit-loop-clause-preserved t c = λ told.
    let A = at_tests c.args.around told.tests in
    let w = within_of c.args.within in
    all-kept (λ (x : TypeClause). fits_block A x.body (in_clause false w)) c.args.clauses.now c.loop-clause.clause-index c.clause-item.result _ _ _ c.loop-clause-test.true c.clause-item.is (c.in_ok-fits_body.ensures told) c.if-not-branch.false (c.loop-clause.invariant told)

pub type_bodies_fit-returns : goal.type_bodies_fit-returns
type_bodies_fit-returns t c = λ told.
    let A = at_tests c.args.around told.tests in
    let w = within_of c.args.within in
    all-done (λ (x : TypeClause). fits_block A x.body (in_clause false w)) c.args.clauses.now c.loop-clause.clause-index _ c.loop-clause-test.false (c.loop-clause.invariant told)

pub select_bodies_fit-returns-then-not-branch : goal.select_bodies_fit-returns-then-not-branch
select_bodies_fit-returns-then-not-branch t c = λ told.
    let A = at_tests c.args.around told.tests in
    let w = within_of c.args.within in
    all-ended (λ (x : SelectClause). fits_block A x.body (in_clause false w)) c.args.clauses.now c.loop-clause.clause-index c.clause-item.result _ _ _ c.loop-clause-test.true c.clause-item.is (c.in_ok-fits_body.ensures told) c.if-not-branch.true (c.loop-clause.invariant told)

pub select_bodies_fit-loop-clause-preserved : goal.select_bodies_fit-loop-clause-preserved
select_bodies_fit-loop-clause-preserved t c = λ told.
    let A = at_tests c.args.around told.tests in
    let w = within_of c.args.within in
    all-kept (λ (x : SelectClause). fits_block A x.body (in_clause false w)) c.args.clauses.now c.loop-clause.clause-index c.clause-item.result _ _ _ c.loop-clause-test.true c.clause-item.is (c.in_ok-fits_body.ensures told) c.if-not-branch.false (c.loop-clause.invariant told)

pub select_bodies_fit-returns : goal.select_bodies_fit-returns
select_bodies_fit-returns t c = λ told.
    let A = at_tests c.args.around told.tests in
    let w = within_of c.args.within in
    all-done (λ (x : SelectClause). fits_block A x.body (in_clause false w)) c.args.clauses.now c.loop-clause.clause-index _ c.loop-clause-test.false (c.loop-clause.invariant told)

pub fit_in_turn-returns-then-not-branch : goal.fit_in_turn-returns-then-not-branch
fit_in_turn-returns-then-not-branch t c = λ told.
    let A = at_tests c.args.around told.tests in
    let w = within_of c.args.within in
    turn-ended (λ (x : TypedStmt) (more : Bool). walk.fits_stmt A x (if more then in_block w else w)) (λ (xs : List TypedStmt). walk.fit_in_turn A xs w) refl (λ x. refl) (λ x y ys. refl) c.args.statements.now c.loop-index.index c.index-statements-index.result _ _ _ c.loop-index-test.true c.index-statements-index.is (c.in_ok-fits_statement.ensures told ∙ ap (λ (v : Within). walk.fits_stmt A c.index-statements-index.result v) c.in_turn-here.ensures) c.if-not-branch.true (c.loop-index.invariant told)

pub fit_in_turn-loop-index-preserved : goal.fit_in_turn-loop-index-preserved
fit_in_turn-loop-index-preserved t c = λ told.
    let A = at_tests c.args.around told.tests in
    let w = within_of c.args.within in
    turn-kept (λ (x : TypedStmt) (more : Bool). walk.fits_stmt A x (if more then in_block w else w)) (λ (xs : List TypedStmt). walk.fit_in_turn A xs w) refl (λ x. refl) (λ x y ys. refl) c.args.statements.now c.loop-index.index c.index-statements-index.result _ _ _ c.loop-index-test.true c.index-statements-index.is (c.in_ok-fits_statement.ensures told ∙ ap (λ (v : Within). walk.fits_stmt A c.index-statements-index.result v) c.in_turn-here.ensures) c.if-not-branch.false (c.loop-index.invariant told)

pub fit_in_turn-returns : goal.fit_in_turn-returns
fit_in_turn-returns t c = λ told.
    let A = at_tests c.args.around told.tests in
    let w = within_of c.args.within in
    turn-done (λ (x : TypedStmt) (more : Bool). walk.fits_stmt A x (if more then in_block w else w)) (λ (xs : List TypedStmt). walk.fit_in_turn A xs w) refl (λ x. refl) (λ x y ys. refl) c.args.statements.now c.loop-index.index _ c.loop-index-test.false (c.loop-index.invariant told)

pub fall_in_turn-returns-then-not-branch : goal.fall_in_turn-returns-then-not-branch
fall_in_turn-returns-then-not-branch t c = λ told.
    let A = at_tests c.args.around told.tests in
    let w = within_of c.args.within in
    turn-ended (λ (x : TypedClause) (more : Bool). fits_block A x.body (in_clause more w)) (λ (xs : List TypedClause). walk.fall_in_turn A xs w) refl (λ x. refl) (λ x y ys. refl) c.args.clauses.now c.loop-index.index c.index-clauses-index.result _ _ _ c.loop-index-test.true c.index-clauses-index.is (c.in_ok-fits_body.ensures told) c.if-not-branch.true (c.loop-index.invariant told)

pub fall_in_turn-loop-index-preserved : goal.fall_in_turn-loop-index-preserved
fall_in_turn-loop-index-preserved t c = λ told.
    let A = at_tests c.args.around told.tests in
    let w = within_of c.args.within in
    turn-kept (λ (x : TypedClause) (more : Bool). fits_block A x.body (in_clause more w)) (λ (xs : List TypedClause). walk.fall_in_turn A xs w) refl (λ x. refl) (λ x y ys. refl) c.args.clauses.now c.loop-index.index c.index-clauses-index.result _ _ _ c.loop-index-test.true c.index-clauses-index.is (c.in_ok-fits_body.ensures told) c.if-not-branch.false (c.loop-index.invariant told)

pub fall_in_turn-returns : goal.fall_in_turn-returns
fall_in_turn-returns t c = λ told.
    let A = at_tests c.args.around told.tests in
    let w = within_of c.args.within in
    turn-done (λ (x : TypedClause) (more : Bool). fits_block A x.body (in_clause more w)) (λ (xs : List TypedClause). walk.fall_in_turn A xs w) refl (λ x. refl) (λ x y ys. refl) c.args.clauses.now c.loop-index.index _ c.loop-index-test.false (c.loop-index.invariant told)
