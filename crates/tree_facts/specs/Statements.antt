-- Of which variables statements take an address or assign a part. A line for each form.
use Rattle.std.specs.Prelude.{List, [], ◌++◌, Option, Some, None, flat_map}
use Rattle.std.specs.Global.{Box}
use Rattle.go_base.specs.declared.ids.VarId.{VarId}
use Rattle.go_tree.specs.declared.exprs.TypedExpr.{TypedExpr}
use Rattle.go_tree.specs.declared.stmts.Comm.{Comm}
use Rattle.go_tree.specs.declared.stmts.Comm.TheVariants as comm_of
use Rattle.go_tree.specs.declared.stmts.RangeTargets.{RangeTargets}
use Rattle.go_tree.specs.declared.stmts.RangeTargets.TheVariants as range_of
use Rattle.go_tree.specs.declared.stmts.ReceiveInto.{ReceiveInto}
use Rattle.go_tree.specs.declared.stmts.ReceiveInto.TheVariants as into_of
use Rattle.go_tree.specs.declared.stmts.SelectClause.{SelectClause}
use Rattle.go_tree.specs.declared.stmts.Target.{Target}
use Rattle.go_tree.specs.declared.stmts.Target.TheVariants as target
use Rattle.go_tree.specs.declared.stmts.TypeClause.{TypeClause}
use Rattle.go_tree.specs.declared.stmts.TypedArm.{TypedArm}
use Rattle.go_tree.specs.declared.stmts.TypedBlock.{TypedBlock}
use Rattle.go_tree.specs.declared.stmts.TypedCase.{TypedCase}
use Rattle.go_tree.specs.declared.stmts.TypedClause.{TypedClause}
use Rattle.go_tree.specs.declared.stmts.TypedStmt.{TypedStmt}
use Rattle.go_tree.specs.declared.stmts.TypedStmt.TheOpen as layers
use Rattle.go_tree.specs.declared.stmts.TypedStmt.TheFolds.{fold-TypedStmt, fold-SelectClause, fold-TypeClause}
use Rattle.go_tree.specs.declared.stmts.TypedStmt.TheFolds.{fold-TypedArm, fold-TypedBlock, fold-TypedClause}
use Rattle.tree_facts.specs.Roots.{listed, joined, rooted, taken, taken_each, taken_values}

abbrev pub in_some : {A : Type 0} → (A → List VarId) → Option A → List VarId
in_some f None = []
in_some f (Some x) = f x

-- what is assigned to: where it is a part of a variable, that is one
abbrev pub assigned : TypedExpr → List VarId
assigned place = listed (rooted place).part ++ taken place

abbrev pub in_target : Target → List VarId
in_target (target.Place place) = assigned place
in_target target.Blank = []

abbrev pub in_targets : List Target → List VarId
in_targets targets = flat_map in_target targets

abbrev pub in_cases : List TypedCase → List VarId
in_cases cases = flat_map (λ (x : TypedCase). taken x.value) cases

abbrev pub in_received : ReceiveInto → List VarId
in_received into_of.Nothing = []
in_received (into_of.Define targets) = []
in_received (into_of.Assign targets parts) = in_targets targets.items ++ taken_each parts.items

abbrev pub in_comm : Comm → List VarId
in_comm comm_of.Default = []
in_comm (comm_of.Send channel value) = taken channel ++ taken value
in_comm (comm_of.Receive channel into) = taken channel ++ in_received into

abbrev pub in_range_targets : RangeTargets → List VarId
in_range_targets range_of.None = []
in_range_targets (range_of.Define key value) = []
in_range_targets (range_of.Assign key value parts) =
    in_some in_target key ++ (in_some in_target value ++ taken_each parts.items)

-- ---- one layer of each tree, where what is below it is seen already

abbrev pub boxed : Option (Box (List VarId)) → List VarId
boxed None = []
boxed (Some x) = x.value

abbrev pub stmt_layer : layers.TypedStmt-F (List VarId) (List VarId) (List VarId) (List VarId) (List VarId) (List VarId)
    → List VarId
stmt_layer (layers.TypedStmt-F.Const at) = []
stmt_layer (layers.TypedStmt-F.TypeDecl at) = []
stmt_layer (layers.TypedStmt-F.Var at variables values) = in_some taken_values values
stmt_layer (layers.TypedStmt-F.Labeled at labels stmt) = boxed stmt
stmt_layer (layers.TypedStmt-F.Expr at x) = taken x
stmt_layer (layers.TypedStmt-F.Send at channel value) = taken channel ++ taken value
stmt_layer (layers.TypedStmt-F.Step at place op one) = assigned place ++ taken one
stmt_layer (layers.TypedStmt-F.Assign at targets values) = in_targets targets.items ++ taken_values values
stmt_layer (layers.TypedStmt-F.AssignOp at place op value) = assigned place ++ taken value
stmt_layer (layers.TypedStmt-F.Define at targets values) = taken_values values
stmt_layer (layers.TypedStmt-F.Go at call) = taken call
stmt_layer (layers.TypedStmt-F.Defer at call) = taken call
stmt_layer (layers.TypedStmt-F.Return at values) = in_some taken_values values
stmt_layer (layers.TypedStmt-F.Break at levels) = []
stmt_layer (layers.TypedStmt-F.Continue at levels) = []
stmt_layer (layers.TypedStmt-F.Fallthrough at) = []
stmt_layer (layers.TypedStmt-F.Block block) = block
stmt_layer (layers.TypedStmt-F.If at arms otherwise) = joined arms.items ++ in_some (λ (y : List VarId). y) otherwise
stmt_layer (layers.TypedStmt-F.Switch at init tag clauses «end») =
    boxed init ++ (in_some taken tag ++ joined clauses.items)
stmt_layer (layers.TypedStmt-F.TypeSwitch at init operand clauses «end») =
    boxed init ++ (taken operand ++ joined clauses.items)
stmt_layer (layers.TypedStmt-F.Select at clauses «end») = joined clauses.items
stmt_layer (layers.TypedStmt-F.For at fresh init condition post body) =
    boxed init ++ (in_some taken condition ++ (boxed post ++ body))
stmt_layer (layers.TypedStmt-F.Range at fresh over operand targets body) =
    taken operand ++ (in_range_targets targets ++ body)

abbrev pub select_clause_layer :
    layers.SelectClause-F (List VarId) (List VarId) (List VarId) (List VarId) (List VarId) (List VarId) → List VarId
select_clause_layer x = in_comm x.comm ++ x.body

abbrev pub type_clause_layer :
    layers.TypeClause-F (List VarId) (List VarId) (List VarId) (List VarId) (List VarId) (List VarId) → List VarId
type_clause_layer x = x.body

abbrev pub arm_layer : layers.TypedArm-F (List VarId) (List VarId) (List VarId) (List VarId) (List VarId) (List VarId)
    → List VarId
arm_layer x = boxed x.init ++ (taken x.condition ++ x.body)

abbrev pub block_layer :
    layers.TypedBlock-F (List VarId) (List VarId) (List VarId) (List VarId) (List VarId) (List VarId) → List VarId
block_layer x = joined x.statements.items

abbrev pub clause_layer :
    layers.TypedClause-F (List VarId) (List VarId) (List VarId) (List VarId) (List VarId) (List VarId) → List VarId
clause_layer x = in_cases x.cases.items ++ x.body

-- ---- whole trees

unfoldable pub roots_in_block : TypedBlock → List VarId
roots_in_block =
    fold-TypedBlock (List VarId) (List VarId) (List VarId) (List VarId) (List VarId) (List VarId) stmt_layer
    select_clause_layer type_clause_layer arm_layer block_layer clause_layer

unfoldable pub roots_in_stmt : TypedStmt → List VarId
roots_in_stmt =
    fold-TypedStmt (List VarId) (List VarId) (List VarId) (List VarId) (List VarId) (List VarId) stmt_layer
    select_clause_layer type_clause_layer arm_layer block_layer clause_layer

unfoldable pub roots_in_select_clause : SelectClause → List VarId
roots_in_select_clause =
    fold-SelectClause (List VarId) (List VarId) (List VarId) (List VarId) (List VarId) (List VarId) stmt_layer
    select_clause_layer type_clause_layer arm_layer block_layer clause_layer

unfoldable pub roots_in_type_clause : TypeClause → List VarId
roots_in_type_clause =
    fold-TypeClause (List VarId) (List VarId) (List VarId) (List VarId) (List VarId) (List VarId) stmt_layer
    select_clause_layer type_clause_layer arm_layer block_layer clause_layer

unfoldable pub roots_in_arm : TypedArm → List VarId
roots_in_arm =
    fold-TypedArm (List VarId) (List VarId) (List VarId) (List VarId) (List VarId) (List VarId) stmt_layer
    select_clause_layer type_clause_layer arm_layer block_layer clause_layer

unfoldable pub roots_in_clause : TypedClause → List VarId
roots_in_clause =
    fold-TypedClause (List VarId) (List VarId) (List VarId) (List VarId) (List VarId) (List VarId) stmt_layer
    select_clause_layer type_clause_layer arm_layer block_layer clause_layer

abbrev pub in_optional : Option (Box TypedStmt) → List VarId
in_optional None = []
in_optional (Some x) = roots_in_stmt x.value
