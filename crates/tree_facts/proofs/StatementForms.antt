-- What the forms of statements are seen as.
use Rattle.std.proofs.Common.{◌≡◌, refl, sym, ap, ◌∙◌, List, [], ◌∷◌, ◌++◌, map, Some, None}
use Rattle.std.specs.Prelude.{flat_map}
use Rattle.go_base.specs.declared.ids.VarId.{VarId}
use Rattle.go_tree.specs.declared.stmts.SelectClause.{SelectClause}
use Rattle.go_tree.specs.declared.stmts.TypeClause.{TypeClause}
use Rattle.go_tree.specs.declared.stmts.TypedArm.{TypedArm}
use Rattle.go_tree.specs.declared.stmts.TypedBlock.{TypedBlock}
use Rattle.go_tree.specs.declared.stmts.TypedClause.{TypedClause}
use Rattle.go_tree.specs.declared.stmts.TypedStmt.{TypedStmt}
use Rattle.go_tree.specs.declared.stmts.TypedStmt.TheOpen as layers
use Rattle.go_tree.specs.declared.stmts.TypedStmt.TheOpen.{TypedStmt-F}
use Rattle.go_tree.specs.declared.stmts.TypedStmt.TheVariants as stmts
use Rattle.go_tree.specs.declared.stmts.TypedStmt.TheViews.{roll-TypedStmt}
use Rattle.go_tree.specs.declared.stmts.TypedStmt.TheFolds.{fold-roll-TypedStmt, fold-roll-SelectClause, fold-roll-TypeClause, fold-roll-TypedArm, fold-roll-TypedBlock, fold-roll-TypedClause, map-TypedStmt}
use Rattle.tree_facts.specs.Roots.{joined, taken, taken_values}
use Rattle.tree_facts.specs.Statements.{in_some, assigned, in_targets, in_cases, in_comm, in_range_targets, stmt_layer, select_clause_layer, type_clause_layer, arm_layer, block_layer, clause_layer, roots_in_block, roots_in_stmt, roots_in_select_clause, roots_in_type_clause, roots_in_arm, roots_in_clause, in_optional}

abbrev stmt_layer_at : TypedStmt-F TypedStmt SelectClause TypeClause TypedArm TypedBlock TypedClause → List VarId
stmt_layer_at x = stmt_layer (map-TypedStmt TypedStmt SelectClause TypeClause TypedArm TypedBlock TypedClause (List VarId) (List VarId) (List VarId) (List VarId) (List VarId) (List VarId) roots_in_stmt roots_in_select_clause roots_in_type_clause roots_in_arm roots_in_block roots_in_clause x)

stmt_is : (x : TypedStmt-F TypedStmt SelectClause TypeClause TypedArm TypedBlock TypedClause) → roots_in_stmt (roll-TypedStmt x) ≡ stmt_layer_at x
unfolding roots_in_block roots_in_stmt roots_in_select_clause roots_in_type_clause roots_in_arm roots_in_clause
stmt_is x = fold-roll-TypedStmt (List VarId) (List VarId) (List VarId) (List VarId) (List VarId) (List VarId) stmt_layer select_clause_layer type_clause_layer arm_layer block_layer clause_layer x

joined_map : {A : Type 0} (f : A → List VarId) (xs : List A) → joined (map f xs) ≡ flat_map f xs
joined_map f [] = refl
joined_map f (x ∷ xs) = ap (λ (y : List VarId). f x ++ y) (joined_map f xs)

pub select_clause_is : (x : SelectClause) → roots_in_select_clause x ≡ in_comm x.comm ++ roots_in_block x.body
unfolding roots_in_block roots_in_stmt roots_in_select_clause roots_in_type_clause roots_in_arm roots_in_clause
select_clause_is x = fold-roll-SelectClause (List VarId) (List VarId) (List VarId) (List VarId) (List VarId) (List VarId) stmt_layer select_clause_layer type_clause_layer arm_layer block_layer clause_layer (record { at = x.at; comm = x.comm; body = x.body })

pub type_clause_is : (x : TypeClause) → roots_in_type_clause x ≡ roots_in_block x.body
unfolding roots_in_block roots_in_stmt roots_in_select_clause roots_in_type_clause roots_in_arm roots_in_clause
type_clause_is x = fold-roll-TypeClause (List VarId) (List VarId) (List VarId) (List VarId) (List VarId) (List VarId) stmt_layer select_clause_layer type_clause_layer arm_layer block_layer clause_layer (record { at = x.at; is_default = x.is_default; cases = x.cases; variable = x.variable; body = x.body })

pub clause_is : (x : TypedClause) → roots_in_clause x ≡ in_cases x.cases.items ++ roots_in_block x.body
unfolding roots_in_block roots_in_stmt roots_in_select_clause roots_in_type_clause roots_in_arm roots_in_clause
clause_is x = fold-roll-TypedClause (List VarId) (List VarId) (List VarId) (List VarId) (List VarId) (List VarId) stmt_layer select_clause_layer type_clause_layer arm_layer block_layer clause_layer (record { at = x.at; is_default = x.is_default; cases = x.cases; body = x.body })

block_layer_is : (x : TypedBlock) → roots_in_block x ≡ joined (map roots_in_stmt x.statements.items)
unfolding roots_in_block roots_in_stmt roots_in_select_clause roots_in_type_clause roots_in_arm roots_in_clause
block_layer_is x = fold-roll-TypedBlock (List VarId) (List VarId) (List VarId) (List VarId) (List VarId) (List VarId) stmt_layer select_clause_layer type_clause_layer arm_layer block_layer clause_layer (record { at = x.at; end = x.end; statements = x.statements })

pub block_is : (x : TypedBlock) → roots_in_block x ≡ flat_map roots_in_stmt x.statements.items
block_is x = block_layer_is x ∙ joined_map roots_in_stmt x.statements.items

arm_of : (at init condition body : _) → roots_in_arm (record { at = at; init = init; condition = condition; body = body }) ≡ in_optional init ++ (taken condition ++ roots_in_block body)
unfolding roots_in_block roots_in_stmt roots_in_select_clause roots_in_type_clause roots_in_arm roots_in_clause
arm_of at None condition body = fold-roll-TypedArm (List VarId) (List VarId) (List VarId) (List VarId) (List VarId) (List VarId) stmt_layer select_clause_layer type_clause_layer arm_layer block_layer clause_layer (record { at = at; init = None; condition = condition; body = body })
arm_of at (Some init) condition body = fold-roll-TypedArm (List VarId) (List VarId) (List VarId) (List VarId) (List VarId) (List VarId) stmt_layer select_clause_layer type_clause_layer arm_layer block_layer clause_layer (record { at = at; init = Some init; condition = condition; body = body })

pub arm_is : (x : TypedArm) → roots_in_arm x ≡ in_optional x.init ++ (taken x.condition ++ roots_in_block x.body)
arm_is x = arm_of x.at x.init x.condition x.body

pub const_is : (at : _) → roots_in_stmt (stmts.Const at) ≡ []
const_is at = ap roots_in_stmt (sym (stmts.rolls-Const at)) ∙ stmt_is (layers.TypedStmt-F.Const at)

pub type_decl_is : (at : _) → roots_in_stmt (stmts.TypeDecl at) ≡ []
type_decl_is at = ap roots_in_stmt (sym (stmts.rolls-TypeDecl at)) ∙ stmt_is (layers.TypedStmt-F.TypeDecl at)

pub var_is : (at variables values : _) → roots_in_stmt (stmts.Var at variables values) ≡ in_some taken_values values
var_is at variables None = ap roots_in_stmt (sym (stmts.rolls-Var at variables None)) ∙ stmt_is (layers.TypedStmt-F.Var at variables None)
var_is at variables (Some values) = ap roots_in_stmt (sym (stmts.rolls-Var at variables (Some values))) ∙ stmt_is (layers.TypedStmt-F.Var at variables (Some values))

pub labeled_is : (at labels stmt : _) → roots_in_stmt (stmts.Labeled at labels stmt) ≡ in_optional stmt
labeled_is at labels None = ap roots_in_stmt (sym (stmts.rolls-Labeled at labels None)) ∙ stmt_is (layers.TypedStmt-F.Labeled at labels None)
labeled_is at labels (Some stmt) = ap roots_in_stmt (sym (stmts.rolls-Labeled at labels (Some stmt))) ∙ stmt_is (layers.TypedStmt-F.Labeled at labels (Some stmt))

pub expr_stmt_is : (at x : _) → roots_in_stmt (stmts.Expr at x) ≡ taken x
expr_stmt_is at x = ap roots_in_stmt (sym (stmts.rolls-Expr at x)) ∙ stmt_is (layers.TypedStmt-F.Expr at x)

pub send_is : (at channel value : _) → roots_in_stmt (stmts.Send at channel value) ≡ taken channel ++ taken value
send_is at channel value = ap roots_in_stmt (sym (stmts.rolls-Send at channel value)) ∙ stmt_is (layers.TypedStmt-F.Send at channel value)

pub step_is : (at place op one : _) → roots_in_stmt (stmts.Step at place op one) ≡ assigned place ++ taken one
step_is at place op one = ap roots_in_stmt (sym (stmts.rolls-Step at place op one)) ∙ stmt_is (layers.TypedStmt-F.Step at place op one)

pub assign_is : (at targets values : _) → roots_in_stmt (stmts.Assign at targets values) ≡ in_targets targets.items ++ taken_values values
assign_is at targets values = ap roots_in_stmt (sym (stmts.rolls-Assign at targets values)) ∙ stmt_is (layers.TypedStmt-F.Assign at targets values)

pub assign_op_is : (at place op value : _) → roots_in_stmt (stmts.AssignOp at place op value) ≡ assigned place ++ taken value
assign_op_is at place op value = ap roots_in_stmt (sym (stmts.rolls-AssignOp at place op value)) ∙ stmt_is (layers.TypedStmt-F.AssignOp at place op value)

pub define_is : (at targets values : _) → roots_in_stmt (stmts.Define at targets values) ≡ taken_values values
define_is at targets values = ap roots_in_stmt (sym (stmts.rolls-Define at targets values)) ∙ stmt_is (layers.TypedStmt-F.Define at targets values)

pub go_is : (at call : _) → roots_in_stmt (stmts.Go at call) ≡ taken call
go_is at call = ap roots_in_stmt (sym (stmts.rolls-Go at call)) ∙ stmt_is (layers.TypedStmt-F.Go at call)

pub defer_is : (at call : _) → roots_in_stmt (stmts.Defer at call) ≡ taken call
defer_is at call = ap roots_in_stmt (sym (stmts.rolls-Defer at call)) ∙ stmt_is (layers.TypedStmt-F.Defer at call)

pub return_is : (at values : _) → roots_in_stmt (stmts.Return at values) ≡ in_some taken_values values
return_is at None = ap roots_in_stmt (sym (stmts.rolls-Return at None)) ∙ stmt_is (layers.TypedStmt-F.Return at None)
return_is at (Some values) = ap roots_in_stmt (sym (stmts.rolls-Return at (Some values))) ∙ stmt_is (layers.TypedStmt-F.Return at (Some values))

pub break_is : (at levels : _) → roots_in_stmt (stmts.Break at levels) ≡ []
break_is at levels = ap roots_in_stmt (sym (stmts.rolls-Break at levels)) ∙ stmt_is (layers.TypedStmt-F.Break at levels)

pub continue_is : (at levels : _) → roots_in_stmt (stmts.Continue at levels) ≡ []
continue_is at levels = ap roots_in_stmt (sym (stmts.rolls-Continue at levels)) ∙ stmt_is (layers.TypedStmt-F.Continue at levels)

pub fallthrough_is : (at : _) → roots_in_stmt (stmts.Fallthrough at) ≡ []
fallthrough_is at = ap roots_in_stmt (sym (stmts.rolls-Fallthrough at)) ∙ stmt_is (layers.TypedStmt-F.Fallthrough at)

pub block_stmt_is : (block : _) → roots_in_stmt (stmts.Block block) ≡ roots_in_block block
block_stmt_is block = ap roots_in_stmt (sym (stmts.rolls-Block block)) ∙ stmt_is (layers.TypedStmt-F.Block block)

pub if_is : (at arms otherwise : _) → roots_in_stmt (stmts.If at arms otherwise) ≡ flat_map roots_in_arm arms.items ++ in_some roots_in_block otherwise
if_is at arms None = ap roots_in_stmt (sym (stmts.rolls-If at arms None)) ∙ stmt_is (layers.TypedStmt-F.If at arms None) ∙ ap (λ (y : List VarId). y ++ in_some roots_in_block None) (joined_map roots_in_arm arms.items)
if_is at arms (Some otherwise) = ap roots_in_stmt (sym (stmts.rolls-If at arms (Some otherwise))) ∙ stmt_is (layers.TypedStmt-F.If at arms (Some otherwise)) ∙ ap (λ (y : List VarId). y ++ in_some roots_in_block (Some otherwise)) (joined_map roots_in_arm arms.items)

pub switch_is : (at init tag clauses closing : _) → roots_in_stmt (stmts.Switch at init tag clauses closing) ≡ in_optional init ++ (in_some taken tag ++ flat_map roots_in_clause clauses.items)
switch_is at None None clauses closing = ap roots_in_stmt (sym (stmts.rolls-Switch at None None clauses closing)) ∙ stmt_is (layers.TypedStmt-F.Switch at None None clauses closing) ∙ ap (λ (y : List VarId). in_optional None ++ (in_some taken None ++ y)) (joined_map roots_in_clause clauses.items)
switch_is at None (Some tag) clauses closing = ap roots_in_stmt (sym (stmts.rolls-Switch at None (Some tag) clauses closing)) ∙ stmt_is (layers.TypedStmt-F.Switch at None (Some tag) clauses closing) ∙ ap (λ (y : List VarId). in_optional None ++ (in_some taken (Some tag) ++ y)) (joined_map roots_in_clause clauses.items)
switch_is at (Some init) None clauses closing = ap roots_in_stmt (sym (stmts.rolls-Switch at (Some init) None clauses closing)) ∙ stmt_is (layers.TypedStmt-F.Switch at (Some init) None clauses closing) ∙ ap (λ (y : List VarId). in_optional (Some init) ++ (in_some taken None ++ y)) (joined_map roots_in_clause clauses.items)
switch_is at (Some init) (Some tag) clauses closing = ap roots_in_stmt (sym (stmts.rolls-Switch at (Some init) (Some tag) clauses closing)) ∙ stmt_is (layers.TypedStmt-F.Switch at (Some init) (Some tag) clauses closing) ∙ ap (λ (y : List VarId). in_optional (Some init) ++ (in_some taken (Some tag) ++ y)) (joined_map roots_in_clause clauses.items)

pub type_switch_is : (at init operand clauses closing : _) → roots_in_stmt (stmts.TypeSwitch at init operand clauses closing) ≡ in_optional init ++ (taken operand ++ flat_map roots_in_type_clause clauses.items)
type_switch_is at None operand clauses closing = ap roots_in_stmt (sym (stmts.rolls-TypeSwitch at None operand clauses closing)) ∙ stmt_is (layers.TypedStmt-F.TypeSwitch at None operand clauses closing) ∙ ap (λ (y : List VarId). in_optional None ++ (taken operand ++ y)) (joined_map roots_in_type_clause clauses.items)
type_switch_is at (Some init) operand clauses closing = ap roots_in_stmt (sym (stmts.rolls-TypeSwitch at (Some init) operand clauses closing)) ∙ stmt_is (layers.TypedStmt-F.TypeSwitch at (Some init) operand clauses closing) ∙ ap (λ (y : List VarId). in_optional (Some init) ++ (taken operand ++ y)) (joined_map roots_in_type_clause clauses.items)

pub select_is : (at clauses closing : _) → roots_in_stmt (stmts.Select at clauses closing) ≡ flat_map roots_in_select_clause clauses.items
select_is at clauses closing = ap roots_in_stmt (sym (stmts.rolls-Select at clauses closing)) ∙ stmt_is (layers.TypedStmt-F.Select at clauses closing) ∙ joined_map roots_in_select_clause clauses.items

pub for_is : (at fresh init condition post body : _) → roots_in_stmt (stmts.For at fresh init condition post body) ≡ in_optional init ++ (in_some taken condition ++ (in_optional post ++ roots_in_block body))
for_is at fresh None None None body = ap roots_in_stmt (sym (stmts.rolls-For at fresh None None None body)) ∙ stmt_is (layers.TypedStmt-F.For at fresh None None None body)
for_is at fresh None None (Some post) body = ap roots_in_stmt (sym (stmts.rolls-For at fresh None None (Some post) body)) ∙ stmt_is (layers.TypedStmt-F.For at fresh None None (Some post) body)
for_is at fresh None (Some condition) None body = ap roots_in_stmt (sym (stmts.rolls-For at fresh None (Some condition) None body)) ∙ stmt_is (layers.TypedStmt-F.For at fresh None (Some condition) None body)
for_is at fresh None (Some condition) (Some post) body = ap roots_in_stmt (sym (stmts.rolls-For at fresh None (Some condition) (Some post) body)) ∙ stmt_is (layers.TypedStmt-F.For at fresh None (Some condition) (Some post) body)
for_is at fresh (Some init) None None body = ap roots_in_stmt (sym (stmts.rolls-For at fresh (Some init) None None body)) ∙ stmt_is (layers.TypedStmt-F.For at fresh (Some init) None None body)
for_is at fresh (Some init) None (Some post) body = ap roots_in_stmt (sym (stmts.rolls-For at fresh (Some init) None (Some post) body)) ∙ stmt_is (layers.TypedStmt-F.For at fresh (Some init) None (Some post) body)
for_is at fresh (Some init) (Some condition) None body = ap roots_in_stmt (sym (stmts.rolls-For at fresh (Some init) (Some condition) None body)) ∙ stmt_is (layers.TypedStmt-F.For at fresh (Some init) (Some condition) None body)
for_is at fresh (Some init) (Some condition) (Some post) body = ap roots_in_stmt (sym (stmts.rolls-For at fresh (Some init) (Some condition) (Some post) body)) ∙ stmt_is (layers.TypedStmt-F.For at fresh (Some init) (Some condition) (Some post) body)

pub range_is : (at fresh over operand targets body : _) → roots_in_stmt (stmts.Range at fresh over operand targets body) ≡ taken operand ++ (in_range_targets targets ++ roots_in_block body)
range_is at fresh over operand targets body = ap roots_in_stmt (sym (stmts.rolls-Range at fresh over operand targets body)) ∙ stmt_is (layers.TypedStmt-F.Range at fresh over operand targets body)

pub ruleset stmt_forms = (select_clause_is, type_clause_is, clause_is, block_is, arm_is, const_is, type_decl_is, var_is, labeled_is, expr_stmt_is, send_is, step_is, assign_is, assign_op_is, define_is, go_is, defer_is, return_is, break_is, continue_is, fallthrough_is, block_stmt_is, if_is, switch_is, type_switch_is, select_is, for_is, range_is)
