-- What stands in a statement, by its form.
use Rattle.std.proofs.Common.{◌≡◌, refl, sym, ap, ◌∙◌, List, [], ◌∷◌, ◌++◌, map, Option, Some, None, ℕ, append_assoc, append-nil}
use Rattle.std.specs.Prelude.{flat_map}
use Rattle.std.specs.Global.{Box}
use Rattle.go_tree.specs.declared.exprs.TypedExpr.{TypedExpr}
use Rattle.go_tree.specs.declared.stmts.TypedStmt.{TypedStmt}
use Rattle.go_tree.specs.declared.stmts.SelectClause.{SelectClause}
use Rattle.go_tree.specs.declared.stmts.TypeClause.{TypeClause}
use Rattle.go_tree.specs.declared.stmts.TypedArm.{TypedArm}
use Rattle.go_tree.specs.declared.stmts.TypedBlock.{TypedBlock}
use Rattle.go_tree.specs.declared.stmts.TypedClause.{TypedClause}
use Rattle.go_tree.specs.declared.stmts.TypedStmt.TheOpen as layers
use Rattle.go_tree.specs.declared.stmts.TypedStmt.TheOpen.{TypedStmt-F}
use Rattle.go_tree.specs.declared.stmts.TypedStmt.TheVariants as stmts
use Rattle.go_tree.specs.declared.stmts.TypedStmt.TheViews.{roll-TypedStmt}
use Rattle.go_tree.specs.declared.stmts.TypedStmt.TheFolds.{fold-roll-TypedStmt, fold-roll-SelectClause, fold-roll-TypeClause, fold-roll-TypedArm, fold-roll-TypedBlock, fold-roll-TypedClause, map-TypedStmt}
use Rattle.cg_nodes.specs.declared.nodes.Mention.{Mention}
use Rattle.cg_nodes.specs.Places.{range_parts}
use Rattle.cg_nodes.specs.Uses.{seen_values}
use Rattle.cg_uses.specs.Statements.{Setting, uses_here, declares, returns_any, sends, stores_to, assigns_all, defines_each, in_cases, binds_any, in_comm, in_range_targets, stmt_layer, select_clause_layer, type_clause_layer, arm_layer, block_layer, clause_layer, uses_in_stmt, uses_in_select_clause, uses_in_type_clause, uses_in_arm, uses_in_block, uses_in_clause, uses_in_optional, uses_if_given, uses_otherwise, clause_uses, type_clause_uses, joined}

abbrev layer_at : Setting → TypedStmt-F TypedStmt SelectClause TypeClause TypedArm TypedBlock TypedClause → List Mention
layer_at s x = stmt_layer s (map-TypedStmt TypedStmt SelectClause TypeClause TypedArm TypedBlock TypedClause (List Mention) (List Mention) (TypedExpr → List Mention) (List Mention) (List Mention) (Option TypedExpr → List Mention) (uses_in_stmt s) (uses_in_select_clause s) (uses_in_type_clause s) (uses_in_arm s) (uses_in_block s) (uses_in_clause s) x)

stmt_is : (s : Setting) (x : TypedStmt-F TypedStmt SelectClause TypeClause TypedArm TypedBlock TypedClause) → uses_in_stmt s (roll-TypedStmt x) ≡ layer_at s x
unfolding uses_in_stmt uses_in_select_clause uses_in_type_clause uses_in_arm uses_in_block uses_in_clause
stmt_is s x = fold-roll-TypedStmt (List Mention) (List Mention) (TypedExpr → List Mention) (List Mention) (List Mention) (Option TypedExpr → List Mention) (stmt_layer s) (select_clause_layer s) (type_clause_layer s) (arm_layer s) (block_layer s) (clause_layer s) x

-- what several parts give, one after another
joined_map : {A : Type 0} (f : A → List Mention) (xs : List A) → joined (map f xs) ≡ flat_map f xs
joined_map f [] = refl
joined_map f (x ∷ xs) = ap (λ (ys : List Mention). f x ++ ys) (joined_map f xs)

clauses_map : (s : Setting) (tag : Option TypedExpr) (xs : List TypedClause) → flat_map (λ (y : Option TypedExpr → List Mention). y tag) (map (uses_in_clause s) xs) ≡ flat_map (clause_uses s tag) xs
unfolding clause_uses
clauses_map s tag [] = refl
clauses_map s tag (x ∷ xs) = ap (λ (ys : List Mention). uses_in_clause s x tag ++ ys) (clauses_map s tag xs)

type_clauses_map : (s : Setting) (operand : TypedExpr) (xs : List TypeClause) → flat_map (λ (y : TypedExpr → List Mention). y operand) (map (uses_in_type_clause s) xs) ≡ flat_map (type_clause_uses s operand) xs
unfolding type_clause_uses
type_clauses_map s operand [] = refl
type_clauses_map s operand (x ∷ xs) = ap (λ (ys : List Mention). uses_in_type_clause s x operand ++ ys) (type_clauses_map s operand xs)

-- ---- statements, by their form

pub const_uses : (s : Setting) (at : _) → uses_in_stmt s (stmts.Const at) ≡ []
const_uses s at = ap (uses_in_stmt s) (sym (stmts.rolls-Const at)) ∙ stmt_is s (layers.TypedStmt-F.Const at)

pub type_decl_uses : (s : Setting) (at : _) → uses_in_stmt s (stmts.TypeDecl at) ≡ []
type_decl_uses s at = ap (uses_in_stmt s) (sym (stmts.rolls-TypeDecl at)) ∙ stmt_is s (layers.TypedStmt-F.TypeDecl at)

pub var_uses : (s : Setting) (at variables values : _) → uses_in_stmt s (stmts.Var at variables values) ≡ declares s variables.items values
var_uses s at variables values = ap (uses_in_stmt s) (sym (stmts.rolls-Var at variables values)) ∙ stmt_is s (layers.TypedStmt-F.Var at variables values)

pub labeled_uses : (s : Setting) (at labels stmt : _) → uses_in_stmt s (stmts.Labeled at labels stmt) ≡ uses_in_optional s stmt
labeled_uses s at labels None = ap (uses_in_stmt s) (sym (stmts.rolls-Labeled at labels None)) ∙ stmt_is s (layers.TypedStmt-F.Labeled at labels None)
labeled_uses s at labels (Some stmt) = ap (uses_in_stmt s) (sym (stmts.rolls-Labeled at labels (Some stmt))) ∙ stmt_is s (layers.TypedStmt-F.Labeled at labels (Some stmt))

pub expr_uses : (s : Setting) (at x : _) → uses_in_stmt s (stmts.Expr at x) ≡ uses_here s x
expr_uses s at x = ap (uses_in_stmt s) (sym (stmts.rolls-Expr at x)) ∙ stmt_is s (layers.TypedStmt-F.Expr at x)

pub send_uses : (s : Setting) (at channel value : _) → uses_in_stmt s (stmts.Send at channel value) ≡ sends s channel value
send_uses s at channel value = ap (uses_in_stmt s) (sym (stmts.rolls-Send at channel value)) ∙ stmt_is s (layers.TypedStmt-F.Send at channel value)

pub step_uses : (s : Setting) (at place op one : _) → uses_in_stmt s (stmts.Step at place op one) ≡ stores_to s place ++ uses_here s one
step_uses s at place op one = ap (uses_in_stmt s) (sym (stmts.rolls-Step at place op one)) ∙ stmt_is s (layers.TypedStmt-F.Step at place op one)

pub assign_uses : (s : Setting) (at targets values : _) → uses_in_stmt s (stmts.Assign at targets values) ≡ assigns_all s targets.items (seen_values s.types values)
assign_uses s at targets values = ap (uses_in_stmt s) (sym (stmts.rolls-Assign at targets values)) ∙ stmt_is s (layers.TypedStmt-F.Assign at targets values)

pub assign_op_uses : (s : Setting) (at place op value : _) → uses_in_stmt s (stmts.AssignOp at place op value) ≡ stores_to s place ++ uses_here s value
assign_op_uses s at place op value = ap (uses_in_stmt s) (sym (stmts.rolls-AssignOp at place op value)) ∙ stmt_is s (layers.TypedStmt-F.AssignOp at place op value)

pub define_uses : (s : Setting) (at targets values : _) → uses_in_stmt s (stmts.Define at targets values) ≡ defines_each s targets.items (seen_values s.types values)
define_uses s at targets values = ap (uses_in_stmt s) (sym (stmts.rolls-Define at targets values)) ∙ stmt_is s (layers.TypedStmt-F.Define at targets values)

pub go_uses : (s : Setting) (at call : _) → uses_in_stmt s (stmts.Go at call) ≡ uses_here s call
go_uses s at call = ap (uses_in_stmt s) (sym (stmts.rolls-Go at call)) ∙ stmt_is s (layers.TypedStmt-F.Go at call)

pub defer_uses : (s : Setting) (at call : _) → uses_in_stmt s (stmts.Defer at call) ≡ uses_here s call
defer_uses s at call = ap (uses_in_stmt s) (sym (stmts.rolls-Defer at call)) ∙ stmt_is s (layers.TypedStmt-F.Defer at call)

pub return_uses : (s : Setting) (at values : _) → uses_in_stmt s (stmts.Return at values) ≡ returns_any s values
return_uses s at values = ap (uses_in_stmt s) (sym (stmts.rolls-Return at values)) ∙ stmt_is s (layers.TypedStmt-F.Return at values)

pub break_uses : (s : Setting) (at levels : _) → uses_in_stmt s (stmts.Break at levels) ≡ []
break_uses s at levels = ap (uses_in_stmt s) (sym (stmts.rolls-Break at levels)) ∙ stmt_is s (layers.TypedStmt-F.Break at levels)

pub continue_uses : (s : Setting) (at levels : _) → uses_in_stmt s (stmts.Continue at levels) ≡ []
continue_uses s at levels = ap (uses_in_stmt s) (sym (stmts.rolls-Continue at levels)) ∙ stmt_is s (layers.TypedStmt-F.Continue at levels)

pub fallthrough_uses : (s : Setting) (at : _) → uses_in_stmt s (stmts.Fallthrough at) ≡ []
fallthrough_uses s at = ap (uses_in_stmt s) (sym (stmts.rolls-Fallthrough at)) ∙ stmt_is s (layers.TypedStmt-F.Fallthrough at)

pub block_uses : (s : Setting) (block : _) → uses_in_stmt s (stmts.Block block) ≡ uses_in_block s block
block_uses s block = ap (uses_in_stmt s) (sym (stmts.rolls-Block block)) ∙ stmt_is s (layers.TypedStmt-F.Block block)

pub if_uses : (s : Setting) (at arms otherwise : _) → uses_in_stmt s (stmts.If at arms otherwise) ≡ flat_map (uses_in_arm s) arms.items ++ uses_otherwise s otherwise
if_uses s at arms None = ap (uses_in_stmt s) (sym (stmts.rolls-If at arms None)) ∙ stmt_is s (layers.TypedStmt-F.If at arms None) ∙ ap (λ (ys : List Mention). ys ++ uses_otherwise s None) (joined_map (uses_in_arm s) arms.items)
if_uses s at arms (Some otherwise) = ap (uses_in_stmt s) (sym (stmts.rolls-If at arms (Some otherwise))) ∙ stmt_is s (layers.TypedStmt-F.If at arms (Some otherwise)) ∙ ap (λ (ys : List Mention). ys ++ uses_otherwise s (Some otherwise)) (joined_map (uses_in_arm s) arms.items)

pub switch_uses : (s : Setting) (at init tag clauses ends : _) → uses_in_stmt s (stmts.Switch at init tag clauses ends) ≡ uses_in_optional s init ++ (uses_if_given s tag ++ flat_map (clause_uses s tag) clauses.items)
switch_uses s at None tag clauses ends = ap (uses_in_stmt s) (sym (stmts.rolls-Switch at None tag clauses ends)) ∙ stmt_is s (layers.TypedStmt-F.Switch at None tag clauses ends) ∙ ap (λ (ys : List Mention). uses_in_optional s None ++ (uses_if_given s tag ++ ys)) (clauses_map s tag clauses.items)
switch_uses s at (Some init) tag clauses ends = ap (uses_in_stmt s) (sym (stmts.rolls-Switch at (Some init) tag clauses ends)) ∙ stmt_is s (layers.TypedStmt-F.Switch at (Some init) tag clauses ends) ∙ ap (λ (ys : List Mention). uses_in_optional s (Some init) ++ (uses_if_given s tag ++ ys)) (clauses_map s tag clauses.items)

pub type_switch_uses : (s : Setting) (at init operand clauses ends : _) → uses_in_stmt s (stmts.TypeSwitch at init operand clauses ends) ≡ uses_in_optional s init ++ (uses_here s operand ++ flat_map (type_clause_uses s operand) clauses.items)
type_switch_uses s at None operand clauses ends = ap (uses_in_stmt s) (sym (stmts.rolls-TypeSwitch at None operand clauses ends)) ∙ stmt_is s (layers.TypedStmt-F.TypeSwitch at None operand clauses ends) ∙ ap (λ (ys : List Mention). uses_in_optional s None ++ (uses_here s operand ++ ys)) (type_clauses_map s operand clauses.items)
type_switch_uses s at (Some init) operand clauses ends = ap (uses_in_stmt s) (sym (stmts.rolls-TypeSwitch at (Some init) operand clauses ends)) ∙ stmt_is s (layers.TypedStmt-F.TypeSwitch at (Some init) operand clauses ends) ∙ ap (λ (ys : List Mention). uses_in_optional s (Some init) ++ (uses_here s operand ++ ys)) (type_clauses_map s operand clauses.items)

pub select_uses : (s : Setting) (at clauses ends : _) → uses_in_stmt s (stmts.Select at clauses ends) ≡ flat_map (uses_in_select_clause s) clauses.items
select_uses s at clauses ends = ap (uses_in_stmt s) (sym (stmts.rolls-Select at clauses ends)) ∙ stmt_is s (layers.TypedStmt-F.Select at clauses ends) ∙ joined_map (uses_in_select_clause s) clauses.items

pub for_uses : (s : Setting) (at fresh init condition post body : _) → uses_in_stmt s (stmts.For at fresh init condition post body) ≡ uses_in_optional s init ++ (uses_if_given s condition ++ (uses_in_optional s post ++ uses_in_block s body))
for_uses s at fresh None condition None body = ap (uses_in_stmt s) (sym (stmts.rolls-For at fresh None condition None body)) ∙ stmt_is s (layers.TypedStmt-F.For at fresh None condition None body)
for_uses s at fresh None condition (Some post) body = ap (uses_in_stmt s) (sym (stmts.rolls-For at fresh None condition (Some post) body)) ∙ stmt_is s (layers.TypedStmt-F.For at fresh None condition (Some post) body)
for_uses s at fresh (Some init) condition None body = ap (uses_in_stmt s) (sym (stmts.rolls-For at fresh (Some init) condition None body)) ∙ stmt_is s (layers.TypedStmt-F.For at fresh (Some init) condition None body)
for_uses s at fresh (Some init) condition (Some post) body = ap (uses_in_stmt s) (sym (stmts.rolls-For at fresh (Some init) condition (Some post) body)) ∙ stmt_is s (layers.TypedStmt-F.For at fresh (Some init) condition (Some post) body)

pub range_uses : (s : Setting) (at fresh over operand targets body : _) → uses_in_stmt s (stmts.Range at fresh over operand targets body) ≡ uses_here s operand ++ (in_range_targets s (range_parts over) targets ++ uses_in_block s body)
range_uses s at fresh over operand targets body = ap (uses_in_stmt s) (sym (stmts.rolls-Range at fresh over operand targets body)) ∙ stmt_is s (layers.TypedStmt-F.Range at fresh over operand targets body)

pub ruleset statement_forms = (append_assoc, append-nil, const_uses, type_decl_uses, var_uses, labeled_uses, expr_uses, send_uses, step_uses, assign_uses, assign_op_uses, define_uses, go_uses, defer_uses, return_uses, break_uses, continue_uses, fallthrough_uses, block_uses, if_uses, switch_uses, type_switch_uses, select_uses, for_uses, range_uses)

-- ---- their parts

pub block_is : (s : Setting) (x : TypedBlock) → uses_in_block s x ≡ flat_map (uses_in_stmt s) x.statements.items
unfolding uses_in_stmt uses_in_select_clause uses_in_type_clause uses_in_arm uses_in_block uses_in_clause
block_is s x = fold-roll-TypedBlock (List Mention) (List Mention) (TypedExpr → List Mention) (List Mention) (List Mention) (Option TypedExpr → List Mention) (stmt_layer s) (select_clause_layer s) (type_clause_layer s) (arm_layer s) (block_layer s) (clause_layer s) (record { at = x.at; «end» = x.«end»; statements = x.statements }) ∙ joined_map (uses_in_stmt s) x.statements.items

pub ruleset block_forms = (block_is)

arm_parts : (s : Setting) (at : _) (init : Option (Box TypedStmt)) (condition : _) (body : _) → uses_in_arm s (record { at = at; init = init; condition = condition; body = body }) ≡ uses_in_optional s init ++ (uses_here s condition ++ uses_in_block s body)
unfolding uses_in_stmt uses_in_select_clause uses_in_type_clause uses_in_arm uses_in_block uses_in_clause
arm_parts s at None condition body = fold-roll-TypedArm (List Mention) (List Mention) (TypedExpr → List Mention) (List Mention) (List Mention) (Option TypedExpr → List Mention) (stmt_layer s) (select_clause_layer s) (type_clause_layer s) (arm_layer s) (block_layer s) (clause_layer s) (record { at = at; init = None; condition = condition; body = body })
arm_parts s at (Some init) condition body = fold-roll-TypedArm (List Mention) (List Mention) (TypedExpr → List Mention) (List Mention) (List Mention) (Option TypedExpr → List Mention) (stmt_layer s) (select_clause_layer s) (type_clause_layer s) (arm_layer s) (block_layer s) (clause_layer s) (record { at = at; init = Some init; condition = condition; body = body })

pub arm_is : (s : Setting) (x : TypedArm) → uses_in_arm s x ≡ uses_in_optional s x.init ++ (uses_here s x.condition ++ uses_in_block s x.body)
arm_is s x = arm_parts s x.at x.init x.condition x.body

pub clause_is : (s : Setting) (x : TypedClause) (tag : Option TypedExpr) → clause_uses s tag x ≡ in_cases s tag x.cases.items ++ uses_in_block s x.body
unfolding uses_in_stmt uses_in_select_clause uses_in_type_clause uses_in_arm uses_in_block uses_in_clause clause_uses
clause_is s x tag = ap (λ (k : Option TypedExpr → List Mention). k tag) (fold-roll-TypedClause (List Mention) (List Mention) (TypedExpr → List Mention) (List Mention) (List Mention) (Option TypedExpr → List Mention) (stmt_layer s) (select_clause_layer s) (type_clause_layer s) (arm_layer s) (block_layer s) (clause_layer s) (record { at = x.at; is_default = x.is_default; cases = x.cases; body = x.body }))

pub type_clause_is : (s : Setting) (x : TypeClause) (operand : TypedExpr) → type_clause_uses s operand x ≡ binds_any s operand x.cases.items x.variable ++ uses_in_block s x.body
unfolding uses_in_stmt uses_in_select_clause uses_in_type_clause uses_in_arm uses_in_block uses_in_clause type_clause_uses
type_clause_is s x operand = ap (λ (k : TypedExpr → List Mention). k operand) (fold-roll-TypeClause (List Mention) (List Mention) (TypedExpr → List Mention) (List Mention) (List Mention) (Option TypedExpr → List Mention) (stmt_layer s) (select_clause_layer s) (type_clause_layer s) (arm_layer s) (block_layer s) (clause_layer s) (record { at = x.at; is_default = x.is_default; cases = x.cases; variable = x.variable; body = x.body }))

pub select_clause_is : (s : Setting) (x : SelectClause) → uses_in_select_clause s x ≡ in_comm s x.comm ++ uses_in_block s x.body
unfolding uses_in_stmt uses_in_select_clause uses_in_type_clause uses_in_arm uses_in_block uses_in_clause
select_clause_is s x = fold-roll-SelectClause (List Mention) (List Mention) (TypedExpr → List Mention) (List Mention) (List Mention) (Option TypedExpr → List Mention) (stmt_layer s) (select_clause_layer s) (type_clause_layer s) (arm_layer s) (block_layer s) (clause_layer s) (record { at = x.at; comm = x.comm; body = x.body })

pub ruleset arm_forms = (append_assoc, arm_is, clause_is, type_clause_is, select_clause_is)
