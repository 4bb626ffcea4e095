-- Whether a statement fits, by its form.
use Rattle.std.proofs.Common.{◌≡◌, refl, sym, ap, ◌∙◌, List, [], ◌∷◌, map, Option, Some, None}
use Rattle.std.specs.Prelude.{Bool, true, ◌&&◌, nat_lt}
use Rattle.std.specs.Global.{Box}
use Rattle.std.proofs.lemmas.List.Folds.{list_all-map}
use Rattle.go_base.specs.declared.ids.TypeId.{TypeId}
use Rattle.go_tree.specs.declared.stmts.TypedStmt.{TypedStmt}
use Rattle.go_tree.specs.declared.stmts.SelectClause.{SelectClause}
use Rattle.go_tree.specs.declared.stmts.TypeClause.{TypeClause}
use Rattle.go_tree.specs.declared.stmts.TypedArm.{TypedArm}
use Rattle.go_tree.specs.declared.stmts.TypedBlock.{TypedBlock}
use Rattle.go_tree.specs.declared.stmts.TypedClause.{TypedClause}
use Rattle.go_tree.specs.declared.stmts.TypedStmt.TheOpen as layers
use Rattle.go_tree.specs.declared.stmts.TypedStmt.TheOpen.{TypedStmt-F}
use Rattle.go_tree.specs.declared.stmts.TypedStmt.TheVariants as stmts
use Rattle.go_tree.specs.declared.stmts.TypedStmt.TheViews.{roll-TypedStmt}
use Rattle.go_tree.specs.declared.stmts.TypedStmt.TheFolds.{fold-roll-TypedStmt, fold-roll-SelectClause, fold-roll-TypeClause}
use Rattle.go_tree.specs.declared.stmts.TypedStmt.TheFolds.{fold-roll-TypedArm, fold-roll-TypedBlock, fold-roll-TypedClause}
use Rattle.go_tree.specs.declared.stmts.TypedStmt.TheFolds.{map-TypedStmt}
use Rattle.typed_trees.specs.Around.{Around}
use Rattle.typed_trees.specs.Expressions.{seen}
use Rattle.typed_trees.specs.Statements.{Within, Fits, Clause, in_loop, in_block, all_of, fits_expr, is_condition, is_condition_if}
use Rattle.typed_trees.specs.Statements.{sends, declares, operates_on, is_call_of, returns}
use Rattle.typed_trees.specs.Statements.{communicates, is_default_comm, arm_layer, block_layer, clause_layer}
use Rattle.typed_trees.specs.Statements.{type_clause_layer, select_clause_layer, stmt_layer, fits_block}
use Rattle.typed_trees.specs.Targets.{ranges}
use Rattle.program_typing.specs.Walk.{fits_stmt, seen_select_clause, seen_type_clause, fits_arm, seen_clause}
use Rattle.program_typing.specs.Walk.{optional_fits, otherwise_fits, fit_in_turn, arms_fit, has_cases, has_type_cases, assigns, defines_with}

module _ (a : Around) where
  abbrev pub layer_at : TypedStmt-F TypedStmt SelectClause TypeClause TypedArm TypedBlock TypedClause → Fits
  layer_at x = stmt_layer a (map-TypedStmt TypedStmt SelectClause TypeClause TypedArm TypedBlock TypedClause Fits Clause (TypeId → Clause) Fits Fits (Option TypeId → Clause) (fits_stmt a) (seen_select_clause a) (seen_type_clause a) (fits_arm a) (fits_block a) (seen_clause a) x)

  pub stmt_is : (x : TypedStmt-F TypedStmt SelectClause TypeClause TypedArm TypedBlock TypedClause) (w : Within) → fits_stmt a (roll-TypedStmt x) w ≡ layer_at x w
  unfolding fits_stmt seen_select_clause seen_type_clause fits_arm fits_block seen_clause
  stmt_is x w = ap (λ (f : Fits). f w) (fold-roll-TypedStmt Fits Clause (TypeId → Clause) Fits Fits (Option TypeId → Clause) (stmt_layer a) (select_clause_layer a) (type_clause_layer a) (arm_layer a) (block_layer a) (clause_layer a) x)

  -- ---- statements, by their form

  pub const_fits : (at : _) (w : Within) → fits_stmt a (stmts.Const at) w ≡ true
  const_fits at w = ap (λ (s : TypedStmt). fits_stmt a s w) (sym (stmts.rolls-Const at)) ∙ stmt_is (layers.TypedStmt-F.Const at) w

  pub type_decl_fits : (at : _) (w : Within) → fits_stmt a (stmts.TypeDecl at) w ≡ true
  type_decl_fits at w = ap (λ (s : TypedStmt). fits_stmt a s w) (sym (stmts.rolls-TypeDecl at)) ∙ stmt_is (layers.TypedStmt-F.TypeDecl at) w

  pub var_fits : (at variables values : _) (w : Within) → fits_stmt a (stmts.Var at variables values) w ≡ declares a variables.items values
  var_fits at variables values w = ap (λ (s : TypedStmt). fits_stmt a s w) (sym (stmts.rolls-Var at variables values)) ∙ stmt_is (layers.TypedStmt-F.Var at variables values) w

  pub labeled_fits : (at labels stmt : _) (w : Within) → fits_stmt a (stmts.Labeled at labels stmt) w ≡ optional_fits a stmt w
  labeled_fits at labels None w = ap (λ (s : TypedStmt). fits_stmt a s w) (sym (stmts.rolls-Labeled at labels None)) ∙ stmt_is (layers.TypedStmt-F.Labeled at labels None) w
  labeled_fits at labels (Some stmt) w = ap (λ (s : TypedStmt). fits_stmt a s w) (sym (stmts.rolls-Labeled at labels (Some stmt))) ∙ stmt_is (layers.TypedStmt-F.Labeled at labels (Some stmt)) w

  pub expr_fits : (at x : _) (w : Within) → fits_stmt a (stmts.Expr at x) w ≡ fits_expr a x
  expr_fits at x w = ap (λ (s : TypedStmt). fits_stmt a s w) (sym (stmts.rolls-Expr at x)) ∙ stmt_is (layers.TypedStmt-F.Expr at x) w

  pub send_fits : (at channel value : _) (w : Within) → fits_stmt a (stmts.Send at channel value) w ≡ sends a channel value
  send_fits at channel value w = ap (λ (s : TypedStmt). fits_stmt a s w) (sym (stmts.rolls-Send at channel value)) ∙ stmt_is (layers.TypedStmt-F.Send at channel value) w

  pub step_fits : (at place op one : _) (w : Within) → fits_stmt a (stmts.Step at place op one) w ≡ operates_on a op place one
  step_fits at place op one w = ap (λ (s : TypedStmt). fits_stmt a s w) (sym (stmts.rolls-Step at place op one)) ∙ stmt_is (layers.TypedStmt-F.Step at place op one) w

  pub assign_fits : (at targets values : _) (w : Within) → fits_stmt a (stmts.Assign at targets values) w ≡ assigns a targets.items values
  assign_fits at targets values w = ap (λ (s : TypedStmt). fits_stmt a s w) (sym (stmts.rolls-Assign at targets values)) ∙ stmt_is (layers.TypedStmt-F.Assign at targets values) w

  pub assign_op_fits : (at place op value : _) (w : Within) → fits_stmt a (stmts.AssignOp at place op value) w ≡ operates_on a op place value
  assign_op_fits at place op value w = ap (λ (s : TypedStmt). fits_stmt a s w) (sym (stmts.rolls-AssignOp at place op value)) ∙ stmt_is (layers.TypedStmt-F.AssignOp at place op value) w

  pub define_fits : (at targets values : _) (w : Within) → fits_stmt a (stmts.Define at targets values) w ≡ defines_with a targets.items values
  define_fits at targets values w = ap (λ (s : TypedStmt). fits_stmt a s w) (sym (stmts.rolls-Define at targets values)) ∙ stmt_is (layers.TypedStmt-F.Define at targets values) w

  pub go_fits : (at call : _) (w : Within) → fits_stmt a (stmts.Go at call) w ≡ is_call_of a call
  go_fits at call w = ap (λ (s : TypedStmt). fits_stmt a s w) (sym (stmts.rolls-Go at call)) ∙ stmt_is (layers.TypedStmt-F.Go at call) w

  pub defer_fits : (at call : _) (w : Within) → fits_stmt a (stmts.Defer at call) w ≡ is_call_of a call
  defer_fits at call w = ap (λ (s : TypedStmt). fits_stmt a s w) (sym (stmts.rolls-Defer at call)) ∙ stmt_is (layers.TypedStmt-F.Defer at call) w

  pub return_fits : (at values : _) (w : Within) → fits_stmt a (stmts.Return at values) w ≡ returns a values w.results
  return_fits at values w = ap (λ (s : TypedStmt). fits_stmt a s w) (sym (stmts.rolls-Return at values)) ∙ stmt_is (layers.TypedStmt-F.Return at values) w

  pub break_fits : (at levels : _) (w : Within) → fits_stmt a (stmts.Break at levels) w ≡ nat_lt levels w.breaks
  break_fits at levels w = ap (λ (s : TypedStmt). fits_stmt a s w) (sym (stmts.rolls-Break at levels)) ∙ stmt_is (layers.TypedStmt-F.Break at levels) w

  pub continue_fits : (at levels : _) (w : Within) → fits_stmt a (stmts.Continue at levels) w ≡ nat_lt levels w.continues
  continue_fits at levels w = ap (λ (s : TypedStmt). fits_stmt a s w) (sym (stmts.rolls-Continue at levels)) ∙ stmt_is (layers.TypedStmt-F.Continue at levels) w

  pub fallthrough_fits : (at : _) (w : Within) → fits_stmt a (stmts.Fallthrough at) w ≡ w.falls
  fallthrough_fits at w = ap (λ (s : TypedStmt). fits_stmt a s w) (sym (stmts.rolls-Fallthrough at)) ∙ stmt_is (layers.TypedStmt-F.Fallthrough at) w

  pub block_fits : (block : _) (w : Within) → fits_stmt a (stmts.Block block) w ≡ fits_block a block (in_block w)
  block_fits block w = ap (λ (s : TypedStmt). fits_stmt a s w) (sym (stmts.rolls-Block block)) ∙ stmt_is (layers.TypedStmt-F.Block block) w

  pub if_fits : (at arms otherwise : _) (w : Within) → fits_stmt a (stmts.If at arms otherwise) w ≡ arms_fit a arms.items w && otherwise_fits a otherwise w
  if_fits at arms None w = ap (λ (s : TypedStmt). fits_stmt a s w) (sym (stmts.rolls-If at arms None)) ∙ stmt_is (layers.TypedStmt-F.If at arms None) w ∙ ap (λ (b : Bool). b && otherwise_fits a None w) (list_all-map (λ (arm : Fits). arm w) (fits_arm a) arms.items)
  if_fits at arms (Some otherwise) w = ap (λ (s : TypedStmt). fits_stmt a s w) (sym (stmts.rolls-If at arms (Some otherwise))) ∙ stmt_is (layers.TypedStmt-F.If at arms (Some otherwise)) w ∙ ap (λ (b : Bool). b && otherwise_fits a (Some otherwise) w) (list_all-map (λ (arm : Fits). arm w) (fits_arm a) arms.items)

  pub for_fits : (at fresh init condition post body : _) (w : Within) → fits_stmt a (stmts.For at fresh init condition post body) w ≡ optional_fits a init (in_block w) && (is_condition_if a condition && (optional_fits a post (in_block w) && fits_block a body (in_loop w)))
  for_fits at fresh None condition None body w = ap (λ (s : TypedStmt). fits_stmt a s w) (sym (stmts.rolls-For at fresh None condition None body)) ∙ stmt_is (layers.TypedStmt-F.For at fresh None condition None body) w
  for_fits at fresh None condition (Some post) body w = ap (λ (s : TypedStmt). fits_stmt a s w) (sym (stmts.rolls-For at fresh None condition (Some post) body)) ∙ stmt_is (layers.TypedStmt-F.For at fresh None condition (Some post) body) w
  for_fits at fresh (Some init) condition None body w = ap (λ (s : TypedStmt). fits_stmt a s w) (sym (stmts.rolls-For at fresh (Some init) condition None body)) ∙ stmt_is (layers.TypedStmt-F.For at fresh (Some init) condition None body) w
  for_fits at fresh (Some init) condition (Some post) body w = ap (λ (s : TypedStmt). fits_stmt a s w) (sym (stmts.rolls-For at fresh (Some init) condition (Some post) body)) ∙ stmt_is (layers.TypedStmt-F.For at fresh (Some init) condition (Some post) body) w

  pub range_fits : (at fresh over operand targets body : _) (w : Within) → fits_stmt a (stmts.Range at fresh over operand targets body) w ≡ ranges a over (seen a operand) targets && fits_block a body (in_loop w)
  range_fits at fresh over operand targets body w = ap (λ (s : TypedStmt). fits_stmt a s w) (sym (stmts.rolls-Range at fresh over operand targets body)) ∙ stmt_is (layers.TypedStmt-F.Range at fresh over operand targets body) w

  -- ---- their parts

  statements_are : (xs : List TypedStmt) (w : Within) → all_of (map (fits_stmt a) xs) w ≡ fit_in_turn a xs w
  statements_are [] w = refl
  statements_are (x ∷ []) w = refl
  statements_are (x ∷ (y ∷ ys)) w = ap (λ (b : Bool). fits_stmt a x (in_block w) && b) (statements_are (y ∷ ys) w)

  pub block_is : (x : TypedBlock) (w : Within) → fits_block a x w ≡ fit_in_turn a x.statements.items w
  unfolding fits_stmt seen_select_clause seen_type_clause fits_arm fits_block seen_clause
  block_is x w = ap (λ (f : Fits). f w) (fold-roll-TypedBlock Fits Clause (TypeId → Clause) Fits Fits (Option TypeId → Clause) (stmt_layer a) (select_clause_layer a) (type_clause_layer a) (arm_layer a) (block_layer a) (clause_layer a) (record { at = x.at; «end» = x.«end»; statements = x.statements })) ∙ statements_are x.statements.items w

  arm_parts : (at : _) (init : Option (Box TypedStmt)) (condition : _) (body : _) (w : Within) → fits_arm a (record { at = at; init = init; condition = condition; body = body }) w ≡ optional_fits a init (in_block w) && (is_condition a condition && fits_block a body (in_block w))
  unfolding fits_stmt seen_select_clause seen_type_clause fits_arm fits_block seen_clause
  arm_parts at None condition body w = ap (λ (f : Fits). f w) (fold-roll-TypedArm Fits Clause (TypeId → Clause) Fits Fits (Option TypeId → Clause) (stmt_layer a) (select_clause_layer a) (type_clause_layer a) (arm_layer a) (block_layer a) (clause_layer a) (record { at = at; init = None; condition = condition; body = body }))
  arm_parts at (Some init) condition body w = ap (λ (f : Fits). f w) (fold-roll-TypedArm Fits Clause (TypeId → Clause) Fits Fits (Option TypeId → Clause) (stmt_layer a) (select_clause_layer a) (type_clause_layer a) (arm_layer a) (block_layer a) (clause_layer a) (record { at = at; init = Some init; condition = condition; body = body }))

  pub arm_is : (x : TypedArm) (w : Within) → fits_arm a x w ≡ optional_fits a x.init (in_block w) && (is_condition a x.condition && fits_block a x.body (in_block w))
  arm_is x w = arm_parts x.at x.init x.condition x.body w

  pub clause_is : (x : TypedClause) (tag : Option TypeId) → seen_clause a x tag ≡ record { is_default = x.is_default; body = fits_block a x.body; cases = has_cases a tag x }
  unfolding fits_stmt seen_select_clause seen_type_clause fits_arm fits_block seen_clause
  clause_is x tag = ap (λ (k : Option TypeId → Clause). k tag) (fold-roll-TypedClause Fits Clause (TypeId → Clause) Fits Fits (Option TypeId → Clause) (stmt_layer a) (select_clause_layer a) (type_clause_layer a) (arm_layer a) (block_layer a) (clause_layer a) (record { at = x.at; is_default = x.is_default; cases = x.cases; body = x.body }))

  pub type_clause_is : (x : TypeClause) (operand : TypeId) → seen_type_clause a x operand ≡ record { is_default = x.is_default; body = fits_block a x.body; cases = has_type_cases a operand x }
  unfolding fits_stmt seen_select_clause seen_type_clause fits_arm fits_block seen_clause
  type_clause_is x operand = ap (λ (k : TypeId → Clause). k operand) (fold-roll-TypeClause Fits Clause (TypeId → Clause) Fits Fits (Option TypeId → Clause) (stmt_layer a) (select_clause_layer a) (type_clause_layer a) (arm_layer a) (block_layer a) (clause_layer a) (record { at = x.at; is_default = x.is_default; cases = x.cases; variable = x.variable; body = x.body }))

  pub select_clause_is : (x : SelectClause) → seen_select_clause a x ≡ record { is_default = is_default_comm a x.comm; body = fits_block a x.body; cases = communicates a x.comm }
  unfolding fits_stmt seen_select_clause seen_type_clause fits_arm fits_block seen_clause
  select_clause_is x = fold-roll-SelectClause Fits Clause (TypeId → Clause) Fits Fits (Option TypeId → Clause) (stmt_layer a) (select_clause_layer a) (type_clause_layer a) (arm_layer a) (block_layer a) (clause_layer a) (record { at = x.at; comm = x.comm; body = x.body })
