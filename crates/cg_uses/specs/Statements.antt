-- What stands in a statement. A line for each form.
use Rattle.std.specs.Prelude.{ℕ, List, [], ◌∷◌, ◌++◌, Option, Some, None, flat_map, if◌then◌else◌, slice_get}
use Rattle.std.specs.Global.{Box}
use Rattle.go_base.specs.declared.ids.FuncId.{FuncId}
use Rattle.go_base.specs.declared.ids.TypeId.{TypeId}
use Rattle.go_base.specs.declared.ids.VarId.{VarId}
use Rattle.go_tree.specs.declared.exprs.Callee.{Callee}
use Rattle.go_tree.specs.declared.exprs.Callee.TheOpen as expr_layers
use Rattle.go_tree.specs.declared.exprs.Callee.TheViews.{out-ExprKind}
use Rattle.go_tree.specs.declared.exprs.Elements.{Elements}
use Rattle.go_tree.specs.declared.exprs.EntryInit.{EntryInit}
use Rattle.go_tree.specs.declared.exprs.ExprKind.{ExprKind}
use Rattle.go_tree.specs.declared.exprs.FieldInit.{FieldInit}
use Rattle.go_tree.specs.declared.exprs.ItemInit.{ItemInit}
use Rattle.go_tree.specs.declared.exprs.TypedExpr.{TypedExpr}
use Rattle.go_tree.specs.declared.exprs.Values.{Values}
use Rattle.go_tree.specs.declared.stmts.TypedStmt.{TypedStmt}
use Rattle.go_tree.specs.declared.stmts.SelectClause.{SelectClause}
use Rattle.go_tree.specs.declared.stmts.TypeClause.{TypeClause}
use Rattle.go_tree.specs.declared.stmts.TypedArm.{TypedArm}
use Rattle.go_tree.specs.declared.stmts.TypedBlock.{TypedBlock}
use Rattle.go_tree.specs.declared.stmts.TypedClause.{TypedClause}
use Rattle.go_tree.specs.declared.stmts.Target.{Target}
use Rattle.go_tree.specs.declared.stmts.DefineTarget.{DefineTarget}
use Rattle.go_tree.specs.declared.stmts.Comm.{Comm}
use Rattle.go_tree.specs.declared.stmts.ReceiveInto.{ReceiveInto}
use Rattle.go_tree.specs.declared.stmts.RangeTargets.{RangeTargets}
use Rattle.go_tree.specs.declared.stmts.TypeCase.{TypeCase}
use Rattle.go_tree.specs.declared.stmts.TypedCase.{TypedCase}
use Rattle.go_tree.specs.declared.stmts.Target.TheVariants as target
use Rattle.go_tree.specs.declared.stmts.DefineTarget.TheVariants as defined_of
use Rattle.go_tree.specs.declared.stmts.TypeCase.TheVariants as case_of
use Rattle.go_tree.specs.declared.stmts.Comm.TheVariants as comm_of
use Rattle.go_tree.specs.declared.stmts.ReceiveInto.TheVariants as into_of
use Rattle.go_tree.specs.declared.stmts.RangeTargets.TheVariants as range_of
use Rattle.go_tree.specs.declared.stmts.TypedStmt.TheOpen as layers
use Rattle.go_tree.specs.declared.stmts.TypedStmt.TheFolds.{fold-TypedStmt, fold-SelectClause, fold-TypeClause}
use Rattle.go_tree.specs.declared.stmts.TypedStmt.TheFolds.{fold-TypedArm, fold-TypedBlock, fold-TypedClause}
use Rattle.go_tree.specs.declared.variables.Variable.{Variable}
use Rattle.go_type.specs.Table.{Table}
use Rattle.cg_nodes.specs.declared.nodes.Mention.{Mention}
use Rattle.cg_nodes.specs.declared.nodes.Node.{Node}
use Rattle.cg_nodes.specs.declared.nodes.Node.TheVariants as node_of
use Rattle.cg_nodes.specs.declared.nodes.Parts.{Parts}
use Rattle.cg_nodes.specs.declared.nodes.Parts.TheVariants as parts_of
use Rattle.cg_nodes.specs.Kinds.{is_interface, is_function}
use Rattle.cg_nodes.specs.Places.{flow, carrying, part_node, range_parts, each_from, each_pair}
use Rattle.cg_nodes.specs.Uses.{Seen, SeenValues, uses_of, stored_key, boxed_uses, seen_expr, seen_values, seen_all}

-- the function that a statement stands in, with the variables of its results, and all types and variables
pub record Setting : Type 0 where
  pub types : Table
  pub variables : List Variable
  pub function : FuncId
  pub results : List VarId

abbrev pub uses_in_some : {A : Type 0} → (A → List Mention) → Option A → List Mention
uses_in_some f None = []
uses_in_some f (Some x) = f x

-- the lists of parts that may be lacking, and of several parts
abbrev pub if_there : Option (Box (List Mention)) → List Mention
if_there part = uses_in_some (λ (y : Box (List Mention)). y.value) part

abbrev pub if_given : Option (List Mention) → List Mention
if_given part = uses_in_some (λ (y : List Mention). y) part

abbrev pub joined : List (List Mention) → List Mention
joined parts = flat_map (λ (y : List Mention). y) parts

module _ (s : Setting) where
  abbrev pub expr : TypedExpr → Seen
  expr x = seen_expr s.types x

  abbrev pub uses_here : TypedExpr → List Mention
  uses_here x = (expr x).uses parts_of.Nothing

  abbrev pub node_here : TypedExpr → Node
  node_here x = (expr x).node parts_of.Nothing

  -- ---- variables

  abbrev pub node_of_type : VarId → TypeId → Node
  node_of_type v id = carrying s.types id (node_of.Variable v)

  abbrev pub node_of_variable : VarId → Option Variable → Node
  node_of_variable v None = node_of.Nothing
  node_of_variable v (Some d) = node_of_type v d.of

  abbrev pub variable_node : VarId → Node
  variable_node v = node_of_variable v (slice_get s.variables v.number)

  abbrev pub part_of_variable : Parts → ℕ → Option Variable → Node
  part_of_variable p index None = node_of.Nothing
  part_of_variable p index (Some d) = part_node s.types p index d.of

  -- the node of a part that becomes the value of a variable
  abbrev pub part_for : Parts → ℕ → VarId → Node
  part_for p index v = part_of_variable p index (slice_get s.variables v.number)

  -- a part becomes the value of a variable
  unfoldable pub defines : Parts → ℕ → VarId → List Mention
  defines p index v = flow (part_for p index v) (variable_node v)

  unfoldable pub initialises_one : Parts → VarId → Seen → List Mention
  initialises_one p v x = flow (x.node p) (variable_node v)

  abbrev pub initialises_all : Parts → List VarId → List Seen → List Mention
  initialises_all p variables xs = each_pair (initialises_one p) variables xs

  -- the first values of variables
  unfoldable pub initialises : List VarId → SeenValues → List Mention
  initialises variables values =
      values.uses parts_of.Nothing ++ initialises_all (values.parts parts_of.Nothing) variables values.exprs

  -- variables with first values, where they are given any
  unfoldable pub declares : List VarId → Option Values → List Mention
  declares variables values = uses_in_some (λ (x : Values). initialises variables (seen_values s.types x)) values

  abbrev pub initialises_any : Parts → Seen → Option VarId → List Mention
  initialises_any p x v = uses_in_some (λ (v : VarId). initialises_one p v x) v

  -- ---- results

  abbrev pub result_variable : ℕ → Node → List Mention
  result_variable index from = uses_in_some (λ (v : VarId). flow from (variable_node v)) (slice_get s.results index)

  -- what is returned is a result, and the value of the result's variable
  abbrev pub gives : Parts → ℕ → Seen → List Mention
  gives p index x = flow (x.node p) (node_of.Returned s.function index) ++ result_variable index (x.node p)

  abbrev pub gives_all : Parts → List Seen → List Mention
  gives_all p xs = each_from (gives p) 0 xs

  unfoldable pub returns : SeenValues → List Mention
  returns values = values.uses parts_of.Nothing ++ gives_all (values.parts parts_of.Nothing) values.exprs

  unfoldable pub returns_any : Option Values → List Mention
  returns_any values = uses_in_some (λ (x : Values). returns (seen_values s.types x)) values

  -- ---- stores

  unfoldable pub sends : TypedExpr → TypedExpr → List Mention
  sends channel value = uses_here channel ++ (uses_here value ++ flow (node_here value) (node_of.Chan (expr value).of))

  abbrev pub stored_with : expr_layers.ExprKind-F Callee Elements ExprKind Values EntryInit FieldInit ItemInit TypedExpr
      → List Mention
  stored_with (expr_layers.ExprKind-F.MapIndex table key comma_ok) = stored_key parts_of.Nothing (expr key.value)
  stored_with _ = []

  -- a place that is stored to; an element of a map is stored with its key
  unfoldable pub stores_to : TypedExpr → List Mention
  stores_to x = uses_here x ++ stored_with (out-ExprKind x.kind)

  unfoldable pub in_target : Target → List Mention
  in_target (target.Place place) = stores_to place
  in_target target.Blank = []

  abbrev pub in_targets : List Target → List Mention
  in_targets targets = flat_map in_target targets

  unfoldable pub assigns_one : Parts → Target → Seen → List Mention
  assigns_one p (target.Place place) x = flow (x.node p) (node_here place)
  assigns_one p target.Blank x = []

  abbrev pub assigns : Parts → List Target → List Seen → List Mention
  assigns p targets xs = each_pair (assigns_one p) targets xs

  abbrev pub assigns_any : Parts → Seen → Option Target → List Mention
  assigns_any p x t = uses_in_some (λ (t : Target). assigns_one p t x) t

  -- the places are evaluated first
  unfoldable pub assigns_all : List Target → SeenValues → List Mention
  assigns_all targets values =
      in_targets targets
      ++ (values.uses parts_of.Nothing ++ assigns (values.parts parts_of.Nothing) targets values.exprs)

  unfoldable pub defined : DefineTarget → Node
  defined (defined_of.New v) = variable_node v
  defined (defined_of.Old v) = variable_node v
  defined defined_of.Blank = node_of.Nothing

  unfoldable pub defines_from : Parts → DefineTarget → Seen → List Mention
  defines_from p t x = flow (x.node p) (defined t)

  abbrev pub defines_any : Parts → Seen → Option DefineTarget → List Mention
  defines_any p x t = uses_in_some (λ (t : DefineTarget). defines_from p t x) t

  abbrev pub defines_all : Parts → List DefineTarget → List Seen → List Mention
  defines_all p targets xs = each_pair (defines_from p) targets xs

  unfoldable pub defines_each : List DefineTarget → SeenValues → List Mention
  defines_each targets values =
      values.uses parts_of.Nothing ++ defines_all (values.parts parts_of.Nothing) targets values.exprs

  unfoldable pub defines_one : ℕ → DefineTarget → List Mention
  defines_one index (defined_of.New v) = defines parts_of.Received index v
  defines_one index (defined_of.Old v) = defines parts_of.Received index v
  defines_one index defined_of.Blank = []

  abbrev pub receives_all : List DefineTarget → List Mention
  receives_all targets = each_from defines_one 0 targets

  -- ---- clauses

  -- the tag is made a value of an interface where a case asks for it
  unfoldable pub boxed_tag : Option TypedExpr → TypedCase → List Mention
  boxed_tag None x = []
  boxed_tag (Some tag) x = uses_in_some (λ id. boxed_uses s.types parts_of.Nothing (expr tag)) x.tag_to

  abbrev pub in_case : Option TypedExpr → TypedCase → List Mention
  in_case tag x = uses_here x.value ++ boxed_tag tag x

  abbrev pub in_cases : Option TypedExpr → List TypedCase → List Mention
  in_cases tag cases = flat_map (in_case tag) cases

  -- what one type of a switch over types gives
  abbrev pub case_node : TypedExpr → TypeId → Node
  case_node operand id =
      if is_function s.types id then node_of.Boxed id
      else (if is_interface s.types id then node_here operand else node_of.Nothing)

  -- what a clause of a switch over types gives its variable: the values of its function type that were put into
  -- interfaces, the operand's where it has one interface type, `nil`, several types or none
  unfoldable pub clause_node : TypedExpr → List TypeCase → Node
  clause_node operand (case_of.Of id ∷ []) = case_node operand id
  clause_node operand _ = node_here operand

  abbrev pub binds : TypedExpr → List TypeCase → VarId → List Mention
  binds operand cases v = flow (clause_node operand cases) (variable_node v)

  unfoldable pub binds_any : TypedExpr → List TypeCase → Option VarId → List Mention
  binds_any operand cases variable = uses_in_some (binds operand cases) variable

  unfoldable pub in_received : ReceiveInto → List Mention
  in_received into_of.Nothing = []
  in_received (into_of.Define targets) = receives_all targets.items
  in_received (into_of.Assign targets parts) =
      in_targets targets.items
      ++ (uses_of parts_of.Received (seen_all s.types parts.items)
      ++ assigns parts_of.Received targets.items (seen_all s.types parts.items))

  unfoldable pub in_comm : Comm → List Mention
  in_comm comm_of.Default = []
  in_comm (comm_of.Send channel value) = sends channel value
  in_comm (comm_of.Receive channel into) = uses_here channel ++ in_received into

  -- ---- ranges

  abbrev pub in_target_if : Option Target → List Mention
  in_target_if t = uses_in_some in_target t

  abbrev pub defines_if : Parts → ℕ → Option VarId → List Mention
  defines_if p index v = uses_in_some (defines p index) v

  unfoldable pub assigns_part : Parts → Option Target → Option TypedExpr → List Mention
  assigns_part p (Some t) (Some x) = assigns_one p t (expr x)
  assigns_part p _ _ = []

  unfoldable pub in_range_targets : Parts → RangeTargets → List Mention
  in_range_targets p range_of.None = []
  in_range_targets p (range_of.Define key value) = defines_if p 0 key ++ defines_if p 1 value
  in_range_targets p (range_of.Assign key value parts) =
      in_target_if key
      ++ (in_target_if value
      ++ (uses_of p (seen_all s.types parts.items)
      ++ (assigns_part p key (slice_get parts.items 0) ++ assigns_part p value (slice_get parts.items 1))))

  -- ---- one layer of each tree, where what is below it is seen already: a clause of a switch needs its tag, and one of
  -- a
  -- switch over types its operand

  abbrev pub stmt_layer :
      layers.TypedStmt-F (List Mention) (List Mention) (TypedExpr
      → List Mention) (List Mention) (List Mention) (Option TypedExpr → List Mention) → List Mention
  stmt_layer (layers.TypedStmt-F.Const at) = []
  stmt_layer (layers.TypedStmt-F.TypeDecl at) = []
  stmt_layer (layers.TypedStmt-F.Var at variables values) = declares variables.items values
  stmt_layer (layers.TypedStmt-F.Labeled at labels stmt) = if_there stmt
  stmt_layer (layers.TypedStmt-F.Expr at x) = uses_here x
  stmt_layer (layers.TypedStmt-F.Send at channel value) = sends channel value
  stmt_layer (layers.TypedStmt-F.Step at place op one) = stores_to place ++ uses_here one
  stmt_layer (layers.TypedStmt-F.Assign at targets values) = assigns_all targets.items (seen_values s.types values)
  stmt_layer (layers.TypedStmt-F.AssignOp at place op value) = stores_to place ++ uses_here value
  stmt_layer (layers.TypedStmt-F.Define at targets values) = defines_each targets.items (seen_values s.types values)
  stmt_layer (layers.TypedStmt-F.Go at call) = uses_here call
  stmt_layer (layers.TypedStmt-F.Defer at call) = uses_here call
  stmt_layer (layers.TypedStmt-F.Return at values) = returns_any values
  stmt_layer (layers.TypedStmt-F.Break at levels) = []
  stmt_layer (layers.TypedStmt-F.Continue at levels) = []
  stmt_layer (layers.TypedStmt-F.Fallthrough at) = []
  stmt_layer (layers.TypedStmt-F.Block block) = block
  stmt_layer (layers.TypedStmt-F.If at arms otherwise) = joined arms.items ++ if_given otherwise
  stmt_layer (layers.TypedStmt-F.Switch at init tag clauses «end») =
      if_there init
      ++ (uses_in_some uses_here tag ++ flat_map (λ (y : Option TypedExpr → List Mention). y tag) clauses.items)
  stmt_layer (layers.TypedStmt-F.TypeSwitch at init operand clauses «end») =
      if_there init ++ (uses_here operand ++ flat_map (λ (y : TypedExpr → List Mention). y operand) clauses.items)
  stmt_layer (layers.TypedStmt-F.Select at clauses «end») = joined clauses.items
  stmt_layer (layers.TypedStmt-F.For at fresh init condition post body) =
      if_there init ++ (uses_in_some uses_here condition ++ (if_there post ++ body))
  stmt_layer (layers.TypedStmt-F.Range at fresh over operand targets body) =
      uses_here operand ++ (in_range_targets (range_parts over) targets ++ body)

  abbrev pub select_clause_layer :
      layers.SelectClause-F (List Mention) (List Mention) (TypedExpr
      → List Mention) (List Mention) (List Mention) (Option TypedExpr → List Mention) → List Mention
  select_clause_layer x = in_comm x.comm ++ x.body

  abbrev pub type_clause_layer :
      layers.TypeClause-F (List Mention) (List Mention) (TypedExpr
      → List Mention) (List Mention) (List Mention) (Option TypedExpr → List Mention) → TypedExpr → List Mention
  type_clause_layer x operand = binds_any operand x.cases.items x.variable ++ x.body

  abbrev pub arm_layer :
      layers.TypedArm-F (List Mention) (List Mention) (TypedExpr
      → List Mention) (List Mention) (List Mention) (Option TypedExpr → List Mention) → List Mention
  arm_layer x = if_there x.init ++ (uses_here x.condition ++ x.body)

  abbrev pub block_layer :
      layers.TypedBlock-F (List Mention) (List Mention) (TypedExpr
      → List Mention) (List Mention) (List Mention) (Option TypedExpr → List Mention) → List Mention
  block_layer x = joined x.statements.items

  abbrev pub clause_layer :
      layers.TypedClause-F (List Mention) (List Mention) (TypedExpr
      → List Mention) (List Mention) (List Mention) (Option TypedExpr → List Mention) → Option TypedExpr → List Mention
  clause_layer x tag = in_cases tag x.cases.items ++ x.body

  -- ---- whole trees

  unfoldable pub uses_in_block : TypedBlock → List Mention
  uses_in_block =
      fold-TypedBlock (List Mention) (List Mention) (TypedExpr
      → List Mention) (List Mention) (List Mention) (Option TypedExpr
      → List Mention) stmt_layer select_clause_layer type_clause_layer arm_layer block_layer clause_layer

  unfoldable pub uses_in_stmt : TypedStmt → List Mention
  uses_in_stmt =
      fold-TypedStmt (List Mention) (List Mention) (TypedExpr
      → List Mention) (List Mention) (List Mention) (Option TypedExpr
      → List Mention) stmt_layer select_clause_layer type_clause_layer arm_layer block_layer clause_layer

  unfoldable pub uses_in_select_clause : SelectClause → List Mention
  uses_in_select_clause =
      fold-SelectClause (List Mention) (List Mention) (TypedExpr
      → List Mention) (List Mention) (List Mention) (Option TypedExpr
      → List Mention) stmt_layer select_clause_layer type_clause_layer arm_layer block_layer clause_layer

  unfoldable pub uses_in_type_clause : TypeClause → TypedExpr → List Mention
  uses_in_type_clause =
      fold-TypeClause (List Mention) (List Mention) (TypedExpr
      → List Mention) (List Mention) (List Mention) (Option TypedExpr
      → List Mention) stmt_layer select_clause_layer type_clause_layer arm_layer block_layer clause_layer

  unfoldable pub uses_in_arm : TypedArm → List Mention
  uses_in_arm =
      fold-TypedArm (List Mention) (List Mention) (TypedExpr
      → List Mention) (List Mention) (List Mention) (Option TypedExpr
      → List Mention) stmt_layer select_clause_layer type_clause_layer arm_layer block_layer clause_layer

  unfoldable pub uses_in_clause : TypedClause → Option TypedExpr → List Mention
  uses_in_clause =
      fold-TypedClause (List Mention) (List Mention) (TypedExpr
      → List Mention) (List Mention) (List Mention) (Option TypedExpr
      → List Mention) stmt_layer select_clause_layer type_clause_layer arm_layer block_layer clause_layer

  abbrev pub uses_in_optional : Option (Box TypedStmt) → List Mention
  uses_in_optional stmt = uses_in_some (λ (x : Box TypedStmt). uses_in_stmt x.value) stmt

  unfoldable pub clause_uses : Option TypedExpr → TypedClause → List Mention
  clause_uses tag x = uses_in_clause x tag

  unfoldable pub type_clause_uses : TypedExpr → TypeClause → List Mention
  type_clause_uses operand x = uses_in_type_clause x operand

  abbrev pub uses_if_given : Option TypedExpr → List Mention
  uses_if_given x = uses_in_some uses_here x

  abbrev pub uses_otherwise : Option TypedBlock → List Mention
  uses_otherwise block = uses_in_some uses_in_block block
