-- Statements: what is put in the place of one. Go specification, "Statements".
use Rattle.std.specs.Prelude.{ℕ, zero, suc, ◌+◌, Bool, true, false, List, [], ◌∷◌, ◌++◌, map}
use Rattle.std.specs.Prelude.{Option, Some, None, option_map}
use Rattle.std.specs.List.{flat_map}
use Rattle.std.specs.Option.{option_map_or}
use Rattle.std.specs.Global.{Box}
use Rattle.go_base.specs.declared.ids.TypeId.{TypeId}
use Rattle.go_base.specs.declared.ids.VarId.{VarId}
use Rattle.go_tree.specs.declared.exprs.Callee.{Callee}
use Rattle.go_tree.specs.declared.exprs.Callee.TheOpen as expr_layers
use Rattle.go_tree.specs.declared.exprs.Callee.TheViews.{out-ExprKind, out-Callee}
use Rattle.go_tree.specs.declared.exprs.Elements.{Elements}
use Rattle.go_tree.specs.declared.exprs.EntryInit.{EntryInit}
use Rattle.go_tree.specs.declared.exprs.ExprKind.{ExprKind}
use Rattle.go_tree.specs.declared.exprs.FieldInit.{FieldInit}
use Rattle.go_tree.specs.declared.exprs.ItemInit.{ItemInit}
use Rattle.go_tree.specs.declared.exprs.TypedExpr.{TypedExpr}
use Rattle.go_tree.specs.declared.exprs.Values.{Values}
use Rattle.go_tree.specs.declared.program.InitStep.{InitStep}
use Rattle.go_tree.specs.declared.program.Program.{Program}
use Rattle.go_tree.specs.declared.stmts.Comm.{Comm}
use Rattle.go_tree.specs.declared.stmts.Comm.TheVariants as comm
use Rattle.go_tree.specs.declared.stmts.DefineTarget.{DefineTarget}
use Rattle.go_tree.specs.declared.stmts.DefineTarget.TheVariants as define
use Rattle.go_tree.specs.declared.stmts.RangeOver.{RangeOver}
use Rattle.go_tree.specs.declared.stmts.RangeOver.TheVariants as over_of
use Rattle.go_tree.specs.declared.stmts.SelectClause.{SelectClause}
use Rattle.go_tree.specs.declared.stmts.Target.{Target}
use Rattle.go_tree.specs.declared.stmts.Target.TheVariants as target
use Rattle.go_tree.specs.declared.stmts.TypeCase.{TypeCase}
use Rattle.go_tree.specs.declared.stmts.TypeClause.{TypeClause}
use Rattle.go_tree.specs.declared.stmts.TypedArm.{TypedArm}
use Rattle.go_tree.specs.declared.stmts.TypedBlock.{TypedBlock}
use Rattle.go_tree.specs.declared.stmts.TypedCase.{TypedCase}
use Rattle.go_tree.specs.declared.stmts.TypedClause.{TypedClause}
use Rattle.go_tree.specs.declared.stmts.TypedStmt.{TypedStmt}
use Rattle.go_tree.specs.declared.stmts.TypedStmt.TheOpen as layers
use Rattle.go_tree.specs.declared.stmts.TypedStmt.TheViews.{out-TypedStmt}
use Rattle.go_type.specs.Kinds.{kind_of}
use Rattle.go_type.specs.declared.operators.BinaryOp.{BinaryOp}
use Rattle.ssa_ir.specs.declared.ops.Infix.TheVariants as infix_of
use Rattle.go_mean.specs.Expressions.{values_pieces, calling_in, call_with, built_in_of}
use Rattle.go_mean.specs.Places.{shape, count_into, rooted_at, variable_at}
use Rattle.go_mean.specs.State.{Into, at_place, at_new, at_blank, of_variable, Manner, deferring, going, Loop}
use Rattle.go_mean.specs.State.{Test, Piece, evaluate, operands, binary, simple, send, put, put_zero, get}
use Rattle.go_mean.specs.State.{give}
use Rattle.go_mean.specs.State.{branch, hold_tag, no_tag, hold_operand, enter_loop, enter_range, select, Later, rest}
use Rattle.go_mean.specs.State.{leave}
use Rattle.go_mean.specs.State.{drop as drops, leave_clause, behind_body, next_turn}

-- what stands for a statement: pieces, and what is left to do behind them; a statement that leaves others
pub data Begun : Type 0 where
  does : List Piece → Begun
  opens : List Later → Begun
  breaks : ℕ → Begun
  continues : ℕ → Begun
  falls_through : Begun
  begins_nothing : Begun

-- ---- "Assignment statements": the operands of the left sides, then the values, and then one after another is set

abbrev pub into_target : Program → Target → Into
into_target p (target.Place place) = at_place (shape p.types place)
into_target p target.Blank = at_blank

abbrev pub target_operands : Target → List Piece
target_operands (target.Place place) = operands place ∷ []
target_operands target.Blank = []

abbrev pub operand_total : List Into → ℕ
operand_total [] = 0
operand_total (it ∷ others) = count_into it + operand_total others

-- the value of one stands behind the operands of those that follow
abbrev pub put_all : List Into → List Piece
put_all [] = []
put_all (it ∷ others) = put it (operand_total others) ∷ put_all others

abbrev pub assigns : Program → List Target → List Piece → List Piece
assigns p targets values = flat_map target_operands targets ++ (values ++ put_all (map (into_target p) targets))

-- `x op= y`
abbrev pub operates : Program → TypedExpr → BinaryOp → TypedExpr → List Piece
operates p place op it =
    operands place ∷ get (shape p.types place) ∷ evaluate it
    ∷ binary (infix_of.Operate op) (kind_of p.types place.of) ∷ put (at_place (shape p.types place)) 0 ∷ []

-- ---- "Short variable declarations" and "Variable declarations"

abbrev pub old_variable : TypeId → VarId → Into
old_variable of v = at_place (rooted_at (of_variable v) of)

abbrev pub into_old : Program → VarId → Into
into_old p v = option_map_or (λ variable. old_variable variable.of v) (variable_at p v) at_blank

abbrev pub into_define : Program → DefineTarget → Into
into_define p (define.New v) = at_new v
into_define p (define.Old v) = into_old p v
into_define p define.Blank = at_blank

abbrev pub defines : Program → List DefineTarget → Values → List Piece
defines p targets values = values_pieces values ++ put_all (map (into_define p) targets)

abbrev pub declares : List VarId → Option Values → List Piece
declares vs None = map put_zero vs
declares vs (Some values) = values_pieces values ++ put_all (map at_new vs)

-- "Package initialization": variables get their values
abbrev pub initialises : Program → InitStep → List Piece
initialises p step = values_pieces step.values ++ put_all (map (into_old p) step.variables)

-- ---- "Go statements" and "Defer statements": the operands are evaluated as in a call

abbrev pub where_pieces : Option (List Piece) → Begun
where_pieces (Some pieces) = does pieces
where_pieces None = begins_nothing

abbrev pub puts_off :
    Program → Manner → TypedExpr
    → expr_layers.ExprKind-F Callee Elements ExprKind Values EntryInit FieldInit ItemInit TypedExpr → Begun
puts_off p manner x (expr_layers.ExprKind-F.CallOf callee arguments) =
    does (call_with manner (calling_in p (out-Callee callee)) arguments x.at)
puts_off p manner x (expr_layers.ExprKind-F.BuiltinOf it form arguments spread) =
    where_pieces (option_map (λ pieces. map evaluate arguments.items ++ pieces)
    (built_in_of p manner it x.of form arguments.items spread x.at))
puts_off p manner x _ = begins_nothing

-- ---- "If statements"

abbrev pub init_pieces : Option (Box TypedStmt) → List Piece
init_pieces None = []
init_pieces (Some stmt) = simple stmt.value ∷ []

abbrev pub block_in : Option TypedBlock → List Later
block_in None = []
block_in (Some block) = rest block.statements.items ∷ leave ∷ []

abbrev pub arm_pieces : TypedArm → List TypedArm → Option TypedBlock → List Piece
arm_pieces arm arms otherwise =
    init_pieces arm.init ++ evaluate arm.condition ∷ branch arm.body arms otherwise ∷ []

-- the first arm, or else the block behind the last `else`
abbrev pub begins_arms : List TypedArm → Option TypedBlock → Begun
begins_arms [] otherwise = opens (block_in otherwise)
begins_arms (arm ∷ arms) otherwise = does (arm_pieces arm arms otherwise)

-- ---- "Switch statements"

abbrev pub tag_pieces : Option TypedExpr → List TypedClause → List Piece
tag_pieces None clauses = no_tag clauses ∷ []
tag_pieces (Some tag) clauses = evaluate tag ∷ hold_tag tag.of clauses ∷ []

abbrev pub numbered : {A : Type 0} → ℕ → List A → List (Test A)
numbered n xs = map (λ x. record { clause = n; case = x }) xs

-- the cases of all clauses, in the order in which they are written
abbrev pub tests_from : ℕ → List TypedClause → List (Test TypedCase)
tests_from n [] = []
tests_from n (clause ∷ clauses) = numbered n clause.cases.items ++ tests_from (suc n) clauses

abbrev pub type_tests_from : ℕ → List TypeClause → List (Test TypeCase)
type_tests_from n [] = []
type_tests_from n (clause ∷ clauses) = numbered n clause.cases.items ++ type_tests_from (suc n) clauses

-- ---- "For statements"

abbrev pub new_variables : List DefineTarget → List VarId
new_variables [] = []
new_variables (define.New v ∷ targets) = v ∷ new_variables targets
new_variables (_ ∷ targets) = new_variables targets

abbrev pub declared_in :
    layers.TypedStmt-F TypedStmt SelectClause TypeClause TypedArm TypedBlock TypedClause → List VarId
declared_in (layers.TypedStmt-F.Define at targets values) = new_variables targets.items
declared_in _ = []

-- the variables that each turn of a loop has anew
abbrev pub fresh_variables : Bool → Option (Box TypedStmt) → List VarId
fresh_variables true (Some init) = declared_in (out-TypedStmt init.value)
fresh_variables _ init = []

abbrev pub loop_of : Bool → Option (Box TypedStmt) → Option TypedExpr → Option (Box TypedStmt) → TypedBlock → Loop
loop_of fresh init condition post body =
    record {
      condition = condition;
      post = option_map (λ (it : Box TypedStmt). it.value) post;
      fresh = fresh_variables fresh init;
      body = body;
    }

-- a range over a constant number of turns does not evaluate its operand
abbrev pub range_operand : RangeOver → TypedExpr → List Piece
range_operand (over_of.Constant len) operand = []
range_operand over operand = evaluate operand ∷ []

-- ---- "Select statements": channels, and values to be sent, are evaluated once, in source order

abbrev pub comm_pieces : Comm → List Piece
comm_pieces comm.Default = []
comm_pieces (comm.Send channel value) = evaluate channel ∷ evaluate value ∷ []
comm_pieces (comm.Receive channel into) = evaluate channel ∷ []

-- ---- "Return statements"

abbrev pub returns : Option Values → List Piece
returns None = give false ∷ []
returns (Some values) = values_pieces values ++ give true ∷ []

-- ---- the statements

abbrev pub begun_as :
    Program → layers.TypedStmt-F TypedStmt SelectClause TypeClause TypedArm TypedBlock TypedClause → Begun
begun_as p (layers.TypedStmt-F.Const at) = does []
begun_as p (layers.TypedStmt-F.TypeDecl at) = does []
begun_as p (layers.TypedStmt-F.Var at variables values) = does (declares variables.items values)
begun_as p (layers.TypedStmt-F.Labeled at labels None) = does []
begun_as p (layers.TypedStmt-F.Labeled at labels (Some stmt)) = opens (rest (stmt.value ∷ []) ∷ [])
begun_as p (layers.TypedStmt-F.Expr at x) = does (evaluate x ∷ drops ∷ [])
begun_as p (layers.TypedStmt-F.Send at channel value) = does (evaluate channel ∷ evaluate value ∷ send ∷ [])
begun_as p (layers.TypedStmt-F.Step at place op one) = does (operates p place op one)
begun_as p (layers.TypedStmt-F.Assign at targets values) = does (assigns p targets.items (values_pieces values))
begun_as p (layers.TypedStmt-F.AssignOp at place op value) = does (operates p place op value)
begun_as p (layers.TypedStmt-F.Define at targets values) = does (defines p targets.items values)
begun_as p (layers.TypedStmt-F.Go at call) = puts_off p going call (out-ExprKind call.kind)
begun_as p (layers.TypedStmt-F.Defer at call) = puts_off p deferring call (out-ExprKind call.kind)
begun_as p (layers.TypedStmt-F.Return at values) = does (returns values)
begun_as p (layers.TypedStmt-F.Break at levels) = breaks levels
begun_as p (layers.TypedStmt-F.Continue at levels) = continues levels
begun_as p (layers.TypedStmt-F.Fallthrough at) = falls_through
begun_as p (layers.TypedStmt-F.Block block) = opens (rest block.statements.items ∷ [])
begun_as p (layers.TypedStmt-F.If at arms otherwise) = begins_arms arms.items otherwise
begun_as p (layers.TypedStmt-F.Switch at init tag clauses «end») =
    does (init_pieces init ++ tag_pieces tag clauses.items)
begun_as p (layers.TypedStmt-F.TypeSwitch at init operand clauses «end») =
    does (init_pieces init ++ evaluate operand ∷ hold_operand operand.of clauses.items ∷ [])
begun_as p (layers.TypedStmt-F.Select at clauses «end») =
    does (flat_map (λ (it : SelectClause). comm_pieces it.comm) clauses.items ++ select clauses.items ∷ [])
begun_as p (layers.TypedStmt-F.For at fresh init condition post body) =
    does (init_pieces init ++ enter_loop (loop_of fresh init condition post body) ∷ [])
begun_as p (layers.TypedStmt-F.Range at fresh over operand targets body) =
    does (range_operand over operand
    ++ enter_range (record { over = over; operand = operand; targets = targets; fresh = fresh; body = body }) ∷ [])

unfoldable pub begun : Program → TypedStmt → Begun
begun p stmt = begun_as p (out-TypedStmt stmt)

-- a simple statement is pieces alone
abbrev pub pieces_begun : Begun → Option (List Piece)
pieces_begun (does pieces) = Some pieces
pieces_begun _ = None

abbrev pub simple_pieces : Program → TypedStmt → Option (List Piece)
simple_pieces p stmt = pieces_begun (begun p stmt)

-- ---- "Break statements", "Continue statements" and "Fallthrough statements": what is left to do when so many
-- switches,
-- selects and loops, or so many loops, are left

-- behind a body, a loop goes on to its next turn; `post` stands before that
abbrev pub post_pieces : Option TypedStmt → List Piece
post_pieces None = []
post_pieces (Some stmt) = simple stmt ∷ []

abbrev pub broken_to : ℕ → List Later → Option (List Later)
broken_to n (rest stmts ∷ later) = broken_to n later
broken_to n (leave ∷ later) = broken_to n later
broken_to zero (leave_clause bodies ∷ later) = Some later
broken_to (suc n) (leave_clause bodies ∷ later) = broken_to n later
broken_to zero (behind_body loop ∷ later) = Some later
broken_to (suc n) (behind_body loop ∷ later) = broken_to n later
broken_to zero (next_turn loop at ∷ later) = Some later
broken_to (suc n) (next_turn loop at ∷ later) = broken_to n later
broken_to n _ = None

-- the loop that is continued stands first
abbrev pub continued_to : ℕ → List Later → Option (List Later)
continued_to n (rest stmts ∷ later) = continued_to n later
continued_to n (leave ∷ later) = continued_to n later
continued_to n (leave_clause bodies ∷ later) = continued_to n later
continued_to zero (behind_body loop ∷ later) = Some (behind_body loop ∷ later)
continued_to (suc n) (behind_body loop ∷ later) = continued_to n later
continued_to zero (next_turn loop at ∷ later) = Some (next_turn loop at ∷ later)
continued_to (suc n) (next_turn loop at ∷ later) = continued_to n later
continued_to n _ = None

-- the body of the next clause
abbrev pub fallen_to : List Later → Option (List Later)
fallen_to (rest stmts ∷ later) = fallen_to later
fallen_to (leave_clause (body ∷ bodies) ∷ later) = Some (rest body.statements.items ∷ leave_clause bodies ∷ later)
fallen_to _ = None
