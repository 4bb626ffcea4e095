-- The state of a run of a program: goroutines of frames, what they share, and what is left of the choices and
-- the ticks. A frame holds what is still to be done of its body, one piece of syntax after another.
use Rattle.std.specs.Prelude.{ℕ, List, ◌∷◌, Option, Some, None, Bool, slice_get, slice_set}
use Rattle.go_base.specs.declared.ending.Ending.{Ending}
use Rattle.go_base.specs.declared.ids.FuncId.{FuncId}
use Rattle.go_base.specs.declared.ids.NameId.{NameId}
use Rattle.go_base.specs.declared.ids.TypeId.{TypeId}
use Rattle.go_base.specs.declared.ids.VarId.{VarId}
use Rattle.go_base.specs.declared.place.Pos.{Pos}
use Rattle.go_sched.specs.Goroutines.{State}
use Rattle.go_store.specs.Stores.{Stored}
use Rattle.go_tree.specs.declared.exprs.Method.{Method}
use Rattle.go_tree.specs.declared.exprs.TypedExpr.{TypedExpr}
use Rattle.go_tree.specs.declared.program.InitStep.{InitStep}
use Rattle.go_tree.specs.declared.program.Program.{Program}
use Rattle.go_tree.specs.declared.stmts.RangeOver.{RangeOver}
use Rattle.go_tree.specs.declared.stmts.RangeTargets.{RangeTargets}
use Rattle.go_tree.specs.declared.stmts.SelectClause.{SelectClause}
use Rattle.go_tree.specs.declared.stmts.TypeCase.{TypeCase}
use Rattle.go_tree.specs.declared.stmts.TypeClause.{TypeClause}
use Rattle.go_tree.specs.declared.stmts.TypedArm.{TypedArm}
use Rattle.go_tree.specs.declared.stmts.TypedBlock.{TypedBlock}
use Rattle.go_tree.specs.declared.stmts.TypedCase.{TypedCase}
use Rattle.go_tree.specs.declared.stmts.TypedClause.{TypedClause}
use Rattle.go_tree.specs.declared.stmts.TypedStmt.{TypedStmt}
use Rattle.go_type.specs.declared.kinds.IntKind.{IntKind}
use Rattle.go_type.specs.declared.operators.UnaryOp.{UnaryOp}
use Rattle.go_value.specs.Values.{Val, Typed}
use Rattle.go_value.specs.declared.address.Pointer.{Pointer}
use Rattle.go_value.specs.declared.faults.Fault.{Fault}
use Rattle.ssa_ir.specs.declared.ops.Infix.{Infix}
use Rattle.ssa_mean.specs.Answers.{Answers}
use Rattle.ssa_mean.specs.State.{BuiltIn, FrameState}

-- a program, and the answers to the questions about its types that a run asks
pub record Setting : Type 0 where
  pub program : Program
  pub answers : Answers

-- ---- places that are assigned to. Go specification, "Assignment statements": a root, whose operands and the indices
-- behind it are evaluated first

pub data Root : Type 0 where
  of_variable : VarId → Root
  -- what a pointer points to
  of_pointer : Root
  -- an element of a slice, by an index
  of_element : Root
  -- the entry of a map, by a key
  of_entry : Root
  -- what cannot be assigned to
  of_nothing : Root

-- a field, or an element of an array of a length
pub data Reach : Type 0 where
  to_field : ℕ → Reach
  to_item : ℕ → Reach

pub record Shape : Type 0 where
  pub root : Root
  -- the innermost last
  pub reach : List Reach
  pub of : TypeId

-- what gets a value: a place; a variable that is declared here; nothing, for `_`
pub data Into : Type 0 where
  at_place : Shape → Into
  at_new : VarId → Into
  at_blank : Into

-- ---- calls. Go specification, "Calls", "Go statements" and "Defer statements"

-- what a call names: a function, where the receiver of a method is its first argument; a method of an interface value,
-- or a function value, which stand before the arguments
pub data Called : Type 0 where
  by_function : FuncId → Called
  by_method : NameId → ℕ → Called
  by_value : Called

-- whether a call is made at once, deferred, or made by a new goroutine
pub data Manner : Type 0 where
  at_once : Manner
  deferring : Manner
  going : Manner

-- what is called: a function with the cells of its captured variables; a method of the interface value, or of the value
-- of a type, that is the first argument; a built-in function; a function value that is nil
pub data Callee : Type 0 where
  of_function : FuncId → List Pointer → Callee
  of_method : NameId → ℕ → Callee
  of_expression : TypeId → NameId → ℕ → Callee
  of_built_in : BuiltIn → Callee
  of_nil : Callee

-- a call whose operands are known, with the function that holds it and its place there
pub record Readied : Type 0 where
  pub callee : Callee
  pub arguments : List Val
  pub caller : FuncId
  pub site : Pos

-- a call of a run: a function, a method, a literal or a function of a built-in package is entered
pub record CallOf : Type 0 where
  pub caller : FuncId
  pub site : Pos
  pub callee : FuncId

-- ---- composite literals. Go specification, "Composite literals": where the elements go

pub data Making : Type 0 where
  -- the fields of a struct, by their numbers
  of_fields : List ℕ → Making
  -- the elements of an array, and those of a slice of a length, by their indices
  of_array : List ℕ → Making
  of_slice : ℕ → List ℕ → Making
  -- so many entries of a map
  of_map : ℕ → Making

-- ---- ranges. Go specification, "For statements with range clause"

pub record RangeLoop : Type 0 where
  pub over : RangeOver
  pub operand : TypedExpr
  pub targets : RangeTargets
  pub fresh : Bool
  pub body : TypedBlock

-- how far a range has come: so many turns over a value, and the next of them; over a string or a map, with its state;
-- over a channel
pub data Ranging : Type 0 where
  counting : Val → ℕ → ℕ → Ranging
  producing : Val → Ranging
  receiving : Val → Ranging

-- what a turn is about: an index of a value; a key and a value that were produced; a value that was received
pub data Turned : Type 0 where
  at_index : Val → ℕ → Turned
  produced : Val → Val → Turned
  received : Val → Turned

-- ---- loops and switches

pub record Loop : Type 0 where
  pub condition : Option TypedExpr
  pub post : Option TypedStmt
  -- the variables that each turn has anew
  pub fresh : List VarId
  pub body : TypedBlock

-- a test of a switch, and the number of its clause
pub record Test (A : Type 0) : Type 0 where
  pub clause : ℕ
  pub case : A

-- a switch whose tests from one on are still to be made
pub record Choosing (A B : Type 0) : Type 0 where
  -- the tag, or the operand of a switch over types, where there is one
  pub tag : Option Typed
  pub tests : List (Test A)
  pub clauses : List B

-- ---- what is left to do of a statement

pub data Piece : Type 0 where
  -- an expression: its value; the address of a place; the operands of a place that is assigned to
  evaluate : TypedExpr → Piece
  address : TypedExpr → Piece
  operands : TypedExpr → Piece
  -- addresses, of operands that were evaluated
  address_field : ℕ → Piece
  address_item : ℕ → Piece
  address_element : Piece
  check_pointer : Piece
  -- parts of values
  field : ℕ → Piece
  item : Piece
  load : Piece
  -- whether it is asked if there was an entry; the type of the map
  lookup : Bool → TypeId → Piece
  -- which of the three bounds are there; the length of the array that is sliced
  cut : Bool → Bool → Bool → Option ℕ → Piece
  -- operators
  unary : UnaryOp → Option IntKind → Piece
  binary : Infix → Option IntKind → Piece
  -- `&&` and `||`: the value that decides, and the right operand
  fork : Bool → TypedExpr → Piece
  join : Piece
  -- from one type to another
  convert : TypeId → TypeId → Piece
  to_interface : TypeId → Piece
  assert : TypeId → Bool → Piece
  bind : Method → Piece
  -- a tuple becomes the one whose parts are asked for
  hold : Piece
  -- the type of the channel, and whether it is asked if there was a value
  receive : TypeId → Bool → Piece
  -- a function literal that is called where it stands
  literal : FuncId → Piece
  -- a literal whose address is taken has a variable of its own
  make_literal : Making → TypeId → Bool → Piece
  make_slice : TypeId → Bool → Piece
  make_map : TypeId → Bool → Piece
  make_chan : TypeId → Bool → Piece
  new_variable : TypeId → Piece
  -- the length of an array, whose value was evaluated
  counted : ℕ → Piece
  -- calls of so many arguments
  call : Manner → Called → ℕ → Pos → Piece
  built_in : Manner → BuiltIn → ℕ → Pos → Piece
  -- statements
  simple : TypedStmt → Piece
  drop : Piece
  send : Piece
  -- gets a value, behind so many operands of later targets
  put : Into → ℕ → Piece
  -- the variable gets the zero value of its type
  put_zero : VarId → Piece
  get : Shape → Piece
  -- the results, where values are given; a bare return gives none
  give : Bool → Piece
  -- `if`: the body, the arms that follow and what stands behind `else`
  branch : TypedBlock → List TypedArm → Option TypedBlock → Piece
  -- a switch begins: with the value of its tag, or without one
  hold_tag : TypeId → List TypedClause → Piece
  no_tag : List TypedClause → Piece
  hold_operand : TypeId → List TypeClause → Piece
  pick_default : Piece
  pick_type_default : Piece
  -- the tag is made a value of the interface that it is compared in
  widen : Piece
  match_tag : Piece
  match_widened : Piece
  match_truth : Piece
  is_case : Piece
  -- the variable of a clause of a switch over types
  bind_clause : VarId → Val → Piece
  -- loops
  enter_loop : Loop → Piece
  decide : Piece
  begin_body : Piece
  copy_variables : List VarId → Piece
  back : Piece
  enter_range : RangeLoop → Piece
  got : Piece
  turn_values : RangeLoop → Turned → Piece
  -- a select; the clause that was chosen, with what it received, if it receives
  select : List SelectClause → Piece
  chosen : SelectClause → Option (Option Val) → Piece

-- ---- what is left to do behind the statement

pub data Later : Type 0 where
  rest : List TypedStmt → Later
  -- the end of a body of an `if`; that of a clause, with the clauses behind it, into which it may fall through
  leave : Later
  leave_clause : List TypedBlock → Later
  cases : Choosing TypedCase TypedClause → Later
  type_cases : Choosing TypeCase TypeClause → Later
  -- a loop before its condition; behind its body
  again : Loop → Later
  behind_body : Loop → Later
  turn : RangeLoop → Ranging → Later
  next_turn : RangeLoop → Ranging → Later
  -- what initialises a package: the value of its variables, and a call of a function named `init`
  initialise : InitStep → Later
  start : FuncId → Pos → Later

-- ---- frames

-- where a variable is: in a cell of the store, where its address may be known, and else its value
pub data Held : Type 0 where
  in_cell : Pointer → Held
  as_value : Val → Held

pub record Binding : Type 0 where
  pub variable : VarId
  pub held : Held

-- a call of a function that has not returned
pub record Frame : Type 0 where
  pub function : FuncId
  -- what was begun last stands first
  pub env : List Binding
  pub work : List Piece
  pub later : List Later
  -- the values that were found, the last first
  pub found : List Val
  -- the tuple whose parts are asked for
  pub tuple : Val
  -- the deferred calls, the last first
  pub defers : List Readied
  pub state : FrameState
  -- whether it was started as a deferred call
  pub deferred : Bool

-- ---- goroutines

pub record Goroutine : Type 0 where
  -- the top one first
  pub frames : List Frame
  -- the call with which it begins
  pub begin : Option Readied
  -- a fault that it meets as it goes on
  pub fault : Option Fault

-- ---- the whole

pub record Machine : Type 0 where
  -- by their numbers
  pub goroutines : List Goroutine
  -- what goroutine 0 is still to call, one after another
  pub starts : List FuncId
  pub store : Stored
  -- the channels, who runs and who may, the choices that are left, and the numbers that they took
  pub sched : State
  -- the ticks that are left
  pub ticks : ℕ
  pub output : List ℕ
  -- the calls, in order
  pub calls : List CallOf

-- what a step leads to: a further state; the ending of the run; or nothing, where typed programs never come
pub data Next : Type 0 where
  goes : Machine → Next
  ends : Ending → Machine → Next
  stuck : Next

abbrev pub where_there : {A : Type 0} → (A → Next) → Option A → Next
where_there next None = stuck
where_there next (Some it) = next it

-- ---- the goroutine that runs, and its frames

abbrev pub current : Machine → Option Goroutine
current m = slice_get m.goroutines m.sched.current.number

abbrev pub with_goroutine : ℕ → Goroutine → Machine → Machine
with_goroutine place g m = record m { goroutines = slice_set m.goroutines place g }

abbrev pub with_current : Goroutine → Machine → Machine
with_current g m = with_goroutine m.sched.current.number g m

abbrev pub with_frames : Goroutine → List Frame → Machine → Machine
with_frames g frames m = with_current (record g { frames = frames }) m

-- ---- where a step is made: the frame that runs, the frames below it, and all the rest

pub record Site : Type 0 where
  pub setting : Setting
  pub machine : Machine
  pub goroutine : Goroutine
  pub below : List Frame
  -- without the piece that is done
  pub frame : Frame

abbrev pub with_frame : Site → Frame → Machine
with_frame s frame = with_frames s.goroutine (frame ∷ s.below) s.machine

-- the frame goes on so
abbrev pub goes_as : Site → Frame → Next
goes_as s frame = goes (with_frame s frame)

-- with a value found
abbrev pub finding : Val → Frame → Frame
finding it frame = record frame { found = it ∷ frame.found }
