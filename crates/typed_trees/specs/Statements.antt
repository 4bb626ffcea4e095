-- Whether the types in a statement fit, and whether branches have statements that they leave. A line for each form. Go
-- specification, "Statements".
use Rattle.std.specs.Prelude.{ℕ, suc, Bool, true, false, not, ◌&&◌, ◌||◌, List, [], ◌∷◌, map, Option, Some, None}
use Rattle.std.specs.Prelude.{nat_lt, is_none}
use Rattle.std.specs.Global.{Box}
use Rattle.std.specs.List.{list_all, list_any}
use Rattle.std.specs.Option.{option_map_or}
use Rattle.go_base.specs.declared.ids.TypeId.{TypeId}
use Rattle.go_base.specs.declared.ids.VarId.{VarId}
use Rattle.go_tree.specs.declared.exprs.TypedExpr.{TypedExpr}
use Rattle.go_tree.specs.declared.exprs.Values.{Values}
use Rattle.go_tree.specs.declared.stmts.Comm.{Comm}
use Rattle.go_tree.specs.declared.stmts.Comm.TheVariants as comm
use Rattle.go_tree.specs.declared.stmts.TypeCase.{TypeCase}
use Rattle.go_tree.specs.declared.stmts.TypeCase.TheVariants as type_case
use Rattle.go_tree.specs.declared.stmts.TypedBlock.{TypedBlock}
use Rattle.go_tree.specs.declared.stmts.TypedCase.{TypedCase}
use Rattle.go_tree.specs.declared.stmts.TypedStmt.TheFolds.{fold-TypedBlock}
use Rattle.go_tree.specs.declared.stmts.TypedStmt.TheOpen as layers
use Rattle.go_type.specs.Same.{same_id, same_ids}
use Rattle.go_type.specs.declared.operators.BinaryOp.{BinaryOp}
use Rattle.type_shapes.specs.Shapes.{is_interface, sent_elem, is_id}
use Rattle.typed_trees.specs.Around.{Around, under, has_truths, only_if, variable_at, is_own_variable}
use Rattle.typed_trees.specs.Conversions.{loses_direction}
use Rattle.typed_trees.specs.Expressions.{seen, seen_values, SeenValues}
use Rattle.typed_trees.specs.Nodes.{Seen, fits_binary, can_be_set, is_call, is_nothing}
use Rattle.typed_trees.specs.Targets.{take_values, define_all, receives, ranges}

-- what stands around a statement of a function: the types of the results, how many statements a `break` may leave and
-- how many loops a `continue` may go on with, and whether a clause follows into which it may fall through
pub record Within : Type 0 where
  pub results : List TypeId
  pub breaks : ℕ
  pub continues : ℕ
  pub falls : Bool

-- whether a statement fits there
abbrev pub Fits : Type 0
Fits = Within → Bool

-- the body of a loop
abbrev pub in_loop : Within → Within
in_loop within = record within { breaks = suc within.breaks; continues = suc within.continues; falls = false }

-- a clause of a switch or a select
abbrev pub in_clause : Bool → Within → Within
in_clause falls within = record within { breaks = suc within.breaks; falls = falls }

-- a statement in a block is not the last of a clause
abbrev pub in_block : Within → Within
in_block within = record within { falls = false }

-- the statements of a list; the last may fall through
abbrev pub all_of : List Fits → Within → Bool
all_of [] within = true
all_of (last ∷ []) within = last within
all_of (first ∷ others) within = first (in_block within) && all_of others within

abbrev pub optional_of : Option (Box Fits) → Within → Bool
optional_of None within = true
optional_of (Some it) within = it.value within

-- a clause, with whether it is the default
pub record Clause : Type 0 where
  pub is_default : Bool
  -- the cases, where a test is given of one
  pub body : Fits
  pub cases : Bool

-- the last clause has none to fall into
abbrev pub bodies_fit : List Clause → Within → Bool
bodies_fit [] within = true
bodies_fit (last ∷ []) within = last.body (in_clause false within)
bodies_fit (first ∷ others) within = first.body (in_clause true within) && bodies_fit others within

abbrev pub one_default : List Clause → Bool
one_default [] = true
one_default (first ∷ others) =
    not (first.is_default && list_any (λ it. it.is_default) others) && one_default others

abbrev pub cases_fit : List Clause → Bool
cases_fit clauses = list_all (λ it. it.cases) clauses

module _ (around : Around) where
  -- ---- expressions in statements

  abbrev pub fits_expr : TypedExpr → Bool
  fits_expr x = (seen around x).fits

  -- "If statements" and "For statements"
  abbrev pub is_condition : TypedExpr → Bool
  is_condition x = fits_expr x && has_truths around (seen around x).of

  abbrev pub is_condition_if : Option TypedExpr → Bool
  is_condition_if None = true
  is_condition_if (Some x) = is_condition x

  -- "Send statements"
  abbrev pub sends : TypedExpr → TypedExpr → Bool
  sends channel value =
      fits_expr channel && (fits_expr value
      && is_id (sent_elem (under around (seen around channel).of)) (seen around value).of)

  -- "Variable declarations": values of the types of the variables, or none
  abbrev pub variable_types : List VarId → List TypeId
  variable_types [] = []
  variable_types (id ∷ ids) =
      option_map_or (λ it. it.of ∷ variable_types ids) (variable_at around id) (variable_types ids)

  abbrev pub own_variables : List VarId → Bool
  own_variables ids =
      list_all (λ id. option_map_or (λ it. is_own_variable around id it.of) (variable_at around id) false) ids

  abbrev pub values_are : SeenValues → List TypeId → Bool
  values_are values types = values.fits && same_ids values.types types

  abbrev pub declares : List VarId → Option Values → Bool
  declares ids None = own_variables ids
  declares ids (Some values) = own_variables ids && values_are (seen_values around values) (variable_types ids)

  -- "IncDec statements" and "Assignment statements": `x op= y`
  abbrev pub operates_on : BinaryOp → TypedExpr → TypedExpr → Bool
  operates_on op place value =
      can_be_set (seen around place).form && (fits_expr place && (fits_expr value
      && fits_binary around op (seen around place).of (seen around value).of (seen around place).of))

  abbrev pub is_call_of : TypedExpr → Bool
  is_call_of x = is_call (seen around x).form && fits_expr x

  -- "Return statements": a value for each result, or none where the results have names
  abbrev pub returns : Option Values → List TypeId → Bool
  returns None results = true
  returns (Some values) results = values_are (seen_values around values) results

  -- ---- "Expression switches": a case is compared with the tag, and is true or false where there is none

  -- the tag, made one of an interface, or a channel of one direction, where that is told
  abbrev pub becomes : TypeId → TypeId → Bool
  becomes tag to =
      (is_interface (under around to) && around.tests.answers.implements tag to)
      || loses_direction (under around tag) (under around to)

  abbrev pub tag_type : TypeId → Option TypeId → Option TypeId
  tag_type tag None = Some tag
  tag_type tag (Some to) = only_if (becomes tag to) to

  -- what is not comparable is compared with `nil`
  abbrev pub can_be_case : Seen → Bool
  can_be_case x = x.fits && (around.tests.answers.comparable x.of || is_nothing x.form)

  abbrev pub is_case_of : Option TypeId → TypedCase → Bool
  is_case_of None it = is_none it.tag_to && is_condition it.value
  is_case_of (Some tag) it =
      can_be_case (seen around it.value) && is_id (tag_type tag it.tag_to) (seen around it.value).of

  -- ---- "Type switches"

  abbrev pub is_type_case : TypeId → TypeCase → Bool
  is_type_case operand type_case.Nil = true
  is_type_case operand (type_case.Of of) =
      is_interface (under around of) || around.tests.answers.implements of operand

  -- the variable of a clause has the type of its one case, and else that of the operand
  abbrev pub clause_type : TypeId → List TypeCase → TypeId
  clause_type operand (type_case.Of of ∷ []) = of
  clause_type operand _ = operand

  abbrev pub binds : TypeId → List TypeCase → Option VarId → Bool
  binds operand cases None = true
  binds operand cases (Some variable) = is_own_variable around variable (clause_type operand cases)

  -- ---- "Select statements"

  abbrev pub communicates : Comm → Bool
  communicates comm.Default = true
  communicates (comm.Send channel value) = sends channel value
  communicates (comm.Receive channel into) =
      fits_expr channel && receives around (seen around channel).of into

  abbrev pub is_default_comm : Comm → Bool
  is_default_comm comm.Default = true
  is_default_comm _ = false

  -- ---- one layer of each tree, where what is below it is seen already

  abbrev pub arm_layer :
      layers.TypedArm-F Fits Clause (TypeId → Clause) Fits Fits (Option TypeId → Clause) → Fits
  arm_layer x within = optional_of x.init (in_block within) && (is_condition x.condition && x.body (in_block within))

  abbrev pub block_layer :
      layers.TypedBlock-F Fits Clause (TypeId → Clause) Fits Fits (Option TypeId → Clause) → Fits
  block_layer x within = all_of x.statements.items within

  abbrev pub clause_layer :
      layers.TypedClause-F Fits Clause (TypeId → Clause) Fits Fits (Option TypeId → Clause) → Option TypeId → Clause
  clause_layer x tag =
      record { is_default = x.is_default; body = x.body; cases = list_all (is_case_of tag) x.cases.items }

  abbrev pub type_clause_layer :
      layers.TypeClause-F Fits Clause (TypeId → Clause) Fits Fits (Option TypeId → Clause) → TypeId → Clause
  type_clause_layer x operand =
      record {
        is_default = x.is_default;
        body = x.body;
        cases = list_all (is_type_case operand) x.cases.items && binds operand x.cases.items x.variable;
      }

  abbrev pub select_clause_layer :
      layers.SelectClause-F Fits Clause (TypeId → Clause) Fits Fits (Option TypeId → Clause) → Clause
  select_clause_layer x =
      record { is_default = is_default_comm x.comm; body = x.body; cases = communicates x.comm }

  abbrev pub switches : List Clause → Within → Bool
  switches clauses within = cases_fit clauses && (one_default clauses && bodies_fit clauses within)

  -- no clause of a type switch or a select falls through
  abbrev pub chooses : List Clause → Within → Bool
  chooses clauses within =
      cases_fit clauses && (one_default clauses && list_all (λ it. it.body (in_clause false within)) clauses)

  abbrev pub tag_of : Option TypedExpr → Option TypeId
  tag_of None = None
  tag_of (Some x) = Some (seen around x).of

  abbrev pub fits_optional : Option TypedExpr → Bool
  fits_optional None = true
  fits_optional (Some x) = fits_expr x

  abbrev pub stmt_layer :
      layers.TypedStmt-F Fits Clause (TypeId → Clause) Fits Fits (Option TypeId → Clause) → Fits
  stmt_layer (layers.TypedStmt-F.Const at) within = true
  stmt_layer (layers.TypedStmt-F.TypeDecl at) within = true
  stmt_layer (layers.TypedStmt-F.Var at variables values) within = declares variables.items values
  stmt_layer (layers.TypedStmt-F.Labeled at labels stmt) within = optional_of stmt within
  stmt_layer (layers.TypedStmt-F.Expr at x) within = fits_expr x
  stmt_layer (layers.TypedStmt-F.Send at channel value) within = sends channel value
  stmt_layer (layers.TypedStmt-F.Step at place op one) within = operates_on op place one
  stmt_layer (layers.TypedStmt-F.Assign at targets values) within =
      (seen_values around values).fits && take_values around targets.items (seen_values around values).types
  stmt_layer (layers.TypedStmt-F.AssignOp at place op value) within = operates_on op place value
  stmt_layer (layers.TypedStmt-F.Define at targets values) within =
      (seen_values around values).fits && define_all around targets.items (seen_values around values).types
  stmt_layer (layers.TypedStmt-F.Go at call) within = is_call_of call
  stmt_layer (layers.TypedStmt-F.Defer at call) within = is_call_of call
  stmt_layer (layers.TypedStmt-F.Return at values) within = returns values within.results
  stmt_layer (layers.TypedStmt-F.Break at levels) within = nat_lt levels within.breaks
  stmt_layer (layers.TypedStmt-F.Continue at levels) within = nat_lt levels within.continues
  stmt_layer (layers.TypedStmt-F.Fallthrough at) within = within.falls
  stmt_layer (layers.TypedStmt-F.Block block) within = block (in_block within)
  stmt_layer (layers.TypedStmt-F.If at arms otherwise) within =
      list_all (λ arm. arm within) arms.items && option_map_or (λ block. block (in_block within)) otherwise true
  stmt_layer (layers.TypedStmt-F.Switch at init tag clauses «end») within =
      optional_of init (in_block within)
      && (fits_optional tag && switches (map (λ clause. clause (tag_of tag)) clauses.items) within)
  stmt_layer (layers.TypedStmt-F.TypeSwitch at init operand clauses «end») within =
      optional_of init (in_block within)
      && (fits_expr operand && (is_interface (under around (seen around operand).of)
      && chooses (map (λ clause. clause (seen around operand).of) clauses.items) within))
  stmt_layer (layers.TypedStmt-F.Select at clauses «end») within = chooses clauses.items within
  stmt_layer (layers.TypedStmt-F.For at fresh init condition post body) within =
      optional_of init (in_block within)
      && (is_condition_if condition && (optional_of post (in_block within) && body (in_loop within)))
  stmt_layer (layers.TypedStmt-F.Range at fresh over operand targets body) within =
      ranges around over (seen around operand) targets && body (in_loop within)

  -- ---- whole blocks

  unfoldable pub fits_block : TypedBlock → Fits
  fits_block =
      fold-TypedBlock Fits Clause (TypeId → Clause) Fits Fits (Option TypeId → Clause) stmt_layer select_clause_layer
      type_clause_layer arm_layer block_layer clause_layer
