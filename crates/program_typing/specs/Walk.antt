-- The parts of statements, each seen by itself.
use Rattle.std.specs.Prelude.{Bool, true, false, ◌&&◌, List, [], ◌∷◌, Option, Some, None}
use Rattle.std.specs.Global.{Box}
use Rattle.std.specs.List.{list_all}
use Rattle.std.specs.Option.{option_map_or}
use Rattle.go_base.specs.declared.ids.TypeId.{TypeId}
use Rattle.go_base.specs.declared.ids.VarId.{VarId}
use Rattle.go_tree.specs.declared.exprs.TypedExpr.{TypedExpr}
use Rattle.go_tree.specs.declared.exprs.Values.{Values}
use Rattle.go_tree.specs.declared.program.InitStep.{InitStep}
use Rattle.go_tree.specs.declared.stmts.DefineTarget.{DefineTarget}
use Rattle.go_tree.specs.declared.stmts.RangeTargets.{RangeTargets}
use Rattle.go_tree.specs.declared.stmts.ReceiveInto.{ReceiveInto}
use Rattle.go_tree.specs.declared.stmts.SelectClause.{SelectClause}
use Rattle.go_tree.specs.declared.stmts.Target.{Target}
use Rattle.go_tree.specs.declared.stmts.Target.TheVariants as target
use Rattle.go_tree.specs.declared.stmts.TypeClause.{TypeClause}
use Rattle.go_tree.specs.declared.stmts.TypedArm.{TypedArm}
use Rattle.go_tree.specs.declared.stmts.TypedBlock.{TypedBlock}
use Rattle.go_tree.specs.declared.stmts.TypedClause.{TypedClause}
use Rattle.go_tree.specs.declared.stmts.TypedStmt.{TypedStmt}
use Rattle.go_tree.specs.declared.stmts.TypedStmt.TheFolds.{fold-TypedStmt, fold-SelectClause, fold-TypeClause}
use Rattle.go_tree.specs.declared.stmts.TypedStmt.TheFolds.{fold-TypedArm, fold-TypedClause}
use Rattle.typed_trees.specs.Around.{Around, variable_at, is_own, is_own_variable}
use Rattle.typed_trees.specs.Expressions.{seen, seen_values}
use Rattle.typed_trees.specs.Statements.{Fits, Clause, in_block, in_clause, fits_block}
use Rattle.typed_trees.specs.Statements.{stmt_layer, select_clause_layer, type_clause_layer, arm_layer, block_layer}
use Rattle.typed_trees.specs.Statements.{clause_layer, is_case_of, is_type_case, binds}
use Rattle.go_type.specs.declared.term.Signature.{Signature}
use Rattle.typed_trees.specs.Programs.{are_none, are_variables, is_of_another, is_of_package}
use Rattle.typed_trees.specs.Statements.{fits_expr, values_are, variable_types}
use Rattle.typed_trees.specs.Targets.{Turns, take_values, define_all, are_part_of, part_types, receives, sets_turn}
use Rattle.typed_trees.specs.Targets.{defines_one, all_types, listed_targets}

abbrev pub is_bare : Option Signature → Bool
is_bare (Some signature) = are_none signature.params && are_none signature.results
is_bare None = false

abbrev pub is_no_place : Option Target → Bool
is_no_place (Some (target.Place place)) = false
is_no_place _ = true

module _ (around : Around) where
  unfoldable pub fits_stmt : TypedStmt → Fits
  fits_stmt =
      fold-TypedStmt Fits Clause (TypeId → Clause) Fits Fits (Option TypeId → Clause) (stmt_layer around)
      (select_clause_layer around) (type_clause_layer around) (arm_layer around) (block_layer around)
      (clause_layer around)

  unfoldable pub seen_select_clause : SelectClause → Clause
  seen_select_clause =
      fold-SelectClause Fits Clause (TypeId → Clause) Fits Fits (Option TypeId → Clause) (stmt_layer around)
      (select_clause_layer around) (type_clause_layer around) (arm_layer around) (block_layer around)
      (clause_layer around)

  unfoldable pub seen_type_clause : TypeClause → TypeId → Clause
  seen_type_clause =
      fold-TypeClause Fits Clause (TypeId → Clause) Fits Fits (Option TypeId → Clause) (stmt_layer around)
      (select_clause_layer around) (type_clause_layer around) (arm_layer around) (block_layer around)
      (clause_layer around)

  unfoldable pub fits_arm : TypedArm → Fits
  fits_arm =
      fold-TypedArm Fits Clause (TypeId → Clause) Fits Fits (Option TypeId → Clause) (stmt_layer around)
      (select_clause_layer around) (type_clause_layer around) (arm_layer around) (block_layer around)
      (clause_layer around)

  unfoldable pub seen_clause : TypedClause → Option TypeId → Clause
  seen_clause =
      fold-TypedClause Fits Clause (TypeId → Clause) Fits Fits (Option TypeId → Clause) (stmt_layer around)
      (select_clause_layer around) (type_clause_layer around) (arm_layer around) (block_layer around)
      (clause_layer around)

  -- ---- what may be left out

  abbrev pub optional_fits : Option (Box TypedStmt) → Fits
  optional_fits None within = true
  optional_fits (Some stmt) within = fits_stmt stmt.value within

  abbrev pub otherwise_fits : Option TypedBlock → Fits
  otherwise_fits None within = true
  otherwise_fits (Some block) within = fits_block around block (in_block within)

  -- ---- lists

  -- the statements of a list; the last may fall through
  abbrev pub fit_in_turn : List TypedStmt → Fits
  fit_in_turn [] within = true
  fit_in_turn (last ∷ []) within = fits_stmt last within
  fit_in_turn (first ∷ others) within = fits_stmt first (in_block within) && fit_in_turn others within

  abbrev pub arms_fit : List TypedArm → Fits
  arms_fit arms within = list_all (λ arm. fits_arm arm within) arms

  -- the bodies of clauses; each but the last may fall through
  abbrev pub fall_in_turn : List TypedClause → Fits
  fall_in_turn [] within = true
  fall_in_turn (last ∷ []) within = fits_block around last.body (in_clause false within)
  fall_in_turn (first ∷ others) within =
      fits_block around first.body (in_clause true within) && fall_in_turn others within

  abbrev pub type_bodies_fit : List TypeClause → Fits
  type_bodies_fit clauses within = list_all (λ it. fits_block around it.body (in_clause false within)) clauses

  abbrev pub select_bodies_fit : List SelectClause → Fits
  select_bodies_fit clauses within = list_all (λ it. fits_block around it.body (in_clause false within)) clauses

  -- the cases of clauses
  abbrev pub has_cases : Option TypeId → TypedClause → Bool
  has_cases tag it = list_all (is_case_of around tag) it.cases.items

  abbrev pub has_type_cases : TypeId → TypeClause → Bool
  has_type_cases operand it =
      list_all (is_type_case around operand) it.cases.items && binds around operand it.cases.items it.variable

  -- ---- parts of statements

  abbrev pub is_one_of_own : VarId → Bool
  is_one_of_own id = option_map_or (λ it. is_own_variable around id it.of) (variable_at around id) false

  abbrev pub assigns : List Target → Values → Bool
  assigns targets values =
      (seen_values around values).fits && take_values around targets (seen_values around values).types

  abbrev pub defines_with : List DefineTarget → Values → Bool
  defines_with targets values =
      (seen_values around values).fits && define_all around targets (seen_values around values).types

  abbrev pub assigns_parts : List TypeId → List Target → List TypedExpr → Bool
  assigns_parts given targets parts =
      are_part_of around given parts && take_values around targets (part_types around parts)

  abbrev pub receives_from : TypedExpr → ReceiveInto → Bool
  receives_from channel into = fits_expr around channel && receives around (seen around channel).of into

  abbrev pub sets_turns : RangeTargets → Option Turns → Bool
  sets_turns targets turns = option_map_or (λ it. sets_turn around targets it) turns false

  abbrev pub defines_turn : Turns → Option VarId → Option VarId → Bool
  defines_turn turns key value = defines_one around key (Some turns.key) && defines_one around value turns.value

  abbrev pub assigns_turn : Turns → Option Target → Option Target → List TypedExpr → Bool
  assigns_turn turns key value parts =
      are_part_of around (all_types around turns) parts
      && take_values around (listed_targets around key value) (part_types around parts)

  -- ---- variables of functions and packages

  abbrev pub are_own : List VarId → List TypeId → Bool
  are_own ids types = are_variables around (is_own around.function) ids types

  abbrev pub is_of_other : VarId → Bool
  is_of_other id =
      option_map_or (λ it. is_of_another around.function it.function) (variable_at around id) false

  abbrev pub is_of_a_package : VarId → Bool
  is_of_a_package id = option_map_or (λ it. is_of_package it.function) (variable_at around id) false

  -- variables of packages, and values of their types
  abbrev pub initialises_in : InitStep → Bool
  initialises_in step =
      list_all is_of_a_package step.variables
      && values_are around (seen_values around step.values) (variable_types around step.variables)
