-- Clauses of switches and selects, by their parts.
use Rattle.std.proofs.Common.{◌≡◌, refl, sym, ap, ◌∙◌, ℕ, ◌+◌, List, [], ◌∷◌, map, arith}
use Rattle.std.proofs.lemmas.List.Recursion.{is_count_by}
use Rattle.std.proofs.lemmas.Bool.Decides.{nat_tests}
use Rattle.std.specs.List.{list_all, list_any}
use Rattle.std.specs.Prelude.{Bool, true, false, ◌&&◌, ◌||◌, not, nat_lt, nat_le, count_by, cond, Option, Some, None}
use Rattle.go_base.specs.declared.ids.TypeId.{TypeId}
use Rattle.go_tree.specs.declared.stmts.SelectClause.{SelectClause}
use Rattle.go_tree.specs.declared.stmts.TypeClause.{TypeClause}
use Rattle.go_tree.specs.declared.stmts.TypedClause.{TypedClause}
use Rattle.go_tree.specs.declared.stmts.TypedStmt.{TypedStmt}
use Rattle.go_tree.specs.declared.stmts.TypedStmt.TheOpen as layers
use Rattle.go_tree.specs.declared.stmts.TypedStmt.TheVariants as stmts
use Rattle.type_shapes.specs.Shapes.{is_interface}
use Rattle.typed_trees.specs.Around.{Around, under}
use Rattle.typed_trees.specs.Expressions.{seen}
use Rattle.typed_trees.specs.Statements.{Within, Clause, in_clause, one_default, cases_fit, bodies_fit}
use Rattle.typed_trees.specs.Statements.{switches, chooses, is_default_comm, communicates, in_block, fits_optional, fits_expr, tag_of}
use Rattle.program_typing.specs.Walk.{seen_clause, seen_type_clause, seen_select_clause, has_cases, has_type_cases}
use Rattle.program_typing.specs.Walk.{fall_in_turn, type_bodies_fit, select_bodies_fit, fits_stmt, optional_fits}
use Rattle.program_typing.proofs.StmtForms.{stmt_is, clause_is, type_clause_is, select_clause_is}

-- ---- at most one default

-- how many pass a test
abbrev number : {A : Type 0} → (A → Bool) → List A → ℕ
number p [] = 0
number p (x ∷ xs) = cond (p x) (1 + number p xs) (number p xs)

counts : {A : Type 0} (p : A → Bool) (xs : List A) → number p xs ≡ count_by p xs
counts p xs = is_count_by (number p) p refl (λ _ _. refl) xs

any_step : (b any : Bool) (n : ℕ) → any ≡ nat_lt 0 n → b || any ≡ nat_lt 0 (cond b (1 + n) n)
any_step true any n p = grind (arith, nat_tests)
any_step false any n p = p

any_is : (clauses : List Clause) → list_any (λ it. it.is_default) clauses ≡ nat_lt 0 (number (λ (it : Clause). it.is_default) clauses)
any_is [] = refl
any_is (first ∷ others) = any_step first.is_default _ (number (λ (it : Clause). it.is_default) others) (any_is others)

one_step : (b any rest : Bool) (n : ℕ) → any ≡ nat_lt 0 n → rest ≡ nat_le n 1 → not (b && any) && rest ≡ nat_le (cond b (1 + n) n) 1
one_step false any rest n p q = q
one_step true true rest n p q = grind (arith, nat_tests)
one_step true false rest n p q = q ∙ grind (arith, nat_tests)

one_is : (clauses : List Clause) → one_default clauses ≡ nat_le (number (λ (it : Clause). it.is_default) clauses) 1
one_is [] = refl
one_is (first ∷ others) =
    one_step first.is_default _ _ (number (λ (it : Clause). it.is_default) others) (any_is others) (one_is others)

-- the defaults of what is seen are those of what it is seen of
same_number : (clauses : List Clause) (n m : ℕ) → number (λ (it : Clause). it.is_default) clauses ≡ n → n ≡ m → one_default clauses ≡ nat_le m 1
same_number clauses n m p q = one_is clauses ∙ ap (λ (k : ℕ). nat_le k 1) (p ∙ q)

-- ---- clauses of a switch

module _ (a : Around) (tag : Option TypeId) where
  abbrev seen_at : List TypedClause → List Clause
  seen_at clauses = map (λ (k : Option TypeId → Clause). k tag) (map (seen_clause a) clauses)

  cases_are : (clauses : List TypedClause) → cases_fit (seen_at clauses) ≡ list_all (has_cases a tag) clauses
  cases_are [] = refl
  cases_are (c ∷ cs) = λ i. (clause_is a c tag i).cases && cases_are cs i

  defaults_are : (clauses : List TypedClause) → number (λ (it : Clause). it.is_default) (seen_at clauses) ≡ number (λ (it : TypedClause). it.is_default) clauses
  defaults_are [] = refl
  defaults_are (c ∷ cs) = λ i. cond (clause_is a c tag i).is_default (1 + defaults_are cs i) (defaults_are cs i)

  bodies_are : (clauses : List TypedClause) (w : Within) → bodies_fit (seen_at clauses) w ≡ fall_in_turn a clauses w
  bodies_are [] w = refl
  bodies_are (c ∷ []) w = λ i. (clause_is a c tag i).body (in_clause false w)
  bodies_are (c ∷ (d ∷ ds)) w = λ i. (clause_is a c tag i).body (in_clause true w) && bodies_are (d ∷ ds) w i

  pub switches_are : (clauses : List TypedClause) (w : Within) → switches a (seen_at clauses) w ≡ list_all (has_cases a tag) clauses && (nat_le (count_by (λ (it : TypedClause). it.is_default) clauses) 1 && fall_in_turn a clauses w)
  switches_are clauses w = λ i.
      cases_are clauses i && (same_number (seen_at clauses) _ _ (defaults_are clauses) (counts (λ (it : TypedClause). it.is_default) clauses) i && bodies_are clauses w i)

-- ---- clauses of a switch over types

module _ (a : Around) (operand : TypeId) where
  abbrev typed_at : List TypeClause → List Clause
  typed_at clauses = map (λ (k : TypeId → Clause). k operand) (map (seen_type_clause a) clauses)

  type_cases_are : (clauses : List TypeClause) → cases_fit (typed_at clauses) ≡ list_all (has_type_cases a operand) clauses
  type_cases_are [] = refl
  type_cases_are (c ∷ cs) = λ i. (type_clause_is a c operand i).cases && type_cases_are cs i

  type_defaults_are : (clauses : List TypeClause) → number (λ (it : Clause). it.is_default) (typed_at clauses) ≡ number (λ (it : TypeClause). it.is_default) clauses
  type_defaults_are [] = refl
  type_defaults_are (c ∷ cs) = λ i. cond (type_clause_is a c operand i).is_default (1 + type_defaults_are cs i) (type_defaults_are cs i)

  type_bodies_are : (clauses : List TypeClause) (w : Within) → list_all (λ (it : Clause). it.body (in_clause false w)) (typed_at clauses) ≡ type_bodies_fit a clauses w
  type_bodies_are [] w = refl
  type_bodies_are (c ∷ cs) w = λ i. (type_clause_is a c operand i).body (in_clause false w) && type_bodies_are cs w i

  pub chooses_types : (clauses : List TypeClause) (w : Within) → chooses a (typed_at clauses) w ≡ list_all (has_type_cases a operand) clauses && (nat_le (count_by (λ (it : TypeClause). it.is_default) clauses) 1 && type_bodies_fit a clauses w)
  chooses_types clauses w = λ i.
      type_cases_are clauses i && (same_number (typed_at clauses) _ _ (type_defaults_are clauses) (counts (λ (it : TypeClause). it.is_default) clauses) i && type_bodies_are clauses w i)

-- ---- clauses of a select

module _ (a : Around) where
  comms_are : (clauses : List SelectClause) → cases_fit (map (seen_select_clause a) clauses) ≡ list_all (λ (it : SelectClause). communicates a it.comm) clauses
  comms_are [] = refl
  comms_are (c ∷ cs) = λ i. (select_clause_is a c i).cases && comms_are cs i

  comm_defaults_are : (clauses : List SelectClause) → number (λ (it : Clause). it.is_default) (map (seen_select_clause a) clauses) ≡ number (λ (it : SelectClause). is_default_comm a it.comm) clauses
  comm_defaults_are [] = refl
  comm_defaults_are (c ∷ cs) = λ i. cond (select_clause_is a c i).is_default (1 + comm_defaults_are cs i) (comm_defaults_are cs i)

  select_bodies_are : (clauses : List SelectClause) (w : Within) → list_all (λ (it : Clause). it.body (in_clause false w)) (map (seen_select_clause a) clauses) ≡ select_bodies_fit a clauses w
  select_bodies_are [] w = refl
  select_bodies_are (c ∷ cs) w = λ i. (select_clause_is a c i).body (in_clause false w) && select_bodies_are cs w i

  pub chooses_comms : (clauses : List SelectClause) (w : Within) → chooses a (map (seen_select_clause a) clauses) w ≡ list_all (λ (it : SelectClause). communicates a it.comm) clauses && (nat_le (count_by (λ (it : SelectClause). is_default_comm a it.comm) clauses) 1 && select_bodies_fit a clauses w)
  chooses_comms clauses w = λ i.
      comms_are clauses i && (same_number (map (seen_select_clause a) clauses) _ _ (comm_defaults_are clauses) (counts (λ (it : SelectClause). is_default_comm a it.comm) clauses) i && select_bodies_are clauses w i)

  -- ---- the statements

  pub switch_fits : (at init tag clauses ends : _) (w : Within) → fits_stmt a (stmts.Switch at init tag clauses ends) w ≡ optional_fits a init (in_block w) && (fits_optional a tag && (list_all (has_cases a (tag_of a tag)) clauses.items && (nat_le (count_by (λ (it : TypedClause). it.is_default) clauses.items) 1 && fall_in_turn a clauses.items w)))
  switch_fits at None tag clauses ends w = ap (λ (s : TypedStmt). fits_stmt a s w) (sym (stmts.rolls-Switch at None tag clauses ends)) ∙ (stmt_is a (layers.TypedStmt-F.Switch at None tag clauses ends) w ∙ ap (λ (b : Bool). optional_fits a None (in_block w) && (fits_optional a tag && b)) (switches_are a (tag_of a tag) clauses.items w))
  switch_fits at (Some init) tag clauses ends w = ap (λ (s : TypedStmt). fits_stmt a s w) (sym (stmts.rolls-Switch at (Some init) tag clauses ends)) ∙ (stmt_is a (layers.TypedStmt-F.Switch at (Some init) tag clauses ends) w ∙ ap (λ (b : Bool). optional_fits a (Some init) (in_block w) && (fits_optional a tag && b)) (switches_are a (tag_of a tag) clauses.items w))

  pub type_switch_fits : (at init operand clauses ends : _) (w : Within) → fits_stmt a (stmts.TypeSwitch at init operand clauses ends) w ≡ optional_fits a init (in_block w) && (fits_expr a operand && (is_interface (under a (seen a operand).of) && (list_all (has_type_cases a (seen a operand).of) clauses.items && (nat_le (count_by (λ (it : TypeClause). it.is_default) clauses.items) 1 && type_bodies_fit a clauses.items w))))
  type_switch_fits at None operand clauses ends w = ap (λ (s : TypedStmt). fits_stmt a s w) (sym (stmts.rolls-TypeSwitch at None operand clauses ends)) ∙ (stmt_is a (layers.TypedStmt-F.TypeSwitch at None operand clauses ends) w ∙ ap (λ (b : Bool). optional_fits a None (in_block w) && (fits_expr a operand && (is_interface (under a (seen a operand).of) && b))) (chooses_types a (seen a operand).of clauses.items w))
  type_switch_fits at (Some init) operand clauses ends w = ap (λ (s : TypedStmt). fits_stmt a s w) (sym (stmts.rolls-TypeSwitch at (Some init) operand clauses ends)) ∙ (stmt_is a (layers.TypedStmt-F.TypeSwitch at (Some init) operand clauses ends) w ∙ ap (λ (b : Bool). optional_fits a (Some init) (in_block w) && (fits_expr a operand && (is_interface (under a (seen a operand).of) && b))) (chooses_types a (seen a operand).of clauses.items w))

  pub select_fits : (at clauses ends : _) (w : Within) → fits_stmt a (stmts.Select at clauses ends) w ≡ list_all (λ (it : SelectClause). communicates a it.comm) clauses.items && (nat_le (count_by (λ (it : SelectClause). is_default_comm a it.comm) clauses.items) 1 && select_bodies_fit a clauses.items w)
  select_fits at clauses ends w = ap (λ (s : TypedStmt). fits_stmt a s w) (sym (stmts.rolls-Select at clauses ends)) ∙ (stmt_is a (layers.TypedStmt-F.Select at clauses ends) w ∙ chooses_comms clauses.items w)
