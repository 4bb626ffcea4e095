-- Statements and lines are read again.
use Rattle.std.proofs.Common.{◌≡◌, ℕ, ◌+◌, ◌≤◌, ◌<◌, Bool, true, false, List, [], ◌∷◌, ◌++◌, length, Some, refl, sym, ap, ◌∙◌, subst, arith}
use Rattle.std.proofs.lemmas.List.{append-nil, length-append}
use Rattle.std.specs.Prelude.{◌&&◌, not}
use Rattle.go_ast.specs.declared.token.Kind.{Kind}
use Rattle.go_ast.specs.declared.token.Kind.TheVariants as kinds
use Rattle.go_ast.specs.declared.token.Token.{Token}
use Rattle.go_grammar.specs.Forests as forms
use Rattle.go_grammar.specs.Forests.{Forest, empty, leaf, node, append, yield}
use Rattle.go_grammar.specs.Shapes as shapes
use Rattle.go_grammar.specs.Shapes.{Shape, Fits, is}
use Rattle.go_grammar.specs.Grammar as sorts
use Rattle.go_grammar.specs.Grammar.{Sort, Context, grammar, is_semicolon}
use Rattle.go_grammar.specs.Reading.{Plan, Part, Node, Either, Then, is_next, shape_of}
use Rattle.go_grammar.specs.Tests as plans
use Rattle.go_grammar.specs.Tests.{begins, begins_both, begins_semicolon}
use Rattle.go_grammar.specs.TypeReading.{Plain, Parsers}
use Rattle.go_grammar.specs.StmtReading as stmts
use Rattle.go_grammar.specs.StmtReading.{for_in, begins_decl, ends_statement, ends_statements, if_plan, select_plan, at_unlabeled, unlabeled_plan, unlabeled_in, label, at_statement, statement_plan, at_lines, lines_plan, lines_in}
use Rattle.go_grammar.proofs.Forests.{yield-append}
use Rattle.go_grammar.proofs.Again.{regroup, AreChosen, IsChosen, run_again}
use Rattle.go_grammar.proofs.Fronts.{IsFirst}
use Rattle.go_grammar.proofs.Choices.{Sure, IsRoomy, chosen, first_behind, behind_is, behind_is_not, next_is, next_is_not}
use Rattle.go_grammar.proofs.Plans.{unpart, plan_again, pair_then, pair_node, begins_pair, begins_other_pair, begins_other_first, is_open}
use Rattle.go_grammar.proofs.TypeChoices.{anything}
use Rattle.go_grammar.proofs.ExprAgain.{block_again}
use Rattle.go_grammar.proofs.LoopAgain.{loop_again}
use Rattle.go_grammar.proofs.Rereads.{Rereads}
use Rattle.go_grammar.proofs.DeclChoices.{ends_expr, ends_decl, ends_lines, list_sure, expr_sort}
use Rattle.go_grammar.proofs.DeclAgain.{ends_all, decl_again}
use Rattle.go_grammar.proofs.SimpleAgain.{simple_again}
use Rattle.go_grammar.proofs.HeaderAgain.{ends_stmt, plain_ends, if_rest_again}
use Rattle.go_grammar.proofs.StmtChoices.{ends_line, follow_lines, deficit_lines, lines_sure}
use Rattle.go_grammar.proofs.SwitchAgain.{switch_again, comm_clause_again}
use Rattle.go_grammar.proofs.Labels.{unlabeled_front}

-- ---- statements without labels

abbrev follow_unlabeled : Sort → Kind → Bool
follow_unlabeled sorts.LocalDecl kind = ends_decl kind
follow_unlabeled sorts.Switch kind = true
follow_unlabeled sorts.Loop kind = true
follow_unlabeled sorts.IfRest kind = true
follow_unlabeled sorts.Block kind = true
follow_unlabeled sorts.CommClause kind = ends_lines kind
follow_unlabeled (sorts.Simple sorts.Plain) kind = ends_stmt kind
follow_unlabeled (sorts.Binary sorts.Disjunction sorts.Plain) kind = ends_expr kind
follow_unlabeled _ kind = false

abbrev deficit_unlabeled : Sort → ℕ
deficit_unlabeled (sorts.Simple context) = 1
deficit_unlabeled (sorts.Binary level context) = 1
deficit_unlabeled _ = 0

-- another statement or expressions, and not the end of a statement
ends_test : (tokens : List Token) → ends_statement tokens ≡ is_next ends_line tokens
ends_test [] = refl
ends_test (token ∷ tokens) = refl

module _ (depth : ℕ) where
  abbrev IsReady : Sort → Forest → List Token → Type 0
  IsReady sort tree rest = IsRoomy follow_unlabeled deficit_unlabeled depth sort tree rest

  abbrev AreSure : Plan Sort → Type 0
  AreSure plan = (tree : Forest) (rest : List Token) (x : Fits grammar (shape_of plan) tree rest) → IsFirst ends_line rest → length (yield tree) + 1 ≤ depth → IsChosen grammar IsReady plan x

  sure : (plan : Plan Sort) → Sure follow_unlabeled deficit_unlabeled plan ends_line 1 → AreSure plan
  sure plan s = λ tree rest x f le. chosen follow_unlabeled deficit_unlabeled depth plan ends_line 1 s x f le

  either_sure : (test : List Token → Bool) (a b : Plan Sort)
      → ((tree : Forest) (rest : List Token) → Fits grammar (shape_of a) tree rest → IsFirst ends_line rest → test (yield tree ++ rest) ≡ true)
      → ((tree : Forest) (rest : List Token) → Fits grammar (shape_of b) tree rest → IsFirst ends_line rest → test (yield tree ++ rest) ≡ false)
      → AreSure a → AreSure b → (tree : Forest) (rest : List Token) (x : Fits grammar (shape_of (Either test a b)) tree rest) → IsFirst ends_line rest → length (yield tree) + 1 ≤ depth → IsChosen grammar IsReady (Either test a b) x
  either_sure test a b h k one other tree rest (shapes.first x) f le = (h tree rest x f, one tree rest x f le)
  either_sure test a b h k one other tree rest (shapes.second x) f le = (k tree rest x f, other tree rest x f le)

  -- ---- if

  abbrev else_if : Plan Sort
  else_if = Node forms.ArmForm (Then (plans.word kinds.ElseWord) (Part sorts.IfRest))

  abbrev else_block : Plan Sort
  else_block = plans.maybe (begins kinds.ElseWord) (Then (plans.word kinds.ElseWord) (Part sorts.Block))

  else_if_first : (tree : Forest) (rest : List Token) → Fits grammar (shape_of else_if) tree rest → IsFirst anything rest → begins_both kinds.ElseWord kinds.IfWord (yield tree ++ rest) ≡ true
  else_if_first tree rest (shapes.below {trees = trees} x) f = begins_pair kinds.ElseWord kinds.IfWord _ (pair_node trees rest (pair_then x f)) refl

  no_else_if : (tree : Forest) (rest : List Token) → Fits grammar (shape_of else_block) tree rest → IsFirst ends_line rest → begins_both kinds.ElseWord kinds.IfWord (yield tree ++ rest) ≡ false
  no_else_if tree rest (shapes.first x) f = begins_other_pair kinds.ElseWord kinds.IfWord (yield tree ++ rest) (pair_then x f) refl
  no_else_if tree rest (shapes.second shapes.nothing) f = begins_other_first kinds.ElseWord kinds.IfWord rest (behind_is_not (λ kind. is kind kinds.ElseWord) ends_line refl rest f)

  any_first : {test : Kind → Bool} {rest : List Token} → IsFirst test rest → IsFirst anything rest
  any_first f = record { token = f.token; others = f.others; all = f.all; kind = refl }

  else_ifs : {tree : Forest} {rest : List Token} (x : Fits grammar (shapes.Many (shape_of else_if)) tree rest) → IsFirst anything rest → begins_both kinds.ElseWord kinds.IfWord rest ≡ false → length (yield tree) ≤ depth
      → AreChosen grammar IsReady (begins_both kinds.ElseWord kinds.IfWord) (λ tree rest y. IsChosen grammar IsReady else_if y) x
  else_ifs shapes.done f h le = h
  else_ifs (shapes.more {left = left} {right = right} {rest = rest} (shapes.below {trees = trees} (shapes.both {right = arm} (shapes.sign {token = word} e) i)) y) f h le =
      let g = any_first (first_behind anything y f) in
      let all = length-append (yield left) (yield right) in
      let split = ap length (yield-append left right) in
      let long : length (yield left) ≡ 1 + length (yield arm) = omega (arith, ap length (append-nil (word ∷ yield arm))) in (
        else_if_first left (yield right ++ rest) (shapes.below (shapes.both (shapes.sign e) i)) g,
        omega (arith, long),
        (tt, record { next = g; fits = omega (arith, le, all, split, long) }),
        else_ifs y f h (omega (arith, le, all, split)),
      )

  else_sure : AreSure else_block
  else_sure = sure else_block (next_is (λ kind. is kind kinds.ElseWord) _ _ refl, next_is_not (λ kind. is kind kinds.ElseWord) _ _ refl, (tt, (refl, refl)), tt)

  if_sure : (tree : Forest) (rest : List Token) (x : Fits grammar (shape_of if_plan) tree rest) → IsFirst ends_line rest → length (yield tree) + 1 ≤ depth → IsChosen grammar IsReady if_plan x
  if_sure tree rest (shapes.below (shapes.both {right = others} (shapes.below {trees = arm} i) (shapes.both {left = more} {right = last} m l))) f le =
      let g = any_first (first_behind ends_line l f) in
      let h = any_first (first_behind anything m g) in
      let whole = ap length (append-nil (yield (append (node forms.ArmForm arm empty) (append more last)))) in
      let inner = ap length (append-nil (yield arm)) in
      let all = length-append (yield arm) (yield (append more last)) in
      let split = ap length (yield-append more last) in
      let two = length-append (yield more) (yield last) in
      let rest_first = subst (λ (ws : List Token). IsFirst anything ws) (sym (regroup more last rest)) h in (
        record { next = rest_first; fits = omega (arith, le, whole, inner, all) },
        (else_ifs m g (no_else_if last rest l f) (omega (arith, le, whole, inner, all, split, two)), else_sure last rest l f (omega (arith, le, whole, inner, all, split, two))),
      )

  -- ---- the plan, from its last choice to its first

  abbrev for_on : Plan Sort
  for_on = Either (begins kinds.ForWord) (Part sorts.Loop) (Part (sorts.Simple sorts.Plain))

  for_on_sure : AreSure for_on
  for_on_sure = either_sure (begins kinds.ForWord) (Part sorts.Loop) (Part (sorts.Simple sorts.Plain)) (next_is (λ kind. is kind kinds.ForWord) _ ends_line refl) (next_is_not (λ kind. is kind kinds.ForWord) _ ends_line refl) (sure (Part sorts.Loop) (refl, refl)) (sure (Part (sorts.Simple sorts.Plain)) (refl, refl))

  abbrev select_on : Plan Sort
  select_on = Either (begins kinds.SelectWord) (select_plan) for_on

  select_on_sure : AreSure select_on
  select_on_sure = either_sure (begins kinds.SelectWord) (select_plan) for_on (next_is (λ kind. is kind kinds.SelectWord) _ ends_line refl) (next_is_not (λ kind. is kind kinds.SelectWord) _ ends_line refl) (sure (select_plan) (tt, (tt, ((is_open kinds.CloseBrace _ _ refl, (λ rest f. ap not (behind_is (λ kind. is kind kinds.CloseBrace) (λ kind. is kind kinds.CloseBrace) refl rest f)), refl, (refl, refl)), tt)))) for_on_sure

  abbrev switch_on : Plan Sort
  switch_on = Either (begins kinds.SwitchWord) (Part sorts.Switch) select_on

  switch_on_sure : AreSure switch_on
  switch_on_sure = either_sure (begins kinds.SwitchWord) (Part sorts.Switch) select_on (next_is (λ kind. is kind kinds.SwitchWord) _ ends_line refl) (next_is_not (λ kind. is kind kinds.SwitchWord) _ ends_line refl) (sure (Part sorts.Switch) (refl, refl)) select_on_sure

  abbrev if_on : Plan Sort
  if_on = Either (begins kinds.IfWord) (if_plan) switch_on

  if_on_sure : AreSure if_on
  if_on_sure = either_sure (begins kinds.IfWord) (if_plan) switch_on (next_is (λ kind. is kind kinds.IfWord) _ ends_line refl) (next_is_not (λ kind. is kind kinds.IfWord) _ ends_line refl) if_sure switch_on_sure

  abbrev block_on : Plan Sort
  block_on = Either (begins kinds.OpenBrace) (Part sorts.Block) if_on

  block_on_sure : AreSure block_on
  block_on_sure = either_sure (begins kinds.OpenBrace) (Part sorts.Block) if_on (next_is (λ kind. is kind kinds.OpenBrace) _ ends_line refl) (next_is_not (λ kind. is kind kinds.OpenBrace) _ ends_line refl) (sure (Part sorts.Block) (refl, refl)) if_on_sure

  abbrev fallthrough_on : Plan Sort
  fallthrough_on = Either (begins kinds.FallthroughWord) (Node forms.FallthroughForm (plans.word kinds.FallthroughWord)) block_on

  fallthrough_on_sure : AreSure fallthrough_on
  fallthrough_on_sure = either_sure (begins kinds.FallthroughWord) (Node forms.FallthroughForm (plans.word kinds.FallthroughWord)) block_on (next_is (λ kind. is kind kinds.FallthroughWord) _ ends_line refl) (next_is_not (λ kind. is kind kinds.FallthroughWord) _ ends_line refl) (sure (Node forms.FallthroughForm (plans.word kinds.FallthroughWord)) tt) block_on_sure

  abbrev continue_on : Plan Sort
  continue_on = Either (begins kinds.ContinueWord) (Node forms.ContinueForm (Then (plans.word kinds.ContinueWord) (plans.maybe_word kinds.Name))) fallthrough_on

  continue_on_sure : AreSure continue_on
  continue_on_sure = either_sure (begins kinds.ContinueWord) (Node forms.ContinueForm (Then (plans.word kinds.ContinueWord) (plans.maybe_word kinds.Name))) fallthrough_on (next_is (λ kind. is kind kinds.ContinueWord) _ ends_line refl) (next_is_not (λ kind. is kind kinds.ContinueWord) _ ends_line refl) (sure (Node forms.ContinueForm (Then (plans.word kinds.ContinueWord) (plans.maybe_word kinds.Name))) (tt, (next_is (λ kind. is kind kinds.Name) _ _ refl, next_is_not (λ kind. is kind kinds.Name) _ _ refl, tt, tt))) fallthrough_on_sure

  abbrev break_on : Plan Sort
  break_on = Either (begins kinds.BreakWord) (Node forms.BreakForm (Then (plans.word kinds.BreakWord) (plans.maybe_word kinds.Name))) continue_on

  break_on_sure : AreSure break_on
  break_on_sure = either_sure (begins kinds.BreakWord) (Node forms.BreakForm (Then (plans.word kinds.BreakWord) (plans.maybe_word kinds.Name))) continue_on (next_is (λ kind. is kind kinds.BreakWord) _ ends_line refl) (next_is_not (λ kind. is kind kinds.BreakWord) _ ends_line refl) (sure (Node forms.BreakForm (Then (plans.word kinds.BreakWord) (plans.maybe_word kinds.Name))) (tt, (next_is (λ kind. is kind kinds.Name) _ _ refl, next_is_not (λ kind. is kind kinds.Name) _ _ refl, tt, tt))) continue_on_sure

  abbrev return_on : Plan Sort
  return_on = Either (begins kinds.ReturnWord) (Node forms.ReturnForm (Then (plans.word kinds.ReturnWord) (plans.maybe stmts.goes_on (stmts.exprs sorts.Plain)))) break_on

  return_on_sure : AreSure return_on
  return_on_sure = either_sure (begins kinds.ReturnWord) (Node forms.ReturnForm (Then (plans.word kinds.ReturnWord) (plans.maybe stmts.goes_on (stmts.exprs sorts.Plain)))) break_on (next_is (λ kind. is kind kinds.ReturnWord) _ ends_line refl) (next_is_not (λ kind. is kind kinds.ReturnWord) _ ends_line refl) (sure (Node forms.ReturnForm (Then (plans.word kinds.ReturnWord) (plans.maybe stmts.goes_on (stmts.exprs sorts.Plain)))) (tt, ((λ tree rest x f. ap not (ends_test (yield tree ++ rest) ∙ next_is_not ends_line _ _ refl tree rest x f)), (λ tree rest x f. ap not (ends_test (yield tree ++ rest) ∙ next_is ends_line _ _ refl tree rest x f)), list_sure follow_unlabeled deficit_unlabeled (expr_sort sorts.Plain) ends_line 2 refl refl refl refl refl refl, tt))) break_on_sure

  abbrev defer_on : Plan Sort
  defer_on = Either (begins kinds.DeferWord) (Node forms.DeferForm (Then (plans.word kinds.DeferWord) (stmts.expr sorts.Plain))) return_on

  defer_on_sure : AreSure defer_on
  defer_on_sure = either_sure (begins kinds.DeferWord) (Node forms.DeferForm (Then (plans.word kinds.DeferWord) (stmts.expr sorts.Plain))) return_on (next_is (λ kind. is kind kinds.DeferWord) _ ends_line refl) (next_is_not (λ kind. is kind kinds.DeferWord) _ ends_line refl) (sure (Node forms.DeferForm (Then (plans.word kinds.DeferWord) (stmts.expr sorts.Plain))) (tt, (refl, refl))) return_on_sure

  abbrev go_on : Plan Sort
  go_on = Either (begins kinds.GoWord) (Node forms.GoForm (Then (plans.word kinds.GoWord) (stmts.expr sorts.Plain))) defer_on

  go_on_sure : AreSure go_on
  go_on_sure = either_sure (begins kinds.GoWord) (Node forms.GoForm (Then (plans.word kinds.GoWord) (stmts.expr sorts.Plain))) defer_on (next_is (λ kind. is kind kinds.GoWord) _ ends_line refl) (next_is_not (λ kind. is kind kinds.GoWord) _ ends_line refl) (sure (Node forms.GoForm (Then (plans.word kinds.GoWord) (stmts.expr sorts.Plain))) (tt, (refl, refl))) defer_on_sure

  unlabeled_sure : AreSure unlabeled_plan
  unlabeled_sure = either_sure (is_next begins_decl) (Part sorts.LocalDecl) go_on (next_is begins_decl _ ends_line refl) (next_is_not begins_decl _ ends_line refl) (sure (Part sorts.LocalDecl) (refl, refl)) go_on_sure

-- ---- labels

abbrev follow_statement : Sort → Kind → Bool
follow_statement sorts.Unlabeled kind = ends_line kind
follow_statement _ kind = false

abbrev deficit_statement : Sort → ℕ
deficit_statement sorts.Unlabeled = 1
deficit_statement _ = 0

both_true : (a b : Bool) → a ≡ true → b ≡ true → (a && b) ≡ true
both_true true b h k = k
both_true false b h k = absurd cc

module _ (depth : ℕ) where
  abbrev IsNext : Sort → Forest → List Token → Type 0
  IsNext sort tree rest = IsRoomy follow_statement deficit_statement depth sort tree rest

  labels_chosen : {tree : Forest} {rest : List Token} (x : Fits grammar (shapes.Many (shape_of label)) tree rest) → begins_both kinds.Name kinds.Colon rest ≡ false → AreChosen grammar IsNext (begins_both kinds.Name kinds.Colon) (λ tree rest y. IsChosen grammar IsNext label y) x
  labels_chosen shapes.done h = h
  labels_chosen (shapes.more (shapes.both (shapes.sign {token = name} n) (shapes.sign {token = colon} c)) y) h = (both_true (is name.kind kinds.Name) (is colon.kind kinds.Colon) n c, omega arith, (tt, tt), labels_chosen y h)

  abbrev inner_plan : Plan Sort
  inner_plan = plans.maybe stmts.goes_on (Part sorts.Unlabeled)

  inner_front : (tree : Forest) (rest : List Token) → Fits grammar (shape_of inner_plan) tree rest → IsFirst ends_line rest → begins_both kinds.Name kinds.Colon (yield tree ++ rest) ≡ false
  inner_front tree rest (shapes.first x) f = unlabeled_front tree rest x f
  inner_front tree rest (shapes.second shapes.nothing) f = begins_other_first kinds.Name kinds.Colon rest (behind_is_not (λ kind. is kind kinds.Name) ends_line refl rest f)

  inner_sure : Sure follow_statement deficit_statement inner_plan ends_line 1
  inner_sure = ((λ tree rest x f. ap not (ends_test (yield tree ++ rest) ∙ next_is_not ends_line _ _ refl tree rest x f)), (λ tree rest x f. ap not (ends_test (yield tree ++ rest) ∙ next_is ends_line _ _ refl tree rest x f)), (refl, refl), tt)

  statement_chosen : {tree : Forest} {rest : List Token} (x : Fits grammar (shape_of statement_plan) tree rest) → IsFirst ends_line rest → length (yield tree) + 1 ≤ depth → IsChosen grammar IsNext statement_plan x
  statement_chosen (shapes.first (shapes.below (shapes.both (shapes.both (shapes.sign {token = name} n) (shapes.sign {token = colon} c)) (shapes.both {left = labels} {right = inner} {rest = rest} l u)))) f le =
      let whole = ap length (append-nil (name ∷ colon ∷ yield (append labels inner))) in
      let split = ap length (yield-append labels inner) in
      let all = length-append (yield labels) (yield inner) in
      (both_true (is name.kind kinds.Name) (is colon.kind kinds.Colon) n c, ((tt, tt), (labels_chosen l (inner_front inner rest u f), chosen follow_statement deficit_statement depth inner_plan ends_line 1 inner_sure u f (omega (arith, le, whole, split, all)))))
  statement_chosen (shapes.second {tree = tree} {rest = rest} x) f le = (unlabeled_front tree rest x f, record { next = f; fits = le })

module _ (p : Parsers) (depth : ℕ) (r : Rereads p depth) where
  at_unlabeled_again : (sort : Sort) (tree : Forest) (rest : List Token) → Fits grammar (shapes.Part sort) tree rest → IsReady depth sort tree rest → at_unlabeled p sort (yield tree ++ rest) ≡ Some (tree, rest)
  at_unlabeled_again sorts.LocalDecl tree rest x room = let le = room.fits in decl_again p depth r tree rest x room.next (omega (arith, le))
  at_unlabeled_again sorts.Switch tree rest x room = let le = room.fits in switch_again p depth r tree rest x room.next (omega (arith, le))
  at_unlabeled_again sorts.Loop tree rest x room = let le = room.fits in loop_again p depth r tree rest x room.next (omega (arith, le))
  at_unlabeled_again sorts.IfRest tree rest x room = let le = room.fits in if_rest_again p depth r tree rest x room.next (omega (arith, le))
  at_unlabeled_again sorts.Block tree rest x room = let le = room.fits in block_again p depth r tree rest x (omega (arith, le))
  at_unlabeled_again sorts.CommClause tree rest x room = let le = room.fits in comm_clause_again p depth r tree rest x room.next (omega (arith, le))
  at_unlabeled_again (sorts.Simple sorts.Plain) tree rest x room = let le = room.fits in simple_again p depth r sorts.Plain tree rest x (plain_ends rest room.next) (omega (arith, le))
  at_unlabeled_again (sorts.Binary sorts.Disjunction sorts.Plain) tree rest x room =
      let le = room.fits in
      let ends = ends_all Plain rest room.next in
      r.expr Plain 1 tree rest (omega arith) (omega arith) x ends.operand ends.operator (omega (arith, le))
  at_unlabeled_again _ tree rest x room = let clash : false ≡ true = room.next.kind in absurd cc

  unlabeled_again : (tree : Forest) (rest : List Token) → Fits grammar (shapes.Part sorts.Unlabeled) tree rest → IsFirst ends_line rest → length (yield tree) + 1 ≤ depth → unlabeled_in p (yield tree ++ rest) ≡ Some (tree, rest)
  unlabeled_again tree rest x f le = run_again grammar (IsReady depth) (at_unlabeled p) at_unlabeled_again unlabeled_plan (unpart x) (unlabeled_sure depth tree rest (unpart x) f le)

  at_statement_again : (sort : Sort) (tree : Forest) (rest : List Token) → Fits grammar (shapes.Part sort) tree rest → IsNext depth sort tree rest → at_statement p sort (yield tree ++ rest) ≡ Some (tree, rest)
  at_statement_again sorts.Unlabeled tree rest x room = unlabeled_again tree rest x room.next room.fits
  at_statement_again _ tree rest x room = let clash : false ≡ true = room.next.kind in absurd cc

  at_lines_again : (sort : Sort) (tree : Forest) (rest : List Token) → Fits grammar (shapes.Part sort) tree rest → IsRoomy follow_lines deficit_lines depth sort tree rest → at_lines p sort (yield tree ++ rest) ≡ Some (tree, rest)
  at_lines_again sorts.Statement tree rest x room = run_again grammar (IsNext depth) (at_statement p) at_statement_again statement_plan (unpart x) (statement_chosen depth (unpart x) room.next room.fits)
  at_lines_again _ tree rest x room = let clash : false ≡ true = room.next.kind in absurd cc

  -- ---- lines

  lines_first : (rest : List Token) → ends_statements rest ≡ true → IsFirst ends_lines rest
  lines_first [] h = absurd cc
  lines_first (token ∷ rest) h = record { token = token; others = rest; all = refl; kind = h }

  pub lines_again : (tree : Forest) (rest : List Token) → Fits grammar (shapes.Part sorts.Lines) tree rest → ends_statements rest ≡ true → length (yield tree) < depth → lines_in p (yield tree ++ rest) ≡ Some (tree, rest)
  lines_again tree rest x h le = plan_again follow_lines deficit_lines depth (at_lines p) at_lines_again lines_plan ends_lines 1 lines_sure (unpart x) (lines_first rest h) (omega (arith, le))
