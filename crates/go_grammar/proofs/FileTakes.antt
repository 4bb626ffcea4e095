-- What is read of blocks and files fits, and stands at the front.
use Rattle.std.proofs.Common.{◌≡◌, Bool, true, false, cond, List, ◌++◌, Some, None, refl, sym, ap, ◌∙◌, append_assoc}
use Rattle.go_ast.specs.declared.token.Kind.{Kind}
use Rattle.go_ast.specs.declared.token.Kind.TheVariants as kinds
use Rattle.go_ast.specs.declared.token.Token.{Token}
use Rattle.go_grammar.specs.Forests.{Form, Forest, empty, leaf, node, append, yield}
use Rattle.go_grammar.specs.Forests as forms
use Rattle.go_grammar.specs.Shapes as shapes
use Rattle.go_grammar.specs.Shapes.{Shape, Fits, part, below, first, second, both, sign, nothing, is}
use Rattle.go_grammar.specs.Grammar as sorts
use Rattle.go_grammar.specs.Grammar.{Sort, Context, grammar}
use Rattle.go_grammar.specs.Reading.{Part}
use Rattle.go_grammar.specs.Tests.{begins, begins_semicolon, ◌⨟◌, word, maybe, semicolon, not_empty}
use Rattle.go_grammar.specs.TypeReading.{Parsers, params_in}
use Rattle.go_grammar.specs.ExprReading.{block_in}
use Rattle.go_grammar.specs.StmtReading.{at_part, expr, HeaderParts, expr_of, clause_plan, clauses_plan, at_clauses, guard_of, guard_plan, tag_of, switch_rest_in, switch_in, is_comm, comm_in, comm_plan, at_comm, while_in, is_define, for_clauses_in, range_in, is_range_assign, begins_range, for_rest_in, for_in, at_unlabeled, unlabeled_plan, unlabeled_in, at_statement, statement_plan, at_lines, lines_plan, lines_in, receiver_plan, at_package, package_plan, import_spec_plan, at_import, import_plan, at_file, file_plan, file_in}
use Rattle.go_grammar.proofs.Outcome.{Yields, yields_some, yields_none, yields_bind, yields_if}
use Rattle.go_grammar.proofs.Takes.{run_takes}
use Rattle.go_grammar.proofs.TypeTakes.{Had, Got, got_of, yields_part, Sound}
use Rattle.go_grammar.proofs.Forests.{append-assoc, yield-append}
use Rattle.go_grammar.proofs.Pieces.{word_takes, then_had, node_had, first_had, second_had, none_had, had_as}
use Rattle.go_grammar.proofs.ExprTakes.{block_takes}
use Rattle.go_grammar.proofs.StmtTakes.{sign_takes, expr_had, tag_had, guard_had, comm_fits, at_part_takes, decl_takes, exprs_takes, simple_rest_takes, simple_takes, optional_simple_takes, GotHeader, header_takes, if_rest_takes}

-- what was read in a header of a `for` and is no definition
post_fits : {tree : Forest} {rest : List Token} → Fits grammar (shapes.maybe (shapes.Part (sorts.Simple sorts.Header))) tree rest → is_define tree ≡ false → Fits grammar (shapes.maybe (sorts.without_define sorts.Header)) tree rest
post_fits (first (part (first x))) h = first x
post_fits (first (part (second (below x)))) h = absurd cc
post_fits (second x) h = second x

range_kind : (kind : Kind) → is_range_assign kind ≡ true → (is kind kinds.Assign ≡ false) → is kind kinds.Define ≡ true
range_kind kinds.Assign h e = absurd cc
range_kind kinds.Define h e = refl
range_kind _ h e = absurd cc

assign_fits : {tree : Forest} {rest : List Token} → Fits grammar (shapes.Sign is_range_assign) tree rest → Fits grammar (shapes.Either (shapes.word kinds.Assign) (shapes.word kinds.Define)) tree rest
assign_fits (sign {token = token} e) = go (is token.kind kinds.Assign) refl
  where
    go : {rest : List Token} (b : Bool) → is token.kind kinds.Assign ≡ b → Fits grammar (shapes.Either (shapes.word kinds.Assign) (shapes.word kinds.Define)) (leaf token empty) rest
    go true k = first (sign k)
    go false k = second (sign (range_kind token.kind e k))

module _ (p : Parsers) (s : Sound p) (params_takes : (tokens : List Token) → Yields (params_in p true tokens) (Got sorts.Params tokens)) (results_takes : (tokens : List Token) → Yields (params_in p false tokens) (Got sorts.Results tokens)) where
  -- ---- switch

  at_clauses_takes : (sort : Sort) (tokens : List Token) → Yields (at_clauses p sort tokens) (Got sort tokens)
  at_clauses_takes sorts.CaseClause tokens = yields_part sorts.CaseClause tokens _ (run_takes grammar (at_part p) (at_part_takes p s params_takes results_takes) clause_plan tokens)
  at_clauses_takes _ tokens = yields_none

  switch_rest_takes : (tokens : List Token) (opened : Forest × List Token) (parts : HeaderParts × List Token) → Had (shapes.word kinds.SwitchWord) tokens opened → GotHeader opened.1 parts → Yields (switch_rest_in p opened.0 parts.0 parts.1) (Got sorts.Switch tokens)
  switch_rest_takes tokens opened parts o g =
      yields_if (begins kinds.Dot parts.1)
      (λ t. yields_bind {P = λ guard. guard_of parts.0.last ≡ Some guard} (record { given = λ guard e. e }) (λ guard e.
      yields_bind (run_takes grammar (at_clauses p) at_clauses_takes guard_plan parts.1) (λ x h.
      let k = guard_had parts.0.last guard g.middle parts.1 g.last e in
      let all = then_had o (then_had g.init (then_had k.named (then_had k.primary h))) in
      let same : append opened.0 (append parts.0.init (append k.name (append k.operand x.0))) ≡ append opened.0 (append parts.0.init (append guard x.0)) =
      ap (λ (t : Forest). append opened.0 (append parts.0.init t)) (sym (append-assoc k.name k.operand x.0) ∙ ap (λ (t : Forest). append t x.0) k.all) in
      yields_some (got_of sorts.Switch tokens _ (second_had (had_as (ap (λ (t : Forest). node forms.TypeSwitchForm t empty) same) (node_had forms.TypeSwitchForm all)))))))
      (λ f. yields_bind {P = λ tag. tag_of parts.0.last ≡ Some tag} (record { given = λ tag e. e }) (λ tag e.
      yields_bind (run_takes grammar (at_clauses p) at_clauses_takes clauses_plan parts.1) (λ x h.
      yields_some (got_of sorts.Switch tokens _ (first_had (node_had forms.SwitchForm (then_had o (then_had g.init (then_had (tag_had parts.0.last tag g.middle parts.1 g.last e) h)))))))))

  switch_takes : (tokens : List Token) → Yields (switch_in p tokens) (Got sorts.Switch tokens)
  switch_takes tokens =
      yields_bind (word_takes kinds.SwitchWord tokens) (λ opened o.
      yields_bind (header_takes p s params_takes results_takes opened.1) (λ parts g.
      switch_rest_takes tokens opened parts o g))

  -- ---- select

  comm_takes : (tokens : List Token) → Yields (comm_in p tokens) (Got sorts.Comm tokens)
  comm_takes tokens =
      yields_bind (simple_takes p s params_takes results_takes sorts.Plain tokens) (λ x g.
      yields_if (is_comm x.0) (λ t. yields_some (record { text = g.text; fine = comm_fits g.fine t })) (λ f. yields_none))

  at_comm_takes : (sort : Sort) (tokens : List Token) → Yields (at_comm p sort tokens) (Got sort tokens)
  at_comm_takes sorts.Comm tokens = comm_takes tokens
  at_comm_takes sorts.Lines tokens = s.statements tokens
  at_comm_takes _ tokens = yields_none

  -- ---- for

  module _ (tokens : List Token) (opened : Forest × List Token) (o : Had (shapes.word kinds.ForWord) tokens opened) where
    while_takes : (condition : Forest) (rest : List Token) → Had (shapes.maybe (sorts.Expr sorts.Header)) opened.1 (condition, rest) → Yields (while_in p opened.0 condition rest) (Got sorts.Loop tokens)
    while_takes condition rest g =
        yields_bind (block_takes p s params_takes results_takes rest) (λ body b.
        yields_some (got_of sorts.Loop tokens _ (first_had (node_had forms.WhileForm (then_had o (then_had g b))))))

    for_clauses_takes : (init : Forest) (rest : List Token) → Had (shapes.maybe (shapes.Part (sorts.Simple sorts.Header))) opened.1 (init, rest) → Yields (for_clauses_in p opened.0 init rest) (Got sorts.Loop tokens)
    for_clauses_takes init rest g =
        yields_bind (run_takes grammar (at_part p) (at_part_takes p s params_takes results_takes) (semicolon ⨟ maybe not_empty (expr sorts.Header) ⨟ semicolon) rest) (λ front f.
        yields_bind (optional_simple_takes p s params_takes results_takes front.1) (λ post h.
        yields_bind (post_takes post h) (λ body b.
        yields_some (got_of sorts.Loop tokens _ (second_had (first_had (for_had front post body f b.0 b.1)))))))
      where
        post_takes : (post : Forest × List Token) {at : List Token} → Had (shapes.maybe (shapes.Part (sorts.Simple sorts.Header))) at post
            → Yields (cond (is_define post.0) None (block_in p post.1)) (λ body. Had (shapes.maybe (sorts.without_define sorts.Header)) at post × Got sorts.Block post.1 body)
        post_takes post {at} h =
            yields_if (is_define post.0) (λ t. yields_none)
            (λ f. record { given = λ body e. (record { text = h.text; fine = post_fits h.fine f }, (block_takes p s params_takes results_takes post.1).given body e) })

        for_had : (front post body : Forest × List Token) → Had (shapes.Then sorts.semicolon (shapes.Then (shapes.maybe (sorts.Expr sorts.Header)) sorts.semicolon)) rest front → Had (shapes.maybe (sorts.without_define sorts.Header)) front.1 post → Got sorts.Block post.1 body
            → Had (shapes.Node forms.ForForm (shapes.Then (shapes.word kinds.ForWord) (shapes.Then (shapes.maybe (shapes.Part (sorts.Simple sorts.Header))) (shapes.Then sorts.semicolon (shapes.Then (shapes.maybe (sorts.Expr sorts.Header)) (shapes.Then sorts.semicolon
            (shapes.Then (shapes.maybe (sorts.without_define sorts.Header)) (shapes.Part sorts.Block)))))))) tokens (node forms.ForForm (append opened.0 (append init (append front.0 (append post.0 body.0)))) empty, body.1)
        for_had front post body f h b = go front.0 f.text f.fine
          where
            go : (tree : Forest) → rest ≡ yield tree ++ front.1 → Fits grammar (shapes.Then sorts.semicolon (shapes.Then (shapes.maybe (sorts.Expr sorts.Header)) sorts.semicolon)) tree front.1
                → Had (shapes.Node forms.ForForm (shapes.Then (shapes.word kinds.ForWord) (shapes.Then (shapes.maybe (shapes.Part (sorts.Simple sorts.Header))) (shapes.Then sorts.semicolon (shapes.Then (shapes.maybe (sorts.Expr sorts.Header)) (shapes.Then sorts.semicolon
                (shapes.Then (shapes.maybe (sorts.without_define sorts.Header)) (shapes.Part sorts.Block)))))))) tokens (node forms.ForForm (append opened.0 (append init (append tree (append post.0 body.0)))) empty, body.1)
            go tree text (both {left = one} x (both {left = two} {right = three} y z)) =
                let first_one : Had sorts.semicolon rest (one, yield (append two three) ++ front.1) = record { text = text ∙ ap (λ (ws : List Token). ws ++ front.1) (yield-append one (append two three)) ∙ append_assoc (yield one) (yield (append two three)) front.1; fine = x } in
                let next : Had (shapes.maybe (sorts.Expr sorts.Header)) (yield (append two three) ++ front.1) (two, yield three ++ front.1) = record { text = ap (λ (ws : List Token). ws ++ front.1) (yield-append two three) ∙ append_assoc (yield two) (yield three) front.1; fine = y } in
                let last : Had sorts.semicolon (yield three ++ front.1) (three, front.1) = record { text = refl; fine = z } in
                let same : append opened.0 (append init (append one (append two (append three (append post.0 body.0))))) ≡ append opened.0 (append init (append (append one (append two three)) (append post.0 body.0))) =
                ap (λ (t : Forest). append opened.0 (append init t)) (ap (append one) (sym (append-assoc two three (append post.0 body.0))) ∙ sym (append-assoc one (append two three) (append post.0 body.0))) in
                had_as (ap (λ (t : Forest). node forms.ForForm t empty) same) (node_had forms.ForForm (then_had o (then_had g (then_had first_one (then_had next (then_had last (then_had h b)))))))

    range_takes : (targets : Forest) (rest : List Token) → Had (shapes.maybe (shapes.Then (sorts.exprs sorts.Header) (shapes.Either (shapes.word kinds.Assign) (shapes.word kinds.Define)))) opened.1 (targets, rest) → Yields (range_in p opened.0 targets rest) (Got sorts.Loop tokens)
    range_takes targets rest g =
        yields_bind (run_takes grammar (at_part p) (at_part_takes p s params_takes results_takes) (word kinds.RangeWord ⨟ expr sorts.Header ⨟ Part sorts.Block) rest) (λ x h.
        yields_some (got_of sorts.Loop tokens _ (second_had (second_had (node_had forms.RangeForm (then_had o (then_had g h)))))))

    for_rest_takes : (targets : Forest × List Token) → Had (sorts.exprs sorts.Header) opened.1 targets → Yields (for_rest_in p opened.0 targets.0 targets.1) (Got sorts.Loop tokens)
    for_rest_takes targets g =
        yields_if (begins_range targets.1)
        (λ t. yields_bind (sign_takes is_range_assign targets.1) (λ operator h.
        range_takes (append targets.0 operator.0) operator.1 (first_had (then_had g (record { text = h.text; fine = assign_fits h.fine })))))
        (λ f. yields_bind (simple_rest_takes p s params_takes results_takes sorts.Header opened.1 targets g) (λ stmt h.
        yields_if (begins_semicolon stmt.1)
        (λ t. for_clauses_takes stmt.0 stmt.1 (first_had h))
        (λ f. yields_bind {P = λ condition. expr_of stmt.0 ≡ Some condition} (record { given = λ condition e. e }) (λ condition e.
        while_takes condition stmt.1 (first_had (expr_had stmt.0 condition opened.1 stmt.1 (first_had h) e))))))

  for_takes : (tokens : List Token) → Yields (for_in p tokens) (Got sorts.Loop tokens)
  for_takes tokens =
      yields_bind (word_takes kinds.ForWord tokens) (λ opened o.
      yields_if (begins kinds.RangeWord opened.1)
      (λ t. range_takes tokens opened o empty opened.1 (second_had none_had))
      (λ f. yields_if (begins_semicolon opened.1)
      (λ t. for_clauses_takes tokens opened o empty opened.1 (second_had none_had))
      (λ f. yields_if (begins kinds.OpenBrace opened.1)
      (λ t. while_takes tokens opened o empty opened.1 (second_had none_had))
      (λ f. yields_bind (exprs_takes p s params_takes results_takes sorts.Header opened.1) (λ targets g. for_rest_takes tokens opened o targets g)))))

  -- ---- statements

  at_unlabeled_takes : (sort : Sort) (tokens : List Token) → Yields (at_unlabeled p sort tokens) (Got sort tokens)
  at_unlabeled_takes sorts.LocalDecl tokens = decl_takes p s params_takes results_takes tokens
  at_unlabeled_takes sorts.Switch tokens = switch_takes tokens
  at_unlabeled_takes sorts.Loop tokens = for_takes tokens
  at_unlabeled_takes (sorts.Simple sorts.Plain) tokens = simple_takes p s params_takes results_takes sorts.Plain tokens
  at_unlabeled_takes sorts.CommClause tokens = yields_part sorts.CommClause tokens _ (run_takes grammar (at_comm p) at_comm_takes comm_plan tokens)
  at_unlabeled_takes sorts.IfRest tokens = if_rest_takes p s params_takes results_takes tokens
  at_unlabeled_takes sort tokens = at_part_takes p s params_takes results_takes sort tokens

  unlabeled_takes : (tokens : List Token) → Yields (unlabeled_in p tokens) (Got sorts.Unlabeled tokens)
  unlabeled_takes tokens = yields_part sorts.Unlabeled tokens _ (run_takes grammar (at_unlabeled p) at_unlabeled_takes unlabeled_plan tokens)

  at_statement_takes : (sort : Sort) (tokens : List Token) → Yields (at_statement p sort tokens) (Got sort tokens)
  at_statement_takes sorts.Unlabeled tokens = unlabeled_takes tokens
  at_statement_takes _ tokens = yields_none

  at_lines_takes : (sort : Sort) (tokens : List Token) → Yields (at_lines p sort tokens) (Got sort tokens)
  at_lines_takes sorts.Statement tokens = yields_part sorts.Statement tokens _ (run_takes grammar (at_statement p) at_statement_takes statement_plan tokens)
  at_lines_takes _ tokens = yields_none

  pub lines_takes : (tokens : List Token) → Yields (lines_in p tokens) (Got sorts.Lines tokens)
  lines_takes tokens = yields_part sorts.Lines tokens _ (run_takes grammar (at_lines p) at_lines_takes lines_plan tokens)

  -- ---- files

  at_package_takes : (sort : Sort) (tokens : List Token) → Yields (at_package p sort tokens) (Got sort tokens)
  at_package_takes sorts.LocalDecl tokens = decl_takes p s params_takes results_takes tokens
  at_package_takes sorts.Receiver tokens = yields_part sorts.Receiver tokens _ (run_takes grammar (at_part p) (at_part_takes p s params_takes results_takes) receiver_plan tokens)
  at_package_takes sort tokens = at_part_takes p s params_takes results_takes sort tokens

  at_import_takes : (sort : Sort) (tokens : List Token) → Yields (at_import sort tokens) (Got sort tokens)
  at_import_takes sorts.ImportSpec tokens = yields_part sorts.ImportSpec tokens _ (run_takes grammar (λ sort tokens. None) (λ sort tokens. yields_none) import_spec_plan tokens)
  at_import_takes _ tokens = yields_none

  pub at_file_takes : (sort : Sort) (tokens : List Token) → Yields (at_file p sort tokens) (Got sort tokens)
  at_file_takes sorts.Import tokens = yields_part sorts.Import tokens _ (run_takes grammar at_import at_import_takes import_plan tokens)
  at_file_takes sorts.PackageDecl tokens = yields_part sorts.PackageDecl tokens _ (run_takes grammar (at_package p) at_package_takes package_plan tokens)
  at_file_takes _ tokens = yields_none

  pub file_takes : (tokens : List Token) → Yields (file_in p tokens) (Got sorts.File tokens)
  file_takes tokens = yields_part sorts.File tokens _ (run_takes grammar (at_file p) at_file_takes file_plan tokens)
