-- `switch` and `select` are read again.
use Rattle.std.proofs.Common.{◌≡◌, ℕ, ◌+◌, ◌≤◌, ◌<◌, Bool, true, false, List, ◌∷◌, ◌++◌, length, Some, refl, sym, ap, ◌∙◌, subst, arith}
use Rattle.std.proofs.lemmas.List.{append-nil, length-append}
use Rattle.std.specs.Prelude.{◌&&◌}
use Rattle.go_ast.specs.declared.token.Kind.TheVariants as kinds
use Rattle.go_ast.specs.declared.token.Token.{Token}
use Rattle.go_grammar.specs.Forests as forms
use Rattle.go_grammar.specs.Forests.{Forest, empty, leaf, node, append, yield}
use Rattle.go_grammar.specs.Shapes as shapes
use Rattle.go_grammar.specs.Shapes.{Shape, Fits, is, ◌⨟◌}
use Rattle.go_grammar.specs.Grammar as sorts
use Rattle.go_grammar.specs.Grammar.{Sort, Context, grammar, is_assign, is_step, is_semicolon}
use Rattle.go_grammar.specs.Reading.{run, shape_of}
use Rattle.go_grammar.specs.Tests.{begins}
use Rattle.go_grammar.specs.TypeReading.{Parsers}
use Rattle.go_grammar.specs.StmtReading.{at_part, optional_simple_in, clause_plan, clauses_plan, at_clauses, guard_plan, is_primary, guard_of, tag_of, switch_in, is_comm, is_one_assigned, is_one_defined, behind_list, comm_in, comm_plan, at_comm}
use Rattle.go_grammar.proofs.Forests.{yield-append, append-assoc}
use Rattle.go_grammar.proofs.Nodes.{behind_exprs}
use Rattle.go_grammar.proofs.SameKinds.{is_same}
use Rattle.go_grammar.proofs.Again.{regroup}
use Rattle.go_grammar.proofs.Fronts.{IsFirst}
use Rattle.go_grammar.proofs.Choices.{IsRoomy, first_behind, behind, behind_is, behind_is_not}
use Rattle.go_grammar.proofs.Plans.{unpart, plan_again}
use Rattle.go_grammar.proofs.TypeChoices.{anything}
use Rattle.go_grammar.proofs.Rereads.{Rereads}
use Rattle.go_grammar.proofs.DeclChoices.{follow_part, deficit_part, ends_lines}
use Rattle.go_grammar.proofs.DeclAgain.{at_part_again, lines_end}
use Rattle.go_grammar.proofs.SimpleAgain.{EndsSimple, single_list, single_expr, simple_again}
use Rattle.go_grammar.proofs.HeaderAgain.{narrowed, ends_stmt, plain_ends, braced_ends, brace_stops, optional_some, optional_none, header_again, expr_stmt}
use Rattle.go_grammar.proofs.StmtChoices.{follow_clauses, no_deficit, follow_comm, deficit_comm, clause_sure, clauses_sure, guard_sure, comm_sure}

-- ---- guards

suffixed_primary : {sort : Sort} {tree : Forest} {rest : List Token} → Fits grammar (sorts.suffixed sort) tree rest → is_primary tree ≡ true
suffixed_primary (shapes.first (shapes.below x)) = refl
suffixed_primary (shapes.second (shapes.first (shapes.below x))) = refl
suffixed_primary (shapes.second (shapes.second (shapes.first (shapes.below x)))) = refl
suffixed_primary (shapes.second (shapes.second (shapes.second (shapes.first (shapes.below x))))) = refl
suffixed_primary (shapes.second (shapes.second (shapes.second (shapes.second (shapes.first (shapes.below x)))))) = refl
suffixed_primary (shapes.second (shapes.second (shapes.second (shapes.second (shapes.second (shapes.below x)))))) = refl

operand_primary : {tree : Forest} {rest : List Token} → Fits grammar sorts.operand tree rest → is_primary tree ≡ true
operand_primary (shapes.first (shapes.below x)) = refl
operand_primary (shapes.second (shapes.first (shapes.below x))) = refl
operand_primary (shapes.second (shapes.second (shapes.first (shapes.below x)))) = refl
operand_primary (shapes.second (shapes.second (shapes.second (shapes.first (shapes.below x))))) = refl
operand_primary (shapes.second (shapes.second (shapes.second (shapes.second (shapes.first (shapes.below x)))))) = refl
operand_primary (shapes.second (shapes.second (shapes.second (shapes.second (shapes.second (shapes.first (shapes.below x))))))) = refl
operand_primary (shapes.second (shapes.second (shapes.second (shapes.second (shapes.second (shapes.second (shapes.first (shapes.below x)))))))) = refl
operand_primary (shapes.second (shapes.second (shapes.second (shapes.second (shapes.second (shapes.second (shapes.second (shapes.below x)))))))) = refl

primary_is : {tree : Forest} {rest : List Token} → Fits grammar (shapes.Part (sorts.Primary sorts.Header)) tree rest → is_primary tree ≡ true
primary_is (shapes.part (shapes.first (shapes.part x))) = operand_primary x
primary_is (shapes.part (shapes.second x)) = suffixed_primary x

-- an operand as an expression
primary_expr : {tree : Forest} {rest : List Token} → Fits grammar (shapes.Part (sorts.Primary sorts.Header)) tree rest → Fits grammar (sorts.Expr sorts.Header) tree rest
primary_expr x = shapes.part (shapes.second (shapes.part (shapes.second (shapes.part (shapes.second (shapes.part (shapes.second (shapes.part (shapes.second (shapes.part (shapes.second x)))))))))))

-- a name as an expression
name_expr : (name : Token) (rest : List Token) → is name.kind kinds.Name ≡ true → Fits grammar (sorts.Expr sorts.Header) (node forms.NameForm (leaf name empty) empty) rest
name_expr name rest e = primary_expr (shapes.part (shapes.first (shapes.part (shapes.second (shapes.second (shapes.second (shapes.first (shapes.below (shapes.sign e)))))))))

-- the statement that a guard is read as
record GuardStmt (guard : Forest) (rest : List Token) : Type 0 where
  pub stmt : Forest
  pub fine : Fits grammar (shapes.Part (sorts.Simple sorts.Header)) stmt rest
  pub found : guard_of stmt ≡ Some guard
  pub text : yield stmt ≡ yield guard

abbrev binding : Shape Sort
binding = shapes.maybe (shapes.word kinds.Name ⨟ shapes.word kinds.Define)

guard_stmt : {name operand : Forest} {tokens rest : List Token} → Fits grammar binding name tokens → Fits grammar (shapes.Part (sorts.Primary sorts.Header)) operand rest → GuardStmt (append name operand) rest
guard_stmt {operand = operand} {rest = rest} (shapes.second shapes.nothing) x =
    let is_one = primary_is x in
    record { stmt = node forms.ExprForm operand empty; fine = expr_stmt operand rest (primary_expr x); found = rw is_one refl; text = append-nil (yield operand) }
guard_stmt {operand = operand} {rest = rest} (shapes.first (shapes.both (shapes.sign {token = name} n) (shapes.sign {token = define} d))) x =
    let is_one = primary_is x in
    let targets = single_list sorts.Header (name_expr name (define ∷ (yield operand ++ rest)) n) in
    record {
      stmt = node forms.DefineForm (node forms.NameForm (leaf name empty) (leaf define operand)) empty;
      fine = shapes.part (shapes.second (shapes.below (shapes.both targets (shapes.both (shapes.sign d) (single_list sorts.Header (primary_expr x))))));
      found = rw is_one refl;
      text = append-nil (name ∷ define ∷ yield operand);
    }

-- before `.(type)` an operand ends
guard_ends : (dot opened word : Token) (rest : List Token) → is dot.kind kinds.Dot ≡ true → is opened.kind kinds.OpenParen ≡ true → is word.kind kinds.TypeWord ≡ true → EndsSimple sorts.Header (dot ∷ opened ∷ word ∷ rest)
guard_ends dot opened word rest d o w =
    let dot_is : dot.kind ≡ kinds.Dot = is_same dot.kind kinds.Dot d in
    record {
      ends = record { operand = rw (dot_is, o, w) refl; operator = rw dot_is (omega arith) };
      comma = rw dot_is refl;
      assign = rw dot_is refl;
      define = rw dot_is refl;
      arrow = rw dot_is refl;
      step = rw dot_is refl;
    }

guard_front : {tree : Forest} {rest : List Token} → Fits grammar (shape_of guard_plan) tree rest → EndsSimple sorts.Header (yield tree ++ rest)
guard_front (shapes.both (shapes.sign {token = dot} d) (shapes.both (shapes.sign {token = opened} o) (shapes.both (shapes.sign {token = word} w) x))) = guard_ends dot opened word _ d o w

guard_dot : {tree : Forest} {rest : List Token} → Fits grammar (shape_of guard_plan) tree rest → IsFirst (λ kind. is kind kinds.Dot) (yield tree ++ rest)
guard_dot (shapes.both (shapes.sign {token = dot} d) x) = record { token = dot; others = _; all = refl; kind = d }

module _ (p : Parsers) (depth : ℕ) (r : Rereads p depth) where
  -- ---- clauses

  at_clauses_again : (sort : Sort) (tree : Forest) (rest : List Token) → Fits grammar (shapes.Part sort) tree rest → IsRoomy follow_clauses no_deficit depth sort tree rest → at_clauses p sort (yield tree ++ rest) ≡ Some (tree, rest)
  at_clauses_again sorts.CaseClause tree rest x room = plan_again follow_part deficit_part depth (at_part p) (at_part_again p depth r) clause_plan ends_lines 0 clause_sure (unpart x) room.next room.fits
  at_clauses_again _ tree rest x room = let clash : false ≡ true = room.next.kind in absurd cc

  clauses_again : (tree : Forest) (rest : List Token) → Fits grammar (shape_of clauses_plan) tree rest → IsFirst anything rest → length (yield tree) ≤ depth → run (at_clauses p) clauses_plan (yield tree ++ rest) ≡ Some (tree, rest)
  clauses_again tree rest x f le = plan_again follow_clauses no_deficit depth (at_clauses p) at_clauses_again clauses_plan anything 0 clauses_sure x f (omega (arith, le))

  guard_again : (tree : Forest) (rest : List Token) → Fits grammar (shape_of guard_plan) tree rest → IsFirst anything rest → length (yield tree) ≤ depth → run (at_clauses p) guard_plan (yield tree ++ rest) ≡ Some (tree, rest)
  guard_again tree rest x f le = plan_again follow_clauses no_deficit depth (at_clauses p) at_clauses_again guard_plan anything 0 guard_sure x f (omega (arith, le))

  -- ---- switch

  -- what is decided, as it is read in a header
  record TagStmt (tag rest : Forest) (behind : List Token) : Type 0 where
    pub stmt : Forest
    pub read : optional_simple_in p (yield stmt ++ (yield rest ++ behind)) ≡ Some (stmt, yield rest ++ behind)
    pub found : tag_of stmt ≡ Some tag
    pub text : yield stmt ≡ yield tag

  clauses_brace : {tree : Forest} {rest : List Token} → Fits grammar (shape_of clauses_plan) tree rest → IsFirst anything rest → IsFirst (λ kind. is kind kinds.OpenBrace) (yield tree ++ rest)
  clauses_brace {tree} {rest} x f = narrowed (behind (shape_of clauses_plan) anything) (λ kind. is kind kinds.OpenBrace) refl (yield tree ++ rest) (first_behind anything x f)

  tag_stmt : (tag clauses : Forest) (rest : List Token) → Fits grammar (shapes.maybe (sorts.Expr sorts.Header)) tag (yield clauses ++ rest) → IsFirst (λ kind. is kind kinds.OpenBrace) (yield clauses ++ rest) → length (yield tag) < depth → TagStmt tag clauses rest
  tag_stmt tag clauses rest x f le = go x f le
    where
      go : {tag : Forest} → Fits grammar (shapes.maybe (sorts.Expr sorts.Header)) tag (yield clauses ++ rest) → IsFirst (λ kind. is kind kinds.OpenBrace) (yield clauses ++ rest) → length (yield tag) < depth → TagStmt tag clauses rest
      go (shapes.first {tree = tag} x) f le =
          let same = append-nil (yield tag) in
          record {
            stmt = node forms.ExprForm tag empty;
            read = optional_some p depth r (node forms.ExprForm tag empty) (yield clauses ++ rest) (expr_stmt tag (yield clauses ++ rest) x) (braced_ends (yield clauses ++ rest) f) (omega (arith, le, ap length same));
            found = refl;
            text = same;
          }
      go (shapes.second shapes.nothing) f le =
          record { stmt = empty; read = optional_none p depth r (yield clauses ++ rest) (brace_stops (yield clauses ++ rest) (behind_is (λ kind. is kind kinds.OpenBrace) (λ kind. is kind kinds.OpenBrace) refl (yield clauses ++ rest) f)); found = refl; text = refl }

  -- tokens of what is read in a header
  header_text : (stmt tag clauses : Forest) (rest : List Token) → yield stmt ≡ yield tag → yield stmt ++ (yield clauses ++ rest) ≡ yield (append tag clauses) ++ rest
  header_text stmt tag clauses rest e = ap (λ (front : List Token). front ++ (yield clauses ++ rest)) e ∙ sym (regroup tag clauses rest)

  switch_read : (word : Token) (init tag clauses : Forest) (rest : List Token) → is word.kind kinds.SwitchWord ≡ true → Fits grammar sorts.init init (yield (append tag clauses) ++ rest) → Fits grammar (shapes.maybe (sorts.Expr sorts.Header)) tag (yield clauses ++ rest) → Fits grammar (shape_of clauses_plan) clauses rest → IsFirst anything rest
      → length (yield (node forms.SwitchForm (leaf word (append init (append tag clauses))) empty)) ≤ depth
      → switch_in p (yield (node forms.SwitchForm (leaf word (append init (append tag clauses))) empty) ++ rest) ≡ Some (node forms.SwitchForm (leaf word (append init (append tag clauses))) empty, rest)
  switch_read word init tag clauses rest w i t c f le =
      let whole = ap length (append-nil (word ∷ yield (append init (append tag clauses)))) in
      let all = length-append (yield init) (yield (append tag clauses)) in
      let split = ap length (yield-append init (append tag clauses)) in
      let inner = ap length (yield-append tag clauses) in
      let two = length-append (yield tag) (yield clauses) in
      let brace = clauses_brace c f in
      let stmt = tag_stmt tag clauses rest t brace (omega (arith, le, whole, all, split, inner, two)) in
      let text = header_text stmt.stmt tag clauses rest stmt.text in
      let i' = subst (λ (behind : List Token). Fits grammar sorts.init init behind) (sym text) i in
      let header = header_again p depth r init stmt.stmt (yield clauses ++ rest) i' stmt.read (behind_is_not is_semicolon (λ kind. is kind kinds.OpenBrace) refl (yield clauses ++ rest) brace) (omega (arith, le, whole, all, split, inner, two)) in
      let no_dot : begins kinds.Dot (yield clauses ++ rest) ≡ false = behind_is_not (λ kind. is kind kinds.Dot) (λ kind. is kind kinds.OpenBrace) refl (yield clauses ++ rest) brace in
      let found = stmt.found in
      let read = clauses_again clauses rest c f (omega (arith, le, whole, all, split, inner, two)) in
      let final : switch_in p (word ∷ (yield init ++ (yield stmt.stmt ++ (yield clauses ++ rest)))) ≡ Some (node forms.SwitchForm (leaf word (append init (append tag clauses))) empty, rest) = rw (w, header, no_dot, found, read) refl in
      ap (λ (front : List Token). switch_in p (front ++ rest)) (append-nil (word ∷ yield (append init (append tag clauses))))
      ∙ ap (λ (ws : List Token). switch_in p (word ∷ ws)) (regroup init (append tag clauses) rest ∙ ap (λ (ws : List Token). yield init ++ ws) (sym text)) ∙ final

  type_switch_read : (word : Token) (init name operand behind : Forest) (rest : List Token) → is word.kind kinds.SwitchWord ≡ true → Fits grammar sorts.init init (yield (append name (append operand behind)) ++ rest) → Fits grammar binding name (yield (append operand behind) ++ rest)
      → Fits grammar (shapes.Part (sorts.Primary sorts.Header)) operand (yield behind ++ rest) → Fits grammar (shape_of guard_plan) behind rest → IsFirst anything rest
      → length (yield (node forms.TypeSwitchForm (leaf word (append init (append name (append operand behind)))) empty)) ≤ depth
      → switch_in p (yield (node forms.TypeSwitchForm (leaf word (append init (append name (append operand behind)))) empty) ++ rest) ≡ Some (node forms.TypeSwitchForm (leaf word (append init (append name (append operand behind)))) empty, rest)
  type_switch_read word init name operand behind rest w i n o g f le =
      let whole = ap length (append-nil (word ∷ yield (append init (append name (append operand behind))))) in
      let all = length-append (yield init) (yield (append name (append operand behind))) in
      let split = ap length (yield-append init (append name (append operand behind))) in
      let assoc = append-assoc name operand behind in
      let inner : length (yield (append name (append operand behind))) ≡ length (yield (append name operand)) + length (yield behind) = ap (λ (t : Forest). length (yield t)) (sym assoc) ∙ ap length (yield-append (append name operand) behind) ∙ length-append (yield (append name operand)) (yield behind) in
      let stmt = guard_stmt n o in
      let long = ap length stmt.text in
      let dot = guard_dot g in
      let text : yield stmt.stmt ++ (yield behind ++ rest) ≡ yield (append name (append operand behind)) ++ rest =
      ap (λ (front : List Token). front ++ (yield behind ++ rest)) stmt.text ∙ sym (regroup (append name operand) behind rest) ∙ ap (λ (t : Forest). yield t ++ rest) assoc in
      let i' = subst (λ (behind : List Token). Fits grammar sorts.init init behind) (sym text) i in
      let opt = optional_some p depth r stmt.stmt (yield behind ++ rest) stmt.fine (guard_front g) (omega (arith, le, whole, all, split, inner, long)) in
      let header = header_again p depth r init stmt.stmt (yield behind ++ rest) i' opt (behind_is_not is_semicolon (λ kind. is kind kinds.Dot) refl (yield behind ++ rest) dot) (omega (arith, le, whole, all, split)) in
      let is_guard : begins kinds.Dot (yield behind ++ rest) ≡ true = behind_is (λ kind. is kind kinds.Dot) (λ kind. is kind kinds.Dot) refl (yield behind ++ rest) dot in
      let found = stmt.found in
      let read = guard_again behind rest g f (omega (arith, le, whole, all, split, inner)) in
      let final : switch_in p (word ∷ (yield init ++ (yield stmt.stmt ++ (yield behind ++ rest)))) ≡ Some (node forms.TypeSwitchForm (leaf word (append init (append (append name operand) behind))) empty, rest) = rw (w, header, is_guard, found, read) refl in
      ap (λ (front : List Token). switch_in p (front ++ rest)) (append-nil (word ∷ yield (append init (append name (append operand behind)))))
      ∙ ap (λ (ws : List Token). switch_in p (word ∷ ws)) (regroup init (append name (append operand behind)) rest ∙ ap (λ (ws : List Token). yield init ++ ws) (sym text)) ∙ final
      ∙ ap (λ (t : Forest). Some (node forms.TypeSwitchForm (leaf word (append init t)) empty, rest)) assoc

  pub switch_again : (tree : Forest) (rest : List Token) → Fits grammar (shapes.Part sorts.Switch) tree rest → IsFirst anything rest → length (yield tree) ≤ depth → switch_in p (yield tree ++ rest) ≡ Some (tree, rest)
  switch_again tree rest x f le = go (unpart x) f le
    where
      go : {tree : Forest} {rest : List Token} → Fits grammar (grammar sorts.Switch) tree rest → IsFirst anything rest → length (yield tree) ≤ depth → switch_in p (yield tree ++ rest) ≡ Some (tree, rest)
      go (shapes.first (shapes.below {rest = rest} (shapes.both (shapes.sign {token = word} w) (shapes.both {left = init} i (shapes.both {left = tag} {right = clauses} t c))))) f le = switch_read word init tag clauses rest w i t c f le
      go (shapes.second (shapes.below {rest = rest} (shapes.both (shapes.sign {token = word} w) (shapes.both {left = init} i (shapes.both {left = name} n (shapes.both {left = operand} {right = behind} o g)))))) f le = type_switch_read word init name operand behind rest w i n o g f le

  -- ---- select

  -- what stands behind `case` as a statement
  record CommStmt (tree : Forest) (rest : List Token) : Type 0 where
    pub fine : Fits grammar (shapes.Part (sorts.Simple sorts.Plain)) tree rest
    pub comm : is_comm tree ≡ true

  both_true : (a b : Bool) → a ≡ true → b ≡ true → (a && b) ≡ true
  both_true true b h k = k
  both_true false b h k = absurd cc

  comm_stmt : {tree : Forest} {rest : List Token} → Fits grammar (grammar sorts.Comm) tree rest → CommStmt tree rest
  comm_stmt (shapes.first (shapes.below x)) = record { fine = shapes.part (shapes.first (shapes.second (shapes.first (shapes.below x)))); comm = refl }
  comm_stmt (shapes.second (shapes.first (shapes.below (shapes.both {left = targets} t (shapes.both {right = value} (shapes.sign {token = operator} e) v))))) =
      let same : operator.kind ≡ kinds.Assign = is_same operator.kind kinds.Assign e in
      let assign : is_assign operator.kind ≡ true = rw same refl in
      let no_comma : is operator.kind kinds.Comma ≡ false = rw same refl in
      let found : behind_list (append targets (leaf operator value)) ≡ Some (operator, value) = behind_exprs sorts.Plain t (leaf operator value) ∙ rw no_comma refl in
      record {
        fine = shapes.part (shapes.first (shapes.second (shapes.second (shapes.second (shapes.below (shapes.both t (shapes.both (shapes.sign assign) (single_list sorts.Plain v))))))));
        comm = ap is_one_assigned found ∙ both_true (is operator.kind kinds.Assign) _ e (single_expr sorts.Plain v);
      }
  comm_stmt (shapes.second (shapes.second (shapes.first (shapes.below (shapes.both {left = targets} t (shapes.both {right = value} (shapes.sign {token = operator} e) v)))))) =
      let same : operator.kind ≡ kinds.Define = is_same operator.kind kinds.Define e in
      let no_comma : is operator.kind kinds.Comma ≡ false = rw same refl in
      let found : behind_list (append targets (leaf operator value)) ≡ Some (operator, value) = behind_exprs sorts.Plain t (leaf operator value) ∙ rw no_comma refl in
      record { fine = shapes.part (shapes.second (shapes.below (shapes.both t (shapes.both (shapes.sign e) (single_list sorts.Plain v))))); comm = ap is_one_defined found ∙ single_expr sorts.Plain v }
  comm_stmt (shapes.second (shapes.second (shapes.second (shapes.below x)))) = record { fine = shapes.part (shapes.first (shapes.first (shapes.below x))); comm = refl }

  comm_again : (tree : Forest) (rest : List Token) → Fits grammar (shapes.Part sorts.Comm) tree rest → IsFirst ends_stmt rest → length (yield tree) < depth → comm_in p (yield tree ++ rest) ≡ Some (tree, rest)
  comm_again tree rest x f le =
      let s = comm_stmt (unpart x) in
      let read = simple_again p depth r sorts.Plain tree rest s.fine (plain_ends rest f) le in
      let comm = s.comm in
      rw (read, comm) refl

  at_comm_again : (sort : Sort) (tree : Forest) (rest : List Token) → Fits grammar (shapes.Part sort) tree rest → IsRoomy follow_comm deficit_comm depth sort tree rest → at_comm p sort (yield tree ++ rest) ≡ Some (tree, rest)
  at_comm_again sorts.Comm tree rest x room = let le = room.fits in comm_again tree rest x (narrowed (λ kind. is kind kinds.Colon) ends_stmt refl rest room.next) (omega (arith, le))
  at_comm_again sorts.Lines tree rest x room = let le = room.fits in r.statements tree rest x (lines_end rest room.next) (omega (arith, le))
  at_comm_again _ tree rest x room = let clash : false ≡ true = room.next.kind in absurd cc

  pub comm_clause_again : (tree : Forest) (rest : List Token) → Fits grammar (shapes.Part sorts.CommClause) tree rest → IsFirst ends_lines rest → length (yield tree) ≤ depth → run (at_comm p) comm_plan (yield tree ++ rest) ≡ Some (tree, rest)
  comm_clause_again tree rest x f le = plan_again follow_comm deficit_comm depth (at_comm p) at_comm_again comm_plan ends_lines 0 comm_sure (unpart x) f (omega (arith, le))
