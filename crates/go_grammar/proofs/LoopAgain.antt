-- Loops are read again.
use Rattle.std.proofs.Common.{◌≡◌, ℕ, ◌≤◌, ◌<◌, Bool, true, false, List, ◌∷◌, ◌++◌, length, Some, refl, sym, ap, ◌∙◌, subst, arith}
use Rattle.std.proofs.lemmas.List.{append-nil, length-append}
use Rattle.std.specs.Prelude.{not}
use Rattle.go_ast.specs.declared.token.Kind.{Kind}
use Rattle.go_ast.specs.declared.token.Kind.TheVariants as kinds
use Rattle.go_ast.specs.declared.token.Token.{Token}
use Rattle.go_grammar.specs.Forests.{Form, Forest, empty, leaf, node, append, yield}
use Rattle.go_grammar.specs.Forests as forms
use Rattle.go_grammar.specs.Shapes as shapes
use Rattle.go_grammar.specs.Shapes.{Shape, Fits, part, below, first, second, both, sign, nothing, is}
use Rattle.go_grammar.specs.Grammar as sorts
use Rattle.go_grammar.specs.Grammar.{Sort, grammar, is_semicolon}
use Rattle.go_grammar.specs.Reading.{Part, run}
use Rattle.go_grammar.specs.Tests.{begins, begins_semicolon, ◌⨟◌, word, maybe, not_empty, semicolon}
use Rattle.go_grammar.specs.TypeReading.{Parsers}
use Rattle.go_grammar.specs.ExprReading.{Left}
use Rattle.go_grammar.specs.StmtReading.{at_part, expr, exprs_in, optional_simple_in, is_define, while_in, for_clauses_in, range_in, is_range_assign, begins_range, for_in}
use Rattle.go_grammar.proofs.Forests.{yield-append, append-assoc}
use Rattle.go_grammar.proofs.SameKinds.{is_same}
use Rattle.go_grammar.proofs.Cuts.{implied}
use Rattle.go_grammar.proofs.Again.{regroup, run_again}
use Rattle.go_grammar.proofs.Fronts.{begins_expr, IsFirst}
use Rattle.go_grammar.proofs.Choices.{behind_is_not}
use Rattle.go_grammar.proofs.Plans.{flip}
use Rattle.go_grammar.proofs.TypeChoices.{anything}
use Rattle.go_grammar.proofs.Rereads.{Rereads}
use Rattle.go_grammar.proofs.Reaching.{starts, starts_not, node_spelled, node_long}
use Rattle.go_grammar.proofs.ExprAgain.{first_implied, block_again}
use Rattle.go_grammar.proofs.DeclChoices.{ends_header}
use Rattle.go_grammar.proofs.DeclAgain.{ends_head}
use Rattle.go_grammar.proofs.SimpleAgain.{EndsSimple, expr_again, exprs_again, simple_read}
use Rattle.go_grammar.proofs.HeaderAgain.{ends_header_stmt, header_ends, semicolon_ends, braced_ends, brace_stops, optional_some, optional_none, expr_stmt}

abbrev opens_block : Kind → Bool
opens_block kind = is kind kinds.OpenBrace

block_front : (body : Forest) (rest : List Token) → Fits grammar (shapes.Part sorts.Block) body rest → IsFirst opens_block (yield body ++ rest)
block_front body rest x = starts sorts.Block body rest refl x

not_define : {tree : Forest} {rest : List Token} → Fits grammar (sorts.without_define sorts.Header) tree rest → is_define tree ≡ false
not_define (first (below x)) = refl
not_define (second (first (below x))) = refl
not_define (second (second (first (below x)))) = refl
not_define (second (second (second (below x)))) = refl

range_operator : (operator word : Token) (rest : List Token) → is_range_assign operator.kind ≡ true → is word.kind kinds.RangeWord ≡ true → begins_range (operator ∷ word ∷ rest) ≡ true
range_operator operator word rest o w = rw (o, w) refl

abbrev range_shape : Shape Sort
range_shape = shapes.Then (shapes.word kinds.RangeWord) (shapes.Then (sorts.Expr sorts.Header) (shapes.Part sorts.Block))

abbrev targets_shape : Shape Sort
targets_shape = shapes.maybe (shapes.Then (sorts.exprs sorts.Header) (shapes.Either (shapes.word kinds.Assign) (shapes.word kinds.Define)))

-- the clauses of a loop, from the first semicolon on
abbrev front_shape : Shape Sort
front_shape = shapes.Then sorts.semicolon (shapes.Then (shapes.maybe (sorts.Expr sorts.Header)) sorts.semicolon)

front_first : (tree : Forest) (rest : List Token) → Fits grammar front_shape tree rest → IsFirst is_semicolon (yield tree ++ rest)
front_first tree rest (both {right = right} (sign {token = semi} s) x) = record { token = semi; others = yield right ++ rest; all = refl; kind = s }

range_front : (tree : Forest) (rest : List Token) → Fits grammar range_shape tree rest → IsFirst (λ kind. is kind kinds.RangeWord) (yield tree ++ rest)
range_front tree rest (both {right = right} (sign {token = front} w) x) = record { token = front; others = yield right ++ rest; all = refl; kind = w }

exprs_front : (tree : Forest) (rest : List Token) → Fits grammar (sorts.exprs sorts.Header) tree rest → IsFirst begins_expr (yield tree ++ rest)
exprs_front tree rest (both {left = left} {right = right} x y) =
    let f = starts (sorts.Binary sorts.Disjunction sorts.Header) left (yield right ++ rest) refl x in
    record { token = f.token; others = f.others; all = regroup left right rest ∙ f.all; kind = f.kind }

-- how long the parts of a loop with clauses are
for_sizes : (opened : Token) (init : Forest) (semi : Token) (condition : Forest) (semi' : Token) (post body : Forest) (depth : ℕ) → length (yield (node forms.ForForm (leaf opened (append init (leaf semi (append condition (leaf semi' (append post body)))))) empty)) ≤ depth
    → (length (yield init) < depth) × (length (yield (leaf semi (append condition (leaf semi' empty)))) ≤ depth) × (length (yield post) < depth) × (length (yield body) ≤ depth)
for_sizes opened init semi condition semi' post body depth le =
    let after = append post body in
    let middle = append condition (leaf semi' after) in
    let a = node_long forms.ForForm (leaf opened empty) (append init (leaf semi middle)) in
    let b = ap length (yield-append init (leaf semi middle)) in
    let c = length-append (yield init) (yield (leaf semi middle)) in
    let d = ap length (yield-append condition (leaf semi' after)) in
    let e = length-append (yield condition) (yield (leaf semi' after)) in
    let f = ap length (yield-append post body) in
    let g = length-append (yield post) (yield body) in
    let h = ap length (yield-append condition (leaf semi' empty)) in
    let i = length-append (yield condition) (yield (leaf semi' empty)) in
    (omega arith, omega arith, omega arith, omega arith)

-- what an expression begins with ends no header
at_front : (tokens : List Token) → IsFirst begins_expr tokens → (begins kinds.RangeWord tokens ≡ false) × (begins_semicolon tokens ≡ false) × (begins kinds.OpenBrace tokens ≡ false)
at_front tokens f = (starts_not begins_expr kinds.RangeWord tokens refl f, behind_is_not is_semicolon begins_expr refl tokens f, starts_not begins_expr kinds.OpenBrace tokens refl f)

module _ (p : Parsers) (depth : ℕ) (r : Rereads p depth) where
  abbrev IsRead : Sort → Forest → List Token → Type 0
  IsRead sort tree rest = at_part p sort (yield tree ++ rest) ≡ Some (tree, rest)

  -- ---- the three rests

  while_read : (opened condition body : Forest) (rest : List Token) → Fits grammar (shapes.Part sorts.Block) body rest → length (yield body) ≤ depth → while_in p opened condition (yield body ++ rest) ≡ Some (node forms.WhileForm (append opened (append condition body)) empty, rest)
  while_read opened condition body rest x le = let read = block_again p depth r body rest x le in rw read refl

  range_read : (opened targets tree : Forest) (rest : List Token) → Fits grammar range_shape tree rest → length (yield tree) ≤ depth → range_in p opened targets (yield tree ++ rest) ≡ Some (node forms.RangeForm (append opened (append targets tree)) empty, rest)
  range_read opened targets tree rest x le = let read = go x le in rw read refl
    where
      go : {tree : Forest} {rest : List Token} → Fits grammar range_shape tree rest → length (yield tree) ≤ depth → run (at_part p) (word kinds.RangeWord ⨟ expr sorts.Header ⨟ Part sorts.Block) (yield tree ++ rest) ≡ Some (tree, rest)
      go (both (sign {token = front} w) (both {left = value} {right = body} {rest = rest} v b)) le =
          let len = ap length (yield-append value body) in
          let len' = length-append (yield value) (yield body) in
          let ends = (braced_ends (yield body ++ rest) (block_front body rest b)).ends in
          run_again grammar IsRead (at_part p) (λ sort tree rest y h. h) (word kinds.RangeWord ⨟ expr sorts.Header ⨟ Part sorts.Block) (both (sign w) (both v b))
          (tt, (expr_again p depth r sorts.Header value (yield body ++ rest) v ends (omega arith), block_again p depth r body rest b (omega arith)))

  front_read : (tree : Forest) (rest : List Token) → Fits grammar front_shape tree rest → length (yield tree) ≤ depth → run (at_part p) (semicolon ⨟ maybe not_empty (expr sorts.Header) ⨟ semicolon) (yield tree ++ rest) ≡ Some (tree, rest)
  front_read tree rest (both (sign {token = semi} s) (both {left = condition} (first c) (sign {token = semi'} s'))) le =
      let len = ap length (yield-append condition (leaf semi' empty)) in
      let len' = length-append (yield condition) (yield (leaf semi' empty)) in
      let ends = (semicolon_ends semi' rest s').ends in
      let f = starts (sorts.Binary sorts.Disjunction sorts.Header) condition (semi' ∷ rest) refl c in
      run_again grammar IsRead (at_part p) (λ sort tree rest y h. h) (semicolon ⨟ maybe not_empty (expr sorts.Header) ⨟ semicolon) (both (sign s) (both (first c) (sign s')))
      (tt, ((ap not (at_front (yield condition ++ (semi' ∷ rest)) f).1, expr_again p depth r sorts.Header condition (semi' ∷ rest) c ends (omega arith)), tt))
  front_read tree rest (both (sign {token = semi} s) (both (second nothing) (sign {token = semi'} s'))) le =
      run_again grammar IsRead (at_part p) (λ sort tree rest y h. h) (semicolon ⨟ maybe not_empty (expr sorts.Header) ⨟ semicolon) (both (sign s) (both (second nothing) (sign s'))) (tt, ((ap not s', tt), tt))

  post_read : (post : Forest) (rest : List Token) → Fits grammar (shapes.maybe (sorts.without_define sorts.Header)) post rest → IsFirst opens_block rest → length (yield post) < depth → (optional_simple_in p (yield post ++ rest) ≡ Some (post, rest)) × (is_define post ≡ false)
  post_read post rest (first x) f lt = (optional_some p depth r post rest (part (first x)) (braced_ends rest f) lt, not_define x)
  post_read post rest (second nothing) f lt = (optional_none p depth r rest (brace_stops rest (ap (begins kinds.OpenBrace) f.all ∙ f.kind)), refl)

  clauses_read : (opened init front post body : Forest) (rest : List Token) → Fits grammar front_shape front (yield post ++ (yield body ++ rest)) → Fits grammar (shapes.maybe (sorts.without_define sorts.Header)) post (yield body ++ rest) → Fits grammar (shapes.Part sorts.Block) body rest
      → length (yield front) ≤ depth → length (yield post) < depth → length (yield body) ≤ depth
      → for_clauses_in p opened init (yield front ++ (yield post ++ (yield body ++ rest))) ≡ Some (node forms.ForForm (append opened (append init (append front (append post body)))) empty, rest)
  clauses_read opened init front post body rest x y z le lt le' =
      let read = front_read front (yield post ++ (yield body ++ rest)) x le in
      let read' = post_read post (yield body ++ rest) y (block_front body rest z) lt in
      let read'' = block_again p depth r body rest z le' in
      rw (read, read'.0, read'.1, read'') refl

  -- ---- a simple statement first

  for_init : (opened : Token) (init : Forest) (rest : List Token) (x : Left) → is opened.kind kinds.ForWord ≡ true → Fits grammar (shapes.Part (sorts.Simple sorts.Header)) init rest → EndsSimple sorts.Header rest → begins_semicolon rest ≡ true → length (yield init) < depth
      → for_clauses_in p (leaf opened empty) init rest ≡ Some x → for_in p (opened ∷ (yield init ++ rest)) ≡ Some x
  for_init opened init rest x o y ends semi lt h =
      let f = at_front (yield init ++ rest) (starts (sorts.Simple sorts.Header) init rest refl y) in
      let s = simple_read p depth r sorts.Header init rest y ends lt in
      let list = s.list in
      let others = s.others in
      let no_range = s.no_range in
      rw (o, f.0, f.1, f.2, list, no_range, others, semi) h

  for_condition : (opened : Token) (condition : Forest) (rest : List Token) (x : Left) → is opened.kind kinds.ForWord ≡ true → Fits grammar (sorts.Expr sorts.Header) condition rest → IsFirst opens_block rest → length (yield condition) < depth
      → while_in p (leaf opened empty) condition rest ≡ Some x → for_in p (opened ∷ (yield condition ++ rest)) ≡ Some x
  for_condition opened condition rest x o y b lt h =
      let stmt = node forms.ExprForm condition empty in
      let f = at_front (yield condition ++ rest) (starts (sorts.Binary sorts.Disjunction sorts.Header) condition rest refl y) in
      let s = simple_read p depth r sorts.Header stmt rest (expr_stmt condition rest y) (braced_ends rest b) (omega (arith, ap length (append-nil (yield condition)))) in
      let list = ap (λ (ws : List Token). exprs_in p sorts.Header (ws ++ rest)) (sym (append-nil (yield condition))) ∙ s.list in
      let others = s.others in
      let no_range = s.no_range in
      let semi = behind_is_not is_semicolon opens_block refl rest b in
      rw (o, f.0, f.1, f.2, list, no_range, others, semi) h

  for_range : (opened : Token) (targets : Forest) (operator : Token) (rest : List Token) (x : Left) → is opened.kind kinds.ForWord ≡ true → Fits grammar (sorts.exprs sorts.Header) targets (operator ∷ rest) → is_range_assign operator.kind ≡ true → begins kinds.RangeWord rest ≡ true
      → length (yield targets) < depth → range_in p (leaf opened empty) (append targets (leaf operator empty)) rest ≡ Some x → for_in p (opened ∷ (yield targets ++ (operator ∷ rest))) ≡ Some x
  for_range opened targets operator rest x o y k w lt h =
      let f = at_front (yield targets ++ (operator ∷ rest)) (exprs_front targets (operator ∷ rest) y) in
      let ends = ends_head (operator ∷ rest) (record { token = operator; others = rest; all = refl; kind = implied is_range_assign ends_header refl operator.kind k }) in
      let no_comma : is operator.kind kinds.Comma ≡ false = flip (is operator.kind kinds.Comma) (implied is_range_assign (λ kind. not (is kind kinds.Comma)) refl operator.kind k) in
      let list = exprs_again p depth r sorts.Header targets (operator ∷ rest) y ends no_comma lt in
      rw (o, f.0, f.1, f.2, list, k, w) h

  -- ---- the three forms

  while_again : (opened : Token) (condition body : Forest) (rest : List Token) → is opened.kind kinds.ForWord ≡ true → Fits grammar (shapes.maybe (sorts.Expr sorts.Header)) condition (yield body ++ rest) → Fits grammar (shapes.Part sorts.Block) body rest
      → length (yield condition) < depth → length (yield body) ≤ depth → for_in p (opened ∷ (yield condition ++ (yield body ++ rest))) ≡ Some (node forms.WhileForm (leaf opened (append condition body)) empty, rest)
  while_again opened condition body rest o (first c) b lt le =
      for_condition opened condition (yield body ++ rest) _ o c (block_front body rest b) lt (while_read (leaf opened empty) condition body rest b le)
  while_again opened condition body rest o (second nothing) b lt le =
      let f = block_front body rest b in
      let no_range : begins kinds.RangeWord (yield body ++ rest) ≡ false = starts_not opens_block kinds.RangeWord (yield body ++ rest) refl f in
      let no_semicolon = behind_is_not is_semicolon opens_block refl (yield body ++ rest) f in
      let brace : begins kinds.OpenBrace (yield body ++ rest) ≡ true = ap (begins kinds.OpenBrace) f.all ∙ f.kind in
      rw (o, no_range, no_semicolon, brace) (while_read (leaf opened empty) empty body rest b le)

  clauses_again : (opened : Token) (init front post body : Forest) (rest : List Token) → is opened.kind kinds.ForWord ≡ true → Fits grammar (shapes.maybe (shapes.Part (sorts.Simple sorts.Header))) init (yield front ++ (yield post ++ (yield body ++ rest)))
      → Fits grammar front_shape front (yield post ++ (yield body ++ rest)) → Fits grammar (shapes.maybe (sorts.without_define sorts.Header)) post (yield body ++ rest) → Fits grammar (shapes.Part sorts.Block) body rest
      → length (yield init) < depth → length (yield front) ≤ depth → length (yield post) < depth → length (yield body) ≤ depth
      → for_in p (opened ∷ (yield init ++ (yield front ++ (yield post ++ (yield body ++ rest))))) ≡ Some (node forms.ForForm (leaf opened (append init (append front (append post body)))) empty, rest)
  clauses_again opened init front post body rest o (first i) x y z lt le lt' le' =
      let semi = front_first front (yield post ++ (yield body ++ rest)) x in
      let all = yield front ++ (yield post ++ (yield body ++ rest)) in
      for_init opened init all _ o i (header_ends all (first_implied is_semicolon ends_header_stmt all refl semi)) (ap begins_semicolon semi.all ∙ semi.kind) lt (clauses_read (leaf opened empty) init front post body rest x y z le lt' le')
  clauses_again opened init front post body rest o (second nothing) x y z lt le lt' le' =
      let semi = front_first front (yield post ++ (yield body ++ rest)) x in
      let all = yield front ++ (yield post ++ (yield body ++ rest)) in
      let no_range : begins kinds.RangeWord all ≡ false = starts_not is_semicolon kinds.RangeWord all refl semi in
      let begins_it : begins_semicolon all ≡ true = ap begins_semicolon semi.all ∙ semi.kind in
      rw (o, no_range, begins_it) (clauses_read (leaf opened empty) empty front post body rest x y z le lt' le')

  bound_again : (opened : Token) (list : Forest) (operator : Token) (tree : Forest) (rest : List Token) → is opened.kind kinds.ForWord ≡ true → Fits grammar (sorts.exprs sorts.Header) list (operator ∷ (yield tree ++ rest)) → is_range_assign operator.kind ≡ true → Fits grammar range_shape tree rest
      → length (yield (append list (leaf operator empty))) ≤ depth → length (yield tree) ≤ depth
      → for_in p (opened ∷ (yield (append list (leaf operator empty)) ++ (yield tree ++ rest))) ≡ Some (node forms.RangeForm (leaf opened (append (append list (leaf operator empty)) tree)) empty, rest)
  bound_again opened list operator tree rest o x k y le le' =
      let len = ap length (yield-append list (leaf operator empty)) in
      let len' = length-append (yield list) (yield (leaf operator empty)) in
      let f = range_front tree rest y in
      ap (λ (ws : List Token). for_in p (opened ∷ ws)) (regroup list (leaf operator empty) (yield tree ++ rest))
      ∙ for_range opened list operator (yield tree ++ rest) _ o x k (ap (begins kinds.RangeWord) f.all ∙ f.kind) (omega arith) (range_read (leaf opened empty) (append list (leaf operator empty)) tree rest y le')

  range_again : (opened : Token) (targets tree : Forest) (rest : List Token) → is opened.kind kinds.ForWord ≡ true → Fits grammar targets_shape targets (yield tree ++ rest) → Fits grammar range_shape tree rest → length (yield targets) ≤ depth → length (yield tree) ≤ depth
      → for_in p (opened ∷ (yield targets ++ (yield tree ++ rest))) ≡ Some (node forms.RangeForm (leaf opened (append targets tree)) empty, rest)
  range_again opened targets tree rest o (first (both {left = list} x (first (sign {token = operator} e)))) y le le' =
      let k = is_same operator.kind kinds.Assign e in
      bound_again opened list operator tree rest o x (rw k refl) y le le'
  range_again opened targets tree rest o (first (both {left = list} x (second (sign {token = operator} e)))) y le le' =
      let k = is_same operator.kind kinds.Define e in
      bound_again opened list operator tree rest o x (rw k refl) y le le'
  range_again opened targets tree rest o (second nothing) y le le' =
      let f = range_front tree rest y in
      let ranges : begins kinds.RangeWord (yield tree ++ rest) ≡ true = ap (begins kinds.RangeWord) f.all ∙ f.kind in
      rw (o, ranges) (range_read (leaf opened empty) empty tree rest y le')

  pub loop_again : (tree : Forest) (rest : List Token) → Fits grammar (shapes.Part sorts.Loop) tree rest → IsFirst anything rest → length (yield tree) ≤ depth → for_in p (yield tree ++ rest) ≡ Some (tree, rest)
  loop_again tree rest (part (first (below (both (sign {token = opened} o) (both {left = condition} {right = body} c b))))) f le =
      let len = node_long forms.WhileForm (leaf opened empty) (append condition body) in
      let len' = ap length (yield-append condition body) in
      let len'' = length-append (yield condition) (yield body) in
      ap (λ (ws : List Token). for_in p (opened ∷ ws)) (node_spelled forms.WhileForm condition body rest) ∙ while_again opened condition body rest o c b (omega arith) (omega arith)
  loop_again tree rest (part (second (first (below (both (sign {token = opened} o) (both {left = init} i (both (sign {token = semi} s) (both {left = condition} c (both (sign {token = semi'} s') (both {left = post} {right = body} y z)))))))))) f le =
      let after = append post body in
      let middle = append condition (leaf semi' after) in
      let front = leaf semi (append condition (leaf semi' empty)) in
      let tail = yield post ++ (yield body ++ rest) in
      let same : yield after ++ rest ≡ tail = regroup post body rest in
      let split : yield middle ++ rest ≡ yield (append condition (leaf semi' empty)) ++ tail =
      regroup condition (leaf semi' after) rest ∙ ap (λ (ws : List Token). yield condition ++ (semi' ∷ ws)) same ∙ sym (regroup condition (leaf semi' empty) tail) in
      let fine_init = subst (λ (ws : List Token). Fits grammar (shapes.maybe (shapes.Part (sorts.Simple sorts.Header))) init (semi ∷ ws)) split i in
      let fine_condition = subst (λ (ws : List Token). Fits grammar (shapes.maybe (sorts.Expr sorts.Header)) condition (semi' ∷ ws)) same c in
      let fine_front : Fits grammar front_shape front tail = both (sign s) (both fine_condition (sign s')) in
      let sizes = for_sizes opened init semi condition semi' post body depth le in
      ap (λ (ws : List Token). for_in p (opened ∷ ws)) (node_spelled forms.ForForm init (leaf semi middle) rest ∙ ap (λ (ws : List Token). yield init ++ (semi ∷ ws)) split)
      ∙ clauses_again opened init front post body rest o fine_init fine_front y z sizes.0 sizes.1 sizes.2 sizes.3
      ∙ ap (λ (t : Forest). Some (node forms.ForForm (leaf opened (append init (leaf semi t))) empty, rest)) (append-assoc condition (leaf semi' empty) after)
  loop_again tree rest (part (second (second (below (both (sign {token = opened} o) (both {left = targets} {right = others} x y)))))) f le =
      let len = node_long forms.RangeForm (leaf opened empty) (append targets others) in
      let len' = ap length (yield-append targets others) in
      let len'' = length-append (yield targets) (yield others) in
      ap (λ (ws : List Token). for_in p (opened ∷ ws)) (node_spelled forms.RangeForm targets others rest) ∙ range_again opened targets others rest o x y (omega arith) (omega arith)
