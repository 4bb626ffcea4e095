-- What goes on behind an operand is read again.
use Rattle.std.proofs.Common.{◌≡◌, ℕ, ◌≤◌, ◌<◌, Bool, true, false, List, [], ◌∷◌, ◌++◌, length, Some, refl, sym, ap, ◌∙◌, subst, arith}
use Rattle.std.proofs.lemmas.List.{length-append}
use Rattle.std.specs.Prelude.{not}
use Rattle.go_ast.specs.declared.token.Kind.{Kind}
use Rattle.go_ast.specs.declared.token.Kind.TheVariants as kinds
use Rattle.go_ast.specs.declared.token.Token.{Token}
use Rattle.go_grammar.specs.Forests.{Form, Forest, empty, leaf, node, append, yield}
use Rattle.go_grammar.specs.Forests as forms
use Rattle.go_grammar.specs.Shapes as shapes
use Rattle.go_grammar.specs.Shapes.{Shape, Fits, part, below, first, second, both, sign, before, nothing, is}
use Rattle.go_grammar.specs.Grammar as sorts
use Rattle.go_grammar.specs.Grammar.{Sort, Context, grammar, opens_braces}
use Rattle.go_grammar.specs.Tests.{begins}
use Rattle.go_grammar.specs.TypeReading.{Place, Plain, Header, Item, Parsers}
use Rattle.go_grammar.specs.ExprReading.{Left, On, context_of, is_header, is_literal_type, slice_in, index_in, call_in, suffix_by, suffix_at, begins_suffix, suffix_turn, primary_in}
use Rattle.go_grammar.proofs.Forests.{yield-append}
use Rattle.go_grammar.proofs.SameKinds.{is_same}
use Rattle.go_grammar.proofs.Again.{regroup}
use Rattle.go_grammar.proofs.Fronts.{IsFirst}
use Rattle.go_grammar.proofs.Choices.{at_least}
use Rattle.go_grammar.proofs.TypeChoices.{anything}
use Rattle.go_grammar.proofs.ExprTakes.{arguments_shape}
use Rattle.go_grammar.proofs.SuffixTakes.{tail}
use Rattle.go_grammar.proofs.Rereads.{Rereads, ends_by, ends_operand}
use Rattle.go_grammar.proofs.Reaching.{part_not, ends_item, first_is, node_spelled, node_long, Reaches, one_more, reaches_end}
use Rattle.go_grammar.proofs.ExprAgain.{first_implied, expr_again, arguments_again}
use Rattle.go_grammar.proofs.OperandAgain.{at_tokens, goes_on, selector_turn, operand_reaches}

abbrev pub assertion_shape : Shape Sort
assertion_shape = tail kinds.Dot (shapes.Then (shapes.word kinds.OpenParen) (shapes.Then (shapes.Part sorts.AnyType) (shapes.word kinds.CloseParen)))

abbrev pub index_shape : Shape Sort
index_shape = tail kinds.OpenBracket (shapes.Then (sorts.Expr sorts.Plain) (shapes.word kinds.CloseBracket))

-- a slice from its first colon on
abbrev pub slice_rest : Shape Sort
slice_rest = tail kinds.Colon (shapes.Then (shapes.maybe (sorts.Expr sorts.Plain)) (shapes.word kinds.CloseBracket))

abbrev pub full_slice_rest : Shape Sort
full_slice_rest = tail kinds.Colon (shapes.Then (sorts.Expr sorts.Plain) (tail kinds.Colon (shapes.Then (sorts.Expr sorts.Plain) (shapes.word kinds.CloseBracket))))

abbrev pub slice_shape : Shape Sort → Shape Sort
slice_shape behind_low = tail kinds.OpenBracket (shapes.Then (shapes.maybe (sorts.Expr sorts.Plain)) behind_low)

-- what begins with a word
pub tail_first : (kind : Kind) {shape : Shape Sort} {tree : Forest} {rest : List Token} → Fits grammar (tail kind shape) tree rest → IsFirst (λ other. is other kind) (yield tree ++ rest)
tail_first kind (both {right = right} {rest = rest} (sign {token = token} e) x) = record { token = token; others = yield right ++ rest; all = refl; kind = e }

pub some_token : (test : Kind → Bool) (tokens : List Token) → IsFirst test tokens → IsFirst anything tokens
some_token test tokens f = record { token = f.token; others = f.others; all = f.all; kind = refl }

-- no braces follow what is a type and stands alone
no_literal : (place : Place) (tree : Forest) (rest : List Token) → Fits grammar (shapes.Part (sorts.Primary (context_of place))) tree rest → is_header place ≡ true → begins kinds.OpenBrace rest ≡ true → is_literal_type place tree ≡ false
no_literal Plain tree rest x h b = absurd cc
no_literal Item tree rest x h b = absurd cc
no_literal Header tree rest (part (first (part x))) h b = operand x b
  where
    not_opened : (rest : List Token) → shapes.IsNext (λ kind. not (opens_braces kind)) rest → begins kinds.OpenBrace rest ≡ true → ⊥
    not_opened [] n b = absurd cc
    not_opened (token ∷ rest) n b =
        let k = is_same token.kind kinds.OpenBrace b in
        let clash : true ≡ false = sym n ∙ (rw k refl) in absurd cc

    operand : {tree : Forest} {rest : List Token} → Fits grammar sorts.operand tree rest → begins kinds.OpenBrace rest ≡ true → is_literal_type Header tree ≡ false
    operand (first (below x)) b = refl
    operand (second (first (below x))) b = refl
    operand (second (second (first (below x)))) b = refl
    operand (second (second (second (first (below x))))) b = refl
    operand (second (second (second (second (first (below x)))))) b = refl
    operand (second (second (second (second (second (first (below x))))))) b = refl
    operand (second (second (second (second (second (second (first (below (both x (before {rest = rest} n)))))))))) b = absurd (not_opened rest n b)
    operand (second (second (second (second (second (second (second (below x)))))))) b = refl
no_literal Header tree rest (part (second x)) h b = suffixed x
  where
    suffixed : {tree : Forest} {rest : List Token} → Fits grammar (sorts.suffixed (sorts.Primary sorts.Header)) tree rest → is_literal_type Header tree ≡ false
    suffixed (first (below x)) = refl
    suffixed (second (first (below x))) = refl
    suffixed (second (second (first (below x)))) = refl
    suffixed (second (second (second (first (below x))))) = refl
    suffixed (second (second (second (second (first (below x)))))) = refl
    suffixed (second (second (second (second (second (below x)))))) = refl

-- some token ends an operand
pub ended_token : (place : Place) (rest : List Token) → ends_operand place rest ≡ true → IsFirst anything rest
ended_token place [] e = absurd cc
ended_token place (token ∷ rest) e = record { token = token; others = rest; all = refl; kind = refl }

ends_suffix : (place : Place) (tree : Forest) (rest : List Token) → Fits grammar (shapes.Part (sorts.Primary (context_of place))) tree rest → ends_operand place rest ≡ true → begins_suffix place tree rest ≡ false
ends_suffix place tree [] x e = refl
ends_suffix place tree (token ∷ rest) x e = go token.kind refl e
  where
    go : (kind : Kind) → token.kind ≡ kind → ends_by place kind rest ≡ true → suffix_by place tree kind rest ≡ false
    go kinds.Dot k e = ap not e
    go kinds.OpenBracket k e = absurd cc
    go kinds.OpenParen k e = absurd cc
    go kinds.OpenBrace k e = no_literal place tree (token ∷ rest) x e (rw k refl)
    go _ k e = refl

module _ (p : Parsers) (depth : ℕ) (r : Rereads p depth) where
  goes_at : (place : Place) (left : Forest) (kind : Kind) (token : Token) (others : List Token) (x : Left) → is token.kind kind ≡ true → suffix_by place left kind others ≡ true → suffix_at p left kind (token ∷ others) ≡ Some x
      → suffix_turn p place (left, token ∷ others) ≡ Some (On x)
  goes_at place left kind token others x k b e =
      let same = is_same token.kind kind k in
      goes_on p depth r place left (token ∷ others) x (ap (λ (k : Kind). suffix_by place left k others) same ∙ b) (ap (λ (k : Kind). suffix_at p left k (token ∷ others)) same ∙ e)

  -- the same from what stands behind
  grown : (place : Place) (form : Form) (left right : Forest) (rest : List Token) → suffix_turn p place (left, yield right ++ rest) ≡ Some (On (node form (append left right) empty, rest)) → 0 < length (yield right)
      → Reaches (suffix_turn p place) (primary_in p place (yield left ++ (yield right ++ rest))) (left, yield right ++ rest) → Reaches (suffix_turn p place) (primary_in p place (yield (node form (append left right) empty) ++ rest)) (node form (append left right) empty, rest)
  grown place form left right rest turn long h =
      at_tokens p depth r place _ (yield left ++ (yield right ++ rest)) _ (node_spelled form left right rest)
      (one_more (suffix_turn p place) (primary_in p place (yield left ++ (yield right ++ rest))) (left, yield right ++ rest) (node form (append left right) empty, rest) turn (omega (arith, length-append (yield right) rest)) h)

  -- ---- each form

  name_turn : (place : Place) (left right : Forest) (rest : List Token) → Fits grammar (tail kinds.Dot (shapes.word kinds.Name)) right rest → suffix_turn p place (left, yield right ++ rest) ≡ Some (On (node forms.SelectorForm (append left right) empty, rest))
  name_turn place left right rest (both (sign {token = dot} d) (sign {token = name} n)) = selector_turn p depth r place left dot name rest d n

  assertion_turn : (place : Place) (left right : Forest) (rest : List Token) → Fits grammar assertion_shape right rest → length (yield right) ≤ depth → suffix_turn p place (left, yield right ++ rest) ≡ Some (On (node forms.AssertionForm (append left right) empty, rest))
  assertion_turn place left right rest (both (sign {token = dot} d) (both (sign {token = opened} o) (both {left = form} x (sign {token = closed} c)))) le =
      let len = ap length (yield-append form (leaf closed empty)) in
      let len' = length-append (yield form) (yield (leaf closed empty)) in
      let end = closed ∷ rest in
      let same : yield (append form (leaf closed empty)) ++ rest ≡ yield form ++ end = regroup form (leaf closed empty) rest in
      let other : begins kinds.TypeWord (yield form ++ end) ≡ false = part_not sorts.AnyType kinds.TypeWord form end refl refl x in
      let fine : suffix_by place left kinds.Dot (opened ∷ (yield (append form (leaf closed empty)) ++ rest)) ≡ true = rw (o, same, other) refl in
      let read : p.type_expr (yield form ++ end) ≡ Some (form, end) = r.type_expr form end x (first_is anything kinds.CloseParen closed rest refl c) (omega arith) in
      goes_at place left kinds.Dot dot _ _ d fine (rw (d, o, same, read, c) refl)

  index_turn : (place : Place) (left right : Forest) (rest : List Token) → Fits grammar index_shape right rest → length (yield right) ≤ depth → suffix_turn p place (left, yield right ++ rest) ≡ Some (On (node forms.IndexForm (append left right) empty, rest))
  index_turn place left right rest (both (sign {token = opened} o) (both {left = index} x (sign {token = closed} c))) le =
      let len = ap length (yield-append index (leaf closed empty)) in
      let len' = length-append (yield index) (yield (leaf closed empty)) in
      let end = closed ∷ rest in
      let k = is_same closed.kind kinds.CloseBracket c in
      let same : yield (append index (leaf closed empty)) ++ rest ≡ yield index ++ end = regroup index (leaf closed empty) rest in
      let other : begins kinds.Colon (yield index ++ end) ≡ false = part_not (sorts.Binary sorts.Disjunction sorts.Plain) kinds.Colon index end refl refl x in
      let read : p.expr Plain 1 (yield index ++ end) ≡ Some (index, end) = expr_again p depth r index end x (first_is ends_item kinds.CloseBracket closed rest refl c) (omega arith) in
      goes_at place left kinds.OpenBracket opened _ _ o refl (rw (o, same, other, read, k) refl)

  slice_read : (left low : Forest) (opened : Token) (right : Forest) (rest : List Token) → Fits grammar slice_rest right rest → length (yield right) ≤ depth
      → slice_in p left (leaf opened empty) low (yield right ++ rest) ≡ Some (node forms.SliceExprForm (append left (leaf opened (append low right))) empty, rest)
  slice_read left low opened right rest (both (sign {token = colon} c) (both (second nothing) (sign {token = closed} d))) le = rw (c, d) refl
  slice_read left low opened right rest (both (sign {token = colon} c) (both {left = high} (first x) (sign {token = closed} d))) le =
      let len = ap length (yield-append high (leaf closed empty)) in
      let len' = length-append (yield high) (yield (leaf closed empty)) in
      let end = closed ∷ rest in
      let same : yield (append high (leaf closed empty)) ++ rest ≡ yield high ++ end = regroup high (leaf closed empty) rest in
      let other : begins kinds.CloseBracket (yield high ++ end) ≡ false = part_not (sorts.Binary sorts.Disjunction sorts.Plain) kinds.CloseBracket high end refl refl x in
      let read : p.expr Plain 1 (yield high ++ end) ≡ Some (high, end) = expr_again p depth r high end x (first_is ends_item kinds.CloseBracket closed rest refl d) (omega arith) in
      rw (c, same, other, read, d) refl

  full_slice_read : (left low : Forest) (opened : Token) (right : Forest) (rest : List Token) → Fits grammar full_slice_rest right rest → length (yield right) ≤ depth
      → slice_in p left (leaf opened empty) low (yield right ++ rest) ≡ Some (node forms.FullSliceForm (append left (leaf opened (append low right))) empty, rest)
  full_slice_read left low opened right rest (both (sign {token = colon} c) (both {left = high} x (both (sign {token = colon'} c') (both {left = max} y (sign {token = closed} d))))) le =
      let len = ap length (yield-append high (leaf colon' (append max (leaf closed empty)))) in
      let len' = length-append (yield high) (yield (leaf colon' (append max (leaf closed empty)))) in
      let len'' = ap length (yield-append max (leaf closed empty)) in
      let len''' = length-append (yield max) (yield (leaf closed empty)) in
      let end = closed ∷ rest in
      let middle = colon' ∷ (yield max ++ end) in
      let k = is_same colon'.kind kinds.Colon c' in
      let same' : yield (append max (leaf closed empty)) ++ rest ≡ yield max ++ end = regroup max (leaf closed empty) rest in
      let same : yield (append high (leaf colon' (append max (leaf closed empty)))) ++ rest ≡ yield high ++ middle = regroup high (leaf colon' (append max (leaf closed empty))) rest ∙ ap (λ (ws : List Token). yield high ++ (colon' ∷ ws)) same' in
      let other : begins kinds.CloseBracket (yield high ++ middle) ≡ false = part_not (sorts.Binary sorts.Disjunction sorts.Plain) kinds.CloseBracket high middle refl refl (subst (λ (ws : List Token). Fits grammar (sorts.Expr sorts.Plain) high (colon' ∷ ws)) same' x) in
      let read : p.expr Plain 1 (yield high ++ middle) ≡ Some (high, middle) = expr_again p depth r high middle (subst (λ (ws : List Token). Fits grammar (sorts.Expr sorts.Plain) high (colon' ∷ ws)) same' x) (first_is ends_item kinds.Colon colon' (yield max ++ end) refl c') (omega arith) in
      let read' : p.expr Plain 1 (yield max ++ end) ≡ Some (max, end) = expr_again p depth r max end y (first_is ends_item kinds.CloseBracket closed rest refl d) (omega arith) in
      rw (c, same, other, read, k, read', d) refl

  -- what stands before the first colon
  low_read : (left low : Forest) (opened : Token) (right : Forest) (rest : List Token) (x : Left) → is opened.kind kinds.OpenBracket ≡ true → Fits grammar (shapes.maybe (sorts.Expr sorts.Plain)) low (yield right ++ rest) → IsFirst (λ kind. is kind kinds.Colon) (yield right ++ rest)
      → length (yield low) < depth → slice_in p left (leaf opened empty) low (yield right ++ rest) ≡ Some x → index_in p left (opened ∷ (yield low ++ (yield right ++ rest))) ≡ Some x
  low_read left low opened right rest x o (second nothing) f lt e =
      let colon : begins kinds.Colon (yield right ++ rest) ≡ true = ap (begins kinds.Colon) f.all ∙ f.kind in
      rw (o, colon) e
  low_read left low opened right rest x o (first y) f lt e =
      let colon : begins kinds.Colon (yield right ++ rest) ≡ true = ap (begins kinds.Colon) f.all ∙ f.kind in
      let other : begins kinds.Colon (yield low ++ (yield right ++ rest)) ≡ false = part_not (sorts.Binary sorts.Disjunction sorts.Plain) kinds.Colon low (yield right ++ rest) refl refl y in
      let read : p.expr Plain 1 (yield low ++ (yield right ++ rest)) ≡ Some (low, yield right ++ rest) = expr_again p depth r low (yield right ++ rest) y (first_implied (λ kind. is kind kinds.Colon) ends_item (yield right ++ rest) refl f) lt in
      rw (o, other, read, colon) e

  slice_turn : (place : Place) (left right : Forest) (rest : List Token) → Fits grammar (slice_shape slice_rest) right rest → length (yield right) ≤ depth → suffix_turn p place (left, yield right ++ rest) ≡ Some (On (node forms.SliceExprForm (append left right) empty, rest))
  slice_turn place left right rest (both (sign {token = opened} o) (both {left = low} {right = end} x y)) le =
      let len = ap length (yield-append low end) in
      let len' = length-append (yield low) (yield end) in
      goes_at place left kinds.OpenBracket opened _ _ o refl (ap (λ (ws : List Token). index_in p left (opened ∷ ws)) (regroup low end rest) ∙ low_read left low opened end rest _ o x (tail_first kinds.Colon y) (omega arith) (slice_read left low opened end rest y (omega arith)))

  full_slice_turn : (place : Place) (left right : Forest) (rest : List Token) → Fits grammar (slice_shape full_slice_rest) right rest → length (yield right) ≤ depth → suffix_turn p place (left, yield right ++ rest) ≡ Some (On (node forms.FullSliceForm (append left right) empty, rest))
  full_slice_turn place left right rest (both (sign {token = opened} o) (both {left = low} {right = end} x y)) le =
      let len = ap length (yield-append low end) in
      let len' = length-append (yield low) (yield end) in
      goes_at place left kinds.OpenBracket opened _ _ o refl (ap (λ (ws : List Token). index_in p left (opened ∷ ws)) (regroup low end rest) ∙ low_read left low opened end rest _ o x (tail_first kinds.Colon y) (omega arith) (full_slice_read left low opened end rest y (omega arith)))

  call_turn : (place : Place) (left right : Forest) (rest : List Token) → Fits grammar arguments_shape right rest → length (yield right) ≤ depth → suffix_turn p place (left, yield right ++ rest) ≡ Some (On (node forms.CallForm (append left right) empty, rest))
  call_turn place left right rest x le =
      let f = tail_first kinds.OpenParen x in
      let read = arguments_again p depth r right rest x le in
      let called : call_in p left (f.token ∷ f.others) ≡ Some (node forms.CallForm (append left right) empty, rest) = ap (call_in p left) (sym f.all) ∙ (rw read refl) in
      ap (λ (ws : List Token). suffix_turn p place (left, ws)) f.all ∙ goes_at place left kinds.OpenParen f.token f.others _ f.kind refl called

  -- ---- primary expressions

  primary_from : (place : Place) (context : Context) → context ≡ context_of place → (tree : Forest) (rest : List Token) → Fits grammar (shapes.Part (sorts.Primary context)) tree rest → IsFirst anything rest → length (yield tree) ≤ depth
      → Reaches (suffix_turn p place) (primary_in p place (yield tree ++ rest)) (tree, rest)
  primary_from place context c tree rest (part (first x)) any le =
      operand_reaches p depth r place tree rest (subst (λ (context : Context). Fits grammar (shapes.Part (sorts.Operand context)) tree rest) c x) any le
  primary_from place context c tree rest (part (second (first (below (both {left = left} {right = right} x y))))) any le =
      let len = node_long forms.SelectorForm left right in
      let len' = length-append (yield left) (yield right) in
      let next = some_token _ _ (tail_first kinds.Dot y) in
      grown place forms.SelectorForm left right rest (name_turn place left right rest y) (omega (arith, at_least y)) (primary_from place context c left (yield right ++ rest) x next (omega arith))
  primary_from place context c tree rest (part (second (second (first (below (both {left = left} {right = right} x y)))))) any le =
      let len = node_long forms.AssertionForm left right in
      let len' = length-append (yield left) (yield right) in
      let next = some_token _ _ (tail_first kinds.Dot y) in
      grown place forms.AssertionForm left right rest (assertion_turn place left right rest y (omega arith)) (omega (arith, at_least y)) (primary_from place context c left (yield right ++ rest) x next (omega arith))
  primary_from place context c tree rest (part (second (second (second (first (below (both {left = left} {right = right} x y))))))) any le =
      let len = node_long forms.IndexForm left right in
      let len' = length-append (yield left) (yield right) in
      let next = some_token _ _ (tail_first kinds.OpenBracket y) in
      grown place forms.IndexForm left right rest (index_turn place left right rest y (omega arith)) (omega (arith, at_least y)) (primary_from place context c left (yield right ++ rest) x next (omega arith))
  primary_from place context c tree rest (part (second (second (second (second (first (below (both {left = left} {right = right} x y)))))))) any le =
      let len = node_long forms.SliceExprForm left right in
      let len' = length-append (yield left) (yield right) in
      let next = some_token _ _ (tail_first kinds.OpenBracket y) in
      grown place forms.SliceExprForm left right rest (slice_turn place left right rest y (omega arith)) (omega (arith, at_least y)) (primary_from place context c left (yield right ++ rest) x next (omega arith))
  primary_from place context c tree rest (part (second (second (second (second (second (first (below (both {left = left} {right = right} x y))))))))) any le =
      let len = node_long forms.FullSliceForm left right in
      let len' = length-append (yield left) (yield right) in
      let next = some_token _ _ (tail_first kinds.OpenBracket y) in
      grown place forms.FullSliceForm left right rest (full_slice_turn place left right rest y (omega arith)) (omega (arith, at_least y)) (primary_from place context c left (yield right ++ rest) x next (omega arith))
  primary_from place context c tree rest (part (second (second (second (second (second (second (below (both {left = left} {right = right} x y))))))))) any le =
      let len = node_long forms.CallForm left right in
      let len' = length-append (yield left) (yield right) in
      let next = some_token _ _ (tail_first kinds.OpenParen y) in
      grown place forms.CallForm left right rest (call_turn place left right rest y (omega arith)) (omega (arith, at_least y)) (primary_from place context c left (yield right ++ rest) x next (omega arith))

  pub primary_reaches : (place : Place) (tree : Forest) (rest : List Token) → Fits grammar (shapes.Part (sorts.Primary (context_of place))) tree rest → IsFirst anything rest → length (yield tree) ≤ depth
      → Reaches (suffix_turn p place) (primary_in p place (yield tree ++ rest)) (tree, rest)
  primary_reaches place tree rest x any le = primary_from place (context_of place) refl tree rest x any le

  pub primary_again : (place : Place) (tree : Forest) (rest : List Token) → Fits grammar (shapes.Part (sorts.Primary (context_of place))) tree rest → ends_operand place rest ≡ true → length (yield tree) ≤ depth → primary_in p place (yield tree ++ rest) ≡ Some (tree, rest)
  primary_again place tree rest x e le =
      let ends : begins_suffix place tree rest ≡ false = ends_suffix place tree rest x e in
      reaches_end (suffix_turn p place) (primary_in p place (yield tree ++ rest)) (tree, rest) (rw ends refl) (primary_reaches place tree rest x (ended_token place rest e) le)
