-- What stands in brackets in expressions is read again.
use Rattle.std.proofs.Common.{◌≡◌, ℕ, ◌≤◌, ◌<◌, Bool, true, false, List, [], ◌∷◌, ◌++◌, length, ◌-◌, suc, Some, refl, sym, ap, ◌∙◌, subst, arith}
use Rattle.std.proofs.lemmas.List.{length-append}
use Rattle.std.specs.Prelude.{not}
use Rattle.go_ast.specs.declared.token.Kind.{Kind}
use Rattle.go_ast.specs.declared.token.Kind.TheVariants as kinds
use Rattle.go_ast.specs.declared.token.Token.{Token}
use Rattle.go_grammar.specs.Forests.{Form, Forest, empty, leaf, node, append, yield}
use Rattle.go_grammar.specs.Forests as forms
use Rattle.go_grammar.specs.Shapes as shapes
use Rattle.go_grammar.specs.Shapes.{Shape, Fits, part, below, first, second, both, sign, before, nothing, done, more, is}
use Rattle.go_grammar.specs.Grammar as sorts
use Rattle.go_grammar.specs.Grammar.{Sort, grammar, closes_braces}
use Rattle.go_grammar.specs.Reading.{Part, is_before, many_in, run}
use Rattle.go_grammar.specs.Tests.{begins, not_closed, goes_on, ◌⨟◌, word, maybe_word}
use Rattle.go_grammar.specs.TypeReading.{Plain, Item, Parsers}
use Rattle.go_grammar.specs.ExprReading.{at_items, arguments_plan, element_in, separated_in, braces_in, block_in}
use Rattle.go_grammar.proofs.Forests.{yield-append, append-assoc}
use Rattle.go_grammar.proofs.SameKinds.{is_same}
use Rattle.go_grammar.specs.StmtReading.{ends_statements}
use Rattle.go_grammar.proofs.Takes.{is_nexts}
use Rattle.go_grammar.proofs.Cuts.{implies, implied}
use Rattle.go_grammar.proofs.Again.{regroup, IsChosen, AreChosen, run_again}
use Rattle.go_grammar.proofs.Fronts.{IsFirst}
use Rattle.go_grammar.proofs.Choices.{behind, first_behind, at_least}
use Rattle.go_grammar.proofs.ExprTakes.{arguments_shape}
use Rattle.go_grammar.proofs.Rereads.{Rereads}
use Rattle.go_grammar.proofs.Reaching.{starts_not, part_not, ends_item, ended, first_is, node_spelled, node_long, many_read}

-- where what passes the one test passes the other
pub first_implied : (test other : Kind → Bool) (tokens : List Token) → implies test other ≡ true → IsFirst test tokens → IsFirst other tokens
first_implied test other tokens h f = record { token = f.token; others = f.others; all = f.all; kind = implied test other h f.token.kind f.kind }

-- what stands behind an element
abbrev pub ends_element : Kind → Bool
ends_element kinds.Comma = true
ends_element kinds.CloseBrace = true
ends_element _ = false

abbrev pub element_shape : Shape Sort
element_shape = shapes.Node forms.ElementForm (shapes.Then (shapes.maybe (shapes.Then (shapes.Part sorts.Value) (shapes.word kinds.Colon))) (shapes.Part sorts.Value))

abbrev pub separated_shape : Shape Sort
separated_shape = shapes.Then element_shape (shapes.Either (shapes.word kinds.Comma) (shapes.Before closes_braces))

closing_brace : (rest : List Token) → shapes.IsNext closes_braces rest → IsFirst (behind (shapes.Many separated_shape) (λ kind. is kind kinds.CloseBrace)) rest → IsFirst (λ kind. is kind kinds.CloseBrace) rest
closing_brace rest b f = record { token = f.token; others = f.others; all = f.all; kind = go f.token.kind (subst (shapes.IsNext closes_braces) f.all b) }
  where
    go : (kind : Kind) → closes_braces kind ≡ true → is kind kinds.CloseBrace ≡ true
    go kinds.CloseBrace h = refl
    go _ h = absurd cc

-- an argument behind its comma
abbrev pub more_shape : Shape Sort
more_shape = shapes.Then (shapes.word kinds.Comma) (shapes.Part sorts.Item)

-- what stands behind the arguments
abbrev pub end_shape : Shape Sort
end_shape = shapes.Then (shapes.maybe (shapes.word kinds.Ellipsis)) (shapes.maybe (shapes.word kinds.Comma))

abbrev pub inner_shape : Shape Sort
inner_shape = shapes.Then (shapes.Then (shapes.Part sorts.Item) (shapes.Many more_shape)) end_shape

module _ (p : Parsers) (depth : ℕ) (r : Rereads p depth) where
  pub expr_again : (tree : Forest) (rest : List Token) → Fits grammar (sorts.Expr sorts.Plain) tree rest → IsFirst ends_item rest → length (yield tree) < depth → p.expr Plain 1 (yield tree ++ rest) ≡ Some (tree, rest)
  expr_again tree rest x f lt = let e = ended Plain rest f in r.expr Plain 1 tree rest (omega arith) (omega arith) x e.operand e.loose lt

  pub item_again : (tree : Forest) (rest : List Token) → Fits grammar (shapes.Part sorts.Item) tree rest → IsFirst ends_item rest → length (yield tree) < depth → p.expr Item 1 (yield tree ++ rest) ≡ Some (tree, rest)
  item_again tree rest (part x) f lt = let e = ended Item rest f in r.expr Item 1 tree rest (omega arith) (omega arith) x e.operand e.loose lt

  pub value_item_again : (tree : Forest) (rest : List Token) → Fits grammar (shapes.Part sorts.Value) tree rest → IsFirst ends_item rest → length (yield tree) < depth → p.value (yield tree ++ rest) ≡ Some (tree, rest)
  value_item_again tree rest x f lt = let e = ended Plain rest f in r.value tree rest x e.operand e.loose lt

  -- ---- literals

  element_again : (tree : Forest) (rest : List Token) → Fits grammar element_shape tree rest → IsFirst ends_element rest → length (yield tree) < depth → element_in p (yield tree ++ rest) ≡ Some (tree, rest)
  element_again tree rest (below (both {right = value} (first (both {left = key} k (sign {token = colon} c))) v)) f lt =
      let keyed = append key (leaf colon empty) in
      let len = node_long forms.ElementForm keyed value in
      let len' = length-append (yield keyed) (yield value) in
      let len'' = ap length (yield-append key (leaf colon empty)) in
      let len''' = length-append (yield key) (yield (leaf colon empty)) in
      let tail = yield value ++ rest in
      let same : yield (node forms.ElementForm (append keyed value) empty) ++ rest ≡ yield key ++ (colon ∷ tail) = node_spelled forms.ElementForm keyed value rest ∙ regroup key (leaf colon empty) tail in
      let key_read : p.value (yield key ++ (colon ∷ tail)) ≡ Some (key, colon ∷ tail) = value_item_again key (colon ∷ tail) k (first_is ends_item kinds.Colon colon tail refl c) (omega arith) in
      let value_read : p.value tail ≡ Some (value, rest) = value_item_again value rest v (first_implied ends_element ends_item rest refl f) (omega arith) in
      let read : element_in p (yield key ++ (colon ∷ tail)) ≡ Some (node forms.ElementForm (append key (leaf colon value)) empty, rest) = rw (key_read, c, value_read) refl in
      ap (element_in p) same ∙ read ∙ ap (λ (t : Forest). Some (node forms.ElementForm t empty, rest)) (sym (append-assoc key (leaf colon empty) value))
  element_again tree rest (below (both {right = value} (second nothing) v)) f lt =
      let len = node_long forms.ElementForm empty value in
      let same : yield (node forms.ElementForm value empty) ++ rest ≡ yield value ++ rest = node_spelled forms.ElementForm empty value rest in
      let value_read : p.value (yield value ++ rest) ≡ Some (value, rest) = value_item_again value rest v (first_implied ends_element ends_item rest refl f) (omega arith) in
      let unkeyed : begins kinds.Colon rest ≡ false = starts_not ends_element kinds.Colon rest refl f in
      let read : element_in p (yield value ++ rest) ≡ Some (node forms.ElementForm value empty, rest) = rw (value_read, unkeyed) refl in
      ap (element_in p) same ∙ read

  separated_again : (tree : Forest) (rest : List Token) → Fits grammar separated_shape tree rest → IsFirst (behind (shapes.Many separated_shape) (λ kind. is kind kinds.CloseBrace)) rest → length (yield tree) < depth → separated_in (element_in p) (yield tree ++ rest) ≡ Some (tree, rest)
  separated_again tree rest (both {left = element} x (first (sign {token = comma} c))) f lt =
      let len = ap length (yield-append element (leaf comma empty)) in
      let len' = length-append (yield element) (yield (leaf comma empty)) in
      let read : element_in p (yield element ++ (comma ∷ rest)) ≡ Some (element, comma ∷ rest) = element_again element (comma ∷ rest) x (first_is ends_element kinds.Comma comma rest refl c) (omega arith) in
      let k : comma.kind ≡ kinds.Comma = is_same comma.kind kinds.Comma c in
      let all : separated_in (element_in p) (yield element ++ (comma ∷ rest)) ≡ Some (append element (leaf comma empty), rest) = rw (read, k) refl in
      ap (separated_in (element_in p)) (regroup element (leaf comma empty) rest) ∙ all
  separated_again tree rest (both {left = element} x (second (before b))) f lt =
      let len = ap length (yield-append element empty) in
      let len' = length-append (yield element) [] in
      let closing = closing_brace rest b f in
      let closed : begins kinds.CloseBrace rest ≡ true = ap (begins kinds.CloseBrace) closing.all ∙ closing.kind in
      let before_one : is_before closes_braces rest ≡ true = is_nexts closes_braces rest b in
      let read : element_in p (yield element ++ rest) ≡ Some (element, rest) = element_again element rest x (first_implied (λ kind. is kind kinds.CloseBrace) ends_element rest refl closing) (omega arith) in
      let all : separated_in (element_in p) (yield element ++ rest) ≡ Some (append element empty, rest) = rw (read, closed, before_one) refl in
      ap (separated_in (element_in p)) (regroup element empty rest) ∙ all

  next_element : Kind → Bool
  next_element = behind (shapes.Many separated_shape) (λ kind. is kind kinds.CloseBrace)

  each_element : (tree : Forest) (rest : List Token) → Fits grammar separated_shape tree rest → IsFirst next_element rest → suc (length (yield tree)) ≤ depth
      → (not_closed kinds.CloseBrace (yield tree ++ rest) ≡ true) × (0 < length (yield tree)) × (separated_in (element_in p) (yield tree ++ rest) ≡ Some (tree, rest))
  unfolding next_element
  each_element tree rest x f le =
      let g = first_behind next_element x f in
      (ap not (starts_not (behind separated_shape next_element) kinds.CloseBrace (yield tree ++ rest) refl g), at_least x, separated_again tree rest x f le)

  elements_again : (tree : Forest) (rest : List Token) → Fits grammar (shapes.Many separated_shape) tree rest → IsFirst (λ kind. is kind kinds.CloseBrace) rest → suc (length (yield tree)) ≤ depth
      → many_in (not_closed kinds.CloseBrace) (separated_in (element_in p)) (length (yield tree ++ rest)) (yield tree ++ rest) ≡ Some (tree, rest)
  unfolding next_element
  elements_again tree rest x f le =
      many_read (not_closed kinds.CloseBrace) (separated_in (element_in p)) separated_shape next_element (λ kind. is kind kinds.CloseBrace) (depth - 1)
      (λ tree rest y g k. each_element tree rest y g (omega arith)) (λ tokens g. g) (λ rest g. ap not (ap (begins kinds.CloseBrace) g.all ∙ g.kind))
      (length (yield tree ++ rest)) x f (omega arith) (omega (arith, length-append (yield tree) rest))

  pub braces_again : (tree : Forest) (rest : List Token) → Fits grammar (shapes.Part sorts.Braces) tree rest → length (yield tree) ≤ depth → braces_in p (yield tree ++ rest) ≡ Some (tree, rest)
  braces_again tree rest (part (both (sign {token = opened} o) (both {left = elements} x (sign {token = closed} c)))) le =
      let len = ap length (yield-append elements (leaf closed empty)) in
      let len' = length-append (yield elements) (yield (leaf closed empty)) in
      let tail = closed ∷ rest in
      let same : yield (append elements (leaf closed empty)) ++ rest ≡ yield elements ++ tail = regroup elements (leaf closed empty) rest in
      let read : many_in (not_closed kinds.CloseBrace) (separated_in (element_in p)) (length (yield elements ++ tail)) (yield elements ++ tail) ≡ Some (elements, tail) = elements_again elements tail x (first_is (λ kind. is kind kinds.CloseBrace) kinds.CloseBrace closed rest refl c) (omega arith) in
      rw (o, same, read, c) refl

  -- ---- blocks

  pub block_again : (tree : Forest) (rest : List Token) → Fits grammar (shapes.Part sorts.Block) tree rest → length (yield tree) ≤ depth → block_in p (yield tree ++ rest) ≡ Some (tree, rest)
  block_again tree rest (part (below (both (sign {token = opened} o) (both {left = lines} x (sign {token = closed} c))))) le =
      let len = node_long forms.BlockForm (leaf opened empty) (append lines (leaf closed empty)) in
      let len' = ap length (yield-append lines (leaf closed empty)) in
      let len'' = length-append (yield lines) (yield (leaf closed empty)) in
      let tail = closed ∷ rest in
      let same : (yield (append lines (leaf closed empty)) ++ []) ++ rest ≡ yield lines ++ tail = node_spelled forms.BlockForm lines (leaf closed empty) rest in
      let ends : ends_statements tail ≡ true = rw c refl in
      let read : p.statements (yield lines ++ tail) ≡ Some (lines, tail) = r.statements lines tail x ends (omega arith) in
      rw (o, same, read, c) refl

  -- ---- calls

  abbrev IsRead : Sort → Forest → List Token → Type 0
  IsRead sort tree rest = at_items p sort (yield tree ++ rest) ≡ Some (tree, rest)

  more_chosen : {tree : Forest} {rest : List Token} (x : Fits grammar (shapes.Many more_shape) tree rest) → IsFirst ends_item rest → goes_on rest ≡ false → length (yield tree) ≤ depth
      → AreChosen grammar IsRead goes_on (λ tree rest y. IsChosen grammar IsRead (word kinds.Comma ⨟ Part sorts.Item) y) x
  more_chosen done f h le = h
  more_chosen (more {right = right} {rest = rest} (both {right = item} (sign {token = comma} c) i) y) f h le =
      let len = ap length (yield-append (leaf comma item) right) in
      let len' = length-append (yield (leaf comma item)) (yield right) in
      let tail = yield right ++ rest in
      let g = first_implied (behind (shapes.Many more_shape) ends_item) ends_item tail refl (first_behind ends_item y f) in
      let opens : begins kinds.CloseParen (yield item ++ tail) ≡ false = part_not sorts.Item kinds.CloseParen item tail refl refl i in
      let goes : goes_on (comma ∷ (yield item ++ tail)) ≡ true = rw (c, opens) refl in
      (goes, omega arith, (tt, item_again item tail i g (omega arith)), more_chosen y f h (omega arith))

  end_chosen : {tree : Forest} {rest : List Token} (x : Fits grammar end_shape tree rest) → IsFirst (λ kind. is kind kinds.CloseParen) rest → (goes_on (yield tree ++ rest) ≡ false) × IsChosen grammar IsRead (maybe_word kinds.Ellipsis ⨟ maybe_word kinds.Comma) x
  end_chosen (both {right = right} {rest = rest} (first (sign {token = dots} d)) (first (sign {token = comma} c))) f =
      let k : dots.kind ≡ kinds.Ellipsis = is_same dots.kind kinds.Ellipsis d in (rw k refl, ((d, tt), (c, tt)))
  end_chosen (both {rest = rest} (first (sign {token = dots} d)) (second nothing)) f =
      let k : dots.kind ≡ kinds.Ellipsis = is_same dots.kind kinds.Ellipsis d in (rw k refl, ((d, tt), (starts_not (λ kind. is kind kinds.CloseParen) kinds.Comma rest refl f, tt)))
  end_chosen (both {rest = rest} (second nothing) (first (sign {token = comma} c))) f =
      let k : comma.kind ≡ kinds.Comma = is_same comma.kind kinds.Comma c in
      let closed : begins kinds.CloseParen rest ≡ true = ap (begins kinds.CloseParen) f.all ∙ f.kind in
      (rw (k, closed) refl, ((rw k refl, tt), (c, tt)))
  end_chosen (both {rest = rest} (second nothing) (second nothing)) f =
      let none : begins kinds.Comma rest ≡ false = starts_not (λ kind. is kind kinds.CloseParen) kinds.Comma rest refl f in
      (rw none refl, ((starts_not (λ kind. is kind kinds.CloseParen) kinds.Ellipsis rest refl f, tt), (none, tt)))

  arguments_chosen : {tree : Forest} {rest : List Token} (x : Fits grammar arguments_shape tree rest) → length (yield tree) ≤ depth → IsChosen grammar IsRead arguments_plan x
  arguments_chosen (both (sign {token = opened} o) (both (first (both {right = end} (both {left = item} {right = others} i m) e)) (sign {token = closed} {rest = rest} c))) le =
      let len = ap length (yield-append (append (append item others) end) (leaf closed empty)) in
      let len' = length-append (yield (append (append item others) end)) (yield (leaf closed empty)) in
      let len'' = ap length (yield-append (append item others) end) in
      let len''' = length-append (yield (append item others)) (yield end) in
      let size = ap length (yield-append item others) in
      let size' = length-append (yield item) (yield others) in
      let close = first_is (λ kind. is kind kinds.CloseParen) kinds.CloseParen closed rest refl c in
      let tail = yield end ++ (closed ∷ rest) in
      let at_end = end_chosen e close in
      let ends = first_implied (behind end_shape (λ kind. is kind kinds.CloseParen)) ends_item tail refl (first_behind (λ kind. is kind kinds.CloseParen) e close) in
      let next = first_implied (behind (shapes.Many more_shape) ends_item) ends_item (yield others ++ tail) refl (first_behind ends_item m ends) in
      let all = first_behind ends_item (both (both i m) e) (first_is ends_item kinds.CloseParen closed rest refl c) in
      (tt, ((ap not (starts_not (behind inner_shape ends_item) kinds.CloseParen _ refl all), ((item_again item (yield others ++ tail) i next (omega arith), more_chosen m ends at_end.0 (omega arith)), at_end.1)), tt))
  arguments_chosen (both (sign {token = opened} o) (both (second nothing) (sign {token = closed} c))) le = (tt, ((rw c refl, tt), tt))

  pub arguments_again : (tree : Forest) (rest : List Token) → Fits grammar arguments_shape tree rest → length (yield tree) ≤ depth → run (at_items p) arguments_plan (yield tree ++ rest) ≡ Some (tree, rest)
  arguments_again tree rest x le = run_again grammar IsRead (at_items p) (λ sort tree rest y h. h) arguments_plan x (arguments_chosen x le)
