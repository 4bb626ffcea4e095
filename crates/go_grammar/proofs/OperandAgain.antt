-- Operands are read again.
use Rattle.std.proofs.Common.{◌≡◌, ℕ, ◌≤◌, Bool, true, false, List, [], ◌∷◌, ◌++◌, length, Some, refl, sym, ap, ◌∙◌, subst, arith}
use Rattle.std.proofs.lemmas.List.{append-nil, length-append}
use Rattle.std.specs.Prelude.{◌||◌}
use Rattle.go_ast.specs.declared.token.Kind.{Kind}
use Rattle.go_ast.specs.declared.token.Kind.TheVariants as kinds
use Rattle.go_ast.specs.declared.token.Token.{Token}
use Rattle.go_grammar.specs.Forests.{Form, Forest, empty, leaf, node, append, yield}
use Rattle.go_grammar.specs.Forests as forms
use Rattle.go_grammar.specs.Shapes as shapes
use Rattle.go_grammar.specs.Shapes.{Shape, Fits, part, below, first, second, both, sign, before, is}
use Rattle.go_grammar.specs.Grammar as sorts
use Rattle.go_grammar.specs.Grammar.{Sort, grammar}
use Rattle.go_grammar.specs.Reading.{is_next, run}
use Rattle.go_grammar.specs.Tests.{begins, begins_both}
use Rattle.go_grammar.specs.TypeReading.{Place, Plain, Header, Item, Parsers, begins_bare, bare_in, at_type}
use Rattle.go_grammar.specs.ExprReading.{Left, On, context_of, is_header, is_type_only, literal_type, is_literal_type, braces_in, function_in, open_array_plan, type_operand_in, operand_by, operand_in, suffix_by, suffix_at, suffix_in, begins_suffix, suffix_turn, primary_in}
use Rattle.go_grammar.proofs.Forests.{yield-append, append-empty}
use Rattle.go_grammar.proofs.SameKinds.{is_same}
use Rattle.go_grammar.proofs.Fronts.{heads, IsFirst}
use Rattle.go_grammar.proofs.Choices.{behind, first_behind, at_least}
use Rattle.go_grammar.proofs.TypeChoices.{anything}
use Rattle.go_grammar.proofs.OperandTakes.{bare_part_only, open_not_only}
use Rattle.go_grammar.proofs.Rereads.{Rereads}
use Rattle.go_grammar.proofs.TypeAgain.{signature_again, bare_again}
use Rattle.go_grammar.proofs.Reaching.{starts, part_not, ends_item, first_is, node_spelled, node_long, Reaches, one_more}
use Rattle.go_grammar.proofs.ExprAgain.{first_implied, item_again, braces_again, block_again}

-- the types that an operand may begin with
abbrev pub begins_type_operand : Kind → Bool
begins_type_operand kind = begins_bare kind || is kind kinds.ChanWord || is kind kinds.Arrow

not_open_array : (tree : Forest) (rest : List Token) → Fits grammar (shapes.Part sorts.BareType) tree rest → begins_both kinds.OpenBracket kinds.Ellipsis (yield tree ++ rest) ≡ false
not_open_array tree rest (part (first (below (both (sign {token = opened} o) (both (sign {token = closed} c) x))))) = let k = is_same closed.kind kinds.CloseBracket c in rw (o, k) refl
not_open_array tree rest (part (second (first (below (both (sign {token = opened} o) (both {left = size} {right = right} n x)))))) =
    let none : begins kinds.Ellipsis (yield size ++ (yield right ++ rest)) ≡ false = part_not (sorts.Binary sorts.Disjunction sorts.Plain) kinds.Ellipsis size (yield right ++ rest) refl refl n in
    let same : (yield (append size right) ++ []) ++ rest ≡ yield size ++ (yield right ++ rest) = node_spelled forms.ArrayForm size right rest in
    rw (o, same, none) refl
not_open_array tree rest (part (second (second (first (below (both (sign {token = word} m) x)))))) = let k = is_same word.kind kinds.MapWord m in rw k refl
not_open_array tree rest (part (second (second (second (first (below (both (sign {token = word} m) x))))))) = let k = is_same word.kind kinds.StructWord m in rw k refl
not_open_array tree rest (part (second (second (second (second (below (both (sign {token = word} m) x))))))) = let k = is_same word.kind kinds.InterfaceWord m in rw k refl

module _ (p : Parsers) (depth : ℕ) (r : Rereads p depth) where
  at_operand : (place : Place) (tokens : List Token) (x : Left) → operand_in p place tokens ≡ Some x → is_type_only x.0 ≡ false → Reaches (suffix_turn p place) (primary_in p place tokens) x
  at_operand place tokens x e o = record { turns = length x.1; room = omega arith; comes = rw (e, o) refl }

  pub at_tokens : (place : Place) (tokens others : List Token) (x : Left) → tokens ≡ others → Reaches (suffix_turn p place) (primary_in p place others) x → Reaches (suffix_turn p place) (primary_in p place tokens) x
  at_tokens place tokens others x e h = subst (λ (ws : List Token). Reaches (suffix_turn p place) (primary_in p place ws) x) (sym e) h

  -- ---- types

  pub operand_type : (place : Place) (tokens : List Token) → IsFirst begins_type_operand tokens → operand_in p place tokens ≡ type_operand_in p place tokens
  operand_type place tokens f = ap (operand_in p place) f.all ∙ go f.token.kind f.kind ∙ ap (type_operand_in p place) (sym f.all)
    where
      go : (kind : Kind) → begins_type_operand kind ≡ true → operand_by p place kind f.token f.others ≡ type_operand_in p place (f.token ∷ f.others)
      go kinds.OpenBracket h = refl
      go kinds.MapWord h = refl
      go kinds.StructWord h = refl
      go kinds.InterfaceWord h = refl
      go kinds.ChanWord h = refl
      go kinds.Arrow h = refl
      go _ h = absurd cc

  bare_operand : (place : Place) (tree : Forest) (rest : List Token) → Fits grammar (shapes.Part sorts.BareType) tree rest → IsFirst anything rest → length (yield tree) ≤ depth → operand_in p place (yield tree ++ rest) ≡ Some (node forms.TypeOperandForm tree empty, rest)
  bare_operand place tree rest x any le =
      let f = starts sorts.BareType tree rest refl x in
      let open_array : begins_both kinds.OpenBracket kinds.Ellipsis (yield tree ++ rest) ≡ false = not_open_array tree rest x in
      let g = first_implied (heads sorts.BareType) begins_bare (yield tree ++ rest) refl f in
      let bare : is_next begins_bare (yield tree ++ rest) ≡ true = ap (is_next begins_bare) g.all ∙ g.kind in
      let read : bare_in p (yield tree ++ rest) ≡ Some (tree, rest) = bare_again p depth r tree rest x any le in
      let all : type_operand_in p place (yield tree ++ rest) ≡ Some (node forms.TypeOperandForm tree empty, rest) = rw (open_array, bare, read) refl in
      operand_type place (yield tree ++ rest) (first_implied (heads sorts.BareType) begins_type_operand (yield tree ++ rest) refl f) ∙ all

  open_array_read : (tree : Forest) (rest : List Token) → Fits grammar sorts.open_array tree rest → IsFirst anything rest → length (yield tree) ≤ depth → run (at_type p) open_array_plan (yield tree ++ rest) ≡ Some (tree, rest)
  open_array_read tree rest (below (both (sign {token = opened} o) (both (sign {token = dots} d) (both (sign {token = closed} c) (part {tree = item} x))))) any le =
      let len = ap length (append-nil (yield item)) in
      let same : (yield item ++ []) ++ rest ≡ yield item ++ rest = ap (λ (ws : List Token). ws ++ rest) (append-nil (yield item)) in
      let read : p.type_expr (yield item ++ rest) ≡ Some (item, rest) = r.type_expr item rest (part x) any (omega arith) in
      rw (o, d, c, same, read) refl

  open_array_operand : (place : Place) (tree : Forest) (rest : List Token) → Fits grammar sorts.open_array tree rest → IsFirst anything rest → begins kinds.OpenBrace rest ≡ true → length (yield tree) ≤ depth
      → operand_in p place (yield tree ++ rest) ≡ Some (node forms.TypeOperandForm tree empty, rest)
  open_array_operand place tree rest x any b le =
      let f = first_behind anything x any in
      let opened : begins_both kinds.OpenBracket kinds.Ellipsis (yield tree ++ rest) ≡ true = open_front tree rest x in
      let read = open_array_read tree rest x any le in
      let all : type_operand_in p place (yield tree ++ rest) ≡ Some (node forms.TypeOperandForm tree empty, rest) = rw (opened, read, b) refl in
      operand_type place (yield tree ++ rest) (first_implied (behind sorts.open_array anything) begins_type_operand (yield tree ++ rest) refl f) ∙ all
    where
      open_front : (tree : Forest) (rest : List Token) → Fits grammar sorts.open_array tree rest → begins_both kinds.OpenBracket kinds.Ellipsis (yield tree ++ rest) ≡ true
      open_front tree rest (below (both (sign o) (both (sign d) x))) = rw (o, d) refl

  literal_operand : (place : Place) (tree braces : Forest) (rest : List Token) → Fits grammar (shapes.Part sorts.LiteralType) tree (yield braces ++ rest) → IsFirst (heads sorts.Braces) (yield braces ++ rest) → length (yield tree) ≤ depth
      → operand_in p place (yield tree ++ (yield braces ++ rest)) ≡ Some (node forms.TypeOperandForm tree empty, yield braces ++ rest)
  literal_operand place tree braces rest (part (first x)) f le = bare_operand place tree (yield braces ++ rest) x (first_implied (heads sorts.Braces) anything _ refl f) le
  literal_operand place tree braces rest (part (second x)) f le =
      open_array_operand place tree (yield braces ++ rest) x (first_implied (heads sorts.Braces) anything _ refl f) (ap (begins kinds.OpenBrace) f.all ∙ f.kind) le

  literal_only : (tree : Forest) (rest : List Token) → Fits grammar (shapes.Part sorts.LiteralType) tree rest → is_type_only (node forms.TypeOperandForm tree empty) ≡ false
  literal_only tree rest (part (first x)) = bare_part_only x
  literal_only tree rest (part (second x)) = open_not_only x

  -- ---- braces behind a type

  pub goes_on : (place : Place) (left : Forest) (tokens : List Token) (x : Left) → begins_suffix place left tokens ≡ true → suffix_in p left tokens ≡ Some x → suffix_turn p place (left, tokens) ≡ Some (On x)
  goes_on place left tokens x b e = rw (b, e) refl

  braces_turn : (place : Place) (left form braces : Forest) (rest : List Token) → is_literal_type place left ≡ true → literal_type left ≡ Some form → Fits grammar (shapes.Part sorts.Braces) braces rest → length (yield braces) ≤ depth
      → suffix_turn p place (left, yield braces ++ rest) ≡ Some (On (node forms.CompositeForm (append form braces) empty, rest))
  braces_turn place left form braces rest l e x le = goes_on place left (yield braces ++ rest) (node forms.CompositeForm (append form braces) empty, rest) begins_it reads_it
    where
      f : IsFirst (heads sorts.Braces) (yield braces ++ rest)
      f = starts sorts.Braces braces rest refl x

      k : f.token.kind ≡ kinds.OpenBrace
      k = is_same f.token.kind kinds.OpenBrace f.kind

      read : braces_in p (yield braces ++ rest) ≡ Some (braces, rest)
      read = braces_again p depth r braces rest x le

      begins_it : begins_suffix place left (yield braces ++ rest) ≡ true
      begins_it = ap (begins_suffix place left) f.all ∙ ap (λ (kind : Kind). suffix_by place left kind f.others) k ∙ l

      literal : suffix_at p left kinds.OpenBrace (yield braces ++ rest) ≡ Some (node forms.CompositeForm (append form braces) empty, rest)
      literal = rw (e, read) refl

      reads_it : suffix_in p left (yield braces ++ rest) ≡ Some (node forms.CompositeForm (append form braces) empty, rest)
      reads_it = ap (suffix_in p left) f.all ∙ ap (λ (kind : Kind). suffix_at p left kind (f.token ∷ f.others)) k ∙ ap (suffix_at p left kinds.OpenBrace) (sym f.all) ∙ literal

  composite_reaches : (place : Place) (tokens : List Token) (left form braces : Forest) (rest : List Token) → is_literal_type place left ≡ true → literal_type left ≡ Some form → Fits grammar (shapes.Part sorts.Braces) braces rest → length (yield braces) ≤ depth
      → Reaches (suffix_turn p place) (primary_in p place tokens) (left, yield braces ++ rest) → Reaches (suffix_turn p place) (primary_in p place tokens) (node forms.CompositeForm (append form braces) empty, rest)
  composite_reaches place tokens left form braces rest l e x le h =
      one_more (suffix_turn p place) (primary_in p place tokens) (left, yield braces ++ rest) (node forms.CompositeForm (append form braces) empty, rest) (braces_turn place left form braces rest l e x le) (omega (arith, at_least x, length-append (yield braces) rest)) h

  -- ---- operands

  function_read : (place : Place) (word : Token) (signature body : Forest) (rest : List Token) → is word.kind kinds.FuncWord ≡ true → Fits grammar (shapes.Part sorts.Signature) signature (yield body ++ rest) → Fits grammar (shapes.Part sorts.Block) body rest
      → length (yield signature) ≤ depth → length (yield body) ≤ depth → function_in p place (word ∷ (yield signature ++ (yield body ++ rest))) ≡ Some (node forms.LiteralFunctionForm (leaf word (append signature body)) empty, rest)
  function_read place word signature body rest f x y le le' =
      let g = starts sorts.Block body rest refl y in
      let opened : begins kinds.OpenBrace (yield body ++ rest) ≡ true = ap (begins kinds.OpenBrace) g.all ∙ g.kind in
      let read = signature_again p depth r signature (yield body ++ rest) x (first_implied (heads sorts.Block) anything _ refl g) le in
      let read' = block_again p depth r body rest y le' in
      rw (f, read, opened, read') refl

  pub operand_read : (place : Place) (kind : Kind) (token : Token) (rest : List Token) (x : Left) → is token.kind kind ≡ true → operand_by p place kind token rest ≡ Some x → operand_in p place (token ∷ rest) ≡ Some x
  operand_read place kind token rest x e h = ap (λ (k : Kind). operand_by p place k token rest) (is_same token.kind kind e) ∙ h

  plain_reaches : (place : Place) (tree : Forest) (rest : List Token) → Fits grammar sorts.operand tree rest → IsFirst anything rest → length (yield tree) ≤ depth → Reaches (suffix_turn p place) (primary_in p place (yield tree ++ rest)) (tree, rest)
  plain_reaches place tree rest (first (below (sign {token = token} e))) any le = at_operand place (token ∷ rest) (tree, rest) (operand_read place kinds.Int token rest _ e refl) refl
  plain_reaches place tree rest (second (first (below (sign {token = token} e)))) any le = at_operand place (token ∷ rest) (tree, rest) (operand_read place kinds.Rune token rest _ e refl) refl
  plain_reaches place tree rest (second (second (first (below (sign {token = token} e))))) any le = at_operand place (token ∷ rest) (tree, rest) (operand_read place kinds.Text token rest _ e refl) refl
  plain_reaches place tree rest (second (second (second (first (below (sign {token = token} e)))))) any le = at_operand place (token ∷ rest) (tree, rest) (operand_read place kinds.Name token rest _ e refl) refl
  plain_reaches place tree rest (second (second (second (second (first (below (both (sign {token = opened} o) (both {left = inner} i (sign {token = closed} c))))))))) any le =
      let len = node_long forms.ParenForm (leaf opened empty) (append inner (leaf closed empty)) in
      let len' = ap length (yield-append inner (leaf closed empty)) in
      let len'' = length-append (yield inner) (yield (leaf closed empty)) in
      let tail = closed ∷ rest in
      let same : (yield (append inner (leaf closed empty)) ++ []) ++ rest ≡ yield inner ++ tail = node_spelled forms.ParenForm inner (leaf closed empty) rest in
      let read : p.expr Item 1 (yield inner ++ tail) ≡ Some (inner, tail) = item_again p depth r inner tail i (first_is ends_item kinds.CloseParen closed rest refl c) (omega arith) in
      let all : operand_by p place kinds.OpenParen opened (yield inner ++ tail) ≡ Some (tree, rest) = rw (read, c) refl in
      at_tokens place (yield tree ++ rest) (opened ∷ (yield inner ++ tail)) (tree, rest) (ap (λ (ws : List Token). opened ∷ ws) same) (at_operand place (opened ∷ (yield inner ++ tail)) (tree, rest) (operand_read place kinds.OpenParen opened (yield inner ++ tail) _ o all) refl)
  plain_reaches place tree rest (second (second (second (second (second (first (below (both (sign {token = word} f) (both {left = signature} {right = body} x y))))))))) any le =
      let len = node_long forms.LiteralFunctionForm (leaf word empty) (append signature body) in
      let len' = ap length (yield-append signature body) in
      let len'' = length-append (yield signature) (yield body) in
      let tail = yield signature ++ (yield body ++ rest) in
      let same : (yield (append signature body) ++ []) ++ rest ≡ tail = node_spelled forms.LiteralFunctionForm signature body rest in
      at_tokens place (yield tree ++ rest) (word ∷ tail) (tree, rest) (ap (λ (ws : List Token). word ∷ ws) same)
      (at_operand place (word ∷ tail) (tree, rest) (operand_read place kinds.FuncWord word tail _ f (function_read place word signature body rest f x y (omega arith) (omega arith))) refl)
  plain_reaches place tree rest (second (second (second (second (second (second (first (below (both {left = bare} x (before b)))))))))) any le =
      let len = node_long forms.TypeOperandForm bare empty in
      let len' = length-append (yield bare) [] in
      let typed = node forms.TypeOperandForm bare empty in
      let whole = at_tokens place (yield typed ++ rest) (yield bare ++ rest) (typed, rest) (ap (λ (ws : List Token). ws ++ rest) (append-nil (yield bare))) (at_operand place (yield bare ++ rest) (typed, rest) (bare_operand place bare rest x any (omega arith)) (bare_part_only x)) in
      subst (λ (form : Forest). Reaches (suffix_turn p place) (primary_in p place (yield (node forms.TypeOperandForm form empty) ++ rest)) (node forms.TypeOperandForm form empty, rest)) (sym (append-empty bare)) whole
  plain_reaches place tree rest (second (second (second (second (second (second (second (below (both {left = form} {right = braces} x y))))))))) any le =
      let len = node_long forms.CompositeForm form braces in
      let len' = length-append (yield form) (yield braces) in
      let f = starts sorts.Braces braces rest refl y in
      at_tokens place (yield tree ++ rest) (yield form ++ (yield braces ++ rest)) (tree, rest) (node_spelled forms.CompositeForm form braces rest)
      (composite_reaches place (yield form ++ (yield braces ++ rest)) (node forms.TypeOperandForm form empty) form braces rest refl refl y (omega arith)
      (at_operand place (yield form ++ (yield braces ++ rest)) (node forms.TypeOperandForm form empty, yield braces ++ rest) (literal_operand place form braces rest x f (omega arith)) (literal_only form (yield braces ++ rest) x)))

  pub selector_turn : (place : Place) (left : Forest) (dot name : Token) (rest : List Token) → is dot.kind kinds.Dot ≡ true → is name.kind kinds.Name ≡ true
      → suffix_turn p place (left, dot ∷ name ∷ rest) ≡ Some (On (node forms.SelectorForm (append left (leaf dot (leaf name empty))) empty, rest))
  selector_turn place left dot name rest d n = let k = is_same dot.kind kinds.Dot d in let k' = is_same name.kind kinds.Name n in rw (k, k') refl

  -- a literal of a type with a name
  named_reaches : (place : Place) (form braces : Forest) (rest : List Token) → is_header place ≡ false → Fits grammar (shapes.Part sorts.TypeName) form (yield braces ++ rest) → Fits grammar (shapes.Part sorts.Braces) braces rest → length (yield braces) ≤ depth
      → Reaches (suffix_turn p place) (primary_in p place (yield (node forms.CompositeForm (append form braces) empty) ++ rest)) (node forms.CompositeForm (append form braces) empty, rest)
  named_reaches place form braces rest h (part (below (both (sign {token = name} n) (first (both (sign {token = dot} d) (sign {token = other} m)))))) y le =
      let tail = yield braces ++ rest in
      let left = node forms.NameForm (leaf name empty) empty in
      let selector = node forms.SelectorForm (node forms.NameForm (leaf name empty) (leaf dot (leaf other empty))) empty in
      let fine : is_literal_type place selector ≡ true = rw h refl in
      let at_name = at_operand place (name ∷ dot ∷ other ∷ tail) (left, dot ∷ other ∷ tail) (operand_read place kinds.Name name (dot ∷ other ∷ tail) _ n refl) refl in
      let at_selector = one_more (suffix_turn p place) (primary_in p place (name ∷ dot ∷ other ∷ tail)) (left, dot ∷ other ∷ tail) (selector, tail) (selector_turn place left dot other tail d m) (omega arith) at_name in
      at_tokens place _ (name ∷ dot ∷ other ∷ tail) _ (node_spelled forms.CompositeForm form braces rest) (composite_reaches place (name ∷ dot ∷ other ∷ tail) selector form braces rest fine refl y le at_selector)
  named_reaches place form braces rest h (part (below (both (sign {token = name} n) (second (before b))))) y le =
      let tail = yield braces ++ rest in
      let left = node forms.NameForm (leaf name empty) empty in
      let fine : is_literal_type place left ≡ true = rw h refl in
      let at_name = at_operand place (name ∷ tail) (left, tail) (operand_read place kinds.Name name tail _ n refl) refl in
      at_tokens place _ (name ∷ tail) _ (node_spelled forms.CompositeForm form braces rest) (composite_reaches place (name ∷ tail) left form braces rest fine refl y le at_name)

  pub operand_reaches : (place : Place) (tree : Forest) (rest : List Token) → Fits grammar (shapes.Part (sorts.Operand (context_of place))) tree rest → IsFirst anything rest → length (yield tree) ≤ depth
      → Reaches (suffix_turn p place) (primary_in p place (yield tree ++ rest)) (tree, rest)
  operand_reaches Plain tree rest (part (first x)) any le = plain_reaches Plain tree rest x any le
  operand_reaches Plain tree rest (part (second (below (both {left = form} {right = braces} x y)))) any le =
      named_reaches Plain form braces rest refl x y (omega (arith, node_long forms.CompositeForm form braces, length-append (yield form) (yield braces)))
  operand_reaches Item tree rest (part (first x)) any le = plain_reaches Item tree rest x any le
  operand_reaches Item tree rest (part (second (below (both {left = form} {right = braces} x y)))) any le =
      named_reaches Item form braces rest refl x y (omega (arith, node_long forms.CompositeForm form braces, length-append (yield form) (yield braces)))
  operand_reaches Header tree rest (part x) any le = plain_reaches Header tree rest x any le
