-- Expressions with signs, and types that are no expressions, are read again.
use Rattle.std.proofs.Common.{◌≡◌, ℕ, ◌≤◌, ◌<◌, true, false, List, [], ◌∷◌, ◌++◌, length, Some, refl, sym, ap, ◌∙◌, subst, arith}
use Rattle.std.proofs.lemmas.List.{append-nil}
use Rattle.std.specs.Prelude.{◌||◌, not}
use Rattle.go_ast.specs.declared.token.Kind.{Kind}
use Rattle.go_ast.specs.declared.token.Kind.TheVariants as kinds
use Rattle.go_ast.specs.declared.token.Token.{Token}
use Rattle.go_grammar.specs.Forests.{Form, Forest, empty, leaf, node, append, yield}
use Rattle.go_grammar.specs.Forests as forms
use Rattle.go_grammar.specs.Shapes as shapes
use Rattle.go_grammar.specs.Shapes.{Shape, Fits, part, below, first, second, both, sign, before, is}
use Rattle.go_grammar.specs.Grammar as sorts
use Rattle.go_grammar.specs.Grammar.{Sort, Context, grammar, is_sign, opens_braces}
use Rattle.go_grammar.specs.Reading.{is_next}
use Rattle.go_grammar.specs.Tests.{begins, begins_both}
use Rattle.go_grammar.specs.TypeReading.{Place, Plain, Header, Item, Parsers, begins_bare}
use Rattle.go_grammar.specs.ExprReading.{context_of, of_operand, is_type_only, is_only_a_type, unary_of, starred, begins_sign_by, unary_by, unary_in, function_in, type_operand_in, operand_in, primary_in}
use Rattle.go_grammar.proofs.Forests.{append-empty}
use Rattle.go_grammar.proofs.SameKinds.{is_same}
use Rattle.go_grammar.proofs.Fronts.{begins_operand, IsFirst}
use Rattle.go_grammar.proofs.Choices.{behind, first_behind}
use Rattle.go_grammar.proofs.TypeChoices.{anything}
use Rattle.go_grammar.proofs.TypeTakes.{level_sort, tight, type_operand}
use Rattle.go_grammar.proofs.OperandTakes.{bare_part_only}
use Rattle.go_grammar.proofs.OperatorTakes.{tight_small}
use Rattle.go_grammar.proofs.Rereads.{Rereads, expr_shape, ends_by, ends_operand}
use Rattle.go_grammar.proofs.TypeAgain.{signature_again, chan_again}
use Rattle.go_grammar.proofs.Reaching.{starts, part_not, node_spelled, node_long}
use Rattle.go_grammar.proofs.ExprAgain.{first_implied}
use Rattle.go_grammar.proofs.OperandAgain.{begins_type_operand, operand_type, operand_read}
use Rattle.go_grammar.proofs.SuffixAgain.{ended_token, primary_again}

-- ---- what is no type

operand_only : {tree : Forest} {rest : List Token} → Fits grammar sorts.operand tree rest → is_type_only tree ≡ false
operand_only (first (below x)) = refl
operand_only (second (first (below x))) = refl
operand_only (second (second (first (below x)))) = refl
operand_only (second (second (second (first (below x))))) = refl
operand_only (second (second (second (second (first (below x)))))) = refl
operand_only (second (second (second (second (second (first (below x))))))) = refl
operand_only (second (second (second (second (second (second (first (below (both {left = bare} x (before n)))))))))) = ap is_only_a_type (append-empty bare) ∙ bare_part_only x
operand_only (second (second (second (second (second (second (second (below x)))))))) = refl

operand_part_only : (context : Context) {tree : Forest} {rest : List Token} → Fits grammar (shapes.Part (sorts.Operand context)) tree rest → is_type_only tree ≡ false
operand_part_only sorts.Plain (part (first x)) = operand_only x
operand_part_only sorts.Plain (part (second (below x))) = refl
operand_part_only sorts.Header (part x) = operand_only x

pub unary_only : (context : Context) {tree : Forest} {rest : List Token} → Fits grammar (shapes.Part (sorts.Unary context)) tree rest → is_type_only tree ≡ false
unary_only context (part (first (below x))) = refl
unary_only context (part (second (part (first x)))) = operand_part_only context x
unary_only context (part (second (part (second (first (below x)))))) = refl
unary_only context (part (second (part (second (second (first (below x))))))) = refl
unary_only context (part (second (part (second (second (second (first (below x)))))))) = refl
unary_only context (part (second (part (second (second (second (second (first (below x))))))))) = refl
unary_only context (part (second (part (second (second (second (second (second (first (below x)))))))))) = refl
unary_only context (part (second (part (second (second (second (second (second (second (below x)))))))))) = refl

type_only : {tree : Forest} {rest : List Token} → Fits grammar (shapes.Part sorts.TypeOnly) tree rest → is_only_a_type tree ≡ true
type_only (part (first (below x))) = refl
type_only (part (second (first (first (below x))))) = refl
type_only (part (second (first (second (below x))))) = refl
type_only (part (second (second (below x)))) = refl

pub type_operand_only : {tree : Forest} {rest : List Token} → Fits grammar type_operand tree rest → is_type_only tree ≡ true
type_operand_only (below x) = type_only x

starred_expr : (star : Token) (tree : Forest) → is_type_only tree ≡ false → starred star tree ≡ unary_of star tree
starred_expr star empty e = refl
starred_expr star (leaf token behind) e = refl
starred_expr star (node form base behind) e = rw e refl

-- no braces follow
not_opening : (rest : List Token) → shapes.IsNext (λ kind. not (opens_braces kind)) rest → begins kinds.OpenBrace rest ≡ false
not_opening [] n = refl
not_opening (token ∷ rest) n = go token.kind n
  where
    go : (kind : Kind) → not (opens_braces kind) ≡ true → is kind kinds.OpenBrace ≡ false
    go kinds.OpenBrace n = absurd cc
    go _ n = refl

-- what ends an operand ends it where types may stand, and the other way
pub ends_plain : (place : Place) (rest : List Token) → ends_operand place rest ≡ true → ends_operand (of_operand place) rest ≡ true
ends_plain Plain rest e = e
ends_plain Header rest e = e
ends_plain Item [] e = e
ends_plain Item (token ∷ rest) e = go token.kind e
  where
    go : (kind : Kind) → ends_by Item kind rest ≡ true → ends_by Plain kind rest ≡ true
    go kinds.Dot e = e
    go kinds.OpenBracket e = e
    go kinds.OpenParen e = e
    go kinds.OpenBrace e = e
    go _ e = refl

unary_shape : (place : Place) (tree : Forest) (rest : List Token) → Fits grammar (shapes.Part (sorts.Unary (context_of place))) tree rest → Fits grammar (expr_shape place 6) tree rest
unary_shape Plain tree rest x = x
unary_shape Header tree rest x = x
unary_shape Item tree rest x = first x

module _ (p : Parsers) (depth : ℕ) (r : Rereads p depth) where
  -- what stands behind an operator or a sign
  pub right_again : (place : Place) (min : ℕ) (tree : Forest) (rest : List Token) → 1 ≤ min → min ≤ 6 → Fits grammar (shapes.Part (level_sort (context_of place) min)) tree rest → ends_operand place rest ≡ true → tight rest < min → length (yield tree) < depth
      → p.expr (of_operand place) min (yield tree ++ rest) ≡ Some (tree, rest)
  right_again Plain min tree rest one six x e lt le = r.expr Plain min tree rest one six x e lt le
  right_again Header min tree rest one six x e lt le = r.expr Header min tree rest one six x e lt le
  right_again Item min tree rest one six x e lt le = r.expr Plain min tree rest one six x (ends_plain Item rest e) lt le

  unary_primary : (place : Place) (tokens : List Token) → IsFirst begins_operand tokens → unary_in p place tokens ≡ primary_in p place tokens
  unary_primary place tokens f = ap (unary_in p place) f.all ∙ go f.token.kind f.kind ∙ ap (primary_in p place) (sym f.all)
    where
      go : (kind : Kind) → begins_operand kind ≡ true → unary_by p place kind f.token f.others ≡ primary_in p place (f.token ∷ f.others)
      go kinds.Int h = refl
      go kinds.Rune h = refl
      go kinds.Text h = refl
      go kinds.Name h = refl
      go kinds.OpenParen h = refl
      go kinds.FuncWord h = refl
      go kinds.OpenBracket h = refl
      go kinds.MapWord h = refl
      go kinds.StructWord h = refl
      go kinds.InterfaceWord h = refl
      go _ h = absurd cc

  signed_again : (place : Place) (operator : Token) (operand : Forest) (rest : List Token) → is_sign operator.kind ≡ true → Fits grammar (shapes.Part (sorts.Unary (context_of place))) operand rest → ends_operand place rest ≡ true → length (yield operand) < depth
      → unary_in p place (operator ∷ (yield operand ++ rest)) ≡ Some (unary_of operator operand, rest)
  signed_again place operator operand rest s x e lt = go operator.kind s
    where
      loose : tight rest < 6
      loose = omega (arith, tight_small rest)

      read : p.expr place 6 (yield operand ++ rest) ≡ Some (operand, rest)
      read = r.expr place 6 operand rest (omega arith) (omega arith) (unary_shape place operand rest x) e loose lt

      read' : p.expr (of_operand place) 6 (yield operand ++ rest) ≡ Some (operand, rest)
      read' = right_again place 6 operand rest (omega arith) (omega arith) x e loose lt

      no_chan : begins kinds.ChanWord (yield operand ++ rest) ≡ false
      no_chan = part_not (sorts.Unary (context_of place)) kinds.ChanWord operand rest refl refl x

      star : starred operator operand ≡ unary_of operator operand
      star = starred_expr operator operand (unary_only (context_of place) x)

      go : (kind : Kind) → is_sign kind ≡ true → unary_by p place kind operator (yield operand ++ rest) ≡ Some (unary_of operator operand, rest)
      go kinds.Star s = rw (read, star) refl
      go kinds.Arrow s = rw (no_chan, read') refl
      go kinds.Plus s = rw read' refl
      go kinds.Minus s = rw read' refl
      go kinds.Not s = rw read' refl
      go kinds.Caret s = rw read' refl
      go kinds.Ampersand s = rw read' refl
      go _ s = absurd cc

  pub unary_again : (place : Place) (tree : Forest) (rest : List Token) → Fits grammar (shapes.Part (sorts.Unary (context_of place))) tree rest → ends_operand place rest ≡ true → length (yield tree) ≤ depth → unary_in p place (yield tree ++ rest) ≡ Some (tree, rest)
  unary_again place tree rest (part (first (below (both (sign {token = operator} s) (part {tree = operand} x))))) e le =
      let len = node_long forms.UnaryForm (leaf operator empty) operand in
      let same : yield (node forms.UnaryForm (leaf operator operand) empty) ++ rest ≡ operator ∷ (yield operand ++ rest) = node_spelled forms.UnaryForm (leaf operator empty) operand rest in
      ap (unary_in p place) same ∙ signed_again place operator operand rest s (part x) e (omega arith)
  unary_again place tree rest (part (second x)) e le =
      unary_primary place (yield tree ++ rest) (starts (sorts.Primary (context_of place)) tree rest refl x) ∙ primary_again p depth r place tree rest x e le

  -- ---- types that are no expressions

  pointer_again : (star : Token) (base : Forest) (rest : List Token) → is star.kind kinds.Star ≡ true → Fits grammar (shapes.Part sorts.TypeOnly) base rest → ends_operand Item rest ≡ true → length (yield base) < depth
      → unary_in p Item (star ∷ ((yield base ++ []) ++ rest)) ≡ Some (node forms.TypeOperandForm (node forms.PointerForm (leaf star base) empty) empty, rest)
  pointer_again star base rest s x e lt =
      let k = is_same star.kind kinds.Star s in
      let len = ap length (append-nil (yield base)) in
      let typed = node forms.TypeOperandForm base empty in
      let read : p.expr Item 6 (yield typed ++ rest) ≡ Some (typed, rest) = r.expr Item 6 typed rest (omega arith) (omega arith) (second (below x)) e (omega (arith, tight_small rest)) (omega arith) in
      let only : is_only_a_type base ≡ true = type_only x in
      let all : unary_by p Item kinds.Star star (yield typed ++ rest) ≡ Some (node forms.TypeOperandForm (node forms.PointerForm (leaf star base) empty) empty, rest) = rw (read, only) refl in
      ap (λ (kind : Kind). unary_by p Item kind star (yield typed ++ rest)) k ∙ all

  -- what is read as an operand, and is no expression, is the whole
  only_again : (tokens : List Token) (form : Forest) (rest : List Token) → unary_in p Item tokens ≡ primary_in p Item tokens → operand_in p Item tokens ≡ Some (node forms.TypeOperandForm form empty, rest) → is_only_a_type form ≡ true
      → unary_in p Item tokens ≡ Some (node forms.TypeOperandForm form empty, rest)
  only_again tokens form rest h e o = h ∙ (rw (e, o) refl)

  chan_operand : (tree : Forest) (rest : List Token) → Fits grammar sorts.chan_type tree rest → IsFirst anything rest → length (yield tree) ≤ depth
      → (unary_in p Item (yield tree ++ rest) ≡ primary_in p Item (yield tree ++ rest)) × (operand_in p Item (yield tree ++ rest) ≡ Some (node forms.TypeOperandForm tree empty, rest))
  chan_operand tree rest x any le =
      let f = first_behind anything x any in
      let g = chan_front tree rest x in
      let read = chan_again p depth r tree rest x any le in
      let array : begins_both kinds.OpenBracket kinds.Ellipsis (yield tree ++ rest) ≡ false = g.0 in
      let bare : is_next begins_bare (yield tree ++ rest) ≡ false = g.1 in
      let chan : (begins kinds.ChanWord (yield tree ++ rest) || begins kinds.Arrow (yield tree ++ rest)) ≡ true = g.2 in
      let all : type_operand_in p Item (yield tree ++ rest) ≡ Some (node forms.TypeOperandForm tree empty, rest) = rw (array, bare, chan, read) refl in
      (g.3, operand_type p depth r Item (yield tree ++ rest) (first_implied (behind sorts.chan_type anything) begins_type_operand (yield tree ++ rest) refl f) ∙ all)
    where
      chan_front : (tree : Forest) (rest : List Token) → Fits grammar sorts.chan_type tree rest
          → (begins_both kinds.OpenBracket kinds.Ellipsis (yield tree ++ rest) ≡ false) × (is_next begins_bare (yield tree ++ rest) ≡ false) × ((begins kinds.ChanWord (yield tree ++ rest) || begins kinds.Arrow (yield tree ++ rest)) ≡ true)
          × (unary_in p Item (yield tree ++ rest) ≡ primary_in p Item (yield tree ++ rest))
      chan_front tree rest (first (below (both {right = others} (sign {token = word} w) x))) =
          let k = is_same word.kind kinds.ChanWord w in
          (rw k refl, rw k refl, rw k refl, ap (λ (kind : Kind). unary_by p Item kind word ((yield others ++ []) ++ rest)) k)
      chan_front tree rest (second (below (both (sign {token = arrow} a) (both {right = others} (sign {token = word} w) x)))) =
          let k = is_same arrow.kind kinds.Arrow a in
          let chan : begins_sign_by kinds.Arrow (word ∷ ((yield others ++ []) ++ rest)) ≡ false = rw w refl in
          let plain : unary_by p Item kinds.Arrow arrow (word ∷ ((yield others ++ []) ++ rest)) ≡ primary_in p Item (arrow ∷ word ∷ ((yield others ++ []) ++ rest)) = rw chan refl in
          (rw k refl, rw k refl, rw k refl, ap (λ (kind : Kind). unary_by p Item kind arrow (word ∷ ((yield others ++ []) ++ rest))) k ∙ plain)

  function_operand : (word : Token) (signature : Forest) (rest : List Token) → is word.kind kinds.FuncWord ≡ true → Fits grammar (shapes.Part sorts.Signature) signature rest → begins kinds.OpenBrace rest ≡ false → IsFirst anything rest → length (yield signature) ≤ depth
      → unary_in p Item (word ∷ (yield signature ++ rest)) ≡ Some (node forms.TypeOperandForm (node forms.FunctionForm (leaf word signature) empty) empty, rest)
  function_operand word signature rest w x none any le =
      let read = signature_again p depth r signature rest x any le in
      let tokens = word ∷ (yield signature ++ rest) in
      let all : function_in p Item tokens ≡ Some (node forms.TypeOperandForm (node forms.FunctionForm (leaf word signature) empty) empty, rest) = rw (w, read, none) refl in
      let front : IsFirst begins_operand tokens = record { token = word; others = yield signature ++ rest; all = refl; kind = ap begins_operand (is_same word.kind kinds.FuncWord w) } in
      only_again tokens (node forms.FunctionForm (leaf word signature) empty) rest (unary_primary Item tokens front) (operand_read p depth r Item kinds.FuncWord word (yield signature ++ rest) _ w all) refl

  pub type_only_again : (tree : Forest) (rest : List Token) → Fits grammar type_operand tree rest → ends_operand Item rest ≡ true → length (yield tree) ≤ depth → unary_in p Item (yield tree ++ rest) ≡ Some (tree, rest)
  type_only_again tree rest (below (part (first (below (both (sign {token = star} s) (part {tree = base} x)))))) e le =
      let len = ap length (append-nil (yield base)) in
      let len' = ap length (append-nil (yield base ++ [])) in
      ap (λ (ws : List Token). unary_in p Item (star ∷ (ws ++ rest))) (append-nil (yield base ++ [])) ∙ pointer_again star base rest s (part x) e (omega arith)
  type_only_again tree rest (below (part {tree = form} (second (first x)))) e le =
      let len = ap length (append-nil (yield form)) in
      let c = chan_operand form rest x (ended_token Item rest e) (omega arith) in
      ap (λ (ws : List Token). unary_in p Item (ws ++ rest)) (append-nil (yield form)) ∙ only_again (yield form ++ rest) form rest c.0 c.1 (type_only (part (second (first x))))
  type_only_again tree rest (below (part (second (second (below (both (sign {token = word} w) (both {left = signature} x (before n)))))))) e le =
      let len = ap length (append-nil (yield (append signature empty) ++ [])) in
      let len' = ap length (append-nil (yield (append signature empty))) in
      let len'' = ap (λ (s : Forest). length (yield s)) (append-empty signature) in
      let whole : unary_in p Item (word ∷ (((yield signature ++ []) ++ []) ++ rest)) ≡ Some (node forms.TypeOperandForm (node forms.FunctionForm (leaf word signature) empty) empty, rest) =
      ap (λ (ws : List Token). unary_in p Item (word ∷ (ws ++ rest))) (append-nil (yield signature ++ []) ∙ append-nil (yield signature)) ∙ function_operand word signature rest w x (not_opening rest n) (ended_token Item rest e) (omega arith) in
      subst (λ (s : Forest). unary_in p Item (word ∷ (((yield s ++ []) ++ []) ++ rest)) ≡ Some (node forms.TypeOperandForm (node forms.FunctionForm (leaf word s) empty) empty, rest)) (sym (append-empty signature)) whole
