-- Which operand is read, by its first word; which sign stands before one.
use Rattle.std.proofs.Common.{◌≡◌, Bool, true, false, cond, List, [], ◌∷◌, Option, Some, None, refl, sym, ap, ◌∙◌, subst}
use Rattle.std.specs.Prelude.{◌&&◌, ◌||◌}
use Rattle.go_ast.specs.declared.token.Kind.{Kind}
use Rattle.go_ast.specs.declared.token.Kind.TheVariants as kinds
use Rattle.go_ast.specs.declared.token.Token.{Token}
use Rattle.go_grammar.specs.Shapes.{is}
use Rattle.go_grammar.specs.Forests as forms
use Rattle.go_grammar.specs.Forests.{Forest}
use Rattle.go_grammar.specs.Reading.{Reader, ◌>>=◌, node_in}
use Rattle.go_grammar.specs.Tests.{begins, word_in}
use Rattle.go_grammar.specs.TypeReading.{Parsers, Place, Plain, Header, Item}
use Rattle.go_grammar.specs.ExprReading.{operand_by, operand_in, function_in, type_operand_in, unary_in, unary_of, primary_in, starred, of_operand, begins_sign_by}
use Rattle.go_grammar.proofs.SameKinds.{is_same}
use Rattle.go_fragments.specs.declared.stop.Stop.{Stop}
use Rattle.go_fragments.specs.declared.stop.Stop.TheVariants as stops
use Rattle.go_fragments.specs.Giving.{Fails}
use Rattle.go_fragments.specs.Operands.{star_at, sign_at}
use Rattle.go_readers.specs.Operands.{paren_in}
use Rattle.go_readers.proofs.Signs.{unary_star, unary_sign, unary_plain}

module _ (p : Parsers) (place : Place) where
  pub operand_int : (tokens : List Token) → begins kinds.Int tokens ≡ true → operand_in p place tokens ≡ node_in forms.IntForm (word_in kinds.Int) tokens
  operand_int [] h = absurd cc
  operand_int (token ∷ rest) h = let e : token.kind ≡ kinds.Int = is_same token.kind kinds.Int h in rw e refl

  pub operand_rune : (tokens : List Token) → begins kinds.Rune tokens ≡ true → operand_in p place tokens ≡ node_in forms.RuneForm (word_in kinds.Rune) tokens
  operand_rune [] h = absurd cc
  operand_rune (token ∷ rest) h = let e : token.kind ≡ kinds.Rune = is_same token.kind kinds.Rune h in rw e refl

  pub operand_text : (tokens : List Token) → begins kinds.Text tokens ≡ true → operand_in p place tokens ≡ node_in forms.TextForm (word_in kinds.Text) tokens
  operand_text [] h = absurd cc
  operand_text (token ∷ rest) h = let e : token.kind ≡ kinds.Text = is_same token.kind kinds.Text h in rw e refl

  pub operand_name : (tokens : List Token) → begins kinds.Name tokens ≡ true → operand_in p place tokens ≡ node_in forms.NameForm (word_in kinds.Name) tokens
  operand_name [] h = absurd cc
  operand_name (token ∷ rest) h = let e : token.kind ≡ kinds.Name = is_same token.kind kinds.Name h in rw e refl

  pub operand_paren : (tokens : List Token) → begins kinds.OpenParen tokens ≡ true → operand_in p place tokens ≡ paren_in p tokens
  operand_paren [] h = absurd cc
  operand_paren (token ∷ rest) h = let e : token.kind ≡ kinds.OpenParen = is_same token.kind kinds.OpenParen h in rw e refl

  pub operand_function : (tokens : List Token) → begins kinds.FuncWord tokens ≡ true → operand_in p place tokens ≡ function_in p place tokens
  operand_function [] h = absurd cc
  operand_function (token ∷ rest) h = let e : token.kind ≡ kinds.FuncWord = is_same token.kind kinds.FuncWord h in ap (λ (kind : Kind). operand_by p place kind token rest) e

  other_by : (kind : Kind) (token : Token) (rest : List Token) → is kind kinds.Int ≡ false → is kind kinds.Rune ≡ false → is kind kinds.Text ≡ false → is kind kinds.Name ≡ false → is kind kinds.OpenParen ≡ false
      → is kind kinds.FuncWord ≡ false → operand_by p place kind token rest ≡ type_operand_in p place (token ∷ rest)
  other_by kinds.Int token rest a b c d e f = absurd cc
  other_by kinds.Rune token rest a b c d e f = absurd cc
  other_by kinds.Text token rest a b c d e f = absurd cc
  other_by kinds.Name token rest a b c d e f = absurd cc
  other_by kinds.OpenParen token rest a b c d e f = absurd cc
  other_by kinds.FuncWord token rest a b c d e f = absurd cc
  other_by _ token rest a b c d e f = refl

nothing_there : (p : Parsers) (place : Place) → None ≡ type_operand_in p place []
nothing_there p Plain = refl
nothing_there p Header = refl
nothing_there p Item = refl

pub operand_other : (p : Parsers) (place : Place) (tokens : List Token) → begins kinds.Int tokens ≡ false → begins kinds.Rune tokens ≡ false → begins kinds.Text tokens ≡ false → begins kinds.Name tokens ≡ false
    → begins kinds.OpenParen tokens ≡ false → begins kinds.FuncWord tokens ≡ false → operand_in p place tokens ≡ type_operand_in p place tokens
operand_other p place [] a b c d e f = nothing_there p place
operand_other p place (token ∷ rest) a b c d e f = other_by p place token.kind token rest a b c d e f

-- ---- signs

abbrev read : Token → List Token → Option (Token × List Token)
read token rest = Some (token, rest)

abbrev both : Token → List Token → Token × List Token
both token rest = (token, rest)

same : (x y : Token × List Token) → Some x ≡ Some y → x ≡ y
same x y e = cc

-- what stands behind a test of its first token
found : (b : Bool) (token operator : Token) (rest after : List Token) → cond b (read token rest) None ≡ read operator after → b ≡ true
found true token operator rest after h = refl
found false token operator rest after h = absurd cc

found_there : (b : Bool) (token operator : Token) (rest after : List Token) → b ≡ true → cond b (read token rest) None ≡ read operator after → both token rest ≡ both operator after
found_there true token operator rest after k h = same (both token rest) (both operator after) h
found_there false token operator rest after k h = absurd cc

not_found : (b : Bool) (token : Token) (rest : List Token) → cond b (read token rest) None ≡ None → b ≡ false
not_found true token rest h = absurd cc
not_found false token rest h = refl

abbrev with_rest : List Token → Option Forest → Option (Forest × List Token)
with_rest after None = None
with_rest after (Some tree) = Some (tree, after)

module _ (p : Parsers) (place : Place) where
  abbrev star_read : Token → List Token → Option (Forest × List Token)
  star_read star rest = p.expr place 6 rest >>= λ x. Some (starred star x.0, x.1)

  abbrev sign_read : Token → List Token → Option (Forest × List Token)
  sign_read operator rest = p.expr (of_operand place) 6 rest >>= λ x. Some (unary_of operator x.0, x.1)

  pub unary_starred : (tokens : List Token) (star : Token) (rest : List Token) → star_at tokens ≡ Some (star, rest) → unary_in p place tokens ≡ (p.expr place 6 rest >>= λ x. Some (starred star x.0, x.1))
  unary_starred [] star rest h = absurd cc
  unary_starred (token ∷ tokens) star rest h =
      let b = is token.kind kinds.Star in
      let k : b ≡ true = found b token star tokens rest h in
      unary_star p place token.kind token tokens k ∙ ap (λ (x : Token × List Token). star_read x.0 x.1) (found_there b token star tokens rest k h)

  pub unary_signed : (tokens : List Token) (operator : Token) (rest : List Token) → star_at tokens ≡ None → sign_at tokens ≡ Some (operator, rest)
      → unary_in p place tokens ≡ (p.expr (of_operand place) 6 rest >>= λ x. Some (unary_of operator x.0, x.1))
  unary_signed [] operator rest n h = absurd cc
  unary_signed (token ∷ tokens) operator rest n h =
      let b = begins_sign_by token.kind tokens in
      let k : b ≡ true = found b token operator tokens rest h in
      unary_sign p place token.kind token tokens (not_found (is token.kind kinds.Star) token tokens n) k ∙ ap (λ (x : Token × List Token). sign_read x.0 x.1) (found_there b token operator tokens rest k h)

  pub unary_alone : (tokens : List Token) → star_at tokens ≡ None → sign_at tokens ≡ None → unary_in p place tokens ≡ primary_in p place tokens
  unary_alone [] n h = refl
  unary_alone (token ∷ tokens) n h = unary_plain p place token.kind token tokens (not_found (is token.kind kinds.Star) token tokens n) (not_found (begins_sign_by token.kind tokens) token tokens h)

  -- ---- with the operand behind

  pub star_given : (tokens : List Token) (star : Token) (rest after : List Token) (operand whole : Forest) → star_at tokens ≡ Some (star, rest) → p.expr place 6 rest ≡ Some (operand, after)
      → Some (starred star operand) ≡ Some whole → unary_in p place tokens ≡ Some (whole, after)
  star_given tokens star rest after operand whole h e k =
      unary_starred tokens star rest h ∙ ap (λ (o : Option (Forest × List Token)). o >>= λ x. Some (starred star x.0, x.1)) e ∙ ap (λ (o : Option Forest). with_rest after o) k

  pub star_fails : (stop : Stop) (tokens : List Token) (star : Token) (rest : List Token) → star_at tokens ≡ Some (star, rest) → Fails stop (p.expr place 6 rest) → Fails stop (unary_in p place tokens)
  star_fails stops.Memory tokens star rest h f = tt
  star_fails stops.Unexpected tokens star rest h f = unary_starred tokens star rest h ∙ ap (λ (o : Option (Forest × List Token)). o >>= λ x. Some (starred star x.0, x.1)) f

  pub sign_given : (tokens : List Token) (operator : Token) (rest after : List Token) (inner : Place) (operand whole : Forest) → star_at tokens ≡ None → sign_at tokens ≡ Some (operator, rest) → inner ≡ of_operand place
      → p.expr inner 6 rest ≡ Some (operand, after) → whole ≡ unary_of operator operand → unary_in p place tokens ≡ Some (whole, after)
  sign_given tokens operator rest after inner operand whole n h i e k =
      unary_signed tokens operator rest n h ∙ ap (λ (o : Option (Forest × List Token)). o >>= λ x. Some (unary_of operator x.0, x.1)) (ap (λ (q : Place). p.expr q 6 rest) (sym i) ∙ e)
      ∙ ap (λ (tree : Forest). with_rest after (Some tree)) (sym k)

  pub sign_fails : (stop : Stop) (tokens : List Token) (operator : Token) (rest : List Token) (inner : Place) → star_at tokens ≡ None → sign_at tokens ≡ Some (operator, rest) → inner ≡ of_operand place
      → Fails stop (p.expr inner 6 rest) → Fails stop (unary_in p place tokens)
  sign_fails stops.Memory tokens operator rest inner n h i f = tt
  sign_fails stops.Unexpected tokens operator rest inner n h i f =
      unary_signed tokens operator rest n h ∙ ap (λ (o : Option (Forest × List Token)). o >>= λ x. Some (unary_of operator x.0, x.1)) (ap (λ (q : Place). p.expr q 6 rest) (sym i) ∙ f)
