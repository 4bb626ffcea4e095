-- What is read of expressions fits, and stands at the front.
use Rattle.std.proofs.Common.{◌≡◌, Bool, true, false, List, length, None, refl, ap, arith}
use Rattle.go_ast.specs.declared.token.Kind.TheVariants as kinds
use Rattle.go_ast.specs.declared.token.Token.{Token}
use Rattle.go_grammar.specs.Forests.{Form, Forest, empty, leaf, node, append, yield}
use Rattle.go_grammar.specs.Forests as forms
use Rattle.go_grammar.specs.Shapes as shapes
use Rattle.go_grammar.specs.Shapes.{Shape, Fits, part, below, first, second, both, sign, before, is}
use Rattle.go_grammar.specs.Grammar as sorts
use Rattle.go_grammar.specs.Grammar.{Sort, Context, grammar, closes_braces}
use Rattle.go_grammar.specs.Reading.{Either, Before, run}
use Rattle.go_grammar.specs.Tests.{begins, word, not_closed}
use Rattle.go_grammar.specs.TypeReading.{Item, Parsers, params_in}
use Rattle.go_grammar.specs.ExprReading.{is_type_only, at_items, arguments_plan, element_in, separated_in, braces_in, block_in}
use Rattle.go_grammar.proofs.Outcome.{Yields, yields_some, yields_none, yields_bind, yields_if}
use Rattle.go_grammar.proofs.Takes.{run_takes, many_takes}
use Rattle.go_grammar.proofs.TypeTakes.{Had, Got, got_of, Sound, GotExpr}
use Rattle.go_grammar.proofs.Pieces.{word_takes, then_had, node_had, first_had, second_had, none_had, had_as}
use Rattle.go_grammar.proofs.Forests.{append-assoc}

pub item_takes : (p : Parsers) (s : Sound p) (tokens : List Token) → Yields (p.expr Item 1 tokens) (Got sorts.Item tokens)
item_takes p s tokens = record { given = λ x e. go x ((s.expr Item 1 tokens (omega arith) (omega arith)).given x e) (is_type_only x.0) refl }
  where
    go : (x : Forest × List Token) → GotExpr Item 1 tokens x → (b : Bool) → is_type_only x.0 ≡ b → Got sorts.Item tokens x
    go x g false e = record { text = g.text; fine = part (first (g.plain e).0) }
    go x g true e = record { text = g.text; fine = part (second (g.only e).1) }

abbrev pub arguments_shape : Shape Sort
arguments_shape =
    shapes.Then (shapes.word kinds.OpenParen) (shapes.Then (shapes.maybe (shapes.Then sorts.items (shapes.Then (shapes.maybe (shapes.word kinds.Ellipsis)) (shapes.maybe (shapes.word kinds.Comma))))) (shapes.word kinds.CloseParen))

module _ (p : Parsers) (s : Sound p) (params_takes : (tokens : List Token) → Yields (params_in p true tokens) (Got sorts.Params tokens)) (results_takes : (tokens : List Token) → Yields (params_in p false tokens) (Got sorts.Results tokens)) where
  -- ---- literals

  element_shape : Shape Sort
  element_shape = shapes.Node forms.ElementForm (shapes.Then (shapes.maybe (shapes.Then (shapes.Part sorts.Value) (shapes.word kinds.Colon))) (shapes.Part sorts.Value))

  element_takes : (tokens : List Token) → Yields (element_in p tokens) (Had element_shape tokens)
  unfolding element_shape
  element_takes tokens =
      yields_bind (s.value tokens) (λ x g.
      yields_if (begins kinds.Colon x.1)
      (λ t. yields_bind (word_takes kinds.Colon x.1) (λ colon c.
      yields_bind (s.value colon.1) (λ y h.
      yields_some (had_as (ap (λ (t : Forest). node forms.ElementForm t empty) (append-assoc x.0 colon.0 y.0))
      (node_had forms.ElementForm (then_had (first_had (then_had g c)) h))))))
      (λ t. yields_some (node_had forms.ElementForm (then_had (second_had none_had) g))))

  separated_shape : Shape Sort
  separated_shape = shapes.Then element_shape (shapes.Either (shapes.word kinds.Comma) (shapes.Before closes_braces))

  separated_takes : (tokens : List Token) → Yields (separated_in (element_in p) tokens) (Had separated_shape tokens)
  unfolding separated_shape
  separated_takes tokens =
      yields_bind (element_takes tokens) (λ x g.
      yields_bind (run_takes grammar (λ (sort : Sort) tokens. None) (λ sort tokens. yields_none) (Either (not_closed kinds.CloseBrace) (word kinds.Comma) (Before closes_braces)) x.1) (λ y h.
      yields_some (then_had g h)))

  pub braces_takes : (tokens : List Token) → Yields (braces_in p tokens) (Got sorts.Braces tokens)
  unfolding element_shape separated_shape
  braces_takes tokens =
      yields_bind (word_takes kinds.OpenBrace tokens) (λ opened o.
      yields_bind (many_takes grammar (not_closed kinds.CloseBrace) (separated_in (element_in p)) separated_shape separated_takes (length opened.1) opened.1) (λ elements g.
      yields_bind (word_takes kinds.CloseBrace elements.1) (λ closed c.
      yields_some (got_of sorts.Braces tokens _ (then_had o (then_had g c))))))

  -- ---- blocks and functions

  pub block_takes : (tokens : List Token) → Yields (block_in p tokens) (Got sorts.Block tokens)
  block_takes tokens =
      yields_bind (word_takes kinds.OpenBrace tokens) (λ opened o.
      yields_bind (s.statements opened.1) (λ lines g.
      yields_bind (word_takes kinds.CloseBrace lines.1) (λ closed c.
      yields_some (got_of sorts.Block tokens _ (node_had forms.BlockForm (then_had o (then_had g c)))))))

  -- the rest of a call
  pub arguments_takes : (tokens : List Token) → Yields (run (at_items p) arguments_plan tokens) (Had arguments_shape tokens)
  arguments_takes tokens = run_takes grammar (at_items p) at_items_takes arguments_plan tokens
    where
      at_items_takes : (sort : Sort) (tokens : List Token) → Yields (at_items p sort tokens) (Got sort tokens)
      at_items_takes sorts.Item tokens = item_takes p s tokens
      at_items_takes _ tokens = yields_none
