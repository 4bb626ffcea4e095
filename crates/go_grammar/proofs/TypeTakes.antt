-- What is read of types fits, and stands at the front.
use Rattle.std.proofs.Common.{◌≡◌, ℕ, zero, suc, ◌≤◌, ◌<◌, Bool, true, false, List, [], ◌∷◌, ◌++◌, Option, None, refl, sym, ◌∙◌, arith}
use Rattle.go_ast.specs.declared.token.Kind.TheVariants as kinds
use Rattle.go_ast.specs.declared.token.Token.{Token}
use Rattle.go_grammar.specs.Forests.{Form, Forest, empty, leaf, node, append, yield}
use Rattle.go_grammar.specs.Forests as forms
use Rattle.go_grammar.specs.Shapes as shapes
use Rattle.go_grammar.specs.Shapes.{Shape, Fits, part, below, first, second, not_before}
use Rattle.go_grammar.specs.Grammar as sorts
use Rattle.go_grammar.specs.Grammar.{Sort, Context, Level, grammar, precedence, opens_braces}
use Rattle.go_grammar.specs.Reading.{run}
use Rattle.go_grammar.specs.Tests.{begins}
use Rattle.go_grammar.specs.TypeReading.{Place, Plain, Parsers, params_in, type_name_plan, type_name_in, at_signature, signature_plan, signature_in, at_type, bare_plan, bare_in, at_long, long_plan, long_in, at_any, type_plan, type_in, chan_plan}
use Rattle.go_grammar.specs.ExprReading.{is_type_only, context_of, is_item}
use Rattle.go_grammar.proofs.Outcome.{Yields, yields_none, yields_if}
use Rattle.go_grammar.proofs.Takes.{Took, run_takes}

-- a tree of this shape, or of this sort, at the front
abbrev pub Had : Shape Sort → List Token → Forest × List Token → Type 0
Had shape = Took grammar shape

abbrev pub Got : Sort → List Token → Forest × List Token → Type 0
Got sort = Took grammar (shapes.Part sort)

pub got_of : (sort : Sort) (tokens : List Token) (x : Forest × List Token) → Had (grammar sort) tokens x → Got sort tokens x
got_of sort tokens x h = record { text = h.text; fine = part h.fine }

pub yields_part : (sort : Sort) (tokens : List Token) (o : Option (Forest × List Token)) → Yields o (Had (grammar sort) tokens) → Yields o (Got sort tokens)
yields_part sort tokens o h = record { given = λ x e. got_of sort tokens x (h.given x e) }

-- what binds at least so tightly
abbrev pub level_sort : Context → ℕ → Sort
level_sort context zero = sorts.Binary sorts.Disjunction context
level_sort context (suc zero) = sorts.Binary sorts.Disjunction context
level_sort context (suc (suc zero)) = sorts.Binary sorts.Conjunction context
level_sort context (suc (suc (suc zero))) = sorts.Binary sorts.Comparison context
level_sort context (suc (suc (suc (suc zero)))) = sorts.Binary sorts.Addition context
level_sort context (suc (suc (suc (suc (suc zero))))) = sorts.Binary sorts.Multiplication context
level_sort context (suc (suc (suc (suc (suc (suc n)))))) = sorts.Unary context

-- how tightly the operator at the front binds
abbrev pub tight : List Token → ℕ
tight [] = 0
tight (token ∷ rest) = precedence token.kind

abbrev pub type_operand : Shape Sort
type_operand = shapes.Node forms.TypeOperandForm (shapes.Part sorts.TypeOnly)

-- an expression at the front, behind which no operator goes on, or where types may stand one that is no expression
pub record GotExpr (place : Place) (min : ℕ) (tokens : List Token) (x : Forest × List Token) : Type 0 where
  pub text : tokens ≡ yield x.0 ++ x.1
  pub plain : is_type_only x.0 ≡ false → Fits grammar (shapes.Part (level_sort (context_of place) min)) x.0 x.1 × (tight x.1 < min)
  pub only : is_type_only x.0 ≡ true → (is_item place ≡ true) × Fits grammar type_operand x.0 x.1

-- a type at the front, which without a parenthesis is no type in parentheses
pub record GotType (tokens : List Token) (x : Forest × List Token) : Type 0 where
  pub any : Got sorts.AnyType tokens x
  pub long : begins kinds.OpenParen tokens ≡ false → Got sorts.LongType tokens x

pub record Sound (p : Parsers) : Type 0 where
  pub expr : (place : Place) (min : ℕ) (tokens : List Token) → 1 ≤ min → min ≤ 6 → Yields (p.expr place min tokens) (GotExpr place min tokens)
  pub type_expr : (tokens : List Token) → Yields (p.type_expr tokens) (GotType tokens)
  pub value : (tokens : List Token) → Yields (p.value tokens) (Got sorts.Value tokens)
  pub statements : (tokens : List Token) → Yields (p.statements tokens) (Got sorts.Lines tokens)

-- where no type may stand, all is an expression
pub plain_of : (place : Place) (min : ℕ) (tokens : List Token) (x : Forest × List Token) → is_item place ≡ false → GotExpr place min tokens x → Got (level_sort (context_of place) min) tokens x × (tight x.1 < min) × (is_type_only x.0 ≡ false)
plain_of place min tokens x not_item g = go (is_type_only x.0) refl
  where
    go : (b : Bool) → is_type_only x.0 ≡ b → Got (level_sort (context_of place) min) tokens x × (tight x.1 < min) × (is_type_only x.0 ≡ false)
    go false e = let f = g.plain e in (record { text = g.text; fine = f.0 }, f.1, e)
    go true e = let f = (g.only e).0 in let clash : true ≡ false = sym f ∙ not_item in absurd cc

pub type_name_takes : (tokens : List Token) → Yields (type_name_in tokens) (Got sorts.TypeName tokens)
type_name_takes tokens = yields_part sorts.TypeName tokens _ (run_takes grammar (λ sort tokens. None) (λ sort tokens. yields_none) type_name_plan tokens)

module _ (p : Parsers) (s : Sound p) (params_takes : (tokens : List Token) → Yields (params_in p true tokens) (Got sorts.Params tokens)) (results_takes : (tokens : List Token) → Yields (params_in p false tokens) (Got sorts.Results tokens)) where
  pub expr_takes : (tokens : List Token) → Yields (p.expr Plain 1 tokens) (Got (sorts.Binary sorts.Disjunction sorts.Plain) tokens)
  expr_takes tokens = record { given = λ x e. (plain_of Plain 1 tokens x refl ((s.expr Plain 1 tokens (omega arith) (omega arith)).given x e)).0 }

  pub any_takes : (tokens : List Token) → Yields (p.type_expr tokens) (Got sorts.AnyType tokens)
  any_takes tokens = record { given = λ x e. ((s.type_expr tokens).given x e).any }

  at_signature_takes : (sort : Sort) (tokens : List Token) → Yields (at_signature p sort tokens) (Got sort tokens)
  at_signature_takes sorts.Params tokens = params_takes tokens
  at_signature_takes sorts.Results tokens = results_takes tokens
  at_signature_takes sorts.LongType tokens = yields_if (begins kinds.OpenParen tokens) (λ t. yields_none) (λ f. record { given = λ x e. ((s.type_expr tokens).given x e).long f })
  at_signature_takes _ tokens = yields_none

  pub signature_takes : (tokens : List Token) → Yields (signature_in p tokens) (Got sorts.Signature tokens)
  signature_takes tokens = yields_part sorts.Signature tokens _ (run_takes grammar (at_signature p) at_signature_takes signature_plan tokens)

  pub at_type_takes : (sort : Sort) (tokens : List Token) → Yields (at_type p sort tokens) (Got sort tokens)
  at_type_takes sorts.AnyType tokens = any_takes tokens
  at_type_takes sorts.TypeName tokens = type_name_takes tokens
  at_type_takes sorts.Signature tokens = signature_takes tokens
  at_type_takes (sorts.Binary sorts.Disjunction sorts.Plain) tokens = expr_takes tokens
  at_type_takes _ tokens = yields_none

  pub bare_takes : (tokens : List Token) → Yields (bare_in p tokens) (Got sorts.BareType tokens)
  bare_takes tokens = yields_part sorts.BareType tokens _ (run_takes grammar (at_type p) at_type_takes bare_plan tokens)

  at_long_takes : (sort : Sort) (tokens : List Token) → Yields (at_long p sort tokens) (Got sort tokens)
  at_long_takes sorts.BareType tokens = bare_takes tokens
  at_long_takes sort tokens = at_type_takes sort tokens

  pub long_takes : (tokens : List Token) → Yields (long_in p tokens) (Got sorts.LongType tokens)
  long_takes tokens = yields_part sorts.LongType tokens _ (run_takes grammar (at_long p) at_long_takes long_plan tokens)

  at_any_takes : (sort : Sort) (tokens : List Token) → Yields (at_any p sort tokens) (Got sort tokens)
  at_any_takes sorts.LongType tokens = long_takes tokens
  at_any_takes sort tokens = at_type_takes sort tokens

  pub type_takes : (tokens : List Token) → Yields (type_in p tokens) (GotType tokens)
  type_takes tokens = record {
    given = λ x e. record {
      any = (yields_part sorts.AnyType tokens _ (run_takes grammar (at_any p) at_any_takes type_plan tokens)).given x e;
      long = λ f. (long_takes tokens).given x (rw f at e);
    };
  }

  pub chan_takes : (tokens : List Token) → Yields (run (at_type p) chan_plan tokens) (Had sorts.chan_type tokens)
  chan_takes tokens = run_takes grammar (at_type p) at_type_takes chan_plan tokens
