-- With which tokens trees begin.
use Rattle.std.proofs.Common.{◌≡◌, Bool, true, false, List, [], ◌∷◌, ◌++◌, refl, sym, ap, ◌∙◌, subst}
use Rattle.std.proofs.lemmas.List.{append-nil}
use Rattle.std.specs.Prelude.{◌&&◌, ◌||◌, not}
use Rattle.go_ast.specs.declared.token.Kind.{Kind}
use Rattle.go_ast.specs.declared.token.Kind.TheVariants as kinds
use Rattle.go_ast.specs.declared.token.Token.{Token}
use Rattle.go_grammar.specs.Forests.{Forest, append, yield}
use Rattle.go_grammar.specs.Shapes as shapes
use Rattle.go_grammar.specs.Shapes.{Shape, Fits, is}
use Rattle.go_grammar.specs.Grammar as sorts
use Rattle.go_grammar.specs.Grammar.{Sort, Context, grammar, is_sign, begins_type}
use Rattle.go_grammar.proofs.Forests.{yield-append}
use Rattle.go_grammar.proofs.Cuts.{implies, implied}

-- ---- which kinds

abbrev pub begins_operand : Kind → Bool
begins_operand kinds.Int = true
begins_operand kinds.Rune = true
begins_operand kinds.Text = true
begins_operand kinds.Name = true
begins_operand kinds.OpenParen = true
begins_operand kinds.FuncWord = true
begins_operand kinds.OpenBracket = true
begins_operand kinds.MapWord = true
begins_operand kinds.StructWord = true
begins_operand kinds.InterfaceWord = true
begins_operand _ = false

abbrev pub begins_expr : Kind → Bool
begins_expr kind = begins_operand kind || is_sign kind

abbrev pub begins_bare : Kind → Bool
begins_bare kinds.OpenBracket = true
begins_bare kinds.MapWord = true
begins_bare kinds.StructWord = true
begins_bare kinds.InterfaceWord = true
begins_bare _ = false

abbrev pub begins_decl : Kind → Bool
begins_decl kinds.ConstWord = true
begins_decl kinds.TypeWord = true
begins_decl kinds.VarWord = true
begins_decl _ = false

abbrev pub begins_word_stmt : Kind → Bool
begins_word_stmt kinds.GoWord = true
begins_word_stmt kinds.DeferWord = true
begins_word_stmt kinds.ReturnWord = true
begins_word_stmt kinds.BreakWord = true
begins_word_stmt kinds.ContinueWord = true
begins_word_stmt kinds.FallthroughWord = true
begins_word_stmt kinds.OpenBrace = true
begins_word_stmt kinds.IfWord = true
begins_word_stmt kinds.SwitchWord = true
begins_word_stmt kinds.SelectWord = true
begins_word_stmt kinds.ForWord = true
begins_word_stmt _ = false

abbrev pub begins_stmt : Kind → Bool
begins_stmt kind = begins_expr kind || begins_decl kind || begins_word_stmt kind

-- with which kinds a production begins
abbrev pub heads : Sort → Kind → Bool
heads sorts.File kind = is kind kinds.PackageWord
heads sorts.Import kind = is kind kinds.ImportWord
heads sorts.ImportSpec kind = is kind kinds.Name || is kind kinds.Text
heads sorts.PackageDecl kind = begins_decl kind || is kind kinds.FuncWord
heads sorts.LocalDecl kind = begins_decl kind
heads sorts.ConstSpec kind = is kind kinds.Name
heads sorts.TypeSpec kind = is kind kinds.Name
heads sorts.VarSpec kind = is kind kinds.Name
heads sorts.TypeName kind = is kind kinds.Name
heads sorts.AnyType kind = begins_type kind
heads sorts.LongType kind = begins_type kind && not (is kind kinds.OpenParen)
heads sorts.BareType kind = begins_bare kind
heads sorts.TypeOnly kind = is kind kinds.Star || is kind kinds.ChanWord || is kind kinds.Arrow || is kind kinds.FuncWord
heads sorts.LiteralType kind = begins_bare kind
heads sorts.Signature kind = is kind kinds.OpenParen
heads sorts.Params kind = is kind kinds.OpenParen
heads sorts.Results kind = is kind kinds.OpenParen
heads sorts.Receiver kind = is kind kinds.OpenParen
heads sorts.Block kind = is kind kinds.OpenBrace
heads sorts.Lines kind = begins_stmt kind || sorts.is_semicolon kind
heads (sorts.Binary level context) kind = begins_expr kind
heads (sorts.Unary context) kind = begins_expr kind
heads (sorts.Primary context) kind = begins_operand kind
heads (sorts.Operand context) kind = begins_operand kind
heads sorts.Item kind = begins_expr kind || is kind kinds.ChanWord
heads sorts.Braces kind = is kind kinds.OpenBrace
heads sorts.Value kind = begins_expr kind || is kind kinds.OpenBrace
heads sorts.Statement kind = begins_stmt kind
heads sorts.Unlabeled kind = begins_stmt kind
heads sorts.IfRest kind = is kind kinds.IfWord
heads sorts.Switch kind = is kind kinds.SwitchWord
heads sorts.CaseClause kind = is kind kinds.CaseWord || is kind kinds.DefaultWord
heads sorts.Comm kind = begins_expr kind
heads sorts.CommClause kind = is kind kinds.CaseWord || is kind kinds.DefaultWord
heads sorts.Loop kind = is kind kinds.ForWord
heads (sorts.Simple context) kind = begins_expr kind

-- whether a production may have no tokens
abbrev pub is_empty : Sort → Bool
is_empty sorts.Lines = true
is_empty _ = false

abbrev pub empties : Shape Sort → Bool
empties shapes.Nothing = true
empties (shapes.Sign test) = false
empties (shapes.Before test) = true
empties (shapes.Part sort) = is_empty sort
empties (shapes.Node form inner) = empties inner
empties (shapes.Then a b) = empties a && empties b
empties (shapes.Either a b) = empties a || empties b
empties (shapes.Many a) = true

abbrev pub heads_of : Shape Sort → Kind → Bool
heads_of shapes.Nothing kind = false
heads_of (shapes.Sign test) kind = test kind
heads_of (shapes.Before test) kind = false
heads_of (shapes.Part sort) kind = heads sort kind
heads_of (shapes.Node form inner) kind = heads_of inner kind
heads_of (shapes.Then a b) kind = heads_of a kind || (empties a && heads_of b kind)
heads_of (shapes.Either a b) kind = heads_of a kind || heads_of b kind
heads_of (shapes.Many a) kind = heads_of a kind

-- the table holds for each production
covered : (sort : Sort) → implies (heads_of (grammar sort)) (heads sort) ≡ true
covered sorts.File = refl
covered sorts.Import = refl
covered sorts.ImportSpec = refl
covered sorts.PackageDecl = refl
covered sorts.LocalDecl = refl
covered sorts.ConstSpec = refl
covered sorts.TypeSpec = refl
covered sorts.VarSpec = refl
covered sorts.TypeName = refl
covered sorts.AnyType = refl
covered sorts.BareType = refl
covered sorts.LongType = refl
covered sorts.TypeOnly = refl
covered sorts.LiteralType = refl
covered sorts.Signature = refl
covered sorts.Params = refl
covered sorts.Results = refl
covered sorts.Receiver = refl
covered sorts.Block = refl
covered sorts.Lines = refl
covered (sorts.Binary sorts.Disjunction context) = refl
covered (sorts.Binary sorts.Conjunction context) = refl
covered (sorts.Binary sorts.Comparison context) = refl
covered (sorts.Binary sorts.Addition context) = refl
covered (sorts.Binary sorts.Multiplication context) = refl
covered (sorts.Unary context) = refl
covered (sorts.Primary context) = refl
covered (sorts.Operand sorts.Plain) = refl
covered (sorts.Operand sorts.Header) = refl
covered sorts.Item = refl
covered sorts.Braces = refl
covered sorts.Value = refl
covered sorts.Statement = refl
covered sorts.Unlabeled = refl
covered sorts.IfRest = refl
covered sorts.Switch = refl
covered sorts.CaseClause = refl
covered sorts.Comm = refl
covered sorts.CommClause = refl
covered sorts.Loop = refl
covered (sorts.Simple context) = refl

pub filled : (sort : Sort) → empties (grammar sort) ≡ is_empty sort
filled sorts.File = refl
filled sorts.Import = refl
filled sorts.ImportSpec = refl
filled sorts.PackageDecl = refl
filled sorts.LocalDecl = refl
filled sorts.ConstSpec = refl
filled sorts.TypeSpec = refl
filled sorts.VarSpec = refl
filled sorts.TypeName = refl
filled sorts.AnyType = refl
filled sorts.BareType = refl
filled sorts.LongType = refl
filled sorts.TypeOnly = refl
filled sorts.LiteralType = refl
filled sorts.Signature = refl
filled sorts.Params = refl
filled sorts.Results = refl
filled sorts.Receiver = refl
filled sorts.Block = refl
filled sorts.Lines = refl
filled (sorts.Binary sorts.Disjunction context) = refl
filled (sorts.Binary sorts.Conjunction context) = refl
filled (sorts.Binary sorts.Comparison context) = refl
filled (sorts.Binary sorts.Addition context) = refl
filled (sorts.Binary sorts.Multiplication context) = refl
filled (sorts.Unary context) = refl
filled (sorts.Primary context) = refl
filled (sorts.Operand sorts.Plain) = refl
filled (sorts.Operand sorts.Header) = refl
filled sorts.Item = refl
filled sorts.Braces = refl
filled sorts.Value = refl
filled sorts.Statement = refl
filled sorts.Unlabeled = refl
filled sorts.IfRest = refl
filled sorts.Switch = refl
filled sorts.CaseClause = refl
filled sorts.Comm = refl
filled sorts.CommClause = refl
filled sorts.Loop = refl
filled (sorts.Simple context) = refl

-- the first token passes a test
pub record IsFirst (test : Kind → Bool) (tokens : List Token) : Type 0 where
  pub token : Token
  pub others : List Token
  pub all : tokens ≡ token ∷ others
  pub kind : test token.kind ≡ true

or_left : (a b : Bool) → a ≡ true → (a || b) ≡ true
or_left true b h = refl
or_left false b h = absurd cc

or_right : (a b : Bool) → b ≡ true → (a || b) ≡ true
or_right true b h = refl
or_right false b h = h

and_both : (a b : Bool) → a ≡ true → b ≡ true → (a && b) ≡ true
and_both true b h k = k
and_both false b h k = absurd cc

widened : (test other : Kind → Bool) (tokens : List Token) → ((kind : Kind) → test kind ≡ true → other kind ≡ true) → IsFirst test tokens → IsFirst other tokens
widened test other tokens h f = record { token = f.token; others = f.others; all = f.all; kind = h f.token.kind f.kind }

first_of_both : (test : Kind → Bool) (a b : List Token) → IsFirst test a → IsFirst test (a ++ b)
first_of_both test a b f = record { token = f.token; others = f.others ++ b; all = ap (λ (ws : List Token). ws ++ b) f.all; kind = f.kind }

-- what a tree begins with: nothing, or a token that its shape begins with
pub data Front (shape : Shape Sort) (tokens : List Token) : Type 0 where
  none : tokens ≡ [] → empties shape ≡ true → Front shape tokens
  some : IsFirst (heads_of shape) tokens → Front shape tokens

front_both : (a b : Shape Sort) (left right : Forest) → Front a (yield left) → Front b (yield right) → Front (shapes.Then a b) (yield (append left right))
front_both a b left right x y = subst (Front (shapes.Then a b)) (sym (yield-append left right)) (go x y)
  where
    go : Front a (yield left) → Front b (yield right) → Front (shapes.Then a b) (yield left ++ yield right)
    go (some f) y = some (widened (heads_of a) (heads_of (shapes.Then a b)) _ (λ kind h. or_left (heads_of a kind) (empties a && heads_of b kind) h) (first_of_both (heads_of a) (yield left) (yield right) f))
    go (none e h) (none f k) = none (ap (λ (ws : List Token). ws ++ yield right) e ∙ f) (and_both (empties a) (empties b) h k)
    go (none e h) (some f) =
        let g : IsFirst (heads_of b) (yield left ++ yield right) = subst (λ (ws : List Token). IsFirst (heads_of b) (ws ++ yield right)) (sym e) f in
        some (widened (heads_of b) (heads_of (shapes.Then a b)) _ (λ kind k. or_right (heads_of a kind) (empties a && heads_of b kind) (and_both (empties a) (heads_of b kind) h k)) g)

pub front : {shape : Shape Sort} {tree : Forest} {rest : List Token} → Fits grammar shape tree rest → Front shape (yield tree)
front shapes.nothing = none refl refl
front (shapes.sign {token = token} e) = some (record { token = token; others = []; all = refl; kind = e })
front (shapes.before e) = none refl refl
front (shapes.part {sort = sort} {tree = tree} x) = go (front x)
  where
    go : Front (grammar sort) (yield tree) → Front (shapes.Part sort) (yield tree)
    go (none e h) = none e (sym (filled sort) ∙ h)
    go (some f) = some (widened (heads_of (grammar sort)) (heads sort) (yield tree) (implied (heads_of (grammar sort)) (heads sort) (covered sort)) f)
front (shapes.below {form = form} {shape = shape} {trees = trees} x) = go (front x)
  where
    go : Front shape (yield trees) → Front (shapes.Node form shape) (yield trees ++ [])
    go (none e h) = none (append-nil (yield trees) ∙ e) h
    go (some f) = some (first_of_both (heads_of shape) (yield trees) [] f)
front (shapes.both {a = a} {b = b} {left = left} {right = right} x y) = front_both a b left right (front x) (front y)
front (shapes.first {a = a} {b = b} {tree = tree} x) = go (front x)
  where
    go : Front a (yield tree) → Front (shapes.Either a b) (yield tree)
    go (none e h) = none e (or_left (empties a) (empties b) h)
    go (some f) = some (widened (heads_of a) (heads_of (shapes.Either a b)) (yield tree) (λ kind h. or_left (heads_of a kind) (heads_of b kind) h) f)
front (shapes.second {a = a} {b = b} {tree = tree} x) = go (front x)
  where
    go : Front b (yield tree) → Front (shapes.Either a b) (yield tree)
    go (none e h) = none e (or_right (empties a) (empties b) h)
    go (some f) = some (widened (heads_of b) (heads_of (shapes.Either a b)) (yield tree) (λ kind h. or_right (heads_of a kind) (heads_of b kind) h) f)
front shapes.done = none refl refl
front (shapes.more {a = a} {left = left} {right = right} x y) = go (front_both a (shapes.Many a) left right (front x) (front y))
  where
    or_same : (a b : Bool) → (a || (b && a)) ≡ true → a ≡ true
    or_same true b h = refl
    or_same false true h = absurd cc
    or_same false false h = absurd cc

    go : Front (shapes.Then a (shapes.Many a)) (yield (append left right)) → Front (shapes.Many a) (yield (append left right))
    go (none e h) = none e refl
    go (some f) = some (widened (heads_of (shapes.Then a (shapes.Many a))) (heads_of a) _ (λ kind h. or_same (heads_of a kind) (empties a) h) f)
