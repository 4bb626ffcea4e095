-- Marks and words. Go specification, "Operators and punctuation", "Keywords".
use Rattle.std.specs.Prelude.{ℕ, List, [], ◌∷◌, Option, Some, None, ◌==◌, ◌&&◌, if◌then◌else◌, codes, bytes_eq}
use Rattle.go_ast.specs.declared.token.Kind.{Kind}
use Rattle.go_ast.specs.declared.token.Kind.TheVariants as kinds

-- the mark of one byte, where it is one
abbrev pub mark_of_one : ℕ → Option Kind
mark_of_one a =
    if a == 43 then Some kinds.Plus else  -- +
    if a == 45 then Some kinds.Minus else  -- -
    if a == 42 then Some kinds.Star else  -- *
    if a == 47 then Some kinds.Slash else  -- /
    if a == 37 then Some kinds.Percent else  -- %
    if a == 38 then Some kinds.Ampersand else  -- &
    if a == 124 then Some kinds.Pipe else  -- |
    if a == 94 then Some kinds.Caret else  -- ^
    if a == 60 then Some kinds.Less else  -- <
    if a == 62 then Some kinds.Greater else  -- >
    if a == 61 then Some kinds.Assign else  -- =
    if a == 33 then Some kinds.Not else  -- !
    if a == 40 then Some kinds.OpenParen else  -- (
    if a == 41 then Some kinds.CloseParen else  -- )
    if a == 91 then Some kinds.OpenBracket else  -- [
    if a == 93 then Some kinds.CloseBracket else  -- ]
    if a == 123 then Some kinds.OpenBrace else  -- {
    if a == 125 then Some kinds.CloseBrace else  -- }
    if a == 44 then Some kinds.Comma else  -- ,
    if a == 59 then Some kinds.Semicolon else  -- ;
    if a == 46 then Some kinds.Dot else  -- .
    if a == 58 then Some kinds.Colon else  -- :
    None

-- the mark of two bytes
abbrev pub mark_of_two : ℕ → ℕ → Option Kind
mark_of_two a b =
    if a == 60 && b == 60 then Some kinds.ShiftLeft else  -- <<
    if a == 62 && b == 62 then Some kinds.ShiftRight else  -- >>
    if a == 38 && b == 94 then Some kinds.AndNot else  -- &^
    if a == 43 && b == 61 then Some kinds.PlusAssign else  -- +=
    if a == 45 && b == 61 then Some kinds.MinusAssign else  -- -=
    if a == 42 && b == 61 then Some kinds.StarAssign else  -- *=
    if a == 47 && b == 61 then Some kinds.SlashAssign else  -- /=
    if a == 37 && b == 61 then Some kinds.PercentAssign else  -- %=
    if a == 38 && b == 61 then Some kinds.AmpersandAssign else  -- &=
    if a == 124 && b == 61 then Some kinds.PipeAssign else  -- |=
    if a == 94 && b == 61 then Some kinds.CaretAssign else  -- ^=
    if a == 38 && b == 38 then Some kinds.AndAnd else  -- &&
    if a == 124 && b == 124 then Some kinds.OrOr else  -- ||
    if a == 60 && b == 45 then Some kinds.Arrow else  -- <-
    if a == 43 && b == 43 then Some kinds.Increment else  -- ++
    if a == 45 && b == 45 then Some kinds.Decrement else  -- --
    if a == 61 && b == 61 then Some kinds.Equal else  -- ==
    if a == 33 && b == 61 then Some kinds.NotEqual else  -- !=
    if a == 60 && b == 61 then Some kinds.LessEqual else  -- <=
    if a == 62 && b == 61 then Some kinds.GreaterEqual else  -- >=
    if a == 58 && b == 61 then Some kinds.Define else  -- :=
    None

-- the mark of three bytes
abbrev pub mark_of_three : ℕ → ℕ → ℕ → Option Kind
mark_of_three a b c =
    if a == 60 && b == 60 && c == 61 then Some kinds.ShiftLeftAssign else  -- <<=
    if a == 62 && b == 62 && c == 61 then Some kinds.ShiftRightAssign else  -- >>=
    if a == 38 && b == 94 && c == 61 then Some kinds.AndNotAssign else  -- &^=
    if a == 46 && b == 46 && c == 46 then Some kinds.Ellipsis else  -- ...
    None

-- the mark that a text is
abbrev pub mark_kind : List ℕ → Option Kind
mark_kind (a ∷ []) = mark_of_one a
mark_kind (a ∷ b ∷ []) = mark_of_two a b
mark_kind (a ∷ b ∷ c ∷ []) = mark_of_three a b c
mark_kind _ = None

-- a keyword, or a name
abbrev pub word_kind : List ℕ → Kind
word_kind text =
    if bytes_eq text (codes "break") then kinds.BreakWord else
    if bytes_eq text (codes "case") then kinds.CaseWord else
    if bytes_eq text (codes "chan") then kinds.ChanWord else
    if bytes_eq text (codes "const") then kinds.ConstWord else
    if bytes_eq text (codes "continue") then kinds.ContinueWord else
    if bytes_eq text (codes "default") then kinds.DefaultWord else
    if bytes_eq text (codes "defer") then kinds.DeferWord else
    if bytes_eq text (codes "else") then kinds.ElseWord else
    if bytes_eq text (codes "fallthrough") then kinds.FallthroughWord else
    if bytes_eq text (codes "for") then kinds.ForWord else
    if bytes_eq text (codes "func") then kinds.FuncWord else
    if bytes_eq text (codes "go") then kinds.GoWord else
    if bytes_eq text (codes "goto") then kinds.GotoWord else
    if bytes_eq text (codes "if") then kinds.IfWord else
    if bytes_eq text (codes "import") then kinds.ImportWord else
    if bytes_eq text (codes "interface") then kinds.InterfaceWord else
    if bytes_eq text (codes "map") then kinds.MapWord else
    if bytes_eq text (codes "package") then kinds.PackageWord else
    if bytes_eq text (codes "range") then kinds.RangeWord else
    if bytes_eq text (codes "return") then kinds.ReturnWord else
    if bytes_eq text (codes "select") then kinds.SelectWord else
    if bytes_eq text (codes "struct") then kinds.StructWord else
    if bytes_eq text (codes "switch") then kinds.SwitchWord else
    if bytes_eq text (codes "type") then kinds.TypeWord else
    if bytes_eq text (codes "var") then kinds.VarWord else
    kinds.Name
