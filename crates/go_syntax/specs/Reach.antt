-- How far a token reaches into its statement or expression.
use Rattle.std.specs.Prelude.{ℕ, suc, ◌+◌, List, [], ◌∷◌, Option, None, Some, sum, nat_lt, if◌then◌else◌}
use Rattle.go_ast.specs.declared.token.Token.{Token}
use Rattle.go_ast.specs.declared.token.Kind.{Kind}
use Rattle.go_ast.specs.declared.token.Kind.TheVariants as kinds

-- The counts of what stands between the brackets that are open: of the innermost, and of those around it from within.
pub record Counts : Type 0 where
  pub top : ℕ
  pub below : List ℕ

abbrev pub start : Counts
start = record { top = 0; below = [] }

abbrev pub add_one : Counts → Counts
add_one c = record { top = c.top + 1; below = c.below }

abbrev pub set : ℕ → Counts → Counts
set n c = record { top = n; below = c.below }

-- an opening bracket counts outside, and nothing is counted within yet
abbrev pub opened : Counts → Counts
opened c = record { top = 0; below = (c.top + 1) ∷ c.below }

-- a closing bracket counts outside; one that closes nothing counts as any token does
abbrev pub closed_over : ℕ → List ℕ → Counts
closed_over n [] = record { top = n + 1; below = [] }
closed_over n (outer ∷ below) = record { top = outer + 1; below = below }

abbrev pub closed : Counts → Counts
closed c = closed_over c.top c.below

-- The counts behind a token.
abbrev pub count : Kind → Counts → Counts
count kinds.OpenParen c = opened c
count kinds.OpenBracket c = opened c
count kinds.OpenBrace c = opened c
count kinds.CloseParen c = closed c
count kinds.CloseBracket c = closed c
count kinds.CloseBrace c = closed c
count kinds.Semicolon c = set 0 c
count kinds.Inserted c = set 0 c
count kinds.Comma c = set 0 c
count kinds.CaseWord c = set 1 c
count kinds.DefaultWord c = set 1 c
count _ c = add_one c

abbrev pub reach : Counts → ℕ
reach c = c.top + sum c.below

abbrev pub max_reach : ℕ
max_reach = 400

-- The index of the first token that reaches further than any may, where the first of these tokens has the index n.
abbrev pub too_deep_from : ℕ → Counts → List Token → Option ℕ
too_deep_from n c [] = None
too_deep_from n c (t ∷ ts) =
    if nat_lt max_reach (reach (count t.kind c)) then Some n else too_deep_from (suc n) (count t.kind c) ts

-- The index of the first token of a file that reaches further than any may.
abbrev pub reach_index : List Token → Option ℕ
reach_index ts = too_deep_from 0 start ts
