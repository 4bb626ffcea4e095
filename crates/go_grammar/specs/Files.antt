-- Files, and the first part that is none.
use Rattle.std.specs.Prelude.{◌≡◌, ℕ, zero, suc, ◌-◌, ◌≤◌, List, [], ◌∷◌, ◌++◌, length, take, Bool, false}
use Rattle.std.specs.Prelude.{if◌then◌else◌}
use Rattle.go_ast.specs.declared.token.Kind.{Kind}
use Rattle.go_ast.specs.declared.token.Kind.TheVariants as kinds
use Rattle.go_ast.specs.declared.token.Token.{Token}
use Rattle.go_grammar.specs.Forests.{Forest, yield}
use Rattle.go_grammar.specs.Shapes.{Part, Fits}
use Rattle.go_grammar.specs.Grammar.{File, grammar, is_semicolon}

-- a well-formed tree of a file
abbrev pub IsFile : Forest → Type 0
IsFile tree = Fits grammar (Part File) tree []

-- the tokens are those of this tree
pub record IsTreeOf (tokens : List Token) (tree : Forest) : Type 0 where
  pub well_formed : IsFile tree
  pub written : tokens ≡ yield tree

-- the tokens are those of a file
pub record IsFileText (tokens : List Token) : Type 0 where
  pub tree : Forest
  pub fine : IsTreeOf tokens tree

-- ---- parts

-- how many brackets are open behind a token of this kind
abbrev pub depth_after : ℕ → Kind → ℕ
depth_after depth kinds.OpenParen = suc depth
depth_after depth kinds.OpenBracket = suc depth
depth_after depth kinds.OpenBrace = suc depth
depth_after depth kinds.CloseParen = depth - 1
depth_after depth kinds.CloseBracket = depth - 1
depth_after depth kinds.CloseBrace = depth - 1
depth_after depth _ = depth

-- whether a part ends with it: a semicolon outside all brackets
abbrev pub ends_part : ℕ → Kind → Bool
ends_part zero kind = is_semicolon kind
ends_part (suc depth) kind = false

abbrev pub last_part : List Token → List (List Token)
last_part [] = []
last_part (token ∷ tokens) = (token ∷ tokens) ∷ []

-- the parts of what is left, where the front of the first has been seen
abbrev pub parts_from : ℕ → List Token → List Token → List (List Token)
parts_from depth front [] = last_part front
parts_from depth front (token ∷ tokens) =
    if ends_part depth token.kind then (front ++ token ∷ []) ∷ parts_from 0 [] tokens
    else parts_from (depth_after depth token.kind) (front ++ token ∷ []) tokens

abbrev pub parts_of : List Token → List (List Token)
parts_of tokens = parts_from 0 [] tokens

abbrev pub join : List (List Token) → List Token
join [] = []
join (part ∷ parts) = part ++ join parts

-- The parts up to this index are a file, however many are taken; with the part that begins there they are none.
pub record IsFirstBad (tokens : List Token) (index : ℕ) : Type 0 where
  pub good : List (List Token)
  pub bad : List Token
  pub later : List (List Token)
  pub parts : parts_of tokens ≡ good ++ (bad ∷ later)
  pub at : index ≡ length (join good)
  pub before : (n : ℕ) → suc n ≤ length good → IsFileText (join (take (suc n) good))
  pub not : IsFileText (join (good ++ (bad ∷ []))) → ⊥

-- where the tokens are no file
abbrev pub IsUnexpected : List Token → ℕ → Type 0
IsUnexpected [] index = index ≡ 0
IsUnexpected (token ∷ tokens) index = IsFirstBad (token ∷ tokens) index
