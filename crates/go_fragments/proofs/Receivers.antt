-- The name of a receiver, and lists of one item.
use Rattle.std.proofs.Common.{◌≡◌, ap, List, [], ◌∷◌, Option, Some, None, Bool, true, false, if◌then◌else◌}
use Rattle.std.specs.Prelude.{◌&&◌, ◌||◌}
use Rattle.go_ast.specs.declared.token.Kind.TheVariants as kinds
use Rattle.go_ast.specs.declared.token.Token.{Token}
use Rattle.go_grammar.specs.Shapes.{is}
use Rattle.go_grammar.specs.Forests.{Forest, empty, leaf}
use Rattle.go_grammar.specs.Tests.{begins, begins_type_at}
use Rattle.go_grammar.specs.TypeReading.{param_name_in}
use Rattle.go_grammar.specs.View.{token_if, each}
use Rattle.go_grammar.proofs.Forests.{append-empty}
use Rattle.go_fragments.specs.Specs.{receiver_name_in}

-- one item
pub each_alone : {A : Type 0} (view : A → Forest) (x : A) → each view (x ∷ []) ≡ view x
each_alone view x = append-empty (view x)

abbrev found_at : Option Token → List Token → Option Token × List Token
found_at found rest = (found, rest)

abbrev read_at : Forest → List Token → Option (Forest × List Token)
read_at tree rest = Some (tree, rest)

as_read : (x y : Option Token × List Token) → x ≡ y → read_at (token_if x.0) x.1 ≡ read_at (token_if y.0) y.1
as_read x y h = ap (λ (z : Option Token × List Token). read_at (token_if z.0) z.1) h

by_name : (name typed : Bool) (token : Token) (tokens : List Token) (y : Option Token × List Token)
    → (if name && typed then found_at (Some token) tokens else found_at None (token ∷ tokens)) ≡ y
    → (if name && typed then (if name then read_at (leaf token empty) tokens else None) else read_at empty (token ∷ tokens)) ≡ read_at (token_if y.0) y.1
by_name true true token tokens y h = as_read (found_at (Some token) tokens) y h
by_name true false token tokens y h = as_read (found_at None (token ∷ tokens)) y h
by_name false typed token tokens y h = as_read (found_at None (token ∷ tokens)) y h

pub receiver_name_read : (tokens : List Token) (found : Option Token) (rest : List Token) → param_name_in tokens ≡ (found, rest) → receiver_name_in tokens ≡ Some (token_if found, rest)
receiver_name_read [] found rest h = as_read (found_at None []) (found_at found rest) h
receiver_name_read (token ∷ tokens) found rest h = by_name (is token.kind kinds.Name) (begins_type_at tokens || begins kinds.Ellipsis tokens) token tokens (found_at found rest) h
