-- Turns of the loops behind operands and operators.
use Rattle.std.proofs.Common.{◌≡◌, ℕ, ◌+◌, Bool, true, false, List, length, Option, Some, None, refl, sym, ap, ◌∙◌}
use Rattle.std.specs.Prelude.{if◌then◌else◌}
use Rattle.go_ast.specs.declared.token.Token.{Token}
use Rattle.go_grammar.specs.Forests as forms
use Rattle.go_grammar.specs.Forests.{Forest, empty, leaf, node, append}
use Rattle.go_grammar.specs.Grammar.{precedence}
use Rattle.go_grammar.specs.Reading.{◌>>=◌}
use Rattle.go_grammar.specs.TypeReading.{Parsers, Place}
use Rattle.go_grammar.specs.ExprReading.{Turn, Done, On, repeat, is_type_only, operand_in, primary_in, suffix_in, suffix_turn, begins_suffix, unary_in, binary_in, binary_by, binary_turn, operator_at, of_operand}
use Rattle.go_fragments.specs.declared.stop.Stop.{Stop}
use Rattle.go_fragments.specs.declared.stop.Stop.TheVariants as stops
use Rattle.go_readers.specs.Expressions.{operation_in}
use Rattle.go_fragments.specs.Giving.{Fails}

-- ---- behind an operand

pub primary_start : (p : Parsers) (place : Place) (tokens rest : List Token) (left : Forest) (n : ℕ) → operand_in p place tokens ≡ Some (left, rest) → is_type_only left ≡ false → n ≡ length rest → repeat (suffix_turn p place) n (left, rest) ≡ primary_in p place tokens
primary_start p place tokens rest left n h t e =
    sym (ap (λ (read : Option (Forest × List Token)). read >>= λ x. if is_type_only x.0 then Some x else repeat (suffix_turn p place) (length x.1) x) h
    ∙ ap (λ (b : Bool). if b then Some (left, rest) else repeat (suffix_turn p place) (length rest) (left, rest)) t
    ∙ ap (λ (k : ℕ). repeat (suffix_turn p place) k (left, rest)) (sym e))

pub primary_type : (p : Parsers) (place : Place) (tokens rest : List Token) (left : Forest) → operand_in p place tokens ≡ Some (left, rest) → is_type_only left ≡ true → primary_in p place tokens ≡ Some (left, rest)
primary_type p place tokens rest left h t =
    ap (λ (read : Option (Forest × List Token)). read >>= λ x. if is_type_only x.0 then Some x else repeat (suffix_turn p place) (length x.1) x) h
    ∙ ap (λ (b : Bool). if b then Some (left, rest) else repeat (suffix_turn p place) (length rest) (left, rest)) t

pub suffix_on : (p : Parsers) (place : Place) (left longer : Forest) (rest after : List Token) → begins_suffix place left rest ≡ true → suffix_in p left rest ≡ Some (longer, after) → suffix_turn p place (left, rest) ≡ Some (On (longer, after))
suffix_on p place left longer rest after b s =
    ap (λ (begins : Bool). if begins then (suffix_in p left rest >>= λ x. Some (On x)) else Some (Done (left, rest))) b
    ∙ ap (λ (read : Option (Forest × List Token)). read >>= λ x. Some (On x)) s

pub suffix_done : (p : Parsers) (place : Place) (left : Forest) (rest : List Token) → begins_suffix place left rest ≡ false → suffix_turn p place (left, rest) ≡ Some (Done (left, rest))
suffix_done p place left rest b = ap (λ (begins : Bool). if begins then (suffix_in p left rest >>= λ x. Some (On x)) else Some (Done (left, rest))) b

pub suffix_stops : (p : Parsers) (place : Place) (stop : Stop) (left : Forest) (rest : List Token) → begins_suffix place left rest ≡ true → Fails stop (suffix_in p left rest) → Fails stop (suffix_turn p place (left, rest))
suffix_stops p place stops.Memory left rest b h = tt
suffix_stops p place stops.Unexpected left rest b h =
    ap (λ (begins : Bool). if begins then (suffix_in p left rest >>= λ x. Some (On x)) else Some (Done (left, rest))) b
    ∙ ap (λ (read : Option (Forest × List Token)). read >>= λ x. Some (On x)) h

-- ---- operators

pub binary_start : (p : Parsers) (place : Place) (min : ℕ) (tokens rest : List Token) (left : Forest) (n : ℕ) → unary_in p place tokens ≡ Some (left, rest) → is_type_only left ≡ false → n ≡ length rest → repeat (binary_turn p place min) n (left, rest) ≡ binary_in p place min tokens
binary_start p place min tokens rest left n h t e =
    sym (ap (λ (read : Option (Forest × List Token)). read >>= λ x. if is_type_only x.0 then Some x else repeat (binary_turn p place min) (length x.1) x) h
    ∙ ap (λ (b : Bool). if b then Some (left, rest) else repeat (binary_turn p place min) (length rest) (left, rest)) t
    ∙ ap (λ (k : ℕ). repeat (binary_turn p place min) k (left, rest)) (sym e))

pub binary_type : (p : Parsers) (place : Place) (min : ℕ) (tokens rest : List Token) (left : Forest) → unary_in p place tokens ≡ Some (left, rest) → is_type_only left ≡ true → binary_in p place min tokens ≡ Some (left, rest)
binary_type p place min tokens rest left h t =
    ap (λ (read : Option (Forest × List Token)). read >>= λ x. if is_type_only x.0 then Some x else repeat (binary_turn p place min) (length x.1) x) h
    ∙ ap (λ (b : Bool). if b then Some (left, rest) else repeat (binary_turn p place min) (length rest) (left, rest)) t

abbrev longer_on : Forest → Token → Forest × List Token → Option (Turn (Forest × List Token))
longer_on left operator right = Some (On (node forms.BinaryForm (append left (leaf operator right.0)) empty, right.1))

abbrev longer_of : Forest → Token → Forest × List Token → Option (Forest × List Token)
longer_of left operator right = Some (node forms.BinaryForm (append left (leaf operator right.0)) empty, right.1)

on_behind : (left : Forest) (operator : Token) (read : Option (Forest × List Token)) → (read >>= longer_on left operator) ≡ ((read >>= longer_of left operator) >>= λ x. Some (On x))
on_behind left operator None = refl
on_behind left operator (Some right) = refl

binary_step : (p : Parsers) (place : Place) (min : ℕ) (left : Forest) (operator : Token) (rest after : List Token) → operator_at min rest ≡ Some (operator, after) → binary_turn p place min (left, rest) ≡ (operation_in p place left operator after >>= λ x. Some (On x))
binary_step p place min left operator rest after o = ap (binary_by p place (left, rest)) o ∙ on_behind left operator (p.expr (of_operand place) (precedence operator.kind + 1) after)

pub binary_on : (p : Parsers) (place : Place) (min : ℕ) (left longer : Forest) (operator : Token) (rest after next : List Token) → operator_at min rest ≡ Some (operator, after) → operation_in p place left operator after ≡ Some (longer, next) → binary_turn p place min (left, rest) ≡ Some (On (longer, next))
binary_on p place min left longer operator rest after next o s = binary_step p place min left operator rest after o ∙ ap (λ (read : Option (Forest × List Token)). read >>= λ x. Some (On x)) s

pub binary_done : (p : Parsers) (place : Place) (min : ℕ) (left : Forest) (rest : List Token) → operator_at min rest ≡ None → binary_turn p place min (left, rest) ≡ Some (Done (left, rest))
binary_done p place min left rest o = ap (binary_by p place (left, rest)) o

pub binary_stops : (p : Parsers) (place : Place) (min : ℕ) (stop : Stop) (left : Forest) (operator : Token) (rest after : List Token) → operator_at min rest ≡ Some (operator, after) → Fails stop (operation_in p place left operator after) → Fails stop (binary_turn p place min (left, rest))
binary_stops p place min stops.Memory left operator rest after o h = tt
binary_stops p place min stops.Unexpected left operator rest after o h = binary_step p place min left operator rest after o ∙ ap (λ (read : Option (Forest × List Token)). read >>= λ x. Some (On x)) h
