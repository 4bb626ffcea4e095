-- A plan whose choices are sure is read again; and choices that two tokens decide.
use Rattle.std.proofs.Common.{◌≡◌, ℕ, ◌+◌, ◌≤◌, Bool, true, false, List, [], ◌∷◌, ◌++◌, length, Some, refl, ap, ◌∙◌}
use Rattle.std.proofs.lemmas.List.{append-nil}
use Rattle.std.specs.Prelude.{◌&&◌, not}
use Rattle.go_ast.specs.declared.token.Kind.{Kind}
use Rattle.go_ast.specs.declared.token.Kind.TheVariants as kinds
use Rattle.go_ast.specs.declared.token.Token.{Token}
use Rattle.go_grammar.specs.Forests.{Forest, append, yield}
use Rattle.go_grammar.specs.Shapes as shapes
use Rattle.go_grammar.specs.Shapes.{Shape, Fits, part, below, both, sign, is}
use Rattle.go_grammar.specs.Grammar.{Sort, grammar, closes_braces}
use Rattle.go_grammar.specs.Reading.{Reader, Plan, Either, shape_of, run}
use Rattle.go_grammar.specs.Tests.{begins, begins_both, not_closed, not_empty, semicolon, end_of_line, ◌⨟◌}
use Rattle.go_grammar.proofs.Again.{regroup, run_again}
use Rattle.go_grammar.proofs.Cuts.{implies, implied}
use Rattle.go_grammar.proofs.Fronts.{IsFirst}
use Rattle.go_grammar.proofs.Choices.{behind, first_behind, Sure, IsRoomy, chosen, next_is, next_is_not, behind_is}
pub use Rattle.go_grammar.proofs.Choices.{flip}

-- what fits a production fits its right side
pub unpart : {sort : Sort} {tree : Forest} {rest : List Token} → Fits grammar (shapes.Part sort) tree rest → Fits grammar (grammar sort) tree rest
unpart (part x) = x

module _ (follow : Sort → Kind → Bool) (deficit : Sort → ℕ) (room : ℕ) (at : Sort → Reader)
    (parts : (sort : Sort) (tree : Forest) (rest : List Token) → Fits grammar (shapes.Part sort) tree rest → IsRoomy follow deficit room sort tree rest → at sort (yield tree ++ rest) ≡ Some (tree, rest)) where
  pub plan_again : (plan : Plan Sort) (next : Kind → Bool) (beside : ℕ) → Sure follow deficit plan next beside → {tree : Forest} {rest : List Token} → Fits grammar (shape_of plan) tree rest → IsFirst next rest → length (yield tree) + beside ≤ room → run at plan (yield tree ++ rest) ≡ Some (tree, rest)
  plan_again plan next beside s x f le = run_again grammar (IsRoomy follow deficit room) at parts plan x (chosen follow deficit room plan next beside s x f le)

-- ---- tests that fail

pub is_open : (kind : Kind) (shape : Shape Sort) (next : Kind → Bool) → implies (behind shape next) (λ other. not (is other kind)) ≡ true → (tree : Forest) (rest : List Token) → Fits grammar shape tree rest → IsFirst next rest → not_closed kind (yield tree ++ rest) ≡ true
is_open kind shape next h tree rest x f = ap not (next_is_not (λ other. is other kind) shape next h tree rest x f)

pub is_closed : (kind : Kind) (shape : Shape Sort) (next : Kind → Bool) → implies (behind shape next) (λ other. is other kind) ≡ true → (tree : Forest) (rest : List Token) → Fits grammar shape tree rest → IsFirst next rest → not_closed kind (yield tree ++ rest) ≡ false
is_closed kind shape next h tree rest x f = ap not (next_is (λ other. is other kind) shape next h tree rest x f)

-- ---- two tokens

-- the first token passes a test, and the next another
pub record IsPair (test next : Kind → Bool) (tokens : List Token) : Type 0 where
  pub token : Token
  pub others : List Token
  pub all : tokens ≡ token ∷ others
  pub kind : test token.kind ≡ true
  pub second : IsFirst next others

pub pair_then : {test next : Kind → Bool} {shape : Shape Sort} {tree : Forest} {rest : List Token} → Fits grammar (shapes.Then (shapes.Sign test) shape) tree rest → IsFirst next rest → IsPair test (behind shape next) (yield tree ++ rest)
pair_then {next = next} (both {right = right} {rest = rest} (sign {token = token} e) y) f =
    record { token = token; others = yield right ++ rest; all = refl; kind = e; second = first_behind next y f }

pub pair_node : {test next : Kind → Bool} (trees : Forest) (rest : List Token) → IsPair test next (yield trees ++ rest) → IsPair test next ((yield trees ++ []) ++ rest)
pair_node trees rest p = record { token = p.token; others = p.others; all = ap (λ (ws : List Token). ws ++ rest) (append-nil (yield trees)) ∙ p.all; kind = p.kind; second = p.second }

pub pair_front : {test next : Kind → Bool} (left right : Forest) (rest : List Token) → IsPair test next (yield left ++ (yield right ++ rest)) → IsPair test next (yield (append left right) ++ rest)
pair_front left right rest p = record { token = p.token; others = p.others; all = regroup left right rest ∙ p.all; kind = p.kind; second = p.second }

both_true : (a b : Bool) → a ≡ true → b ≡ true → (a && b) ≡ true
both_true true b h k = k
both_true false b h k = absurd cc

second_false : (a b : Bool) → b ≡ false → (a && b) ≡ false
second_false true b h = h
second_false false b h = refl

pub begins_pair : (kind second : Kind) (tokens : List Token) {next : Kind → Bool} → IsPair (λ other. is other kind) next tokens → implies next (λ other. is other second) ≡ true → begins_both kind second tokens ≡ true
begins_pair kind second tokens {next} p h = ap (begins_both kind second) p.all ∙ both_true (is p.token.kind kind) (begins second p.others) p.kind (behind_is (λ other. is other second) next h p.others p.second)

pub begins_other_pair : (kind second : Kind) (tokens : List Token) {test next : Kind → Bool} → IsPair test next tokens → implies next (λ other. not (is other second)) ≡ true → begins_both kind second tokens ≡ false
begins_other_pair kind second tokens {next = next} p h =
    let s = p.second in
    let other = ap (begins second) s.all ∙ flip (is s.token.kind second) (implied next (λ other. not (is other second)) h s.token.kind s.kind) in
    ap (begins_both kind second) p.all ∙ second_false (is p.token.kind kind) (begins second p.others) other

first_false : (a b : Bool) → a ≡ false → (a && b) ≡ false
first_false true b h = absurd cc
first_false false b h = refl

pub begins_other_first : (kind second : Kind) (tokens : List Token) → begins kind tokens ≡ false → begins_both kind second tokens ≡ false
begins_other_first kind second [] h = refl
begins_other_first kind second (token ∷ tokens) h = first_false (is token.kind kind) (begins second tokens) h

-- ---- lines in braces

abbrev pub line : Plan Sort → Plan Sort
line item = Either not_empty (item ⨟ end_of_line closes_braces) semicolon

-- what stands behind the last line, behind a line, and behind what is in a line
abbrev pub behind_lines : Kind → Bool
behind_lines kind = is kind kinds.CloseBrace

abbrev pub behind_line : Plan Sort → Kind → Bool
behind_line item = behind (shapes.Many (shape_of (line item))) behind_lines
