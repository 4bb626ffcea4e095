-- Pieces of trees put together.
use Rattle.std.proofs.Common.{◌≡◌, ◌<◌, Bool, List, [], ◌∷◌, ◌++◌, length, refl, sym, ap, ◌∙◌, subst, arith}
use Rattle.std.proofs.lemmas.List.{append-nil}
use Rattle.go_ast.specs.declared.token.Kind.{Kind}
use Rattle.go_ast.specs.declared.token.Token.{Token}
use Rattle.go_grammar.specs.Forests.{Form, Forest, empty, node, append, yield}
use Rattle.go_grammar.specs.Shapes as shapes
use Rattle.go_grammar.specs.Shapes.{Shape, Fits}
use Rattle.go_grammar.specs.Grammar.{Sort, grammar}
use Rattle.go_grammar.specs.Tests.{word_in}
use Rattle.go_grammar.proofs.Outcome.{Yields, yields_some, yields_none, yields_if}
use Rattle.go_grammar.proofs.Takes.{joined}
use Rattle.go_grammar.proofs.TypeTakes.{Had}

pub word_takes : (kind : Kind) (tokens : List Token) → Yields (word_in kind tokens) (Had (shapes.word kind) tokens)
word_takes kind [] = yields_none
word_takes kind (token ∷ rest) = yields_if (shapes.is token.kind kind) (λ t. yields_some (record { text = refl; fine = shapes.sign t })) (λ t. yields_none)

-- one tree behind another
pub then_had : {a b : Shape Sort} {tokens : List Token} {x y : Forest × List Token} → Had a tokens x → Had b x.1 y → Had (shapes.Then a b) tokens (append x.0 y.0, y.1)
then_had {a} {b} {tokens} {x} {y} h k = joined grammar a b tokens x y h k

pub node_had : {shape : Shape Sort} {tokens : List Token} {x : Forest × List Token} (form : Form) → Had shape tokens x → Had (shapes.Node form shape) tokens (node form x.0 empty, x.1)
node_had {shape} {tokens} {x} form h = record { text = h.text ∙ ap (λ (front : List Token). front ++ x.1) (sym (append-nil (yield x.0))); fine = shapes.below h.fine }

pub first_had : {a b : Shape Sort} {tokens : List Token} {x : Forest × List Token} → Had a tokens x → Had (shapes.Either a b) tokens x
first_had h = record { text = h.text; fine = shapes.first h.fine }

pub second_had : {a b : Shape Sort} {tokens : List Token} {x : Forest × List Token} → Had b tokens x → Had (shapes.Either a b) tokens x
second_had h = record { text = h.text; fine = shapes.second h.fine }

-- nothing was read where something might have been
pub none_had : {tokens : List Token} → Had shapes.Nothing tokens (empty, tokens)
none_had = record { text = refl; fine = shapes.nothing }

-- what begins with a token has tokens
pub long_word : {test : Kind → Bool} {shape : Shape Sort} {tree : Forest} {rest : List Token} → Fits grammar (shapes.Then (shapes.Sign test) shape) tree rest → 0 < length (yield tree)
long_word (shapes.both (shapes.sign e) y) = omega arith

-- the same tree, written otherwise
pub had_as : {shape : Shape Sort} {tokens : List Token} {tree other : Forest} {rest : List Token} → tree ≡ other → Had shape tokens (tree, rest) → Had shape tokens (other, rest)
had_as {shape} {tokens} {tree} {other} {rest} e h = subst (λ (t : Forest). Had shape tokens (t, rest)) e h
