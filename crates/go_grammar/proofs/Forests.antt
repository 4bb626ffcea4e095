-- The tokens of trees side by side.
use Rattle.std.proofs.Common.{◌≡◌, ◌++◌, refl, ap, append_assoc}
use Rattle.go_grammar.specs.Forests.{Forest, empty, leaf, node, append, yield}

pub yield-append : (left right : Forest) → yield (append left right) ≡ yield left ++ yield right
yield-append empty right = refl
yield-append (leaf token behind) right = rw (yield-append behind right) refl
yield-append (node form below behind) right = rw (yield-append behind right) (simp append_assoc)

pub append-empty : (tree : Forest) → append tree empty ≡ tree
append-empty empty = refl
append-empty (leaf token behind) = ap (leaf token) (append-empty behind)
append-empty (node form below behind) = ap (node form below) (append-empty behind)

pub append-assoc : (a b c : Forest) → append (append a b) c ≡ append a (append b c)
append-assoc empty b c = refl
append-assoc (leaf token behind) b c = ap (leaf token) (append-assoc behind b c)
append-assoc (node form below behind) b c = ap (node form below) (append-assoc behind b c)
