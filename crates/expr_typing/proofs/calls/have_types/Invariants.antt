use Rattle.std.proofs.Common.{◌≡◌, true, take}
use Rattle.std.specs.Cmp.Lexicographic.{pointwise}
use Rattle.expr_typing.specs.Trees.{has_type}
use Rattle.expr_typing.proofs.calls.have_types.Given as goal

abbrev pub invariant-loop-index : goal.invariant-loop-index
invariant-loop-index l = pointwise has_type (take l.index l.exprs) (take l.index l.types) ≡ true
