use Rattle.std.proofs.Common.{◌≡◌, ◌++◌, length}
use Rattle.std.specs.Vec.Iter.{into_iter_items, into_iter_len}
use Rattle.typed_parts.specs.Joining.{items_of}
use Rattle.typed_parts.specs.Judged.{Outcome}
use Rattle.typed_parts.specs.Retyping.{AreRetyped}
use Rattle.typed_parts.proofs.retyping.+retyping.Given as goal

abbrev pub invariant-retyped_each-loop-expr : goal.invariant-retyped_each-loop-expr
invariant-retyped_each-loop-expr l = record {
  rest : l.yielded ++ into_iter_items l.expr-iterator ≡ into_iter_items l.initial.expr-iterator;
  so_far : Outcome l.fn.ground l.ground (items_of l.typed) (AreRetyped l.fn.ground.types l.to l.yielded);
  counted : into_iter_len l.expr-iterator ≡ length (into_iter_items l.expr-iterator);
}
