use Rattle.std.proofs.Common.{◌≡◌, ◌++◌, ◌∷◌, [], length}
use Rattle.std.specs.Vec.Iter.{into_iter_items, into_iter_len}
use Rattle.go_grammar.specs.TypeReading.{types_of}
use Rattle.go_grammar.specs.View.{each, view_param}
use Rattle.go_fragments.specs.Entries.{entries, types_from}
use Rattle.go_fragments.proofs.groups.without_names.Given as goal

abbrev pub invariant-loop-entry : goal.invariant-loop-entry
invariant-loop-entry l =
    (types_from l.variadic (each view_param l.params.items) (entries (into_iter_items l.entry-iterator ++ l.last ∷ [])) ≡ types_of l.variadic (entries l.fn.list.items))
    × (into_iter_len l.entry-iterator ≡ length (into_iter_items l.entry-iterator))
