use Rattle.std.proofs.Common.{◌≡◌, ◌++◌, ◌∷◌, [], length}
use Rattle.std.specs.Vec.Iter.{into_iter_items, into_iter_len}
use Rattle.go_grammar.specs.Forests.{empty}
use Rattle.go_grammar.specs.TypeReading.{groups_of}
use Rattle.go_grammar.specs.View.{each, view_listed_name, view_param}
use Rattle.go_fragments.specs.Entries.{entries, groups_from}
use Rattle.go_fragments.proofs.groups.with_names.Given as goal

abbrev pub invariant-loop-entry : goal.invariant-loop-entry
invariant-loop-entry l =
    (groups_from l.variadic (each view_param l.groups.params.items) (each view_listed_name l.groups.names.items) (entries (into_iter_items l.entry-iterator ++ l.last ∷ [])) ≡ groups_of l.variadic empty (entries l.fn.list.items))
    × (into_iter_len l.entry-iterator ≡ length (into_iter_items l.entry-iterator))
