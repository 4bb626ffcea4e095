use Rattle.std.proofs.Common.{subst, sym, rules}
use Rattle.go_devices.specs.Memory.{tree_of}
use Rattle.go_devices.proofs.Trees.{IsDistinctTree, distinct_tree}
use Rattle.go_devices.proofs.mem_files.names_in.Goals as goal

pub loop-path-init : goal.loop-path-init
loop-path-init c =
    let gives = c.into_iter-path-iterator.ensures.into_iter_gives in
    record {
      named = search rules;
      distinct = subst (λ entries. IsDistinctTree (tree_of entries)) (sym gives.0) (distinct_tree c.args.files.now.entries gives.5);
    }
