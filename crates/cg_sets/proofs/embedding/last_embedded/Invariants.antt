use Rattle.std.proofs.Common.{◌≡◌, drop}
use Rattle.cg_sets.specs.Embedding.{last_on, pointed}
use Rattle.cg_sets.proofs.Ways.{behind}
use Rattle.cg_sets.proofs.embedding.last_embedded.Given as goal

abbrev pub invariant-loop-field : goal.invariant-loop-field
invariant-loop-field l = last_on l.types (pointed l.types l.fn.class) l.path ≡ behind l.types l.last l.within (drop l.field-index l.path)
