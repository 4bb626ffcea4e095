use Rattle.std.proofs.Common.{rules}
use Rattle.go_sources.proofs.soundness.is_runtime.Goals as goal

pub returns-then-eq : goal.returns-then-eq
returns-then-eq c = λ fine. record {
  path = search rules;
  text = rw c.file_at.ensures at (c.has_runtime_text.ensures fine);
}
