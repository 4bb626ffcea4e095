use Rattle.go_devices.proofs.Trees.{put}
use Rattle.std.proofs.Common.{string_bytes}
use Rattle.go_devices.proofs.mem_files.MemFiles.add.Goals as goal

pub returns-clause-file : goal.returns-clause-file
returns-clause-file c = λ other.
    rw (← c.in_ok-path.ensures.ok, ← c.in_ok-bytes.ensures.items, ← c.self.view_is)
    (put (string_bytes c.in_ok-path.path) c.self.inside.files c.insert.new.self c.in_ok-bytes.bytes c.self.invariant c.insert.ensures.ordered
    c.in_ok-insert.ensures.updates other)
