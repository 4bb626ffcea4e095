use Rattle.std.proofs.Common.{◌≡◌, ◌≤◌}
use Rattle.go_sources.specs.Sources.{AreTold}
use Rattle.go_load.specs.FileReading.{AreOf}
use Rattle.go_load.proofs.FileLaws.{TellsBehind}
use Rattle.go_load.proofs.package_files.read_paths.Given as goal

abbrev pub invariant-paths : goal.invariant-paths
invariant-paths g l = record {
  later : g.F.Files.faults l.initial.files ≤ g.F.Files.faults l.files;
  same : g.F.Files.tree l.files ≡ g.F.Files.tree l.initial.files;
  told : AreTold (g.F.Files.tree l.initial.files) l.sources.items;
  slot : AreOf l.slot.«package» l.sources.items;
  behind : TellsBehind (g.F.Files.tree l.initial.files) l.paths l.fn.room l.left l.path-index l.sources.items;
}
