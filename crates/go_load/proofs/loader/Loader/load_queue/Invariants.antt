use Rattle.std.proofs.Common.{◌≡◌, ◌≤◌, IfSome}
use Rattle.go_sources.specs.Sources.{AreTold}
use Rattle.go_load.proofs.QueueLoading.{KeepsOn}
use Rattle.go_load.proofs.loader.Loader.load_queue.Given as goal

abbrev pub invariant-packages : goal.invariant-packages
invariant-packages g l = record {
  later : g.F.Files.faults l.initial.files ≤ g.F.Files.faults l.files;
  told : AreTold (g.F.Files.tree l.initial.files) l.initial.self.files.items → AreTold (g.F.Files.tree l.initial.files) l.self.files.items;
  same : g.F.Files.tree l.files ≡ g.F.Files.tree l.initial.files;
  keeps : IfSome (g.F.Files.tree l.initial.files) (λ files. KeepsOn files l.initial.self l.self);
}
