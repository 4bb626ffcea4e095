use Rattle.std.proofs.Common.{◌≡◌, ◌<◌, ℕ, Some, slice_get}
use Rattle.go_sources.specs.declared.sources.SourceFile.{SourceFile}
use Rattle.go_sources.specs.Soundness.{IsPlaced}
use Rattle.go_sources.proofs.soundness.are_placed.Given as goal

abbrev pub invariant-files : goal.invariant-files
invariant-files l = (number : ℕ) (file : SourceFile) → number < l.index → slice_get l.files number ≡ Some file → IsPlaced l.packages number file.package
