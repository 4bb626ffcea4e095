use Rattle.std.proofs.Common.{◌≡◌, ◌<◌, ℕ, Some, slice_get, IsSomeAnd}
use Rattle.go_sources.specs.declared.sources.SourceFile.{SourceFile}
use Rattle.go_sources.specs.declared.sources.SourcePackage.{SourcePackage}
use Rattle.go_sources.proofs.soundness.are_first.Given as goal

abbrev pub invariant-packages : goal.invariant-packages
invariant-packages l =
    (number : ℕ) (one : SourcePackage) → number < l.index → slice_get l.packages number ≡ Some one → IsSomeAnd (slice_get l.files one.first_file) (λ (file : SourceFile). file.package ≡ number)
