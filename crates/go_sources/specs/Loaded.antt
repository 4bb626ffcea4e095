-- What a program that was loaded holds.
use Rattle.std.specs.Prelude.{◌≡◌, ◌<◌, ◌≤◌, List, length, slice_get, IfSome}
use Rattle.go_base.specs.declared.place.Place.{Place}
use Rattle.go_base.specs.declared.place.Pos.{Pos}
use Rattle.go_sources.specs.declared.sources.SourceFile.{SourceFile}
use Rattle.go_sources.specs.Places.{place_in}

-- the position lies in a file, or at its end
pub record IsWithin (files : List SourceFile) (pos : Pos) : Type 0 where
  pub file : pos.file < length files
  pub offset : IfSome (slice_get files pos.file) (λ file. pos.offset ≤ length file.bytes)

-- the position as users see it
abbrev pub Locates : List SourceFile → Pos → Place → Type 0
Locates files pos place = IfSome (slice_get files pos.file) (λ file. place ≡ place_in file.path file.bytes pos.offset)
