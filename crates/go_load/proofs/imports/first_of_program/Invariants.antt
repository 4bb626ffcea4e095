use Rattle.std.proofs.Common.{◌≡◌, drop}
use Rattle.std.specs.List.{find}
use Rattle.go_load.specs.Loading.{is_of_program}
use Rattle.go_load.proofs.imports.first_of_program.Given as goal

abbrev pub invariant-links : goal.invariant-links
invariant-links l = find (is_of_program l.programs) l.links ≡ find (is_of_program l.programs) (drop l.link-index l.links)
