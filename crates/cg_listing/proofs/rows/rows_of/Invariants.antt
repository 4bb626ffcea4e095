use Rattle.std.proofs.Common.{◌≡◌, map, take}
use Rattle.go_sources.specs.Sources.{files_of}
use Rattle.cg_listing.specs.Listing.{line_by, name_in}
use Rattle.cg_listing.specs.Rows.{line_of_row}
use Rattle.cg_listing.proofs.rows.rows_of.Given as goal

abbrev pub invariant-loop-edge : goal.invariant-loop-edge
invariant-loop-edge l = map line_of_row l.rows.items ≡ map (line_by (name_in l.names) (files_of l.sources)) (take l.edge-index l.edges)
