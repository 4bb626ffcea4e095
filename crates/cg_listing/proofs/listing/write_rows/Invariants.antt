use Rattle.std.proofs.Common.{◌≤◌, map, take}
use Rattle.go_sources.specs.Sources.{files_of}
use Rattle.cg_listing.specs.Listing.{lines_text}
use Rattle.cg_listing.specs.Rows.{line_of_row, IsNamed, Flushes}
use Rattle.cg_listing.proofs.listing.write_rows.Given as goal

abbrev pub invariant-loop-row : goal.invariant-loop-row
invariant-loop-row g l = record {
  written : Flushes (g.O.Sink.written l.fn.out) (g.O.Sink.written l.out) (lines_text (files_of l.sources) (map line_of_row (take l.row-index l.rows))) l.text.items;
  named : IsNamed (files_of l.sources) l.named.site l.named.text.items;
  later : g.O.Sink.faults l.fn.out ≤ g.O.Sink.faults l.out;
}
