use Rattle.std.proofs.Common.{◌≡◌}
use Rattle.cg_listing.specs.Listing.{name_of}
use Rattle.cg_listing.specs.Rows.{texts_below}
use Rattle.cg_listing.proofs.names.texts_of.Given as goal

abbrev pub invariant-loop-number : goal.invariant-loop-number
invariant-loop-number l = l.texts.items ≡ texts_below (name_of l.program) l.number
