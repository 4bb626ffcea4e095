use Rattle.std.proofs.Common.{sym, subst, ap}
use Rattle.go_maps.specs.Entries.{entries_of, count_in}
use Rattle.go_maps.specs.Found.{AreFound}
use Rattle.go_maps.specs.Places.{place_in}
use Rattle.go_maps.proofs.Standing.{found_none}
use Rattle.go_maps.proofs.entries.MapEntries.new.Goals as goal

pub invariant_of-result : goal.invariant_of-result
invariant_of-result c = record {
  found = subst (λ slots. AreFound (place_in c.new-2.result) (entries_of slots)) (sym c.new.ensures.items) (found_none (place_in c.new-2.result) c.new-2.ensures);
  live = sym (ap (λ slots. count_in (entries_of slots)) c.new.ensures.items);
}
