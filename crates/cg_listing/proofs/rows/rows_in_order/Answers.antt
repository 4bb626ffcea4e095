use Rattle.std.proofs.Common.{map, subst}
use Rattle.std.specs.Prelude.{IsPermutation}
use Rattle.std.specs.Ordering.{is_lt}
use Rattle.std.specs.Cmp.Lexicographic.{slice_cmp}
use Rattle.std.specs.Ordering.{nat_cmp}
use Rattle.std.proofs.lemmas.List.Sorted.{IsPermutation-map}
use Rattle.cg_listing.specs.declared.rows.Row.{Row}
use Rattle.cg_listing.specs.Listing.{Line, line_cmp}
use Rattle.cg_listing.specs.Rows.{line_of_row}
use Rattle.cg_listing.proofs.Order.{four_of_five, sorted_map}
use Rattle.cg_listing.proofs.rows.rows_in_order.Goals as goal

pub returns : goal.returns
returns c = record {
  same = subst (λ lines. IsPermutation lines (map line_of_row c.sort.new.self.items)) c.in_ok-rows.ensures (IsPermutation-map line_of_row c.in_ok-rows.rows.items c.sort.new.self.items c.in_ok-sort.ensures.permutation);
  ascending =
      sorted_map _ (λ (a b : Line). is_lt (line_cmp a b)) line_of_row
      (λ (a b : Row). four_of_five (slice_cmp nat_cmp a.caller.now b.caller.now) (slice_cmp nat_cmp a.path.now b.path.now) (nat_cmp a.offset b.offset) (slice_cmp nat_cmp a.callee.now b.callee.now) (nat_cmp a.file b.file))
      c.sort.new.self.items
      c.in_ok-sort.ensures.sorted;
}
