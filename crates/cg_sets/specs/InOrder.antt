-- The order of edges.
use Rattle.std.specs.declared.cmp.Ordering.{Ordering}
use Rattle.std.specs.Ordering.{nat_cmp, ordering_then}
use Rattle.go_base.specs.declared.place.Pos.{Pos}
use Rattle.cg_sets.specs.declared.edges.Edge.{Edge}

abbrev pub pos_cmp : Pos → Pos → Ordering
pos_cmp a b = ordering_then (nat_cmp a.file b.file) (nat_cmp a.offset b.offset)

-- by caller, site and callee
abbrev pub edge_cmp : Edge → Edge → Ordering
edge_cmp a b =
    ordering_then (nat_cmp a.caller.number b.caller.number)
    (ordering_then (pos_cmp a.site b.site) (nat_cmp a.callee.number b.callee.number))
