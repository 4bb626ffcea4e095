-- Rules that are violated at nodes, and which of them is named.
use Rattle.std.specs.Prelude.{◌≡◌, ℕ, Bool, false, List, [], ◌∷◌, Option, Some, None}
use Rattle.std.specs.declared.cmp.Ordering.{Ordering}
use Rattle.std.specs.Ordering.{is_lt, nat_cmp, ordering_then}
use Rattle.go_base.specs.declared.place.Pos.{Pos}
use Rattle.go_base.specs.declared.rule.Rule.{Rule}
use Rattle.go_base.specs.Rules.{row_of}
use Rattle.go_graph.specs.declared.fault.Fault.{Fault}
use Rattle.go_graph.specs.Graph.{IsAmong}
use Rattle.go_graph.specs.Silence.{Silences}
use Rattle.decl_nodes.specs.declared.nodes.Node.{Node}
use Rattle.decl_nodes.specs.declared.violations.Violation.{Violation}

-- a rule is violated at a node; at no node there is nothing
abbrev pub violated_at : Option Node → ℕ → Rule → Bool → List Violation
violated_at None number rule on_cycle = []
violated_at (Some node) number rule on_cycle =
    record { node = number; «package» = node.package; at = node.at; rule = rule; on_cycle = on_cycle } ∷ []

-- the same at another place
abbrev pub violated_from : Option Node → ℕ → Pos → Rule → List Violation
violated_from None number at rule = []
violated_from (Some node) number at rule =
    record { node = number; «package» = node.package; at = at; rule = rule; on_cycle = false } ∷ []

-- what silences others, and is silenced
abbrev pub fault_of : Violation → Fault
fault_of v = record { node = v.node; on_cycle = v.on_cycle }

-- A rule is broken: it is violated, and nothing violated silences it.
pub record IsBroken (edges : ℕ → List ℕ) (all : List Violation) (v : Violation) : Type 0 where
  pub violated : IsAmong v all
  pub heard : (w : Violation) → IsAmong w all → Silences edges (fault_of w) (fault_of v) → ⊥

-- the order of places: by files and offsets
abbrev pub pos_cmp : Pos → Pos → Ordering
pos_cmp a b = ordering_then (nat_cmp a.file b.file) (nat_cmp a.offset b.offset)

-- the order in which violations are named: by packages, places and rows
abbrev pub violation_cmp : Violation → Violation → Ordering
violation_cmp v w =
    ordering_then (nat_cmp v.package w.package)
    (ordering_then (pos_cmp v.at w.at) (nat_cmp (row_of v.rule) (row_of w.rule)))

-- It is the first rule that is broken.
pub record IsFirstBroken (edges : ℕ → List ℕ) (all : List Violation) (v : Violation) : Type 0 where
  pub broken : IsBroken edges all v
  pub first : (w : Violation) → IsBroken edges all w → is_lt (violation_cmp w v) ≡ false
