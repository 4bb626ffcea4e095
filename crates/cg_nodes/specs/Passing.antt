-- Where arguments go.
use Rattle.std.specs.Prelude.{ℕ, suc}
use Rattle.cg_nodes.specs.declared.calls.Into.{Into}
use Rattle.cg_nodes.specs.declared.calls.Into.TheVariants as into_of
use Rattle.cg_nodes.specs.declared.nodes.Node.{Node}
use Rattle.cg_nodes.specs.declared.nodes.Node.TheVariants as node_of

-- the place of an argument, by its number
abbrev pub into_node : Into → ℕ → Node
into_node (into_of.Parameters function) i = node_of.Parameter function i
into_node (into_of.BehindReceiver function) i = node_of.Parameter function (suc i)
into_node (into_of.Arguments group) i = node_of.Argument group i
