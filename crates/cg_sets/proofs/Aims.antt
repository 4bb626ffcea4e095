-- What the methods of classes call.
use Rattle.std.proofs.Common.{◌≡◌, ◌∙◌, ℕ, List, Option, Some, refl, sym, ap, subst}
use Rattle.std.specs.Option.{option_map}
use Rattle.go_base.specs.declared.ids.FuncId.{FuncId}
use Rattle.go_base.specs.declared.ids.TypeId.{TypeId}
use Rattle.go_tree.specs.declared.functions.FunctionDecl.{FunctionDecl}
use Rattle.go_type.specs.Table.{Table}
use Rattle.go_type.specs.declared.methods.MethodEntry.{MethodEntry}
use Rattle.go_type.specs.declared.methods.SelectionKind.TheVariants as kind_of
use Rattle.cg_nodes.specs.declared.nodes.Group.{Group}
use Rattle.cg_nodes.specs.declared.nodes.Group.TheVariants as group_of
use Rattle.cg_nodes.specs.declared.nodes.Node.{Node}
use Rattle.cg_nodes.specs.declared.nodes.Node.TheVariants as node_of
use Rattle.cg_numbers.specs.Alike.{like_group, like_node}
use Rattle.cg_numbers.specs.Numbered.{Extends, IsAt, NodeAt}
use Rattle.cg_numbers.specs.declared.likeness.Likeness.{Likeness}
use Rattle.cg_numbers.specs.declared.numbers.Numbers.{Numbers}
use Rattle.cg_numbers.proofs.Collecting.{extends_on, node_later, node_put, group_later, group_put}
use Rattle.cg_sets.specs.Classes.{AimsAt}
use Rattle.cg_sets.specs.Embedding.{Calls, Aimed, aim_by, aim_of, aim_within, last_on, pointed, receiver_of}
use Rattle.cg_sets.specs.declared.candidates.Goal.TheVariants as goal_of
use Rattle.cg_sets.specs.declared.embedding.Embedded.{Embedded}

module _ (types : Table) (functions : List FunctionDecl) (class : TypeId) (e : MethodEntry) where
  method_aim : (f : FuncId) → e.kind ≡ kind_of.Method f → aim_of types functions class e ≡ Some (record { aim = Calls f; receiver = receiver_of types functions class e.path f })
  unfolding aim_of
  method_aim f k = ap (aim_by types functions class e) k

  embedded_aim : (last : Embedded) → e.kind ≡ kind_of.InterfaceMethod → last_on types (pointed types class) e.path ≡ Some last → aim_of types functions class e ≡ Some (aim_within types functions e last)
  unfolding aim_of
  embedded_aim last k h = ap (aim_by types functions class e) k ∙ ap (option_map (aim_within types functions e)) h

pub calling_aims : (old new : Numbers) (functions : List FunctionDecl) (class : TypeId) (e : MethodEntry) (f : FuncId) (k : ℕ) (node : Node) → Extends old new → node ≡ receiver_of old.likeness.types functions class e.path f
    → IsAt new.nodes.keys k (like_node old.likeness.types old.likeness.bares node) → e.kind ≡ kind_of.Method f → AimsAt functions new class e (record { goal = goal_of.Function f; receiver = k })
calling_aims old new functions class e f k node ext is at kind =
    let same : node ≡ receiver_of new.likeness.types functions class e.path f = is ∙ ap (λ (l : Likeness). receiver_of l.types functions class e.path f) (sym ext.likeness) in
    (record { aim = Calls f; receiver = receiver_of new.likeness.types functions class e.path f }, method_aim new.likeness.types functions class e f kind, refl, subst (NodeAt new k) same (node_put old new ext k node at))

abbrev embedded_group : MethodEntry → Embedded → Group
embedded_group e last = group_of.Selected (record { of = last.of; name = e.name; «package» = e.package })

pub asking_aims : (a b c d : Numbers) (functions : List FunctionDecl) (class : TypeId) (e : MethodEntry) (last : Embedded) (i j k : ℕ) → Extends a b → Extends b c → Extends c d → last_on a.likeness.types (pointed a.likeness.types class) e.path ≡ Some last
    → IsAt b.nodes.keys i (like_node a.likeness.types a.likeness.bares (node_of.Field last.within last.field)) → IsAt c.groups.keys j (like_group b.likeness.types b.likeness.bares (embedded_group e last)) → IsAt d.nodes.keys k (like_node c.likeness.types c.likeness.bares node_of.Nothing)
    → e.kind ≡ kind_of.InterfaceMethod → AimsAt functions d class e (record { goal = goal_of.Group i j; receiver = k })
asking_aims a b c d functions class e last i j k x y z is p q r kind =
    let later = extends_on x (extends_on y z) in
    let found : last_on d.likeness.types (pointed d.likeness.types class) e.path ≡ Some last = ap (λ (l : Likeness). last_on l.types (pointed l.types class) e.path) later.likeness ∙ is in
    (aim_within d.likeness.types functions e last, embedded_aim d.likeness.types functions class e last kind found, (node_later b d (extends_on y z) i (node_of.Field last.within last.field) (node_put a b x i (node_of.Field last.within last.field) p), group_later c d z j (embedded_group e last) (group_put b c y j (embedded_group e last) q)), node_put c d z k node_of.Nothing r)
