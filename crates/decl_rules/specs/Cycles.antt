-- Declarations that stand on themselves. Go specification, "Type declarations", "Constant declarations".
use Rattle.std.specs.Prelude.{◌≡◌, ◌⊎◌, ℕ, zero, suc, ◌+◌, ◌<◌, Bool, true, false, ◌&&◌, ◌||◌, List, [], ◌∷◌, ◌++◌}
use Rattle.std.specs.Prelude.{Option, Some, None, flat_map, length, map, slice_get, slice_set, if◌then◌else◌}
use Rattle.go_base.specs.declared.rule.Rule.{Rule}
use Rattle.go_base.specs.declared.rule.Rule.TheVariants.{DeclarationRefersToItself, InvalidRecursiveType}
use Rattle.go_graph.specs.Graph.{IsAmong, StandsOn, next}
use Rattle.go_graph.specs.Marks.{ReachesMark, marked}
use Rattle.decl_nodes.specs.declared.nodes.Kind.{Kind}
use Rattle.decl_nodes.specs.declared.nodes.Kind.TheVariants.{Alias, Array, Defined, Embedded, Function, Map, Named}
use Rattle.decl_nodes.specs.declared.nodes.Kind.TheVariants.{Paren, Slice, Struct}
use Rattle.decl_nodes.specs.declared.nodes.Node.{Node}
use Rattle.decl_nodes.specs.declared.tables.Declaration.{Declaration}
use Rattle.decl_nodes.specs.declared.tables.Sort.{Sort}
use Rattle.decl_nodes.specs.declared.tables.Sort.TheVariants as sort
use Rattle.decl_nodes.specs.declared.tables.Tie.{Tie}
use Rattle.decl_nodes.specs.declared.bases.TypeFact.{TypeFact}
use Rattle.decl_nodes.specs.declared.violations.Violation.{Violation}
use Rattle.decl_nodes.specs.Numbered.{Numbered}
use Rattle.decl_nodes.specs.Violated.{violated_at}
use Rattle.decl_rules.specs.declared.edges.Edge.{Edge}

-- ---- what types hold

-- the parts of its own that a node has: the element of an array, the fields of a struct, what a name stands for
abbrev pub held : Kind → List ℕ
held (Named to) = to ∷ []
held (Paren to) = to ∷ []
held (Defined of form) = form ∷ []
held (Alias form) = form ∷ []
held (Array length element) = element ∷ []
held (Embedded name pointer) = if pointer then [] else name ∷ []
held (Struct fields) = map (λ f. f.form) fields.items
held _ = []

abbrev pub holds : List Node → List (List ℕ)
holds list = map (λ n. held n.kind) list

abbrev pub is_incomparable : Kind → Bool
is_incomparable (Slice element) = true
is_incomparable (Map key element) = true
is_incomparable (Function signature) = true
is_incomparable _ = false

-- Values of a type are not compared: it holds a slice, a map or a function. Go specification, "Comparison operators".
abbrev pub NotComparable : List Node → ℕ → Type 0
NotComparable list = ReachesMark (holds list) (map (λ n. is_incomparable n.kind) list)

-- ---- edges between declarations

-- The edges of the graph are these, so far as they lead from its nodes.
pub record HaveEdges (count : ℕ) (edges : List Edge) (rows : List (List ℕ)) : Type 0 where
  pub size : length rows ≡ count
  pub sound : (x y : ℕ) → IsAmong y (next rows x) → IsAmong (record { from = x; to = y }) edges
  pub complete : (x y : ℕ) → x < count → IsAmong (record { from = x; to = y }) edges → IsAmong y (next rows x)

-- Edges lead from one to another, one of them or more.
pub data LeadsTo (edges : List Edge) : ℕ → ℕ → Type 0 where
  once : {x y : ℕ} → IsAmong (record { from = x; to = y }) edges → LeadsTo edges x y
  more : {x y z : ℕ} → IsAmong (record { from = x; to = y }) edges → LeadsTo edges y z → LeadsTo edges x z

abbrev pub is_type_sort : Sort → Bool
is_type_sort sort.Defined = true
is_type_sort sort.Alias = true
is_type_sort _ = false

abbrev pub is_alias_sort : Sort → Bool
is_alias_sort sort.Alias = true
is_alias_sort _ = false

abbrev pub is_constant_sort : Sort → Bool
is_constant_sort sort.Constant = true
is_constant_sort _ = false

abbrev pub is_sort : (Sort → Bool) → Option Declaration → Bool
is_sort test None = false
is_sort test (Some declaration) = test declaration.sort

-- whether a declaration is of a type, of an alias, of a constant
abbrev pub is_type : List Declaration → ℕ → Bool
is_type declared node = is_sort is_type_sort (slice_get declared node)

abbrev pub is_alias : List Declaration → ℕ → Bool
is_alias declared node = is_sort is_alias_sort (slice_get declared node)

abbrev pub is_constant : List Declaration → ℕ → Bool
is_constant declared node = is_sort is_constant_sort (slice_get declared node)

abbrev pub canon_in : Option TypeFact → Option ℕ
canon_in None = None
canon_in (Some fact) = fact.canon

-- what a name counts as: for an alias of a name what that leads to
abbrev pub canon_of : List TypeFact → Option ℕ → Option ℕ
canon_of facts None = None
canon_of facts (Some node) = canon_in (slice_get facts node)

abbrev pub edge_to : ℕ → Option ℕ → List Edge
edge_to from None = []
edge_to from (Some to) = record { from = from; to = to } ∷ []

-- types to what the names count as that they are declared as
abbrev pub declared_edges : List TypeFact → ℕ → List TypeFact → List Edge
declared_edges facts node [] = []
declared_edges facts node (fact ∷ rest) =
    edge_to node (canon_of facts fact.target) ++ declared_edges facts (node + 1) rest

abbrev pub kept_if : (ℕ → Bool) → Option ℕ → Option ℕ
kept_if test None = None
kept_if test (Some node) = if test node then Some node else None

-- a type to what a name in it counts as, where that is embedded in an interface or is an alias
abbrev pub tie_edges : List Declaration → List TypeFact → Tie → List Edge
tie_edges declared facts tie =
    edge_to tie.owner (kept_if (λ to. tie.embedded || is_alias declared to) (canon_of facts (Some (tie.target))))

-- what types are tied to by names
abbrev pub tied : List Declaration → List Tie → List TypeFact → List Edge
tied declared ties facts = declared_edges facts 0 facts ++ flat_map (tie_edges declared facts) ties

-- an alias to an alias that is named in it
abbrev pub alias_edges : List Declaration → Tie → List Edge
alias_edges declared tie =
    if is_alias declared tie.owner && is_alias declared tie.target
    then record { from = tie.owner; to = tie.target } ∷ []
    else []

abbrev pub aliased : List Declaration → List Tie → List Edge
aliased declared ties = flat_map (alias_edges declared) ties

-- ---- what stands on itself

-- The type of a declaration is recursive: it holds itself, or names tie it to itself, or it is an alias that is named
-- in itself.
pub record IsRecursive (list : List Node) (declared : List Declaration) (ties : List Tie) (facts : List TypeFact)
    (x : ℕ) : Type 0 where
  pub is_type : is_type declared x ≡ true
  pub round : StandsOn (next (holds list)) x x
      ⊎ (LeadsTo (tied declared ties facts) x x ⊎ LeadsTo (aliased declared ties) x x)

abbrev pub length_of : Kind → Option ℕ
length_of (Array length element) = Some length
length_of _ = None

-- It is the length of an array.
pub record IsLength (list : List Node) (length : ℕ) : Type 0 where
  pub node : Node
  pub is_node : IsAmong node list
  pub is_length : length_of node.kind ≡ Some length

-- It stands on the length of an array, and that on it.
pub record StandsByLength (nodes : Numbered) (x : ℕ) : Type 0 where
  pub length : ℕ
  pub is_length : IsLength nodes.list length
  pub there : StandsOn (next nodes.edges) x length
  pub back : StandsOn (next nodes.edges) length x

-- A declaration refers to itself: it stands on itself, and is a constant or does so through the length of an array.
pub record RefersToItself (nodes : Numbered) (declared : List Declaration) (x : ℕ) : Type 0 where
  pub stands : StandsOn (next nodes.edges) x x
  pub by : (is_constant declared x ≡ true) ⊎ StandsByLength nodes x

-- One of the two rules is violated at a declaration that stands on itself.
pub data IsCycleViolation (nodes : Numbered) (declared : List Declaration) (ties : List Tie) (facts : List TypeFact)
    (v : Violation) : Type 0 where
  recursive_type : (x : ℕ) → x < length facts → IsRecursive nodes.list declared ties facts x
      → IsAmong v (violated_at (slice_get nodes.list x) x InvalidRecursiveType true)
      → IsCycleViolation nodes declared ties facts v
  self_reference : (x : ℕ) → x < length facts → RefersToItself nodes declared x
      → IsAmong v (violated_at (slice_get nodes.list x) x DeclarationRefersToItself true)
      → IsCycleViolation nodes declared ties facts v

-- ---- what the code computes

abbrev pub mark_at : Option ℕ → List Bool → List Bool
mark_at None marks = marks
mark_at (Some component) marks = slice_set marks component true

abbrev pub mark_length : List ℕ → Option ℕ → List Bool → List Bool
mark_length of None marks = marks
mark_length of (Some length) marks = mark_at (slice_get of length) marks

-- the components with the length of an array
abbrev pub lengths_marked : List ℕ → List Node → List Bool → List Bool
lengths_marked of [] marks = marks
lengths_marked of (node ∷ list) marks = lengths_marked of list (mark_length of (length_of node.kind) marks)

abbrev pub is_marked_in : List Bool → Option ℕ → Bool
is_marked_in marks None = false
is_marked_in marks (Some component) = marked marks component

abbrev pub violations_if : Bool → Option Node → ℕ → Rule → List Violation
violations_if is_bad item node rule = if is_bad then violated_at item node rule true else []

-- the rules that are violated at declarations below a number
abbrev pub cycles_below : List Node → List Bool → List Bool → ℕ → List Violation
cycles_below list recursive selves zero = []
cycles_below list recursive selves (suc n) =
    cycles_below list recursive selves n
    ++ (violations_if (marked recursive n) (slice_get list n) n InvalidRecursiveType
    ++ violations_if (marked selves n) (slice_get list n) n DeclarationRefersToItself)
