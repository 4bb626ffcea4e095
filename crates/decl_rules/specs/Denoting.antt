-- What the nodes of types denote, and their underlying types.
use Rattle.std.specs.Prelude.{◌≡◌, ◌↔◌, ℕ, Bool, true, false, List, [], ◌∷◌, Option, Some, None, slice_index_or}
use Rattle.std.specs.Prelude.{slice_get, slice_set, if◌then◌else◌}
use denote.Enum.Bare.{sameb}
use Rattle.go_base.specs.declared.ids.TypeId.{TypeId}
use Rattle.go_type.specs.contracts.term.Basic.{the_type}
use Rattle.go_type.specs.declared.term.Basic.{Basic}
use Rattle.go_type.specs.declared.term.TypeTerm.{TypeTerm}
use Rattle.go_type.specs.declared.term.TypeTerm.TheVariants as term
use Rattle.go_type.specs.Table.{Table, term_at}
use Rattle.go_graph.specs.Marks.{marked}
use Rattle.decl_nodes.specs.declared.bases.Base.{Base}
use Rattle.decl_nodes.specs.declared.bases.Base.TheVariants as base
use Rattle.decl_nodes.specs.declared.bases.TypeFact.{TypeFact}
use Rattle.decl_nodes.specs.declared.nodes.Kind.{Kind}
use Rattle.decl_nodes.specs.declared.nodes.Kind.TheVariants.{Alias, Array, Chan, Defined, Function, Interface, Map}
use Rattle.decl_nodes.specs.declared.nodes.Kind.TheVariants.{Named, Paren, Pointer, Predeclared, Slice, Struct}
use Rattle.decl_nodes.specs.declared.nodes.Node.{Node}
use Rattle.decl_nodes.specs.Numbered.{kind_at}
use Rattle.decl_rules.specs.declared.denoting.Denoted.{Denoted}
use Rattle.decl_rules.specs.declared.denoting.Denoted.TheVariants.{Declared, Form}
use Rattle.decl_rules.specs.declared.denoting.Denoted.TheVariants as denoted
use Rattle.decl_rules.specs.declared.denoting.Denoting.{Denoting}
use Rattle.decl_rules.specs.declared.denoting.Lead.{Lead}
use Rattle.decl_rules.specs.declared.denoting.Lead.TheVariants.{Is, Nowhere, To}

-- where the type of a node is found: names, parentheses and aliases have that of another node, and so have declared
-- types where these are followed too
abbrev pub step : Bool → ℕ → Kind → Lead
step through number (Named to) = To to
step through number (Paren to) = To to
step through number (Alias form) = To form
step true number (Defined of form) = To form
step false number (Defined of form) = Is (Declared number)
step through number (Predeclared of) = Is (denoted.Predeclared of)
step through number (Pointer to) = Is (Form number)
step through number (Slice element) = Is (Form number)
step through number (Array length element) = Is (Form number)
step through number (Map key element) = Is (Form number)
step through number (Chan dir element) = Is (Form number)
step through number (Function signature) = Is (Form number)
step through number (Struct fields) = Is (Form number)
step through number (Interface elements) = Is (Form number)
step through number _ = Nowhere

abbrev pub step_of : Bool → ℕ → Option Kind → Lead
step_of through number None = Nowhere
step_of through number (Some kind) = step through number kind

abbrev pub step_at : List Node → Bool → ℕ → Lead
step_at list through number = step_of through number (kind_at list number)

-- One comes from a node to its type.
pub data ComesTo (list : List Node) (through : Bool) : ℕ → Denoted → Type 0 where
  here : {number : ℕ} {type : Denoted} → step_at list through number ≡ Is type → ComesTo list through number type
  along : {number to : ℕ} {type : Denoted} → step_at list through number ≡ To to → ComesTo list through to type
      → ComesTo list through number type

-- A node denotes a type: names, parentheses and aliases denote what they stand for. Go specification, "Alias
-- declarations".
abbrev pub Denotes : List Node → ℕ → Denoted → Type 0
Denotes list = ComesTo list false

-- A type is the underlying one of a node: that of a declared type is that of the type that it is declared as. Go
-- specification, "Underlying types".
abbrev pub HasUnder : List Node → ℕ → Denoted → Type 0
HasUnder list = ComesTo list true

-- The types of the nodes are found; there is none where names lead round.
pub record AreDenoted (list : List Node) (found : Denoting) : Type 0 where
  pub denoted : (x : ℕ) (t : Denoted) → (slice_index_or found.denoted.items x None ≡ Some t) ↔ Denotes list x t
  pub under : (x : ℕ) (t : Denoted) → (slice_index_or found.under.items x None ≡ Some t) ↔ HasUnder list x t

abbrev pub is_basic_type : Option TypeTerm → Bool
is_basic_type (Some (term.Basic kind)) = true
is_basic_type _ = false

abbrev pub type_if_basic : Base → Option TypeId → Option TypeId
type_if_basic (base.Basic kind) of = of
type_if_basic _ of = None

abbrev pub constant_type_of : Option TypeFact → Option TypeId
constant_type_of None = None
constant_type_of (Some fact) = type_if_basic fact.base fact.of

-- the declared or predeclared type that a type denotes, where it has constants
abbrev pub constant_type : Table → List TypeFact → Option Denoted → Option TypeId
constant_type types facts None = None
constant_type types facts (Some (Declared node)) = constant_type_of (slice_get facts node)
constant_type types facts (Some (denoted.Predeclared of)) = if is_basic_type (term_at types of) then Some of else None
constant_type types facts (Some (Form node)) = None

-- whether a term is a basic type of a kind
abbrev pub is_basic_term : Basic → Option TypeTerm → Bool
is_basic_term kind (Some (term.Basic other)) = sameb the_type other kind
is_basic_term kind _ = false

-- ---- what the code computes

-- the nodes to which a node leads
abbrev pub targets_of : Lead → List ℕ
targets_of (To to) = to ∷ []
targets_of (Is type) = []
targets_of Nowhere = []

-- the type by what was found before
abbrev pub found_by : List (Option Denoted) → Lead → Option Denoted
found_by found (To to) = slice_index_or found to None
found_by found (Is type) = Some type
found_by found Nowhere = None

-- what is found after one more node
abbrev pub settled : List Node → Bool → List Bool → ℕ → List (Option Denoted) → List (Option Denoted)
settled list through cyclic number found =
    if marked cyclic number
    then found
    else slice_set found number (found_by found (step_at list through number))
