-- The base types of receivers, and what is embedded. Go specification, "Method declarations", "Struct types".
use Rattle.std.specs.Prelude.{◌≡◌, ◌⊎◌, ℕ, Bool, true, false, ◌&&◌, ◌||◌, not, List, Option, Some, None, nat_eq}
use Rattle.std.specs.Prelude.{slice_get, slice_index_or}
use Rattle.go_type.specs.Table.{Table, term_at}
use Rattle.decl_nodes.specs.declared.nodes.Kind.{Kind}
use Rattle.decl_nodes.specs.declared.nodes.Kind.TheVariants.{Interface, Pointer}
use Rattle.decl_nodes.specs.declared.nodes.Node.{Node}
use Rattle.decl_nodes.specs.Numbered.{kind_at}
use Rattle.decl_rules.specs.declared.denoting.Denoted.{Denoted}
use Rattle.decl_rules.specs.declared.denoting.Denoted.TheVariants.{Declared, Form}
use Rattle.decl_rules.specs.declared.denoting.Denoted.TheVariants as denoted
use Rattle.decl_rules.specs.declared.denoting.Denoting.{Denoting}
use Rattle.decl_rules.specs.declared.receivers.Receiver.{Receiver}
use Rattle.decl_rules.specs.Denoting.{Denotes, HasUnder, is_basic_type}

abbrev pub is_pointer_kind : Option Kind → Bool
is_pointer_kind (Some (Pointer to)) = true
is_pointer_kind _ = false

abbrev pub is_interface_kind : Option Kind → Bool
is_interface_kind (Some (Interface elements)) = true
is_interface_kind _ = false

-- whether an underlying type is a pointer
abbrev pub is_pointer : List Node → Denoted → Bool
is_pointer list (Form form) = is_pointer_kind (kind_at list form)
is_pointer list _ = false

-- whether an underlying type is an interface, as that of `error` is
abbrev pub is_interface : List Node → Table → Denoted → Bool
is_interface list types (Form form) = is_interface_kind (kind_at list form)
is_interface list types (denoted.Predeclared of) = not (is_basic_type (term_at types of))
is_interface list types (Declared node) = false

-- The base type of a receiver: the declared type that it denotes, or that is denoted below the pointer that it denotes.
pub data IsBase (list : List Node) (form : ℕ) : Receiver → Type 0 where
  itself : (declared : ℕ) → Denotes list form (Declared declared)
      → IsBase list form (record { declared = declared; pointer = false })
  pointed : (declared pointer to : ℕ) → Denotes list form (Form pointer) → kind_at list pointer ≡ Some (Pointer to)
      → Denotes list to (Declared declared) → IsBase list form (record { declared = declared; pointer = true })

-- whether two nodes are of one package
abbrev pub same_package : Option Node → Option Node → Bool
same_package (Some a) (Some b) = nat_eq a.package b.package
same_package _ _ = false

-- A receiver is bad: its type has no base, or the base is of another package, a pointer or an interface. It is asked
-- where the type denotes one, and the base has an underlying type.
pub data IsBadReceiver (list : List Node) (types : Table) (receiver form : ℕ) : Type 0 where
  without_base : (type : Denoted) → Denotes list form type → ((r : Receiver) → IsBase list form r → ⊥)
      → IsBadReceiver list types receiver form
  elsewhere : (r : Receiver) (under : Denoted) → IsBase list form r → HasUnder list r.declared under
      → same_package (slice_get list r.declared) (slice_get list receiver) ≡ false
      → IsBadReceiver list types receiver form
  of_bad_type : (r : Receiver) (under : Denoted) → IsBase list form r → HasUnder list r.declared under
      → (is_pointer list under ≡ true) ⊎ (is_interface list types under ≡ true)
      → IsBadReceiver list types receiver form

-- A type is embedded in a struct though it is a pointer, or a pointer to it though it is an interface.
pub record IsBadEmbedded (list : List Node) (types : Table) (name : ℕ) (by_pointer : Bool) : Type 0 where
  pub under : Denoted
  pub has_under : HasUnder list name under
  pub is_bad : (is_pointer list under ≡ true) ⊎ ((by_pointer ≡ true) × (is_interface list types under ≡ true))

-- ---- what the code computes

abbrev pub pointed_by : Option Denoted → Option Receiver
pointed_by (Some (Declared declared)) = Some (record { declared = declared; pointer = true })
pointed_by _ = None

abbrev pub pointed_base : Denoting → Option Kind → Option Receiver
pointed_base found (Some (Pointer to)) = pointed_by (slice_index_or found.denoted.items to None)
pointed_base found _ = None

abbrev pub base_by : List Node → Denoting → Option Denoted → Option Receiver
base_by list found (Some (Declared declared)) = Some (record { declared = declared; pointer = false })
base_by list found (Some (Form form)) = pointed_base found (kind_at list form)
base_by list found _ = None

abbrev pub bad_under : List Node → Table → Bool → Option Denoted → Bool
bad_under list types own None = false
bad_under list types own (Some under) = not own || (is_pointer list under || is_interface list types under)

abbrev pub bad_base : List Node → Table → Denoting → ℕ → Option Receiver → Bool
bad_base list types found receiver None = true
bad_base list types found receiver (Some base) =
    bad_under list types (same_package (slice_get list base.declared) (slice_get list receiver))
    (slice_index_or found.under.items base.declared None)

abbrev pub bad_receiver : List Node → Table → Denoting → ℕ → Option Denoted → Bool
bad_receiver list types found receiver None = false
bad_receiver list types found receiver (Some type) =
    bad_base list types found receiver (base_by list found (Some type))

abbrev pub bad_embedded : List Node → Table → Bool → Option Denoted → Bool
bad_embedded list types by_pointer None = false
bad_embedded list types by_pointer (Some under) =
    is_pointer list under || (by_pointer && is_interface list types under)
