-- Which types' values flow.
use Rattle.std.specs.Prelude.{Bool, true, false, ◌||◌, Option, Some}
use Rattle.go_base.specs.declared.ids.TypeId.{TypeId}
use Rattle.go_type.specs.Table.{Table, term_at, underlying_of}
use Rattle.go_type.specs.declared.term.TypeTerm.{TypeTerm}
use Rattle.go_type.specs.declared.term.TypeTerm.TheVariants.{Interface, Func}

abbrev pub is_interface_term : Option TypeTerm → Bool
is_interface_term (Some (Interface methods)) = true
is_interface_term _ = false

abbrev pub is_function_term : Option TypeTerm → Bool
is_function_term (Some (Func signature)) = true
is_function_term _ = false

abbrev pub is_interface : Table → TypeId → Bool
is_interface types id = is_interface_term (term_at types (underlying_of types id))

abbrev pub is_function : Table → TypeId → Bool
is_function types id = is_function_term (term_at types (underlying_of types id))

-- values of interfaces and of function types alone flow
abbrev pub carries : Table → TypeId → Bool
carries types id = is_interface types id || is_function types id
