-- Parameters as they are read, one after the other.
use Rattle.std.specs.Prelude.{List, map, Option, Some, None, Bool, true, ◌&&◌, if◌then◌else◌}
use Rattle.go_ast.specs.declared.token.Token.{Token}
use Rattle.go_grammar.specs.Forests as forms
use Rattle.go_grammar.specs.Forests.{Forest, empty, leaf, node, append}
use Rattle.go_grammar.specs.Reading.{◌>>=◌}
use Rattle.go_grammar.specs.TypeReading as reading
use Rattle.go_grammar.specs.TypeReading.{name_of_type, is_none, param_of, groups_of, types_of}
use Rattle.go_grammar.specs.View.{view_type_expr}
use Rattle.go_fragments.specs.declared.groups.Entry.{Entry}

abbrev pub view_entry : Entry → reading.Entry
view_entry x = record { name = x.name; ellipsis = x.ellipsis; form = view_type_expr x.form.value; comma = x.comma }

abbrev pub entries : List Entry → List reading.Entry
entries xs = map view_entry xs

-- groups and the names of the next, as far as they were read
abbrev pub so_far : Forest → Forest → Option (Forest × Forest)
so_far params names = Some (params, names)

abbrev pub are_dots_allowed : Bool → Option Token → Bool
are_dots_allowed allowed None = true
are_dots_allowed allowed (Some token) = allowed

-- the name that alone was read as a type
abbrev pub local_name : Forest → Option Token
local_name (node forms.TypeNameForm (leaf name empty) behind) = Some name
local_name _ = None

-- the same with the comma behind it
abbrev pub listed_name : Option Token → Option Token → Option Token → Option Forest
listed_name None (Some name) (Some comma) = Some (leaf name (leaf comma empty))
listed_name _ _ _ = None

-- One more entry behind groups and the names of the next. `...` may stand before its type only where it is the last.
abbrev pub group_turn : Bool → Forest → Forest → reading.Entry → Option (Forest × Forest)
group_turn dots params names entry = by entry.name
  where
    by : Option Token → Option (Forest × Forest)
    by None = name_of_type entry.ellipsis entry.form entry.comma >>= λ name. Some (params, append names name)
    by (Some name) =
        if are_dots_allowed (dots && is_none names) entry.ellipsis
        then Some (append params (param_of (append names (leaf name empty)) entry), empty) else None

abbrev pub closed_groups : Forest → Forest → Option Forest
closed_groups params names = if is_none names then Some params else None

-- groups that were read, and those of further entries
abbrev pub groups_from : Bool → Forest → Forest → List reading.Entry → Option Forest
groups_from variadic params names more = groups_of variadic names more >>= λ later. Some (append params later)

abbrev pub type_turn : Bool → reading.Entry → Option Forest
type_turn dots entry = if are_dots_allowed dots entry.ellipsis then Some (param_of empty entry) else None

abbrev pub types_from : Bool → Forest → List reading.Entry → Option Forest
types_from variadic params more = types_of variadic more >>= λ later. Some (append params later)
