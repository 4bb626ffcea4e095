-- Where expressions stand, and what one that was read may be used as.
use Rattle.std.specs.Prelude.{Option, Some, None, if◌then◌else◌}
use Rattle.go_grammar.specs.Forests as forms
use Rattle.go_grammar.specs.Forests.{Form, Forest, empty, leaf, node}
use Rattle.go_grammar.specs.StmtReading.{is_single}
use Rattle.go_grammar.specs.ExprReading.{imported_type, named_type}
use Rattle.go_grammar.specs.TypeReading.{Place, Plain, Header, Item}
use Rattle.go_fragments.specs.declared.operands.Context.{Context}
use Rattle.go_fragments.specs.declared.operands.Context.TheVariants as contexts

abbrev pub view_context : Context → Place
view_context contexts.Plain = Plain
view_context contexts.Header = Header
view_context contexts.Item = Item

-- the expression of a list of one
abbrev pub single_of : Forest → Option Forest
single_of trees = if is_single trees then Some trees else None

-- the token of a name
abbrev pub name_token : Forest → Option Forest
name_token (node forms.NameForm (leaf name empty) empty) = Some (leaf name empty)
name_token _ = None

abbrev pub type_named_by : Form → Forest → Option Forest
type_named_by forms.NameForm below = named_type below
type_named_by forms.SelectorForm below = imported_type below
type_named_by _ below = None

-- the name of a type, of what was read as an expression
abbrev pub type_named : Forest → Option Forest
type_named (node form below behind) = type_named_by form below
type_named _ = None
