-- Parts of declarations, as they are read.
use Rattle.std.specs.Prelude.{Some}
use Rattle.std.specs.Global.{Box}
use Rattle.go_syntax.specs.declared.type_exprs.TypeExpr.{TypeExpr}
use Rattle.go_grammar.specs.View.{view_listed_name, view_type_expr, view_listed_expr, each, if_some, token_if, tree}
use Rattle.go_grammar.specs.View.{one}
use Rattle.go_fragments.specs.declared.parts.ValueParts.{ValueParts}
use Rattle.go_fragments.specs.declared.parts.NamedForm.{NamedForm}
use Rattle.go_ast.specs.declared.token.Kind.TheVariants as kinds
use Rattle.go_grammar.specs.Forests as forms
use Rattle.go_grammar.specs.Forests.{Forest, append, empty}
use Rattle.go_grammar.specs.Reading.{Reader, either_in}
use Rattle.go_grammar.specs.Tests.{word_in}
use Rattle.go_grammar.specs.TypeReading.{begins_named_param}

-- a specification without the semicolon behind it
abbrev pub view_values : ValueParts → Forest
view_values x =
    tree forms.ValueSpecForm
    (append (each view_listed_name x.names.items)
    (append (if_some (λ (y : Box TypeExpr). view_type_expr y.value) x.form)
    (append (token_if x.assign) (each view_listed_expr x.values.items))))

abbrev pub view_named_form : NamedForm → Forest
view_named_form x =
    tree forms.TypeSpecForm (append (one x.name) (append (token_if x.assign) (view_type_expr x.form.value)))

-- a name that stands before its type, or nothing
abbrev pub receiver_name_in : Reader
receiver_name_in = either_in begins_named_param (word_in kinds.Name) (λ tokens. Some (empty, tokens))
