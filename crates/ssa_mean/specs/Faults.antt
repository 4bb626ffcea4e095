-- Run-time faults as panics. Go specification, "Run-time panics".
use Rattle.std.specs.Prelude.{ℕ, Bool, false, ◌==◌, ◌&&◌, List, ◌++◌, Option, Some, None, codes, slice_get}
use Rattle.std.specs.List.{find}
use Rattle.std.specs.Option.{option_map_or}
use Rattle.std.specs.Str.{bytes_eq}
use Rattle.go_base.specs.declared.ids.TypeId.{TypeId}
use Rattle.go_text.specs.Naming.{Naming, name_text}
use Rattle.go_type.specs.Table.{term_at}
use Rattle.go_type.specs.declared.term.TypeName.{TypeName}
use Rattle.go_type.specs.declared.term.TypeTerm.{TypeTerm}
use Rattle.go_type.specs.declared.term.TypeTerm.TheVariants.{Declared}
use Rattle.go_value.specs.Values.{Val, text, dynamic}
use Rattle.go_value.specs.declared.faults.Fault.{Fault}
use Rattle.ssa_ir.specs.declared.code.Code.{Code}
use Rattle.ssa_mean.specs.Runes.{as_characters}
use Rattle.ssa_mean.specs.State.{Thrown, of_value, of_text}
use Rattle.ssa_mean.specs.Texts.{panic_text}
use Rattle.value_texts.specs.Texts.{fault_string}

abbrev pub naming_of : Code → Naming
naming_of code = record { names = code.names; labels = code.packages; types = code.types }

-- whether a name is `errorString` of the package `runtime`, declared at package level
abbrev pub is_error_name : Code → TypeName → Bool
is_error_name code name =
    (name.number == 0)
    && (option_map_or (bytes_eq (codes "runtime")) (slice_get code.packages name.«package») false
    && bytes_eq (codes "errorString") (name_text code.names name.name))

abbrev pub is_error_term : Code → Option TypeTerm → Bool
is_error_term code (Some (Declared name)) = is_error_name code name
is_error_term code _ = false

-- the type `errorString` of package `runtime`, where the code has it
unfoldable pub error_string : Code → Option TypeId
error_string code = find (λ of. is_error_term code (term_at code.types of)) code.declared

-- what a fault throws: a value of that type. Where the code has it not, its text alone
abbrev pub thrown_with : List ℕ → Option TypeId → Thrown
thrown_with words None = of_text (codes "runtime error: " ++ words)
thrown_with words (Some of) = of_value (dynamic of (text words))

abbrev pub thrown_by : Code → Fault → Thrown
thrown_by code fault = thrown_with (fault_string (naming_of code) fault) (error_string code)

-- the text of what is thrown
abbrev pub value_text : Naming → Option TypeId → Val → Option (List ℕ)
value_text naming error_string (dynamic of it) = Some (as_characters (panic_text naming error_string of it))
value_text naming error_string _ = None

abbrev pub thrown_text : Code → Thrown → Option (List ℕ)
thrown_text code (of_value it) = value_text (naming_of code) (error_string code) it
thrown_text code (of_text words) = Some (as_characters words)
