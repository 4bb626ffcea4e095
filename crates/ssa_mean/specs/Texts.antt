-- What `print` writes of several values, and the text of a panic with one. Go specification, "Bootstrapping" and
-- "Handling panics".
use Rattle.std.specs.Prelude.{ℕ, List, [], ◌∷◌, ◌++◌, Option}
use Rattle.go_base.specs.declared.ids.TypeId.{TypeId}
use Rattle.go_text.specs.Naming.{Naming}
use Rattle.go_value.specs.Values.{Val}
use Rattle.value_texts.specs.Texts.{printed, panic_string}

-- what `print` writes of several
abbrev pub printed_all : List Val → List ℕ
printed_all [] = []
printed_all (it ∷ others) = printed it ++ printed_all others

-- what `println` writes: a space between two, and a newline last
abbrev pub printed_behind : List Val → List ℕ
printed_behind [] = 10 ∷ []
printed_behind (it ∷ others) = 32 ∷ (printed it ++ printed_behind others)

abbrev pub printed_line : List Val → List ℕ
printed_line [] = 10 ∷ []
printed_line (it ∷ others) = printed it ++ printed_behind others

-- the text of a panic with a value of a type, where `errorString` of `runtime` is known
abbrev pub panic_text : Naming → Option TypeId → TypeId → Val → List ℕ
panic_text naming error_string of it = panic_string naming error_string (record { of = of; value = it })
