-- What two operands of an operator become, so that they have one type. Go specification, "Operators", "Comparison
-- operators" and "Constant expressions".
use Rattle.std.specs.Prelude.{Bool, false, ◌==◌, if◌then◌else◌, length, Option, Some, None}
use Rattle.std.specs.Option.{option_map}
use Rattle.go_base.specs.declared.ids.TypeId.{TypeId}
use Rattle.go_type.specs.declared.term.TypeTerm.{TypeTerm}
use Rattle.go_type.specs.declared.term.TypeTerm.TheVariants.{Interface}
use Rattle.go_type.specs.Table.{Table, term_at, underlying_of}
use Rattle.go_rules.specs.declared.matching.Matched.{Matched}
use Rattle.go_rules.specs.declared.matching.Matched.TheVariants as matched
use Rattle.go_rules.specs.declared.untyped.Untyped.{Untyped}
use Rattle.go_rules.specs.declared.untyped.Untyped.TheVariants as kind
use Rattle.go_rules.specs.Untyped.{fits_type, joined, kind_at}

abbrev pub converted : Bool → Matched → Option Matched
converted fits becomes = if fits then Some becomes else None

abbrev pub joined_kinds : Untyped → Untyped → Option Matched
joined_kinds k l = option_map (λ joined. matched.Untyped joined) (joined k l)

-- an untyped operand takes the type of the other; two of them become of one kind
abbrev pub matched_kinds : Table → Option Untyped → Option Untyped → TypeId → TypeId → Option Matched
matched_kinds types None None x y = Some matched.Typed
matched_kinds types (Some k) (Some l) x y = joined_kinds k l
matched_kinds types (Some k) None x y = converted (fits_type types k y) matched.FirstConverted
matched_kinds types None (Some l) x y = converted (fits_type types l x) matched.SecondConverted

abbrev pub matched_types : Table → TypeId → TypeId → Option Matched
matched_types types x y = matched_kinds types (kind_at types x) (kind_at types y) x y

abbrev pub empty_term : Option TypeTerm → Bool
empty_term (Some (Interface methods)) = length methods == 0
empty_term _ = false

abbrev pub is_empty_interface : Table → TypeId → Bool
is_empty_interface types of = empty_term (term_at types (underlying_of types of))

-- every type implements an interface without methods, also the default type of a constant; nil has none
abbrev pub may_default : Table → Untyped → TypeId → Bool
may_default types kind.Nil beside = false
may_default types _ beside = is_empty_interface types beside

abbrev pub defaulted : Table → Option Untyped → Option Untyped → TypeId → TypeId → Option Matched
defaulted types (Some k) None x y = converted (may_default types k y) matched.FirstDefault
defaulted types None (Some l) x y = converted (may_default types l x) matched.SecondDefault
defaulted types (Some k) (Some l) x y = None
defaulted types None None x y = None

abbrev pub otherwise : {A : Type 0} → Option A → Option A → Option A
otherwise (Some x) other = Some x
otherwise None other = other

abbrev pub compared_types : Table → TypeId → TypeId → Option Matched
compared_types types x y = otherwise (matched_types types x y) (defaulted types (kind_at types x) (kind_at types y) x y)
