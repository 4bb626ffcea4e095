-- Which types conversions need.
use Rattle.std.specs.Prelude.{ℕ, zero, suc, ◌==◌, Bool, false, ◌&&◌, ◌||◌, if◌then◌else◌, length, Option, Some, None}
use Rattle.std.specs.Prelude.{is_some}
use Rattle.std.specs.Bool.{beq}
use Rattle.std.specs.Cmp.Lexicographic.{pointwise}
use denote.Enum.Bare.{sameb}
use Rattle.go_base.specs.declared.ids.TypeId.{TypeId}
use Rattle.go_type.specs.Assignable.{underlying_term_of}
use Rattle.go_type.specs.Identity.{like_signature, like_method}
use Rattle.go_type.specs.Kinds.{kind_of}
use Rattle.go_type.specs.Same.{same_id}
use Rattle.go_type.specs.Table.{Table, term_at, underlying_of}
use Rattle.go_type.specs.contracts.term.Dir as dirs
use Rattle.go_type.specs.declared.term.Dir.TheVariants as dir
use Rattle.go_type.specs.declared.term.Field.{Field}
use Rattle.go_type.specs.declared.term.TypeTerm.{TypeTerm}
use Rattle.go_type.specs.declared.term.TypeTerm.TheVariants.{Pointer, Slice, Array, Map, Chan, Func, Struct, Interface}
use Rattle.ssa_ir.specs.declared.code.Code.{Code}
use Rattle.ssa_typed.specs.Operands.{function_at, is_function_type}
use Rattle.type_shapes.specs.Shapes.{is_text, is_characters}
use Rattle.ssa_typed.specs.declared.known.Known.{Known}
use Rattle.ssa_typed.specs.declared.known.Known.TheVariants as known_as

-- ---- conversions that make a value: an integer to an integer or a string, or between strings and bytes or runes

abbrev pub converts_type : Table → TypeId → TypeId → Bool
converts_type types from to =
    if is_some (kind_of types from) then is_some (kind_of types to) || is_text (underlying_term_of types to)
    else (is_text (underlying_term_of types from) && is_characters types (underlying_term_of types to))
    || (is_text (underlying_term_of types to) && is_characters types (underlying_term_of types from))

abbrev pub converts : Table → Option TypeId → TypeId → Bool
converts types None to = false
converts types (Some from) to = converts_type types from to

-- ---- types that are identical but for the tags of fields

module _ (R : TypeId → TypeId → Bool) where
  -- the same name and type, and both embedded or neither
  abbrev pub like_bare_field : Field → Field → Bool
  like_bare_field a b =
      (a.name.number == b.name.number) && ((a.package == b.package) && (beq a.embedded b.embedded && R a.of b.of))

  -- whether two terms that have parts have the same form, and parts that correspond by R; a type whose term is of
  -- another form is like itself alone
  abbrev pub like_bare : TypeTerm → TypeTerm → Bool
  like_bare (Pointer a) (Pointer b) = R a b
  like_bare (Slice a) (Slice b) = R a b
  like_bare (Array n a) (Array m b) = (n == m) && R a b
  like_bare (Map k a) (Map l b) = R k l && R a b
  like_bare (Chan d a) (Chan e b) = sameb dirs.the_type d e && R a b
  like_bare (Func a) (Func b) = like_signature R a b
  like_bare (Struct a) (Struct b) = pointwise like_bare_field a b
  like_bare (Interface a) (Interface b) = pointwise (like_method R) a b
  like_bare _ _ = false

abbrev pub alike_bare : (TypeId → TypeId → Bool) → Option TypeTerm → Option TypeTerm → Bool
alike_bare R (Some a) (Some b) = like_bare R a b
alike_bare R _ _ = false

-- whether that shows by at most n steps into their parts
abbrev pub same_to : ℕ → Table → TypeId → TypeId → Bool
same_to zero types a b = same_id a b
same_to (suc n) types a b = same_id a b || alike_bare (same_to n types) (term_at types a) (term_at types b)

-- as many steps suffice as types are held, since the parts of a type are held before it
abbrev pub same_type : Table → TypeId → TypeId → Bool
same_type types a b = same_to (length types.terms) types a b

abbrev pub same_below : Table → TypeId → TypeId → Bool
same_below types a b = same_type types (underlying_of types a) (underlying_of types b)

-- ---- conversions that leave a value as it is

-- a channel of both directions, and one of the same elements
abbrev pub loses_direction : Option TypeTerm → Option TypeTerm → Bool
loses_direction (Some (Chan dir.Both elem)) (Some (Chan way other)) = same_id elem other
loses_direction _ _ = false

abbrev pub points_to_same : Table → Option TypeTerm → Option TypeTerm → Bool
points_to_same types (Some (Pointer a)) (Some (Pointer b)) = same_below types a b
points_to_same types _ _ = false

abbrev pub is_changed_at : Table → TypeId → TypeId → Bool
is_changed_at types a b =
    same_type types a b
    || (loses_direction (term_at types a) (term_at types b)
    || points_to_same types (term_at types a) (term_at types b))

-- the underlying types are identical but for tags, or a channel loses a direction, or pointers point to such types
abbrev pub is_changed : Table → TypeId → TypeId → Bool
is_changed types from to = is_changed_at types (underlying_of types from) (underlying_of types to)

abbrev pub changes_pointer : Table → TypeId → Option TypeTerm → Bool
changes_pointer types base (Some (Pointer other)) = same_below types base other
changes_pointer types base _ = false

abbrev pub changes : Code → Option Known → TypeId → Bool
changes c None to = false
changes c (Some (known_as.Held from)) to = is_changed c.types from to
changes c (Some (known_as.Function id)) to = is_function_type (underlying_term_of c.types to) (function_at c id)
changes c (Some (known_as.Address base)) to = changes_pointer c.types base (underlying_term_of c.types to)
