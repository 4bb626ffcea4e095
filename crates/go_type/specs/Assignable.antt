-- When a value of one type may be assigned to another, and which types implement an interface. Go specification,
-- "Assignability" and "Implementing an interface".
use Rattle.std.specs.Prelude.{Bool, true, false, not, ◌&&◌, Option, Some, None, IsTrue, ◌⊎◌}
use Rattle.std.specs.List.{All}
use Rattle.go_base.specs.declared.ids.TypeId.{TypeId}
use Rattle.go_type.specs.declared.members.Member.{Member}
use Rattle.go_type.specs.declared.term.Basic.{Basic}
use Rattle.go_type.specs.declared.term.Basic.TheVariants as basic
use Rattle.go_type.specs.declared.term.Dir.TheVariants as dir
use Rattle.go_type.specs.declared.term.MethodType.{MethodType}
use Rattle.go_type.specs.declared.term.TypeTerm.{TypeTerm}
use Rattle.go_type.specs.declared.term.TypeTerm.TheVariants.{Basic as Plain, Declared, Chan, Interface, Tuple, Iter}
use Rattle.go_type.specs.Identity.{Identical}
use Rattle.go_type.specs.MethodSets.{HasMember}
use Rattle.go_type.specs.Table.{Table, term_at, underlying_of}

abbrev pub underlying_term_of : Table → TypeId → Option TypeTerm
underlying_term_of types id = term_at types (underlying_of types id)

-- the method set of a type has a method of an interface, with an identical type
abbrev pub HasMethodOf : Table → TypeId → MethodType → Type 0
HasMethodOf types a method =
    (member : Member)
    × (HasMember types a (record { name = method.name; «package» = method.package }) member
    × Identical types member.of method.of)

abbrev pub HasMethodsOf : Table → TypeId → Option TypeTerm → Type 0
HasMethodsOf types a (Some (Interface methods)) = All (HasMethodOf types a) methods
HasMethodsOf types a _ = ⊥

-- the second is an interface each of whose methods the first has
abbrev pub Implements : Table → TypeId → TypeId → Type 0
Implements types a interface = HasMethodsOf types a (underlying_term_of types interface)

-- predeclared and declared types are named
abbrev pub is_named : Option TypeTerm → Bool
is_named (Some (Plain kind)) = true
is_named (Some (Declared name)) = true
is_named _ = false

-- a channel for both directions, and a channel of an identical element type
abbrev pub Narrows : Table → Option TypeTerm → Option TypeTerm → Type 0
Narrows types (Some (Chan dir.Both elem)) (Some (Chan to other)) = Identical types elem other
Narrows types _ _ = ⊥

abbrev pub HasLikeUnderlying : Table → TypeId → TypeId → Type 0
HasLikeUnderlying types from to =
    Identical types (underlying_of types from) (underlying_of types to)
    ⊎ Narrows types (underlying_term_of types from) (underlying_term_of types to)

abbrev pub IsOneUnnamed : Table → TypeId → TypeId → Type 0
IsOneUnnamed types from to = IsTrue (not (is_named (term_at types from) && is_named (term_at types to)))

-- values of tuples, of the states of ranges and of untyped constants are no typed values
abbrev pub is_untyped : Basic → Bool
is_untyped basic.UntypedBool = true
is_untyped basic.UntypedInt = true
is_untyped basic.UntypedRune = true
is_untyped basic.UntypedText = true
is_untyped basic.UntypedNil = true
is_untyped _ = false

abbrev pub has_values : Option TypeTerm → Bool
has_values (Some (Plain kind)) = not (is_untyped kind)
has_values (Some (Tuple parts)) = false
has_values (Some (Iter over)) = false
has_values (Some _) = true
has_values None = false

abbrev pub Fits : Table → TypeId → TypeId → Type 0
Fits types from to =
    Identical types from to
    ⊎ ((HasLikeUnderlying types from to × IsOneUnnamed types from to) ⊎ Implements types from to)

-- whether a typed value of one type may be assigned to another
abbrev pub Assignable : Table → TypeId → TypeId → Type 0
Assignable types from to = IsTrue (has_values (term_at types from)) × Fits types from to
