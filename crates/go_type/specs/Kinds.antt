-- The widths of integer types, and where the basic types stand. Go specification, "Numeric types".
use Rattle.std.specs.Prelude.{ℕ, true, false, Option, Some, None}
use Rattle.go_base.specs.declared.ids.TypeId.{TypeId}
use Rattle.go_type.specs.declared.kinds.IntKind.{IntKind}
use Rattle.go_type.specs.declared.term.Basic.{Basic}
use Rattle.go_type.specs.declared.term.Basic.TheVariants as basic
use Rattle.go_type.specs.declared.term.TypeTerm.{TypeTerm}
use Rattle.go_type.specs.declared.term.TypeTerm.TheVariants.{Basic as Plain}
use Rattle.go_type.specs.Table.{Table, term_at, underlying_of}

-- `int` and `uint` have 64 bits
abbrev pub kind_of_basic : Basic → Option IntKind
kind_of_basic basic.Int = Some (record { bits = 64; signed = true })
kind_of_basic basic.Int8 = Some (record { bits = 8; signed = true })
kind_of_basic basic.Int16 = Some (record { bits = 16; signed = true })
kind_of_basic basic.Int32 = Some (record { bits = 32; signed = true })
kind_of_basic basic.Int64 = Some (record { bits = 64; signed = true })
kind_of_basic basic.Uint = Some (record { bits = 64; signed = false })
kind_of_basic basic.Uint8 = Some (record { bits = 8; signed = false })
kind_of_basic basic.Uint16 = Some (record { bits = 16; signed = false })
kind_of_basic basic.Uint32 = Some (record { bits = 32; signed = false })
kind_of_basic basic.Uint64 = Some (record { bits = 64; signed = false })
kind_of_basic _ = None

abbrev pub kind_of_term : Option TypeTerm → Option IntKind
kind_of_term (Some (Plain kind)) = kind_of_basic kind
kind_of_term _ = None

-- the width and sign of an integer type, by its underlying type
abbrev pub kind_of : Table → TypeId → Option IntKind
kind_of types id = kind_of_term (term_at types (underlying_of types id))
