-- Which operands an operator takes. Go specification, "Operators", "Arithmetic operators", "Logical operators",
-- "Comparison operators" and "The zero value".
use Rattle.std.specs.Prelude.{ℕ, Bool, true, false, Option, Some, None, IsTrue}
use Rattle.go_base.specs.declared.ids.TypeId.{TypeId}
use Rattle.go_type.specs.declared.constants.ConstOp.{ConstOp}
use Rattle.go_type.specs.declared.constants.ConstOp.TheVariants as op
use Rattle.go_type.specs.declared.operators.CompareOp.{CompareOp}
use Rattle.go_type.specs.declared.operators.CompareOp.TheVariants as compare
use Rattle.go_type.specs.declared.term.Basic.{Basic}
use Rattle.go_type.specs.declared.term.Basic.TheVariants as basic
use Rattle.go_type.specs.declared.term.TypeTerm.{TypeTerm}
use Rattle.go_type.specs.declared.term.TypeTerm.TheVariants.{Basic as Plain, Pointer, Func, Slice, Map, Chan, Interface}
use Rattle.go_type.specs.Comparable.{Comparable}
use Rattle.go_type.specs.Table.{Table, term_at, underlying_of}
use Rattle.go_rules.specs.declared.operands.Class.{Class}
use Rattle.go_rules.specs.declared.operands.Class.TheVariants as class

-- what the values of a basic type are; nil is none of these
abbrev pub class_of_basic : Basic → Option Class
class_of_basic basic.Bool = Some class.Truth
class_of_basic basic.UntypedBool = Some class.Truth
class_of_basic basic.Text = Some class.Text
class_of_basic basic.UntypedText = Some class.Text
class_of_basic basic.UntypedNil = None
class_of_basic _ = Some class.Integer

abbrev pub class_of_term : Option TypeTerm → Option Class
class_of_term (Some (Plain plain)) = class_of_basic plain
class_of_term _ = None

-- by the underlying type
abbrev pub class_at : Table → TypeId → Option Class
class_at types of = class_of_term (term_at types (underlying_of types of))

abbrev pub integers : Option Class → Bool
integers (Some class.Integer) = true
integers _ = false

abbrev pub truths : Option Class → Bool
truths (Some class.Truth) = true
truths _ = false

-- "<, <=, > and >=" compare integers and strings
abbrev pub ordered : Option Class → Bool
ordered (Some class.Integer) = true
ordered (Some class.Text) = true
ordered _ = false

abbrev pub adds : ConstOp → Bool
adds op.Add = true
adds _ = false

-- the operators of arithmetic take integers, and "+" strings too
abbrev pub takes : ConstOp → Option Class → Bool
takes o (Some class.Integer) = true
takes o (Some class.Text) = adds o
takes o _ = false

abbrev pub is_integer : Table → TypeId → Bool
is_integer types of = integers (class_at types of)

abbrev pub is_truth : Table → TypeId → Bool
is_truth types of = truths (class_at types of)

abbrev pub TakesComparison : Table → CompareOp → TypeId → Type 0
TakesComparison types compare.Equal of = Comparable types of
TakesComparison types compare.NotEqual of = Comparable types of
TakesComparison types _ of = IsTrue (ordered (class_at types of))

abbrev pub nillable_term : Option TypeTerm → Bool
nillable_term (Some (Pointer elem)) = true
nillable_term (Some (Func signature)) = true
nillable_term (Some (Slice elem)) = true
nillable_term (Some (Map key elem)) = true
nillable_term (Some (Chan dir elem)) = true
nillable_term (Some (Interface methods)) = true
nillable_term _ = false

-- whether nil is a value of a type
abbrev pub is_nillable : Table → TypeId → Bool
is_nillable types of = nillable_term (term_at types (underlying_of types of))
