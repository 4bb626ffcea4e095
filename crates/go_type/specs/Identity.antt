-- When two types are identical. Go specification, "Type identity".
use Rattle.std.specs.Prelude.{ℕ, zero, suc, Bool, false, ◌==◌, ◌&&◌, ◌||◌, Option, Some, IsTrue}
use Rattle.std.specs.Bool.{beq}
use Rattle.std.specs.Cmp.Lexicographic.{pointwise}
use Rattle.std.specs.Str.{bytes_eq}
use denote.Enum.Bare.{sameb}
use Rattle.go_base.specs.declared.ids.TypeId.{TypeId}
use Rattle.go_type.specs.declared.term.Field.{Field}
use Rattle.go_type.specs.declared.term.MethodType.{MethodType}
use Rattle.go_type.specs.declared.term.Signature.{Signature}
use Rattle.go_type.specs.declared.term.TypeName.{TypeName}
use Rattle.go_type.specs.declared.term.TypeTerm.{TypeTerm}
use Rattle.go_type.specs.declared.term.TypeTerm.TheVariants.{Basic as Plain, Declared, Pointer, Slice, Array, Map}
use Rattle.go_type.specs.declared.term.TypeTerm.TheVariants.{Chan, Func, Struct, Interface, Tuple, Iter}
use Rattle.go_type.specs.contracts.term.Basic as basic
use Rattle.go_type.specs.contracts.term.Dir as dir
use Rattle.go_type.specs.Same.{same_id}
use Rattle.go_type.specs.Table.{Table, term_at}

-- a declared type is identical to itself alone
abbrev pub same_name : TypeName → TypeName → Bool
same_name a b = (a.name.number == b.name.number) && ((a.package == b.package) && (a.number == b.number))

module _ (R : TypeId → TypeId → Bool) where
  -- the same number of parameters and results, whose types correspond, and both variadic or neither
  abbrev pub like_signature : Signature → Signature → Bool
  like_signature a b = pointwise R a.params b.params && (pointwise R a.results b.results && beq a.variadic b.variadic)

  -- the same name, type and tag, and both embedded or neither; names that are not exported differ between packages
  abbrev pub like_field : Field → Field → Bool
  like_field a b =
      (a.name.number == b.name.number)
      && ((a.package == b.package) && (R a.of b.of && (beq a.embedded b.embedded && bytes_eq a.tag b.tag)))

  -- the same name and type
  abbrev pub like_method : MethodType → MethodType → Bool
  like_method a b = (a.name.number == b.name.number) && ((a.package == b.package) && R a.of b.of)

  -- whether two terms have the same form, and parts that correspond by R
  abbrev pub like_term : TypeTerm → TypeTerm → Bool
  like_term (Plain a) (Plain b) = sameb basic.the_type a b
  like_term (Declared a) (Declared b) = same_name a b
  like_term (Pointer a) (Pointer b) = R a b
  like_term (Slice a) (Slice b) = R a b
  like_term (Array n a) (Array m b) = (n == m) && R a b
  like_term (Map k a) (Map l b) = R k l && R a b
  like_term (Chan d a) (Chan e b) = sameb dir.the_type d e && R a b
  like_term (Func a) (Func b) = like_signature a b
  like_term (Struct a) (Struct b) = pointwise like_field a b
  like_term (Interface a) (Interface b) = pointwise like_method a b
  like_term (Tuple a) (Tuple b) = pointwise R a b
  like_term (Iter a) (Iter b) = R a b
  like_term _ _ = false

-- whether the terms of two types have the same form, where both are held
abbrev pub alike : (TypeId → TypeId → Bool) → Option TypeTerm → Option TypeTerm → Bool
alike R (Some a) (Some b) = like_term R a b
alike R _ _ = false

-- whether two types are identical by at most n steps into their parts
abbrev pub identical_to : ℕ → Table → TypeId → TypeId → Bool
identical_to zero types a b = same_id a b
identical_to (suc n) types a b = same_id a b || alike (identical_to n types) (term_at types a) (term_at types b)

abbrev pub Identical : Table → TypeId → TypeId → Type 0
Identical types a b = (n : ℕ) × IsTrue (identical_to n types a b)
