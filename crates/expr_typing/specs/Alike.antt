-- Fields that are alike but for their tags. Go specification, "Conversions".
use Rattle.std.specs.Prelude.{Bool, ◌==◌, ◌&&◌}
use Rattle.std.specs.Bool.{beq}
use Rattle.go_base.specs.declared.ids.TypeId.{TypeId}
use Rattle.go_type.specs.declared.term.Field.{Field}

-- the same name and type, and both embedded or neither
abbrev pub like_bare_field : (TypeId → TypeId → Bool) → Field → Field → Bool
like_bare_field R a b =
    (a.name.number == b.name.number) && ((a.package == b.package) && (R a.of b.of && beq a.embedded b.embedded))
