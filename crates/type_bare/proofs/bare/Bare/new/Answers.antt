use Rattle.std.proofs.Common.{sym, subst, List}
use Rattle.go_base.specs.declared.ids.TypeId.{TypeId}
use Rattle.type_bare.specs.Stripped.{AreBare}
use Rattle.type_bare.proofs.Known.{none_bare}
use Rattle.type_bare.proofs.bare.Bare.new.Goals as goal

pub returns-clause-known : goal.returns-clause-known
returns-clause-known c = λ types. subst (λ (bares : List TypeId). AreBare bares types) (sym c.new.ensures.items) (none_bare types)
