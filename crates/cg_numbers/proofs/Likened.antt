-- The types of a program, those without tags and those of pointers among them.
use Rattle.std.proofs.Common.{◌≡◌, ◌≤◌, List, length, subst}
use Rattle.go_base.specs.declared.ids.TypeId.{TypeId}
use Rattle.go_type.specs.Grows.{Grows}
use Rattle.go_type.specs.Table.{Table}
use Rattle.go_type.proofs.Growing.{grows_on}
use Rattle.type_bare.specs.Stripped.{AreBare, KeepsDefinitions}
use Rattle.type_bare.proofs.Known.{bare_stays, definitions_on}
use Rattle.cg_numbers.specs.Numbered.{StandsFor}

pub stands : (given copy mid last : Table) (bares : List TypeId) → copy ≡ given → AreBare bares mid → length copy.terms ≤ length bares → Grows copy mid → KeepsDefinitions copy mid → Grows mid last → KeepsDefinitions mid last → StandsFor given last bares
stands given copy mid last bares e bare all g d h k = record {
  bare = bare_stays bares mid last bare h;
  all = subst (λ (t : Table). length t.terms ≤ length bares) e all;
  grows = subst (λ (t : Table). Grows t last) e (grows_on copy mid last g h);
  definitions = subst (λ (t : Table). KeepsDefinitions t last) e (definitions_on copy mid last d k);
}
