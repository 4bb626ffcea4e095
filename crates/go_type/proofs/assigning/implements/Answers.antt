use Rattle.std.proofs.Common.{◌≡◌, Bool, List, Option, Some, IsTrue, ◌↔◌, sym, ap, subst, ◌∙◌}
use Rattle.std.specs.List.{All}
use Rattle.go_base.specs.declared.ids.TypeId.{TypeId}
use Rattle.go_type.specs.declared.term.MethodType.{MethodType}
use Rattle.go_type.specs.declared.term.TypeTerm.{TypeTerm}
use Rattle.go_type.specs.declared.term.TypeTerm.TheVariants.{Interface}
use Rattle.go_type.specs.Assignable.{HasMethodOf, HasMethodsOf, Implements, underlying_term_of}
use Rattle.go_type.specs.Table.{Table}
use Rattle.go_type.proofs.assigning.implements.Goals as goal

has_all : (types : Table) (a interface : TypeId) (methods slice : List MethodType) (r : Bool) → Some (Interface methods) ≡ underlying_term_of types interface → slice ≡ methods
    → IsTrue r ↔ All (HasMethodOf types a) slice → IsTrue r ↔ Implements types a interface
has_all types a interface methods slice r term is h =
    subst (λ (t : Option TypeTerm). IsTrue r ↔ HasMethodsOf types a t) term (subst (λ (l : List MethodType). IsTrue r ↔ All (HasMethodOf types a) l) is h)

pub returns-in-Some-Interface : goal.returns-in-Some-Interface
returns-in-Some-Interface c =
    has_all c.args.types.now c.args.a c.args.interface c.in-Some-Interface.methods c.as_slice.result.now c.has_methods.result
    (sym (ap Some c.in-Some-Interface.field-0-is) ∙ c.in-Some-Interface.ensures.term) c.as_slice.ensures c.has_methods.ensures
