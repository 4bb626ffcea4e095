use Rattle.std.proofs.Common.{ap, sym, refl}
use Rattle.go_type.specs.declared.term.TypeTerm.TheVariants.{Interface}
use Rattle.go_type.proofs.Predeclared.{predeclared_is, predeclared_held}
use Rattle.go_type.proofs.types.Types.new.Goals as goal

pub invariant_of-result : goal.invariant_of-result
invariant_of-result c =
    predeclared_held c.args.error c.args.method _
    (predeclared_is c.args.error c.args.method c.in_ok-terms.terms.keys c.insert.new.self.keys c.insert-2.new.self.keys c.insert-3.new.self.keys _ _ _ _ _
    c.in_ok-terms.ensures c.in_ok-text_of_nothing.ensures c.in_ok-insert.ensures.keys (ap Interface c.in_ok-one_method.ensures) c.in_ok-insert-2.ensures.keys refl c.in_ok-insert-3.ensures.keys
    (ap (λ s. s.keys) c.terms-2.view_is) c.in_ok-first_definitions.ensures)

pub returns : goal.returns
returns c =
    predeclared_is c.args.error c.args.method c.in_ok-terms.terms.keys c.insert.new.self.keys c.insert-2.new.self.keys c.insert-3.new.self.keys _ _ _ _ _
    c.in_ok-terms.ensures c.in_ok-text_of_nothing.ensures c.in_ok-insert.ensures.keys (ap Interface c.in_ok-one_method.ensures) c.in_ok-insert-2.ensures.keys refl c.in_ok-insert-3.ensures.keys
    (ap (λ s. s.keys) c.terms-2.view_is) c.in_ok-first_definitions.ensures
