use Rattle.std.proofs.Common.{sym, subst}
use Rattle.std.specs.Prelude.{IsTrue, ◌↔◌}
use Rattle.go_text.specs.Naming.{Naming}
use Rattle.go_type.specs.Assignable.{Implements}
use Rattle.interp_state.proofs.Asking.{asked_more, tells_one}
use Rattle.interp_state.proofs.machine.Machine.implements.Goals as goal

pub returns-clause-asked : goal.returns-clause-asked
returns-clause-asked c =
    λ w within. asked_more w.answers.implements c.args.self.now.implemented c.insert.new.self
    (record { of = c.args.of; interface = c.args.interface }) c.implements-answer.result within.asked
    (tells_one c.implements-answer.result (w.answers.implements c.args.of c.args.interface) c.implements-answer.ensures
    (subst (λ (n : Naming). IsTrue (w.answers.implements c.args.of c.args.interface) ↔ Implements n.types c.args.of c.args.interface)
    (sym within.naming) (within.answers.implements c.args.of c.args.interface)))
    c.in_ok-insert.ensures.updates.0
