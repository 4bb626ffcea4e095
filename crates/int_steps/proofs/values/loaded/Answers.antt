use Rattle.std.proofs.Common.{◌∙◌, Err, ap, rules, subst, sym}
use Rattle.std.specs.Int.{w128}
use Rattle.std.specs.Int.RustNames.{FitsSigned}
use Rattle.std.proofs.lemmas.Int.{to_z-of_z}
use Rattle.go_store.specs.Stores.{stored}
use Rattle.go_value.specs.Values.{number, value_of}
use Rattle.go_value.specs.declared.faults.ValueError.{ValueError}
use Rattle.int_steps.proofs.Held.{found_loaded, nil_loaded}
use Rattle.int_steps.specs.Steps.{GivesAs, int_loaded}
use Rattle.ssa_mean.specs.Comes.{of_option, then_to, to}
use Rattle.int_steps.proofs.values.loaded.Goals as goal

pub returns-then-is_nil : goal.returns-then-is_nil
returns-then-is_nil c =
    nil_loaded (stored c.args.store.now) c.args.at.now c.is_nil.result c.is_nil.ensures c.if-is_nil.true

pub returns-in-Some : goal.returns-in-Some
returns-in-Some c =
    let fits : FitsSigned w128 c.in-Some.number = search rules in
    found_loaded (stored c.args.store.now) c.args.at.now c.is_nil.result c.int_at.result c.is_nil.ensures
    c.if-is_nil.false c.int_at.ensures
    ∙ ap (λ found. then_to number (of_option found)) c.in-Some.is
    ∙ ap to (sym (ap number (to_z-of_z w128 c.in-Some.number fits)))

pub returns-in-None : goal.returns-in-None
returns-in-None c =
    subst (λ (e : ValueError). GivesAs value_of (Err e) (int_loaded (stored c.args.store.now) c.args.at.now))
    (sym c.lost.ensures)
    (found_loaded (stored c.args.store.now) c.args.at.now c.is_nil.result c.int_at.result c.is_nil.ensures
    c.if-is_nil.false c.int_at.ensures
    ∙ ap (λ found. then_to number (of_option found)) c.in-None.is)
