use Rattle.std.proofs.Common.{sym, ap, ◌∙◌, append-nil, ◌++◌}
use Rattle.std.proofs.lemmas.Option.{slice_get_past}
use Rattle.cg_uses.specs.Statements.{uses_in_some, variable_node}
use Rattle.cg_uses.specs.Settings.{setting_of}
use Rattle.cg_nodes.specs.Places.{flow}
use Rattle.cg_uses.proofs.targets.give_result.Goals as goal

pub returns-in-None : goal.returns-in-None
returns-in-None c =
    let s = setting_of c.args.around.now in
    sym (ap (λ o. c.args.out.now.items ++ uses_in_some (λ v. flow c.args.from (variable_node s v)) o) (slice_get_past s.results c.args.index c.in-None.ensures.lookup.3) ∙ append-nil c.args.out.now.items)
