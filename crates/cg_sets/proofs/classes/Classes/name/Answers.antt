use Rattle.std.proofs.Common.{◌≡◌}
use Rattle.cg_sets.specs.contracts.classes.MethodNameEq.TheImpl.Laws as name_laws
use Rattle.cg_sets.specs.contracts.classes.MethodNamePartialEq.TheImpl as same_name
use Rattle.cg_sets.specs.declared.classes.MethodName.{MethodName}
use Rattle.cg_sets.proofs.Keys.{found_some, name_same, none_any, not_found}
use Rattle.cg_sets.proofs.classes.Classes.name.Goals as goal

pub returns-clause-some : goal.returns-clause-some
returns-clause-some c =
    let key : MethodName = record { name = c.args.name; «package» = c.args.«package» } in
    found_some same_name.ghosts.eq name_same c.args.self.now.names.keys key c.get_index_of.result c.get_index_of.ensures.index

pub returns-clause-none : goal.returns-clause-none
returns-clause-none c = λ e.
    let key : MethodName = record { name = c.args.name; «package» = c.args.«package» } in
    not_found same_name.ghosts.eq name_laws.laws-law.refl c.args.self.now.names.keys key (none_any c.get_index_of.result _ c.get_index_of.ensures.found e)
