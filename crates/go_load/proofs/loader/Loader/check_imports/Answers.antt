use Rattle.std.proofs.Common.{rules, ◌<◌, ◌∙◌, length, subst}
use Rattle.import_graph.specs.Cycles.{IsFirstOnCycle}
use Rattle.go_load.proofs.ImportChecks.{cycle_refused_at, imports_sound, in_links, program_refused}
use Rattle.go_load.proofs.loader.Loader.check_imports.Goals as goal

pub returns-in-Some-clause-why : goal.returns-in-Some-clause-why
returns-in-Some-clause-why c = λ files. c.refuse.ensures.why files (λ place. tt)

pub returns-in-Some-clause-exact : goal.returns-in-Some-clause-exact
returns-in-Some-clause-exact c =
    program_refused c.args.self.now c.as_slice-links.result.now c.as_slice.result.now c.in-Some.link c.refuse.result c.as_slice-links.ensures.value c.as_slice.ensures.value c.in-Some.ensures c.refuse.ensures.here

pub bounds-links-index : goal.bounds-links-index
bounds-links-index c =
    in_links c.as_slice-links.result.now c.as_slice-2.result.now c.in-Some-2.index (c.as_slice-2.ensures.value ∙ c.in_ok-edges.ensures) (subst (IsFirstOnCycle c.as_slice-2.result.now) c.in-Some-2.is c.in_ok-index.ensures)

pub offset_bounds-links-index : goal.offset_bounds-links-index
offset_bounds-links-index c =
    let within : c.in-Some-2.index < length c.as_slice-links.result.now = bounds-links-index c in
    search rules

pub returns-in-Some-2-clause-why : goal.returns-in-Some-2-clause-why
returns-in-Some-2-clause-why c = λ files. c.refuse-in-Some-2.ensures.why files (λ place. tt)

pub returns-in-Some-2-clause-exact : goal.returns-in-Some-2-clause-exact
returns-in-Some-2-clause-exact c =
    cycle_refused_at c.args.self.now c.as_slice-links.result.now c.as_slice.result.now c.as_slice-2.result.now c.in-Some-2.index c.refuse-in-Some-2.result c.as_slice-links.ensures.value c.as_slice.ensures.value c.in_default.ensures (c.as_slice-2.ensures.value ∙ c.in_ok-edges.ensures)
    (subst (IsFirstOnCycle c.as_slice-2.result.now) c.in-Some-2.is c.in_ok-index.ensures) c.refuse-in-Some-2.ensures.here

pub returns-clause-exact : goal.returns-clause-exact
returns-clause-exact c =
    imports_sound c.args.self.now c.as_slice-links.result.now c.as_slice.result.now c.as_slice-2.result.now c.as_slice-links.ensures.value c.as_slice.ensures.value c.in_default.ensures (c.as_slice-2.ensures.value ∙ c.in_ok-edges.ensures)
    (subst (IsFirstOnCycle c.as_slice-2.result.now) c.in-None.is c.in_ok-index.ensures)
