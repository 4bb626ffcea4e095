use Rattle.std.proofs.Common.{List, Option, subst}
use Rattle.cg_sets.specs.declared.edges.Edge.{Edge}
use Rattle.go_sources.specs.Sources.{files_of}
use Rattle.program_work.specs.Graphs.{AreAsked}
use Rattle.program_work.proofs.Listings.{edges_front, edges_list, none_listed}
use Rattle.program_work.proofs.graphs.list_asked.Goals as goal

pub returns-in-Some-clause-lists : goal.returns-in-Some-clause-lists
returns-in-Some-clause-lists g c = λ graph are.
    edges_list (files_of c.args.sources.now) c.args.program.now graph _ c.list_edges.result _ _ (subst (λ (edges : Option (List Edge)). AreAsked graph c.args.program.now edges) c.in-Some.is are) c.list_edges.ensures.lists

pub returns-in-Some-clause-front : goal.returns-in-Some-clause-front
returns-in-Some-clause-front g c = λ graph are.
    edges_front (files_of c.args.sources.now) c.args.program.now graph _ c.list_edges.result _ _ (subst (λ (edges : Option (List Edge)). AreAsked graph c.args.program.now edges) c.in-Some.is are) c.list_edges.ensures.front

pub returns-in-None-clause-lists : goal.returns-in-None-clause-lists
returns-in-None-clause-lists g c = λ graph are.
    none_listed (files_of c.args.sources.now) c.args.program.now graph _ (subst (λ (edges : Option (List Edge)). AreAsked graph c.args.program.now edges) c.in-None.is are)
