use Rattle.go_sources.specs.Sources.{files_of}
use Rattle.program_work.specs.Working.{IsWork}
use Rattle.program_work.proofs.Working.{listed_finishes, listed_stops}
use Rattle.program_work.proofs.Written.{does_stop}
use Rattle.program_work.proofs.work.list_alone.Goals as goal

pub returns-in_err-list_graph-clause-does : goal.returns-in_err-list_graph-clause-does
returns-in_err-list_graph-clause-does g c =
    does_stop (λ whole. IsWork whole c.args.command.now (files_of c.args.sources.now) c.args.program.now) c.from_residual.result _ _ c.from_residual.ensures.0 (listed_stops c.args.command.now (files_of c.args.sources.now) c.args.program.now _ _ c.requires.no_code c.requires.no_run c.in_err-list_graph.ensures.front)

pub returns-clause-does : goal.returns-clause-does
returns-clause-does g c =
    listed_finishes _ c.args.command.now (files_of c.args.sources.now) c.args.program.now _ _ c.requires.no_code c.requires.no_run c.in_ok-list_graph.ensures.lists
