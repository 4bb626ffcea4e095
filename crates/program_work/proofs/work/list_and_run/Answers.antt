use Rattle.go_sources.specs.Sources.{files_of}
use Rattle.program_work.specs.Working.{IsWork}
use Rattle.program_work.proofs.Working.{listing_stops, run_finishes, run_stops}
use Rattle.program_work.proofs.Written.{does_stop}
use Rattle.program_work.proofs.work.list_and_run.Goals as goal

pub returns-in_err-list_graph-clause-does : goal.returns-in_err-list_graph-clause-does
returns-in_err-list_graph-clause-does g c =
    does_stop (λ whole. IsWork whole c.args.command.now (files_of c.args.sources.now) c.args.program.now) c.from_residual-in_err-list_graph.result _ _ c.from_residual-in_err-list_graph.ensures.0 (listing_stops c.args.command.now (files_of c.args.sources.now) c.args.program.now _ _ c.requires.no_code c.requires.run c.in_err-list_graph.ensures.front)

pub returns-in_err-ending-clause-does : goal.returns-in_err-ending-clause-does
returns-in_err-ending-clause-does g c =
    does_stop (λ whole. IsWork whole c.args.command.now (files_of c.args.sources.now) c.args.program.now) c.from_residual-in_err-ending.result _ _ c.from_residual-in_err-ending.ensures.0 (run_stops c.args.command.now (files_of c.args.sources.now) c.args.program.now c.in_err-ending.ensures.written.output _ _ _ c.requires.no_code c.requires.run c.in_ok-list_graph.ensures.lists c.in_err-ending.ensures.written.appends)

pub returns-clause-does : goal.returns-clause-does
returns-clause-does g c =
    run_finishes c.args.command.now (files_of c.args.sources.now) c.args.program.now _ _ _ _ _ c.requires.no_code c.in_ok-code.ensures.sound c.requires.run c.in_ok-list_graph.ensures.lists c.in_ok-ending.ensures.ran
