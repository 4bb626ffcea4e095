use Rattle.go_sources.specs.Sources.{files_of}
use Rattle.program_work.specs.Working.{IsWork}
use Rattle.program_work.proofs.Working.{printed_finishes, printed_listing_stops, printed_run_finishes, printed_run_stops, printing_stops}
use Rattle.program_work.proofs.Written.{does_stop}
use Rattle.program_work.proofs.work.work_with_code.Goals as goal

pub returns-in_err-print_code-clause-does : goal.returns-in_err-print_code-clause-does
returns-in_err-print_code-clause-does g c =
    does_stop (λ whole. IsWork whole c.args.command.now (files_of c.args.sources.now) c.args.program.now) c.from_residual.result _ _ c.from_residual.ensures.0 (printing_stops c.args.command.now (files_of c.args.sources.now) c.args.program.now c.args.letters c.args.code.now c.args.edges.now _ _ g.O.Sink.written c.requires.built c.requires.asked c.requires.sound c.requires.graph c.in_err-print_code.ensures.front)

pub returns-in_err-list_asked-clause-does : goal.returns-in_err-list_asked-clause-does
returns-in_err-list_asked-clause-does g c =
    does_stop (λ whole. IsWork whole c.args.command.now (files_of c.args.sources.now) c.args.program.now) c.from_residual-in_err-list_asked.result _ _ c.from_residual-in_err-list_asked.ensures.0 (printed_listing_stops c.args.command.now (files_of c.args.sources.now) c.args.program.now c.args.letters c.args.code.now c.args.edges.now _ _ _ c.requires.built c.requires.asked c.requires.sound c.requires.graph c.in_ok-print_code.ensures.written (c.in_err-list_asked.ensures.front c.args.command.now.callgraph c.requires.graph))

pub returns-then-not-command-clause-does : goal.returns-then-not-command-clause-does
returns-then-not-command-clause-does g c =
    printed_finishes _ c.args.command.now (files_of c.args.sources.now) c.args.program.now c.args.letters c.args.code.now _ _ _ c.requires.built c.requires.asked c.requires.sound c.if-not-command.true c.in_ok-print_code.ensures.written (c.in_ok-list_asked.ensures.lists c.args.command.now.callgraph c.requires.graph)

pub returns-in_err-ending-clause-does : goal.returns-in_err-ending-clause-does
returns-in_err-ending-clause-does g c =
    does_stop (λ whole. IsWork whole c.args.command.now (files_of c.args.sources.now) c.args.program.now) c.from_residual-in_err-ending.result _ _ c.from_residual-in_err-ending.ensures.0 (printed_run_stops c.args.command.now (files_of c.args.sources.now) c.args.program.now c.args.letters c.args.code.now c.in_err-ending.ensures.written.output _ _ _ _ c.requires.built c.requires.asked c.requires.sound c.if-not-command.false c.in_ok-print_code.ensures.written (c.in_ok-list_asked.ensures.lists c.args.command.now.callgraph c.requires.graph) c.in_err-ending.ensures.written.appends)

pub returns-clause-does : goal.returns-clause-does
returns-clause-does g c =
    printed_run_finishes c.args.command.now (files_of c.args.sources.now) c.args.program.now c.args.letters c.args.code.now _ _ _ _ _ c.requires.built c.requires.asked c.requires.sound c.if-not-command.false c.in_ok-print_code.ensures.written (c.in_ok-list_asked.ensures.lists c.args.command.now.callgraph c.requires.graph) c.in_ok-ending.ensures.ran
