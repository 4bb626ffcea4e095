use Rattle.std.proofs.Common.{false}
use Rattle.go_sources.specs.Sources.{files_of}
use Rattle.program_work.specs.Working.{IsWork}
use Rattle.program_work.proofs.Written.{does_stop, nothing_yet}
use Rattle.program_work.proofs.work.print_and_work.Goals as goal

pub returns-in_err-edges-clause-does : goal.returns-in_err-edges-clause-does
returns-in_err-edges-clause-does g c =
    does_stop (λ whole. IsWork whole c.args.command.now (files_of c.args.sources.now) c.args.program.now) c.from_residual-in_err-edges.result _ _ c.from_residual-in_err-edges.ensures.0 (nothing_yet (IsWork false c.args.command.now (files_of c.args.sources.now) c.args.program.now) (g.O.Sink.written c.args.out.now))
