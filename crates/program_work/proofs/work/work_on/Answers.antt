use Rattle.std.proofs.Common.{Err, ap, sym}
use Rattle.go_sources.specs.Sources.{files_of}
use Rattle.program_work.proofs.Working.{fault_stop, stop_comes, unbuilt_comes, work_faultless, worked_comes}
use Rattle.program_work.proofs.work.work_on.Goals as goal

pub returns-then-wants_registers-clause-comes : goal.returns-then-wants_registers-clause-comes
returns-then-wants_registers-clause-comes g c =
    unbuilt_comes c.args.command.now (files_of c.args.sources.now) c.args.program.now c.first_path.result.now c.not_built.result _ (sym c.if-wants_registers.ensures) c.first_path.ensures c.not_built.ensures

pub returns-in-Ok-clause-comes : goal.returns-in-Ok-clause-comes
returns-in-Ok-clause-comes g c =
    worked_comes c.args.command.now (files_of c.args.sources.now) c.args.program.now c.in-Ok.outcome _ _ c.in-Ok.ensures.does

pub returns-in-Ok-clause-fault : goal.returns-in-Ok-clause-fault
returns-in-Ok-clause-fault g c =
    λ e. absurd (work_faultless _ c.args.command.now (files_of c.args.sources.now) c.args.program.now c.in-Ok.outcome _ _ c.in-Ok.ensures.does e)

pub returns-in-Err-clause-comes : goal.returns-in-Err-clause-comes
returns-in-Err-clause-comes g c =
    stop_comes c.args.command.now (files_of c.args.sources.now) c.args.program.now c.in-Err.stop c.outcome.result _ _ c.outcome.ensures c.in-Err.ensures.does

pub returns-in-Err-clause-fault : goal.returns-in-Err-clause-fault
returns-in-Err-clause-fault g c =
    λ e. c.in-Err.ensures.fault (ap Err (fault_stop c.in-Err.stop c.outcome.result c.outcome.ensures e))
