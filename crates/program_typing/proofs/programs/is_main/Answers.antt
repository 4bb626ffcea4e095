use Rattle.program_typing.proofs.GetsAt.{some_at, none_at}
use Rattle.program_typing.proofs.Numbered.{main_is, main_none}
use Rattle.program_typing.proofs.programs.is_main.Goals as goal

pub returns-in-Some : goal.returns-in-Some
returns-in-Some c = λ tests. main_is c.args.program.now tests c.args.id c.in-Some.decl.now c.is_plain.result c.is_bare.result (some_at c.as_slice.result.now c.args.program.now.functions c.args.id.number c.in-Some.decl.now c.as_slice.ensures c.in-Some.ensures.lookup.3.0 c.in-Some.ensures.lookup.1) c.is_plain.ensures c.is_bare.ensures

pub returns-in-None : goal.returns-in-None
returns-in-None c = λ tests. main_none c.args.program.now tests c.args.id (none_at c.as_slice.result.now c.args.program.now.functions c.args.id.number c.as_slice.ensures c.in-None.ensures.lookup.3)
