-- What a command asks of a program that was loaded.
use Rattle.std.specs.Prelude.{Bool, not, false, ◌||◌, Option, Some, None, is_some}
use Rattle.command_line.specs.declared.command.Letters.{Letters}
use Rattle.command_line.specs.declared.command.LoadCommand.{LoadCommand}

-- a run or a call graph, which begin at `main`
abbrev pub needs_main : LoadCommand → Bool
needs_main command = command.run || is_some command.callgraph

-- whether letters ask for code in which variables need no cell
abbrev pub lack_naive : Option Letters → Bool
lack_naive None = false
lack_naive (Some letters) = not letters.naive

-- such code is asked, which is not built yet
abbrev pub wants_registers : LoadCommand → Bool
wants_registers command = lack_naive command.build
