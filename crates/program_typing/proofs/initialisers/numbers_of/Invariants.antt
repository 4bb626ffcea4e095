use Rattle.std.proofs.Common.{◌≡◌, ℕ, drop, nat_eq}
use Rattle.std.specs.HashMap.{get}
use Rattle.go_tree.specs.declared.program.Program.{Program}
use Rattle.typed_trees.specs.Programs.{initialiser_from}
use Rattle.typed_trees.specs.Tests.{Tests}
use Rattle.program_typing.specs.Initialisers.{function_or}
use Rattle.program_typing.proofs.initialisers.numbers_of.Given as goal

abbrev pub invariant-loop-number : goal.invariant-loop-number
invariant-loop-number l =
    (p : Program) (tests : Tests) (of : ℕ) → function_or (get nat_eq l.numbers of) (initialiser_from p tests l.number of (drop l.number l.functions)) ≡ initialiser_from p tests 0 of l.functions
