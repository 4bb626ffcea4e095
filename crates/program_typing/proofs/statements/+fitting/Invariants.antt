use Rattle.std.proofs.Common.{◌≡◌, drop}
use Rattle.expr_typing.specs.Telling.{Told, at_tests}
use Rattle.program_typing.specs.Placing.{within_of}
use Rattle.program_typing.specs.Walk.{fit_in_turn, arms_fit, fall_in_turn, type_bodies_fit, select_bodies_fit}
use Rattle.program_typing.proofs.statements.+fitting.Given as goal

abbrev pub invariant-fit_in_turn-loop-index : goal.invariant-fit_in_turn-loop-index
invariant-fit_in_turn-loop-index l =
    (told : Told l.around.program.now.types) → fit_in_turn (at_tests l.around told.tests) (drop l.index l.statements) (within_of l.within) ≡ fit_in_turn (at_tests l.around told.tests) l.statements (within_of l.within)

abbrev pub invariant-arms_fit-loop-arm : goal.invariant-arms_fit-loop-arm
invariant-arms_fit-loop-arm l =
    (told : Told l.around.program.now.types) → arms_fit (at_tests l.around told.tests) (drop l.arm-index l.arms) (within_of l.within) ≡ arms_fit (at_tests l.around told.tests) l.arms (within_of l.within)

abbrev pub invariant-fall_in_turn-loop-index : goal.invariant-fall_in_turn-loop-index
invariant-fall_in_turn-loop-index l =
    (told : Told l.around.program.now.types) → fall_in_turn (at_tests l.around told.tests) (drop l.index l.clauses) (within_of l.within) ≡ fall_in_turn (at_tests l.around told.tests) l.clauses (within_of l.within)

abbrev pub invariant-type_bodies_fit-loop-clause : goal.invariant-type_bodies_fit-loop-clause
invariant-type_bodies_fit-loop-clause l =
    (told : Told l.around.program.now.types) → type_bodies_fit (at_tests l.around told.tests) (drop l.clause-index l.clauses) (within_of l.within) ≡ type_bodies_fit (at_tests l.around told.tests) l.clauses (within_of l.within)

abbrev pub invariant-select_bodies_fit-loop-clause : goal.invariant-select_bodies_fit-loop-clause
invariant-select_bodies_fit-loop-clause l =
    (told : Told l.around.program.now.types) → select_bodies_fit (at_tests l.around told.tests) (drop l.clause-index l.clauses) (within_of l.within) ≡ select_bodies_fit (at_tests l.around told.tests) l.clauses (within_of l.within)
