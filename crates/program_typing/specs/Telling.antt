-- What is told of nodes, by whichever tests tell what is true of the types of the program.
use Rattle.std.specs.Prelude.{◌≡◌, Bool, Result, IfOk}
use Rattle.go_base.specs.declared.memory.NoMemory.{NoMemory}
use Rattle.expr_typing.specs.declared.around.Around.{Around as Place}
use Rattle.expr_typing.specs.Telling.{Told, at_tests}
use Rattle.typed_trees.specs.Around.{Around}

-- a value is what is given around the place, whichever tests are told
abbrev pub Gives : {A : Type 0} → Place → A → (Around → A) → Type 0
Gives place value given =
    (told : Told place.program.now.types) → value ≡ given (at_tests place told.tests)

-- where memory is found
abbrev pub Tells : Place → Result Bool NoMemory → (Around → Bool) → Type 0
Tells place result holds =
    (told : Told place.program.now.types) → IfOk result (λ r. r ≡ holds (at_tests place told.tests))
