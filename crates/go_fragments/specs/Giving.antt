-- What a reader gives, beside what its definition reads.
use Rattle.std.specs.Prelude.{◌≡◌, Option, Some, None, Result, Ok, Err}
use Rattle.go_fragments.specs.declared.stop.Stop.{Stop}
use Rattle.go_fragments.specs.declared.stop.Stop.TheVariants as stops

-- a reader stops where its definition reads nothing, or where memory ran out
abbrev pub Fails : {Y : Type 0} → Stop → Option Y → Type 0
Fails stops.Memory read = Unit {0}
Fails stops.Unexpected read = read ≡ None

-- what was returned, seen by view, is what is read, unless memory ran out
abbrev pub Gives : {X Y : Type 0} → (X → Y) → Result X Stop → Option Y → Type 0
Gives view (Ok x) read = read ≡ Some (view x)
Gives view (Err stop) read = Fails stop read

-- what a reader gave that needs no memory, seen by view, is what is read, and nothing where nothing is read
abbrev pub Reads : {X Y : Type 0} → (X → Y) → Option X → Option Y → Type 0
Reads view (Some x) read = read ≡ Some (view x)
Reads view None read = read ≡ None
