-- Places in files, and what is said of them.
use Rattle.std.specs.Prelude.{◌≡◌, ℕ, ◌≤◌, List, [], length, Option, Some, None, Vec, min}
use Rattle.std.specs.declared.alloc.Global.{Global}
use Rattle.go_base.specs.declared.line.TheConstants.{MAX_FILE_BYTES}
use Rattle.go_base.specs.declared.place.Place.{Place}
use Rattle.go_base.specs.declared.rule.Rule.{Rule}
use Rattle.go_ast.specs.declared.token.Token.{Token}
use Rattle.go_sources.specs.Places.{place_in}
use Rattle.go_finding.specs.declared.error.LoadError.{LoadError}
use Rattle.go_finding.specs.declared.error.LoadError.TheVariants.{Refused, ReadFault, OutOfMemory}

-- the first byte of the file at a path, whatever it holds
abbrev pub first_place : List ℕ → Place
first_place path = place_in path [] 0

-- where a token begins; the end of the file where there is none
abbrev pub start_in : List ℕ → Option Token → ℕ
start_in bytes None = length bytes
start_in bytes (Some token) = min token.start (length bytes)

-- a refusal at this place, by this rule; want of memory is free
abbrev pub Refuses : Place → Rule → LoadError → Type 0
Refuses place rule (Refused at by) = (at ≡ place) × (by ≡ rule)
Refuses place rule ReadFault = ⊥
Refuses place rule OutOfMemory = Unit {0}

-- the bytes of a file that is not too large, if there is one
abbrev pub IsSmall : Option (Vec ℕ Global) → Type 0
IsSmall None = Unit {0}
IsSmall (Some bytes) = length bytes.items ≤ MAX_FILE_BYTES
