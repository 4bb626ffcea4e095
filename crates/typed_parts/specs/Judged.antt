-- What a rule comes to: what it makes of sound parts, and the rules that are broken, each at its place.
use Rattle.std.specs.Prelude.{◌≡◌, Bool, true, false, List, [], ◌∷◌, ◌++◌, map, Option, Some, None, Result, Ok, Err}
use Rattle.go_base.specs.declared.place.Pos.{Pos}
use Rattle.go_base.specs.declared.rule.Rule.{Rule}
use Rattle.go_faults.specs.declared.fault.Fault.{Fault}
use Rattle.go_faults.specs.Faults.{least_with}
use Rattle.typed_parts.specs.declared.ground.Ground.{Ground}

-- a rule that is broken at a place
pub record Broken : Type 0 where
  pub at : Pos
  pub rule : Rule

-- None is what stands on something unsound
pub record Judged (A : Type 0) : Type 0 where
  pub sound : Option A
  pub broken : List Broken

abbrev pub fine : {A : Type 0} → A → Judged A
fine x = record { sound = Some x; broken = [] }

abbrev pub unsound : {A : Type 0} → Judged A
unsound = record { sound = None; broken = [] }

abbrev pub breaks : {A : Type 0} → Pos → Rule → Judged A
breaks at rule = record { sound = None; broken = record { at = at; rule = rule } ∷ [] }

abbrev pub judged : {A B : Type 0} → Option A → (A → Judged B) → Judged B
judged None rule = unsound
judged (Some x) rule = rule x

-- what a second rule says of what a first one makes
abbrev pub and_then : {A B : Type 0} → Judged A → (A → Judged B) → Judged B
and_then first rule = record {
  sound = (judged first.sound rule).sound;
  broken = first.broken ++ (judged first.sound rule).broken;
}

-- broken rules are faults of the phase and the package of the ground
abbrev pub fault_in : Ground → Broken → Fault
fault_in base b = record { phase = base.phase; «package» = base.«package»; pos = b.at; rule = b.rule }

-- the ground after rules were found broken: the least of all faults is kept, and all else stays
abbrev pub reported : Ground → List Broken → Ground
reported base broken =
    record base { least = record { fault = least_with base.least.fault (map (fault_in base) broken) } }

-- the answer is what a rule makes, and what it breaks was reported
pub record Outcome {A : Type 0} (old new : Ground) (answer : Option A) (Is : Judged A → Type 0) : Type 0 where
  pub judged : Judged A
  pub is : Is judged
  pub answers : answer ≡ judged.sound
  pub reports : new ≡ reported old judged.broken

-- the same, unless memory ran out
abbrev pub Comes : {A E : Type 0} → Ground → Ground → Result (Option A) E → (Judged A → Type 0) → Type 0
Comes old new (Ok answer) Is = Outcome old new answer Is
Comes old new (Err error) Is = Unit {0}

-- ---- rules that are relations

-- a rule that is a function
abbrev pub Exactly : {A : Type 0} → Judged A → Judged A → Type 0
Exactly one other = other ≡ one

-- what comes of what a first rule made, where it made something
abbrev pub IsRest : {A B : Type 0} → Option A → (A → Judged B → Type 0) → Judged B → Type 0
IsRest None Is rest = rest ≡ unsound
IsRest (Some x) Is rest = Is x rest

-- what a second rule says of what a first one makes
pub record IsThen {A B : Type 0} (First : Judged A → Type 0) (Rest : A → Judged B → Type 0)
    (result : Judged B) : Type 0 where
  pub first : Judged A
  pub rest : Judged B
  pub is : First first
  pub goes_on : IsRest first.sound Rest rest
  pub whole : result ≡ record { sound = rest.sound; broken = first.broken ++ rest.broken }

-- what a rule makes where something holds
abbrev pub IsWhere : {A : Type 0} → Bool → (Judged A → Type 0) → Judged A → Type 0
IsWhere true Is result = Is result
IsWhere false Is result = result ≡ unsound

-- what breaks no rule
abbrev pub IsFine : {A : Type 0} → (A → Type 0) → Judged A → Type 0
IsFine {A} Is result = (made : A) × (Is made × (result ≡ fine made))
