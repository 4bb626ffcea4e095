-- What the check of a program that was loaded comes to.
use Rattle.std.specs.Prelude.{◌≡◌, ℕ, ◌≤◌, List, ◌⊎◌}
use Rattle.go_base.specs.declared.place.Place.{Place}
use Rattle.go_base.specs.declared.place.Pos.{Pos}
use Rattle.go_base.specs.declared.rule.Rule.{Rule}
use Rattle.go_base.specs.Rules.{row_of}
use Rattle.go_sources.specs.declared.sources.SourceFile.{SourceFile}
use Rattle.go_sources.specs.Loaded.{IsWithin, Locates}
use Rattle.program_work.specs.declared.outcome.Outcome.{Outcome}
use Rattle.program_work.specs.declared.outcome.Outcome.TheVariants as outcomes

-- the row of a rule that programs are checked for once they are loaded, from N1 to O3: of names and types, constants,
-- expressions and statements, bodies, or the whole program
abbrev pub IsCheckedRow : ℕ → Type 0
IsCheckedRow row = (18 ≤ row) × (row ≤ 69)

-- such a rule is broken at a place in these files
pub record IsBrokenAt (files : List SourceFile) (place : Place) (rule : Rule) : Type 0 where
  pub pos : Pos
  pub within : IsWithin files pos
  pub locates : Locates files pos place
  pub checked : IsCheckedRow (row_of rule)

-- the outcome names a rule that is broken so
pub record IsBroken (files : List SourceFile) (outcome : Outcome) : Type 0 where
  pub place : Place
  pub rule : Rule
  pub broken : IsBrokenAt files place rule
  pub outcome_is : outcome ≡ outcomes.Refused place rule

-- a rule is broken at a place; or memory is wanted, or what was named is no such rule and place
abbrev pub IsRefusal : List SourceFile → Outcome → Type 0
IsRefusal files outcome =
    IsBroken files outcome ⊎ ((outcome ≡ outcomes.OutOfMemory) ⊎ (outcome ≡ outcomes.InternalError))
