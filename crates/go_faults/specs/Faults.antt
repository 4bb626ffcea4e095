-- The order of faults, and the least of several.
use Rattle.std.specs.Prelude.{◌≡◌, ℕ, Bool, false, ◌||◌, ◌&&◌, nat_lt, nat_eq, List, [], ◌∷◌, All, Contains, Option}
use Rattle.std.specs.Prelude.{Some, None, if◌then◌else◌}
use Rattle.go_base.specs.Rules.{row_of}
use Rattle.go_faults.specs.declared.fault.Fault.{Fault}

-- whether a number is less than another, or the same and what is asked next holds
abbrev pub in_order : ℕ → ℕ → Bool → Bool
in_order one other next = nat_lt one other || (nat_eq one other && next)

-- faults come by phase, then by package, by file, by offset, and by the row of the rule
unfoldable pub comes_before : Fault → Fault → Bool
comes_before f g =
    in_order f.phase g.phase
    (in_order f.package g.package
    (in_order f.pos.file g.pos.file (in_order f.pos.offset g.pos.offset (nat_lt (row_of f.rule) (row_of g.rule)))))

-- the lesser of a fault, where there is one, and another
unfoldable pub lesser : Option Fault → Fault → Fault
lesser None g = g
lesser (Some f) g = if comes_before g f then g else f

-- the least of a fault, where there is one, and all of a list
abbrev pub least_with : Option Fault → List Fault → Option Fault
least_with least [] = least
least_with least (f ∷ fs) = least_with (Some (lesser least f)) fs

-- it is one of the faults, and none of them comes before it
pub record IsLeast (fault : Fault) (faults : List Fault) : Type 0 where
  pub found : Contains faults fault
  pub least : All (λ other. comes_before other fault ≡ false) faults
