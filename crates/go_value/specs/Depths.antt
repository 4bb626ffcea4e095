-- How deep values are.
use Rattle.std.specs.Prelude.{ℕ, ◌+◌, ◌-◌, ◌^◌, max, min}
use Rattle.go_value.specs.Plain.{Val, Parts}
use Rattle.go_value.specs.Plain as vals

abbrev mutual
  -- one more than the greatest depth among the parts, the value in the interface and the bound receiver
  pub depth : Val → ℕ
  depth (vals.parts it) = deepest it + 1
  depth (vals.dynamic of it) = depth it + 1
  depth (vals.bound target it) = depth it + 1
  depth _ = 1

  pub deepest : Parts → ℕ
  deepest vals.none = 0
  deepest (vals.part it blank rest) = max (depth it) (deepest rest)

-- as a number of 64 bits
abbrev pub capped : ℕ → ℕ
capped n = min n (2 ^ 64 - 1)
