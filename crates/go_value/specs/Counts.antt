-- How many values stand in a value, itself counted: what stands in it counts less.
use Rattle.std.specs.Prelude.{ℕ, ◌+◌}
use Rattle.go_value.specs.Plain.{Val, Parts}
use Rattle.go_value.specs.Plain as vals

abbrev mutual
  pub count : Val → ℕ
  count (vals.parts it) = counts it + 1
  count (vals.dynamic of it) = count it + 1
  count (vals.bound target it) = count it + 1
  count _ = 1

  pub counts : Parts → ℕ
  counts vals.none = 0
  counts (vals.part it blank rest) = count it + counts rest
