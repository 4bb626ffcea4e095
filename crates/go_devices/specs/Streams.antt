-- What is known of a stream of the system.
use Rattle.std.specs.Prelude.{ℕ, List, Option}

pub record StreamState : Type 0 where
  -- the bytes that it holds, where its writer tells them
  pub contents : Option (List ℕ)
  -- the errors so far, counted up to the last value of a count
  pub faults : ℕ
