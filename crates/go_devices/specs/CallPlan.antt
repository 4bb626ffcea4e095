-- Which calls of a device in memory fail.
use Rattle.std.specs.Prelude.{ℕ, ◌+◌, min, List, Bool, ◌&&◌, ◌==◌, if◌then◌else◌}
use Rattle.std.specs.Bool.{nat_lt}
use Rattle.std.specs.List.{list_any}
use Rattle.go_base.specs.Devices.{last_count}

pub record CallPlan : Type 0 where
  -- the calls made so far, counted up to the last value of a count
  pub calls : ℕ
  -- the numbers, from 1, of the calls that fail
  pub fail : List ℕ
  -- the calls that have failed so far
  pub faults : ℕ

-- whether the next call fails
abbrev pub fails_next : CallPlan → Bool
fails_next plan = nat_lt plan.calls last_count && list_any (λ number. number == plan.calls + 1) plan.fail

-- the plan after one more call
abbrev pub after_call : CallPlan → CallPlan
after_call plan =
    record {
      calls = min (plan.calls + 1) last_count;
      fail = plan.fail;
      faults = plan.faults + (if fails_next plan then 1 else 0);
    }
