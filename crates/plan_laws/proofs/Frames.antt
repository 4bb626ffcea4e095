-- Frames that move: they stand elsewhere, are about something else, or have other calls that were put off.
use Rattle.std.proofs.Common.{◌≡◌, ℕ, List, Option}
use Rattle.std.specs.Prelude.{reverse}
use Rattle.std.specs.List.{AllZip}
use Rattle.code_plan.specs.Registers.{Pending}
use Rattle.code_plan.specs.declared.steps.Step.{Step}
use Rattle.go_value.specs.Values.{Val}
use Rattle.plan_laws.proofs.Alike.{Known, IsFrame, IsPlaced, standing, on_way, IsLater, Recovers, shown_state}
use Rattle.plan_mean.specs.State as plans
use Rattle.ssa_ir.specs.declared.code.Function.{Function}
use Rattle.ssa_mean.specs.State as codes
use Rattle.ssa_mean.specs.State.{FrameState}

abbrev pub moved : codes.Frame → ℕ → ℕ → FrameState → List codes.Later → codes.Frame
moved frame block place state defers =
    record frame { block = block; place = place; state = state; defers = defers }

abbrev pub planned_moved : plans.Frame → ℕ → List Step → ℕ → FrameState → List plans.Later → plans.Frame
planned_moved frame block steps step state defers =
    record frame { block = block; steps = steps; step = step; state = state; defers = defers }

pub frame_moved : (k : Known) (function : Function) (frame : codes.Frame) (row : List (Option Val)) (planned : plans.Frame)
    → IsFrame k function frame row planned → (block place : ℕ) (state : FrameState) (defers : List codes.Later)
    → (block' : ℕ) (steps : List Step) (step : ℕ) (state' : FrameState) (defers' : List plans.Later)
    → state' ≡ shown_state state → AllZip IsLater defers (reverse defers') → Recovers defers function
    → IsFrame k function (moved frame block place state defers) row
    (planned_moved planned block' steps step state' defers')
frame_moved k function frame row planned is block place state defers block' steps step state' defers' same alike recovers =
    record {
      there = is.there;
      planned_there = is.planned_there;
      slots = record {
        parameters = is.slots.parameters;
        frees = is.slots.frees;
        registers = is.slots.registers;
        count = is.slots.count;
        parameter = is.slots.parameter;
        free = is.slots.free;
        register = is.slots.register;
      };
      cells = is.cells;
      deferred = is.deferred;
      state = same;
      chain = is.chain;
      passed = is.passed;
      defers = alike;
      recovers = recovers;
    }

-- a frame stands where it stood, whatever it is about
pub placed_as : (k : Known) (function : Function) (frame : codes.Frame) (planned : plans.Frame) {pending : Pending}
    → IsPlaced k function pending frame planned → (state : FrameState) (defers : List codes.Later) (state' : FrameState)
    → (defers' : List plans.Later)
    → IsPlaced k function pending (record frame { state = state; defers = defers })
    (record planned { state = state'; defers = defers' })
placed_as k function frame planned (standing pending f p at) state defers state' defers' =
    standing pending _ _ (record {
      same = at.same;
      block = at.block;
      is = at.is;
      steps = at.steps;
      last = at.last;
      goes = at.goes;
    })
placed_as k function frame planned (on_way f p way) state defers state' defers' =
    on_way _ _ (record {
      first = way.first;
      number = way.number;
      next = way.next;
      phis = way.phis;
      leads = way.leads;
      block = way.block;
      is = way.is;
      steps = way.steps;
      begin = way.begin;
    })
