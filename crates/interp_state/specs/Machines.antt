-- The machine of a run, as the definition of runs of planned code has it: without where things lie in memory, what is
-- on its way, and what was asked before.
use Rattle.std.specs.Prelude.{[], ◌∷◌, List, map, option_map}
use Rattle.go_sched.specs.Goroutines as goroutines
use Rattle.go_store.specs.Stores.{stored}
use Rattle.go_value.specs.Values.{Val, pointer, value_of}
use Rattle.interp_state.specs.Frames.{frames_of}
use Rattle.interp_state.specs.States.{frames_in}
use Rattle.interp_state.specs.declared.frames.Bound.{Bound}
use Rattle.interp_state.specs.declared.frames.Bound.TheVariants as bounds
use Rattle.interp_state.specs.declared.frames.Frame.{Frame}
use Rattle.interp_state.specs.declared.frames.FrameState.{FrameState}
use Rattle.interp_state.specs.declared.frames.FrameState.TheVariants as states
use Rattle.interp_state.specs.declared.frames.Goroutine.{Goroutine}
use Rattle.interp_state.specs.declared.frames.Later.{Later}
use Rattle.interp_state.specs.declared.frames.Ready.{Ready}
use Rattle.interp_state.specs.declared.frames.Ready.TheVariants as called
use Rattle.interp_state.specs.declared.frames.Thrown.{Thrown}
use Rattle.interp_state.specs.declared.frames.Thrown.TheVariants as carried
use Rattle.interp_state.specs.declared.machine.Machine.{Machine}
use Rattle.plan_mean.specs.State as meant
use Rattle.ssa_mean.specs.State as code

-- what a panic carries
abbrev pub thrown_of : Thrown → code.Thrown
thrown_of (carried.Value it) = code.of_value (value_of it)
thrown_of (carried.Fault words) = code.of_text words

abbrev pub frame_state_of : FrameState → code.FrameState
frame_state_of states.Running = code.running
frame_state_of states.Returning = code.returning
frame_state_of (states.Panicking it) = code.panicking (thrown_of it)

-- the values of the free variables of what is called
abbrev pub free_of : Bound → List Val
free_of bounds.Nothing = []
free_of (bounds.Captured it) = map pointer it.items
free_of (bounds.Receiver it) = value_of it ∷ []

abbrev pub called_of : Ready → meant.Called
called_of (called.Function function bound) = meant.of_function function (free_of bound)
called_of (called.Builtin form) = meant.of_built_in form.now
called_of called.Nil = meant.of_nil

abbrev pub later_of : Later → meant.Later
later_of it = record { called = called_of it.ready; arguments = map value_of it.arguments.items; chain = it.chain }

abbrev pub frame_of : Frame → meant.Frame
frame_of it =
    record {
      function = it.function.now;
      block = it.block;
      steps = it.steps.now;
      step = it.step;
      deferred = it.deferred;
      state = frame_state_of it.state;
      defers = map later_of it.defers.items;
      result = it.to;
      chain = it.chain;
    }

abbrev pub goroutine_of : Goroutine → meant.Goroutine
goroutine_of g =
    record {
      frames = map frame_of (frames_in g);
      slots = frames_of g.stack;
      sources = g.sources;
      begin = option_map later_of g.begin;
      fault = g.fault;
    }

abbrev pub machine_of : Machine → meant.Machine
machine_of m =
    record {
      others = map goroutine_of m.goroutines.items;
      current = goroutine_of m.current;
      started = m.started;
      store = stored m.store;
      sched = goroutines.state_of m.sched;
      ticks = m.ticks;
      output = m.output.items;
    }
