-- Settled frames as frames of which the top one may be anywhere.
use Rattle.std.proofs.Common.{List, [], ◌∷◌, Option}
use Rattle.std.proofs.lemmas.Option.{none-some}
use Rattle.go_store.specs.Stores.{Stored}
use Rattle.go_value.specs.Values.{Val}
use Rattle.plan_laws.proofs.Acting.{IsSettled}
use Rattle.plan_laws.proofs.Alike.{Known, IsMachine, AreFrames, AreBelow, ArePendingIn, placed}
use Rattle.plan_mean.specs.State as plans
use Rattle.ssa_mean.specs.State as codes

pub as_frames : (k : Known) (frames : List codes.Frame) (rows : List (List (Option Val))) (others : List plans.Frame)
    → AreBelow k frames rows others → AreFrames k [] frames rows others
as_frames k [] rows [] alike = tt
as_frames k [] rows (planned ∷ others) alike = absurd alike
as_frames k (frame ∷ below) rows [] alike = absurd alike
as_frames k (frame ∷ below) rows (planned ∷ others) alike = (
  record {
    function = alike.0.function;
    is = alike.0.is;
    top = placed alike.0.placed;
    result = alike.0.result;
  },
  alike.1,
)

pub held_nothing : (k : Known) (frames : List codes.Frame) (store : Stored) → ArePendingIn k store [] frames
held_nothing k [] store = tt
held_nothing k (frame ∷ below) store = (λ register cell late. absurd (none-some cell late), tt)

pub settled_machine : (k : Known) (m : codes.Machine) (q : plans.Machine) → IsSettled k m q → IsMachine k [] m q
settled_machine k m q is =
    record {
      around = is.around;
      g = is.g;
      there = is.there;
      is = record {
        frames = as_frames k is.g.frames q.current.slots q.current.frames is.frames;
        begin = is.begin;
        fault = is.fault;
        sources = is.sources;
      };
      held = held_nothing k is.g.frames m.store;
    }
