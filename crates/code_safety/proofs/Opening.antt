-- Machines around the goroutine that runs.
use Rattle.std.proofs.Common.{◌≡◌, ⊎_elim, ◌<◌, arith, ℕ, List, [], ◌∷◌, ◌++◌, length, length-append, Option, Some, None, sym, subst, ap, ◌∙◌, slice_get, slice_set}
use Rattle.code_safety.proofs.Growing.{goroutine_grows, sched_grows}
use Rattle.code_safety.proofs.Lists.{get_set, get_set_other, length_set, get_front, get_either, get_below, some_same}
use Rattle.code_safety.proofs.Machines.{OpenFits, MachineFits, GoroutineFits, AreFrames, LaterFitsWhere, GoOn, SchedFits, ChannelFits, HasVariables, StartFits, WaitsAt, IsIn}
use Rattle.code_safety.proofs.Members.{same_or_other, in_left, in_split}
use Rattle.code_safety.proofs.Values.{Typing, Grows, one, IsStore}
use Rattle.go_base.specs.declared.ids.FuncId.{FuncId}
use Rattle.go_base.specs.declared.ids.TypeId.{TypeId}
use Rattle.go_sched.specs.Channels.{Chan}
use Rattle.go_sched.specs.Goroutines.{State, spawned}
use Rattle.go_store.specs.Stores.{Stored}
use Rattle.go_value.specs.declared.faults.Fault.{Fault}
use Rattle.ssa_ir.specs.declared.code.Code.{Code}
use Rattle.ssa_mean.specs.State.{Frame, Goroutine, Machine, with_current, with_frames}

-- ---- a goroutine that may run changes: none that waits is it

abbrev pub waits_with : (c : Code) (goroutines : List Goroutine) (n k : ℕ) (g : Goroutine) → (k ≡ n → ⊥) → (waits : WaitsAt c goroutines k)
    → WaitsAt c (slice_set goroutines n g) k
waits_with c goroutines n k g other waits =
    record {
      g = waits.g;
      there = get_set_other goroutines n k g other ∙ waits.there;
      top = waits.top;
      below = waits.below;
      frames = waits.frames;
      calm = waits.calm;
      runs = waits.runs;
      function = waits.function;
      is_function = waits.is_function;
      instr = waits.instr;
      at = waits.at;
    }

channel_with : (c : Code) (t : Typing) (goroutines : List Goroutine) (runnable : List ℕ) (n : ℕ) (g : Goroutine) (chan : Chan)
    (elem : TypeId) → IsIn n runnable → ChannelFits c t goroutines runnable chan elem
    → ChannelFits c t (slice_set goroutines n g) runnable chan elem
channel_with c t goroutines runnable n g chan elem runs fits =
    record {
      queue = fits.queue;
      senders = λ k it is.
          let old = fits.senders k it is in
          record {
            value = old.value;
            waits = waits_with c goroutines n it.goroutine.number g (apart it.goroutine.number old.sleeps) old.waits;
            sends = old.sends;
            sleeps = old.sleeps;
          };
      receivers = λ k it is.
          let old = fits.receivers k it is in
          record {
            waits = waits_with c goroutines n it.goroutine.number g (apart it.goroutine.number old.sleeps) old.waits;
            receives = old.receives;
            sleeps = old.sleeps;
          };
    }
  where
    apart : (k : ℕ) → (IsIn k runnable → ⊥) → k ≡ n → ⊥
    apart k sleeps e = sleeps (subst (λ x. IsIn x runnable) (sym e) runs)

pub sched_with : (c : Code) (t : Typing) (goroutines : List Goroutine) (sched : State) (n : ℕ) (g : Goroutine)
    → IsIn n sched.runnable → SchedFits c t goroutines sched → SchedFits c t (slice_set goroutines n g) sched
sched_with c t goroutines sched n g runnable fits =
    record {
      count = fits.count ∙ sym (length_set goroutines n g);
      below = λ k is. subst (λ count. k < count) (sym (length_set goroutines n g)) (fits.below k is);
      chans = fits.chans;
      channels = λ k chan elem is there.
          channel_with c t goroutines sched.runnable n g chan elem runnable (fits.channels k chan elem is there);
    }

pub open_with : (c : Code) (t : Typing) (m : Machine) (g : Goroutine) → OpenFits c t m → OpenFits c t (with_current g m)
open_with c t m g fits =
    record {
      others = λ n it is other.
          fits.others n it (sym (get_set_other m.goroutines m.sched.current.number n g other) ∙ is) other;
      variables = fits.variables;
      store = fits.store;
      sched = sched_with c t m.goroutines m.sched m.sched.current.number g fits.current fits.sched;
      current = fits.current;
      starts = fits.starts;
    }

-- a machine whose current goroutine fits
pub closed_with : (c : Code) (t : Typing) (m : Machine) (old g : Goroutine)
    → slice_get m.goroutines m.sched.current.number ≡ Some old → OpenFits c t m → GoroutineFits c t g → g.fault ≡ None
    → MachineFits c t (with_current g m)
closed_with c t m old g there fits is calm =
    record {
      opened = open_with c t m g fits;
      g = g;
      there = get_set m.goroutines m.sched.current.number g old there;
      fits = is;
      calm = calm;
    }

pub frames_closed : (c : Code) (t : Typing) (m : Machine) (g : Goroutine) (frames : List Frame)
    → slice_get m.goroutines m.sched.current.number ≡ Some g → OpenFits c t m → LaterFitsWhere c t g.begin → g.fault ≡ None
    → AreFrames c t frames → MachineFits c t (with_frames g frames m)
frames_closed c t m g frames there fits begin calm are =
    closed_with c t m g (record g { frames = frames }) there fits
    (record { frames = subst (λ (f : Option Fault). GoOn c t f frames) (sym calm) are; begin = begin }) calm

-- the frames of the goroutine that runs
pub frames_of : (c : Code) (t : Typing) (m : Machine) → (fits : MachineFits c t m) → AreFrames c t fits.g.frames
frames_of c t m fits = subst (λ (f : Option Fault). GoOn c t f fits.g.frames) fits.calm fits.fits.frames

-- ---- the rest changes

pub store_changed : (c : Code) (t t' : Typing) (m : Machine) (store : Stored) (ticks : ℕ) (output : List ℕ) → Grows t t'
    → t'.chans ≡ t.chans → IsStore c t' store → OpenFits c t m
    → OpenFits c t' (record m { store = store; ticks = ticks; output = output })
store_changed c t t' m store ticks output grows chans is fits =
    record {
      others = λ n it there other. goroutine_grows c t t' grows it (fits.others n it there other);
      variables = λ n it there. grows.cells n (one it.of) (fits.variables n it there);
      store = is;
      sched = sched_grows c t t' grows chans m.goroutines m.sched fits.sched;
      current = fits.current;
      starts = fits.starts;
    }

pub starts_changed : (c : Code) (t : Typing) (m : Machine) (starts : List FuncId)
    → ((n : ℕ) (id : FuncId) → slice_get starts n ≡ Some id → StartFits c id) → OpenFits c t m
    → OpenFits c t (record m { starts = starts })
starts_changed c t m starts fit fits =
    record {
      others = fits.others;
      variables = fits.variables;
      store = fits.store;
      sched = fits.sched;
      current = fits.current;
      starts = fit;
    }

-- a new goroutine
abbrev pub waits_more : (c : Code) (goroutines : List Goroutine) (k : ℕ) (g : Goroutine) → (waits : WaitsAt c goroutines k)
    → WaitsAt c (goroutines ++ g ∷ []) k
waits_more c goroutines k g waits =
    record {
      g = waits.g;
      there = get_front goroutines (g ∷ []) k waits.g waits.there;
      top = waits.top;
      below = waits.below;
      frames = waits.frames;
      calm = waits.calm;
      runs = waits.runs;
      function = waits.function;
      is_function = waits.is_function;
      instr = waits.instr;
      at = waits.at;
    }

channel_more : (c : Code) (t : Typing) (goroutines : List Goroutine) (runnable : List ℕ) (g : Goroutine) (chan : Chan)
    (elem : TypeId) (count : ℕ) → count ≡ length goroutines → ChannelFits c t goroutines runnable chan elem
    → ChannelFits c t (goroutines ++ g ∷ []) (runnable ++ count ∷ []) chan elem
channel_more c t goroutines runnable g chan elem count is_count fits =
    record {
      queue = fits.queue;
      senders = λ k it is.
          let old = fits.senders k it is in
          record {
            value = old.value;
            waits = waits_more c goroutines it.goroutine.number g old.waits;
            sends = old.sends;
            sleeps = asleep it.goroutine.number old.sleeps old.waits;
          };
      receivers = λ k it is.
          let old = fits.receivers k it is in
          record {
            waits = waits_more c goroutines it.goroutine.number g old.waits;
            receives = old.receives;
            sleeps = asleep it.goroutine.number old.sleeps old.waits;
          };
    }
  where
    asleep : (k : ℕ) → (IsIn k runnable → ⊥) → WaitsAt c goroutines k → IsIn k (runnable ++ count ∷ []) → ⊥
    asleep k sleeps waits h =
        ⊎_elim (λ old. sleeps old)
        (λ last. ⊎_elim (λ e. let less = get_below goroutines k waits.g waits.there in omega (arith, less, e, is_count))
        (λ nothing. nothing) last)
        (in_split k runnable (count ∷ []) h)

pub spawned_fits : (c : Code) (t : Typing) (m : Machine) (g : Goroutine) → GoroutineFits c t g → OpenFits c t m
    → OpenFits c t (record m { goroutines = m.goroutines ++ g ∷ []; sched = spawned m.sched })
spawned_fits c t m g is fits =
    record {
      others = λ n it there other.
          ⊎_elim (λ old. fits.others n it old other) (λ e. subst (GoroutineFits c t) e is)
          (get_either m.goroutines g n it there);
      variables = fits.variables;
      store = fits.store;
      sched = record {
        count = omega (arith, fits.sched.count, length-append m.goroutines (g ∷ []));
        below = λ n h.
            ⊎_elim (λ old. let less = fits.sched.below n old in omega (arith, less, length-append m.goroutines (g ∷ [])))
            (λ last. ⊎_elim (λ e. omega (arith, e, fits.sched.count, length-append m.goroutines (g ∷ []))) (λ nothing. absurd nothing) last)
            (in_split n m.sched.runnable (m.sched.goroutines ∷ []) h);
        chans = fits.sched.chans;
        channels = λ k chan elem there is_elem.
            channel_more c t m.goroutines m.sched.runnable g chan elem m.sched.goroutines fits.sched.count
            (fits.sched.channels k chan elem there is_elem);
      };
      current = in_left m.sched.current.number m.sched.runnable (m.sched.goroutines ∷ []) fits.current;
      starts = fits.starts;
    }

-- ---- wherever the current goroutine stands: as one that may be switched away from

pub record RestFits (c : Code) (t : Typing) (m : Machine) : Type 0 where
  pub goroutines : (n : ℕ) (g : Goroutine) → slice_get m.goroutines n ≡ Some g → GoroutineFits c t g
  pub variables : HasVariables c t
  pub store : IsStore c t m.store
  pub sched : SchedFits c t m.goroutines m.sched
  pub starts : (n : ℕ) (id : FuncId) → slice_get m.starts n ≡ Some id → StartFits c id

pub rest_of : (c : Code) (t : Typing) (m : Machine) → MachineFits c t m → RestFits c t m
rest_of c t m fits =
    record {
      goroutines = λ n g is.
          ⊎_elim (λ same. subst (GoroutineFits c t)
          (some_same fits.g g (sym fits.there ∙ ap (slice_get m.goroutines) (sym same) ∙ is)) fits.fits)
          (λ other. fits.opened.others n g is other)
          (same_or_other n m.sched.current.number);
      variables = fits.opened.variables;
      store = fits.opened.store;
      sched = fits.opened.sched;
      starts = fits.opened.starts;
    }
