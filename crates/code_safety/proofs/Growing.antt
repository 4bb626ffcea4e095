-- What fits under a typing fits under all that it grows to.
use Rattle.std.proofs.Common.{◌≡◌, ℕ, List, [], ◌∷◌, length, Option, Some, None, ap, sym, ◌∙◌, slice_get}
use Rattle.std.specs.List.{AllZip}
use Rattle.code_safety.proofs.Machines.{FrameFits, AreBelow, AreFrames, GoOn, GoroutineFits, BuiltInFits, closes, panics, recovers, works, CalleeFits, LaterFits, LaterFitsWhere, ThrownFits, StateFits, ChannelFits, SchedFits}
use Rattle.code_safety.proofs.Shapes.{zip_map}
use Rattle.code_safety.proofs.Values.{Typing, Grows, Home, one, many, MapHome, Fits, PartsFit, IsOf, AreOf, HomeFits, EntriesFit, PointsFrom, PointsAs, SlicesFrom, SliceFits, MapNumberFits, ChanNumberFits, ClosureFits, MapRangeFits, under_of}
use Rattle.go_base.specs.declared.ids.CellId.{CellId}
use Rattle.go_base.specs.declared.ids.ChanId.{ChanId}
use Rattle.go_base.specs.declared.ids.FuncId.{FuncId}
use Rattle.go_base.specs.declared.ids.MapId.{MapId}
use Rattle.go_base.specs.declared.ids.TypeId.{TypeId}
use Rattle.go_maps.specs.Entries.{Map as Entries}
use Rattle.go_sched.specs.Channels.{Chan}
use Rattle.go_sched.specs.Goroutines.{State}
use Rattle.go_type.specs.declared.term.TypeTerm.{TypeTerm}
use Rattle.go_type.specs.declared.term.TypeTerm.TheVariants as term
use Rattle.go_value.specs.Values.{Val, Parts, none, part, truth, number, text, pointer, slice, map_number, chan_number}
use Rattle.go_value.specs.declared.faults.Fault.{Fault}
use Rattle.go_value.specs.Values.{nil_function, closure, bound, expression, nil_interface, dynamic, parts, text_range, map_range}
use Rattle.go_value.specs.declared.address.Pointer.{Pointer}
use Rattle.go_value.specs.declared.address.SliceValue.{SliceValue}
use Rattle.ssa_ir.specs.declared.code.Code.{Code}
use Rattle.ssa_ir.specs.declared.code.Function.{Function}
use Rattle.ssa_mean.specs.State.{BuiltIn, Callee, of_function, of_built_in, of_nil, Later, Thrown, of_value, of_text, FrameState}
use Rattle.ssa_mean.specs.State.{running, returning, panicking, Frame, Goroutine}

pub grows_self : (t : Typing) → Grows t t
grows_self t = record { cells = λ n home is. is; maps = λ n home is. is; chans = λ n of is. is }

pub grows_on : (t t' t'' : Typing) → Grows t t' → Grows t' t'' → Grows t t''
grows_on t t' t'' g h =
    record {
      cells = λ n home is. h.cells n home (g.cells n home is);
      maps = λ n home is. h.maps n home (g.maps n home is);
      chans = λ n of is. h.chans n of (g.chans n of is);
    }

-- ---- values

points_grow : (c : Code) (t t' : Typing) → Grows t t' → (cell : Option CellId) (path : List ℕ) (base : TypeId)
    → PointsFrom c t cell path base → PointsFrom c t' cell path base
points_grow c t t' g None path base h = tt
points_grow c t t' g (Some cell) path base h =
    record { home = h.home; there = g.cells cell.number h.home h.there; of = h.of; at = h.at; alike = h.alike }

pub points_as_grow : (c : Code) (t t' : Typing) → Grows t t' → (at : Pointer) (of : Option TypeTerm) → PointsAs c t at of
    → PointsAs c t' at of
points_as_grow c t t' g at (Some (term.Pointer base)) h = points_grow c t t' g at.cell at.path base h
points_as_grow c t t' g at _ h = absurd h

slices_grow : (c : Code) (t t' : Typing) → Grows t t' → (cell : Option CellId) (path : List ℕ) (len cap : ℕ) (elem : TypeId)
    → SlicesFrom c t cell path len cap elem → SlicesFrom c t' cell path len cap elem
slices_grow c t t' g None path len cap elem h = h
slices_grow c t t' g (Some cell) path len cap elem h =
    record {
      home = h.home;
      there = g.cells cell.number h.home h.there;
      front = h.front;
      last = h.last;
      is_path = h.is_path;
      array = h.array;
      at = h.at;
      ids = h.ids;
      items = h.items;
      each = h.each;
      fits = h.fits;
      within = h.within;
    }

slice_grows : (c : Code) (t t' : Typing) → Grows t t' → (it : SliceValue) (of : Option TypeTerm) → SliceFits c t it of
    → SliceFits c t' it of
slice_grows c t t' g it (Some (term.Slice elem)) h = slices_grow c t t' g it.at.cell it.at.path it.len it.cap elem h
slice_grows c t t' g it _ h = absurd h

map_grows : (c : Code) (t t' : Typing) → Grows t t' → (id : Option MapId) (of : Option TypeTerm) → MapNumberFits c t id of
    → MapNumberFits c t' id of
map_grows c t t' g None (Some (term.Map key elem)) h = tt
map_grows c t t' g (Some id) (Some (term.Map key elem)) h =
    record { home = h.home; there = g.maps id.number h.home h.there; same_key = h.same_key; same_elem = h.same_elem }
map_grows c t t' g id _ h = absurd h

chan_grows : (c : Code) (t t' : Typing) → Grows t t' → (id : Option ChanId) (of : Option TypeTerm) → ChanNumberFits c t id of
    → ChanNumberFits c t' id of
chan_grows c t t' g None (Some (term.Chan way elem)) h = tt
chan_grows c t t' g (Some id) (Some (term.Chan way elem)) h =
    record { of = h.of; there = g.chans id.number h.of h.there; alike = h.alike }
chan_grows c t t' g id _ h = absurd h

closure_grows : (c : Code) (t t' : Typing) → Grows t t' → (id : FuncId) (captured : List Pointer) (of : Option TypeTerm)
    → ClosureFits c t id captured of → ClosureFits c t' id captured of
closure_grows c t t' g id captured (Some (term.Func signature)) h =
    record {
      function = h.function;
      there = h.there;
      free = zip_map (λ at of. PointsAs c t at (under_of c of)) (λ at of. PointsAs c t' at (under_of c of))
          (λ at of. points_as_grow c t t' g at (under_of c of)) captured h.function.free h.free;
      has = h.has;
    }
closure_grows c t t' g id captured _ h = absurd h

range_grows : (c : Code) (t t' : Typing) → Grows t t' → (id : Option MapId) (of : Option TypeTerm) → MapRangeFits c t id of
    → MapRangeFits c t' id of
range_grows c t t' g id (Some (term.Iter over)) h = map_grows c t t' g id (under_of c over) h
range_grows c t t' g id _ h = absurd h

mutual
  pub fits_grow : (c : Code) (t t' : Typing) → Grows t t' → (it : Val) (of : Option TypeTerm) → Fits c t it of
      → Fits c t' it of
  fits_grow c t t' g (truth it) of h = h
  fits_grow c t t' g (number it) of h = h
  fits_grow c t t' g (text it) of h = h
  fits_grow c t t' g (pointer at) of h = points_as_grow c t t' g at of h
  fits_grow c t t' g (slice it) of h = slice_grows c t t' g it of h
  fits_grow c t t' g (map_number id) of h = map_grows c t t' g id of h
  fits_grow c t t' g (chan_number id) of h = chan_grows c t t' g id of h
  fits_grow c t t' g nil_function of h = h
  fits_grow c t t' g (closure id captured) of h = closure_grows c t t' g id captured of h
  fits_grow c t t' g (bound target receiver) of h =
      (h.0, (h.1.0, fits_grow c t t' g receiver (under_of c h.0) h.1.1))
  fits_grow c t t' g (expression receiver name package_number) of h = h
  fits_grow c t t' g nil_interface of h = h
  fits_grow c t t' g (dynamic from it) of h = (h.0, fits_grow c t t' g it (under_of c from) h.1)
  fits_grow c t t' g (parts it) of h = (h.0, (h.1.0, parts_grow c t t' g it h.0 h.1.1))
  fits_grow c t t' g (text_range bytes next) of h = h
  fits_grow c t t' g (map_range id left) of h = range_grows c t t' g id of h

  pub parts_grow : (c : Code) (t t' : Typing) → Grows t t' → (it : Parts) (ids : List TypeId) → PartsFit c t it ids
      → PartsFit c t' it ids
  parts_grow c t t' g none [] h = tt
  parts_grow c t t' g none (of ∷ ids) h = h
  parts_grow c t t' g (part it blank rest) [] h = h
  parts_grow c t t' g (part it blank rest) (of ∷ ids) h =
      (fits_grow c t t' g it (under_of c of) h.0, parts_grow c t t' g rest ids h.1)

pub are_grow : (c : Code) (t t' : Typing) → Grows t t' → (items : List Val) (ids : List TypeId) → AreOf c t items ids
    → AreOf c t' items ids
are_grow c t t' g items ids h =
    zip_map (IsOf c t) (IsOf c t') (λ it of. fits_grow c t t' g it (under_of c of)) items ids h

home_fits_grow : (c : Code) (t t' : Typing) → Grows t t' → (it : Val) (home : Home) → HomeFits c t it home
    → HomeFits c t' it home
home_fits_grow c t t' g it (one of) h = fits_grow c t t' g it (under_of c of) h
home_fits_grow c t t' g (parts it) (many ids) h = parts_grow c t t' g it ids h
home_fits_grow c t t' g _ (many ids) h = absurd h

pub cells_grow : (c : Code) (t t' : Typing) → Grows t t' → (items : List Val) (homes : List Home)
    → AllZip (HomeFits c t) items homes → AllZip (HomeFits c t') items homes
cells_grow c t t' g items homes h = zip_map (HomeFits c t) (HomeFits c t') (home_fits_grow c t t' g) items homes h

entries_grow : (c : Code) (t t' : Typing) → Grows t t' → (entries : Entries) (home : MapHome) → EntriesFit c t entries home
    → EntriesFit c t' entries home
entries_grow c t t' g entries home h n pair is =
    let old = h n pair is in
    record {
      key = fits_grow c t t' g pair.key (under_of c home.key) old.key;
      value = fits_grow c t t' g pair.value (under_of c home.elem) old.value;
    }

pub maps_grow : (c : Code) (t t' : Typing) → Grows t t' → (items : List Entries) (homes : List MapHome)
    → AllZip (EntriesFit c t) items homes → AllZip (EntriesFit c t') items homes
maps_grow c t t' g items homes h = zip_map (EntriesFit c t) (EntriesFit c t') (entries_grow c t t' g) items homes h

-- ---- calls that are put off

built_in_grows : (c : Code) (t t' : Typing) → Grows t t' → (called : BuiltIn) (items : List Val) (of : Option TypeId)
    → BuiltInFits c t called items of → BuiltInFits c t' called items of
built_in_grows c t t' g called items of (closes id) = closes id
built_in_grows c t t' g called items of (panics it thrown) =
    panics it (fits_grow c t t' g it (Some (term.Interface [])) thrown)
built_in_grows c t t' g called items of (recovers its id is) = recovers its id is
built_in_grows c t t' g called items of (works it its id each) =
    works it its id (λ t'' h. each t'' (grows_on t t' t'' g h))

callee_grows : (c : Code) (t t' : Typing) → Grows t t' → (callee : Callee) (arguments : List Val)
    → CalleeFits c t callee arguments → CalleeFits c t' callee arguments
callee_grows c t t' g (of_function id free) arguments h =
    record {
      function = h.function;
      there = h.there;
      frees = are_grow c t t' g free h.function.free h.frees;
      takes = are_grow c t t' g arguments h.function.params h.takes;
    }
callee_grows c t t' g (of_built_in called) arguments h = built_in_grows c t t' g called arguments None h
callee_grows c t t' g of_nil arguments h = tt

pub later_grows : (c : Code) (t t' : Typing) → Grows t t' → (it : Later) → LaterFits c t it → LaterFits c t' it
later_grows c t t' g it h = callee_grows c t t' g it.callee it.arguments h

pub later_where_grows : (c : Code) (t t' : Typing) → Grows t t' → (it : Option Later) → LaterFitsWhere c t it
    → LaterFitsWhere c t' it
later_where_grows c t t' g None h = tt
later_where_grows c t t' g (Some it) h = later_grows c t t' g it h

-- ---- frames

thrown_grows : (c : Code) (t t' : Typing) → Grows t t' → (it : Thrown) → ThrownFits c t it → ThrownFits c t' it
thrown_grows c t t' g (of_value it) h = (fits_grow c t t' g it (Some (term.Interface [])) h.0, h.1)
thrown_grows c t t' g (of_text words) h = tt

state_grows : (c : Code) (t t' : Typing) → Grows t t' → (it : FrameState) → StateFits c t it → StateFits c t' it
state_grows c t t' g running h = tt
state_grows c t t' g returning h = tt
state_grows c t t' g (panicking thrown) h = thrown_grows c t t' g thrown h

pub frame_grows : (c : Code) (t t' : Typing) → Grows t t' → (f : Function) (frame : Frame) → FrameFits c t f frame
    → FrameFits c t' f frame
frame_grows c t t' g f frame h =
    record {
      there = h.there;
      parameters = are_grow c t t' g frame.parameters f.params h.parameters;
      free = are_grow c t t' g frame.free f.free h.free;
      count = h.count;
      registers = λ n it of is there. fits_grow c t t' g it (under_of c of) (h.registers n it of is there);
      defers = λ n it is. later_grows c t t' g it (h.defers n it is);
      recovers = h.recovers;
      state = state_grows c t t' g frame.state h.state;
    }

pub below_grow : (c : Code) (t t' : Typing) → Grows t t' → (pending : Option ℕ) (frames : List Frame)
    → AreBelow c t pending frames → AreBelow c t' pending frames
below_grow c t t' g pending [] h = tt
below_grow c t t' g pending (frame ∷ below) h = (
  record {
    function = h.0.function;
    fits = frame_grows c t t' g h.0.function frame h.0.fits;
    stands = h.0.stands;
    begun = h.0.begun;
    takes = h.0.takes;
  },
  below_grow c t t' g frame.result below h.1,
)

pub frames_grow : (c : Code) (t t' : Typing) → Grows t t' → (frames : List Frame) → AreFrames c t frames
    → AreFrames c t' frames
frames_grow c t t' g [] h = tt
frames_grow c t t' g (top ∷ below) h = (
  record {
    function = h.0.function;
    fits = frame_grows c t t' g h.0.function top h.0.fits;
    stands = h.0.stands;
    takes = h.0.takes;
  },
  below_grow c t t' g top.result below h.1,
)

go_on_grow : (c : Code) (t t' : Typing) → Grows t t' → (it : Option Fault) (frames : List Frame) → GoOn c t it frames
    → GoOn c t' it frames
go_on_grow c t t' g None frames h = frames_grow c t t' g frames h
go_on_grow c t t' g (Some it) [] h = tt
go_on_grow c t t' g (Some it) (top ∷ below) h =
    record {
      function = h.function;
      fits = frame_grows c t t' g h.function top h.fits;
      begun = h.begun;
      takes = h.takes;
      lower = below_grow c t t' g top.result below h.lower;
    }

pub goroutine_grows : (c : Code) (t t' : Typing) → Grows t t' → (it : Goroutine) → GoroutineFits c t it → GoroutineFits c t' it
goroutine_grows c t t' g it h =
    record {
      frames = go_on_grow c t t' g it.fault it.frames h.frames;
      begin = later_where_grows c t t' g it.begin h.begin;
    }

-- ---- channels, where there are no new ones

pub channel_grows : (c : Code) (t t' : Typing) → Grows t t' → (goroutines : List Goroutine) (runnable : List ℕ) (chan : Chan)
    (elem : TypeId) → ChannelFits c t goroutines runnable chan elem → ChannelFits c t' goroutines runnable chan elem
channel_grows c t t' g goroutines runnable chan elem h =
    record {
      queue = λ n it is. fits_grow c t t' g it (under_of c elem) (h.queue n it is);
      senders = λ n it is.
          let old = h.senders n it is in
          record {
            value = fits_grow c t t' g it.value (under_of c elem) old.value;
            waits = old.waits;
            sends = old.sends;
            sleeps = old.sleeps;
          };
      receivers = h.receivers;
    }

pub sched_grows : (c : Code) (t t' : Typing) → Grows t t' → t'.chans ≡ t.chans → (goroutines : List Goroutine) (sched : State)
    → SchedFits c t goroutines sched → SchedFits c t' goroutines sched
sched_grows c t t' g same goroutines sched h =
    record {
      count = h.count;
      below = h.below;
      chans = ap length same ∙ h.chans;
      channels = λ k chan elem is there.
          channel_grows c t t' g goroutines sched.runnable chan elem
          (h.channels k chan elem is (ap (λ chans. slice_get chans k) (sym same) ∙ there));
    }
