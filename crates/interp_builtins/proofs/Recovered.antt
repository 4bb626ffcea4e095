-- `recover` acts on the first frame below the top one that is no wrapper.
use Rattle.std.proofs.Common.{◌≡◌, ◌∙◌, ap, sym, refl, subst, ℕ, zero, suc, List, [], ◌∷◌, ◌++◌, map, reverse, take}
use Rattle.std.proofs.Common.{drop, Bool, true}
use Rattle.std.proofs.Common.{false, Some, option_map, slice_get, slice_set, append_assoc}
use Rattle.std.specs.Prelude.{if◌then◌else◌}
use Rattle.std.proofs.lemmas.List.{map-append, reverse-append}
use Rattle.std.proofs.Common.{Option, None}
use Rattle.std.specs.Option.{option_map_or}
use Rattle.go_value.specs.Values.{nil_interface, value_of}
use Rattle.go_value.specs.declared.values.Value.{Value}
use Rattle.go_value.specs.declared.values.Value.TheVariants as values
use Rattle.interp_builtins.specs.Recovered.{AreWrappers, is_wrapper_of}
use Rattle.interp_state.proofs.Tops.{below_of, frames_are}
use Rattle.interp_state.specs.Machines.{frame_of, machine_of}
use Rattle.interp_state.specs.declared.frames.Frame.{Frame}
use Rattle.interp_state.specs.declared.machine.Machine.{Machine}
use Rattle.plan_mean.specs.State as meant
use Rattle.plan_mean.specs.State.{Next, goes, with_frames, with_result}
use Rattle.plan_mean.specs.Step.{recovers_in}
use Rattle.plan_mean.specs.Unwinding.{may_recover, recovered, recovering}
use Rattle.ssa_mean.specs.Unwinding.{recovered_state, recovered_value}

-- ---- frames of wrappers are passed over

wrappers_joined : (these those : List Frame) → AreWrappers these → AreWrappers those → AreWrappers (these ++ those)
wrappers_joined [] those h g = g
wrappers_joined (it ∷ these) those h g = (h.0, wrappers_joined these those h.1 g)

turned : (them : List Frame) → AreWrappers them → AreWrappers (reverse them)
turned [] h = tt
turned (it ∷ them) h =
    subst AreWrappers (sym (reverse-append (it ∷ []) them))
    (wrappers_joined (reverse them) (it ∷ []) (turned them h.1) (h.0, tt))

recovering_past : (them : List Frame) (rest : List meant.Frame) → AreWrappers them
    → recovering (map frame_of them ++ rest) ≡ map frame_of them ++ recovering rest
recovering_past [] rest h = refl
recovering_past (it ∷ them) rest h =
    ap (λ (b : Bool). if b then frame_of it ∷ recovering (map frame_of them ++ rest)
    else record (frame_of it) { state = recovered_state (frame_of it).state } ∷ (map frame_of them ++ rest)) h.0
    ∙ ap (λ frames. frame_of it ∷ frames) (recovering_past them rest h.1)

recovered_past : (them : List Frame) (rest : List meant.Frame) → AreWrappers them
    → recovered (map frame_of them ++ rest) ≡ recovered rest
recovered_past [] rest h = refl
recovered_past (it ∷ them) rest h =
    ap (λ (b : Bool). if b then recovered (map frame_of them ++ rest) else recovered_value (frame_of it).state) h.0
    ∙ recovered_past them rest h.1

-- ---- the frames around one

around : {A : Type 0} (xs : List A) (n : ℕ) (it : A) → slice_get xs n ≡ Some it → xs ≡ take n xs ++ it ∷ drop (suc n) xs
around [] n it is = cc
around (x ∷ xs) zero it is = let same : x ≡ it = cc in ap (λ y. y ∷ xs) same
around (x ∷ xs) (suc n) it is = ap (λ rest. x ∷ rest) (around xs n it is)

around_set : {A : Type 0} (xs : List A) (n : ℕ) (old it : A) → slice_get xs n ≡ Some old
    → slice_set xs n it ≡ take n xs ++ it ∷ drop (suc n) xs
around_set [] n old it is = cc
around_set (x ∷ xs) zero old it is = refl
around_set (x ∷ xs) (suc n) old it is = ap (λ rest. x ∷ rest) (around_set xs n old it is)

turned_around : (these those : List Frame) (it : Frame)
    → map frame_of (reverse (these ++ it ∷ those))
    ≡ map frame_of (reverse those) ++ (frame_of it ∷ map frame_of (reverse these))
turned_around these those it =
    ap (map frame_of) (reverse-append these (it ∷ those)
    ∙ ap (λ front. front ++ reverse these) (reverse-append (it ∷ []) those)
    ∙ append_assoc (reverse those) (it ∷ []) (reverse these))
    ∙ map-append frame_of (reverse those) (it ∷ reverse these)

-- ---- the highest frame that is no wrapper

pub acts_on : (frames : List Frame) (n : ℕ) (it after : Frame) → AreWrappers (drop (suc n) frames)
    → slice_get frames n ≡ Some it → is_wrapper_of it ≡ false
    → frame_of after ≡ record (frame_of it) { state = recovered_state (frame_of it).state }
    → map frame_of (reverse (slice_set frames n after)) ≡ recovering (map frame_of (reverse frames))
acts_on frames n it after wrappers is plain changed =
    let those = drop (suc n) frames in
    let these = take n frames in
    ap (λ xs. map frame_of (reverse xs)) (around_set frames n it after is)
    ∙ turned_around these those after
    ∙ ap (λ frame. map frame_of (reverse those) ++ (frame ∷ map frame_of (reverse these))) changed
    ∙ sym (ap (λ xs. recovering (map frame_of (reverse xs))) (around frames n it is)
    ∙ ap recovering (turned_around these those it)
    ∙ recovering_past (reverse those) (frame_of it ∷ map frame_of (reverse these)) (turned those wrappers)
    ∙ ap (λ (b : Bool). map frame_of (reverse those)
    ++ (if b then frame_of it ∷ recovering (map frame_of (reverse these))
    else record (frame_of it) { state = recovered_state (frame_of it).state } ∷ map frame_of (reverse these))) plain)

pub gives_of : (frames : List Frame) (n : ℕ) (it : Frame) → AreWrappers (drop (suc n) frames)
    → slice_get frames n ≡ Some it → is_wrapper_of it ≡ false
    → recovered (map frame_of (reverse frames)) ≡ recovered_value (frame_of it).state
gives_of frames n it wrappers is plain =
    let those = drop (suc n) frames in
    let these = take n frames in
    ap (λ xs. recovered (map frame_of (reverse xs))) (around frames n it is)
    ∙ ap recovered (turned_around these those it)
    ∙ recovered_past (reverse those) (frame_of it ∷ map frame_of (reverse these)) (turned those wrappers)
    ∙ ap (λ (b : Bool). if b then recovered (map frame_of (reverse these)) else recovered_value
    (frame_of it).state) plain

-- ---- where all are wrappers

none_left : (them : List Frame) → AreWrappers them → (recovering (map frame_of them) ≡ map frame_of them)
    × (recovered (map frame_of them) ≡ nil_interface)
none_left [] h = (refl, refl)
none_left (it ∷ them) h =
    let rest = none_left them h.1 in (
      ap (λ (b : Bool). if b then frame_of it ∷ recovering (map frame_of them)
          else record (frame_of it) { state = recovered_state (frame_of it).state } ∷ map frame_of them) h.0
          ∙ ap (λ frames. frame_of it ∷ frames) rest.0,
      ap (λ (b : Bool). if b then recovered (map frame_of them) else recovered_value (frame_of it).state) h.0 ∙ rest.1,
    )

pub acts_on_none : (frames : List Frame) → AreWrappers frames
    → (recovering (map frame_of (reverse frames)) ≡ map frame_of (reverse frames))
    × (recovered (map frame_of (reverse frames)) ≡ nil_interface)
acts_on_none frames wrappers = none_left (reverse frames) (turned frames wrappers)

-- ---- as they are found

plain_of : (frames : List Frame) (n : ℕ) (it : Frame) → option_map is_wrapper_of (slice_get frames n) ≡ Some false
    → slice_get frames n ≡ Some it → is_wrapper_of it ≡ false
plain_of frames n it plain is =
    let same : Some (is_wrapper_of it) ≡ Some false = sym (ap (option_map is_wrapper_of) is) ∙ plain in cc

pub acts_here : (frames seen : List Frame) (n : ℕ) (it after : Frame) → seen ≡ frames → AreWrappers (drop (suc n) seen)
    → option_map is_wrapper_of (slice_get seen n) ≡ Some false → slice_get frames n ≡ Some it
    → frame_of after ≡ record (frame_of it) { state = recovered_state (frame_of it).state }
    → (map frame_of (reverse (slice_set frames n after)) ≡ recovering (map frame_of (reverse frames)))
    × (recovered (map frame_of (reverse frames)) ≡ recovered_value (frame_of it).state)
acts_here frames seen n it after same wrappers plain is changed =
    let those = subst (λ (them : List Frame). AreWrappers (drop (suc n) them)) same wrappers in
    let plain_one = plain_of frames n it
    (subst (λ (them : List Frame). option_map is_wrapper_of (slice_get them n) ≡ Some false) same plain) is in
    (acts_on frames n it after those is plain_one changed, gives_of frames n it those is plain_one)

-- ---- the machine after it

some_top : {A : Type 0} (f : A → Bool) (it : Option A) (b : Bool) → option_map f it ≡ Some b
    → (found : A) × ((it ≡ Some found) × (f found ≡ b))
some_top f None b is = cc
some_top f (Some found) b is = let same : f found ≡ b = cc in (found, (refl, same))

acts_in : (b : Bool) (m : meant.Machine) (slot : Option ℕ) (top : meant.Frame) (below : List meant.Frame) → Next
acts_in b m slot top below =
    if b then goes (with_result slot (Some (recovered below)) (with_frames (top ∷ recovering below) m))
    else goes (with_result slot (Some nil_interface) m)

pub recovers_is : (old new : Machine) (slot : Option ℕ) (value : Value)
    → option_map (λ (top : Frame). may_recover (frame_of top)) old.current.top ≡ Some true
    → value_of value ≡ recovered (below_of old.current) → below_of new.current ≡ recovering (below_of old.current)
    → new ≡ record old { current = record (old.current) { below = new.current.below } }
    → recovers_in (machine_of old) slot (machine_of old).current.frames
    ≡ goes (with_result slot (Some (value_of value)) (machine_of new))
unfolding acts_in
recovers_is old new slot value may gives acts changed =
    let m = machine_of old in
    let (top, both) = some_top (λ (top : Frame). may_recover (frame_of top)) old.current.top true may in
    let below = below_of old.current in
    let is = both.0 in
    ap (recovers_in m slot) (frames_are old.current top is)
    ∙ ap (λ (b : Bool). acts_in b m slot (frame_of top) below) both.1
    ∙ ap (λ it. goes (with_result slot (Some it) (with_frames (frame_of top ∷ recovering below) m))) (sym gives)
    ∙ ap (λ frames. goes (with_result slot (Some (value_of value)) (with_frames (frame_of top ∷ frames) m))) (sym acts)
    ∙ ap (λ m. goes (with_result slot (Some (value_of value)) m))
    (sym (ap machine_of changed
    ∙ ap (λ (top : Option Frame). with_frames (map frame_of (option_map_or
    (λ it. it ∷ reverse new.current.below.items) top [])) m) is))

pub recovers_not : (old : Machine) (slot : Option ℕ)
    → option_map (λ (top : Frame). may_recover (frame_of top)) old.current.top ≡ Some false
    → recovers_in (machine_of old) slot (machine_of old).current.frames
    ≡ goes (with_result slot (Some (value_of values.NilInterface)) (machine_of old))
unfolding acts_in
recovers_not old slot may =
    let m = machine_of old in
    let (top, both) = some_top (λ (top : Frame). may_recover (frame_of top)) old.current.top false may in
    ap (recovers_in m slot) (frames_are old.current top both.0)
    ∙ ap (λ (b : Bool). acts_in b m slot (frame_of top) (below_of old.current)) both.1
