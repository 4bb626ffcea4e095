-- Panics in both machines.
use Rattle.std.proofs.Common.{◌≡◌, ℕ, suc, true, false, List, [], ◌∷◌, Option, Some, None, ap, refl, sym, subst, ◌∙◌}
use Rattle.std.proofs.lemmas.Option.{none-some}
use Rattle.std.specs.Prelude.{◌<◌, length, is_some, slice_get}
use Rattle.std.specs.Option.{option_map, option_map_or}
use Rattle.code_plan.specs.Plans.{IsFunction, IsWithin}
use Rattle.code_plan.specs.declared.steps.PlannedBlock.{PlannedBlock}
use Rattle.code_plan.specs.declared.steps.Step.{Step}
use Rattle.go_base.specs.declared.ending.Ending.TheVariants as ending
use Rattle.go_base.specs.declared.ids.BlockId.{BlockId}
use Rattle.go_value.specs.Values.{Val, nil_interface}
use Rattle.go_value.specs.declared.faults.Fault.{Fault}
use Rattle.go_value.specs.declared.faults.Fault.TheVariants as fault
use Rattle.plan_laws.proofs.Acting.{Acting, IsOnTop, IsActing, acting_on}
use Rattle.plan_laws.proofs.Alike.{Known, IsKnown, IsMachine, Follows, IsAround, AreFrames, AreBelow, IsTopFrame, IsFrame, placed, lost}
use Rattle.plan_laws.proofs.Alike.{standing, IsLaterWhere, GetsResult, Recovers, sources_in}
use Rattle.plan_laws.proofs.Around.{around_current, around_with, there_with}
use Rattle.plan_laws.proofs.Frames.{frame_moved}
use Rattle.plan_laws.proofs.Lists.{item_below, same_count}
use Rattle.plan_laws.proofs.Blocks.{function_of, BlockAt, code_block, begins}
use Rattle.plan_mean.specs.Slots.{top_of, below_top}
use Rattle.plan_mean.specs.State as plans
use Rattle.plan_mean.specs.Unwinding as planned
use Rattle.plan_mean.specs.Unwinding.{shown}
use Rattle.ssa_ir.specs.Blocks.{instrs_at}
use Rattle.ssa_ir.specs.declared.code.Function.{Function}
use Rattle.ssa_mean.specs.Faults.{value_text, thrown_text, thrown_with, thrown_by, naming_of}
use Rattle.ssa_mean.specs.Operands.{function_at}
use Rattle.ssa_mean.specs.State as codes
use Rattle.ssa_mean.specs.State.{Thrown, of_value, of_text, panicking}
use Rattle.ssa_mean.specs.Unwinding as steps
use Rattle.value_texts.specs.Texts.{fault_string}

-- ---- what is thrown

thrown_texts : (k : Known) → IsKnown k → (thrown : Thrown)
    → planned.text_of_thrown k.w (shown thrown) ≡ thrown_text k.code thrown
thrown_texts k known (of_value it) =
    ap (λ naming. value_text naming k.w.plan.error_string it) (sym known.naming)
    ∙ ap (λ text. value_text (naming_of k.code) text it) known.error_string
thrown_texts k known (of_text words) = refl

thrown_alike : (k : Known) → IsKnown k → (it : Fault) → planned.thrown_by k.w it ≡ shown (thrown_by k.code it)
thrown_alike k known it =
    ap (λ naming. shown (thrown_with (fault_string naming it) k.w.plan.error_string)) (sym known.naming)
    ∙ ap (λ text. shown (thrown_with (fault_string (naming_of k.code) it) text)) known.error_string

-- ---- a goroutine without frames: the run ends

ended : (k : Known) (m : codes.Machine) (q : plans.Machine) → IsAround k m q
    → (text text' : Option (List ℕ)) → text' ≡ text
    → Follows k (codes.where_there (λ words. codes.ends (ending.Panicked words) m.output) text)
    (plans.where_there (λ words. plans.ends (ending.Panicked words) q.output) text')
ended k m q around text text' same =
    subst (λ x. Follows k (codes.where_there (λ words. codes.ends (ending.Panicked words) m.output) text)
    (plans.where_there (λ words. plans.ends (ending.Panicked words) q.output) x)) (sym same) (both text)
  where
    both : (text : Option (List ℕ))
        → Follows k (codes.where_there (λ words. codes.ends (ending.Panicked words) m.output) text)
        (plans.where_there (λ words. plans.ends (ending.Panicked words) q.output) text)
    both None = tt
    both (Some words) = (refl, around.output)

-- ---- the top frame panics

no_calls : (defers : List codes.Later) (function : Function) → Recovers defers function → function.recover ≡ None
    → defers ≡ []
no_calls [] function recovers none = refl
no_calls (it ∷ others) function recovers none =
    let clash : false ≡ true = sym (ap is_some none) ∙ recovers in absurd cc

-- where it cannot recover
lost_top : (k : Known) (function : Function) (frame : codes.Frame) (row : List (Option Val)) (it : plans.Frame)
    → IsFrame k function frame row it → (below : List codes.Frame) → GetsResult k frame.result it.result below
    → (thrown : Thrown) → function.recover ≡ None
    → IsTopFrame k [] (record frame { state = panicking thrown }) row (record it { state = panicking (shown thrown) }) below
lost_top k function frame row it is below result thrown none =
    record {
      function = function;
      is = frame_moved k function frame row it is frame.block frame.place (panicking thrown) frame.defers it.block it.steps
          it.step (panicking (shown thrown)) it.defers refl is.defers is.recovers;
      top = lost (record { panics = refl; no_recovery = none; no_defers = no_calls frame.defers function is.recovers none });
      result = result;
    }

-- where it goes on at its recover block
placed_top : (k : Known) → IsKnown k → (function : Function) (frame : codes.Frame) (row : List (Option Val)) (it : plans.Frame)
    → IsFrame k function frame row it → (below : List codes.Frame) → GetsResult k frame.result it.result below
    → (thrown : Thrown) (n : ℕ) (at : BlockAt k.code (k.marks frame.function.number) function it.function n)
    → IsTopFrame k [] (record (steps.at_block function n frame) { state = panicking thrown }) row
    (record it { block = n; steps = at.it.steps.items; step = 0; state = panicking (shown thrown) }) below
placed_top k known function frame row it is below result thrown n at =
    record {
      function = function;
      is = frame_moved k function frame row it is n (steps.phis_first (instrs_at function n)) (panicking thrown) frame.defers
          n at.it.steps.items 0 (panicking (shown thrown)) it.defers refl is.defers is.recovers;
      top = placed (standing [] _ _ (record {
        same = refl;
        block = at.it;
        is = at.planned_there;
        steps = refl;
        last = at.is.last;
        goes = begins k.code (k.marks frame.function.number) function it.function n at;
      }));
      result = result;
    }

-- the plan's frame at its recover block, where there is one
recovery_there : (it : plans.Frame) (recover : Option ℕ) → it.function.recover ≡ recover
    → planned.at_recovery it ≡ option_map_or (λ block. planned.at_block block it) recover it
recovery_there it recover same = ap (λ r. option_map_or (λ block. planned.at_block block it) r it) same

pub at_there : (it : plans.Frame) (n : ℕ) (block : PlannedBlock) → slice_get it.function.blocks.items n ≡ Some block
    → planned.at_block n it ≡ record it { block = n; steps = block.steps.items; step = 0 }
at_there it n block there =
    ap (λ (found : Option PlannedBlock).
    option_map_or (λ b. record it { block = n; steps = b.steps.items; step = 0 }) found it) there

block_within : (function : Function) (recover : Option BlockId) → function.recover ≡ recover
    → IsWithin function function.recover → IsWithin function recover
block_within function recover same within = subst (λ r. IsWithin function r) same within

by_recovery : (k : Known) → IsKnown k → (function : Function) (frame : codes.Frame) (row : List (Option Val)) (it : plans.Frame)
    → IsFrame k function frame row it → (below : List codes.Frame) → GetsResult k frame.result it.result below
    → (thrown : Thrown) → IsFunction k.code (k.marks frame.function.number) function it.function
    → (recover : Option BlockId) → function.recover ≡ recover
    → IsTopFrame k []
    (record (option_map_or (λ (block : BlockId). steps.at_block function block.number frame) recover frame) { state = panicking thrown })
    row (record (planned.at_recovery it) { state = panicking (shown thrown) }) below
by_recovery k known function frame row it is below result thrown is_function None none =
    subst (λ p. IsTopFrame k [] (record frame { state = panicking thrown }) row (record p { state = panicking (shown thrown) }) below)
    (sym (recovery_there it None (is_function.recover ∙ ap (option_map (λ block. block.number)) none)))
    (lost_top k function frame row it is below result thrown none)
by_recovery k known function frame row it is below result thrown is_function (Some b) some =
    let within : b.number < length function.blocks = block_within function (Some b) some is_function.within in
    let first = item_below function.blocks b.number within in
    let at = code_block k.code (k.marks frame.function.number) function it.function is_function b.number first.0 first.1 in
    subst (λ p. IsTopFrame k [] (record (steps.at_block function b.number frame) { state = panicking thrown }) row
    (record p { state = panicking (shown thrown) }) below)
    (sym (recovery_there it (Some b.number) (is_function.recover ∙ ap (option_map (λ block. block.number)) some)
    ∙ at_there it b.number at.it at.planned_there))
    (placed_top k known function frame row it is below result thrown b.number at)

panics_top : (k : Known) → IsKnown k → (function : Function) (frame : codes.Frame) (row : List (Option Val)) (it : plans.Frame)
    → IsFrame k function frame row it → (below : List codes.Frame) → GetsResult k frame.result it.result below
    → (thrown : Thrown)
    → IsTopFrame k [] (steps.panics k.code thrown frame) row (record (planned.at_recovery it) { state = panicking (shown thrown) }) below
panics_top k known function frame row it is below result thrown =
    subst (λ (found : Option Function). IsTopFrame k [] (record (steps.at_recovery found frame) { state = panicking thrown }) row
    (record (planned.at_recovery it) { state = panicking (shown thrown) }) below)
    (sym is.there)
    (by_recovery k known function frame row it is below result thrown (function_of k known function frame row it is)
    function.recover refl)

-- ---- the goroutine that runs panics

-- a frame that panics is of the same function
panics_same : (k : Known) (function : Function) (frame : codes.Frame) (thrown : Thrown)
    → function_at k.code frame.function ≡ Some function
    → (steps.panics k.code thrown frame).function ≡ frame.function
panics_same k function frame thrown there =
    subst (λ (found : Option Function). (steps.at_recovery found frame).function ≡ frame.function) (sym there)
    (by_block function.recover)
  where
    by_block : (recover : Option BlockId)
        → (option_map_or (λ (block : BlockId). steps.at_block function block.number frame) recover frame).function
        ≡ frame.function
    by_block None = refl
    by_block (Some block) = refl

same_sources : (k : Known) (function : Function) (frame : codes.Frame) (below : List codes.Frame) (thrown : Thrown)
    → function_at k.code frame.function ≡ Some function
    → sources_in k (frame ∷ below) ≡ sources_in k (steps.panics k.code thrown frame ∷ below)
same_sources k function frame below thrown there =
    same_count (steps.is_source k.code) frame (steps.panics k.code thrown frame) below
    (ap (λ id. option_map_or (λ it. steps.is_source_kind it.kind) (function_at k.code id) false)
    (sym (panics_same k function frame thrown there)))

-- with one frame on top, wherever that stands
top_throws : (k : Known) → IsKnown k → (m : codes.Machine) (q : plans.Machine) → IsAround k m q → (g : codes.Goroutine)
    → slice_get m.goroutines m.sched.current.number ≡ Some g → IsLaterWhere g.begin q.current.begin
    → q.current.fault ≡ g.fault → (frame : codes.Frame) (below : List codes.Frame) (it : plans.Frame) (others : List plans.Frame)
    → q.current.sources ≡ sources_in k (frame ∷ below)
    → (function : Function) → IsFrame k function frame (top_of q.current.slots) it
    → GetsResult k frame.result it.result below → AreBelow k below (below_top q.current.slots) others → (thrown : Thrown)
    → Follows k (steps.throws_from k.code m g (frame ∷ below) thrown)
    (planned.throws_from k.w (shown thrown) q (it ∷ others))
top_throws k known m q around g there begin fault frame below it others sources function is result lower thrown = (
  [],
  record {
    around = around_with k m q around
        (record g { frames = steps.panics k.code thrown frame ∷ below })
        (record (q.current) { frames = record (planned.at_recovery it) { state = panicking (shown thrown) } ∷ others });
    g = record g { frames = steps.panics k.code thrown frame ∷ below };
    there = there_with m (record g { frames = steps.panics k.code thrown frame ∷ below }) g there;
    is = record {
      frames = (panics_top k known function frame (top_of q.current.slots) it is below result thrown, lower);
      begin = begin;
      fault = fault;
      sources = sources ∙ same_sources k function frame below thrown is.there;
    };
    held = (λ register cell late. absurd (none-some cell late), tt);
  },
)

pub throws_here : (k : Known) → IsKnown k → (m : codes.Machine) (q : plans.Machine) → IsAround k m q → (g : codes.Goroutine)
    → slice_get m.goroutines m.sched.current.number ≡ Some g → IsLaterWhere g.begin q.current.begin
    → q.current.fault ≡ g.fault → (frames : List codes.Frame) (others : List plans.Frame)
    → q.current.sources ≡ sources_in k frames → AreFrames k [] frames q.current.slots others → (thrown : Thrown)
    → Follows k (steps.throws_from k.code m g frames thrown) (planned.throws_from k.w (shown thrown) q others)
throws_here k known m q around g there begin fault [] [] sources alike thrown =
    ended k m q around (thrown_text k.code thrown) (planned.text_of_thrown k.w (shown thrown)) (thrown_texts k known thrown)
throws_here k known m q around g there begin fault (frame ∷ below) (it ∷ others) sources alike thrown =
    top_throws k known m q around g there begin fault frame below it others sources alike.0.function alike.0.is
    alike.0.result alike.1 thrown
throws_here k known m q around g there begin fault [] (it ∷ others) sources alike thrown = absurd alike
throws_here k known m q around g there begin fault (frame ∷ below) [] sources alike thrown = absurd alike

pub throws_alike : (k : Known) → IsKnown k → (m : codes.Machine) (q : plans.Machine) → IsMachine k [] m q → (thrown : Thrown)
    → Follows k (steps.throws k.code m thrown) (planned.throws k.w (shown thrown) q)
throws_alike k known m q is thrown =
    subst (λ (found : Option codes.Goroutine).
    Follows k (codes.where_there (λ g. steps.throws_from k.code m g g.frames thrown) found) (planned.throws k.w (shown thrown) q))
    (sym is.there)
    (throws_here k known m q is.around is.g is.there is.is.begin is.is.fault is.g.frames q.current.frames is.is.sources
    is.is.frames thrown)

pub meets_alike : (k : Known) → IsKnown k → (m : codes.Machine) (q : plans.Machine) → IsMachine k [] m q → (it : Fault)
    → Follows k (steps.meets k.code m it) (planned.meets k.w it q)
meets_alike k known m q is it =
    subst (λ thrown. Follows k (steps.meets k.code m it) (planned.throws k.w thrown q)) (sym (thrown_alike k known it))
    (throws_alike k known m q is (thrown_by k.code it))

pub panics_on_alike : (k : Known) → IsKnown k → (m : codes.Machine) (q : plans.Machine) → IsMachine k [] m q → (it : Val)
    → Follows k (steps.panics_with k.code m it) (planned.panics_with k.w q it)
panics_on_alike k known m q is nil_interface = meets_alike k known m q is fault.PanicNil
panics_on_alike k known m q is it = throws_alike k known m q is (of_value it)

-- ---- in the midst of an instruction

throws_acting : (k : Known) → IsKnown k → (a : Acting) → IsOnTop k a → (thrown : Thrown)
    → Follows k (steps.throws k.code a.m thrown) (planned.throws k.w (shown thrown) (acting_on a))
throws_acting k known a on thrown =
    subst (λ (found : Option codes.Goroutine).
    Follows k (codes.where_there (λ g. steps.throws_from k.code a.m g g.frames thrown) found)
    (planned.throws k.w (shown thrown) (acting_on a)))
    (sym on.there)
    (subst (λ (frames : List codes.Frame). Follows k (steps.throws_from k.code a.m a.g frames thrown)
    (planned.throws_from k.w (shown thrown) (acting_on a) (plans.advanced a.planned ∷ a.others)))
    (sym on.frames)
    (top_throws k known a.m (acting_on a) (around_current k a.m a.q on.around (acting_on a).current) a.g on.there on.begin on.fault
    a.frame a.below (plans.advanced a.planned) a.others on.sources a.function
    (frame_moved k a.function a.frame (top_of a.q.current.slots) a.planned on.is a.frame.block a.frame.place a.frame.state
    a.frame.defers a.planned.block a.planned.steps (suc a.planned.step) a.planned.state a.planned.defers on.is.state on.is.defers
    on.is.recovers)
    on.result on.below thrown))

pub faults_alike : (k : Known) → IsKnown k → (a : Acting) (step : Step) → IsActing k a step → (it : Fault)
    → Follows k (steps.meets k.code a.m it) (planned.meets k.w it (acting_on a))
faults_alike k known a step acting it =
    subst (λ thrown. Follows k (steps.meets k.code a.m it) (planned.throws k.w thrown (acting_on a)))
    (sym (thrown_alike k known it)) (throws_acting k known a acting.top (thrown_by k.code it))

pub panics_alike : (k : Known) → IsKnown k → (a : Acting) (step : Step) → IsActing k a step → (it : Val)
    → Follows k (steps.panics_with k.code a.m it) (planned.panics_with k.w (acting_on a) it)
panics_alike k known a step acting nil_interface = faults_alike k known a step acting fault.PanicNil
panics_alike k known a step acting it = throws_acting k known a acting.top (of_value it)
