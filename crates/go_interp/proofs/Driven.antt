-- A run that is driven to its end, its output written in pieces.
use Rattle.std.proofs.Common.{◌≡◌, ◌∙◌, ℕ, ◌+◌, List, [], ◌∷◌, ◌++◌, Option, Some, None, ap, sym, refl, subst, append_assoc, Bool, false, Result, Ok, Err, map}
use Rattle.std.proofs.KnownBytes.{Appends-nil, Appends-trans}
use Rattle.std.specs.Io.KnownBytes.{Appends}
use Rattle.std.specs.Prelude.{IfOk}
use Rattle.std.specs.Map.{lookup}
use Rattle.std.specs.declared.hash.BuildHasherDefault.{BuildHasherDefault}
use Rattle.std.specs.declared.hash.FoldHasher.{FoldHasher}
use Rattle.indexmap.specs.IndexMap.{IndexMap}
use Rattle.code_plan.specs.declared.steps.Plan.{Plan}
use Rattle.go_base.specs.declared.ending.Ending.{Ending}
use Rattle.go_interp.specs.Output.{HasMoved}
use Rattle.go_interp.specs.Ran.{HasRun, IsBare, IsFirst, LeadsTo, with_cells}
use Rattle.go_interp.specs.Steps.{HasSteps}
use Rattle.go_base.specs.declared.ids.TypeId.{TypeId}
use Rattle.go_sched.specs.Goroutines.{State, started, state_of}
use Rattle.go_store.specs.Stores.{Stored, stored}
use Rattle.go_value.specs.Values.{value_of}
use Rattle.interp_state.specs.Asked.{AreAsked, same_pair}
use Rattle.interp_state.specs.declared.machine.TypePair.{TypePair}
use Rattle.interp_state.specs.Machines.{goroutine_of, machine_of}
use Rattle.plan_mean.specs.Calls.{new_goroutine}
use Rattle.ssa_mean.specs.Faults.{naming_of}
use Rattle.interp_state.specs.Turns.{IsIn}
use Rattle.interp_state.specs.declared.machine.Machine.{Machine}
use Rattle.interp_state.specs.declared.machine.Turn.{Turn}
use Rattle.interp_state.specs.declared.machine.Turn.TheVariants as turn
use Rattle.plan_mean.proofs.Fronts.{follow, fronts}
use Rattle.plan_mean.specs.Runs.{behind, first_machine, next_behind, steps, then_step}
use Rattle.plan_mean.specs.State as meant
use Rattle.plan_mean.specs.State.{World, Next, goes, ends}
use Rattle.ssa_ir.specs.declared.code.Code.{Code}

-- from a machine to another, with what was written in front
pub record HasGone (w : World) (old new : Machine) (before after : Option (List ℕ)) : Type 0 where
  pub world : IsIn w new
  pub count : ℕ
  pub front : List ℕ
  pub leads : steps count w (machine_of old) ≡ goes (behind front (machine_of new))
  pub appends : Appends before after front

abbrev pub Goes : Machine → Machine → Option (List ℕ) → Option (List ℕ) → Type 0
Goes old new before after = (w : World) → IsIn w old → HasGone w old new before after

pub not_gone : (m : Machine) (known : Option (List ℕ)) → Goes m m known known
not_gone m known w within =
    record { world = within; count = 0; front = []; leads = refl; appends = Appends-nil known }

-- steps from a machine that is behind
further : (w : World) (n k : ℕ) (m mid : meant.Machine) (front : List ℕ) → steps n w m ≡ goes (behind front mid)
    → steps (n + k) w m ≡ next_behind front (steps k w mid)
further w n k m mid front is = follow w n k m ∙ ap (then_step (steps k w)) is ∙ fronts w front k mid

-- what was kept stands behind what was moved
moved_is : (old new : Machine) (before after : Option (List ℕ)) (moved : HasMoved old new before after)
    → machine_of old ≡ behind moved.front (machine_of new)
moved_is old new before after moved =
    ap (λ (output : List ℕ). record (machine_of old) { output = output }) moved.output
    ∙ sym (ap (λ (m : Machine). behind moved.front (machine_of m)) moved.others)

moved_in : (w : World) (old new : Machine) (before after : Option (List ℕ)) → HasMoved old new before after → IsIn w old → IsIn w new
moved_in w old new before after moved within =
    subst (λ (m : Machine). IsIn w m) (sym moved.others)
    (record { plan = within.plan; naming = within.naming; answers = within.answers; asked = within.asked })

twice : (front more : List ℕ) (m : meant.Machine) → behind front (behind more m) ≡ behind (front ++ more) m
twice front more m = ap (λ (output : List ℕ). record m { output = output }) (sym (append_assoc front more m.output))

-- some steps more, and a piece is written
pub goes_on : (result : Turn) (first old mid new : Machine) (before between after : Option (List ℕ)) → result ≡ turn.Goes
    → Goes first old before between → HasSteps result old mid → HasMoved mid new between after → Goes first new before after
goes_on result first old mid new before between after is gone stepped moved w within =
    let one = gone w within in
    let more = subst (λ (r : Turn). HasSteps r old mid) is stepped in
    let those = more.comes w one.world in
    record {
      world = moved_in w mid new between after moved those.1.0;
      count = one.count + those.0;
      front = one.front ++ moved.front;
      leads =
          further w one.count those.0 (machine_of first) (machine_of old) one.front one.leads
          ∙ ap (next_behind one.front) those.1.1
          ∙ ap (λ (m : meant.Machine). goes (behind one.front m)) (moved_is mid new between after moved)
          ∙ ap goes (twice one.front moved.front (machine_of new));
      appends = Appends-trans before between after one.front moved.front one.appends moved.appends;
    }

-- the rest of the output is written at the end
pub has_ended : (result : Turn) (first old mid : Machine) (it : Ending) (before between after : Option (List ℕ))
    → result ≡ turn.Ends → Goes first old before between → HasSteps result old mid → mid.ending ≡ Some it
    → Appends between after mid.output.items → LeadsTo first it before after
has_ended result first old mid it before between after is gone stepped ending appends w within =
    let one = gone w within in
    let more = subst (λ (r : Turn). HasSteps r old mid) is stepped in
    let those = more.comes w one.world in
    let found : Some those.1.0 ≡ Some it = sym those.1.1.0 ∙ ending in
    let same : those.1.0 ≡ it = cc in (
      one.count + those.0,
      (
        one.front ++ mid.output.items,
        (
          further w one.count those.0 (machine_of first) (machine_of old) one.front one.leads
              ∙ ap (next_behind one.front) those.1.1.1
              ∙ ap (λ (it : Ending). ends it (one.front ++ mid.output.items)) same,
          Appends-trans before between after one.front mid.output.items one.appends appends,
        ),
      ),
    )

-- a run from the first machine
pub has_run : (code : Code) (plan : Plan) (choices : List ℕ) (bound : ℕ) (m : Machine) (it : Ending)
    (before after : Option (List ℕ)) → IsFirst code plan choices bound m → LeadsTo m it before after
    → HasRun code plan choices bound it before after
has_run code plan choices bound m it before after first leads w world =
    let begins = first w world in
    let those = leads w begins.1 in (
      those.1.0,
      (
        record {
          count = those.0;
          leads = ap (steps those.0 w) (sym begins.0) ∙ those.1.1.0;
        },
        those.1.1.1,
      ),
    )

-- whatever the ending is
pub ends_so : {E : Type 0} (outcome : Result Ending E) (result : Turn) (first old mid : Machine)
    (before between after : Option (List ℕ)) → result ≡ turn.Ends → Goes first old before between → HasSteps result old mid
    → IfOk outcome (λ it. (mid.ending ≡ Some it) × Appends between after mid.output.items)
    → IfOk outcome (λ it. LeadsTo first it before after)
ends_so (Ok it) result first old mid before between after is gone stepped done =
    has_ended result first old mid it before between after is gone stepped done.0 done.1
ends_so (Err it) result first old mid before between after is gone stepped done = tt

pub runs_so : {E : Type 0} (outcome : Result Ending E) (code : Code) (plan : Plan) (choices : List ℕ) (bound : ℕ) (m : Machine)
    (before after : Option (List ℕ)) → IsFirst code plan choices bound m
    → IfOk outcome (λ it. LeadsTo m it before after) → IfOk outcome (λ it. HasRun code plan choices bound it before after)
runs_so (Ok it) code plan choices bound m before after first leads =
    has_run code plan choices bound m it before after first leads
runs_so (Err it) code plan choices bound m before after first leads = tt

-- ---- the first machine

nothing_asked : (test : TypeId → TypeId → Bool) (asked : IndexMap TypePair Bool (BuildHasherDefault FoldHasher))
    → asked.entries ≡ [] → AreAsked test asked
nothing_asked test asked none it answer found =
    let no : None ≡ Some answer = sym (ap (lookup (same_pair it)) none) ∙ found in
    absurd cc

whole : List meant.Goroutine → meant.Goroutine → ℕ → Stored → State → ℕ → List ℕ → meant.Machine
whole others current begun store sched ticks output =
    record {
      others = others;
      current = current;
      started = begun;
      store = store;
      sched = sched;
      ticks = ticks;
      output = output;
    }

-- a machine that is ready, from one without anything
pub first_is : (code : Code) (plan : Plan) (choices : List ℕ) (bound : ℕ) (m new : Machine) → m.code.now ≡ code
    → m.plan.now ≡ plan → stored m.store ≡ record { cells = []; maps = [] } → state_of m.sched ≡ started choices false
    → m.goroutines.items ≡ [] → goroutine_of m.current ≡ new_goroutine None → m.started ≡ 0 → m.ticks ≡ bound
    → m.output.items ≡ [] → m.implemented.entries ≡ []
    → stored new.store ≡ with_cells (map value_of m.plan.now.variables.items) (stored m.store)
    → map goroutine_of new.goroutines.items ≡ map goroutine_of m.goroutines.items ++ new_goroutine None ∷ []
    → new ≡ record m { store = new.store; goroutines = new.goroutines } → IsFirst code plan choices bound new
unfolding first_machine whole
first_is code plan choices bound m new code_is plan_is store sched none current begun ticks output asked cells goroutine others w world =
    let numbered : map goroutine_of new.goroutines.items ≡ new_goroutine None ∷ [] =
    goroutine ∙ ap (λ items. map goroutine_of items ++ new_goroutine None ∷ []) none in
    let kept : stored new.store ≡ record { cells = map value_of w.plan.variables.items; maps = [] } =
    cells ∙ ap (with_cells (map value_of m.plan.now.variables.items)) store
    ∙ ap (λ (p : Plan). with_cells (map value_of p.variables.items) (record { cells = []; maps = [] }))
    (plan_is ∙ world.plan_is) in (
      ap machine_of others
          ∙ ap (λ it. whole it (goroutine_of m.current) m.started (stored new.store) (state_of m.sched) m.ticks m.output.items) numbered
          ∙ ap (λ it. whole (new_goroutine None ∷ []) it m.started (stored new.store) (state_of m.sched) m.ticks m.output.items) current
          ∙ ap (λ it. whole (new_goroutine None ∷ []) (new_goroutine None) it (stored new.store) (state_of m.sched) m.ticks m.output.items) begun
          ∙ ap (λ it. whole (new_goroutine None ∷ []) (new_goroutine None) 0 it (state_of m.sched) m.ticks m.output.items) kept
          ∙ ap (λ it. whole (new_goroutine None ∷ []) (new_goroutine None) 0 (record { cells = map value_of w.plan.variables.items; maps = [] }) it m.ticks m.output.items) sched
          ∙ ap (λ it. whole (new_goroutine None ∷ []) (new_goroutine None) 0 (record { cells = map value_of w.plan.variables.items; maps = [] }) (started choices false) it m.output.items) ticks
          ∙ ap (λ it. whole (new_goroutine None ∷ []) (new_goroutine None) 0 (record { cells = map value_of w.plan.variables.items; maps = [] }) (started choices false) bound it) output,
      record {
        plan = ap (λ (m : Machine). m.plan.now) others ∙ plan_is ∙ world.plan_is;
        naming = ap (λ (m : Machine). naming_of m.code.now) others ∙ ap naming_of code_is ∙ world.naming;
        answers = world.answers;
        asked = subst (λ (m : Machine). AreAsked w.answers.implements m.implemented) (sym others)
            (nothing_asked w.answers.implements m.implemented asked);
      },
    )

pub first_from : (code : Code) (plan : Plan) (choices : List ℕ) (bound : ℕ) (sched : State) (m new : Machine)
    → IsBare code plan sched bound m → sched ≡ started choices false
    → stored new.store ≡ with_cells (map value_of m.plan.now.variables.items) (stored m.store)
    → map goroutine_of new.goroutines.items ≡ map goroutine_of m.goroutines.items ++ new_goroutine None ∷ []
    → new ≡ record m { store = new.store; goroutines = new.goroutines } → IsFirst code plan choices bound new
first_from code plan choices bound sched m new is begins cells goroutine others =
    first_is code plan choices bound m new is.code_is is.plan_is is.store (is.sched_is ∙ begins) is.none is.current is.begun
    is.ticks is.output is.asked cells goroutine others
