-- What calls of built-in functions come to, by what their parts do.
use Rattle.std.proofs.Common.{◌≡◌, ◌∙◌, ap, sym, subst, ℕ, ℤ, pos, List, [], ◌∷◌, ◌++◌, append-nil, map, Option}
use Rattle.std.proofs.Common.{Some, None}
use Rattle.std.proofs.Common.{option_map, Result, Ok, Err}
use Rattle.code_plan.specs.declared.steps.Arg.{Arg}
use Rattle.code_plan.specs.declared.steps.BuiltinForm.{BuiltinForm}
use Rattle.code_plan.specs.declared.steps.BuiltinForm.TheVariants as form
use Rattle.go_sched.specs.Goroutines.{state_of}
use Rattle.go_store.specs.Stores.{Stored, stored}
use Rattle.go_value.specs.Values as vals
use Rattle.go_value.specs.Values.{Val, value_of}
use Rattle.go_value.specs.declared.values.Value.{Value}
use Rattle.go_value.specs.declared.values.Value.TheVariants as values
use Rattle.interp_builtins.specs.Done.{Finishes, IsDone, IsDoneIn}
use Rattle.interp_state.proofs.Tops.{with_current_in}
use Rattle.interp_state.proofs.Turns.{from_unseen, goes_to, stored_is, wants, wrote_in, wrote_is}
use Rattle.interp_state.specs.Machines.{machine_of}
use Rattle.interp_state.specs.States.{Wrote, looked}
use Rattle.interp_state.specs.Turns.{ComesTo, IsIn, IsUnseen, Steps}
use Rattle.interp_state.specs.declared.machine.Machine.{Machine}
use Rattle.interp_state.specs.declared.machine.Met.{Met}
use Rattle.interp_state.specs.declared.machine.Met.TheVariants as met
use Rattle.interp_state.specs.declared.machine.Turn.{Turn}
use Rattle.interp_state.specs.declared.machine.Turn.TheVariants as turn
use Rattle.plan_mean.specs.BuiltIns.{built_in_call}
use Rattle.plan_mean.specs.Operands.{look_at_all}
use Rattle.plan_mean.specs.State as meant
use Rattle.plan_mean.specs.State.{World, Next, goes, where_there, with_result}
use Rattle.plan_mean.specs.Step.{calls_built_in, finishes, panic_of, recovers_in}
use Rattle.plan_mean.specs.Unwinding.{meets, panics_with}
use Rattle.ssa_mean.specs.BuiltIns.{Done, counted, gives, length_of}
use Rattle.ssa_mean.specs.Comes.{Comes, to, of_option, then_to}

-- ---- what is on its way is not seen

pub on_the_way : (old new : Machine) → new ≡ record old { waiting = new.waiting } → IsUnseen old new
on_the_way old new is =
    record {
      machine = ap machine_of is;
      world = λ w within. subst (λ (m : Machine). IsIn w m) (sym is)
          (record { plan = within.plan; naming = within.naming; answers = within.answers; asked = within.asked });
    }

-- a step of a machine as it is with other values on their way
pub with_others : (result : Turn) (old mid new : Machine) (next : World → meant.Machine → Next)
    → mid ≡ record old { waiting = mid.waiting } → Steps result mid new (λ w. next w (machine_of mid))
    → Steps result old new (λ w. next w (machine_of old))
with_others result old mid new next is step =
    from_unseen result old mid new (λ w. next w (machine_of old)) (on_the_way old mid is)
    (subst (λ (m : meant.Machine). Steps result mid new (λ w. next w m)) (ap machine_of is) step)

-- what a step leads to may be told otherwise
pub told : (result : Turn) (old new : Machine) (one other : World → Next) → ((w : World) → other w ≡ one w)
    → Steps result old new one → Steps result old new other
told result old new one other same step =
    record {
      comes = λ w within. subst (λ (next : Next). ComesTo w result new next) (sym (same w))
          (step.comes w within);
    }

-- ---- lengths

pub counts : (store : Stored) (slot : Option ℕ) (count : Option ℕ) (it : ℤ) → option_map pos count ≡ Some it
    → then_to (λ n. gives store (vals.number (pos n))) (of_option count) ≡ to (gives store (vals.number it))
counts store slot (Some n) it is = let same : pos n ≡ it = cc in ap (λ n. to (gives store (vals.number n))) same
counts store slot None it is = cc

pub counts_as : (count : Val → Option ℕ) (value it : Val) (n : ℕ) (z : ℤ) → value ≡ it → count it ≡ Some n → z ≡ pos n
    → option_map pos (count value) ≡ Some z
counts_as count value it n z is one same =
    ap (λ it. option_map pos (count it)) is ∙ ap (option_map pos) one ∙ ap (λ z. Some z) (sym same)

-- nothing is written
with_nothing : (m : meant.Machine) → record m { output = m.output ++ [] } ≡ m
with_nothing m = ap (λ output. record m { output = output }) (append-nil m.output)

pub len_is : (result : Turn) (old new : Machine) (arg : Arg) (slot : ℕ) (value : Val) (it : ℤ)
    → looked old arg ≡ Some value → option_map pos (length_of (stored old.store) (state_of old.sched) value) ≡ Some it
    → result ≡ turn.Goes → Wrote slot (vals.number it) old new
    → Steps result old new (λ w. where_there (calls_built_in w (machine_of old) (Some slot) form.Len)
    (look_at_all (machine_of old) (arg ∷ [])))
len_is result old new arg slot value it found count is wrote =
    let m = machine_of old in
    record {
      comes = λ w within. goes_to w result new
          (where_there (calls_built_in w m (Some slot) form.Len) (look_at_all m (arg ∷ []))) is
          (wrote_in w slot (vals.number it) old new wrote within)
          (ap (λ o. where_there (calls_built_in w m (Some slot) form.Len) (one_of o)) found
          ∙ ap (finishes w m (Some slot)) (counts m.store (Some slot) (length_of m.store m.sched value) it count)
          ∙ ap (λ m. goes (with_result (Some slot) (Some (vals.number it)) m)) (with_nothing m)
          ∙ ap goes (sym (wrote_is slot (vals.number it) old new wrote)));
    }
  where
    one_of : Option Val → Option (List Val)
    one_of None = None
    one_of (Some it) = Some (it ∷ [])

pub counted_is : (store : Stored) (count : Val → Option ℕ) (its : List Val) (value : Val) (it : ℤ) → its ≡ value ∷ []
    → option_map pos (count value) ≡ Some it → counted store count its ≡ to (gives store (vals.number it))
counted_is store count its value it are is = ap (counted store count) are ∙ counts store None (count value) it is

-- ---- what a built-in function does that neither switches nor panics nor recovers

-- where it changes the store alone
pub done_in : (outcome : Result (Option Value) Met) (old new : Machine) (wanted : Comes Done)
    → new ≡ record old { store = new.store } → IsDoneIn outcome (stored old.store) (stored new.store) wanted
    → IsDone outcome old new wanted
done_in (Ok it) old new wanted is done =
    ([], (ap (λ (m : Machine). m.output.items) is ∙ sym (append-nil old.output.items), done))
done_in (Err (met.Fault it)) old new wanted is done =
    (done.0, stored_is old new is ∙ ap (λ (store : Stored). record (machine_of old) { store = store }) done.1)
done_in (Err met.Memory) old new wanted is done = tt

-- where it writes alone
pub done_out : (it : Option Value) (old new : Machine) (written : List ℕ) → new ≡ record old { output = new.output }
    → new.output.items ≡ old.output.items ++ written
    → IsDone (Ok it) old new (to (record {
      value = option_map value_of it;
      store = stored old.store;
      written = written;
    }))
done_out it old new written is are = (
  written,
  (
    are,
    ap (λ (m : Machine). to (record {
      value = option_map value_of it;
      store = stored m.store;
      written
          = written;
    })) (sym is),
  ),
)

-- a register gets what it gives
pub finished : (slot : Option ℕ) (outcome : Result (Option Value) Met) (comes : World → Comes Done) (result : Turn)
    (old mid late new : Machine) → mid ≡ record old { store = mid.store; output = mid.output }
    → late ≡ record mid { waiting = late.waiting } → Finishes slot outcome result late new
    → ((w : World) → IsIn w old → IsDone outcome old mid (comes w))
    → Steps result old new (λ w. finishes w (machine_of old) slot (comes w))
finished slot (Ok it) comes result old mid late new changed cleared given done =
    record {
      comes = λ w within. let (written, both) = done w within in let output = both.0 in let is = both.1 in
          goes_to w result new (finishes w (machine_of old) slot (comes w)) given.0
          (given.1.1 w ((on_the_way mid late cleared).world w (in_changed w within)))
          (ap (finishes w (machine_of old) slot) is
          ∙ ap (λ output. goes (with_result slot (option_map value_of it)
          (record (machine_of old) { store = stored mid.store; output = output }))) (sym output)
          ∙ ap (λ m. goes (with_result slot (option_map value_of it) m)) (sym (ap machine_of cleared
          ∙ ap machine_of changed))
          ∙ ap goes (sym given.1.0));
    }
  where
    in_changed : (w : World) → IsIn w old → IsIn w mid
    in_changed w within =
        subst (λ (m : Machine). IsIn w m) (sym changed)
        (record { plan = within.plan; naming = within.naming; answers = within.answers; asked = within.asked })
finished slot (Err (met.Fault it)) comes result old mid late new changed cleared given done =
    record {
      comes = λ w within. subst (λ (next : Next). ComesTo w result new next)
          (ap (meets w it) (ap machine_of cleared ∙ (done w within).1)
          ∙ sym (ap (finishes w (machine_of old) slot) (done w within).0))
          (given.comes w ((on_the_way mid late cleared).world w (in_changed w within)));
    }
  where
    in_changed : (w : World) → IsIn w old → IsIn w mid
    in_changed w within =
        subst (λ (m : Machine). IsIn w m) (sym changed)
        (record { plan = within.plan; naming = within.naming; answers = within.answers; asked = within.asked })
finished slot (Err met.Memory) comes result old mid late new changed cleared given done =
    wants result old new (λ w. finishes w (machine_of old) slot (comes w)) given

-- a register gets what `recover` gives
pub recovered_to : (slot : Option ℕ) (it : Value) (result : Turn) (old mid new : Machine)
    → mid ≡ record old { current = mid.current }
    → recovers_in (machine_of old) slot (machine_of old).current.frames
    ≡ goes (with_result slot (Some (value_of it)) (machine_of mid)) → Finishes slot (Ok (Some it)) result mid new
    → Steps result old new (λ w. recovers_in (machine_of old) slot (machine_of old).current.frames)
recovered_to slot it result old mid new changed is given =
    record {
      comes = λ w within. goes_to w result new (recovers_in (machine_of old) slot
          (machine_of old).current.frames) given.0
          (given.1.1 w (with_current_in w old mid mid.current changed within)) (is ∙ ap goes (sym given.1.0));
    }

-- a panic with the one value that was on its way
pub panicked_with : (result : Turn) (old mid new : Machine) (it : Val) → mid ≡ record old { waiting = mid.waiting }
    → map value_of old.waiting.items ≡ it ∷ [] → Steps result mid new (λ w. panics_with w (machine_of mid) it)
    → Steps result old new (λ w. panic_of w (machine_of old) (map value_of old.waiting.items))
panicked_with result old mid new it is one step =
    told result old new (λ w. panics_with w (machine_of old) it)
    (λ w. panic_of w (machine_of old) (map value_of old.waiting.items)) (λ w. ap (panic_of w (machine_of old)) one)
    (with_others result old mid new (λ w m. panics_with w m it) is step)

-- a call with its arguments on their way
pub called : (result : Turn) (old mid new : Machine) (it : BuiltinForm) (args : List Arg) (slot : Option ℕ)
    (its : List Val) → mid ≡ record old { waiting = mid.waiting } → look_at_all (machine_of old) args ≡ Some its
    → map value_of mid.waiting.items ≡ its
    → Steps result mid new (λ w. calls_built_in w (machine_of mid) slot it (map value_of mid.waiting.items))
    → Steps result old new (λ w. where_there (calls_built_in w (machine_of old) slot it) (look_at_all
    (machine_of old) args))
called result old mid new it args slot its is are waiting step =
    told result old new (λ w. calls_built_in w (machine_of old) slot it (map value_of mid.waiting.items))
    (λ w. where_there (calls_built_in w (machine_of old) slot it) (look_at_all (machine_of old) args))
    (λ w. ap (where_there (calls_built_in w (machine_of old) slot it)) are
    ∙ ap (calls_built_in w (machine_of old) slot it) (sym waiting))
    (with_others result old mid new (λ w m. calls_built_in w m slot it (map value_of mid.waiting.items)) is step)

-- of a form that is known
pub for_form : (w : World) (it known : BuiltinForm) (outcome : Result (Option Value) Met) (old new : Machine)
    → it ≡ known
    → IsDone outcome old new
    (built_in_call w.answers (stored old.store) (state_of old.sched) known (map value_of old.waiting.items))
    → IsDone outcome old new
    (built_in_call w.answers (stored old.store) (state_of old.sched) it (map value_of old.waiting.items))
for_form w it known outcome old new is done =
    subst (λ (it : BuiltinForm). IsDone outcome old new
    (built_in_call w.answers (stored old.store) (state_of old.sched) it (map value_of old.waiting.items))) (sym is) done

pub int_given : (store : Stored) (z it : ℤ) → z ≡ it
    → ◌≡◌ {A = Comes Done} (to (gives store (vals.number it)))
    (to (record { value = Some (value_of (values.Int z)); store = store; written = [] }))
int_given store z it is = ap (λ it. to (gives store it)) (sym (ap vals.number is))
