-- Built-in functions in planned code. Go specification, "Built-in functions".
use Rattle.std.specs.Prelude.{List, [], ◌∷◌}
use Rattle.code_plan.specs.declared.steps.BuiltinForm.{BuiltinForm}
use Rattle.code_plan.specs.declared.steps.BuiltinForm.TheVariants as form
use Rattle.go_sched.specs.Goroutines.{State}
use Rattle.go_store.specs.Stores.{Stored}
use Rattle.go_value.specs.Values.{Val, map_number, value_of}
use Rattle.plan_mean.specs.MapCalls.{deleted}
use Rattle.ssa_mean.specs.Answers.{Answers}
use Rattle.ssa_mean.specs.BuiltIns.{Done, writes, append_items, append_elements, copy, clear_slice, clear_map, changes}
use Rattle.ssa_mean.specs.BuiltIns.{length_of, capacity_of, counted, greatest_of, least_of, extreme}
use Rattle.ssa_mean.specs.Comes.{Comes, to, nowhere, then_to}
use Rattle.ssa_mean.specs.Texts.{printed_all, printed_line}

abbrev pub delete : Answers → Stored → List Val → Comes Done
delete answers store (map_number id ∷ key ∷ []) = then_to changes (deleted answers.comparable store id key)
delete answers store _ = nowhere

-- what a call of one gives that neither switches nor panics nor recovers
abbrev pub built_in_call : Answers → Stored → State → BuiltinForm → List Val → Comes Done
built_in_call answers store sched (form.Append leaves) arguments = append_items leaves store arguments
built_in_call answers store sched (form.AppendSlice leaves) arguments = append_elements leaves store arguments
built_in_call answers store sched (form.AppendText leaves) arguments = append_elements leaves store arguments
built_in_call answers store sched form.Cap arguments = counted store (capacity_of sched) arguments
built_in_call answers store sched form.Len arguments = counted store (length_of store sched) arguments
built_in_call answers store sched form.ClearMap arguments = clear_map store arguments
built_in_call answers store sched (form.ClearSlice zero) arguments =
    clear_slice store (value_of zero.value) arguments
built_in_call answers store sched form.Copy arguments = copy store arguments
built_in_call answers store sched form.CopyText arguments = copy store arguments
built_in_call answers store sched form.Delete arguments = delete answers store arguments
built_in_call answers store sched form.Max arguments = extreme store greatest_of arguments
built_in_call answers store sched form.Min arguments = extreme store least_of arguments
built_in_call answers store sched form.Print arguments = to (writes store (printed_all arguments))
built_in_call answers store sched form.Println arguments = to (writes store (printed_line arguments))
built_in_call answers store sched _ arguments = nowhere
