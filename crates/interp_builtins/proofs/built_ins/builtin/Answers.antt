use Rattle.std.proofs.Common.{map, refl, subst}
use Rattle.go_store.specs.Stores.{stored}
use Rattle.go_value.specs.Values.{value_of}
use Rattle.go_value.specs.declared.values.Value.{Value}
use Rattle.interp_builtins.proofs.Done.{done_in, for_form}
use Rattle.interp_builtins.specs.Done.{IsDoneIn}
use Rattle.ssa_mean.specs.BuiltIns.{clear_slice}
use Rattle.interp_builtins.proofs.built_ins.builtin.Goals as goal

pub returns-in-Append-clause-done : goal.returns-in-Append-clause-done
returns-in-Append-clause-done c = λ w within.
    for_form w c.args.form.now _ c.append.result c.args.machine.now c.append.new.machine c.in-Append.is
    (done_in c.append.result c.args.machine.now c.append.new.machine _ c.append.ensures.others c.append.ensures.done)

pub returns-in-AppendSlice-clause-done : goal.returns-in-AppendSlice-clause-done
returns-in-AppendSlice-clause-done c = λ w within.
    for_form w c.args.form.now _ c.append_all.result c.args.machine.now c.append_all.new.machine c.in-AppendSlice.is
    (done_in c.append_all.result c.args.machine.now c.append_all.new.machine _ c.append_all.ensures.others
    c.append_all.ensures.done)

pub returns-in-AppendText-clause-done : goal.returns-in-AppendText-clause-done
returns-in-AppendText-clause-done c = λ w within.
    for_form w c.args.form.now _ c.append_all-in-AppendText.result c.args.machine.now
    c.append_all-in-AppendText.new.machine c.in-AppendText.is
    (done_in c.append_all-in-AppendText.result c.args.machine.now c.append_all-in-AppendText.new.machine _
    c.append_all-in-AppendText.ensures.others c.append_all-in-AppendText.ensures.done)

pub returns-in-Copy-clause-done : goal.returns-in-Copy-clause-done
returns-in-Copy-clause-done c = λ w within.
    for_form w c.args.form.now _ c.copy.result c.args.machine.now c.copy.new.machine c.in-Copy.is
    (done_in c.copy.result c.args.machine.now c.copy.new.machine _ c.copy.ensures.others c.copy.ensures.done)

pub returns-in-CopyText-clause-done : goal.returns-in-CopyText-clause-done
returns-in-CopyText-clause-done c = λ w within.
    for_form w c.args.form.now _ c.copy-in-CopyText.result c.args.machine.now c.copy-in-CopyText.new.machine
    c.in-CopyText.is
    (done_in c.copy-in-CopyText.result c.args.machine.now c.copy-in-CopyText.new.machine _
    c.copy-in-CopyText.ensures.others c.copy-in-CopyText.ensures.done)

pub returns-in-ClearMap-clause-done : goal.returns-in-ClearMap-clause-done
returns-in-ClearMap-clause-done c = λ w within.
    for_form w c.args.form.now _ c.clear_map.result c.args.machine.now c.clear_map.new.machine c.in-ClearMap.is
    (done_in c.clear_map.result c.args.machine.now c.clear_map.new.machine _ c.clear_map.ensures.others
    c.clear_map.ensures.done)

pub returns-in-ClearSlice-clause-done : goal.returns-in-ClearSlice-clause-done
returns-in-ClearSlice-clause-done c = λ w within.
    for_form w c.args.form.now _ c.clear_slice.result c.args.machine.now c.clear_slice.new.machine c.in-ClearSlice.is
    (done_in c.clear_slice.result c.args.machine.now c.clear_slice.new.machine _ c.clear_slice.ensures.others
    (subst (λ (zero : Value). IsDoneIn c.clear_slice.result (stored c.args.machine.now.store)
    (stored c.clear_slice.new.machine.store)
    (clear_slice (stored c.args.machine.now.store) (value_of zero) (map value_of c.args.machine.now.waiting.items)))
    c.deref.ensures c.clear_slice.ensures.done))

pub returns-in-Delete-clause-done : goal.returns-in-Delete-clause-done
returns-in-Delete-clause-done c = λ w within.
    for_form w c.args.form.now _ c.delete.result c.args.machine.now c.delete.new.machine c.in-Delete.is
    (done_in c.delete.result c.args.machine.now c.delete.new.machine _ c.delete.ensures.others
    (c.delete.ensures.done w within))

pub returns-in-Max-clause-done : goal.returns-in-Max-clause-done
returns-in-Max-clause-done c = λ w within.
    for_form w c.args.form.now _ c.extreme.result c.args.machine.now c.args.machine.now c.in-Max.is
    (done_in c.extreme.result c.args.machine.now c.args.machine.now _ refl c.extreme.ensures)

pub returns-in-Min-clause-done : goal.returns-in-Min-clause-done
returns-in-Min-clause-done c = λ w within.
    for_form w c.args.form.now _ c.extreme-in-Min.result c.args.machine.now c.args.machine.now c.in-Min.is
    (done_in c.extreme-in-Min.result c.args.machine.now c.args.machine.now _ refl c.extreme-in-Min.ensures)

pub returns-in-Cap-clause-done : goal.returns-in-Cap-clause-done
returns-in-Cap-clause-done c = λ w within.
    for_form w c.args.form.now _ c.given_capacity.result c.args.machine.now c.args.machine.now c.in-Cap.is
    (done_in c.given_capacity.result c.args.machine.now c.args.machine.now _ refl c.given_capacity.ensures)

pub returns-in-Len-clause-done : goal.returns-in-Len-clause-done
returns-in-Len-clause-done c = λ w within.
    for_form w c.args.form.now _ c.given_length.result c.args.machine.now c.args.machine.now c.in-Len.is
    (done_in c.given_length.result c.args.machine.now c.args.machine.now _ refl c.given_length.ensures)
