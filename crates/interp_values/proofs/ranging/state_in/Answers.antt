use Rattle.std.proofs.Common.{◌∙◌, ap, sym}
use Rattle.std.specs.Global.{Box}
use Rattle.go_value.specs.Values.{range_of, value_of}
use Rattle.go_value.specs.declared.values.RangeState.{RangeState}
use Rattle.interp_values.proofs.ranging.state_in.Goals as goal

pub returns-in-Iter : goal.returns-in-Iter
returns-in-Iter c =
    ap value_of c.in-Iter.is ∙ ap range_of
    (sym (c.replace.ensures.value ∙ c.deref_mut.ensures.value ∙ ap (λ (it : Box RangeState). it.value)
    c.in-Iter.state-is))
