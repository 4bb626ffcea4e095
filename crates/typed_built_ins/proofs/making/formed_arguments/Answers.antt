use Rattle.std.proofs.Common.{◌≡◌, refl, sym, ap, ◌∙◌, List, [], ◌∷◌, ◌++◌, length, append_assoc, arith}
use Rattle.std.specs.Vec.Iter.{into_iter_items}
use Rattle.go_type.specs.Table.{Table}
use Rattle.typed_parts.specs.Judged.{reported}
use Rattle.typed_built_ins.specs.Making.{Form, added, added_broken, form_broken, form_in, form_of}
use Rattle.typed_built_ins.proofs.Makes.{form_broken_more, form_more, reports_more, same_types}
use Rattle.typed_built_ins.proofs.making.formed_arguments.Goals as goal

pub loop-argument-preserved : goal.loop-argument-preserved
loop-argument-preserved c =
    let at = c.loop-argument in
    let x = c.in-Some.argument in
    let old = c.args.ground.now in
    let types = old.types in
    let place = c.args.call.at in
    let steps : into_iter_items at.argument-iterator ≡ x ∷ into_iter_items c.next.new.self = c.in-Some.ensures.steps.0 in
    let same = same_types old at.ground (form_broken types at.yielded) at.invariant.broken in
    let added_here = c.in_ok-add.ensures.broken
    ∙ (ap (λ (t : Table). reported at.ground (added_broken t at.formed.has_form x)) same
    ∙ ap (λ (f : Form). reported at.ground (added_broken types f.is_written x)) at.invariant.form) in
    record {
      rest = append_assoc at.yielded (x ∷ []) _ ∙ rw (← steps) at.invariant.rest;
      form = c.in_ok-add.ensures.formed
          ∙ (ap (λ (t : Table). added t (form_of at.formed) x) same
          ∙ (ap (λ (f : Form). added types f x) at.invariant.form ∙ sym (form_more types place at.yielded x)));
      broken = reports_more old at.ground c.add.new.ground (form_broken types at.yielded) (added_broken types (form_in types place at.yielded).is_written x)
          (form_broken types (at.yielded ++ x ∷ [])) at.invariant.broken added_here (form_broken_more types place at.yielded x);
      counted = let was = at.invariant.counted in let gone = c.in-Some.ensures.steps.1 in let short = ap length steps in omega arith;
    }
