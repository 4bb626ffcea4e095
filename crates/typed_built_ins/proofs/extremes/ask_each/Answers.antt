use Rattle.std.proofs.Common.{◌≡◌, ap, sym, ◌∙◌, ◌+◌, take}
use Rattle.std.specs.Prelude.{◌&&◌, Bool}
use Rattle.go_type.specs.Table.{Table}
use Rattle.typed_parts.specs.Judged.{reported}
use Rattle.typed_built_ins.specs.Extremes.{are_taken, each_broken, is_taken, taken_broken}
use Rattle.typed_built_ins.proofs.Greatest.{next_broken, next_taken}
use Rattle.typed_built_ins.proofs.Makes.{reports_more, same_types}
use Rattle.typed_built_ins.proofs.extremes.ask_each.Goals as goal

pub loop-argument-preserved : goal.loop-argument-preserved
loop-argument-preserved c =
    let at = c.loop-argument in
    let old = c.args.ground.now in
    let types = old.types in
    let all = c.args.arguments.now in
    let i = at.argument-index in
    let x = c.argument-item.result in
    let same = same_types old at.ground (each_broken types (take i all)) at.invariant.broken in
    let told : c.ask_one-taken.result ≡ is_taken types x = c.ask_one-taken.ensures.taken ∙ ap (λ (t : Table). is_taken t x) same in
    record {
      taken = ap (λ (b : Bool). b && c.ask_one-taken.result) at.invariant.taken
          ∙ (ap (λ (b : Bool). are_taken types (take i all) && b) told ∙ sym (next_taken types all i x c.loop-argument-test.true c.argument-item.is));
      broken = reports_more old at.ground c.ask_one-taken.new.ground (each_broken types (take i all)) (taken_broken types x) (each_broken types (take (i + 1) all))
          at.invariant.broken (c.ask_one-taken.ensures.broken ∙ ap (λ (t : Table). reported at.ground (taken_broken t x)) same)
          (next_broken types all i x c.loop-argument-test.true c.argument-item.is);
    }
