use Rattle.std.proofs.Common.{◌≡◌, ap, sym, ◌∙◌, ◌+◌, take, List}
use Rattle.std.specs.Prelude.{not, ◌&&◌, Bool}
use Rattle.go_type.specs.declared.term.Field.{Field}
use Rattle.go_type.specs.Table.{Table}
use Rattle.typed_parts.specs.Judged.{reported}
use Rattle.typed_literals.specs.Composing.{broken_where}
use Rattle.typed_parts.specs.Shapes.{fields_of}
use Rattle.typed_literals.specs.Structs.{are_open, closed_broken, is_open}
use Rattle.typed_literals.proofs.Gathering.{reports_more, same_types}
use Rattle.typed_literals.proofs.Structures.{next_closed, next_open}
use Rattle.typed_literals.proofs.structs.ask_open.Goals as goal

pub loop-number-preserved : goal.loop-number-preserved
loop-number-preserved c =
    let at = c.loop-number in
    let old = c.args.ground.now in
    let all = c.args.elements.now in
    let i = at.number in
    let x = c.index-elements-number.result in
    let of = c.args.package in
    let fields = fields_of old.types c.args.of in
    let same = same_types old at.ground (closed_broken fields of (take i all)) at.invariant.broken in
    let told : c.is_open-is_open.result ≡ is_open fields of i =
    c.is_open-is_open.ensures ∙ (ap (λ (fs : List Field). is_open fs of i) c.fields_of.ensures.fields ∙ ap (λ (t : Table). is_open (fields_of t c.args.of) of i) same) in
    record {
      open_ones = ap (λ (b : Bool). b && c.ask_at-open.result) at.invariant.open_ones
          ∙ (ap (λ (b : Bool). are_open fields of (take i all) && b) (c.ask_at-open.ensures.told ∙ told)
          ∙ sym (next_open fields of all i x c.loop-number-test.true c.index-elements-number.is));
      broken = reports_more old at.ground c.ask_at-open.new.ground (closed_broken fields of (take i all)) (broken_where x.at (not (is_open fields of i)))
          (closed_broken fields of (take (i + 1) all)) at.invariant.broken
          (c.ask_at-open.ensures.broken ∙ ap (λ (b : Bool). reported at.ground (broken_where x.at (not b))) told) (next_closed fields of all i x c.loop-number-test.true c.index-elements-number.is);
    }
