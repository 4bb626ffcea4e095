use Rattle.go_type.specs.Table.{Table}
use Rattle.std.proofs.Common.{Some}
use Rattle.go_base.specs.declared.rule.Rule.TheVariants.{BadIndex}
use Rattle.typed_parts.specs.declared.meaning.Given.{Given}
use Rattle.typed_parts.specs.Judged.{Exactly, and_then}
use Rattle.typed_parts.specs.Meanings.{one_value}
use Rattle.typed_parts.specs.Wholes.{IsWhole}
use Rattle.typed_parts.proofs.Steps.{exactly, rest_comes}
use Rattle.typed_literals.specs.Arrays.{constant_given}
use Rattle.typed_literals.proofs.arrays.index_key.Goals as goal

pub returns : goal.returns
returns c =
    let old = c.args.ground.now in
    let mid = c.constant_key-key.new.ground in
    let rule = and_then (one_value old.types c.args.key) constant_given in
    let key = c.constant_key-key.result in
    rest_comes old mid c.whole_index.new.ground (Exactly rule) (λ (types : Table) (x : Given). IsWhole types (Some x) BadIndex) key c.whole_index.result
    (exactly old mid rule key c.constant_key-key.ensures.answer c.constant_key-key.ensures.broken) c.whole_index.ensures
