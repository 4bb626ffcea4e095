use Rattle.std.proofs.Common.{◌≡◌, sym, ap, subst, ◌∙◌, Some, Ok, Bool, true}
use Rattle.std.specs.Option.{option_zip}
use Rattle.std.specs.Prelude.{not, nat_eq}
use Rattle.indexmap.specs.IndexSet.{Updates, contains}
use Rattle.typed_parts.specs.Joining.{beside}
use Rattle.typed_parts.specs.Judged.{Outcome, reported}
use Rattle.typed_parts.proofs.Turns.{first_came, second_stays}
use Rattle.typed_literals.specs.declared.structs.Element.{Element}
use Rattle.typed_literals.specs.Composing.{broken_where}
use Rattle.typed_parts.specs.Shapes.{fields_of}
use Rattle.typed_literals.specs.Structs.{IsValueOf}
use Rattle.typed_literals.proofs.Keys.{if_ok, keyed_made, keyed_nothing, on_ok, taken_more, taken_same}
use Rattle.typed_literals.proofs.Structures.{zip_first, zip_nothing, zip_second}
use Rattle.typed_literals.proofs.structs.keyed_field.Goals as goal

pub returns-in_default : goal.returns-in_default
returns-in_default c =
    let old = c.args.ground.now in
    let mid = c.field_of_key-found.new.ground in
    let element = c.args.element in
    let answer = c.field_of_key-found.result in
    let none = zip_nothing answer element (sym c.zip.ensures ∙ c.in_default.is) in
    record {
      is = λ before taken. keyed_nothing old mid c.args.of before element answer c.field_of_key-found.ensures.answer c.field_of_key-found.ensures.broken none;
      taken = λ before taken. taken_same (fields_of old.types c.args.of) before element answer c.args.taken.now taken c.field_of_key-found.ensures.answer none;
    }

pub returns : goal.returns
returns c =
    let old = c.args.ground.now in
    let mid = c.field_of_key-found.new.ground in
    let last = c.ask_new.new.ground in
    let new = c.field_value.new.ground in
    let element = c.args.element in
    let answer = c.field_of_key-found.result in
    let found = c.in-Some.found in
    let told = c.in_ok-is_new.is_new in
    let pair : option_zip answer (Some element) ≡ Some (found, c.in-Some.element) = sym c.zip.ensures ∙ c.in-Some.is in
    let first = zip_first answer element found c.in-Some.element pair in
    let same = zip_second answer element found c.in-Some.element pair in
    let whole : beside c.ask_new.result c.in-Some.element ≡ Ok (told, c.in_ok-is_new.element) = sym c.beside.ensures ∙ c.in_ok-is_new.was in
    let came = first_came told c.in_ok-is_new.element c.ask_new.result c.in-Some.element whole in
    let kept = second_stays told c.in_ok-is_new.element c.ask_new.result c.in-Some.element whole in
    let is_new = if_ok (λ (b : Bool). b ≡ not (contains nat_eq c.args.taken.now found.0)) c.ask_new.result told came c.ask_new.ensures.new in
    let broken = if_ok (λ (b : Bool). last ≡ reported mid (broken_where element.at (not b))) c.ask_new.result told came c.ask_new.ensures.broken in
    let updates = on_ok (Updates nat_eq c.args.taken.now c.ask_new.new.taken found.0 true) c.ask_new.result told came c.ask_new.ensures.taken in
    let value = subst (λ (e : Element). Outcome last new c.in_ok-value.value (IsValueOf last.types e.value found)) (sym (same ∙ kept)) c.in_ok-value.ensures in
    record {
      is = λ before taken. keyed_made old mid last new c.args.of before element answer found.0 found.1 told c.in_ok-value.value c.only.result
          c.field_of_key-found.ensures.answer c.field_of_key-found.ensures.broken first (is_new ∙ ap not (taken found.0)) broken value c.only.ensures;
      taken = λ before taken. taken_more (fields_of old.types c.args.of) before element answer found.0 found.1 c.args.taken.now c.ask_new.new.taken taken
          c.field_of_key-found.ensures.answer first updates.0;
    }
