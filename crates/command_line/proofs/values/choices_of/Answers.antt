use Rattle.std.proofs.Common.{◌≡◌, ◌<◌, None, Some, length, sym, ap, ◌∙◌, arith, lit<}
use Rattle.std.specs.List.{slice_split}
use Rattle.std.proofs.lemmas.Iterator.Consumers.{YieldsList-turn, YieldsList-end}
use Rattle.std.proofs.lemmas.Iterator.Splits.{YieldsList-from_str_split}
use Rattle.std.proofs.lemmas.Bool.Decides.{nat_tests}
use Rattle.std.proofs.lemmas.List.{length_push}
use Rattle.command_line.specs.Values.{is_comma, number, up_to}
use Rattle.command_line.proofs.Parts.{choices_of-parts, choices_in-none, choices_in-some, choices_in-end}
use Rattle.command_line.proofs.values.choices_of.Goals as goal

pub returns-in_default : goal.returns-in_default
returns-in_default c =
    let text = c.args.text.now in
    let parts = slice_split is_comma text in
    let at = YieldsList-turn (YieldsList-from_str_split 44 text (lit< tt) (cc) (cc) (cc)) c.loop-part.yielded _ c.loop-part.yielded_by _ _ c.in-Some.part c.in-Some.is c.next.ensures.steps in
    let read : up_to 4294967295 (number c.in-Some.part.now) ≡ None =
    ap (λ t. up_to 4294967295 (number t)) (sym c.as_bytes.ensures.value) ∙ sym c.number_up_to.ensures ∙ c.in_default.is in
    let filled : 0 < length text = grind (arith, nat_tests) in
    sym (choices_of-parts text filled ∙ c.loop-part.invariant.2 ∙ choices_in-none c.loop-part.numbers.items parts (length c.loop-part.yielded) c.in-Some.part.now at read)

pub loop-part-preserved : goal.loop-part-preserved
loop-part-preserved c =
    let text = c.args.text.now in
    let parts = slice_split is_comma text in
    let at = YieldsList-turn (YieldsList-from_str_split 44 text (lit< tt) (cc) (cc) (cc)) c.loop-part.yielded _ c.loop-part.yielded_by _ _ c.in-Some.part c.in-Some.is c.next.ensures.steps in
    let read : up_to 4294967295 (number c.in-Some.part.now) ≡ Some c.in-Some-number_up_to.number =
    ap (λ t. up_to 4294967295 (number t)) (sym c.as_bytes.ensures.value) ∙ sym c.number_up_to.ensures ∙ c.in-Some-number_up_to.is in
    let reached = c.loop-part.invariant.2 ∙ choices_in-some c.loop-part.numbers.items parts (length c.loop-part.yielded) c.in-Some.part.now c.in-Some-number_up_to.number at read in
    let longer = length_push c.loop-part.yielded c.in-Some.part in
    (tt, tt, rw (c.in_ok-push.ensures.items, longer) reached)

pub returns : goal.returns
returns c =
    let text = c.args.text.now in
    let parts = slice_split is_comma text in
    let at = YieldsList-end (YieldsList-from_str_split 44 text (lit< tt) (cc) (cc) (cc)) c.loop-part.yielded _ c.loop-part.yielded_by _ _ c.in-None.is c.next.ensures.steps in
    let filled : 0 < length text = grind (arith, nat_tests) in
    ap Some c.new-2.ensures ∙ sym (choices_of-parts text filled ∙ c.loop-part.invariant.2 ∙ choices_in-end c.loop-part.numbers.items parts (length c.loop-part.yielded) (omega (arith, at.1)))
