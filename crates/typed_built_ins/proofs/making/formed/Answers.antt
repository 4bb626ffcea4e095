use Rattle.std.proofs.Common.{◌≡◌, ap, sym, ◌∙◌, subst, true, false, Some, None, Option}
use Rattle.std.specs.Global.{Vec}
use Rattle.typed_parts.specs.declared.meaning.Given.{Given}
use Rattle.typed_built_ins.specs.Making.{IsMake, form_of}
use Rattle.typed_parts.specs.Turning.{Turns}
use Rattle.typed_built_ins.proofs.Grows.{no_first, same_some, zip_first, zip_second}
use Rattle.typed_built_ins.proofs.Makes.{forms_made, forms_nothing, made_by}
use Rattle.typed_built_ins.proofs.making.formed.Goals as goal

pub returns-in_default : goal.returns-in_default
returns-in_default c =
    let f = c.in_ok-formed.formed in
    forms_nothing c.args.ground.now c.formed_arguments.new.ground c.asked_form-form.new.ground c.args.call c.args.arguments.items (form_of f) c.asked_form-form.result
    c.in_ok-formed.ensures.formed c.in_ok-formed.ensures.broken c.asked_form-form.ensures.answer c.asked_form-form.ensures.broken
    (no_first c.asked_form-form.result f.sizes (sym c.zip.ensures ∙ c.in_default.is))

pub returns-then-is_new : goal.returns-then-is_new
returns-then-is_new c =
    let f = c.in_ok-formed.formed in
    let pair = sym c.zip.ensures ∙ c.in-Some.is in
    forms_made c.args.ground.now c.formed_arguments.new.ground c.asked_form-form.new.ground c.new_of.new.ground c.args.call c.args.arguments.items (form_of f) c.asked_form-form.result
    c.in-Some.form c.new_of.result c.in_ok-formed.ensures.formed c.in_ok-formed.ensures.broken c.asked_form-form.ensures.answer c.asked_form-form.ensures.broken
    (zip_first c.asked_form-form.result (Some f.sizes) c.in-Some.form c.in-Some.sizes pair)
    (made_by c.asked_form-form.new.ground c.new_of.new.ground c.args.call c.in-Some.form f.sizes.items true c.is_new.result c.new_of.result c.is_new.ensures c.if-is_new.true c.new_of.ensures)

pub returns : goal.returns
returns c =
    let f = c.in_ok-formed.formed in
    let pair = sym c.zip.ensures ∙ c.in-Some.is in
    let list = same_some f.sizes c.in-Some.sizes (zip_second c.asked_form-form.result (Some f.sizes) c.in-Some.form c.in-Some.sizes pair) in
    forms_made c.args.ground.now c.formed_arguments.new.ground c.asked_form-form.new.ground c.make_of.new.ground c.args.call c.args.arguments.items (form_of f) c.asked_form-form.result
    c.in-Some.form c.make_of.result c.in_ok-formed.ensures.formed c.in_ok-formed.ensures.broken c.asked_form-form.ensures.answer c.asked_form-form.ensures.broken
    (zip_first c.asked_form-form.result (Some f.sizes) c.in-Some.form c.in-Some.sizes pair)
    (made_by c.asked_form-form.new.ground c.make_of.new.ground c.args.call c.in-Some.form f.sizes.items false c.is_new.result c.make_of.result c.is_new.ensures c.if-is_new.false
    (subst (λ (v : Vec (Option Given)). Turns c.asked_form-form.new.ground c.make_of.new.ground c.make_of.result (IsMake c.args.call c.in-Some.form v.items)) (sym list) c.make_of.ensures))
