use Rattle.std.proofs.Common.{◌∙◌, refl, sym, ap, subst, Option, Result}
use Rattle.std.specs.Prelude.{ℤ, ◌&&◌}
use Rattle.go_base.specs.declared.memory.NoMemory.{NoMemory}
use Rattle.go_tree.specs.declared.exprs.TypedExpr.{TypedExpr}
use Rattle.typed_parts.specs.Judged.{reported}
use Rattle.typed_parts.specs.Turning.{Turns}
use Rattle.typed_primaries.specs.Slicing.{IsSliced, within_broken}
use Rattle.typed_primaries.proofs.Slices.{all_asked, slice_allowed, slice_refused}
use Rattle.typed_primaries.proofs.slicing.slice_within.Goals as goal

pub returns-in-Some : goal.returns-in-Some
returns-in-Some c =
    let old = c.args.ground.now in
    let two = c.ask_full-full.new.ground in
    let new = c.sliced.new.ground in
    let may = ((c.args.ordered && c.ask_within-within.result) && c.ask_full-full.result) && c.are_sound.result in
    let asked = all_asked c.args.shape c.args.x.expr c.args.bounds c.args.ordered c.ask_within-within.result c.ask_full-full.result
    c.are_sound.result may c.known_length.result c.requires c.known_length.ensures c.ask_within-within.ensures.holds
    c.ask_full-full.ensures.holds c.are_sound.ensures refl in
    slice_allowed old c.ask_within-within.new.ground two new c.args.x c.in-Some.x c.args.shape c.args.bounds c.in-Some.bounds
    may c.only.result c.sound.result asked
    (c.ask_within-within.ensures.broken ∙ ap (λ (n : Option ℤ). reported old (within_broken n c.args.bounds)) c.known_length.ensures)
    c.ask_full-full.ensures.broken c.only.ensures c.in-Some.is
    (subst (λ (r : Result (Option TypedExpr) NoMemory). Turns two new r (IsSliced c.in-Some.x c.args.shape c.in-Some.bounds)) (sym c.sound.ensures) c.sliced.ensures)

pub returns-in-None : goal.returns-in-None
returns-in-None c =
    let old = c.args.ground.now in
    let may = ((c.args.ordered && c.ask_within-within.result) && c.ask_full-full.result) && c.are_sound.result in
    let asked = all_asked c.args.shape c.args.x.expr c.args.bounds c.args.ordered c.ask_within-within.result c.ask_full-full.result
    c.are_sound.result may c.known_length.result c.requires c.known_length.ensures c.ask_within-within.ensures.holds
    c.ask_full-full.ensures.holds c.are_sound.ensures refl in
    slice_refused old c.ask_within-within.new.ground c.ask_full-full.new.ground c.args.x c.args.shape c.args.bounds
    may c.only.result asked
    (c.ask_within-within.ensures.broken ∙ ap (λ (n : Option ℤ). reported old (within_broken n c.args.bounds)) c.known_length.ensures)
    c.ask_full-full.ensures.broken c.only.ensures c.in-None.is
