use Rattle.std.proofs.Common.{◌≡◌, ◌∙◌, ap, sym, reverse, None, Some}
use Rattle.std.specs.Vec.{with_items}
use Rattle.std.proofs.lemmas.List.{with_items_is}
use Rattle.flow_rules.specs.Surroundings.{is_meant, levels_to, left}
use Rattle.flow_rules.proofs.Levels.{seen, after_break, after_no_break}
use Rattle.flow_rules.proofs.branches.Branches.break_levels.Goals as goal

pub returns-in_err-levels-clause-behind : goal.returns-in_err-levels-clause-behind
returns-in_err-levels-clause-behind c =
    rw (← c.self.view_is) (
    let s = c.self.inside in
    let labels = with_items_is s.labels c.name_labels.new.labels (c.name_labels.auto.labels ∙ c.deref_mut.ensures.len) in
    let none : levels_to (is_meant c.args.label) (reverse s.around.items) ≡ None =
    ap (λ l. levels_to (is_meant c.args.label) (reverse l)) (sym c.deref.ensures.value) ∙ sym c.in_err-levels.ensures.levels in
    ap (λ l. seen s.declared.keys l s.around.items) labels
    ∙ after_no_break s.declared.keys s.labels.items c.deref_mut.result.now c.name_labels.new.labels s.around.items c.args.label c.deref_mut.ensures.value c.name_labels.ensures none
    )

pub returns-clause-behind : goal.returns-clause-behind
returns-clause-behind c =
    rw (← c.self.view_is) (
    let s = c.self.inside in
    let test = is_meant c.args.label in
    let labels = with_items_is s.labels c.name_labels.new.labels (c.name_labels.auto.labels ∙ c.deref_mut.ensures.len) in
    let around = with_items_is s.around c.leave_at.new.around (c.leave_at.auto.around ∙ c.deref_mut-2.ensures.len) in
    let some : levels_to test (reverse c.deref_mut-2.result.now) ≡ Some c.in_ok-levels.levels =
    ap (λ l. levels_to test (reverse l)) (c.deref_mut-2.ensures.value ∙ sym c.deref.ensures.value) ∙ sym c.in_ok-levels.ensures.levels in
    ap (λ l. seen s.declared.keys l (with_items s.around c.leave_at.new.around).items) labels ∙ ap (seen s.declared.keys c.name_labels.new.labels) around
    ∙ after_break s.declared.keys s.labels.items c.deref_mut.result.now c.name_labels.new.labels s.around.items c.leave_at.new.around c.args.label c.deref_mut.ensures.value c.name_labels.ensures
    (c.leave_at.ensures test some ∙ ap (λ l. left test (reverse l)) c.deref_mut-2.ensures.value)
    )
