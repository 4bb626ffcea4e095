use Rattle.std.proofs.Common.{◌≡◌, ◌∙◌, ap, sym}
use Rattle.cg_numbers.specs.Alike.{bare}
use Rattle.cg_numbers.specs.declared.likeness.Likeness.{Likeness}
use Rattle.cg_numbers.proofs.Lists.{inserted}
use Rattle.cg_sets.specs.Classes.{key_of}
use Rattle.cg_sets.proofs.Keys.{name_stored}
use Rattle.cg_sets.proofs.classes.Classes.add_method.Goals as goal

pub returns-clause-puts : goal.returns-clause-puts
returns-clause-puts c =
    let e = c.args.entry.now in
    let s = c.in_ok-name.ensures.stored in
    record {
      names = inserted _ _ _ _ c.in_ok-name.ensures.keys;
      name = c.in_ok-name.name;
      named = name_stored _ c.in_ok-name.name (key_of e) s.0 s.1 s.2;
      method = record { of = c.bare-bare.result; aiming = c.in_ok-aiming.aiming };
      stands = record { of = c.bare-bare.ensures ∙ ap (λ (l : Likeness). bare l.types l.bares e.of) (sym c.in_ok-aiming.ensures.extends.likeness); aims = c.in_ok-aiming.ensures.aims };
      at = λ k j. c.in_ok-insert.ensures.updates.0 (record { class = k; name = j });
      having = c.in_ok-put.ensures;
    }
