use Rattle.std.proofs.Common.{◌≡◌, ◌++◌, ◌∷◌, [], false, cond, ap, sym, subst, ◌∙◌, None}
use Rattle.std.specs.List.{list_any}
use Rattle.go_type.specs.Held.{IsHeld}
use Rattle.go_type.specs.Table.{Table, same_term, with_next}
use Rattle.go_type.proofs.Kept.{held_next, next_is}
use Rattle.go_type.proofs.types.Types.add.Goals as goal

pub invariant_of-self-in-Ok : goal.invariant_of-self-in-Ok
invariant_of-self-in-Ok c =
    subst IsHeld (sym (next_is _ c.args.self.now c.self.view_is c.args.term c.insert.new.self.keys c.push.new.self.items c.new.result c.requires.next c.in-Ok.ensures.keys c.in_ok-push.ensures.items c.new.ensures))
    (held_next _ c.args.self.now c.self.view_is c.self.invariant c.args.term c.requires.parts c.requires.next c.requires.fields c.requires.ordered)
