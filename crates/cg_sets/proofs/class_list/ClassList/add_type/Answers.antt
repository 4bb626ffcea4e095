use Rattle.std.proofs.Common.{◌≡◌, refl}
use Rattle.cg_numbers.proofs.Collecting.{extends_self}
use Rattle.cg_numbers.proofs.Lists.{grown_by}
use Rattle.cg_sets.proofs.ClassLists.{lists_that, stays, grows, has_stored, valued_same, valued_more}
use Rattle.cg_sets.proofs.class_list.ClassList.add_type.Goals as goal

pub returns-then-not-is_new-clause-extends : goal.returns-then-not-is_new-clause-extends
returns-then-not-is_new-clause-extends c = extends_self c.args.numbers.now

pub returns-then-not-is_new-clause-valued : goal.returns-then-not-is_new-clause-valued
returns-then-not-is_new-clause-valued c = valued_same c.args.numbers.now _ _ _ (stays _ _ _ _ _ c.in_ok-is_new.ensures.keys c.in_ok-is_new.ensures.added c.if-not-is_new.true)

pub returns-then-not-is_new-clause-listed : goal.returns-then-not-is_new-clause-listed
returns-then-not-is_new-clause-listed c = let s = c.in_ok-is_new.ensures.stored in lists_that _ _ c.args.of (grown_by _ _ _ _ c.in_ok-is_new.ensures.keys) (has_stored _ _ c.args.of s.0 s.1 s.2)

pub returns-clause-valued : goal.returns-clause-valued
returns-clause-valued c =
    valued_more c.args.numbers.now c.bare_value.new.self _ _ _ _ c.args.of _ c.in_ok-value.ensures.extends (grows _ _ _ _ _ c.in_ok-is_new.ensures.keys c.in_ok-is_new.ensures.added c.if-not-is_new.false) c.in_ok-push.ensures.items c.in_ok-value.ensures.ok

pub returns-clause-listed : goal.returns-clause-listed
returns-clause-listed c = let s = c.in_ok-is_new.ensures.stored in lists_that _ _ c.args.of (grown_by _ _ _ _ c.in_ok-is_new.ensures.keys) (has_stored _ _ c.args.of s.0 s.1 s.2)
