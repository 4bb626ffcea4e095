use Rattle.go_type.proofs.Settled.{identical_on, finds_kept, member_kept, implements_kept, assignable_kept}
use Rattle.go_type.proofs.laws.settled_selectors_stay.Goals as goal

pub returns : goal.returns
returns c = record {
  identity = λ a b. (identical_on c.args.old.now c.args.later.now c.laws.ensures a b, identical_on c.args.later.now c.args.old.now c.laws-2.ensures a b);
  finds = finds_kept c.args.old.now c.args.later.now c.laws.ensures c.laws-2.ensures c.requires;
  implements = λ p a interface settled keeps h k. implements_kept c.args.old.now c.args.later.now c.laws.ensures c.laws-2.ensures c.requires p settled keeps a interface h k;
  assignable = assignable_kept c.args.old.now c.args.later.now c.laws.ensures c.laws-2.ensures c.requires;
  members = member_kept c.args.old.now c.args.later.now c.laws.ensures c.laws-2.ensures c.requires;
}
