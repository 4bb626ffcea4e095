use Rattle.go_type.proofs.Growing.{same_term_at, same_underlying, comparable_kept, leaves_kept, nesting_kept}
use Rattle.go_type.proofs.laws.settled_types_stay.Goals as goal

pub returns : goal.returns
returns c = record {
  terms = λ p a settled h. same_term_at c.args.old.now c.args.later.now c.laws.ensures c.laws-2.ensures c.requires p settled a h;
  underlying = λ p a settled h. same_underlying c.args.old.now c.args.later.now c.laws.ensures c.laws-2.ensures c.requires p settled a h;
  comparable = λ p a settled h. comparable_kept c.args.old.now c.args.later.now c.laws.ensures c.laws-2.ensures c.requires p settled a h;
  leaves = λ p a n settled h. leaves_kept c.args.old.now c.args.later.now c.laws.ensures c.laws-2.ensures c.requires p settled n a h;
  nesting = λ p a n settled h. nesting_kept c.args.old.now c.args.later.now c.laws.ensures c.laws-2.ensures c.requires p settled n a h;
}
