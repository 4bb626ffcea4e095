use Rattle.go_type.proofs.Growing.{grows_term, grows_next, grows_underlying, grows_method, grows_on}
use Rattle.go_type.proofs.laws.types_grow.Goals as goal

pub returns : goal.returns
returns c = record {
  held = grows_term c.args.types.now;
  declared = grows_next c.args.types.now;
  defined = grows_underlying c.args.types.now c.laws.ensures;
  methods = grows_method c.args.types.now c.laws.ensures;
  on = grows_on c.args.types.now;
}
