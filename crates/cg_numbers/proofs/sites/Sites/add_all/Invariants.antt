use Rattle.std.proofs.Common.{◌≡◌, ◌++◌, List, map, take}
use Rattle.cg_numbers.specs.Sites.{Collects, Among, Met, met_in}
use Rattle.cg_numbers.proofs.sites.Sites.add_all.Given as goal

abbrev pub invariant-loop-mention : goal.invariant-loop-mention
invariant-loop-mention l = record {
  types : l.self.numbers.likeness ≡ l.fn.self.numbers.likeness;
  met : (met : List Met) → Collects (Among met) l.fn.self → Collects (Among (met ++ map (met_in l.function) (take l.mention-index l.mentions))) l.self;
}
