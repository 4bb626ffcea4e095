use Rattle.std.specs.Cmp.{nat_eq_equiv}
use Rattle.std.proofs.lemmas.Map.Views.{hash_set_contains_iff, exact_unsigned_eq}
use Rattle.import_graph.proofs.cycles.reaches.Goals as goal

pub returns : goal.returns
returns c =
    let seen = hash_set_contains_iff nat_eq_equiv exact_unsigned_eq c.in_ok-nodes.nodes c.args.end in
    let led = c.in_ok-nodes.ensures c.args.end in
    rw c.contains.ensures (λ is. led.0 (seen.0 is), λ way. seen.1 (led.1 way))
