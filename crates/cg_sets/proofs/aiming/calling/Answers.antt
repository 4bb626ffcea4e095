use Rattle.std.proofs.Common.{◌≡◌, ap}
use Rattle.cg_numbers.specs.declared.numbers.Numbers.{Numbers}
use Rattle.cg_sets.specs.Embedding.{receiver_of}
use Rattle.cg_sets.proofs.Aims.{calling_aims}
use Rattle.cg_sets.proofs.aiming.calling.Goals as goal

pub returns-clause-aims : goal.returns-clause-aims
returns-clause-aims c = λ kind.
    let p = c.args.program.now in
    let e = c.args.entry.now in
    let n = c.args.numbers.now in
    let is : c.receiver_of-place.result ≡ receiver_of n.likeness.types p.functions c.args.class e.path c.args.function = cc in
    calling_aims n c.node.new.self p.functions c.args.class e c.args.function _ c.receiver_of-place.result c.in_ok-receiver.ensures.extends is c.in_ok-receiver.ensures.ok kind

pub returns-clause-values : goal.returns-clause-values
returns-clause-values c = ap (λ (n : Numbers). n.values) c.node.ensures.same
