use Rattle.std.proofs.Common.{sym, ◌∙◌}
use Rattle.typed_calls.proofs.Packs.{packs_all, packs_none, unpacked}
use Rattle.typed_calls.proofs.packing.packed.Goals as goal

pub returns-in_default : goal.returns-in_default
returns-in_default c = unpacked c.args.ground.now c.args.plan c.args.values c.in_default.is

pub returns-in-Some-only : goal.returns-in-Some-only
returns-in-Some-only c =
    let apart = c.in_ok-apart.apart in
    packs_all c.args.ground.now c.fit_many-fits.new.self c.args.plan c.in-Some.slice c.in-Some.elem c.args.values.items apart c.in_ok-fits.apart c.in-Some-only.apart c.len.result
    c.fit_many-fits.result c.in_ok-fits.fits c.joined.result c.sound.result c.in-Some.is c.in_ok-apart.ensures.first c.in_ok-apart.ensures.others (c.len.ensures ∙ apart.items.ok.0)
    c.fit_many-fits.ensures (sym c.beside.ensures ∙ c.in_ok-fits.was) (sym c.only.ensures ∙ c.in-Some-only.is) c.joined.ensures c.sound.ensures

pub returns-in-None : goal.returns-in-None
returns-in-None c =
    let apart = c.in_ok-apart.apart in
    packs_none c.args.ground.now c.fit_many-fits.new.self c.args.plan c.in-Some.slice c.in-Some.elem c.args.values.items apart c.in_ok-fits.apart c.len.result
    c.fit_many-fits.result c.in_ok-fits.fits c.in-Some.is c.in_ok-apart.ensures.first c.in_ok-apart.ensures.others (c.len.ensures ∙ apart.items.ok.0)
    c.fit_many-fits.ensures (sym c.beside.ensures ∙ c.in_ok-fits.was) (sym c.only.ensures ∙ c.in-None.is)
