use Rattle.std.proofs.Common.{◌≤◌, length, ◌∙◌, ap, arith}
use Rattle.cg_listing.specs.Listing.{naming, name_of, name_in}
use Rattle.cg_listing.proofs.Naming.{texts_named, name_past}
use Rattle.cg_listing.proofs.names.texts_of.Goals as goal

pub returns : goal.returns
returns c = λ function.
    let p = c.args.program.now in
    let all : length p.functions ≤ c.loop-number.number = omega (arith, c.len-number-end.ensures) in
    ap (λ texts. name_in texts function) c.loop-number.invariant
    ∙ texts_named (name_of p) c.loop-number.number (λ k h. name_past (length p.functions) (naming p) p.functions k (omega arith)) function
