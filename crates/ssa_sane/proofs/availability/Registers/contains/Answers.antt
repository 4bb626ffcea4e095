use Rattle.std.proofs.Common.{◌≡◌, ◌∙◌, sym, ap, List, ℕ, Contains, subst}
use Rattle.ssa_sane.specs.Homes.{home_of}
use Rattle.ssa_sane.specs.Places.{registers_at, has_open}
use Rattle.ssa_sane.specs.declared.places.Places.{Places}
use Rattle.ssa_sane.proofs.Listed.{registers_iff}
use Rattle.ssa_sane.proofs.availability.Registers.contains.Goals as goal

pub returns : goal.returns
returns c =
    let places = c.self.inside.places.value in
    let block = c.self.inside.block in
    let is = registers_iff places c.self.invariant.1 block c.args.register in
    let has : c.has.result ≡ has_open places block (home_of places.homes c.args.register) =
    c.has.ensures ∙ ap (λ (p : Places). has_open p block (home_of p.homes c.args.register)) c.deref.ensures in
    let view : registers_at places block ≡ c.args.self.now = c.self.view_is in (
      λ t. subst (λ (l : List ℕ). Contains l c.args.register) view (is.0 (sym has ∙ t)),
      λ g. has ∙ is.1 (subst (λ (l : List ℕ). Contains l c.args.register) (sym view) g),
    )
