use Rattle.std.proofs.Common.{◌≡◌, sym, ◌∙◌, refl}
use Rattle.typed_parts.specs.Limits.{IsLimited, basis}
use Rattle.typed_parts.proofs.Told.{granted_as, limited, not_limited, refused_as}
use Rattle.typed_parts.proofs.ground.Ground.within_limits.Goals as goal

pub returns-then-is_some : goal.returns-then-is_some
returns-then-is_some c =
    let old = c.args.self.now in
    let mid = c.leaves_within.new.self in
    granted_as old mid (IsLimited c.args.at c.args.of) c.in_ok-leaves_within.ensures.keeps
    (limited c.args.at c.args.of (basis old) (basis mid) c.in_ok-leaves_within.field-0 c.in_ok-leaves_within.ensures.told (sym c.is_some.ensures ∙ c.if-is_some.true))

pub returns : goal.returns
returns c =
    let old = c.args.self.now in
    let mid = c.leaves_within.new.self in
    refused_as old mid c.report.new.self c.args.at (IsLimited c.args.at c.args.of) _ refl c.in_ok-leaves_within.ensures.keeps c.report.ensures
    (not_limited c.args.at c.args.of (basis old) (basis mid) c.in_ok-leaves_within.field-0 c.in_ok-leaves_within.ensures.told (sym c.is_some.ensures ∙ c.if-is_some.false))
