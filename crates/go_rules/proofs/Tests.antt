-- Tests that are the same.
use Rattle.std.proofs.Common.{◌≡◌, subst, sym}
use Rattle.std.specs.Prelude.{Bool, IsTrue, ◌↔◌}

-- two tests that are one are true together
pub same_test : (b c : Bool) → b ≡ c → IsTrue b ↔ IsTrue c
same_test b c e = (subst IsTrue e, subst IsTrue (sym e))
