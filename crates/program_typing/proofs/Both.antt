-- Tests that are joined.
use Rattle.std.proofs.Common.{◌≡◌, refl, ◌∙◌}
use Rattle.std.specs.Prelude.{Bool, true, false, ◌&&◌, Result, IfOk}
use Rattle.std.proofs.lemmas.Result.{IfOk-weaker}

pub and_true : (a : Bool) → a && true ≡ a
and_true true = refl
and_true false = refl

-- a result that is told, by another name
pub told_as : {E : Type 0} (r : Result Bool E) (x y : Bool) → IfOk r (λ b. b ≡ x) → x ≡ y → IfOk r (λ b. b ≡ y)
told_as r x y h e = IfOk-weaker r (λ b. b ≡ x) (λ b. b ≡ y) (λ b p. p ∙ e) h
