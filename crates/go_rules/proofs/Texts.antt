-- Texts one behind the other.
use Rattle.std.proofs.Common.{◌≡◌, ℕ, ◌<◌, Bool, true, false, cond, List, ◌++◌, length, Result, Ok, Err, refl, arith}
use Rattle.std.specs.Prelude.{nat_lt, ◌↔◌, IsErrOf}
use Rattle.std.proofs.lemmas.Bool.Decides.{nat_tests}
use Rattle.go_base.specs.declared.rule.Rule.TheVariants.{ConstantOutOfRange}
use Rattle.go_type.specs.declared.constants.Const.TheVariants as constant
use Rattle.go_type.specs.declared.constants.ConstError.{ConstError}
use Rattle.go_type.specs.declared.constants.ConstError.TheVariants as error
use Rattle.go_type.specs.Constants.{max_text}
use Rattle.go_rules.specs.Breaches.{whole}
use Rattle.go_rules.specs.Folding.{text_folded}

within : (n m : ℕ) → (m < n → ⊥) → nat_lt m n ≡ false
within n m h = grind (arith, nat_tests)

above : (n m : ℕ) → m < n → nat_lt m n ≡ true
above n m h = grind (arith, nat_tests)

-- texts that were joined are a text
pub text_joined : (a b joined : List ℕ) → (IsErrOf {T = List ℕ} (Ok joined) error.TooLong ↔ (max_text < length (a ++ b))) → joined ≡ a ++ b → text_folded a b ≡ Ok (constant.Text joined)
text_joined a b joined fits is =
    let short : max_text < length (a ++ b) → ⊥ = λ long. (let bad = fits.1 long in cc) in
    let test = within (length (a ++ b)) max_text short in
    rw (test, is) refl

-- and texts that are too long are none
pub text_too_long : (a b : List ℕ) → max_text < length (a ++ b) → text_folded a b ≡ Err (whole ConstantOutOfRange)
text_too_long a b long = let test = above (length (a ++ b)) max_text long in rw test refl
