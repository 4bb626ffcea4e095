-- Which bytes are text.
use Rattle.std.proofs.Common.{◌≡◌, ℕ, List, true, false, refl}
use Rattle.std.specs.Str.{is_utf8, IsUtf8}
use Rattle.std.proofs.lemmas.Str.{IsUtf8-from_is_utf8, is_utf8-from_IsUtf8}

pub text_is : (bytes : List ℕ) → IsUtf8 bytes → is_utf8 bytes ≡ true
text_is bytes text = is_utf8-from_IsUtf8 bytes text

pub text_is_not : (bytes : List ℕ) → ¬ IsUtf8 bytes → is_utf8 bytes ≡ false
text_is_not bytes none =
    elim (is_utf8 bytes) as (λ b. is_utf8 bytes ≡ b → b ≡ false) [ true ↦ λ e. absurd (none (IsUtf8-from_is_utf8 bytes e)) | false ↦ λ e. refl ] refl

pub ruleset text_tests = (text_is, text_is_not)
