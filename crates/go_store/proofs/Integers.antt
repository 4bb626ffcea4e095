-- Parts that are integers.
use Rattle.std.proofs.Common.{◌≡◌, ◌<◌, List, length, get_or, false, is_none, subst, ap, ◌∙◌, Option, Some, None, ℕ, ℤ, pos}
use Rattle.std.proofs.lemmas.List.{get_or_default}
use Rattle.go_value.specs.Kinds.{integer}
use Rattle.go_value.specs.Values as vals
use Rattle.go_value.specs.Values.{Val, Field}
use Rattle.go_store.specs.Cells.{IsPlain, plain_number}

pub integer_from : (it : Val) (n : ℤ) → Some n ≡ integer it → it ≡ vals.number n
integer_from (vals.truth a) n h = cc
integer_from (vals.number a) n h = cc
integer_from (vals.text a) n h = cc
integer_from (vals.pointer a) n h = cc
integer_from (vals.slice a) n h = cc
integer_from (vals.map_number a) n h = cc
integer_from (vals.chan_number a) n h = cc
integer_from vals.nil_function n h = cc
integer_from (vals.closure a b) n h = cc
integer_from (vals.bound a b) n h = cc
integer_from (vals.expression a b c) n h = cc
integer_from vals.nil_interface n h = cc
integer_from (vals.dynamic a b) n h = cc
integer_from (vals.parts a) n h = cc
integer_from (vals.text_range a b) n h = cc
integer_from (vals.map_range a b) n h = cc

plain_by : (it : Field) (n : ℤ) → it.blank ≡ false → Some n ≡ integer it.value → it ≡ plain_number n
plain_by it n blank is =
    ap (λ v. record { value = v; blank = it.blank }) (integer_from it.value n is)
    ∙ ap (λ b. record { value = vals.number n; blank = b }) blank

pub plain_from : (it : Field) (o : Option ℤ) → it.blank ≡ false → o ≡ integer it.value → is_none o ≡ false → IsPlain it
plain_from it None blank is some = cc
plain_from it (Some n) blank is some = (n, plain_by it n blank is)

-- the integer of a plain part
pub plain_integer : (it : Field) (n : ℤ) → it ≡ plain_number n → integer it.value ≡ Some n
plain_integer it n h = ap (λ (f : Field). integer f.value) h

pub plain_at : (parts : List Field) (i : ℕ) (d e it : Field) → i < length parts → it ≡ get_or parts i d → IsPlain it → IsPlain (get_or parts i e)
plain_at parts i d e it below is h = subst IsPlain (is ∙ get_or_default parts i d e below) h

pub plain_byte_from : (it : Field) (n : ℤ) (b : ℕ) → it.blank ≡ false → Some n ≡ integer it.value → n ≡ pos b → it ≡ plain_number (pos b)
plain_byte_from it n b blank is same = plain_by it n blank is ∙ ap plain_number same
