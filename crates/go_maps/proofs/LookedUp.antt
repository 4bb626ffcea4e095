-- What keys are looked up by: integers by themselves, others by their code.
use Rattle.std.proofs.Common.{◌≡◌, refl}
use Rattle.std.proofs.lemmas.List.{map-append}
use Rattle.std.proofs.lemmas.Option.{slice_get-map}
use Rattle.go_value.specs.Values as vals
use Rattle.go_value.specs.Values.{Val}
use Rattle.go_maps.specs.Keys.{code, key_code, of_bytes}
use Rattle.go_maps.proofs.KindsOf.{kind, numbers}

pub other_key : (v : Val) → (kind v ≡ numbers → ⊥) → of_bytes (code v) ≡ key_code v
other_key (vals.number x) h = absurd (h refl)
other_key (vals.dynamic x y) h = refl
other_key (vals.parts x) h = refl
other_key (vals.truth x) h = refl
other_key (vals.text x) h = refl
other_key (vals.pointer x) h = refl
other_key (vals.slice x) h = refl
other_key (vals.map_number x) h = refl
other_key (vals.chan_number x) h = refl
other_key vals.nil_function h = refl
other_key vals.nil_interface h = refl
other_key (vals.closure x y) h = refl
other_key (vals.bound x y) h = refl
other_key (vals.expression x y z) h = refl
other_key (vals.text_range x y) h = refl
other_key (vals.map_range x y) h = refl

pub ruleset appending = (map-append)

pub ruleset mapped = (slice_get-map)
