-- Parts that came and are sound, put together.
use Rattle.std.specs.Prelude.{List, ◌++◌, ◌∷◌, [], Bool, if◌then◌else◌, Option, Some, None, Result, Ok, Err}
use Rattle.std.specs.Global.{Vec}
use Rattle.std.specs.Option.{option_zip}
use Rattle.go_base.specs.declared.rule.Rule.{Rule}
use Rattle.typed_parts.specs.declared.meaning.Given.{Given}
use Rattle.typed_parts.specs.Judged.{Judged, fine, breaks}

-- two parts that came
abbrev pub paired : {A B C E : Type 0} → (A → B → C) → Result A E → Result B E → Result C E
paired f (Ok x) (Ok y) = Ok (f x y)
paired f (Ok x) (Err error) = Err error
paired f (Err error) other = Err error

abbrev pub beside : {A B E : Type 0} → Result A E → B → Result (A × B) E
beside (Ok x) y = Ok (x, y)
beside (Err error) y = Err error

abbrev pub both : {A B E : Type 0} → Result (Option A) E → Result (Option B) E → Result (Option (A × B)) E
both = paired option_zip

abbrev pub sound : {A E : Type 0} → Result A E → Result (Option A) E
sound (Ok x) = Ok (Some x)
sound (Err error) = Err error

abbrev pub only : {A : Type 0} → Option A → Bool → Option A
only part holds = if holds then part else None

abbrev pub with_last : {A : Type 0} → Option (List A) → Option A → Option (List A)
with_last (Some items) (Some last) = Some (items ++ last ∷ [])
with_last (Some items) None = None
with_last None last = None

-- the list that a vector holds
abbrev pub items_of : {A : Type 0} → Option (Vec A) → Option (List A)
items_of (Some v) = Some v.items
items_of None = None

abbrev pub listed : {A E : Type 0} → Result (Option (Vec A)) E → Result (Option (List A)) E
listed (Ok v) = Ok (items_of v)
listed (Err error) = Err error

-- a value of which something was asked
abbrev pub asked : Given → Bool → Rule → Judged Given
asked given holds rule = if holds then fine given else breaks given.at rule
