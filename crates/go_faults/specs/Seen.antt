-- What a checker sees in a part of a program: something sound, or nothing, and the rules that are broken in it.
use Rattle.std.specs.Prelude.{List, [], ◌∷◌, ◌++◌, Option, Some, None}
use Rattle.std.specs.Option.{option_map}
use Rattle.go_faults.specs.declared.fault.Fault.{Fault}

pub record Seen (A : Type 0) : Type 0 where
  pub sound : Option A
  pub broken : List Fault

-- it is sound
abbrev pub fine : {A : Type 0} → A → Seen A
fine x = record { sound = Some x; broken = [] }

-- it stands on something unsound
abbrev pub unsound : {A : Type 0} → Seen A
unsound = record { sound = None; broken = [] }

-- it breaks a rule
abbrev pub breaks : {A : Type 0} → Fault → Seen A
breaks fault = record { sound = None; broken = fault ∷ [] }

-- a part, as a part of something else
abbrev pub seen_as : {A B : Type 0} → (A → B) → Seen A → Seen B
seen_as f s = record { sound = option_map f s.sound; broken = s.broken }

abbrev pub zip_with : {A B C : Type 0} → (A → B → C) → Option A → Option B → Option C
zip_with f None other = None
zip_with f (Some x) None = None
zip_with f (Some x) (Some y) = Some (f x y)

-- two parts: sound where both are, and what is broken in either
abbrev pub join : {A B C : Type 0} → (A → B → C) → Seen A → Seen B → Seen C
join f s t = record { sound = zip_with f s.sound t.sound; broken = s.broken ++ t.broken }

abbrev pub both : {A B : Type 0} → Seen A → Seen B → Seen (A × B)
both = join (λ x y. (x, y))

-- what a rule says of a part, which is asked of sound parts alone
abbrev pub judged : {A B : Type 0} → Option A → (A → Seen B) → Seen B
judged None rule = unsound
judged (Some x) rule = rule x

abbrev pub judged_both : {A B C : Type 0} → Option A → Option B → (A → B → Seen C) → Seen C
judged_both one other rule = judged (zip_with (λ x y. (x, y)) one other) (λ (x, y). rule x y)

-- parts, and what the rules of the whole say of them
abbrev pub judge : {A B : Type 0} → Seen A → (A → Seen B) → Seen B
judge s rule = record { sound = (judged s.sound rule).sound; broken = s.broken ++ (judged s.sound rule).broken }

-- each of a list
abbrev pub each : {A B : Type 0} → (A → Seen B) → List A → Seen (List B)
each f [] = fine []
each f (x ∷ xs) = join (λ y ys. y ∷ ys) (f x) (each f xs)
