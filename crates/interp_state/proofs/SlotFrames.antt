-- Frames of slots, as the calls on them leave them.
use mathlib.Core.Bool.{true≢false}
use mathlib.Core.Logic.{inl, inr}
use Rattle.std.proofs.lemmas.Bool.{cases_lt}
use Rattle.std.proofs.Common.{Bool, true, false, ◌≡◌, ℕ, zero, suc, ◌+◌, ◌-◌, ◌^◌, ◌<◌, ◌≤◌, List, [], ◌∷◌, ◌++◌, Option, Some, None, refl, sym, ap}
use Rattle.std.proofs.lemmas.Bool.{eqb-true}
use Rattle.std.proofs.Common.{◌∙◌, ◌==◌, subst, length, take, drop, reverse, replicate, min, Bor, arith, zero-add, append_assoc}
use Rattle.std.specs.Prelude.{◌⊎◌, slice_get, slice_set, slice_index_or, option_map, unwrap_or, option_to_list, MatchOption}
use Rattle.std.specs.Prelude.{option_copied}
use Rattle.std.specs.Slice.{IsItemAt}
use Rattle.std.specs.Option.{option_flatten}
use Rattle.std.proofs.lemmas.List.{take-map, length-map, map-append, reverse-append, length-reverse, take-set-le}
use Rattle.std.proofs.lemmas.List.{drop-set-add, length-drop, map-set, set_past}
use Rattle.std.proofs.lemmas.Option.{slice_get_past, slice_get-map}
use Rattle.std.proofs.Math.Nat.{suc-add}
use Rattle.std.proofs.Math.Seq.{take-append_seam, drop-append_seam}
use Rattle.interp_state.specs.Frames.{frames_from, seen, without_slot}
use Rattle.plan_mean.specs.Slots.{below_top, top_of, with_frame, slot_in, with_slot}
use Rattle.go_value.specs.Values.{Val, value_of}
use Rattle.go_value.specs.declared.values.Value.{Value}

-- ---- lists

no_items : {A : Type 0} (xs : List A) → length xs ≡ 0 → xs ≡ []
no_items [] h = refl
no_items (x ∷ xs) h = let no : ⊥ = omega arith in absurd no

unset_seen : (n : ℕ) → seen (replicate n None) ≡ replicate n None
unset_seen zero = refl
unset_seen (suc n) = ap (λ rest. None ∷ rest) (unset_seen n)

read_behind : {A : Type 0} (base : ℕ) (xs : List A) (n : ℕ) → slice_get (drop base xs) n ≡ slice_get xs (base + n)
read_behind zero xs n = ap (slice_get xs) (sym (zero-add n))
read_behind (suc base) [] n = refl
read_behind (suc base) (x ∷ xs) n = read_behind base xs n ∙ ap (slice_get (x ∷ xs)) (sym (suc-add base n))

pub one_more : {A : Type 0} (xs : List A) (n : ℕ) (x : A) → (xs ++ replicate n x) ++ x ∷ [] ≡ xs ++ replicate (suc n) x
one_more xs n x = append_assoc xs (replicate n x) (x ∷ []) ∙ ap (λ ys. xs ++ ys) (turned n)
  where
    turned : (n : ℕ) → replicate n x ++ x ∷ [] ≡ replicate (suc n) x
    turned zero = refl
    turned (suc n) = ap (λ ys. x ∷ ys) (turned n)

-- ---- how many

counted : {A : Type 0} (slots : List A) (base : ℕ) (others : List ℕ) → length (frames_from slots base others) ≡ length others
counted slots base [] = refl
counted slots base (below ∷ others) = ap suc (counted (take base slots) below others)

pub depth_is : {A : Type 0} (slots : List A) (base : ℕ) (bases : List ℕ)
    → length (frames_from slots base (reverse bases)) ≡ length bases
depth_is slots base bases = counted slots base (reverse bases) ∙ length-reverse bases

-- how many slots the top frame has
top_counted : {A : Type 0} (slots : List A) (base : ℕ) (others : List ℕ) → 0 < length others
    → length (top_of (frames_from slots base others)) ≡ length slots - base
top_counted slots base [] h = let no : ⊥ = omega arith in absurd no
top_counted slots base (below ∷ others) h = length-drop base slots

pub top_is : (slots : List (Option Value)) (base : ℕ) (bases : List ℕ) → 0 < length bases
    → length (top_of (frames_from (seen slots) base (reverse bases))) ≡ length slots - base
top_is slots base bases some =
    let many : 0 < length (reverse bases) = omega (arith, length-reverse bases) in
    top_counted (seen slots) base (reverse bases) many
    ∙ ap (λ k. k - base) (length-map slots (option_map value_of))

pub no_top : (slots : List (Option Value)) (base : ℕ) (bases : List ℕ) → length bases ≡ 0
    → length (top_of (frames_from (seen slots) base (reverse bases))) ≡ 0
no_top slots base bases none =
    ap (λ bases. length (top_of (frames_from (seen slots) base (reverse bases)))) (no_items bases none)

-- what the slots that stay leave to spare
pub spared : (slots cut : List (Option Value)) (base : ℕ) (bases : List ℕ) (cap : ℕ) → length slots ≤ cap → cap < 2 ^ 63
    → length cut + (length slots - base) ≡ length slots → (length bases ≡ 0 → base ≡ 2 ^ 64 - 1)
    → cap - length cut ≡ cap - length slots + length (top_of (frames_from (seen slots) base (reverse bases)))
spared slots cut base bases cap within small is empty =
    elim (cases_lt 0 (length bases)) [
      | inl some ↦ let top = top_is slots base bases some in omega (arith, top)
      | inr none ↦
          let no_bases : length bases ≡ 0 = omega arith in
          let most : base ≡ 2 ^ 64 - 1 = empty no_bases in
          let top = no_top slots base bases no_bases in omega (arith, top, most)
    ]

-- ---- a frame more

entered_at : {A : Type 0} (old new : List A) (base : ℕ) (bases : List ℕ)
    → frames_from (old ++ new) (length old) (reverse (bases ++ base ∷ [])) ≡ new ∷ frames_from old base (reverse bases)
entered_at old new base bases =
    ap (frames_from (old ++ new) (length old)) (reverse-append bases (base ∷ []))
    ∙ (λ i. drop-append_seam old new i ∷ frames_from (take-append_seam old new i) base (reverse bases))

pub entered : (old : List (Option Value)) (n base : ℕ) (bases : List ℕ)
    → frames_from (seen (old ++ replicate n None)) (length old) (reverse (bases ++ base ∷ []))
    ≡ with_frame n (frames_from (seen old) base (reverse bases))
entered old n base bases =
    ap (λ slots. frames_from slots (length old) (reverse (bases ++ base ∷ [])))
    (map-append (option_map value_of) old (replicate n None) ∙ ap (λ new. seen old ++ new) (unset_seen n))
    ∙ ap (λ len. frames_from (seen old ++ replicate n None) len (reverse (bases ++ base ∷ [])))
    (sym (length-map old (option_map value_of)))
    ∙ entered_at (seen old) (replicate n None) base bases

-- ---- a frame less

left_at : {A : Type 0} (slots : List A) (base : ℕ) (rest : List ℕ) (popped : Option ℕ) → (popped ≡ None → rest ≡ [])
    → frames_from (take base slots) (unwrap_or popped 0) (reverse rest)
    ≡ below_top (frames_from slots base (reverse (rest ++ option_to_list popped)))
left_at slots base rest (Some below) h =
    sym (ap (λ others. below_top (frames_from slots base others)) (reverse-append rest (below ∷ [])))
left_at slots base rest None h =
    ap (λ others. frames_from (take base slots) 0 (reverse others)) (h refl)
    ∙ sym (ap (λ others. below_top (frames_from slots base (reverse (others ++ [])))) (h refl))

pub left : (slots : List (Option Value)) (base : ℕ) (bases rest : List ℕ) (popped : Option ℕ)
    → bases ≡ rest ++ option_to_list popped → (popped ≡ None → rest ≡ [])
    → frames_from (seen (take base slots)) (unwrap_or popped 0) (reverse rest)
    ≡ below_top (frames_from (seen slots) base (reverse bases))
left slots base bases rest popped is none =
    ap (λ slots. frames_from slots (unwrap_or popped 0) (reverse rest)) (sym (take-map (option_map value_of) base slots))
    ∙ left_at (seen slots) base rest popped none
    ∙ ap (λ others. below_top (frames_from (seen slots) base (reverse others))) (sym is)

alone : (slots : List (Option Val)) (base : ℕ) (bases : List ℕ) (popped : Option ℕ) → bases ≡ option_to_list popped
    → [] ≡ below_top (frames_from slots base (reverse bases))
alone slots base bases None is = sym (ap (λ others. below_top (frames_from slots base (reverse others))) is)
alone slots base bases (Some below) is = sym (ap (λ others. below_top (frames_from slots base (reverse others))) is)

-- the frames are those below, wherever what stands for no frame begins
pub left_to : (slots cut : List (Option Value)) (base new : ℕ) (bases rest : List ℕ) (popped : Option ℕ)
    → cut ≡ take base slots → bases ≡ rest ++ option_to_list popped → (rest ≡ []) ⊎ (popped ≡ Some new)
    → frames_from (seen cut) new (reverse rest) ≡ below_top (frames_from (seen slots) base (reverse bases))
left_to slots cut base new bases rest popped is was (inl none) =
    ap (λ others. frames_from (seen cut) new (reverse others)) none
    ∙ alone (seen slots) base bases popped (was ∙ ap (λ others. others ++ option_to_list popped) none)
left_to slots cut base new bases rest popped is was (inr some) =
    let one : new ≡ unwrap_or popped 0 = sym (ap (λ found. unwrap_or found 0) some) in
    let there : popped ≡ None → rest ≡ [] = λ none. let no : ⊥ = cc in absurd no in
    ap (λ cut. frames_from (seen cut) new (reverse rest)) is
    ∙ ap (λ new. frames_from (seen (take base slots)) new (reverse rest)) one
    ∙ left slots base bases rest popped was there

-- no frames are left where a test of their number says so
pub nothing : (rest : List ℕ) (len : ℕ) (test : Bool) → len ≡ length rest → test ≡ (len == 0) → test ≡ true → rest ≡ []
nothing rest len test is asked holds = no_items rest (sym is ∙ eqb-true len 0 (sym asked ∙ holds))

-- ---- the slots of the top frame

got_at : {A : Type 0} (slots : List (Option A)) (base n : ℕ) (others : List ℕ)
    → 0 < length (frames_from slots base others)
    → slot_in (frames_from slots base others) n ≡ option_flatten (slice_get slots (base + n))
got_at slots base n [] h = let no : ⊥ = omega arith in absurd no
got_at slots base n (below ∷ others) h = ap option_flatten (read_behind base slots n)

pub got : (slots : List (Option Value)) (base n : ℕ) (bases : List ℕ)
    → 0 < length (frames_from (seen slots) base (reverse bases))
    → slot_in (frames_from (seen slots) base (reverse bases)) n
    ≡ option_flatten (option_map (option_map value_of) (slice_get slots (base + n)))
got slots base n bases h =
    got_at (seen slots) base n (reverse bases) h
    ∙ ap option_flatten (slice_get-map (option_map value_of) slots (base + n))

set_at : {A : Type 0} (slots : List (Option A)) (base n : ℕ) (it : A) (others : List ℕ)
    → frames_from (slice_set slots (base + n) (Some it)) base others ≡ with_slot n it (frames_from slots base others)
set_at slots base n it [] = refl
set_at slots base n it (below ∷ others) =
    let within : base ≤ base + n = omega arith in
    λ i. drop-set-add base slots n (Some it) i
    ∷ frames_from (take-set-le base slots (base + n) (Some it) within i) below others

unset_at : {A : Type 0} (slots : List (Option A)) (base n : ℕ) (others : List ℕ)
    → frames_from (slice_set slots (base + n) None) base others ≡ without_slot n (frames_from slots base others)
unset_at slots base n [] = refl
unset_at slots base n (below ∷ others) =
    let within : base ≤ base + n = omega arith in
    λ i. drop-set-add base slots n None i
    ∷ frames_from (take-set-le base slots (base + n) None within i) below others

-- ---- what the calls of `Vec` and of slices say

-- the place of a slot, where there is one
pub place_is : (base n place len cap : ℕ) → place ≡ min (base + n) (2 ^ 64 - 1) → place < len → len ≤ cap → cap < 2 ^ 63
    → place ≡ base + n
place_is base n place len cap is within most small = omega arith

pub past_is : (base n place len : ℕ) → place ≡ min (base + n) (2 ^ 64 - 1) → len ≤ place → len ≤ base + n
past_is base n place len is past = omega arith

pub item_at : {A : Type 0} (xs : List A) (i : ℕ) (d : A) → i < length xs → slice_get xs i ≡ Some (slice_index_or xs i d)
item_at [] i d h = let no : ⊥ = omega arith in absurd no
item_at (x ∷ xs) zero d h = refl
item_at (x ∷ xs) (suc i) d h = let below : i < length xs = omega arith in item_at xs i d below

pub looked : {A : Type 0} (xs : List A) (i : ℕ) (found : Option (Bor A)) → IsItemAt xs i found
    → option_map (λ x. x.now) found ≡ slice_get xs i
looked xs i None h = sym (slice_get_past xs i h.3)
looked xs i (Some x) h = sym (item_at xs i x.now h.3.0 ∙ ap Some (sym (h.3.1 x.now)))

pub none_left : (popped : Option ℕ) (rest : List ℕ) (old len : ℕ)
    → MatchOption popped ((old ≡ 0) × (len ≡ 0)) (λ _. len + 1 ≡ old) → len ≡ length rest → popped ≡ None → rest ≡ []
none_left None rest old len h is e = no_items rest (sym is ∙ h.1)
none_left (Some below) rest old len h is e = let no : ⊥ = cc in absurd no

-- ---- reading and writing a slot

seen_copied : (found : Option (Bor Value)) → option_map (λ it. value_of it.now) found ≡ option_map value_of (option_copied found)
seen_copied None = refl
seen_copied (Some it) = refl

get_some_of : (slots : List (Option Value)) (base n place : ℕ) (bases : List ℕ) (found : Option (Bor (Option Value)))
    (slot : Bor (Option Value)) (it : Option (Bor Value)) → IsItemAt slots place found → found ≡ Some slot
    → option_copied it ≡ slot.now → place ≡ min (base + n) (2 ^ 64 - 1) → length slots < 2 ^ 63
    → 0 < length (frames_from (seen slots) base (reverse bases))
    → option_map (λ it. value_of it.now) it ≡ slot_in (frames_from (seen slots) base (reverse bases)) n
get_some_of slots base n place bases found slot it item is copied at small h =
    let some : IsItemAt slots place (Some slot) = subst (λ (f : Option (Bor (Option Value))). IsItemAt slots place f) is item in
    let within : place < length slots = some.3.0 in
    let same : place ≡ base + n = omega arith in
    let read : slice_get slots (base + n) ≡ Some slot.now =
    subst (λ k. slice_get slots k ≡ Some slot.now) same (sym (looked slots place (Some slot) some)) in
    seen_copied it ∙ ap (option_map value_of) copied
    ∙ sym (got slots base n bases h ∙ ap (λ o. option_flatten (option_map (option_map value_of) o)) read)

get_none_of : (slots : List (Option Value)) (base n place : ℕ) (bases : List ℕ) (found : Option (Bor (Option Value)))
    → IsItemAt slots place found → found ≡ None → place ≡ min (base + n) (2 ^ 64 - 1)
    → 0 < length (frames_from (seen slots) base (reverse bases))
    → None ≡ slot_in (frames_from (seen slots) base (reverse bases)) n
get_none_of slots base n place bases found item is at h =
    let none : IsItemAt slots place None = subst (λ (f : Option (Bor (Option Value))). IsItemAt slots place f) is item in
    let past : length slots ≤ place = none.3 in
    let beyond : length slots ≤ base + n = omega arith in
    sym (got slots base n bases h
    ∙ ap (λ o. option_flatten (option_map (option_map value_of) o)) (slice_get_past slots (base + n) beyond))

-- there is a frame, or the place of a slot lies past all of them
framed : (slots : List (Option Val)) (base : ℕ) (bases : List ℕ) → 0 < length bases
    → 0 < length (frames_from slots base (reverse bases))
framed slots base bases some = let many = depth_is slots base bases in omega arith

pub get_some : (slots : List (Option Value)) (base n place : ℕ) (bases : List ℕ) (found : Option (Bor (Option Value)))
    (slot : Bor (Option Value)) (it : Option (Bor Value)) → IsItemAt slots place found → found ≡ Some slot
    → option_copied it ≡ slot.now → place ≡ min (base + n) (2 ^ 64 - 1) → length slots < 2 ^ 63
    → (length bases ≡ 0 → base ≡ 2 ^ 64 - 1)
    → option_map (λ it. value_of it.now) it ≡ slot_in (frames_from (seen slots) base (reverse bases)) n
get_some slots base n place bases found slot it item is copied at small empty =
    elim (cases_lt 0 (length bases)) [
      | inl some ↦ get_some_of slots base n place bases found slot it item is copied at small (framed (seen slots) base bases some)
      | inr none ↦
          let here : IsItemAt slots place (Some slot) = subst (λ (f : Option (Bor (Option Value))). IsItemAt slots place f) is item in
          let within : place < length slots = here.3.0 in
          let most : base ≡ 2 ^ 64 - 1 = empty (omega arith) in
          let no : ⊥ = omega arith in absurd no
    ]

pub get_none : (slots : List (Option Value)) (base n place : ℕ) (bases : List ℕ) (found : Option (Bor (Option Value)))
    → IsItemAt slots place found → found ≡ None → place ≡ min (base + n) (2 ^ 64 - 1)
    → None ≡ slot_in (frames_from (seen slots) base (reverse bases)) n
get_none slots base n place bases found item is at =
    elim (cases_lt 0 (length bases)) [
      | inl some ↦ get_none_of slots base n place bases found item is at (framed (seen slots) base bases some)
      | inr none ↦
          let nothing : bases ≡ [] = no_items bases (omega arith) in
          ap (λ bases. slot_in (frames_from (seen slots) base (reverse bases)) n) (sym nothing)
    ]

pub taken : (slots : List (Option Value)) (base n place : ℕ) (bases : List ℕ) (there given : Option Value)
    → place ≡ base + n → place < length slots → there ≡ slice_index_or slots place there → given ≡ there
    → (length bases ≡ 0 → base ≡ 2 ^ 64 - 1) → length slots < 2 ^ 63
    → option_map value_of given ≡ slot_in (frames_from (seen slots) base (reverse bases)) n
taken slots base n place bases there given at within is gives empty small =
    elim (cases_lt 0 (length bases)) [
      | inl some ↦
          let read : slice_get slots (base + n) ≡ Some there =
          subst (λ k. slice_get slots k ≡ Some there) at (item_at slots place there within ∙ ap Some (sym is)) in
          ap (option_map value_of) gives
          ∙ sym (got slots base n bases (framed (seen slots) base bases some)
          ∙ ap (λ o. option_flatten (option_map (option_map value_of) o)) read)
      | inr none ↦
          let most : base ≡ 2 ^ 64 - 1 = empty (omega arith) in
          let no : ⊥ = omega arith in absurd no
    ]

pub none_past : (slots : List (Option Value)) (base n : ℕ) (bases : List ℕ) → length slots ≤ base + n
    → None ≡ slot_in (frames_from (seen slots) base (reverse bases)) n
none_past slots base n bases past =
    elim (cases_lt 0 (length bases)) [
      | inl some ↦
          sym (got slots base n bases (framed (seen slots) base bases some)
          ∙ ap (λ o. option_flatten (option_map (option_map value_of) o)) (slice_get_past slots (base + n) past))
      | inr none ↦
          let nothing : bases ≡ [] = no_items bases (omega arith) in
          ap (λ bases. slot_in (frames_from (seen slots) base (reverse bases)) n) (sym nothing)
    ]

pub set_seen : (slots : List (Option Value)) (base n place : ℕ) (new : Option Value) (it : Val) (bases : List ℕ)
    → place ≡ base + n → option_map value_of new ≡ Some it
    → frames_from (seen (slice_set slots place new)) base (reverse bases)
    ≡ with_slot n it (frames_from (seen slots) base (reverse bases))
set_seen slots base n place new it bases at is =
    ap (λ k. frames_from (seen (slice_set slots k new)) base (reverse bases)) at
    ∙ ap (λ slots. frames_from slots base (reverse bases)) (map-set (option_map value_of) slots (base + n) new)
    ∙ ap (λ slot. frames_from (slice_set (seen slots) (base + n) slot) base (reverse bases)) is
    ∙ set_at (seen slots) base n it (reverse bases)

pub taken_seen : (slots : List (Option Value)) (base n place : ℕ) (bases : List ℕ) → place ≡ base + n
    → frames_from (seen (slice_set slots place None)) base (reverse bases)
    ≡ without_slot n (frames_from (seen slots) base (reverse bases))
taken_seen slots base n place bases at =
    ap (λ k. frames_from (seen (slice_set slots k None)) base (reverse bases)) at
    ∙ ap (λ slots. frames_from slots base (reverse bases)) (map-set (option_map value_of) slots (base + n) None)
    ∙ unset_at (seen slots) base n (reverse bases)

-- nothing changes where there is no such slot
pub untaken_past : (slots : List (Option Value)) (base n : ℕ) (bases : List ℕ) → length slots ≤ base + n
    → frames_from (seen slots) base (reverse bases) ≡ without_slot n (frames_from (seen slots) base (reverse bases))
untaken_past slots base n bases past =
    let beyond : length (seen slots) ≤ base + n = rw (length-map slots (option_map value_of)) past in
    ap (λ slots. frames_from slots base (reverse bases)) (sym (set_past (seen slots) (base + n) None beyond))
    ∙ unset_at (seen slots) base n (reverse bases)

pub unset_past : (slots : List (Option Value)) (base n : ℕ) (it : Val) (bases : List ℕ) → length slots ≤ base + n
    → frames_from (seen slots) base (reverse bases) ≡ with_slot n it (frames_from (seen slots) base (reverse bases))
unset_past slots base n it bases past =
    let beyond : length (seen slots) ≤ base + n = rw (length-map slots (option_map value_of)) past in
    ap (λ slots. frames_from slots base (reverse bases)) (sym (set_past (seen slots) (base + n) (Some it) beyond))
    ∙ set_at (seen slots) base n it (reverse bases)

pub not_within : (place len : ℕ) → (place < len → false ≡ true) → len ≤ place
not_within place len h =
    elim (cases_lt place len) [ inl below ↦ absurd (true≢false (sym (h below))) | inr past ↦ past ]

-- ---- a frame of unset slots

pub enters : (slots : List (Option Value)) (n base len : ℕ) (bases new : List ℕ) (filled : List (Option Value))
    → len ≡ length slots → filled ≡ slots ++ replicate n None → new ≡ bases ++ base ∷ []
    → frames_from (seen filled) len (reverse new) ≡ with_frame n (frames_from (seen slots) base (reverse bases))
enters slots n base len bases new filled at is pushed =
    ap (λ k. frames_from (seen filled) k (reverse new)) at
    ∙ ap (λ filled. frames_from (seen filled) (length slots) (reverse new)) is
    ∙ ap (λ new. frames_from (seen (slots ++ replicate n None)) (length slots) (reverse new)) pushed
    ∙ entered slots n base bases
