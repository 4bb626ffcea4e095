-- What is kept of the entries of a map, as they change.
use Rattle.std.proofs.Common.{◌≡◌, ◌<◌, ◌≤◌, ◌+◌, ◌-◌, ◌^◌, min, ℕ, zero, suc, ap, refl, sym, subst, ◌∙◌, inl, inr, ◌⊎◌, map, option_map, List, [], ◌∷◌, ◌++◌, drop, Option, Some, None, slice_set, length, get_or, append_assoc, arith, add-one, true, false, true≢false, is_some}
use Rattle.std.proofs.lemmas.List.{append-nil, drop_all, map-append, length-map, at_drop_more}
use Rattle.go_value.specs.Values.{Val, value_of}
use Rattle.go_maps.specs.Entries.{Map, pair_of, pair_made, numbered, entries_of, entries_from, numbers_from, changed, cleared, with_value, with_value_at, without_at, count_in, place_of_code}
use Rattle.go_maps.specs.Found.{AreFound}
use Rattle.go_maps.specs.Keys.{KeyCode, key_code}
use Rattle.go_maps.specs.Places.{Changes}
use Rattle.go_maps.specs.declared.entries.Slot.{Slot}
use Rattle.go_maps.specs.declared.listed.Entry.{Entry}
use Rattle.std.proofs.lemmas.Option.{slice_get_past}
use Rattle.go_maps.proofs.Slots.{there_at, item_changed, item_past}
use Rattle.go_maps.proofs.Standing.{code_cases, found_added, found_removed, found_is, same_finds, found_valued, found_cleared, count_value, count_cleared, count_last, count_le, count_open}

pub slot_added : (old slots : List (Option Slot)) (slot : Slot) → slots ≡ old ++ Some slot ∷ [] → entries_of slots ≡ entries_of old ++ Some (pair_of slot) ∷ []
slot_added old slots slot is = ap entries_of is ∙ map-append (option_map pair_of) old (Some slot ∷ [])

pub added_found : (find new : KeyCode → Option ℕ) (old slots : List (Option Slot)) (slot : Slot) (number : ℕ) (code : KeyCode) → AreFound find (entries_of old) → slots ≡ old ++ Some slot ∷ [] → number ≡ length old → code ≡ key_code (value_of slot.key) → place_of_code code (entries_of old) ≡ None → Changes find code (Some number) new → AreFound new (entries_of slots)
added_found find new old slots slot number code all is at same absent changes =
    let last : number ≡ length (entries_of old) = at ∙ sym (length-map old (option_map pair_of)) in
    let of_key : Changes find (key_code (value_of slot.key)) (Some number) new = subst (λ c. Changes find c (Some number) new) same changes in
    let of_last : Changes find (key_code (value_of slot.key)) (Some (length (entries_of old))) new = subst (λ n. Changes find (key_code (value_of slot.key)) (Some n) new) last of_key in
    subst (AreFound new) (sym (slot_added old slots slot is))
    (found_added find new (entries_of old) all (pair_of slot) (ap (λ c. place_of_code c (entries_of old)) (sym same) ∙ absent) of_last)

one_more : (live more count : ℕ) → live ≡ count → count < 2 ^ 63 → more ≡ min (live + 1) (2 ^ 64 - 1) → more ≡ count + 1
one_more live more count is small more_is = omega arith

below_it : (count len : ℕ) → count ≤ len → len < 2 ^ 63 → count < 2 ^ 63
below_it count len le small = omega arith

pub added_live : (live more : ℕ) (old slots : List (Option Slot)) (slot : Slot) → live ≡ count_in (entries_of old) → slots ≡ old ++ Some slot ∷ [] → length old < 2 ^ 63 → more ≡ min (live + 1) (2 ^ 64 - 1) → more ≡ count_in (entries_of slots)
added_live live more old slots slot is added small more_is =
    let le : count_in (entries_of old) ≤ length old = subst (λ n. count_in (entries_of old) ≤ n) (length-map old (option_map pair_of)) (count_le (entries_of old)) in
    one_more live more (count_in (entries_of old)) is (below_it (count_in (entries_of old)) (length old) le small) more_is
    ∙ sym (ap count_in (slot_added old slots slot added) ∙ count_last (entries_of old) (pair_of slot))

pub not_added : (find new : KeyCode → Option ℕ) (old slots : List (Option Slot)) → AreFound find (entries_of old) → ((code : KeyCode) → new code ≡ find code) → slots ≡ old → AreFound new (entries_of slots)
not_added find new old slots all same is = subst (λ s. AreFound new (entries_of s)) (sym is) (same_finds find new (entries_of old) all same)

-- ---- one that is removed

pub none_gone : (find new : KeyCode → Option ℕ) (entries : Map) (gone : KeyCode) → AreFound find entries → find gone ≡ None → Changes find gone None new → AreFound new entries
none_gone find new entries gone all absent changes = same_finds find new entries all (λ code. by code (code_cases gone code))
  where
    by : (code : KeyCode) → (gone ≡ code) ⊎ (gone ≡ code → ⊥) → new code ≡ find code
    by code (inl e) = ap new (sym e) ∙ changes.here ∙ sym absent ∙ ap find e
    by code (inr apart) = changes.others code apart

pub gone_found : (find new : KeyCode → Option ℕ) (entries after : Map) (gone : KeyCode) (n : ℕ) → AreFound find entries → find gone ≡ Some n → Changes find gone None new → after ≡ changed (λ _. None) entries n → AreFound new after
gone_found find new entries after gone n all at changes is = subst (AreFound new) (sym is) (found_removed find new entries all gone n at changes)

one_less : (live less count after : ℕ) → live ≡ count → count ≡ after + 1 → less ≡ live - 1 → less ≡ after
one_less live less count after is more less_is = omega arith

pub gone_live : (find : KeyCode → Option ℕ) (entries after : Map) (gone : KeyCode) (n live less : ℕ) → AreFound find entries → find gone ≡ Some n → after ≡ changed (λ _. None) entries n → live ≡ count_in entries → less ≡ live - 1 → less ≡ count_in after
gone_live find entries after gone n live less all at is live_is less_is =
    one_less live less (count_in entries) (count_in (changed (λ _. None) entries n)) live_is (count_open entries n gone ((all gone n).0 at)) less_is
    ∙ sym (ap count_in is)

-- ---- slots that are opened one after another

abbrev pub opened : ℕ → List (Option Slot) → List (Option Slot)
opened zero slots = slots
opened (suc n) [] = []
opened (suc n) (slot ∷ slots) = None ∷ opened n slots

opened_suc : (n : ℕ) (slots : List (Option Slot)) → slice_set (opened n slots) n None ≡ opened (suc n) slots
opened_suc zero [] = refl
opened_suc zero (slot ∷ slots) = refl
opened_suc (suc n) [] = refl
opened_suc (suc n) (slot ∷ slots) = ap (λ l. None ∷ l) (opened_suc n slots)

pub opened_next : (n : ℕ) (slots now : List (Option Slot)) → now ≡ opened n slots → slice_set now n None ≡ opened (n + 1) slots
opened_next n slots now is = ap (λ l. slice_set l n None) is ∙ opened_suc n slots ∙ ap (λ k. opened k slots) (sym (add-one n))

pub opened_all : (slots : List (Option Slot)) → entries_of (opened (length slots) slots) ≡ cleared (entries_of slots)
opened_all [] = refl
opened_all (slot ∷ slots) = ap (λ l. None ∷ l) (opened_all slots)

-- ---- entries that are listed one after another

pub listed_open : (all : List Entry) (slots : List (Option Slot)) (i : ℕ) (whole : List (ℕ × Val × Val)) (slot : Option Slot) → i < length slots → slot ≡ get_or slots i slot → slot ≡ None → map pair_made all ++ entries_from i (entries_of (drop i slots)) ≡ whole → map pair_made all ++ entries_from (i + 1) (entries_of (drop (i + 1) slots)) ≡ whole
listed_open all slots i whole slot below is gap before =
    ap (λ s. map pair_made all ++ entries_from i (entries_of (s ∷ drop (i + 1) slots))) (sym gap ∙ is)
    ∙ sym (at_drop_more (λ (l : List (Option Slot)). map pair_made all ++ entries_from i (entries_of l)) slots i slot below)
    ∙ before

pub listed_next : (old new : List Entry) (entry : Entry) (slots : List (Option Slot)) (i : ℕ) (whole : List (ℕ × Val × Val)) (at : Option Slot) (slot : Slot) → i < length slots → at ≡ get_or slots i at → at ≡ Some slot → new ≡ old ++ entry ∷ [] → pair_made entry ≡ numbered i (pair_of slot) → map pair_made old ++ entries_from i (entries_of (drop i slots)) ≡ whole → map pair_made new ++ entries_from (i + 1) (entries_of (drop (i + 1) slots)) ≡ whole
listed_next old new entry slots i whole at slot below is there pushed made before =
    let rest = entries_from (i + 1) (entries_of (drop (i + 1) slots)) in
    ap (λ l. map pair_made l ++ rest) pushed ∙ ap (λ l. l ++ rest) (map-append pair_made old (entry ∷ []))
    ∙ append_assoc (map pair_made old) (pair_made entry ∷ []) rest
    ∙ ap (λ p. map pair_made old ++ (p ∷ rest)) made
    ∙ ap (λ s. map pair_made old ++ entries_from i (entries_of (s ∷ drop (i + 1) slots))) (sym there ∙ is)
    ∙ sym (at_drop_more (λ (l : List (Option Slot)). map pair_made old ++ entries_from i (entries_of l)) slots i at below)
    ∙ before

pub counted_open : (all : List ℕ) (slots : List (Option Slot)) (i : ℕ) (whole : List ℕ) (slot : Option Slot) → i < length slots → slot ≡ get_or slots i slot → slot ≡ None → all ++ numbers_from i (entries_of (drop i slots)) ≡ whole → all ++ numbers_from (i + 1) (entries_of (drop (i + 1) slots)) ≡ whole
counted_open all slots i whole slot below is gap before =
    ap (λ s. all ++ numbers_from i (entries_of (s ∷ drop (i + 1) slots))) (sym gap ∙ is)
    ∙ sym (at_drop_more (λ (l : List (Option Slot)). all ++ numbers_from i (entries_of l)) slots i slot below)
    ∙ before

pub counted_next : (old new : List ℕ) (slots : List (Option Slot)) (i : ℕ) (whole : List ℕ) (at : Option Slot) (slot : Slot) → i < length slots → at ≡ get_or slots i at → at ≡ Some slot → new ≡ old ++ i ∷ [] → old ++ numbers_from i (entries_of (drop i slots)) ≡ whole → new ++ numbers_from (i + 1) (entries_of (drop (i + 1) slots)) ≡ whole
counted_next old new slots i whole at slot below is there pushed before =
    let rest = numbers_from (i + 1) (entries_of (drop (i + 1) slots)) in
    ap (λ l. l ++ rest) pushed
    ∙ append_assoc old (i ∷ []) rest
    ∙ ap (λ s. old ++ numbers_from i (entries_of (s ∷ drop (i + 1) slots))) (sym there ∙ is)
    ∙ sym (at_drop_more (λ (l : List (Option Slot)). old ++ numbers_from i (entries_of l)) slots i at below)
    ∙ before

-- ---- one that has another value

pub valued_found : (find : KeyCode → Option ℕ) (old new : List (Option Slot)) (n : ℕ) (v : Val) → AreFound find (entries_of old) → entries_of new ≡ with_value_at n v (entries_of old) → AreFound find (entries_of new)
valued_found find old new n v all is = subst (AreFound find) (sym is) (found_valued find find (entries_of old) all n v)

pub valued_live : (live : ℕ) (old new : List (Option Slot)) (n : ℕ) (v : Val) → live ≡ count_in (entries_of old) → entries_of new ≡ with_value_at n v (entries_of old) → live ≡ count_in (entries_of new)
valued_live live old new n v live_is is = live_is ∙ sym (ap count_in is ∙ count_value n v (entries_of old))

pub cleared_found : (find : KeyCode → Option ℕ) (old new : List (Option Slot)) → ((code : KeyCode) → find code ≡ None) → entries_of new ≡ cleared (entries_of old) → AreFound find (entries_of new)
cleared_found find old new none is = subst (AreFound find) (sym is) (found_cleared find (entries_of old) none)

pub cleared_live : (old new : List (Option Slot)) → entries_of new ≡ cleared (entries_of old) → 0 ≡ count_in (entries_of new)
cleared_live old new is = sym (ap count_in is ∙ count_cleared (entries_of old))

-- ---- slots that are written

pub slot_valued : (slots : List (Option Slot)) (n : ℕ) (place new : Option Slot) (v : Val) → n < length slots → place ≡ get_or slots n place → option_map pair_of new ≡ with_value v (option_map pair_of place) → entries_of (slice_set slots n new) ≡ with_value_at n v (entries_of slots)
slot_valued slots n place new v below is same = item_changed (option_map pair_of) (with_value v) slots n place new (there_at slots n place below is) same

pub past_valued : (slots : List (Option Slot)) (n : ℕ) (v : Val) → length slots ≤ n → entries_of slots ≡ with_value_at n v (entries_of slots)
past_valued slots n v past = sym (item_past (option_map pair_of) (with_value v) slots n (slice_get_past slots n past))

pub slot_opened : (slots : List (Option Slot)) (n : ℕ) (place new : Option Slot) → n < length slots → place ≡ get_or slots n place → new ≡ None → entries_of (slice_set slots n new) ≡ changed (λ _. None) (entries_of slots) n
slot_opened slots n place new below is same = item_changed (option_map pair_of) (λ _. None) slots n place new (there_at slots n place below is) (ap (option_map pair_of) same)

pub past_opened : (slots : List (Option Slot)) (n : ℕ) → length slots ≤ n → entries_of slots ≡ changed (λ _. None) (entries_of slots) n
past_opened slots n past = sym (item_past (option_map pair_of) (λ _. None) slots n (slice_get_past slots n past))

pub none_without : (find : KeyCode → Option ℕ) (slots now : List (Option Slot)) (code : KeyCode) → AreFound find (entries_of slots) → None ≡ find code → slots ≡ now → entries_of slots ≡ without_at (place_of_code code (entries_of now)) (entries_of now)
none_without find slots now code all none is =
    ap (λ o. without_at o (entries_of slots)) (none ∙ found_is find (entries_of slots) all code)
    ∙ ap (λ s. without_at (place_of_code code (entries_of s)) (entries_of s)) is

pub gone_without : (find : KeyCode → Option ℕ) (slots now : List (Option Slot)) (code : KeyCode) (n : ℕ) (after : Map) → AreFound find (entries_of slots) → Some n ≡ find code → slots ≡ now → after ≡ changed (λ _. None) (entries_of slots) n → after ≡ without_at (place_of_code code (entries_of now)) (entries_of now)
gone_without find slots now code n after all at is same =
    same ∙ ap (λ o. without_at o (entries_of slots)) (at ∙ found_is find (entries_of slots) all code)
    ∙ ap (λ s. without_at (place_of_code code (entries_of s)) (entries_of s)) is

pub opened_set : (n : ℕ) (slots now : List (Option Slot)) (new : Option Slot) → now ≡ opened n slots → new ≡ None → slice_set now n new ≡ opened (n + 1) slots
opened_set n slots now new is gap = ap (slice_set now n) gap ∙ opened_next n slots now is

pub opened_end : (n : ℕ) (slots now : List (Option Slot)) → now ≡ opened n slots → n ≡ length slots → entries_of now ≡ cleared (entries_of slots)
opened_end n slots now is at = ap entries_of is ∙ ap (λ k. entries_of (opened k slots)) at ∙ opened_all slots

pub listed_end : (all : List Entry) (slots : List (Option Slot)) (i : ℕ) (whole : List (ℕ × Val × Val)) → length slots ≤ i → map pair_made all ++ entries_from i (entries_of (drop i slots)) ≡ whole → map pair_made all ≡ whole
listed_end all slots i whole past is =
    sym (append-nil (map pair_made all)) ∙ ap (λ l. map pair_made all ++ entries_from i (entries_of l)) (sym (drop_all i slots past)) ∙ is

pub counted_end : (all : List ℕ) (slots : List (Option Slot)) (i : ℕ) (whole : List ℕ) → length slots ≤ i → all ++ numbers_from i (entries_of (drop i slots)) ≡ whole → all ≡ whole
counted_end all slots i whole past is =
    sym (append-nil all) ∙ ap (λ l. all ++ numbers_from i (entries_of l)) (sym (drop_all i slots past)) ∙ is

some_of : (o : Option Slot) → is_some o ≡ true → (slot : Slot) × (o ≡ Some slot)
some_of None h = absurd (true≢false (sym h))
some_of (Some slot) h = (slot, refl)

none_of : (o : Option Slot) → is_some o ≡ false → o ≡ None
none_of None h = refl
none_of (Some slot) h = absurd (true≢false h)

pub counted_some : (old new : List ℕ) (slots : List (Option Slot)) (i : ℕ) (whole : List ℕ) (at : Option Slot) → i < length slots → at ≡ get_or slots i at → is_some at ≡ true → new ≡ old ++ i ∷ [] → old ++ numbers_from i (entries_of (drop i slots)) ≡ whole → new ++ numbers_from (i + 1) (entries_of (drop (i + 1) slots)) ≡ whole
counted_some old new slots i whole at below is there pushed before =
    let it = some_of at there in counted_next old new slots i whole at it.0 below is it.1 pushed before

pub counted_none : (all new : List ℕ) (slots : List (Option Slot)) (i : ℕ) (whole : List ℕ) (at : Option Slot) → i < length slots → at ≡ get_or slots i at → is_some at ≡ false → new ≡ all → all ++ numbers_from i (entries_of (drop i slots)) ≡ whole → new ++ numbers_from (i + 1) (entries_of (drop (i + 1) slots)) ≡ whole
counted_none all new slots i whole at below is gap same before =
    ap (λ l. l ++ numbers_from (i + 1) (entries_of (drop (i + 1) slots))) same
    ∙ counted_open all slots i whole at below is (none_of at gap) before

pub listed_none : (all new : List Entry) (slots : List (Option Slot)) (i : ℕ) (whole : List (ℕ × Val × Val)) (at : Option Slot) → i < length slots → at ≡ get_or slots i at → at ≡ None → new ≡ all → map pair_made all ++ entries_from i (entries_of (drop i slots)) ≡ whole → map pair_made new ++ entries_from (i + 1) (entries_of (drop (i + 1) slots)) ≡ whole
listed_none all new slots i whole at below is gap same before =
    ap (λ l. map pair_made l ++ entries_from (i + 1) (entries_of (drop (i + 1) slots))) same
    ∙ listed_open all slots i whole at below is gap before
