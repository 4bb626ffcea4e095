-- Entries by the codes of their keys, and what changes of them do.
use Rattle.std.proofs.Common.{◌≡◌, ◌≤◌, ◌+◌, ℕ, zero, suc, ap, refl, sym, subst, ◌∙◌, inl, inr, ◌⊎◌, option_map, [], ◌∷◌, ◌++◌, Bool, true, false, true≢false, cond, Option, Some, None, length, arith}
use Rattle.std.specs.Cmp.Lexicographic.{bytes_decides}
use Rattle.std.proofs.lemmas.Bool.{cases_eq}
use Rattle.std.proofs.lemmas.Bool.Decides.{Decides-int_eq}
use Rattle.go_value.specs.Values.{Val}
use Rattle.go_maps.specs.Entries.{Map, Pair, changed, with_value_at, cleared, count_in, same_code, has_code, place_of_code}
use Rattle.go_maps.specs.Found.{code_at, AreFound}
use Rattle.go_maps.specs.Keys.{KeyCode, of_number, of_bytes, key_code}
use Rattle.go_maps.specs.Places.{Changes}

-- ---- codes

pub codes_same : (a b : KeyCode) → same_code a b ≡ true → a ≡ b
codes_same (of_number a) (of_number b) h = ap of_number ((Decides-int_eq a b).0 h)
codes_same (of_bytes a) (of_bytes b) h = ap of_bytes ((bytes_decides a b).0 h)
codes_same (of_number a) (of_bytes b) h = absurd (true≢false (sym h))
codes_same (of_bytes a) (of_number b) h = absurd (true≢false (sym h))

pub same_itself : (a : KeyCode) → same_code a a ≡ true
same_itself (of_number a) = (Decides-int_eq a a).1 refl
same_itself (of_bytes a) = (bytes_decides a a).1 refl

pub code_cases : (a b : KeyCode) → (a ≡ b) ⊎ (a ≡ b → ⊥)
code_cases a b = by (same_code a b) refl
  where
    by : (t : Bool) → same_code a b ≡ t → (a ≡ b) ⊎ (a ≡ b → ⊥)
    by true h = inl (codes_same a b h)
    by false h = inr (λ e. true≢false (sym (ap (same_code a) (sym e) ∙ same_itself a) ∙ h))

-- ---- the first entry with a code

module _ (code : KeyCode) where
  passes : (e : Option Pair) → has_code code e ≡ true → option_map (λ pair. key_code pair.key) e ≡ Some code
  passes None h = absurd (true≢false (sym h))
  passes (Some pair) h = ap Some (sym (codes_same code (key_code pair.key) h))

  fails : (e : Option Pair) → has_code code e ≡ false → option_map (λ pair. key_code pair.key) e ≡ Some code → ⊥
  fails None h is = cc
  fails (Some pair) h is =
      let e : key_code pair.key ≡ code = cc in true≢false (sym (ap (same_code code) e ∙ same_itself code) ∙ h)

  later : (r : Option ℕ) (n : ℕ) → option_map (λ number. suc number) r ≡ Some n → (m : ℕ) × (r ≡ Some m) × (suc m ≡ n)
  later None n h = cc
  later (Some m) n h = (m, refl, let e : suc m ≡ n = cc in e)

  never : (r : Option ℕ) → option_map (λ number. suc number) r ≡ None → r ≡ None
  never None h = refl
  never (Some m) h = cc

  by_test_has : (e : Option Pair) (es : Map) (n : ℕ) → ((m : ℕ) → place_of_code code es ≡ Some m → code_at es m ≡ Some code) → (t : Bool) → has_code code e ≡ t → cond t (Some 0) (option_map (λ number. suc number) (place_of_code code es)) ≡ Some n → code_at (e ∷ es) n ≡ Some code
  by_test_has e es n rest true t h = let at : zero ≡ n = cc in subst (λ k. code_at (e ∷ es) k ≡ Some code) at (passes e t)
  by_test_has e es n rest false t h = let l = later (place_of_code code es) n h in subst (λ k. code_at (e ∷ es) k ≡ Some code) l.2 (rest l.0 l.1)

  pub place_has : (entries : Map) (n : ℕ) → place_of_code code entries ≡ Some n → code_at entries n ≡ Some code
  place_has [] n h = cc
  place_has (e ∷ es) n h = by_test_has e es n (λ m. place_has es m) (has_code code e) refl h

  by_test_none : (e : Option Pair) (es : Map) → ((m : ℕ) → place_of_code code es ≡ None → code_at es m ≡ Some code → ⊥) → (t : Bool) → has_code code e ≡ t → cond t (Some 0) (option_map (λ number. suc number) (place_of_code code es)) ≡ None → (n : ℕ) → code_at (e ∷ es) n ≡ Some code → ⊥
  by_test_none e es rest true t h n is = cc
  by_test_none e es rest false t h zero is = fails e t is
  by_test_none e es rest false t h (suc n) is = rest n (never (place_of_code code es) h) is

  pub place_none : (entries : Map) (n : ℕ) → place_of_code code entries ≡ None → code_at entries n ≡ Some code → ⊥
  place_none [] n h is = cc
  place_none (e ∷ es) n h is = by_test_none e es (λ m. place_none es m) (has_code code e) refl h n is

pub found_is : (find : KeyCode → Option ℕ) (entries : Map) → AreFound find entries → (code : KeyCode) → find code ≡ place_of_code code entries
found_is find entries all code = by (place_of_code code entries) refl (find code) refl
  where
    by : (p : Option ℕ) → place_of_code code entries ≡ p → (f : Option ℕ) → find code ≡ f → find code ≡ place_of_code code entries
    by (Some m) p f q = (all code m).1 (place_has code entries m p) ∙ sym p
    by None p None q = q ∙ sym p
    by None p (Some n) q = absurd (place_none code entries n p ((all code n).0 q))

-- ---- codes after changes

pub keys_stay : (n : ℕ) (v : Val) (entries : Map) (m : ℕ) → code_at (with_value_at n v entries) m ≡ code_at entries m
keys_stay n v [] m = refl
keys_stay zero v (None ∷ es) zero = refl
keys_stay zero v (Some p ∷ es) zero = refl
keys_stay zero v (e ∷ es) (suc m) = refl
keys_stay (suc n) v (e ∷ es) zero = refl
keys_stay (suc n) v (e ∷ es) (suc m) = keys_stay n v es m

pub last_code : (entries : Map) (pair : Pair) (n : ℕ) (c : KeyCode) → code_at (entries ++ Some pair ∷ []) n ≡ Some c → (code_at entries n ≡ Some c) ⊎ ((n ≡ length entries) × (key_code pair.key ≡ c))
last_code [] pair zero c h = inr (refl, let e : key_code pair.key ≡ c = cc in e)
last_code [] pair (suc n) c h = cc
last_code (e ∷ es) pair zero c h = inl h
last_code (e ∷ es) pair (suc n) c h =
    elim (last_code es pair n c h) [ inl x ↦ inl x | inr x ↦ inr (ap (λ k. suc k) x.0, x.1) ]

pub stays_code : (entries : Map) (pair : Pair) (n : ℕ) (c : KeyCode) → code_at entries n ≡ Some c → code_at (entries ++ Some pair ∷ []) n ≡ Some c
stays_code [] pair n c h = cc
stays_code (e ∷ es) pair zero c h = h
stays_code (e ∷ es) pair (suc n) c h = stays_code es pair n c h

pub at_last : (entries : Map) (pair : Pair) → code_at (entries ++ Some pair ∷ []) (length entries) ≡ Some (key_code pair.key)
at_last [] pair = refl
at_last (e ∷ es) pair = at_last es pair

pub open_here : (entries : Map) (n : ℕ) → code_at (changed (λ _. None) entries n) n ≡ None
open_here [] n = refl
open_here (e ∷ es) zero = refl
open_here (e ∷ es) (suc n) = open_here es n

pub open_other : (entries : Map) (n m : ℕ) → (n ≡ m → ⊥) → code_at (changed (λ _. None) entries n) m ≡ code_at entries m
open_other [] n m apart = refl
open_other (e ∷ es) zero zero apart = absurd (apart refl)
open_other (e ∷ es) zero (suc m) apart = refl
open_other (e ∷ es) (suc n) zero apart = refl
open_other (e ∷ es) (suc n) (suc m) apart = open_other es n m (λ h. apart (ap (λ k. suc k) h))

pub all_open : (entries : Map) (n : ℕ) → code_at (cleared entries) n ≡ None
all_open [] n = refl
all_open (e ∷ es) zero = refl
all_open (e ∷ es) (suc n) = all_open es n

-- ---- how many stand

pub count_last : (entries : Map) (pair : Pair) → count_in (entries ++ Some pair ∷ []) ≡ count_in entries + 1
count_last [] pair = refl
count_last (None ∷ es) pair = count_last es pair
count_last (Some p ∷ es) pair = ap (λ k. k + 1) (count_last es pair)

pub count_value : (n : ℕ) (v : Val) (entries : Map) → count_in (with_value_at n v entries) ≡ count_in entries
count_value n v [] = refl
count_value zero v (None ∷ es) = refl
count_value zero v (Some p ∷ es) = refl
count_value (suc n) v (None ∷ es) = count_value n v es
count_value (suc n) v (Some p ∷ es) = ap (λ k. k + 1) (count_value n v es)

pub count_open : (entries : Map) (n : ℕ) (c : KeyCode) → code_at entries n ≡ Some c → count_in entries ≡ count_in (changed (λ _. None) entries n) + 1
count_open [] n c h = cc
count_open (None ∷ es) zero c h = cc
count_open (Some p ∷ es) zero c h = refl
count_open (None ∷ es) (suc n) c h = count_open es n c h
count_open (Some p ∷ es) (suc n) c h = ap (λ k. k + 1) (count_open es n c h)

pub count_cleared : (entries : Map) → count_in (cleared entries) ≡ 0
count_cleared [] = refl
count_cleared (e ∷ es) = count_cleared es

pub count_le : (entries : Map) → count_in entries ≤ length entries
count_le [] = omega arith
count_le (None ∷ es) = let h = count_le es in omega arith
count_le (Some p ∷ es) = let h = count_le es in omega arith

-- ---- keys are found after changes

module _ (find new : KeyCode → Option ℕ) (entries : Map) (all : AreFound find entries) where
  pub same_finds : ((code : KeyCode) → new code ≡ find code) → AreFound new entries
  same_finds same code n = (λ h. (all code n).0 (sym (same code) ∙ h), λ h. same code ∙ (all code n).1 h)

  pub found_valued : (n : ℕ) (v : Val) → AreFound find (with_value_at n v entries)
  found_valued n v code m =
      (λ h. keys_stay n v entries m ∙ (all code m).0 h, λ h. (all code m).1 (sym (keys_stay n v entries m) ∙ h))

  pub found_added : (pair : Pair) → place_of_code (key_code pair.key) entries ≡ None → Changes find (key_code pair.key) (Some (length entries)) new → AreFound new (entries ++ Some pair ∷ [])
  found_added pair absent changes code n =
      let before : find (key_code pair.key) ≡ None = found_is find entries all (key_code pair.key) ∙ absent in
      (to (code_cases (key_code pair.key) code), λ h. from before (last_code entries pair n code h))
    where
      to : (key_code pair.key ≡ code) ⊎ (key_code pair.key ≡ code → ⊥) → new code ≡ Some n → code_at (entries ++ Some pair ∷ []) n ≡ Some code
      to (inl e) h =
          let at : Some (length entries) ≡ Some n = sym changes.here ∙ ap new e ∙ h in
          let is : length entries ≡ n = cc in
          subst (λ k. code_at (entries ++ Some pair ∷ []) k ≡ Some code) is (at_last entries pair ∙ ap Some e)
      to (inr apart) h = stays_code entries pair n code ((all code n).0 (sym (changes.others code apart) ∙ h))

      from : find (key_code pair.key) ≡ None → (code_at entries n ≡ Some code) ⊎ ((n ≡ length entries) × (key_code pair.key ≡ code)) → new code ≡ Some n
      from before (inl h) =
          let there : find code ≡ Some n = (all code n).1 h in
          changes.others code (λ e. let clash : None ≡ Some n = sym before ∙ ap find e ∙ there in cc) ∙ there
      from before (inr h) = ap new (sym h.1) ∙ changes.here ∙ ap Some (sym h.0)

  pub found_removed : (gone : KeyCode) (n : ℕ) → find gone ≡ Some n → Changes find gone None new → AreFound new (changed (λ _. None) entries n)
  found_removed gone n at changes code m =
      (to (code_cases gone code), from (cases_eq n m))
    where
      apart_from : (gone ≡ code → ⊥) → find code ≡ Some m → n ≡ m → ⊥
      apart_from apart there e =
          let one : code_at entries n ≡ Some gone = (all gone n).0 at in
          let other : code_at entries m ≡ Some code = (all code m).0 there in
          let both : Some gone ≡ Some code = sym one ∙ ap (code_at entries) e ∙ other in
          let same : gone ≡ code = cc in apart same

      to : (gone ≡ code) ⊎ (gone ≡ code → ⊥) → new code ≡ Some m → code_at (changed (λ _. None) entries n) m ≡ Some code
      to (inl e) h = let clash : None ≡ Some m = sym changes.here ∙ ap new e ∙ h in cc
      to (inr apart) h =
          let there : find code ≡ Some m = sym (changes.others code apart) ∙ h in
          open_other entries n m (apart_from apart there) ∙ (all code m).0 there

      from : (n ≡ m) ⊎ (n ≡ m → ⊥) → code_at (changed (λ _. None) entries n) m ≡ Some code → new code ≡ Some m
      from (inl e) h =
          let clash : None ≡ Some code = sym (open_here entries n) ∙ ap (code_at (changed (λ _. None) entries n)) e ∙ h in cc
      from (inr f) h =
          let there : find code ≡ Some m = (all code m).1 (sym (open_other entries n m f) ∙ h) in
          changes.others code (λ e. let both : Some n ≡ Some m = sym at ∙ ap find e ∙ there in let same : n ≡ m = cc in f same) ∙ there

pub found_none : (find : KeyCode → Option ℕ) → ((code : KeyCode) → find code ≡ None) → AreFound find []
found_none find none code n =
    (λ h. let clash : None ≡ Some n = sym (none code) ∙ h in cc, λ h. cc)

pub found_cleared : (find : KeyCode → Option ℕ) (entries : Map) → ((code : KeyCode) → find code ≡ None) → AreFound find (cleared entries)
found_cleared find entries none code n = (
  λ h. let clash : None ≡ Some n = sym (none code) ∙ h in cc,
  λ h. let clash : None ≡ Some code = sym (all_open entries n) ∙ h in cc,
)
