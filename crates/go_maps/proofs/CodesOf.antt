-- The codes of keys, by their variants.
use Rattle.std.proofs.Common.{◌≡◌, ◌<◌, ◌+◌, ℕ, ap, sym, ◌∙◌, List, [], ◌∷◌, ◌++◌, Some, drop, get_or, length, append_assoc}
use Rattle.std.proofs.lemmas.List.{at_drop_more}
use Rattle.go_base.specs.declared.ids.CellId.{CellId}
use Rattle.go_value.specs.declared.address.Pointer.{Pointer}
use Rattle.go_maps.specs.Keys.{number_code, steps_code, pointer_code}

-- ---- steps one after another

pub next_step : (xs : List ℕ) (i : ℕ) (old : List ℕ) (done more all : List ℕ) → done ++ steps_code (drop i xs) ≡ all → i < length xs → more ≡ done ++ number_code (get_or xs i 0) → more ++ steps_code (drop (i + 1) xs) ≡ all
next_step xs i old done more all before below pushed =
    ap (λ m. m ++ steps_code (drop (i + 1) xs)) pushed
    ∙ append_assoc done (number_code (get_or xs i 0)) (steps_code (drop (i + 1) xs))
    ∙ sym (at_drop_more (λ (l : List ℕ). done ++ steps_code l) xs i 0 below)
    ∙ before

-- ---- pointers

pub address_code : (p it : Pointer) (cell : CellId) (old b n m new steps : List ℕ) (len : ℕ) → it ≡ p → it.cell ≡ Some cell → b ≡ old ++ 1 ∷ [] → n ≡ b ++ number_code cell.number → m ≡ n ++ number_code len → len ≡ length it.path → steps ≡ it.path → new ≡ m ++ steps_code steps → new ≡ old ++ pointer_code p.cell p.path
address_code p it cell old b n m new steps len same at first second third long all last =
    let A = number_code cell.number in
    let B = number_code len in
    let C = steps_code steps in
    last ∙ ap (λ l. l ++ C) (third ∙ ap (λ l. l ++ B) (second ∙ ap (λ l. l ++ A) first))
    ∙ append_assoc ((old ++ 1 ∷ []) ++ A) B C ∙ append_assoc (old ++ 1 ∷ []) A (B ++ C) ∙ append_assoc old (1 ∷ []) (A ++ (B ++ C))
    ∙ ap (λ k. old ++ 1 ∷ (A ++ (number_code k ++ C))) long
    ∙ ap (λ s. old ++ 1 ∷ (A ++ (number_code (length it.path) ++ steps_code s))) all
    ∙ ap (λ c. old ++ pointer_code c it.path) (sym at)
    ∙ ap (λ (q : Pointer). old ++ pointer_code q.cell q.path) same
