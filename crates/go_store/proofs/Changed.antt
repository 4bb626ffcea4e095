-- Cells of a store, one of which is changed.
use Rattle.std.proofs.Common.{◌≡◌, ap, sym, refl, ◌∙◌, map, List, [], ◌∷◌, Some, ℕ, zero, suc, ◌++◌, ◌-◌, length, take, arith, length-append, slice_index, slice_get, slice_set}
use Rattle.std.specs.Option.{option_map, option_and_then, option_map_or}
use Rattle.std.proofs.lemmas.Option.{slice_get-map}
use Rattle.go_value.specs.Values.{Val}
use Rattle.go_store.specs.Cells.{held, read_at}
use Rattle.go_store.specs.Stores.{Stored, changed_item, loaded, part_in, stored, with_part_in}
use Rattle.go_store.specs.Arrays.{with_run}
use Rattle.go_store.specs.Slices.{array_at, with_run_in}
use Rattle.go_store.specs.declared.store.Store.{Store}
use Rattle.go_base.specs.declared.ids.CellId.{CellId}
use Rattle.go_value.specs.declared.address.Pointer.{Pointer}
use Rattle.std.proofs.lemmas.List.{take_at, get_or_at}
use Rattle.go_store.specs.declared.cells.Cell.{Cell}

pub cell_changed : (change : Val → Val) (cells : List Cell) (k : ℕ) (cell new : Cell) → slice_get cells k ≡ Some cell → held new ≡ change (held cell) → map held (slice_set cells k new) ≡ changed_item change (map held cells) k
cell_changed change [] k cell new there same = cc
cell_changed change (c ∷ cells) zero cell new there same = let e : c ≡ cell = cc in ap (λ v. v ∷ map held cells) (same ∙ ap (λ x. change (held x)) (sym e))
cell_changed change (c ∷ cells) (suc k) cell new there same = ap (λ vs. held c ∷ vs) (cell_changed change cells k cell new there same)

pub held_at : (cells : List Cell) (k : ℕ) → slice_get (map held cells) k ≡ option_map held (slice_get cells k)
held_at cells k = slice_get-map held cells k

pub item_same : (cells : List Cell) (k : ℕ) (cell new : Cell) → slice_get cells k ≡ Some cell → held new ≡ held cell → map held (slice_set cells k new) ≡ map held cells
item_same [] k cell new there same = cc
item_same (c ∷ cells) zero cell new there same = let e : c ≡ cell = cc in ap (λ v. v ∷ map held cells) (same ∙ ap held (sym e))
item_same (c ∷ cells) (suc k) cell new there same = ap (λ vs. held c ∷ vs) (item_same cells k cell new there same)

pub part_at : (cells : List Cell) (k : ℕ) (cell : Cell) (steps : List ℕ) → slice_get cells k ≡ Some cell → option_and_then (λ it. read_at it steps) (slice_get (map held cells) k) ≡ read_at (held cell) steps
part_at cells k cell steps there = ap (option_and_then (λ it. read_at it steps)) (held_at cells k ∙ ap (option_map held) there)

one_long : (x : ℕ) → length (x ∷ []) ≡ 1
one_long x = refl

front_length : (xs : List ℕ) (x : ℕ) → length xs ≡ length (xs ++ (x ∷ [])) - 1
front_length xs x = omega (arith, length-append xs (x ∷ []), one_long x)

front_steps : (xs : List ℕ) (x : ℕ) → take (length (xs ++ (x ∷ [])) - 1) (xs ++ (x ∷ [])) ≡ xs
front_steps xs x = take_at xs (x ∷ []) (length (xs ++ (x ∷ [])) - 1) (front_length xs x)

last_of : (xs : List ℕ) (x : ℕ) → slice_index (xs ++ (x ∷ [])) (length (xs ++ (x ∷ [])) - 1) ≡ x
last_of xs x = ap (slice_index (xs ++ (x ∷ []))) (sym (front_length xs x)) ∙ get_or_at xs x [] 0 (length xs) refl

-- what is written in the run of an element
pub run_written : (array : Val) (store : Stored) (at : Pointer) (cell : CellId) (steps : List ℕ) (last : ℕ) → at.cell ≡ Some cell → at.path ≡ steps ++ (last ∷ []) → with_part_in (with_run array last) store cell steps ≡ with_run_in array store at
run_written array store at cell steps last in_cell path =
    sym (
    ap (λ o. option_map_or (λ c. with_part_in (with_run array (slice_index at.path (length at.path - 1))) store c (take (length at.path - 1) at.path)) o store) in_cell
    ∙ ap (λ p. with_part_in (with_run array (slice_index p (length p - 1))) store cell (take (length p - 1) p)) path
    ∙ ap (λ n. with_part_in (with_run array n) store cell (take (length (steps ++ (last ∷ [])) - 1) (steps ++ (last ∷ [])))) (last_of steps last)
    ∙ ap (with_part_in (with_run array last) store cell) (front_steps steps last)
    )

-- what the array of an element is loaded from
pub loaded_from : (store : Store) (at : Pointer) (cell : CellId) (steps : List ℕ) (last : ℕ) (it : Cell) → at.cell ≡ Some cell → at.path ≡ steps ++ (last ∷ []) → slice_get store.cells.items cell.number ≡ Some it → loaded (stored store) (array_at at) ≡ read_at (held it) steps
loaded_from store at cell steps last it in_cell path there =
    ap (option_and_then (λ c. part_in (stored store) c (take (length at.path - 1) at.path))) in_cell
    ∙ ap (λ p. part_in (stored store) cell (take (length p - 1) p)) path
    ∙ ap (part_in (stored store) cell) (front_steps steps last)
    ∙ part_at store.cells.items cell.number it steps there
