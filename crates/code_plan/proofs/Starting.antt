-- What a run begins with: the cells of the package variables, and the functions that are called.
use Rattle.std.proofs.Common.{◌≡◌, ℕ, ◌+◌, ◌<◌, ◌≤◌, Bool, true, false, List, [], ◌∷◌, ◌++◌, Option, Some, None, refl, sym, ap, ◌∙◌}
use Rattle.std.proofs.Common.{append_assoc, add-one, drop, length, get_or, map, take}
use Rattle.std.proofs.lemmas.List.{append-nil, at_drop_all, at_drop_more, take_all, take_more}
use Rattle.std.specs.List.{find}
use Rattle.std.specs.Prelude.{cond, if◌then◌else◌}
use Rattle.go_base.specs.declared.ids.FuncId.{FuncId}
use Rattle.go_base.specs.declared.ids.TypeId.{TypeId}
use Rattle.go_type.specs.Table.{term_at}
use Rattle.go_value.specs.Values.{Val, value_of}
use Rattle.go_value.specs.declared.values.Value.{Value}
use Rattle.ssa_ir.specs.declared.code.Code.{Code}
use Rattle.ssa_ir.specs.declared.code.CodeVariable.{CodeVariable}
use Rattle.ssa_ir.specs.declared.code.Function.{Function}
use Rattle.ssa_mean.specs.Faults.{error_string, is_error_term}
use Rattle.ssa_mean.specs.Operands.{with_value}
use Rattle.ssa_mean.specs.Runs.{first_cells, those_from}
use Rattle.ssa_mean.specs.Zeros.{zero_of}

-- ---- cells

push_cell : (code : Code) (xs : List CodeVariable) (x : CodeVariable) (cells : List Val) (it : Val)
    → first_cells code xs ≡ Some cells → zero_of code x.of ≡ Some it
    → first_cells code (xs ++ x ∷ []) ≡ Some (cells ++ it ∷ [])
push_cell code [] x cells it e z =
    let none : [] ≡ cells = cc in
    ap (λ (v : Option Val). with_value v (Some [])) z ∙ ap (λ (l : List Val). Some (l ++ it ∷ [])) none
push_cell code (y ∷ xs) x cells it e z =
    by_first (zero_of code y.of) (first_cells code xs) (λ rest k. push_cell code xs x rest it k z) e
  where
    by_first : (first : Option Val) (others : Option (List Val))
        → ((rest : List Val) → others ≡ Some rest → first_cells code (xs ++ x ∷ []) ≡ Some (rest ++ it ∷ []))
        → with_value first others ≡ Some cells
        → with_value first (first_cells code (xs ++ x ∷ [])) ≡ Some (cells ++ it ∷ [])
    by_first (Some first) (Some rest) next k =
        let same : first ∷ rest ≡ cells = cc in
        ap (with_value (Some first)) (next rest refl) ∙ ap (λ (l : List Val). Some (l ++ it ∷ [])) same
    by_first (Some first) None next k = cc
    by_first None others next k = cc

values_more : (values : List Value) (value : Value)
    → map value_of (values ++ value ∷ []) ≡ map value_of values ++ value_of value ∷ []
values_more [] value = refl
values_more (first ∷ values) value = ap (λ l. value_of first ∷ l) (values_more values value)

pub cells_more : (code : Code) (xs : List CodeVariable) (i : ℕ) (d : CodeVariable) (values more : List Value)
    (value : Value) → i < length xs → first_cells code (take i xs) ≡ Some (map value_of values)
    → zero_of code (get_or xs i d).of ≡ Some (value_of value) → more ≡ values ++ value ∷ []
    → first_cells code (take (i + 1) xs) ≡ Some (map value_of more)
cells_more code xs i d values more value l h z k =
    ap (first_cells code) (take_more xs i d l)
    ∙ push_cell code (take i xs) (get_or xs i d) (map value_of values) (value_of value) h z
    ∙ ap Some (sym (values_more values value) ∙ ap (map value_of) (sym k))

pub cells_whole : (code : Code) (xs : List CodeVariable) (i : ℕ) (values : List Value) → xs ≡ code.variables
    → length xs ≤ i → first_cells code (take i xs) ≡ Some (map value_of values)
    → first_cells code code.variables ≡ Some (map value_of values)
cells_whole code xs i values e l h = ap (first_cells code) (sym e ∙ sym (take_all i xs l)) ∙ h

-- ---- the functions that are called

abbrev numbers : List FuncId → List ℕ
numbers ids = map (λ id. id.number) ids

one_more : (i : ℕ) (b : Bool) (now : List ℕ) (ids : List FuncId)
    → (now ++ (if b then i ∷ [] else [])) ++ numbers ids
    ≡ now ++ numbers (if b then record { number = i } ∷ ids else ids)
one_more i true now ids = append_assoc now (i ∷ []) (numbers ids)
one_more i false now ids = append_assoc now [] (numbers ids)

pub starts_more : (test : Function → Bool) (xs : List Function) (i : ℕ) (x : Function) (first now next : List ℕ) (b : Bool)
    → i < length xs → x ≡ get_or xs i x → b ≡ test x → next ≡ now ++ (if b then i ∷ [] else [])
    → now ++ numbers (those_from i test (drop i xs)) ≡ first ++ numbers (those_from 0 test xs)
    → next ++ numbers (those_from (i + 1) test (drop (i + 1) xs)) ≡ first ++ numbers (those_from 0 test xs)
starts_more test xs i x first now next b l e t k h =
    let rest = those_from (i + 1) test (drop (i + 1) xs) in
    let here : those_from i test (drop i xs) ≡ (if b then record { number = i } ∷ rest else rest) =
    at_drop_more (those_from i test) xs i x l
    ∙ ap (λ (y : Function). those_from i test (y ∷ drop (i + 1) xs)) (sym e)
    ∙ ap (λ (n : ℕ). if test x then record { number = i } ∷ those_from n test (drop (i + 1) xs) else those_from n test (drop (i + 1) xs)) (sym (add-one i))
    ∙ ap (λ (c : Bool). if c then record { number = i } ∷ rest else rest) (sym t) in
    ap (λ (l : List ℕ). l ++ numbers rest) k ∙ one_more i b now rest ∙ ap (λ (l : List FuncId). now ++ numbers l) (sym here) ∙ h

pub starts_whole : (test : Function → Bool) (xs : List Function) (i : ℕ) (now all : List ℕ) → length xs ≤ i
    → now ++ numbers (those_from i test (drop i xs)) ≡ all → now ≡ all
starts_whole test xs i now all l h =
    sym (append-nil now) ∙ sym (ap (λ (l : List ℕ). now ++ l) (ap numbers (at_drop_all (those_from i test) xs i l))) ∙ h

-- ---- the type `errorString`

abbrev is_error : Code → TypeId → Bool
is_error code of = is_error_term code (term_at code.types of)

pub error_first : (code : Code) (ids : List TypeId) → ids ≡ code.declared
    → find (is_error code) (drop 0 ids) ≡ find (is_error code) code.declared
error_first code ids e = ap (find (is_error code)) e

at_index : (code : Code) (ids : List TypeId) (i : ℕ) (d : TypeId) (b : Bool) → i < length ids
    → b ≡ is_error code (get_or ids i d)
    → find (is_error code) (drop i ids) ≡ cond b (Some (get_or ids i d)) (find (is_error code) (drop (i + 1) ids))
at_index code ids i d b l e =
    at_drop_more (find (is_error code)) ids i d l
    ∙ ap (λ (c : Bool). cond c (Some (get_or ids i d)) (find (is_error code) (drop (i + 1) ids))) (sym e)

pub error_more : (code : Code) (ids : List TypeId) (i : ℕ) (d : TypeId) → i < length ids
    → false ≡ is_error code (get_or ids i d)
    → find (is_error code) (drop i ids) ≡ find (is_error code) code.declared
    → find (is_error code) (drop (i + 1) ids) ≡ find (is_error code) code.declared
error_more code ids i d l e h = sym (at_index code ids i d false l e) ∙ h

pub error_found : (code : Code) (ids : List TypeId) (i : ℕ) (d : TypeId) → i < length ids
    → true ≡ is_error code (get_or ids i d)
    → find (is_error code) (drop i ids) ≡ find (is_error code) code.declared
    → Some (get_or ids i d) ≡ error_string code
unfolding error_string
error_found code ids i d l e h = sym (at_index code ids i d true l e) ∙ h

pub error_none : (code : Code) (ids : List TypeId) (i : ℕ) → length ids ≤ i
    → find (is_error code) (drop i ids) ≡ find (is_error code) code.declared → None ≡ error_string code
unfolding error_string
error_none code ids i l h = sym (at_drop_all (find (is_error code)) ids i l) ∙ h
