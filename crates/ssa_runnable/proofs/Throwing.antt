-- The type `errorString`: the first of the declared types that is it.
use Rattle.std.proofs.Common.{◌≡◌, ℕ, ◌+◌, ◌<◌, ◌≤◌, Bool, true, false, List, Some, None, sym, ap, ◌∙◌, drop, length, get_or}
use Rattle.std.proofs.lemmas.List.{at_drop_all, at_drop_more}
use Rattle.std.specs.List.{find}
use Rattle.std.specs.Prelude.{cond}
use Rattle.go_base.specs.declared.ids.TypeId.{TypeId}
use Rattle.go_type.specs.Table.{term_at}
use Rattle.ssa_ir.specs.declared.code.Code.{Code}
use Rattle.ssa_mean.specs.Faults.{error_string, is_error_term}

abbrev is_error : Code → TypeId → Bool
is_error code of = is_error_term code (term_at code.types of)

pub error_first : (code : Code) (ids : List TypeId) → ids ≡ code.declared
    → find (is_error code) (drop 0 ids) ≡ find (is_error code) code.declared
error_first code ids e = ap (find (is_error code)) e

at_index : (code : Code) (ids : List TypeId) (i : ℕ) (d : TypeId) (b : Bool) → i < length ids
    → b ≡ is_error code (get_or ids i d)
    → find (is_error code) (drop i ids) ≡ cond b (Some (get_or ids i d)) (find (is_error code) (drop (i + 1) ids))
at_index code ids i d b l e =
    at_drop_more (find (is_error code)) ids i d l
    ∙ ap (λ (c : Bool). cond c (Some (get_or ids i d)) (find (is_error code) (drop (i + 1) ids))) (sym e)

pub error_more : (code : Code) (ids : List TypeId) (i : ℕ) (d : TypeId) → i < length ids
    → false ≡ is_error code (get_or ids i d)
    → find (is_error code) (drop i ids) ≡ find (is_error code) code.declared
    → find (is_error code) (drop (i + 1) ids) ≡ find (is_error code) code.declared
error_more code ids i d l e h = sym (at_index code ids i d false l e) ∙ h

pub error_found : (code : Code) (ids : List TypeId) (i : ℕ) (d : TypeId) → i < length ids
    → true ≡ is_error code (get_or ids i d)
    → find (is_error code) (drop i ids) ≡ find (is_error code) code.declared
    → Some (get_or ids i d) ≡ error_string code
unfolding error_string
error_found code ids i d l e h = sym (at_index code ids i d true l e) ∙ h

pub error_none : (code : Code) (ids : List TypeId) (i : ℕ) → length ids ≤ i
    → find (is_error code) (drop i ids) ≡ find (is_error code) code.declared → None ≡ error_string code
unfolding error_string
error_none code ids i l h = sym (at_drop_all (find (is_error code)) ids i l) ∙ h
