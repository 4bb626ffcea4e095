-- The rows of a table after a change.
use Rattle.std.proofs.Common.{◌≡◌, ◌<◌, ◌≤◌, ℕ, zero, suc, List, [], ◌∷◌, ◌++◌, refl, sym, ap, ◌∙◌, length, arith, Vec, Global, get_or, set}
use Rattle.std.specs.Prelude.{◌==◌}
use Rattle.std.proofs.lemmas.List.{append-nil}
use Rattle.std.proofs.Math.Dec.{eqb-suc-zero, eqb-zero-suc, eqb-suc-suc}
use Rattle.cg_solve.specs.Lists.{when}
use Rattle.cg_solve.specs.Tables.{row_in}

pub row_in-past : {T : Type 0} (vs : List (Vec T Global)) (k : ℕ) → length vs ≤ k → row_in vs k ≡ []
row_in-past [] k h = refl
row_in-past (v ∷ vs) zero h = absurd (omega arith)
row_in-past (v ∷ vs) (suc k) h = row_in-past vs k (omega arith)

pub row_in-at : {T : Type 0} (vs : List (Vec T Global)) (k : ℕ) (d : Vec T Global) → k < length vs → (get_or vs k d).items ≡ row_in vs k
row_in-at [] k d h = absurd (omega arith)
row_in-at (v ∷ vs) zero d h = refl
row_in-at (v ∷ vs) (suc k) d h = row_in-at vs k d (omega arith)

pub row_in-grown : {T : Type 0} (vs : List (Vec T Global)) (v : Vec T Global) (k : ℕ) → v.items ≡ [] → row_in (vs ++ v ∷ []) k ≡ row_in vs k
row_in-grown [] v zero h = h
row_in-grown [] v (suc k) h = refl
row_in-grown (w ∷ vs) v zero h = refl
row_in-grown (w ∷ vs) v (suc k) h = row_in-grown vs v k h

pub row_in-put : {T : Type 0} (vs : List (Vec T Global)) (key : ℕ) (v : Vec T Global) (item : T) (k : ℕ) → key < length vs → v.items ≡ row_in vs key ++ item ∷ [] → row_in (set vs key v) k ≡ row_in vs k ++ when (key == k) item
row_in-put [] key v item k h e = absurd (omega arith)
row_in-put (w ∷ vs) zero v item zero h e = e
row_in-put (w ∷ vs) zero v item (suc k) h e = sym (append-nil (row_in vs k)) ∙ ap (λ b. row_in vs k ++ when b item) (sym (eqb-zero-suc k))
row_in-put (w ∷ vs) (suc key) v item zero h e = sym (append-nil w.items) ∙ ap (λ b. w.items ++ when b item) (sym (eqb-suc-zero key))
row_in-put (w ∷ vs) (suc key) v item (suc k) h e = row_in-put vs key v item k (omega arith) e ∙ ap (λ b. row_in vs k ++ when b item) (sym (eqb-suc-suc key k))
