-- What the rows of a table are.
use Rattle.std.specs.Prelude.{ℕ, zero, suc, List, [], ◌∷◌, Vec}
use Rattle.std.specs.Global.{Global}
use Rattle.cg_solve.specs.declared.table.Table.{Table}

abbrev pub row_in : {T : Type 0} → List (Vec T Global) → ℕ → List T
row_in [] k = []
row_in (v ∷ vs) zero = v.items
row_in (v ∷ vs) (suc k) = row_in vs k

abbrev pub row : {T : Type 0} → Table T → ℕ → List T
row t k = row_in t.rows.items k
