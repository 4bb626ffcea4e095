use Rattle.std.proofs.Common.{◌≡◌, ℕ, ◌<◌, ◌≤◌, Bool, false, List, sym, ap, ◌∙◌, get_or, length}
use Rattle.std.proofs.lemmas.Option.{slice_get-get_or, slice_get_past}
use Rattle.std.specs.Option.{option_map_or}
use Rattle.std.specs.Prelude.{Option, codes, slice_get}
use Rattle.std.specs.Str.{bytes_eq}
use Rattle.ssa_runnable.proofs.errors.is_runtime.Goals as goal

abbrev is_label : Option (List ℕ) → Bool
is_label label = option_map_or (bytes_eq (codes "runtime")) label false

at_label : (labels labels' : List (List ℕ)) (n : ℕ) (label text : List ℕ) (b : Bool) → labels ≡ labels'
    → n < length labels → label ≡ get_or labels n label → text ≡ label → b ≡ bytes_eq (codes "runtime") text
    → b ≡ is_label (slice_get labels' n)
at_label labels labels' n label text b e l h t k =
    k ∙ ap (bytes_eq (codes "runtime")) (t ∙ h) ∙ sym (ap is_label (slice_get-get_or labels n label l))
    ∙ ap (λ (x : List (List ℕ)). is_label (slice_get x n)) e

past : (labels labels' : List (List ℕ)) (n : ℕ) → labels ≡ labels' → length labels ≤ n
    → false ≡ is_label (slice_get labels' n)
past labels labels' n e l =
    sym (ap is_label (slice_get_past labels n l)) ∙ ap (λ (x : List (List ℕ)). is_label (slice_get x n)) e

pub returns-in-Some : goal.returns-in-Some
returns-in-Some c =
    at_label c.as_slice.result.now _ c.args.number c.in-Some.label.now _ _ c.as_slice.ensures
    c.in-Some.ensures.lookup.3.0 c.in-Some.ensures.lookup.1 c.as_str.ensures c.eq.ensures

pub returns-in-None : goal.returns-in-None
returns-in-None c = past c.as_slice.result.now _ c.args.number c.as_slice.ensures c.in-None.ensures.lookup.3
