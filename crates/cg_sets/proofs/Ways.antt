-- The last embedded field on a path, step by step.
use Rattle.std.proofs.Common.{◌≡◌, ◌∙◌, ap, sym, refl, ℕ, ◌+◌, ◌<◌, List, [], ◌∷◌, Option, Some, None, drop, drop-cons, add-one, get_or, length}
use Rattle.std.specs.Option.{option_and_then}
use Rattle.go_base.specs.declared.ids.TypeId.{TypeId}
use Rattle.go_type.specs.Table.{Table}
use Rattle.cg_sets.specs.declared.embedding.Embedded.{Embedded}
use Rattle.cg_sets.specs.Embedding.{pointed, field_type, last_on, or_further}

module _ (types : Table) where
  -- what a path comes to behind a field
  abbrev pub behind : Option Embedded → TypeId → List ℕ → Option Embedded
  behind last within [] = last
  behind last within (n ∷ path) = last_on types within (n ∷ path)

  pub behind_none : (within : TypeId) (path : List ℕ) → last_on types within path ≡ behind None within path
  unfolding last_on
  behind_none within [] = refl
  behind_none within (n ∷ path) = refl

  further : (last : Embedded) (within : TypeId) (path : List ℕ) → or_further last path (last_on types within path) ≡ behind (Some last) within path
  further last within [] = refl
  further last within (n ∷ path) = refl

  pub behind_field : (last : Option Embedded) (within of : TypeId) (n : ℕ) (path : List ℕ) → field_type types within n ≡ Some of → behind last within (n ∷ path) ≡ behind (Some (record { within = within; field = n; of = of })) (pointed types of) path
  unfolding last_on
  behind_field last within of n path e =
      ap (option_and_then (λ (id : TypeId). or_further (record { within = within; field = n; of = id }) path (last_on types (pointed types id) path))) e ∙ further (record { within = within; field = n; of = of }) (pointed types of) path

  pub behind_stop : (last : Option Embedded) (within : TypeId) (n : ℕ) (path : List ℕ) → field_type types within n ≡ None → behind last within (n ∷ path) ≡ None
  unfolding last_on
  behind_stop last within n path e =
      ap (option_and_then (λ (id : TypeId). or_further (record { within = within; field = n; of = id }) path (last_on types (pointed types id) path))) e

  abbrev Holds : TypeId → List ℕ → Option Embedded → TypeId → List ℕ → Type 0
  Holds first all last within path = last_on types first all ≡ behind last within path

  pub way_start : (first within : TypeId) (path : List ℕ) → within ≡ first → Holds first path None within path
  way_start first within path e = behind_none first path ∙ ap (λ (w : TypeId). behind None w path) (sym e)

  way_cons : (first : TypeId) (all : List ℕ) (i : ℕ) (last : Option Embedded) (within : TypeId) → i < length all → Holds first all last within (drop i all) → Holds first all last within (get_or all i 0 ∷ drop (i + 1) all)
  way_cons first all i last within less h = h ∙ ap (behind last within) (drop-cons all i 0 less ∙ ap (λ (k : ℕ). get_or all i 0 ∷ drop k all) (sym (add-one i)))

  pub way_next : (first : TypeId) (all : List ℕ) (i : ℕ) (last : Option Embedded) (within of next : TypeId) → i < length all → Holds first all last within (drop i all) → field_type types within (get_or all i 0) ≡ Some of → next ≡ pointed types of
      → Holds first all (Some (record { within = within; field = get_or all i 0; of = of })) next (drop (i + 1) all)
  way_next first all i last within of next less h field e =
      way_cons first all i last within less h ∙ (behind_field last within of (get_or all i 0) (drop (i + 1) all) field ∙ ap (λ (w : TypeId). behind (Some (record { within = within; field = get_or all i 0; of = of })) w (drop (i + 1) all)) (sym e))

  pub way_stop : (first : TypeId) (all : List ℕ) (i : ℕ) (last : Option Embedded) (within : TypeId) → i < length all → Holds first all last within (drop i all) → field_type types within (get_or all i 0) ≡ None → last_on types first all ≡ None
  way_stop first all i last within less h field = way_cons first all i last within less h ∙ behind_stop last within (get_or all i 0) (drop (i + 1) all) field
