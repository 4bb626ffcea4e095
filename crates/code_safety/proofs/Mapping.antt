-- Lookups and updates of maps.
use Rattle.std.proofs.Common.{◌≡◌, ◌⊎◌, inl, inr, ℕ, zero, suc, Bool, true, false, List, [], ◌∷◌, Option, Some, None, refl, sym, subst, ap, ◌∙◌, slice_get, is_some, IsTrue}
use Rattle.std.proofs.lemmas.Option.{none-some}
use Rattle.std.specs.List.{AllZip}
use Rattle.std.specs.Option.{option_map, option_and_then}
use Rattle.code_safety.proofs.Forms.{map_in}
use Rattle.code_safety.proofs.Lists as lists
use Rattle.code_safety.proofs.Machines.{ValueComes, StoreComes}
use Rattle.code_safety.proofs.Operands.{operand_value, shape_value, shape_term}
use Rattle.code_safety.proofs.Sames.{is_of_alike}
use Rattle.code_safety.proofs.Shapes.{alike_sym}
use Rattle.code_safety.proofs.Sites.{Reads}
use Rattle.code_safety.proofs.Terms.{never, there, ok_fits}
use Rattle.code_safety.proofs.Values.{Typing, MapHome, IsOf, MapFits, EntriesFit, PairFits, IsStore}
use Rattle.code_safety.proofs.Zeros.{zero_fits}
use Rattle.go_base.specs.declared.ids.MapId.{MapId}
use Rattle.go_base.specs.declared.ids.TypeId.{TypeId}
use Rattle.go_maps.specs.Entries.{Map as Entries, Pair, entry_at, joined, place_of, value_at, value_of_key, changed, with_value, with_pair, with_pair_at, without_key, without_at, cleared}
use Rattle.go_maps.specs.Keys.{unhashable}
use Rattle.go_maps.specs.Maps.{map_in as entries_in, or_none}
use Rattle.go_store.specs.Stores.{Stored}
use Rattle.go_type.specs.Held.{IsHeld}
use Rattle.go_type.specs.Same.{both}
use Rattle.go_type.specs.declared.term.TypeTerm.{TypeTerm}
use Rattle.go_type.specs.declared.term.TypeTerm.TheVariants as term
use Rattle.go_value.specs.Values.{Val}
use Rattle.go_value.specs.declared.faults.Fault.{Fault}
use Rattle.ssa_ir.specs.declared.code.Code.{Code}
use Rattle.ssa_ir.specs.declared.operands.Operand.{Operand}
use Rattle.ssa_ir.specs.declared.ops.Op.TheVariants as op
use Rattle.ssa_mean.specs.Comes.{to, then_to, where_some}
use Rattle.ssa_mean.specs.Making.{value_or}
use Rattle.ssa_mean.specs.MapCalls.{map_changed, unless_fault, looked_up, updated, deleted}
use Rattle.ssa_mean.specs.Operands.{element_in, element_type}
use Rattle.ssa_mean.specs.Step.{Site, value, with_one, with_two, look_up, update}
use Rattle.ssa_mean.specs.Zeros.{zero_where}
use Rattle.ssa_typed.specs.Forms.{FitsGiving, fits_alone, fits_giving, looks_up, updates, gives}
use Rattle.ssa_typed.specs.Operands.{shape, is_operand}

-- ---- lists

-- an item of a list in which one is changed
changed_get : {A : Type 0} (f : A → A) (items : List A) (k n : ℕ) (y : A) → slice_get (changed f items k) n ≡ Some y
    → (slice_get items n ≡ Some y) ⊎ ((x : A) × ((slice_get items n ≡ Some x) × (f x ≡ y)))
changed_get f [] k n y h = inl h
changed_get f (x ∷ items) zero zero y h = inr (x, (refl, lists.some_same (f x) y h))
changed_get f (x ∷ items) zero (suc n) y h = inl h
changed_get f (x ∷ items) (suc k) zero y h = inl h
changed_get f (x ∷ items) (suc k) (suc n) y h = changed_get f items k n y h

zip_changed : {A B : Type 0} (R : A → B → Type 0) (f : A → A) (xs : List A) (ys : List B) (n : ℕ) (y : B) → AllZip R xs ys
    → slice_get ys n ≡ Some y → ((x : A) → R x y → R (f x) y) → AllZip R (changed f xs n) ys
zip_changed R f [] [] n y h is each = tt
zip_changed R f (x ∷ xs) (z ∷ ys) zero y h is each =
    (subst (R (f x)) (sym (lists.some_same z y is)) (each x (subst (R x) (lists.some_same z y is) h.0)), h.1)
zip_changed R f (x ∷ xs) (z ∷ ys) (suc n) y h is each = (h.0, zip_changed R f xs ys n y h.1 is each)
zip_changed R f [] (z ∷ ys) n y h is each = absurd h
zip_changed R f (x ∷ xs) [] n y h is each = absurd h

-- ---- entries

module _ (c : Code) (t : Typing) where
  -- the pairs of a map are a key and a value of its types
  pub entry_fits : (store : Stored) → IsStore c t store → (id : Option MapId) (by elem : TypeId) → MapFits c t id by elem → (n : ℕ)
      (pair : Pair) → slice_get (entries_in store.maps id) n ≡ Some (Some pair) → IsOf c t pair.key by × IsOf c t pair.value elem
  entry_fits store is None by elem fits n pair h = absurd (none-some (Some pair) h)
  entry_fits store is (Some id) by elem fits n pair h =
      let found = lists.zip_right (EntriesFit c t) store.maps t.maps is.maps id.number fits.home fits.there in
      let one = found.1.1 n pair (subst (λ all. slice_get (or_none all) n ≡ Some (Some pair)) found.1.0 h) in (
        is_of_alike c t pair.key fits.home.key by fits.same_key one.key,
        is_of_alike c t pair.value fits.home.elem elem fits.same_elem one.value,
      )

  entry_there : (entries : Entries) (n : ℕ) (pair : Pair) → entry_at entries n ≡ Some pair → slice_get entries n ≡ Some (Some pair)
  entry_there entries n pair h = by (slice_get entries n) refl h
    where
      by : (found : Option (Option Pair)) → slice_get entries n ≡ found → joined found ≡ Some pair
          → slice_get entries n ≡ Some (Some pair)
      by None e h = absurd (none-some pair h)
      by (Some it) e h = e ∙ ap Some h

  -- an entry by its number
  pub numbered_fits : (store : Stored) → IsStore c t store → (id : Option MapId) (by elem : TypeId) → MapFits c t id by elem → (n : ℕ)
      (pair : Pair) → entry_at (entries_in store.maps id) n ≡ Some pair → IsOf c t pair.key by × IsOf c t pair.value elem
  numbered_fits store is id by elem fits n pair h =
      entry_fits store is id by elem fits n pair (entry_there (entries_in store.maps id) n pair h)

  -- the value of a key
  found_fits : (store : Stored) → IsStore c t store → (id : Option MapId) (by elem : TypeId) → MapFits c t id by elem → (key v : Val)
      → value_of_key key (entries_in store.maps id) ≡ Some v → IsOf c t v elem
  found_fits store is id by elem fits key v h = at (place_of key (entries_in store.maps id)) h
    where
      at_entry : (n : ℕ) (found : Option Pair) → entry_at (entries_in store.maps id) n ≡ found
          → option_map (λ (pair : Pair). pair.value) found ≡ Some v → IsOf c t v elem
      at_entry n None e h = absurd (none-some v h)
      at_entry n (Some pair) e h =
          subst (λ v. IsOf c t v elem) (lists.some_same pair.value v h) (numbered_fits store is id by elem fits n pair e).1

      at : (found : Option ℕ) → option_and_then (value_at (entries_in store.maps id)) found ≡ Some v → IsOf c t v elem
      at None h = absurd (none-some v h)
      at (Some n) h = at_entry n (entry_at (entries_in store.maps id) n) refl h

  -- ---- changes

  -- a store with the entries of a map changed
  pub changes_map : (store : Stored) → IsStore c t store → (change : Entries → Entries) (id : MapId) (home : MapHome)
      → slice_get t.maps id.number ≡ Some home
      → ((entries : Entries) → EntriesFit c t entries home → EntriesFit c t (change entries) home)
      → IsStore c t (map_changed change store (Some id))
  changes_map store is change id home h each =
      record { cells = is.cells; maps = zip_changed (EntriesFit c t) change store.maps t.maps id.number home is.maps h each }

  -- a key with a value
  pair_fits : (home : MapHome) (entries : Entries) (key it : Val) → IsOf c t key home.key → IsOf c t it home.elem
      → EntriesFit c t entries home → EntriesFit c t (with_pair key it entries) home
  pair_fits home entries key it key_is it_is fits n pair h = by (place_of key entries) h
    where
      new : Pair
      new = record { key = key; value = it }

      new_fits : PairFits c t new home
      new_fits = record { key = key_is; value = it_is }

      at_end : (slice_get entries n ≡ Some (Some pair)) ⊎ (Some new ≡ Some pair) → PairFits c t pair home
      at_end (inl old) = fits n pair old
      at_end (inr same) = subst (λ pair. PairFits c t pair home) (lists.some_same new pair same) new_fits

      kept : (old : Option Pair) → slice_get entries n ≡ Some old → with_value it old ≡ Some pair → PairFits c t pair home
      kept None is same = absurd (none-some pair same)
      kept (Some old) is same =
          subst (λ pair. PairFits c t pair home) (lists.some_same (record { key = old.key; value = it }) pair same)
          (record { key = (fits n old is).key; value = it_is })

      in_place : (slice_get entries n ≡ Some (Some pair))
          ⊎ ((old : Option Pair) × ((slice_get entries n ≡ Some old) × (with_value it old ≡ Some pair)))
          → PairFits c t pair home
      in_place (inl old) = fits n pair old
      in_place (inr (old, (is, same))) = kept old is same

      by : (place : Option ℕ) → slice_get (with_pair_at place key it entries) n ≡ Some (Some pair) → PairFits c t pair home
      by None h = at_end (lists.get_either entries (Some new) n (Some pair) h)
      by (Some place) h = in_place (changed_get (with_value it) entries place n (Some pair) h)

  without_fits : (home : MapHome) (entries : Entries) (key : Val) → EntriesFit c t entries home
      → EntriesFit c t (without_key key entries) home
  without_fits home entries key fits n pair h = by (place_of key entries) h
    where
      in_place : (slice_get entries n ≡ Some (Some pair))
          ⊎ ((old : Option Pair) × ((slice_get entries n ≡ Some old) × (None ≡ Some pair)))
          → PairFits c t pair home
      in_place (inl old) = fits n pair old
      in_place (inr (old, (is, same))) = absurd (none-some pair same)

      by : (place : Option ℕ) → slice_get (without_at place entries) n ≡ Some (Some pair) → PairFits c t pair home
      by None h = fits n pair h
      by (Some place) h = in_place (changed_get (λ _. None) entries place n (Some pair) h)

  cleared_fits : (home : MapHome) (entries : Entries) → EntriesFit c t (cleared entries) home
  cleared_fits home [] n pair h = absurd (none-some (Some pair) h)
  cleared_fits home (entry ∷ entries) zero pair h = absurd (none-some pair (lists.some_same None (Some pair) h))
  cleared_fits home (entry ∷ entries) (suc n) pair h = cleared_fits home entries n pair h

  -- what changes a map keeps its store one, where no fault comes before
  module _ (store : Stored) (is : IsStore c t store) (comparable : TypeId → Bool) (by elem : TypeId) where
    updated_comes : (id : Option MapId) → MapFits c t id by elem → (key it : Val) → IsOf c t key by → IsOf c t it elem
        → StoreComes c t (updated comparable store id key it)
    updated_comes None fits key it key_is it_is = tt
    updated_comes (Some id) fits key it key_is it_is = at (unhashable comparable key)
      where
        at : (found : Option Fault) → StoreComes c t (unless_fault found (map_changed (with_pair key it) store (Some id)))
        at (Some it) = tt
        at None =
            changes_map store is (with_pair key it) id fits.home fits.there (λ entries.
            pair_fits fits.home entries key it
            (is_of_alike c t key by fits.home.key (alike_sym c.types fits.home.key by fits.same_key) key_is)
            (is_of_alike c t it elem fits.home.elem (alike_sym c.types fits.home.elem elem fits.same_elem) it_is))

    pub deleted_comes : (id : Option MapId) → MapFits c t id by elem → (key : Val)
        → StoreComes c t (deleted comparable store id key)
    deleted_comes id fits key = at (unhashable comparable key)
      where
        in_map : (id : Option MapId) → MapFits c t id by elem → IsStore c t (map_changed (without_key key) store id)
        in_map None fits = record { cells = is.cells; maps = is.maps }
        in_map (Some id) fits =
            changes_map store is (without_key key) id fits.home fits.there (λ entries. without_fits fits.home entries key)

        at : (found : Option Fault) → StoreComes c t (unless_fault found (map_changed (without_key key) store id))
        at (Some it) = tt
        at None = in_map id fits

    pub clears_map : (id : Option MapId) → MapFits c t id by elem → IsStore c t (map_changed cleared store id)
    clears_map None fits = record { cells = is.cells; maps = is.maps }
    clears_map (Some id) fits =
        changes_map store is cleared id fits.home fits.there (λ entries _. cleared_fits fits.home entries)

  -- the value of a key, or another
  module _ (held : IsHeld c.types) (store : Stored) (is : IsStore c t store) (of index elem : TypeId) (comma_ok : Bool)
      (typed : gives c.types of elem comma_ok ≡ true) (other : Val) (unheld : IsOf c t other elem) where
    given_comes : (found : Option Val) → ((v : Val) → found ≡ Some v → IsOf c t v elem)
        → ValueComes c t of (to (value_or comma_ok found other))
    given_comes (Some v) fits = ok_fits c t held of elem comma_ok typed v true (fits v refl)
    given_comes None fits = ok_fits c t held of elem comma_ok typed other false unheld

    looked_comes : (id : Option MapId) → MapFits c t id index elem → (key : Val) (fault : Option Fault)
        → ValueComes c t of (then_to (λ found. value_or comma_ok found other)
        (unless_fault fault (value_of_key key (entries_in store.maps id))))
    looked_comes id fits key (Some fault) = tt
    looked_comes id fits key None =
        given_comes (value_of_key key (entries_in store.maps id)) (found_fits store is id index elem fits key)

-- ---- instructions

pub look_up_comes : (t : Typing) (s : Site) (it key : Operand) (comma_ok : Bool) → Reads t s (op.Lookup it key comma_ok)
    → (of : TypeId) → FitsGiving s.code s.function (op.Lookup it key comma_ok) of
    → ValueComes s.code t of (with_two s it key (look_up s it comma_ok))
unfolding FitsGiving fits_giving
look_up_comes t s it key comma_ok reads of typed = by (shape s.code s.function it) refl typed
  where
    other : (v : Val) × (zero_where s.code (element_type s.code s.function it) ≡ Some v)
    other =
        there (zero_where s.code (element_type s.code s.function it))
        (both (is_some (zero_where s.code (element_type s.code s.function it))) _ reads.runnable).0

    by : (u : Option TypeTerm) → shape s.code s.function it ≡ u → looks_up s.code s.function u key comma_ok of ≡ true
        → ValueComes s.code t of (with_two s it key (look_up s it comma_ok))
    by (Some (term.Map index elem)) e h =
        let split = both (is_operand s.code s.function key index) (gives s.code.types of elem comma_ok) h in
        let found = shape_value t s it (reads.values it (inl refl)) (term.Map index elem) e in
        let map = map_in s.code t found.0 index elem found.1.1 in
        let at = operand_value t s reads.safe.held key (reads.values key (inr (inl refl))) index split.0 in
        let unheld = zero_fits s.code t elem other.0
        (subst (λ u. zero_where s.code (element_in u) ≡ Some other.0)
        (shape_term s.code s.function it (term.Map index elem) e) other.1) in
        subst (λ found. ValueComes s.code t of (where_some (λ a. where_some (λ b. look_up s it comma_ok a b) (value s key)) found))
        (sym found.1.0)
        (subst (λ found'. ValueComes s.code t of (where_some (λ b. look_up s it comma_ok found.0 b) found')) (sym at.1.0)
        (subst (λ v. ValueComes s.code t of (look_up s it comma_ok v at.0)) (sym map.1.0)
        (subst (λ other. ValueComes s.code t of (where_some (λ other. then_to (λ found. value_or comma_ok found other)
        (looked_up s.answers.comparable s.machine.store map.0 at.0)) other)) (sym other.1)
        (looked_comes s.code t reads.safe.held s.machine.store reads.store of index elem comma_ok split.1 other.0 unheld
        map.0 map.1.1 at.0 (unhashable s.answers.comparable at.0)))))
    by _ e h = never h

pub update_comes : (t : Typing) (s : Site) (it key new : Operand) → Reads t s (op.Update it key new)
    → IsTrue (fits_alone s.code s.function (op.Update it key new))
    → StoreComes s.code t (with_two s it key (λ it key. with_one s new (update s it key)))
unfolding fits_alone
update_comes t s it key new reads typed = by (shape s.code s.function it) refl typed
  where
    by : (u : Option TypeTerm) → shape s.code s.function it ≡ u → updates s.code s.function u key new ≡ true
        → StoreComes s.code t (with_two s it key (λ it key. with_one s new (update s it key)))
    by (Some (term.Map index elem)) e h =
        let split = both (is_operand s.code s.function key index) (is_operand s.code s.function new elem) h in
        let found = shape_value t s it (reads.values it (inl refl)) (term.Map index elem) e in
        let map = map_in s.code t found.0 index elem found.1.1 in
        let at = operand_value t s reads.safe.held key (reads.values key (inr (inl refl))) index split.0 in
        let put = operand_value t s reads.safe.held new (reads.values new (inr (inr (inl refl)))) elem split.1 in
        subst (λ found. StoreComes s.code t (where_some (λ a. where_some (λ b. where_some (update s a b) (value s new)) (value s key)) found))
        (sym found.1.0)
        (subst (λ found'. StoreComes s.code t (where_some (λ b. where_some (update s found.0 b) (value s new)) found')) (sym at.1.0)
        (subst (λ found'. StoreComes s.code t (where_some (update s found.0 at.0) found')) (sym put.1.0)
        (subst (λ v. StoreComes s.code t (update s v at.0 put.0)) (sym map.1.0)
        (updated_comes s.code t s.machine.store reads.store s.answers.comparable index elem map.0 map.1.1 at.0 put.0 at.1.1
        put.1.1))))
    by _ e h = never h
