-- What is appended to slices, copied to them and cleared in them keeps stores ones of their typings.
use Rattle.std.proofs.Common.{◌≡◌, ℕ, zero, suc, ◌+◌, ◌-◌, ◌<◌, ◌≤◌, ◌==◌, ◌||◌, min, Bool, true, false, List, [], ◌∷◌, ◌++◌, length, replicate, take, Option, Some, None, refl, sym, subst, ap, ◌∙◌, if◌then◌else◌, nat_le, unwrap_or, arith, true≢false, leb-true, length-append}
use Rattle.std.proofs.lemmas.Option.{none-some}
use Rattle.std.specs.Cmp.{unsigned_Decides}
use Rattle.code_safety.proofs.Growing.{grows_self}
use Rattle.code_safety.proofs.Lists as lists
use Rattle.code_safety.proofs.Machines.{DoneFits, DoneComes}
use Rattle.code_safety.proofs.Stores.{with_home, home_grows, makes, new_slices, array_fits, elements_are, run_is, writes_run, later_slices}
use Rattle.code_safety.proofs.Values.{Typing, Home, many, Fits, IsOf, AllOf, Slices, SlicesFrom, IsStore, under_of}
use Rattle.code_safety.proofs.Zeros.{zeroed_fits}
use Rattle.go_base.specs.declared.ids.CellId.{CellId}
use Rattle.go_base.specs.declared.ids.TypeId.{TypeId}
use Rattle.go_store.specs.Arrays.{array_of}
use Rattle.go_store.specs.Slices.{later, most_elements, run_in, with_run_in, slice_of_new, has_room, grown_capacity, append_fault, appended_slice, grown_array, copy_count, copied}
use Rattle.go_store.specs.Stores.{Stored, made}
use Rattle.go_type.specs.declared.term.TypeTerm.TheVariants as term
use Rattle.go_value.specs.Values.{Val, slice}
use Rattle.go_value.specs.Zeros.{zeroed}
use Rattle.go_value.specs.declared.address.SliceValue.{SliceValue}
use Rattle.go_value.specs.declared.faults.Fault.{Fault}
use Rattle.go_value.specs.declared.faults.Fault.TheVariants as fault
use Rattle.ssa_ir.specs.declared.code.Code.{Code}
use Rattle.ssa_mean.specs.BuiltIns.{appended, append, append_where, overwritten_from}

-- ---- values of one type

module _ (c : Code) (t : Typing) (elem : TypeId) where
  pub all_more : (it : Val) (items : List Val) → IsOf c t it elem → AllOf c t items elem → AllOf c t (it ∷ items) elem
  all_more it items fits all zero v h = subst (λ v. IsOf c t v elem) (lists.some_same it v h) fits
  all_more it items fits all (suc n) v h = all n v h

  all_append : (items others : List Val) → AllOf c t items elem → AllOf c t others elem → AllOf c t (items ++ others) elem
  all_append [] others all all' = all'
  all_append (it ∷ items) others all all' =
      all_more it (items ++ others) (all 0 it refl) (all_append items others (λ n. all (suc n)) all')

  pub all_same : (n : ℕ) (it : Val) → IsOf c t it elem → AllOf c t (replicate n it) elem
  all_same n it fits k v h = subst (λ v. IsOf c t v elem) (lists.get_replicate n k it v h) fits

  all_front : (n : ℕ) (items : List Val) → AllOf c t items elem → AllOf c t (take n items) elem
  all_front n items all k v h = all k v (lists.get_take n items k v h)

  -- ---- lengths

  pub slice_within : (cell : Option CellId) (path : List ℕ) (len cap : ℕ) → SlicesFrom c t cell path len cap elem → len ≤ cap
  slice_within None path len cap h = let e : len ≡ 0 = h.0 in omega arith
  slice_within (Some cell) path len cap h = h.within

  lengthened : (cell : Option CellId) (path : List ℕ) (len cap more : ℕ) → SlicesFrom c t cell path len cap elem → 0 < more
      → len + more ≤ cap → SlicesFrom c t cell path (len + more) cap elem
  lengthened None path len cap more h positive room = let e : cap ≡ 0 = h.1 in absurd (omega arith)
  lengthened (Some cell) path len cap more h positive room =
      record {
        home = h.home;
        there = h.there;
        front = h.front;
        last = h.last;
        is_path = h.is_path;
        array = h.array;
        at = h.at;
        ids = h.ids;
        items = h.items;
        each = h.each;
        fits = h.fits;
        within = room;
      }

  -- ---- stores

  module _ (store : Stored) (is : IsStore c t store) where
    pub overwrites : (it : SliceValue) → Slices c t it elem → (items : List Val) → AllOf c t items elem
        → IsStore c t (overwritten_from store it items)
    overwrites it slices [] all = is
    overwrites it slices (first ∷ items) all = writes_run c t store is it elem (first ∷ items) slices all

    pub overwrites_front : (it : SliceValue) → Slices c t it elem → (n : ℕ) (items : List Val) → AllOf c t items elem
        → IsStore c t (overwritten_from store it (take n items))
    overwrites_front it slices n items all = overwrites it slices (take n items) (all_front n items all)

    pub copies : (into from : SliceValue) → Slices c t into elem → Slices c t from elem → IsStore c t (copied store into from)
    copies into from slices slices' = by (copy_count into from == 0) refl
      where
        by : (b : Bool) → (copy_count into from == 0) ≡ b
            → IsStore c t (if b then store
            else with_run_in (array_of (unwrap_or (run_in store from.at (copy_count into from)) [])) store into.at)
        by true e = is
        by false e =
            let some : copy_count into from ≡ 0 → ⊥ =
            λ h. true≢false (sym ((unsigned_Decides (copy_count into from) 0).1 h) ∙ e) in
            let within : from.len ≤ from.cap = slice_within from.at.cell from.at.path from.len from.cap slices' in
            let most : min into.len from.len ≤ from.len = omega arith in
            let found = run_is c t store is from elem (copy_count into from) slices' (omega arith) (omega arith) in
            subst (λ found. IsStore c t (with_run_in (array_of (unwrap_or found [])) store into.at)) (sym found.1.0)
            (writes_run c t store is into elem found.0 slices found.1.1.1)

-- ---- append

large_enough : (none room large : Bool) → none ≡ false → room ≡ false
    → (if none || room || large then None else Some fault.GrowSlice) ≡ None → large ≡ true
large_enough none room true e r h = refl
large_enough true room false e r h = absurd (true≢false e)
large_enough false true false e r h = absurd (true≢false r)
large_enough false false false e r h = absurd (none-some fault.GrowSlice (sym h))

module _ (c : Code) (t : Typing) (store : Stored) (is : IsStore c t store) (of elem : TypeId)
    (is_slice : under_of c of ≡ Some (term.Slice elem)) (leaves : ℕ) (it : SliceValue) (slices : Slices c t it elem) where
  slice_is : (t' : Typing) (new : SliceValue) → Slices c t' new elem → IsOf c t' (slice new) of
  slice_is t' new slices = subst (Fits c t' (slice new)) (sym is_slice) slices

  module _ (first : Val) (items : List Val) (all : AllOf c t (first ∷ items) elem) where
    -- into the room that there is
    in_room : has_room it (length (first ∷ items)) ≡ true
        → IsStore c t (with_run_in (array_of (first ∷ items)) store (later it.at it.len))
    in_room room =
        let fits : it.len + length (first ∷ items) ≤ it.cap = leb-true (it.len + length (first ∷ items)) it.cap room in
        writes_run c t store is
        (record { at = later it.at it.len; len = length (first ∷ items); cap = it.cap - it.len }) elem (first ∷ items)
        (later_slices c t it elem it.len (length (first ∷ items)) (it.cap - it.len) slices (omega arith) (omega arith)) all

    -- into a new array
    grown : ℕ
    grown = grown_capacity leaves (it.len + length (first ∷ items)) it.cap

    more : Val
    more = grown_array leaves store it (first ∷ items) (zeroed first)

    home : Home
    home = many (replicate grown elem)

    in_new : it.len + length (first ∷ items) ≤ most_elements leaves
        → IsStore c (with_home home t) (made store more)
        × Slices c (with_home home t) (slice_of_new store (it.len + length (first ∷ items)) grown) elem
    unfolding grown more home
    in_new fits =
        let found = elements_are c t store is it elem slices in
        let needed : ℕ = it.len + length (first ∷ items) in
        let large : needed ≤ grown = omega arith in
        let spare = replicate (grown - needed) (zeroed first) in
        let together = (found.0 ++ (first ∷ items)) ++ spare in
        let whole : length together ≡ grown =
        length-append (found.0 ++ (first ∷ items)) spare
        ∙ ap (λ n. n + length spare) (length-append found.0 (first ∷ items))
        ∙ ap (λ n. (n + length (first ∷ items)) + length spare) found.1.1.0
        ∙ ap (λ n. needed + n) (lists.length_replicate (grown - needed) (zeroed first)) ∙ omega arith in
        let each = all_append c t elem (found.0 ++ (first ∷ items)) spare
        (all_append c t elem found.0 (first ∷ items) found.1.1.1 all)
        (all_same c t elem (grown - needed) (zeroed first) (zeroed_fits c t first (under_of c elem) (all 0 first refl))) in (
          subst (λ found. IsStore c (with_home home t) (made store (array_of (unwrap_or found [] ++ (first ∷ items) ++ spare))))
              (sym found.1.0) (makes c t store is (array_of together) home (array_fits c t together elem grown whole each)),
          new_slices c t store is elem needed grown large,
        )

    by_room : (none room : Bool) → (length (first ∷ items) == 0) ≡ none → has_room it (length (first ∷ items)) ≡ room
        → append_fault leaves it (length (first ∷ items)) ≡ None
        → DoneFits c t (Some of)
        (record {
          value = Some (slice (if none then it
              else (if room then record { at = it.at; len = it.len + length (first ∷ items); cap = it.cap }
              else slice_of_new store (it.len + length (first ∷ items)) grown)));
          store = if room then with_run_in (array_of (first ∷ items)) store (later it.at it.len) else made store more;
          written = [];
        })
    by_room true room e r h =
        let none : length (first ∷ items) ≡ 0 = (unsigned_Decides (length (first ∷ items)) 0).0 e in absurd (omega arith)
    by_room false true e r h =
        let fits : it.len + length (first ∷ items) ≤ it.cap = leb-true (it.len + length (first ∷ items)) it.cap r in
        record {
          typing = t;
          grows = grows_self t;
          chans = refl;
          is_store = in_room r;
          is_of =
              slice_is t (record { at = it.at; len = it.len + length (first ∷ items); cap = it.cap })
              (lengthened c t elem it.at.cell it.at.path it.len it.cap (length (first ∷ items)) slices (omega arith) fits);
        }
    by_room false false e r h =
        let fits = leb-true (it.len + length (first ∷ items)) (most_elements leaves)
        (large_enough (length (first ∷ items) == 0) (has_room it (length (first ∷ items)))
        (nat_le (it.len + length (first ∷ items)) (most_elements leaves)) e r h) in
        let new = in_new fits in
        record {
          typing = with_home home t;
          grows = home_grows t home;
          chans = refl;
          is_store = new.0;
          is_of = slice_is (with_home home t) (slice_of_new store (it.len + length (first ∷ items)) grown) new.1;
        }

  pub append_comes : (items : List Val) → AllOf c t items elem → DoneComes c t (Some of) (append leaves store it items)
  unfolding grown more
  append_comes [] all = record { typing = t; grows = grows_self t; chans = refl; is_store = is; is_of = slice_is t it slices }
  append_comes (first ∷ items) all = by (append_fault leaves it (length (first ∷ items))) refl
    where
      by : (found : Option Fault) → append_fault leaves it (length (first ∷ items)) ≡ found
          → DoneComes c t (Some of)
          (append_where found
          (record {
            value = Some (slice (appended_slice leaves store it (length (first ∷ items))));
            store = appended leaves store it (first ∷ items);
            written = [];
          }))
      by (Some it) h = tt
      by None h =
          by_room first items all (length (first ∷ items) == 0) (has_room it (length (first ∷ items))) refl refl h
