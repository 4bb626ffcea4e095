-- New cells, maps, slices and channels.
use Rattle.std.proofs.Common.{◌≡◌, ◌≤◌, inl, inr, ℕ, ℤ, pos, Bool, true, false, true≢false, ◌||◌, [], ◌∷◌, ◌++◌, length, replicate, Option, Some, None, refl, sym, subst, ap, ◌∙◌, slice_get, is_some, if◌then◌else◌, int_lt, unsigned_abs, arith}
use Rattle.std.proofs.lemmas.Bool.{or_parts}
use Rattle.std.proofs.lemmas.Int.{ints}
use Rattle.std.proofs.lemmas.Option.{none-some}
use Rattle.std.specs.Option.{option_and_then}
use Rattle.ssa_runnable.specs.Runnable.{has_zero}
use Rattle.code_safety.proofs.Growing.{cells_grow, maps_grow}
use Rattle.code_safety.proofs.Lists as lists
use Rattle.code_safety.proofs.Machines.{StoresCome, StoresFit}
use Rattle.code_safety.proofs.Operands.{integer_value}
use Rattle.code_safety.proofs.Sames.{under_plain}
use Rattle.code_safety.proofs.Shapes.{alike_self}
use Rattle.code_safety.proofs.Sites.{Reads}
use Rattle.code_safety.proofs.Stores.{with_home, home_grows, makes, new_home, with_map_home, map_home_grows, new_slices, array_fits}
use Rattle.code_safety.proofs.Terms.{there, pointer_term}
use Rattle.code_safety.proofs.Values.{Typing, one, many, MapHome, Fits, IsOf, IsStore, EntriesFit, PointsInto, under_of}
use Rattle.code_safety.proofs.Zeros.{zero_fits}
use Rattle.go_base.specs.declared.ids.TypeId.{TypeId}
use Rattle.go_sched.specs.Goroutines.{with_new_chan}
use Rattle.go_store.specs.Arrays.{array_of}
use Rattle.go_store.specs.Slices.{make_fault, most_elements, with_zeros, slice_of_new}
use Rattle.go_store.specs.Stores.{made}
use Rattle.go_type.specs.Same.{both, same_id, same_id-Decides}
use Rattle.go_type.specs.Table.{term_at}
use Rattle.go_type.specs.declared.term.Dir.{Dir}
use Rattle.go_type.specs.declared.term.TypeTerm.{TypeTerm}
use Rattle.go_type.specs.declared.term.TypeTerm.TheVariants as term
use Rattle.go_value.specs.Values.{Val, number, pointer, slice, map_number, chan_number}
use Rattle.go_value.specs.declared.faults.Fault.{Fault}
use Rattle.go_value.specs.declared.faults.Fault.TheVariants as fault
use Rattle.ssa_ir.specs.declared.operands.Operand.{Operand}
use Rattle.ssa_ir.specs.declared.ops.Op.TheVariants as op
use Rattle.ssa_mean.specs.Comes.{Comes, to, faults, nowhere, of_option, then_to, where_some}
use Rattle.ssa_mean.specs.Making.{Channels, leaves_of, is_no_size, made_chan, made_where, made_slice}
use Rattle.ssa_mean.specs.Operands.{element_in}
use Rattle.ssa_mean.specs.Places.{new_pointer}
use Rattle.ssa_mean.specs.Step.{Site, value, with_integer, make_slice, make_chan, new_cell, new_map}
use Rattle.ssa_mean.specs.Zeros.{zero_of}
use Rattle.ssa_typed.specs.Forms.{FitsGiving, fits_giving}
use Rattle.ssa_typed.specs.Operands.{is_integer_operand}
use Rattle.type_shapes.specs.Shapes.{is_map, is_slice, is_chan}

-- ---- what types are

map_is : (of : Option TypeTerm) → is_map of ≡ true → (key elem : TypeId) × (of ≡ Some (term.Map key elem))
map_is (Some (term.Map key elem)) h = (key, elem, refl)
map_is _ h = absurd (true≢false (sym h))

slice_is : (of : Option TypeTerm) → is_slice of ≡ true → (elem : TypeId) × (of ≡ Some (term.Slice elem))
slice_is (Some (term.Slice elem)) h = (elem, refl)
slice_is _ h = absurd (true≢false (sym h))

chan_is : (of : Option TypeTerm) → is_chan of ≡ true → (way : Dir) × (elem : TypeId) × (of ≡ Some (term.Chan way elem))
chan_is (Some (term.Chan way elem)) h = (way, elem, refl)
chan_is _ h = absurd (true≢false (sym h))

pub with_integer_is : {A : Type 0} (s : Site) (it : Operand) (next : ℤ → Comes A) (n : ℤ) → value s it ≡ Some (number n)
    → with_integer s it next ≡ next n
with_integer_is s it next n is = ap (where_some _) is

-- ---- cells

pub new_comes : (t : Typing) (s : Site) (base : TypeId) → Reads t s (op.New base) → (of : TypeId)
    → FitsGiving s.code s.function (op.New base) of → StoresCome s.code t of (new_cell s base)
unfolding FitsGiving fits_giving
new_comes t s base reads of typed =
    let c = s.code in
    let store = s.machine.store in
    let zero = there (zero_of c base) (both (has_zero c (Some base)) _ reads.runnable).0 in
    let grown = with_home (one base) t in
    let under = under_plain c.types reads.safe.held of (term.Pointer base) (pointer_term (term_at c.types of) base typed) refl in
    let into : PointsInto c grown (record { number = length store.cells }) [] base =
    record { home = one base; there = new_home c t store (one base) reads.store; of = base; at = refl; alike = alike_self c.types base } in
    let fit : StoresFit c t of (pointer (new_pointer store)) (made store zero.0) =
    record {
      typing = grown;
      grows = home_grows t (one base);
      chans = refl;
      is_store = makes c t store reads.store zero.0 (one base) (zero_fits c t base zero.0 zero.1);
      is_of = subst (λ term. Fits c grown (pointer (new_pointer store)) term) (sym under) into;
    } in
    subst (λ found. StoresCome c t of
    (then_to (λ it. record { value = pointer (new_pointer store); store = made store it }) (of_option found)))
    (sym zero.1) fit

-- ---- maps

pub make_map_comes : (t : Typing) (s : Site) (made : TypeId) → Reads t s (op.MakeMap made) → (of : TypeId)
    → FitsGiving s.code s.function (op.MakeMap made) of → StoresCome s.code t of (to (new_map s))
unfolding FitsGiving fits_giving
make_map_comes t s made reads of typed =
    let c = s.code in
    let store = s.machine.store in
    let is = map_is (under_of c of) (both (same_id made of) (is_map (under_of c of)) typed).1 in
    let home : MapHome = record { key = is.0; elem = is.1 } in
    let grown = with_map_home home t in
    let grows = map_home_grows t home in
    let count = lists.zip_length (EntriesFit c t) store.maps t.maps reads.store.maps in
    record {
      typing = grown;
      grows = grows;
      chans = refl;
      is_store = record {
        cells = cells_grow c t grown grows store.cells t.cells reads.store.cells;
        maps =
            lists.zip_more (EntriesFit c grown) store.maps t.maps [] home
            (maps_grow c t grown grows store.maps t.maps reads.store.maps) (λ n pair there. absurd (none-some (Some pair) there));
      };
      is_of =
          subst (λ term. Fits c grown (map_number (Some (record { number = length store.maps }))) term) (sym is.2)
          (record {
            home = home;
            there = ap (slice_get (t.maps ++ home ∷ [])) count ∙ lists.get_last t.maps home;
            same_key = alike_self c.types is.0;
            same_elem = alike_self c.types is.1;
          });
    }

-- ---- slices

-- what is made without a fault has no more elements than its capacity
sizes_fit : (leaves : ℕ) (len cap : ℤ) → make_fault leaves len cap ≡ None → unsigned_abs len ≤ unsigned_abs cap
sizes_fit leaves len cap h =
    by (int_lt len (pos 0) || int_lt (pos (most_elements leaves)) len) (int_lt cap len || int_lt (pos (most_elements leaves)) cap) refl refl h
  where
    by : (a b : Bool) → (int_lt len (pos 0) || int_lt (pos (most_elements leaves)) len) ≡ a
        → (int_lt cap len || int_lt (pos (most_elements leaves)) cap) ≡ b
        → ◌≡◌ {A = Option Fault} (if a then Some fault.MakeSliceLen else (if b then Some fault.MakeSliceCap else None)) None
        → unsigned_abs len ≤ unsigned_abs cap
    by true b e k h = absurd (none-some fault.MakeSliceLen (sym h))
    by false true e k h = absurd (none-some fault.MakeSliceCap (sym h))
    by false false e k h =
        let low = (or_parts (int_lt len (pos 0)) _ e).0 in
        let high = (or_parts (int_lt cap len) _ k).0 in
        omega (arith, ints)

made_slice_comes : (t : Typing) (s : Site) → IsStore s.code t s.machine.store → (of elem : TypeId) → under_of s.code of ≡ Some (term.Slice elem)
    → (zero : Val) → IsOf s.code t zero elem → (leaves : ℕ) (len cap : ℤ)
    → StoresCome s.code t of (made_slice leaves s.machine.store zero len cap)
made_slice_comes t s is of elem under zero fits leaves len cap = by (make_fault leaves len cap) refl
  where
    by : (found : Option Fault) → make_fault leaves len cap ≡ found
        → StoresCome s.code t of
        (made_where found
        (record {
          value = slice (slice_of_new s.machine.store (unsigned_abs len) (unsigned_abs cap));
          store = with_zeros s.machine.store zero cap;
        }))
    by (Some found) e = tt
    by None e =
        let c = s.code in
        let store = s.machine.store in
        let room = unsigned_abs cap in
        let home = many (replicate room elem) in
        record {
          typing = with_home home t;
          grows = home_grows t home;
          chans = refl;
          is_store =
              makes c t store is (array_of (replicate room zero)) home
              (array_fits c t (replicate room zero) elem room (lists.length_replicate room zero)
              (λ n v there. subst (λ v. IsOf c t v elem) (lists.get_replicate room n zero v there) fits));
          is_of =
              subst (λ term. Fits c (with_home home t) (slice (slice_of_new store (unsigned_abs len) room)) term) (sym under)
              (new_slices c t store is elem (unsigned_abs len) room (sizes_fit leaves len cap e));
        }

pub make_slice_comes : (t : Typing) (s : Site) (made : TypeId) (len cap : Operand) → Reads t s (op.MakeSlice made len cap)
    → (of : TypeId) → FitsGiving s.code s.function (op.MakeSlice made len cap) of
    → StoresCome s.code t of (make_slice s made len cap)
unfolding FitsGiving fits_giving
make_slice_comes t s made len cap reads of typed =
    let c = s.code in
    let store = s.machine.store in
    let k = both (same_id made of) _ typed in
    let l = both (is_slice (under_of c of)) _ k.1 in
    let m = both (is_integer_operand c s.function len) (is_integer_operand c s.function cap) l.1 in
    let is = slice_is (under_of c of) l.0 in
    let elem = is.0 in
    let element : element_in (under_of c made) ≡ Some elem =
    ap (λ id. element_in (under_of c id)) ((same_id-Decides made of).0 k.0) ∙ ap element_in is.1 in
    let zero = there (zero_of c elem)
    (sym (ap (λ found. is_some (option_and_then (zero_of c) found)) element) ∙ (both (has_zero c (element_in (under_of c made))) _ reads.runnable).0) in
    let n = integer_value t s len (reads.values len (inl refl)) m.0 in
    let o = integer_value t s cap (reads.values cap (inr (inl refl))) m.1 in
    subst (StoresCome c t of)
    (sym (ap (where_some (λ elem. where_some (λ zero_value. with_integer s len (λ len. with_integer s cap (λ cap.
    made_slice (leaves_of c.types elem) store zero_value len cap))) (zero_of c elem))) element
    ∙ ap (where_some (λ zero_value. with_integer s len (λ len. with_integer s cap (λ cap.
    made_slice (leaves_of c.types elem) store zero_value len cap)))) zero.1
    ∙ with_integer_is s len (λ len. with_integer s cap (λ cap. made_slice (leaves_of c.types elem) store zero.0 len cap)) n.0 n.1
    ∙ with_integer_is s cap (λ cap. made_slice (leaves_of c.types elem) store zero.0 n.0 cap) o.0 o.1))
    (made_slice_comes t s reads.store of elem is.1 zero.0 (zero_fits c t elem zero.0 zero.1) (leaves_of c.types elem) n.0 o.0)

-- ---- channels

abbrev pub with_chan_home : TypeId → Typing → Typing
with_chan_home elem t = record t { chans = t.chans ++ elem ∷ [] }

-- a new channel, which is the last
pub record MadeChan (t : Typing) (s : Site) (of : TypeId) (it : Channels) : Type 0 where
  pub elem : TypeId
  pub size : ℕ
  pub is_sched : it.sched ≡ with_new_chan size s.machine.sched
  pub fits : IsOf s.code (with_chan_home elem t) it.value of

abbrev pub ChannelComes : Typing → Site → TypeId → Comes Channels → Type 0
ChannelComes t s of (to it) = MadeChan t s of it
ChannelComes t s of (faults it) = Unit {0}
ChannelComes t s of nowhere = ⊥

made_chan_comes : (t : Typing) (s : Site) (of elem : TypeId) (way : Dir) → under_of s.code of ≡ Some (term.Chan way elem)
    → length t.chans ≡ length s.machine.sched.channels → (leaves : ℕ) (size : ℤ)
    → ChannelComes t s of (made_chan leaves s.machine.sched size)
made_chan_comes t s of elem way under count leaves size = by (is_no_size leaves size)
  where
    by : (b : Bool)
        → ChannelComes t s of
        (if b then faults fault.MakeChan
        else to (record {
          value = chan_number (Some (record { number = length s.machine.sched.channels }));
          sched = with_new_chan (unsigned_abs size) s.machine.sched;
        }))
    by true = tt
    by false =
        record {
          elem = elem;
          size = unsigned_abs size;
          is_sched = refl;
          fits =
              subst
              (λ term. Fits s.code (with_chan_home elem t) (chan_number (Some (record { number = length s.machine.sched.channels }))) term)
              (sym under)
              (record {
                of = elem;
                there = ap (slice_get (t.chans ++ elem ∷ [])) (sym count) ∙ lists.get_last t.chans elem;
                alike = alike_self s.code.types elem;
              });
        }

pub make_chan_comes : (t : Typing) (s : Site) (made : TypeId) (size : Operand) → Reads t s (op.MakeChan made size)
    → (of : TypeId) → FitsGiving s.code s.function (op.MakeChan made size) of
    → length t.chans ≡ length s.machine.sched.channels → ChannelComes t s of (make_chan s made size)
unfolding FitsGiving fits_giving
make_chan_comes t s made size reads of typed count =
    let c = s.code in
    let k = both (same_id made of) _ typed in
    let l = both (is_chan (under_of c of)) (is_integer_operand c s.function size) k.1 in
    let is = chan_is (under_of c of) l.0 in
    let elem = is.1 in
    let element : element_in (under_of c made) ≡ Some elem =
    ap (λ id. element_in (under_of c id)) ((same_id-Decides made of).0 k.0) ∙ ap element_in is.2 in
    let n = integer_value t s size (reads.values size (inl refl)) l.1 in
    subst (ChannelComes t s of)
    (sym (ap (where_some (λ elem. with_integer s size (made_chan (leaves_of c.types elem) s.machine.sched))) element
    ∙ with_integer_is s size (made_chan (leaves_of c.types elem) s.machine.sched) n.0 n.1))
    (made_chan_comes t s of elem is.0 is.2 count (leaves_of c.types elem) n.0)
