-- Zero values are of their types.
use Rattle.std.proofs.Common.{◌≡◌, ℕ, zero, suc, pos, Bool, false, List, [], ◌∷◌, Option, Some, None, refl, subst, map, map-id, replicate, option_map}
use Rattle.std.proofs.lemmas.Option.{none-some}
use Rattle.code_safety.proofs.Lists.{some_same}
use Rattle.code_safety.proofs.Values.{Typing, Fits, PartsFit, IsOf, under_of, PointsAs, SliceFits, MapNumberFits, ChanNumberFits, NilFunctionFits, ClosureFits, BinderFits, NilInterfaceFits, BoxFits}
use Rattle.go_base.specs.declared.ids.ChanId.{ChanId}
use Rattle.go_base.specs.declared.ids.FuncId.{FuncId}
use Rattle.go_base.specs.declared.ids.MapId.{MapId}
use Rattle.go_base.specs.declared.ids.NameId.{NameId}
use Rattle.go_base.specs.declared.ids.TypeId.{TypeId}
use Rattle.go_type.specs.Table.{is_name}
use Rattle.go_type.specs.declared.term.Basic.{Basic}
use Rattle.go_type.specs.declared.term.Basic.TheVariants as basic
use Rattle.go_type.specs.declared.term.TypeTerm.{TypeTerm}
use Rattle.go_type.specs.declared.term.TypeTerm.TheVariants as term
use Rattle.go_value.specs.Address.{nil_pointer, nil_slice}
use Rattle.go_value.specs.Values.{Val, Parts, Field, none, part, parts_of, truth, number, text, pointer, slice, map_number}
use Rattle.go_value.specs.Values.{chan_number, nil_function, closure, bound, expression, nil_interface, dynamic, parts}
use Rattle.go_value.specs.Values.{text_range, map_range}
use Rattle.go_value.specs.Zeros.{zeroed, zeroed_parts, zero_to, zero_of_term, zero_of_basic, array_of, plain, all_parts, parts_by, with_part}
use Rattle.go_value.specs.declared.address.Pointer.{Pointer}
use Rattle.go_value.specs.declared.address.SliceValue.{SliceValue}
use Rattle.go_value.specs.declared.values.BoundTarget.{BoundTarget}
use Rattle.ssa_ir.specs.declared.code.Code.{Code}
use Rattle.ssa_mean.specs.Zeros.{zero_of, most_nesting, blank_from}

basic_fits : (c : Code) (t : Typing) (kind : Basic) (it : Val) → zero_of_basic kind ≡ Some it → Fits c t it (Some (term.Basic kind))
basic_fits c t basic.Bool it is = subst (λ it. Fits c t it (Some (term.Basic basic.Bool))) (some_same (truth false) it is) tt
basic_fits c t basic.UntypedBool it is = subst (λ it. Fits c t it (Some (term.Basic basic.UntypedBool))) (some_same (truth false) it is) tt
basic_fits c t basic.Text it is = subst (λ it. Fits c t it (Some (term.Basic basic.Text))) (some_same (text []) it is) tt
basic_fits c t basic.UntypedText it is = subst (λ it. Fits c t it (Some (term.Basic basic.UntypedText))) (some_same (text []) it is) tt
basic_fits c t basic.UntypedNil it is = absurd (none-some it is)
basic_fits c t kind it is = subst (λ it. Fits c t it (Some (term.Basic kind))) (some_same (number (pos 0)) it is) refl

copies_fit : (c : Code) (t : Typing) (it : Val) (elem : TypeId) (n : ℕ) → IsOf c t it elem
    → PartsFit c t (parts_of (replicate n (plain it))) (replicate n elem)
copies_fit c t it elem zero h = tt
copies_fit c t it elem (suc n) h = (h, copies_fit c t it elem n h)

-- parts one by one
parts_by_fit : {A : Type 0} (c : Code) (t : Typing) (value : A → Option Val) (blank : A → Bool) (of : A → TypeId)
    → ((item : A) (it : Val) → value item ≡ Some it → IsOf c t it (of item)) → (items : List A) (fields : List Field)
    → parts_by value blank items ≡ Some fields → PartsFit c t (parts_of fields) (map of items)
parts_by_fit c t value blank of each [] fields is =
    subst (λ fields. PartsFit c t (parts_of fields) []) (some_same [] fields is) tt
parts_by_fit c t value blank of each (item ∷ items) fields is =
    by (value item) (parts_by value blank items) refl (λ rest k. parts_by_fit c t value blank of each items rest k) is
  where
    by : (it : Option Val) (rest : Option (List Field)) → value item ≡ it
        → ((others : List Field) → rest ≡ Some others → PartsFit c t (parts_of others) (map of items))
        → with_part it (blank item) rest ≡ Some fields → PartsFit c t (parts_of fields) (of item ∷ map of items)
    by (Some it) (Some rest) e later is =
        subst (λ fields. PartsFit c t (parts_of fields) (of item ∷ map of items))
        (some_same (record { value = it; blank = blank item } ∷ rest) fields is) (each item it e, later rest refl)
    by (Some it) None e later is = absurd (none-some fields is)
    by None rest e later is = absurd (none-some fields is)

term_fits : (c : Code) (t : Typing) (zero_part : TypeId → Option Val) (blank : Option NameId)
    → ((of : TypeId) (it : Val) → zero_part of ≡ Some it → IsOf c t it of) → (of : Option TypeTerm) (it : Val)
    → zero_of_term zero_part blank of ≡ Some it → Fits c t it of
term_fits c t zero_part blank each (Some (term.Basic kind)) it is = basic_fits c t kind it is
term_fits c t zero_part blank each (Some (term.Pointer elem)) it is =
    subst (λ it. Fits c t it (Some (term.Pointer elem))) (some_same (pointer nil_pointer) it is) tt
term_fits c t zero_part blank each (Some (term.Slice elem)) it is =
    subst (λ it. Fits c t it (Some (term.Slice elem))) (some_same (slice nil_slice) it is) (refl, refl)
term_fits c t zero_part blank each (Some (term.Array zero elem)) it is =
    subst (λ it. Fits c t it (Some (term.Array 0 elem))) (some_same (parts none) it is) ([], (refl, tt))
term_fits c t zero_part blank each (Some (term.Array (suc len) elem)) it is = by (zero_part elem) refl is
  where
    by : (found : Option Val) → zero_part elem ≡ found → option_map (array_of (suc len)) found ≡ Some it
        → Fits c t it (Some (term.Array (suc len) elem))
    by None e is = absurd (none-some it is)
    by (Some found) e is =
        subst (λ it. Fits c t it (Some (term.Array (suc len) elem))) (some_same (array_of (suc len) found) it is)
        (replicate (suc len) elem, (refl, copies_fit c t found elem (suc len) (each elem found e)))
term_fits c t zero_part blank each (Some (term.Map key elem)) it is =
    subst (λ it. Fits c t it (Some (term.Map key elem))) (some_same (map_number None) it is) tt
term_fits c t zero_part blank each (Some (term.Chan dir elem)) it is =
    subst (λ it. Fits c t it (Some (term.Chan dir elem))) (some_same (chan_number None) it is) tt
term_fits c t zero_part blank each (Some (term.Func signature)) it is =
    subst (λ it. Fits c t it (Some (term.Func signature))) (some_same nil_function it is) tt
term_fits c t zero_part blank each (Some (term.Struct fields)) it is =
    by (parts_by (λ field. zero_part field.of) (λ field. is_name blank field.name) fields) refl is
  where
    by : (found : Option (List Field)) → parts_by (λ field. zero_part field.of) (λ field. is_name blank field.name) fields ≡ found
        → all_parts found ≡ Some it → Fits c t it (Some (term.Struct fields))
    by None e is = absurd (none-some it is)
    by (Some found) e is =
        subst (λ it. Fits c t it (Some (term.Struct fields))) (some_same (parts (parts_of found)) it is) (
          map (λ field. field.of) fields,
          (
            refl,
            parts_by_fit c t (λ field. zero_part field.of) (λ field. is_name blank field.name) (λ field. field.of)
                (λ field it is. each field.of it is) fields found e,
          ),
        )
term_fits c t zero_part blank each (Some (term.Interface methods)) it is =
    subst (λ it. Fits c t it (Some (term.Interface methods))) (some_same nil_interface it is) tt
term_fits c t zero_part blank each (Some (term.Tuple ids)) it is = by (parts_by zero_part (λ id. false) ids) refl is
  where
    by : (found : Option (List Field)) → parts_by zero_part (λ id. false) ids ≡ found
        → all_parts found ≡ Some it → Fits c t it (Some (term.Tuple ids))
    by None e is = absurd (none-some it is)
    by (Some found) e is =
        subst (λ it. Fits c t it (Some (term.Tuple ids))) (some_same (parts (parts_of found)) it is) (
          ids,
          (
            refl,
            subst (λ ids. PartsFit c t (parts_of found) ids) (map-id ids)
                (parts_by_fit c t zero_part (λ id. false) (λ id. id) each ids found e),
          ),
        )
term_fits c t zero_part blank each _ it is = absurd (none-some it is)

zero_to_fits : (n : ℕ) (c : Code) (t : Typing) (blank : Option NameId) (of : TypeId) (it : Val) → zero_to n c.types blank of ≡ Some it
    → IsOf c t it of
zero_to_fits zero c t blank of it is = absurd (none-some it is)
zero_to_fits (suc n) c t blank of it is =
    term_fits c t (zero_to n c.types blank) blank (λ of it is. zero_to_fits n c t blank of it is) (under_of c of) it is

pub zero_fits : (c : Code) (t : Typing) (of : TypeId) (it : Val) → zero_of c of ≡ Some it → IsOf c t it of
unfolding zero_of
zero_fits c t of it is = zero_to_fits most_nesting c t (blank_from 0 c.names) of it is

-- ---- the zero value of the type of a value

nil_pointer_fits : (c : Code) (t : Typing) (at : Pointer) (of : Option TypeTerm) → PointsAs c t at of → PointsAs c t nil_pointer of
nil_pointer_fits c t at (Some (term.Pointer base)) h = tt
nil_pointer_fits c t at _ h = absurd h

nil_slice_fits : (c : Code) (t : Typing) (it : SliceValue) (of : Option TypeTerm) → SliceFits c t it of → SliceFits c t nil_slice of
nil_slice_fits c t it (Some (term.Slice elem)) h = (refl, refl)
nil_slice_fits c t it _ h = absurd h

nil_map_fits : (c : Code) (t : Typing) (id : Option MapId) (of : Option TypeTerm) → MapNumberFits c t id of → MapNumberFits c t None of
nil_map_fits c t id (Some (term.Map key elem)) h = tt
nil_map_fits c t id _ h = absurd h

nil_chan_fits : (c : Code) (t : Typing) (id : Option ChanId) (of : Option TypeTerm) → ChanNumberFits c t id of
    → ChanNumberFits c t None of
nil_chan_fits c t id (Some (term.Chan way elem)) h = tt
nil_chan_fits c t id _ h = absurd h

closure_nil : (c : Code) (t : Typing) (id : FuncId) (captured : List Pointer) (of : Option TypeTerm) → ClosureFits c t id captured of
    → NilFunctionFits of
closure_nil c t id captured (Some (term.Func signature)) h = tt
closure_nil c t id captured _ h = absurd h

binder_nil : (c : Code) (from : TypeId) (target : BoundTarget) (of : Option TypeTerm) → BinderFits c from target of → NilFunctionFits of
binder_nil c from target (Some (term.Func signature)) h = tt
binder_nil c from target _ h = absurd h

box_nil : (c : Code) (from : TypeId) (of : Option TypeTerm) → BoxFits c from of → NilInterfaceFits of
box_nil c from (Some (term.Interface methods)) h = tt
box_nil c from _ h = absurd h

mutual
  -- the zero value of the type of a value
  pub zeroed_fits : (c : Code) (t : Typing) (it : Val) (of : Option TypeTerm) → Fits c t it of → Fits c t (zeroed it) of
  zeroed_fits c t (truth it) of h = h
  zeroed_fits c t (number it) of h = h
  zeroed_fits c t (text it) of h = h
  zeroed_fits c t (pointer at) of h = nil_pointer_fits c t at of h
  zeroed_fits c t (slice it) of h = nil_slice_fits c t it of h
  zeroed_fits c t (map_number id) of h = nil_map_fits c t id of h
  zeroed_fits c t (chan_number id) of h = nil_chan_fits c t id of h
  zeroed_fits c t nil_function of h = h
  zeroed_fits c t (closure id captured) of h = closure_nil c t id captured of h
  zeroed_fits c t (bound target receiver) of h = binder_nil c h.0 target of h.1.0
  zeroed_fits c t (expression receiver name package_number) of h = absurd h
  zeroed_fits c t nil_interface of h = h
  zeroed_fits c t (dynamic from it) of h = box_nil c from of h.0
  zeroed_fits c t (parts it) of h = (h.0, (h.1.0, zeroed_parts_fit c t it h.0 h.1.1))
  zeroed_fits c t (text_range bytes next) of h = h
  zeroed_fits c t (map_range id left) of h = h

  zeroed_parts_fit : (c : Code) (t : Typing) (it : Parts) (ids : List TypeId) → PartsFit c t it ids → PartsFit c t (zeroed_parts it) ids
  zeroed_parts_fit c t none ids h = h
  zeroed_parts_fit c t (part it blank rest) [] h = absurd h
  zeroed_parts_fit c t (part it blank rest) (of ∷ ids) h = (zeroed_fits c t it (under_of c of) h.0, zeroed_parts_fit c t rest ids h.1)
