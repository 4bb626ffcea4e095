-- Values of a type are values of all types that are alike; and which types are.
use Rattle.std.proofs.Common.{◌≡◌, ⊎_elim, ℕ, zero, suc, Bool, true, false, true≢false, ◌||◌, ◌==◌, List, [], ◌∷◌, Option, Some, None, ap, refl, sym, subst, ◌∙◌, length, replicate, map, unwrap_or}
use Rattle.std.proofs.lemmas.Bool.{or_cases}
use Rattle.std.proofs.lemmas.Option.{none-some, cond_some}
use Rattle.std.specs.Cmp.{unsigned_Decides}
use Rattle.std.specs.Cmp.Lexicographic.{pointwise}
use Rattle.std.specs.List.{AllZip, list_any}
use Rattle.code_safety.proofs.Lists.{some_same, zip_right}
use Rattle.code_safety.proofs.Shapes.{Like, LikeTerm, LikeField, LikeMethod, Alike, alike_sym, alike_trans, alike_of, alike_under, alike_from, zip_turned, zip_joined}
use Rattle.code_safety.proofs.Values.{Typing, Fits, PartsFit, IsOf, under_of, item_types, PointsFrom, PointsAs, SlicesFrom, SliceFits, MapFits, MapNumberFits, ChanFits, ChanNumberFits, NilFunctionFits}
use Rattle.code_safety.proofs.Values.{TruthFits, NumberFits, TextFits, HasSignature, ClosureFits, BindsFor, BinderFits, NilInterfaceFits, HasMethod, BoxFits, TextRangeFits, MapRangeFits}
use Rattle.go_base.specs.declared.ids.CellId.{CellId}
use Rattle.go_base.specs.declared.ids.ChanId.{ChanId}
use Rattle.go_base.specs.declared.ids.FuncId.{FuncId}
use Rattle.go_base.specs.declared.ids.MapId.{MapId}
use Rattle.go_base.specs.declared.ids.TypeId.{TypeId}
use Rattle.go_type.proofs.Places.{at_place}
use Rattle.go_type.proofs.SameTerm.{same_term_is}
use Rattle.go_type.specs.Assignable.{underlying_term_of}
use Rattle.go_type.specs.Held.{IsHeld}
use Rattle.go_type.specs.Same.{both, same_id, same_id-Decides}
use Rattle.go_type.specs.Sizes.{is_declared}
use Rattle.go_type.specs.Table.{Table, term_at, underlying_of, definition_at, id_of, place_of, same_term}
use Rattle.go_type.specs.declared.term.Dir.TheVariants as dir
use Rattle.go_type.specs.declared.term.Field.{Field}
use Rattle.go_type.specs.declared.term.MethodType.{MethodType}
use Rattle.go_type.specs.declared.term.Signature.{Signature}
use Rattle.go_type.specs.declared.term.TypeTerm.{TypeTerm}
use Rattle.go_type.specs.declared.term.TypeTerm.TheVariants.{Basic as Plain, Pointer as Points_to, Slice, Array, Map}
use Rattle.go_type.specs.declared.term.TypeTerm.TheVariants.{Chan, Func, Struct, Interface, Tuple, Iter}
use Rattle.go_type.specs.Identity.{like_method}
use Rattle.go_value.specs.Values.{Val, Parts, none, part, truth, number, text, pointer, slice, map_number, chan_number}
use Rattle.go_value.specs.Values.{nil_function, closure, bound, expression, nil_interface, dynamic, parts, text_range}
use Rattle.go_value.specs.Values.{map_range}
use Rattle.go_value.specs.declared.address.Pointer.{Pointer}
use Rattle.go_value.specs.declared.address.SliceValue.{SliceValue}
use Rattle.go_value.specs.declared.values.BoundTarget.{BoundTarget}
use Rattle.go_value.specs.declared.values.BoundTarget.TheVariants as target
use Rattle.ssa_ir.specs.declared.code.Code.{Code}
use Rattle.ssa_ir.specs.declared.code.Function.{Function}
use Rattle.ssa_mean.specs.Calls.{method_of}
use Rattle.ssa_typed.specs.Conversions.{same_type, same_to, same_below, is_changed, like_bare, like_bare_field, alike_bare, loses_direction, points_to_same}

-- ---- values

module _ (c : Code) where
  truth_alike : (a b : Option TypeTerm) → Like (Alike c.types) a b → TruthFits a → TruthFits b
  truth_alike (Some (Plain x)) (Some (Plain y)) like h = subst (λ k. TruthFits (Some (Plain k))) like h
  truth_alike (Some (Plain x)) _ like h = absurd like
  truth_alike _ b like h = absurd h

  number_alike : (a b : Option TypeTerm) → Like (Alike c.types) a b → NumberFits a → NumberFits b
  number_alike (Some (Plain x)) (Some (Plain y)) like h = subst (λ k. NumberFits (Some (Plain k))) like h
  number_alike (Some (Plain x)) _ like h = absurd like
  number_alike _ b like h = absurd h

  text_alike : (a b : Option TypeTerm) → Like (Alike c.types) a b → TextFits a → TextFits b
  text_alike (Some (Plain x)) (Some (Plain y)) like h = subst (λ k. TextFits (Some (Plain k))) like h
  text_alike (Some (Plain x)) _ like h = absurd like
  text_alike _ b like h = absurd h

  iter_alike : {X : Option TypeTerm → Type 0} → ((a b : Option TypeTerm) → Like (Alike c.types) a b → X a → X b) → (over other : TypeId)
      → Alike c.types over other → X (under_of c over) → X (under_of c other)
  iter_alike each over other like h = each (under_of c over) (under_of c other) (alike_under c.types over other like) h

  text_range_alike : (a b : Option TypeTerm) → Like (Alike c.types) a b → TextRangeFits c a → TextRangeFits c b
  text_range_alike (Some (Iter x)) (Some (Iter y)) like h = iter_alike text_alike x y like h
  text_range_alike (Some (Iter x)) _ like h = absurd like
  text_range_alike _ b like h = absurd h

  -- lists of types that are alike, one by one
  from_other : (xs ys zs : List TypeId) → AllZip (Alike c.types) xs ys → AllZip (Alike c.types) xs zs → AllZip (Alike c.types) ys zs
  from_other xs ys zs h k =
      zip_joined (Alike c.types) (Alike c.types) (Alike c.types) (alike_trans c.types) ys xs zs (zip_turned (Alike c.types) (Alike c.types) (alike_sym c.types) xs ys h) k

  onto_other : (xs ys zs : List TypeId) → AllZip (Alike c.types) ys zs → AllZip (Alike c.types) xs ys → AllZip (Alike c.types) xs zs
  onto_other xs ys zs h k = zip_joined (Alike c.types) (Alike c.types) (Alike c.types) (alike_trans c.types) xs ys zs k h

  signature_alike : (f : Function) (x y : Signature) → LikeTerm (Alike c.types) (Func x) (Func y) → HasSignature c f x → HasSignature c f y
  signature_alike f x y like h =
      record {
        params = from_other x.params y.params f.params like.0 h.params;
        results = onto_other f.results x.results y.results like.1 h.results;
      }

  binds_alike : (of : TypeId) (x y : Signature) → LikeTerm (Alike c.types) (Func x) (Func y) → (binder : BoundTarget) → BindsFor c of x binder
      → BindsFor c of y binder
  binds_alike of x y like (target.Function id) h =
      record { function = h.function; there = h.there; free = h.free; has = signature_alike h.function x y like h.has }
  binds_alike of x y like _ h = absurd h

  binder_alike : (of : TypeId) (binder : BoundTarget) (a b : Option TypeTerm) → Like (Alike c.types) a b → BinderFits c of binder a
      → BinderFits c of binder b
  binder_alike of binder (Some (Func x)) (Some (Func y)) like h = binds_alike of x y like binder h
  binder_alike of binder (Some (Func x)) _ like h = absurd like
  binder_alike of binder _ b like h = absurd h

  nil_function_alike : (a b : Option TypeTerm) → Like (Alike c.types) a b → NilFunctionFits a → NilFunctionFits b
  nil_function_alike (Some (Func x)) (Some (Func y)) like h = tt
  nil_function_alike (Some (Func x)) _ like h = absurd like
  nil_function_alike _ b like h = absurd h

  nil_interface_alike : (a b : Option TypeTerm) → Like (Alike c.types) a b → NilInterfaceFits a → NilInterfaceFits b
  nil_interface_alike (Some (Interface x)) (Some (Interface y)) like h = tt
  nil_interface_alike (Some (Interface x)) _ like h = absurd like
  nil_interface_alike _ b like h = absurd h

  -- a term that is like that of a signature is one
  signature_like : (a b : Option TypeTerm) → Like (Alike c.types) a b → (x : Signature) → a ≡ Some (Func x)
      → (y : Signature) × ((b ≡ Some (Func y)) × LikeTerm (Alike c.types) (Func x) (Func y))
  signature_like a b like x is = onto b (subst (λ a. Like (Alike c.types) a b) is like)
    where
      onto : (b : Option TypeTerm) → Like (Alike c.types) (Some (Func x)) b → (y : Signature) × ((b ≡ Some (Func y)) × LikeTerm (Alike c.types) (Func x) (Func y))
      onto (Some (Func y)) like = (y, (refl, like))
      onto _ like = absurd like

  method_alike : (of : TypeId) (x y : MethodType) → LikeMethod (Alike c.types) x y → HasMethod c of x → HasMethod c of y
  method_alike of x y like h =
      let other = signature_like (under_of c x.of) (under_of c y.of) (alike_under c.types x.of y.of like.of) h.signature h.is_signature in
      record {
        id = h.id;
        found = sym (λ i. method_of c of (record { number = like.name i }) (like.«package» i)) ∙ h.found;
        function = h.function;
        there = h.there;
        free = h.free;
        params = h.params;
        takes = h.takes;
        signature = other.0;
        is_signature = other.1.0;
        each = from_other h.signature.params other.0.params h.params other.1.1.0 h.each;
        results = onto_other h.function.results h.signature.results other.0.results other.1.1.1 h.results;
      }

  box_alike : (of : TypeId) (a b : Option TypeTerm) → Like (Alike c.types) a b → BoxFits c of a → BoxFits c of b
  box_alike of (Some (Interface x)) (Some (Interface y)) like h = (
    h.0,
    λ n method is.
        let old = zip_right (LikeMethod (Alike c.types)) x y like n method is in
        method_alike of old.0 method old.1.1 (h.1 n old.0 old.1.0),
  )
  box_alike of (Some (Interface x)) _ like h = absurd like
  box_alike of _ b like h = absurd h

  pub items_alike : (a b : Option TypeTerm) → Like (Alike c.types) a b → (ids : List TypeId) → item_types a ≡ Some ids
      → (others : List TypeId) × ((item_types b ≡ Some others) × AllZip (Alike c.types) ids others)
  items_alike (Some (Array n x)) (Some (Array m y)) like ids is = (
    replicate m y,
    (
      refl,
      subst (λ ids. AllZip (Alike c.types) ids (replicate m y)) (some_same (replicate n x) ids is)
          (subst (λ m. AllZip (Alike c.types) (replicate n x) (replicate m y)) like.0 (zip_copies n)),
    ),
  )
    where
      zip_copies : (n : ℕ) → AllZip (Alike c.types) (replicate n x) (replicate n y)
      zip_copies zero = tt
      zip_copies (suc n) = (like.1, zip_copies n)
  items_alike (Some (Struct x)) (Some (Struct y)) like ids is =
      (map (λ field. field.of) y, (refl, subst (λ ids. AllZip (Alike c.types) ids (map (λ field. field.of) y)) (some_same (map (λ field. field.of) x) ids is) (zip_fields x y like)))
    where
      zip_fields : (x y : List Field) → AllZip (LikeField (Alike c.types)) x y → AllZip (Alike c.types) (map (λ field. field.of) x) (map (λ field. field.of) y)
      zip_fields [] [] h = tt
      zip_fields (a ∷ x) (b ∷ y) h = (h.0, zip_fields x y h.1)
      zip_fields _ _ h = absurd h
  items_alike (Some (Tuple x)) (Some (Tuple y)) like ids is =
      (y, (refl, subst (λ ids. AllZip (Alike c.types) ids y) (some_same x ids is) like))
  items_alike (Some (Array n x)) _ like ids is = absurd like
  items_alike (Some (Struct x)) _ like ids is = absurd like
  items_alike (Some (Tuple x)) _ like ids is = absurd like
  items_alike _ b like ids is = absurd (none-some ids is)

module _ (c : Code) (t : Typing) where
  points_alike : (cell : Option CellId) (path : List ℕ) (a b : TypeId) → Alike c.types a b → PointsFrom c t cell path a → PointsFrom c t cell path b
  points_alike None path a b like h = tt
  points_alike (Some cell) path a b like h =
      record { home = h.home; there = h.there; of = h.of; at = h.at; alike = alike_trans c.types h.of a b h.alike like }

  pointer_alike : (at : Pointer) (a b : Option TypeTerm) → Like (Alike c.types) a b → PointsAs c t at a → PointsAs c t at b
  pointer_alike at (Some (Points_to x)) (Some (Points_to y)) like h = points_alike at.cell at.path x y like h
  pointer_alike at (Some (Points_to x)) _ like h = absurd like
  pointer_alike at _ b like h = absurd h

  slices_alike : (cell : Option CellId) (path : List ℕ) (len cap : ℕ) (a b : TypeId) → Alike c.types a b → SlicesFrom c t cell path len cap a
      → SlicesFrom c t cell path len cap b
  slices_alike None path len cap a b like h = h
  slices_alike (Some cell) path len cap a b like h =
      record {
        home = h.home;
        there = h.there;
        front = h.front;
        last = h.last;
        is_path = h.is_path;
        array = h.array;
        at = h.at;
        ids = h.ids;
        items = h.items;
        each = λ n of is. alike_trans c.types of a b (h.each n of is) like;
        fits = h.fits;
        within = h.within;
      }

  slice_alike : (it : SliceValue) (a b : Option TypeTerm) → Like (Alike c.types) a b → SliceFits c t it a → SliceFits c t it b
  slice_alike it (Some (Slice x)) (Some (Slice y)) like h = slices_alike it.at.cell it.at.path it.len it.cap x y like h
  slice_alike it (Some (Slice x)) _ like h = absurd like
  slice_alike it _ b like h = absurd h

  map_fits_alike : (id : Option MapId) (k x l y : TypeId) → Alike c.types k l → Alike c.types x y → MapFits c t id k x → MapFits c t id l y
  map_fits_alike None k x l y like same h = tt
  map_fits_alike (Some id) k x l y like same h =
      record {
        home = h.home;
        there = h.there;
        same_key = alike_trans c.types h.home.key k l h.same_key like;
        same_elem = alike_trans c.types h.home.elem x y h.same_elem same;
      }

  map_alike : (id : Option MapId) (a b : Option TypeTerm) → Like (Alike c.types) a b → MapNumberFits c t id a → MapNumberFits c t id b
  map_alike id (Some (Map k x)) (Some (Map l y)) like h = map_fits_alike id k x l y like.0 like.1 h
  map_alike id (Some (Map k x)) _ like h = absurd like
  map_alike id _ b like h = absurd h

  chan_fits_alike : (id : Option ChanId) (x y : TypeId) → Alike c.types x y → ChanFits c t id x → ChanFits c t id y
  chan_fits_alike None x y like h = tt
  chan_fits_alike (Some id) x y like h = record { of = h.of; there = h.there; alike = alike_trans c.types h.of x y h.alike like }

  chan_alike : (id : Option ChanId) (a b : Option TypeTerm) → Like (Alike c.types) a b → ChanNumberFits c t id a → ChanNumberFits c t id b
  chan_alike id (Some (Chan d x)) (Some (Chan e y)) like h = chan_fits_alike id x y like h
  chan_alike id (Some (Chan d x)) _ like h = absurd like
  chan_alike id _ b like h = absurd h

  closure_alike : (id : FuncId) (captured : List Pointer) (a b : Option TypeTerm) → Like (Alike c.types) a b → ClosureFits c t id captured a
      → ClosureFits c t id captured b
  closure_alike id captured (Some (Func x)) (Some (Func y)) like h =
      record { function = h.function; there = h.there; free = h.free; has = signature_alike c h.function x y like h.has }
  closure_alike id captured (Some (Func x)) _ like h = absurd like
  closure_alike id captured _ b like h = absurd h

  map_range_alike : (id : Option MapId) (a b : Option TypeTerm) → Like (Alike c.types) a b → MapRangeFits c t id a → MapRangeFits c t id b
  map_range_alike id (Some (Iter x)) (Some (Iter y)) like h = iter_alike c (map_alike id) x y like h
  map_range_alike id (Some (Iter x)) _ like h = absurd like
  map_range_alike id _ b like h = absurd h

mutual
  pub fits_alike : (c : Code) (t : Typing) (it : Val) (a b : Option TypeTerm) → Like (Alike c.types) a b → Fits c t it a → Fits c t it b
  fits_alike c t (truth it) a b like h = truth_alike c a b like h
  fits_alike c t (number it) a b like h = number_alike c a b like h
  fits_alike c t (text it) a b like h = text_alike c a b like h
  fits_alike c t (pointer at) a b like h = pointer_alike c t at a b like h
  fits_alike c t (slice it) a b like h = slice_alike c t it a b like h
  fits_alike c t (map_number id) a b like h = map_alike c t id a b like h
  fits_alike c t (chan_number id) a b like h = chan_alike c t id a b like h
  fits_alike c t nil_function a b like h = nil_function_alike c a b like h
  fits_alike c t (closure id captured) a b like h = closure_alike c t id captured a b like h
  fits_alike c t (bound binder receiver) a b like h = (h.0, (binder_alike c h.0 binder a b like h.1.0, h.1.1))
  fits_alike c t (expression receiver name package_number) a b like h = absurd h
  fits_alike c t nil_interface a b like h = nil_interface_alike c a b like h
  fits_alike c t (dynamic from it) a b like h = (box_alike c from a b like h.0, h.1)
  fits_alike c t (parts it) a b like h =
      let others = items_alike c a b like h.0 h.1.0 in
      (others.0, (others.1.0, parts_alike c t it h.0 others.0 others.1.1 h.1.1))
  fits_alike c t (text_range bytes next) a b like h = text_range_alike c a b like h
  fits_alike c t (map_range id left) a b like h = map_range_alike c t id a b like h

  pub parts_alike : (c : Code) (t : Typing) (it : Parts) (ids others : List TypeId) → AllZip (Alike c.types) ids others → PartsFit c t it ids
      → PartsFit c t it others
  parts_alike c t none [] [] like h = tt
  parts_alike c t none [] (b ∷ others) like h = absurd like
  parts_alike c t none (a ∷ ids) others like h = absurd h
  parts_alike c t (part it blank rest) [] others like h = absurd h
  parts_alike c t (part it blank rest) (a ∷ ids) [] like h = absurd like
  parts_alike c t (part it blank rest) (a ∷ ids) (b ∷ others) like h =
      (fits_alike c t it (under_of c a) (under_of c b) (alike_under c.types a b like.0) h.0, parts_alike c t rest ids others like.1 h.1)

pub is_of_alike : (c : Code) (t : Typing) (it : Val) (a b : TypeId) → Alike c.types a b → IsOf c t it a → IsOf c t it b
is_of_alike c t it a b like h = fits_alike c t it (under_of c a) (under_of c b) (alike_under c.types a b like) h

-- ---- underlying types

-- a type that is not declared is its own underlying type
underlying_plain : (types : Table) → IsHeld types → (of : TypeId) → is_declared (term_at types of) ≡ false → underlying_of types of ≡ of
underlying_plain types held of plain = by (definition_at types of).underlying refl
  where
    by : (u : Option TypeId) → (definition_at types of).underlying ≡ u → unwrap_or u of ≡ of
    by None e = refl
    by (Some u) e = absurd (true≢false (sym (held.defined of u e).declared ∙ plain))

pub under_plain : (types : Table) → IsHeld types → (of : TypeId) (term : TypeTerm) → term_at types of ≡ Some term
    → is_declared (Some term) ≡ false → underlying_term_of types of ≡ Some term
under_plain types held of term is plain =
    ap (term_at types) (underlying_plain types held of (ap is_declared is ∙ plain)) ∙ is

-- an underlying type is its own
pub under_twice : (types : Table) → IsHeld types → (of : TypeId)
    → underlying_term_of types (underlying_of types of) ≡ underlying_term_of types of
under_twice types held of = by (definition_at types of).underlying refl
  where
    by : (u : Option TypeId) → (definition_at types of).underlying ≡ u
        → underlying_term_of types (unwrap_or u of) ≡ term_at types (unwrap_or u of)
    by None e = ap (λ u. term_at types (unwrap_or u of)) e
    by (Some u) e = ap (term_at types) (underlying_plain types held u (held.defined of u e).plain)

pub held_id : (types : Table) → (of : TypeId) (term : TypeTerm) → id_of term types ≡ Some of → term_at types of ≡ Some term
held_id types of term is =
    let there = cond_some (list_any (same_term term) types.terms) (record { number = place_of term types }) of is in
    ap (λ id. term_at types id) (sym there.1) ∙ at_place same_term term (same_term_is term) types.terms there.0

-- ---- types that are identical but for tags

pub zip_tested : {A B : Type 0} (R : A → B → Bool) (S : A → B → Type 0) → ((a : A) (b : B) → R a b ≡ true → S a b) → (xs : List A) (ys : List B)
    → pointwise R xs ys ≡ true → AllZip S xs ys
zip_tested R S each [] [] h = tt
zip_tested R S each (x ∷ xs) (y ∷ ys) h =
    let k = both (R x y) (pointwise R xs ys) h in
    (each x y k.0, zip_tested R S each xs ys k.1)
zip_tested R S each [] (y ∷ ys) h = absurd (true≢false (sym h))
zip_tested R S each (x ∷ xs) [] h = absurd (true≢false (sym h))

module _ (types : Table) (held : IsHeld types) where
  module _ (R : TypeId → TypeId → Bool) (each : (a b : TypeId) → R a b ≡ true → Alike types a b) where
    field_is : (a b : Field) → like_bare_field R a b ≡ true → LikeField (Alike types) a b
    field_is a b h =
        let k = both (a.name.number == b.name.number) _ h in
        let l = both (a.package == b.package) _ k.1 in
        each a.of b.of (both _ (R a.of b.of) l.1).1

    method_is : (a b : MethodType) → like_method R a b ≡ true → LikeMethod (Alike types) a b
    method_is a b h =
        let k = both (a.name.number == b.name.number) _ h in
        let l = both (a.package == b.package) _ k.1 in
        record {
          name = (unsigned_Decides a.name.number b.name.number).0 k.0;
          «package» = (unsigned_Decides a.package b.package).0 l.0;
          of = each a.of b.of l.1;
        }

    bare_is : (a b : TypeTerm) → like_bare R a b ≡ true → (is_declared (Some a) ≡ false) × ((is_declared (Some b) ≡ false) × LikeTerm (Alike types) a b)
    bare_is (Points_to a) (Points_to b) h = (refl, (refl, each a b h))
    bare_is (Slice a) (Slice b) h = (refl, (refl, each a b h))
    bare_is (Array n a) (Array m b) h =
        let k = both (n == m) (R a b) h in
        (refl, (refl, ((unsigned_Decides n m).0 k.0, each a b k.1)))
    bare_is (Map k a) (Map l b) h =
        let j = both (R k l) (R a b) h in
        (refl, (refl, (each k l j.0, each a b j.1)))
    bare_is (Chan d a) (Chan e b) h = (refl, (refl, each a b (both _ (R a b) h).1))
    bare_is (Func a) (Func b) h =
        let j = both (pointwise R a.params b.params) _ h in
        let k = both (pointwise R a.results b.results) _ j.1 in
        (refl, (refl, (zip_tested R (Alike types) each a.params b.params j.0, zip_tested R (Alike types) each a.results b.results k.0)))
    bare_is (Struct a) (Struct b) h = (refl, (refl, zip_tested (like_bare_field R) (LikeField (Alike types)) field_is a b h))
    bare_is (Interface a) (Interface b) h = (refl, (refl, zip_tested (like_method R) (LikeMethod (Alike types)) method_is a b h))
    bare_is _ _ h = absurd (true≢false (sym h))

    bare_alike : (a b : TypeId) (s t : Option TypeTerm) → term_at types a ≡ s → term_at types b ≡ t → alike_bare R s t ≡ true → Alike types a b
    bare_alike a b (Some s) (Some t) is js h =
        let k = bare_is s t h in
        alike_from types a b
        (subst (λ s. Like (Alike types) s (underlying_term_of types b)) (sym (under_plain types held a s is k.0))
        (subst (λ t. Like (Alike types) (Some s) t) (sym (under_plain types held b t js k.1.0)) k.1.1))
    bare_alike a b None t is js h = absurd (true≢false (sym h))
    bare_alike a b (Some s) None is js h = absurd (true≢false (sym h))

  pub same_id_alike : (a b : TypeId) → same_id a b ≡ true → Alike types a b
  same_id_alike a b h = alike_of types a b ((same_id-Decides a b).0 h)

  same_to_alike : (n : ℕ) (a b : TypeId) → same_to n types a b ≡ true → Alike types a b
  same_to_alike zero a b h = same_id_alike a b h
  same_to_alike (suc n) a b h =
      ⊎_elim (λ k. same_id_alike a b k)
      (λ k. bare_alike (same_to n types) (same_to_alike n) a b (term_at types a) (term_at types b) refl refl k)
      (or_cases (same_id a b) (alike_bare (same_to n types) (term_at types a) (term_at types b)) h)

pub same_alike : (types : Table) → IsHeld types → (a b : TypeId) → same_type types a b ≡ true → Alike types a b
same_alike types held a b h = same_to_alike types held (length types.terms) a b h

-- types are alike as their underlying types are
below_alike : (types : Table) → IsHeld types → (a b : TypeId) → Alike types (underlying_of types a) (underlying_of types b) → Alike types a b
below_alike types held a b h =
    alike_from types a b
    (subst (λ s. Like (Alike types) s (underlying_term_of types b)) (under_twice types held a)
    (subst (λ t. Like (Alike types) (underlying_term_of types (underlying_of types a)) t) (under_twice types held b)
    (alike_under types (underlying_of types a) (underlying_of types b) h)))

pub same_below_alike : (types : Table) → IsHeld types → (a b : TypeId) → same_below types a b ≡ true → Alike types a b
same_below_alike types held a b h =
    below_alike types held a b (same_alike types held (underlying_of types a) (underlying_of types b) h)

module _ (types : Table) (held : IsHeld types) where
  direction_like : (s t : Option TypeTerm) → loses_direction s t ≡ true → Like (Alike types) s t
  direction_like (Some (Chan dir.Both a)) (Some (Chan way b)) h = same_id_alike types held a b h
  direction_like _ _ h = absurd (true≢false (sym h))

  points_like : (s t : Option TypeTerm) → points_to_same types s t ≡ true → Like (Alike types) s t
  points_like (Some (Points_to a)) (Some (Points_to b)) h = same_below_alike types held a b h
  points_like _ _ h = absurd (true≢false (sym h))

pub changed_alike : (types : Table) → IsHeld types → (a b : TypeId) → is_changed types a b ≡ true → Alike types a b
changed_alike types held a b h =
    let u = underlying_of types a in
    let v = underlying_of types b in
    let s = term_at types u in
    let t = term_at types v in
    ⊎_elim (λ same. below_alike types held a b (same_alike types held u v same))
    (λ other. alike_from types a b
    (⊎_elim (λ k. direction_like types held s t k) (λ k. points_like types held s t k)
    (or_cases (loses_direction s t) (points_to_same types s t) other)))
    (or_cases (same_type types u v) (loses_direction s t || points_to_same types s t) h)
