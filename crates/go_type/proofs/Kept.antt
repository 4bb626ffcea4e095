-- What holds of the types that are held goes on to hold.
use Rattle.std.proofs.Common.{cond, ◌≡◌, ◌≢◌, ◌==◌, Result, Ok, Err, OnOk, OnErr, ℕ, zero, suc, ◌<◌, ◌≤◌, nat_lt, Bool, true, false, true≢false, not, ◌&&◌, List, [], ◌∷◌, ◌++◌, length, map, Option, Some, None, is_some, unwrap_or, slice_get, slice_set, refl, sym, ap, subst, ◌∙◌, arith, ◌⊎◌, inl, inr}
use Rattle.std.specs.List.{list_any, list_all}
use Rattle.std.proofs.lemmas.Bool.{cases_lt}
use Rattle.std.proofs.lemmas.List.Elements.{All-push}
use Rattle.std.proofs.lemmas.List.Folds.{list_all-append}
use Rattle.std.proofs.lemmas.List.{get_or-set_same, get_or-set_other, get_or_default, set-get_or}
use Rattle.std.proofs.lemmas.Map.Keys.{IsDistinct-push}
use Rattle.std.proofs.lemmas.Option.{unwrap_or-slice_get}
use Rattle.std.proofs.Math.ListN.{length-set, get_or}
use borrow.Author.Tests.{ltb-true}
use Rattle.go_base.specs.declared.ids.NameId.{NameId}
use Rattle.go_base.specs.declared.ids.TypeId.{TypeId}
use Rattle.go_base.specs.declared.memory.NoMemory.{NoMemory}
use Rattle.go_type.specs.declared.methods.MethodEntry.{MethodEntry}
use Rattle.go_type.specs.declared.term.Field.{Field}
use Rattle.go_type.specs.declared.term.TypeTerm.{TypeTerm}
use Rattle.go_type.specs.declared.term.TypeTerm.TheVariants.{Declared, Func, Array, Struct}
use Rattle.go_type.specs.declared.types.Definition.{Definition}
use Rattle.go_type.specs.Conditions.{is_held, is_function, is_method_kind, is_own_method, is_definable, CanDefine, takes_method, has_name, reaches_to}
use Rattle.go_type.specs.Held.{IsHeld, StandsAt, IsDefined, IsError, is_error_name, is_error_interface, names_below, is_ordered, term_parts}
use Rattle.go_type.specs.Inline.{inline_parts, parts_of}
use Rattle.go_type.specs.Levels.{is_seen}
use Rattle.go_type.specs.Same.{same_id, same_id-Decides, both, each}
use Rattle.go_type.specs.Sizes.{is_declared}
use Rattle.go_type.specs.Table.{Table, same_term, term_at, definition_at, underlying_of, with_next, with_definition, with_underlying, with_method, with_blank, no_definition, FieldsFit}
use Rattle.go_type.proofs.Distinct.{same_term_equiv}
use Rattle.go_type.proofs.Held.{inside, declared_held}
use Rattle.go_type.proofs.InlineTypes.{all_at, all_mono, get_before}
use Rattle.go_type.proofs.Leading.{Leads, part, along, leads_on, to_steps, never_itself, none_leads}

-- ---- lists

-- what is there stays where more comes
pub stays : {X : Type 0} (xs ys : List X) (k : ℕ) (x : X) → slice_get xs k ≡ Some x → slice_get (xs ++ ys) k ≡ Some x
stays [] ys k x h = cc
stays (y ∷ xs) ys zero x h = h
stays (y ∷ xs) ys (suc k) x h = stays xs ys k x h

-- what is there was there before, or has come
came : {X : Type 0} (xs : List X) (y : X) (k : ℕ) (x : X) → slice_get (xs ++ y ∷ []) k ≡ Some x → (slice_get xs k ≡ Some x) ⊎ ((k ≡ length xs) × (x ≡ y))
came [] y zero x h = let is : x ≡ y = cc in inr (refl, is)
came [] y (suc k) x h = cc
came (z ∷ xs) y zero x h = inl h
came (z ∷ xs) y (suc k) x h = side (came xs y k x h)
  where
    side : (slice_get xs k ≡ Some x) ⊎ ((k ≡ length xs) × (x ≡ y)) → (slice_get xs k ≡ Some x) ⊎ ((suc k ≡ suc (length xs)) × (x ≡ y))
    side (inl before) = inl before
    side (inr here) = inr (ap suc here.0, here.1)

-- a default more at the end changes nothing
pub more_default : {X : Type 0} (xs : List X) (d : X) (k : ℕ) → unwrap_or (slice_get (xs ++ d ∷ []) k) d ≡ unwrap_or (slice_get xs k) d
more_default [] d zero = refl
more_default [] d (suc k) = refl
more_default (x ∷ xs) d zero = refl
more_default (x ∷ xs) d (suc k) = more_default xs d k

longer : {X : Type 0} (xs : List X) (x : X) → length (xs ++ x ∷ []) ≡ suc (length xs)
longer [] x = refl
longer (y ∷ xs) x = ap suc (longer xs x)

-- ---- terms

abbrev IsKept : (TypeTerm → Bool) → Type 0
IsKept p = (t : TypeTerm) → p t ≡ true

with_term : (t : Option TypeTerm) → is_declared t ≡ true → (u : Option TypeTerm) → ((x : TypeTerm) → t ≡ Some x → u ≡ Some x) → is_declared u ≡ true
with_term (Some x) h u same = ap is_declared (same x refl) ∙ h
with_term None h u same = absurd (true≢false (sym h))

with_function : (t : Option TypeTerm) → is_function t ≡ true → (u : Option TypeTerm) → ((x : TypeTerm) → t ≡ Some x → u ≡ Some x) → is_function u ≡ true
with_function (Some x) h u same = ap is_function (same x refl) ∙ h
with_function None h u same = absurd (true≢false (sym h))

with_error : (t : Option TypeTerm) → is_error_name t ≡ true → (u : Option TypeTerm) → ((x : TypeTerm) → t ≡ Some x → u ≡ Some x) → is_error_name u ≡ true
with_error (Some x) h u same = ap is_error_name (same x refl) ∙ h
with_error None h u same = absurd (true≢false (sym h))

with_interface : (t : Option TypeTerm) → is_error_interface t ≡ true → (u : Option TypeTerm) → ((x : TypeTerm) → t ≡ Some x → u ≡ Some x) → is_error_interface u ≡ true
with_interface (Some x) h u same = ap is_error_interface (same x refl) ∙ h
with_interface None h u same = absurd (true≢false (sym h))

own_kept : (old new : Table) → ((id : TypeId) (x : TypeTerm) → term_at old id ≡ Some x → term_at new id ≡ Some x) → (m : MethodEntry) → is_own_method old m ≡ true → is_own_method new m ≡ true
own_kept old new same m h =
    let parts = both (is_method_kind m.kind && (length m.path == 0)) (is_function (term_at old m.of)) h in
    each _ _ parts.0 (with_function (term_at old m.of) parts.1 (term_at new m.of) (same m.of))

all_own : (old new : Table) → ((id : TypeId) (x : TypeTerm) → term_at old id ≡ Some x → term_at new id ≡ Some x) → (methods : List MethodEntry)
    → list_all (is_own_method old) methods ≡ true → list_all (is_own_method new) methods ≡ true
all_own old new same methods h = all_mono (is_own_method old) (is_own_method new) (own_kept old new same) methods h

pub some_term : {X : Type 0} (xs : List X) (k : ℕ) → k < length xs → (x : X) × (slice_get xs k ≡ Some x)
some_term [] k h = absurd (omega arith)
some_term (x ∷ xs) zero h = (x, refl)
some_term (x ∷ xs) (suc k) h = let less : k < length xs = omega arith in some_term xs k less

-- the elements and fields of a term are among what it names
one_part : (p : TypeId → Bool) (elem y : TypeId) → is_seen (elem ∷ []) y ≡ true → p elem ≡ true → p y ≡ true
one_part p elem y at h = all_at p (elem ∷ []) y (each _ _ h refl) at

inline_below : (n : ℕ) (t : TypeTerm) (y : TypeId) → is_seen (inline_parts (Some t)) y ≡ true → names_below n t ≡ true → y.number < n
inline_below n (Array len elem) y at h = ltb-true _ _ (all_at (λ part. nat_lt part.number n) (elem ∷ []) y h at)
inline_below n (Struct fields) y at h = ltb-true _ _ (all_at (λ part. nat_lt part.number n) (map (λ field. field.of) fields) y h at)
inline_below n _ y at h = absurd (true≢false (sym at))

-- ---- one type more

module _ (types : Table) (held : IsHeld types) (term : TypeTerm) (below : names_below (length types.terms) term ≡ true) where
  abbrev new : Table
  new = with_next term types

  same_term_at : (id : TypeId) (t : TypeTerm) → term_at types id ≡ Some t → term_at new id ≡ Some t
  same_term_at id t h = stays types.terms (term ∷ []) id.number t h

  same_definition : (id : TypeId) → definition_at new id ≡ definition_at types id
  same_definition id = more_default types.definitions no_definition id.number

  same_underlying : (id : TypeId) → underlying_of new id ≡ underlying_of types id
  same_underlying id = ap (λ (d : Definition). unwrap_or d.underlying id) (same_definition id)

  same_below : (id : TypeId) → id.number < length types.terms → term_at new id ≡ term_at types id
  same_below id less = get_before types.terms (term ∷ []) id.number less

  underlying_held : (id : TypeId) → id.number < length types.terms → (underlying_of types id).number < length types.terms
  underlying_held id less = by (definition_at types id).underlying refl
    where
      by : (u : Option TypeId) → (definition_at types id).underlying ≡ u → (unwrap_or u id).number < length types.terms
      by (Some u) e = (held.defined id u e).held
      by None e = less

  same_parts : (id : TypeId) → id.number < length types.terms → parts_of new id ≡ parts_of types id
  same_parts id less = ap (λ u. inline_parts (term_at new u)) (same_underlying id) ∙ ap inline_parts (same_below (underlying_of types id) (underlying_held id less))

  -- elements and fields of a type that is held are held
  part_held : (x y : TypeId) → is_seen (parts_of types x) y ≡ true → y.number < length types.terms
  part_held x y at = by (term_at types (underlying_of types x)) refl at
    where
      by : (t : Option TypeTerm) → term_at types (underlying_of types x) ≡ t → is_seen (inline_parts t) y ≡ true → y.number < length types.terms
      by (Some t) e seen =
          let place : (underlying_of types x).number < length types.terms = inside types.terms (underlying_of types x).number t e in
          let less : y.number < (underlying_of types x).number = inline_below (underlying_of types x).number t y seen (held.stands (underlying_of types x) t e).parts in
          omega arith
      by None e seen = absurd (true≢false (sym seen))

  leads_before : (x y : TypeId) → x.number < length types.terms → Leads new x y → Leads types x y × (y.number < length types.terms)
  leads_before x y less (part at) =
      let before : is_seen (parts_of types x) y ≡ true = sym (ap (λ l. is_seen l y) (same_parts x less)) ∙ at in
      (part before, part_held x y before)
  leads_before x y less (along {z = z} at more) =
      let before : is_seen (parts_of types x) z ≡ true = sym (ap (λ l. is_seen l z) (same_parts x less)) ∙ at in
      let rest = leads_before z y (part_held x z before) more in
      (along before rest.0, rest.1)

  -- the parts of the new type are held
  undefined_past : (x : TypeId) → length types.terms ≤ x.number → underlying_of types x ≡ x
  undefined_past x more = by (definition_at types x).underlying refl
    where
      by : (u : Option TypeId) → (definition_at types x).underlying ≡ u → unwrap_or u x ≡ x
      by (Some u) e = let less : x.number < length types.terms = declared_held types x (held.defined x u e).declared in absurd (omega arith)
      by None e = refl

  new_part : (x y : TypeId) → length types.terms ≤ x.number → is_seen (parts_of new x) y ≡ true → y.number < length types.terms
  new_part x y more at = by (term_at new x) refl (sym (ap (λ u. is_seen (inline_parts (term_at new u)) y) (same_underlying x ∙ undefined_past x more)) ∙ at)
    where
      by : (t : Option TypeTerm) → term_at new x ≡ t → is_seen (inline_parts t) y ≡ true → y.number < length types.terms
      by (Some t) e seen = side (came types.terms term x.number t e)
        where
          side : (slice_get types.terms x.number ≡ Some t) ⊎ ((x.number ≡ length types.terms) × (t ≡ term)) → y.number < length types.terms
          side (inl before) = let less : x.number < length types.terms = inside types.terms x.number t before in absurd (omega arith)
          side (inr here) = inline_below (length types.terms) t y seen (ap (names_below (length types.terms)) here.1 ∙ below)
      by None e seen = absurd (true≢false (sym seen))

  none_itself : (x : TypeId) → Leads new x x → ⊥
  none_itself x leads = by (cases_lt x.number (length types.terms))
    where
      past : length types.terms ≤ x.number → (y : TypeId) → Leads new x y → x ≡ y → ⊥
      past more y (part at) same = let less : y.number < length types.terms = new_part x y more at in let is : x.number ≡ y.number = ap (λ t. t.number) same in absurd (omega arith)
      past more y (along {z = z} at rest) same =
          let less : z.number < length types.terms = new_part x z more at in
          let last : y.number < length types.terms = (leads_before z y less rest).1 in
          let is : x.number ≡ y.number = ap (λ t. t.number) same in
          absurd (omega arith)

      by : (x.number < length types.terms) ⊎ (length types.terms ≤ x.number) → ⊥
      by (inl less) = none_leads types held.acyclic x (leads_before x x less leads).0
      by (inr more) = past more x leads refl

  stands_next : is_ordered term ≡ true → (id : TypeId) (t : TypeTerm) → term_at new id ≡ Some t → StandsAt id.number t
  stands_next ordered id t e = side (came types.terms term id.number t e)
    where
      side : (slice_get types.terms id.number ≡ Some t) ⊎ ((id.number ≡ length types.terms) × (t ≡ term)) → StandsAt id.number t
      side (inl before) = held.stands id t before
      side (inr here) = record {
        parts = (λ i. names_below (here.0 i) (here.1 i)) ∙ below;
        ordered = ap is_ordered here.1 ∙ ordered;
      }

  defined_next : (id u : TypeId) → (definition_at new id).underlying ≡ Some u → IsDefined new id u
  defined_next id u e =
      let before = held.defined id u (sym (ap (λ (d : Definition). d.underlying) (same_definition id)) ∙ e) in
      record {
        declared = with_term (term_at types id) before.declared (term_at new id) (same_term_at id);
        held = let more : length new.terms ≡ suc (length types.terms) = longer types.terms term in let less = before.held in omega arith;
        plain = ap is_declared (same_below u before.held) ∙ before.plain;
      }

  pub kept_next : list_any (same_term term) types.terms ≡ false → FieldsFit term → is_ordered term ≡ true → IsHeld (with_next term types)
  kept_next absent fit ordered = record {
    counts = longer types.definitions no_definition ∙ ap suc held.counts ∙ sym (longer types.terms term);
    distinct = IsDistinct-push same_term_equiv types.terms term held.distinct absent;
    fit = All-push FieldsFit types.terms term held.fit fit;
    stands = stands_next ordered;
    defined = defined_next;
    own = λ id. ap (λ (d : Definition). list_all (is_own_method new) d.methods) (same_definition id) ∙ all_own types new same_term_at (definition_at types id).methods (held.own id);
    owners = λ id h. ap (λ (d : Definition). d.methods) (same_definition id) ∙ held.owners id (undeclared id h);
    acyclic = never_itself new none_itself;
    basics = λ kind. stays types.terms (term ∷ []) _ _ (held.basics kind);
    error = record {
      place = held.error.place;
      name = with_error (term_at types (record { number = 19 })) held.error.name (term_at new (record { number = 19 })) (same_term_at (record { number = 19 }));
      underlying = ap (λ (d : Definition). d.underlying) (same_definition (record { number = 19 })) ∙ held.error.underlying;
      interface = with_interface (term_at types (record { number = 18 })) held.error.interface (term_at new (record { number = 18 })) (same_term_at (record { number = 18 }));
      function = stays types.terms (term ∷ []) _ _ held.error.function;
    };
  }
    where
      undeclared : (id : TypeId) → is_declared (term_at new id) ≡ false → is_declared (term_at types id) ≡ false
      undeclared id h = by (is_declared (term_at types id)) refl
        where
          by : (b : Bool) → is_declared (term_at types id) ≡ b → b ≡ false
          by true e = sym (with_term (term_at types id) e (term_at new id) (same_term_at id)) ∙ h
          by false e = refl

-- ---- another definition

module _ (types : Table) (held : IsHeld types) (id : TypeId) (less : id.number < length types.terms) (definition : Definition) where
  abbrev changed : Table
  changed = with_definition id definition types

  room : id.number < length types.definitions
  room = let count = held.counts in omega arith

  read : (x : TypeId) → definition_at changed x ≡ get_or changed.definitions x.number no_definition
  read x = unwrap_or-slice_get changed.definitions x.number no_definition

  pub there : (x : TypeId) → x ≡ id → definition_at changed x ≡ definition
  there x same = read x ∙ ap (λ (y : TypeId). get_or changed.definitions y.number no_definition) same ∙ get_or-set_same types.definitions id.number definition no_definition room

  pub elsewhere : (x : TypeId) → x.number ≢ id.number → definition_at changed x ≡ definition_at types x
  elsewhere x apart =
      read x ∙ get_or-set_other types.definitions id.number x.number definition no_definition apart ∙ sym (unwrap_or-slice_get types.definitions x.number no_definition)

  -- the one that is changed, or another
  pub either : (x : TypeId) → (x ≡ id) ⊎ (x.number ≢ id.number)
  either x = by (same_id x id) refl
    where
      by : (b : Bool) → same_id x id ≡ b → (x ≡ id) ⊎ (x.number ≢ id.number)
      by true e = inl ((same_id-Decides x id).0 e)
      by false e = inr (λ n. true≢false (sym ((same_id-Decides x id).1 (λ i. record { number = n i })) ∙ e))

  counts_kept : length changed.definitions ≡ length changed.terms
  counts_kept = length-set types.definitions id.number definition ∙ held.counts

  kept_changed : is_declared (term_at types id) ≡ true → list_all (is_own_method types) definition.methods ≡ true
      → ((u : TypeId) → definition.underlying ≡ Some u → IsDefined types id u) → (id ≡ record { number = 19 } → definition.underlying ≡ Some (record { number = 18 }))
      → ((x : TypeId) → Leads changed x x → ⊥) → IsHeld changed
  kept_changed declared own defined error none = record {
    counts = counts_kept;
    distinct = held.distinct;
    fit = held.fit;
    stands = held.stands;
    defined = λ x u e. again x u (defined_at x u e (either x));
    own = λ x. own_at x (either x);
    owners = λ x h. owners_at x h (either x);
    acyclic = never_itself changed none;
    basics = held.basics;
    error = record {
      place = held.error.place;
      name = held.error.name;
      underlying = error_at (either (record { number = 19 }));
      interface = held.error.interface;
      function = held.error.function;
    };
  }
    where
      again : (x u : TypeId) → IsDefined types x u → IsDefined changed x u
      again x u is = record { declared = is.declared; held = is.held; plain = is.plain }

      defined_at : (x u : TypeId) → (definition_at changed x).underlying ≡ Some u → (x ≡ id) ⊎ (x.number ≢ id.number) → IsDefined types x u
      defined_at x u e (inl same) = subst (λ (y : TypeId). IsDefined types y u) (sym same) (defined u (sym (ap (λ (d : Definition). d.underlying) (there x same)) ∙ e))
      defined_at x u e (inr apart) = held.defined x u (sym (ap (λ (d : Definition). d.underlying) (elsewhere x apart)) ∙ e)

      own_at : (x : TypeId) → (x ≡ id) ⊎ (x.number ≢ id.number) → list_all (is_own_method types) (definition_at changed x).methods ≡ true
      own_at x (inl same) = ap (λ (d : Definition). list_all (is_own_method types) d.methods) (there x same) ∙ own
      own_at x (inr apart) = ap (λ (d : Definition). list_all (is_own_method types) d.methods) (elsewhere x apart) ∙ held.own x

      owners_at : (x : TypeId) → is_declared (term_at types x) ≡ false → (x ≡ id) ⊎ (x.number ≢ id.number) → (definition_at changed x).methods ≡ []
      owners_at x h (inl same) = absurd (true≢false (sym declared ∙ sym (ap (λ (y : TypeId). is_declared (term_at types y)) same) ∙ h))
      owners_at x h (inr apart) = ap (λ (d : Definition). d.methods) (elsewhere x apart) ∙ held.owners x h

      error_at : (record { number = 19 } ≡ id) ⊎ (19 ≢ id.number) → (definition_at changed (record { number = 19 })).underlying ≡ Some (record { number = 18 })
      error_at (inl same) = ap (λ (d : Definition). d.underlying) (there (record { number = 19 }) same) ∙ error (sym same)
      error_at (inr apart) = ap (λ (d : Definition). d.underlying) (elsewhere (record { number = 19 }) apart) ∙ held.error.underlying

-- ---- one method more

leads_same : (old later : Table) → ((x : TypeId) → parts_of later x ≡ parts_of old x) → (x y : TypeId) → Leads later x y → Leads old x y
leads_same old later same x y (part at) = part (sym (ap (λ l. is_seen l y) (same x)) ∙ at)
leads_same old later same x y (along {z = z} at more) = along (sym (ap (λ l. is_seen l z) (same x)) ∙ at) (leads_same old later same z y more)

pub kept_method : (types : Table) (id : TypeId) (m : MethodEntry) → IsHeld types → takes_method types id m ≡ true → IsHeld (with_method id m types)
kept_method types id m held takes =
    kept_changed types held id less definition declared own (λ u e. held.defined id u e) (λ same. ap (λ (y : TypeId). (definition_at types y).underlying) same ∙ held.error.underlying)
    (λ x leads. none_leads types held.acyclic x (leads_same types (with_method id m types) same_parts x x leads))
  where
    first : is_declared (term_at types id) && is_own_method types m ≡ true
    first = (both (is_declared (term_at types id) && is_own_method types m) _ takes).0

    declared : is_declared (term_at types id) ≡ true
    declared = (both (is_declared (term_at types id)) (is_own_method types m) first).0

    less : id.number < length types.terms
    less = declared_held types id declared

    definition : Definition
    definition = record { underlying = (definition_at types id).underlying; methods = (definition_at types id).methods ++ m ∷ [] }

    own : list_all (is_own_method types) ((definition_at types id).methods ++ m ∷ []) ≡ true
    own = list_all-append (is_own_method types) (definition_at types id).methods (m ∷ []) ∙ each _ _ (held.own id) (each _ _ (both (is_declared (term_at types id)) (is_own_method types m) first).1 refl)

    same_parts : (x : TypeId) → parts_of (with_method id m types) x ≡ parts_of types x
    same_parts x = ap (λ u. inline_parts (term_at types (unwrap_or u x))) (by (either types held id less definition x))
      where
        by : (x ≡ id) ⊎ (x.number ≢ id.number) → (definition_at (with_method id m types) x).underlying ≡ (definition_at types x).underlying
        by (inl same) = ap (λ (d : Definition). d.underlying) (there types held id less definition x same) ∙ sym (ap (λ (y : TypeId). (definition_at types y).underlying) same)
        by (inr apart) = ap (λ (d : Definition). d.underlying) (elsewhere types held id less definition x apart)

-- ---- a type that is defined

module _ (types : Table) (held : IsHeld types) (id u : TypeId) (can : CanDefine types id u) where
  abbrev is_free : Bool
  is_free = is_declared (term_at types id) && not (is_some (definition_at types id).underlying)

  abbrev to_define : Definition
  to_define = record { underlying = Some u; methods = (definition_at types id).methods }

  first : is_free && is_held types u ≡ true
  first = (both (is_free && is_held types u) (not (is_declared (term_at types u))) can.0).0

  free : is_free ≡ true
  free = (both is_free (is_held types u) first).0

  declared : is_declared (term_at types id) ≡ true
  declared = (both (is_declared (term_at types id)) (not (is_some (definition_at types id).underlying)) free).0

  less : id.number < length types.terms
  less = declared_held types id declared

  not_true : (b : Bool) → not b ≡ true → b ≡ false
  not_true true h = sym h
  not_true false h = refl

  plain : is_declared (term_at types u) ≡ false
  plain = not_true (is_declared (term_at types u)) (both (is_free && is_held types u) (not (is_declared (term_at types u))) can.0).1

  undefined : (v : TypeId) → (definition_at types id).underlying ≡ Some v → ⊥
  undefined v e = true≢false (sym (ap is_some e) ∙ not_true (is_some (definition_at types id).underlying) (both (is_declared (term_at types id)) (not (is_some (definition_at types id).underlying)) free).1)

  itself : underlying_of types u ≡ u
  itself = by (definition_at types u).underlying refl
    where
      by : (v : Option TypeId) → (definition_at types u).underlying ≡ v → unwrap_or v u ≡ u
      by (Some v) e = absurd (true≢false (sym (held.defined u v e).declared ∙ plain))
      by None e = refl

  parts_there : (x : TypeId) → x ≡ id → parts_of (with_underlying id u types) x ≡ parts_of types u
  parts_there x same = ap (λ (d : Definition). inline_parts (term_at types (unwrap_or d.underlying x))) (there types held id less to_define x same) ∙ sym (ap (λ w. inline_parts (term_at types w)) itself)

  parts_elsewhere : (x : TypeId) → x.number ≢ id.number → parts_of (with_underlying id u types) x ≡ parts_of types x
  parts_elsewhere x apart = ap (λ (d : Definition). inline_parts (term_at types (unwrap_or d.underlying x))) (elsewhere types held id less to_define x apart)

  never : Leads types u id → ⊥
  never leads = let steps = to_steps types u id leads in true≢false (sym steps.1 ∙ can.1 steps.0)

  -- what leads on did so before, or does so through the type that is defined
  abbrev Through : TypeId → TypeId → Type 0
  Through x y = ((x ≡ id) ⊎ Leads types x id) × Leads types u y

  split : (x y : TypeId) → Leads (with_underlying id u types) x y → Leads types x y ⊎ Through x y
  split x y (part at) = by (either types held id less to_define x)
    where
      by : (x ≡ id) ⊎ (x.number ≢ id.number) → Leads types x y ⊎ Through x y
      by (inl same) = inr (inl same, part (sym (ap (λ l. is_seen l y) (parts_there x same)) ∙ at))
      by (inr apart) = inl (part (sym (ap (λ l. is_seen l y) (parts_elsewhere x apart)) ∙ at))
  split x y (along {z = z} at more) = by (either types held id less to_define x) (split z y more)
    where
      to_id : is_seen (parts_of types x) z ≡ true → (z ≡ id) ⊎ Leads types z id → Leads types x id
      to_id seen (inl same) = part (sym (ap (is_seen (parts_of types x)) same) ∙ seen)
      to_id seen (inr rest) = along seen rest

      by : (x ≡ id) ⊎ (x.number ≢ id.number) → Leads types z y ⊎ Through z y → Leads types x y ⊎ Through x y
      by (inl same) (inl rest) = inr (inl same, along (sym (ap (λ l. is_seen l z) (parts_there x same)) ∙ at) rest)
      by (inl same) (inr through) = inr (inl same, through.1)
      by (inr apart) (inl rest) = inl (along (sym (ap (λ l. is_seen l z) (parts_elsewhere x apart)) ∙ at) rest)
      by (inr apart) (inr through) = inr (inr (to_id (sym (ap (λ l. is_seen l z) (parts_elsewhere x apart)) ∙ at) through.0), through.1)

  none_itself_defined : (x : TypeId) → Leads (with_underlying id u types) x x → ⊥
  none_itself_defined x leads = by (split x x leads)
    where
      by : Leads types x x ⊎ Through x x → ⊥
      by (inl before) = none_leads types held.acyclic x before
      by (inr through) = side through.0 through.1
        where
          side : (x ≡ id) ⊎ Leads types x id → Leads types u x → ⊥
          side (inl same) rest = never (subst (λ (y : TypeId). Leads types u y) same rest)
          side (inr to) rest = never (leads_on types u x id rest to)

  pub kept_underlying : IsHeld (with_underlying id u types)
  kept_underlying =
      kept_changed types held id less to_define declared (held.own id)
      (λ v e. subst (λ (w : TypeId). IsDefined types id w) (some_same u v e) (record { declared = declared; held = ltb-true _ _ (both is_free (is_held types u) first).1; plain = plain }))
      (λ same. absurd (undefined (record { number = 18 }) (ap (λ (y : TypeId). (definition_at types y).underlying) same ∙ held.error.underlying)))
      none_itself_defined
    where
      some_same : (a b : TypeId) → Some a ≡ Some b → a ≡ b
      some_same a b e = cc

-- ---- the name `_`

pub kept_blank : (types : Table) (name : NameId) → IsHeld types → IsHeld (with_blank name types)
kept_blank types name held = record {
  counts = held.counts;
  distinct = held.distinct;
  fit = held.fit;
  stands = held.stands;
  defined = λ id u e. let is = held.defined id u e in record { declared = is.declared; held = is.held; plain = is.plain };
  own = held.own;
  owners = held.owners;
  acyclic = never_itself (with_blank name types) (λ x leads. none_leads types held.acyclic x (leads_same types (with_blank name types) (λ y. refl) x x leads));
  basics = held.basics;
  error = record {
    place = held.error.place;
    name = held.error.name;
    underlying = held.error.underlying;
    interface = held.error.interface;
    function = held.error.function;
  };
}

-- ---- as the code writes

read_definition : (definitions : List Definition) (n : ℕ) (d : Definition) → n < length definitions → d ≡ get_or definitions n d → d ≡ unwrap_or (slice_get definitions n) no_definition
read_definition definitions n d less is = is ∙ get_or_default definitions n d no_definition less ∙ sym (unwrap_or-slice_get definitions n no_definition)

pub next_is : (types now : Table) → types ≡ now → (term : TypeTerm) (terms : List TypeTerm) (definitions : List Definition) (methods : List MethodEntry) → list_any (same_term term) now.terms ≡ false
    → terms ≡ cond (list_any (same_term term) types.terms) types.terms (types.terms ++ term ∷ []) → definitions ≡ types.definitions ++ record { underlying = None; methods = methods } ∷ [] → methods ≡ []
    → record { terms = terms; definitions = definitions; error = types.error; blank = types.blank } ≡ with_next term now
next_is types now same term terms definitions methods absent is defs none =
    let before : list_any (same_term term) types.terms ≡ false = ap (λ (t : Table). list_any (same_term term) t.terms) same ∙ absent in
    let first : terms ≡ types.terms ++ term ∷ [] = is ∙ ap (λ b. cond b types.terms (types.terms ++ term ∷ [])) before in
    let second : definitions ≡ types.definitions ++ no_definition ∷ [] = defs ∙ (λ i. types.definitions ++ record { underlying = None; methods = none i } ∷ []) in
    (λ i. record { terms = first i; definitions = second i; error = types.error; blank = types.blank }) ∙ ap (with_next term) same

module _ (types now : Table) (same : types ≡ now) (held : IsHeld types) where
  pub writes_underlying : (id u : TypeId) (d : Definition) → CanDefine now id u → (id.number < length types.definitions → d ≡ get_or types.definitions id.number d)
      → record { terms = types.terms; definitions = slice_set types.definitions id.number (record { underlying = Some u; methods = d.methods }); error = types.error; blank = types.blank } ≡ with_underlying id u now
  writes_underlying id u d can is =
      let can_before = subst (λ (t : Table). CanDefine t id u) (sym same) can in
      let declared = (both _ _ (both _ _ (both _ _ can_before.0).0).0).0 in
      let count = held.counts in
      let place : id.number < length types.terms = declared_held types id declared in
      let less : id.number < length types.definitions = omega arith in
      let read = read_definition types.definitions id.number d less (is less) in
      (λ i. record { terms = types.terms; definitions = slice_set types.definitions id.number (record { underlying = Some u; methods = (read i).methods }); error = types.error; blank = types.blank })
      ∙ ap (with_underlying id u) same

  pub held_underlying : (id u : TypeId) → CanDefine now id u → IsHeld (with_underlying id u now)
  held_underlying id u can = kept_underlying now (subst IsHeld same held) id u can

  pub writes_method : (id : TypeId) (m : MethodEntry) (d : Definition) (methods : List MethodEntry) → takes_method now id m ≡ true → (id.number < length types.definitions → d ≡ get_or types.definitions id.number d)
      → methods ≡ d.methods ++ m ∷ []
      → record { terms = types.terms; definitions = slice_set types.definitions id.number (record { underlying = d.underlying; methods = methods }); error = types.error; blank = types.blank } ≡ with_method id m now
  writes_method id m d methods takes is more =
      let before = subst (λ (t : Table). takes_method t id m ≡ true) (sym same) takes in
      let declared = (both _ _ (both _ _ before).0).0 in
      let count = held.counts in
      let place : id.number < length types.terms = declared_held types id declared in
      let less : id.number < length types.definitions = omega arith in
      let read = read_definition types.definitions id.number d less (is less) in
      (λ i. record { terms = types.terms; definitions = slice_set types.definitions id.number (record { underlying = (read i).underlying; methods = (more ∙ ap (λ (e : Definition). e.methods ++ m ∷ []) read) i }); error = types.error; blank = types.blank })
      ∙ ap (with_method id m) same

  pub held_method : (id : TypeId) (m : MethodEntry) → takes_method now id m ≡ true → IsHeld (with_method id m now)
  held_method id m takes = kept_method now id m (subst IsHeld same held) takes

  pub held_next : (term : TypeTerm) → names_below (length now.terms) term ≡ true → list_any (same_term term) now.terms ≡ false → FieldsFit term → is_ordered term ≡ true → IsHeld (with_next term now)
  held_next term below absent fit ordered = kept_next now (subst IsHeld same held) term below absent fit ordered

  pub held_either : (id : TypeId) (m : MethodEntry) (d : Definition) (methods : List MethodEntry) (r : Result (Unit {0}) NoMemory) → takes_method now id m ≡ true
      → d ≡ get_or types.definitions id.number d → OnOk r (methods ≡ d.methods ++ m ∷ []) → OnErr r (methods ≡ d.methods)
      → IsHeld (record { terms = types.terms; definitions = slice_set types.definitions id.number (record { underlying = d.underlying; methods = methods }); error = types.error; blank = types.blank })
  held_either id m d methods (Ok v) takes is more same_methods = subst IsHeld (sym (writes_method id m d methods takes (λ h. is) more)) (held_method id m takes)
  held_either id m d methods (Err e) takes is more same_methods =
      let kept : slice_set types.definitions id.number (record { underlying = d.underlying; methods = methods }) ≡ types.definitions =
      (λ i. slice_set types.definitions id.number (record { underlying = d.underlying; methods = same_methods i })) ∙ ap (slice_set types.definitions id.number) is ∙ set-get_or types.definitions id.number d in
      subst IsHeld (λ i. record { terms = types.terms; definitions = sym kept i; error = types.error; blank = types.blank }) held

  pub writes_either : (id : TypeId) (m : MethodEntry) (d : Definition) (methods : List MethodEntry) (r : Result (Unit {0}) NoMemory) → takes_method now id m ≡ true
      → d ≡ get_or types.definitions id.number d → OnOk r (methods ≡ d.methods ++ m ∷ [])
      → OnOk r (record { terms = types.terms; definitions = slice_set types.definitions id.number (record { underlying = d.underlying; methods = methods }); error = types.error; blank = types.blank } ≡ with_method id m now)
  writes_either id m d methods (Ok v) takes is more = writes_method id m d methods takes (λ h. is) more
  writes_either id m d methods (Err e) takes is more = more
