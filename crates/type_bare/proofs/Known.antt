-- What is true of the bare types that are known.
use Rattle.std.proofs.Common.{◌≡◌, ℕ, zero, suc, ◌+◌, ◌<◌, ◌≤◌, nat_lt, Bool, true, false, List, [], ◌∷◌, ◌++◌, length, Option, Some, None, Result, Ok, Err, OnOk, OnErr, slice_get, unwrap_or, if◌then◌else◌, refl, sym, ap, subst, ◌∙◌, ◌⊎◌, inl, inr, arith}
use Rattle.std.specs.List.{All, list_all, list_any}
use Rattle.std.proofs.lemmas.Bool.{cases_lt, lt-ltb}
use Rattle.std.proofs.lemmas.Option.{get_or_from_slice_get}
use Rattle.std.proofs.lemmas.List.Elements.{All-get_or}
use borrow.Author.Tests.{ltb-true}
use Rattle.go_base.specs.declared.ids.TypeId.{TypeId}
use Rattle.go_base.specs.declared.memory.NoMemory.{NoMemory}
use Rattle.go_type.specs.declared.term.TypeTerm.{TypeTerm}
use Rattle.go_type.specs.Conditions.{is_holdable, is_held}
use Rattle.go_type.specs.Grows.{Grows}
use Rattle.go_type.specs.Held.{IsHeld, names_below, term_parts}
use Rattle.go_type.specs.Sizes.{is_declared}
use Rattle.go_type.specs.Table.{Table, same_term, term_at, definition_at, with_term, with_next, no_definition, FieldsFit}
use Rattle.go_type.proofs.Growing.{grows_on, grows_term}
use Rattle.go_type.proofs.Held.{inside}
use Rattle.go_type.proofs.InlineTypes.{all_mono, get_before}
use Rattle.go_type.proofs.Kept.{stays, more_default, some_term}
use Rattle.go_type.proofs.Places.{last_place}
use Rattle.type_bare.specs.Stripped.{stripped, bare_of, IsBareOf, AreBare, KeepsBare, KeepsDefinitions}
use Rattle.type_bare.proofs.Terms.{stripped_agree, stripped_declared, stripped_holdable}

abbrev pub below : ℕ → TypeId → Bool
below n x = nat_lt x.number n

pub is_below : (n : ℕ) (x : TypeId) → below n x ≡ true → x.number < n
is_below n x h = ltb-true x.number n h

pub to_below : (n : ℕ) (x : TypeId) → x.number < n → below n x ≡ true
to_below n x h = lt-ltb x.number n h

pub parts_below : (m n : ℕ) (term : TypeTerm) → m ≤ n → names_below m term ≡ true → list_all (below n) (term_parts term) ≡ true
parts_below m n term less h =
    all_mono (below m) (below n) (λ x e. let one : x.number < m = is_below m x e in to_below n x (omega arith)) (term_parts term) h

pub some_same : {X : Type 0} (x y : X) → Some x ≡ Some y → x ≡ y
some_same x y h = cc

-- ---- in a table that grows

longer : (old later : Table) → Grows old later → length old.terms ≤ length later.terms
longer old later grows = by (length old.terms) refl
  where
    by : (n : ℕ) → length old.terms ≡ n → n ≤ length later.terms
    by zero e = omega arith
    by (suc n) e =
        let less : n < length old.terms = omega arith in
        let last = some_term old.terms n less in
        let there : n < length later.terms = inside later.terms n last.0 (grows.terms (record { number = n }) last.0 last.1) in
        omega arith

pub bare_stays : (bares : List TypeId) (old later : Table) → AreBare bares old → Grows old later → AreBare bares later
bare_stays bares old later known grows = record {
  count = let first = known.count in let second = longer old later grows in omega arith;
  bare = kept;
}
  where
    kept : (id : TypeId) → id.number < length bares → IsBareOf later bares id (bare_of bares id)
    kept id less = λ term e.
        let count = known.count in
        let place : id.number < length old.terms = omega arith in
        let before = some_term old.terms id.number place in
        let same : before.0 ≡ term = some_same before.0 term (sym (grows.terms id before.0 before.1) ∙ e) in
        grows.terms (bare_of bares id) (stripped (bare_of bares) before.0) (known.bare id less before.0 before.1) ∙ ap (λ t. Some (stripped (bare_of bares) t)) same

-- ---- one more

pub one_longer : {X : Type 0} (xs : List X) (x : X) → length (xs ++ x ∷ []) ≡ suc (length xs)
one_longer [] x = refl
one_longer (y ∷ xs) x = ap suc (one_longer xs x)

module _ (bares : List TypeId) (b : TypeId) where
  same_bare : (x : TypeId) → x.number < length bares → bare_of bares x ≡ bare_of (bares ++ b ∷ []) x
  same_bare x less = ap (λ o. unwrap_or o x) (sym (get_before bares (b ∷ []) x.number less))

  same_stripped : (term : TypeTerm) → names_below (length bares) term ≡ true → stripped (bare_of bares) term ≡ stripped (bare_of (bares ++ b ∷ [])) term
  same_stripped term h =
      stripped_agree (below (length bares)) (bare_of bares) (bare_of (bares ++ b ∷ [])) (λ x e. same_bare x (is_below (length bares) x e)) term h

  pub keeps_pushed : KeepsBare bares (bares ++ b ∷ [])
  keeps_pushed = λ id bare h. stays bares (b ∷ []) id.number bare h

  pub bare_pushed : (types : Table) (id : TypeId) → IsHeld types → id.number ≡ length bares → id.number < length types.terms → AreBare bares types → IsBareOf types bares id b → AreBare (bares ++ b ∷ []) types
  bare_pushed types id held place less known is = record {
    count = let more = one_longer bares b in omega arith;
    bare = λ x short term e. by x term e (let more = one_longer bares b in let k : x.number < suc (length bares) = omega arith in k) (cases_lt x.number (length bares));
  }
    where
      by : (x : TypeId) (term : TypeTerm) → term_at types x ≡ Some term → x.number < suc (length bares) → (x.number < length bares) ⊎ (length bares ≤ x.number)
          → term_at types (bare_of (bares ++ b ∷ []) x) ≡ Some (stripped (bare_of (bares ++ b ∷ [])) term)
      by x term e short (inl before) =
          ap (term_at types) (sym (same_bare x before)) ∙ known.bare x before term e
          ∙ ap Some (same_stripped term (parts_below x.number (length bares) term (omega arith) (held.stands x term e).parts))
      by x term e short (inr past) =
          let number : x.number ≡ id.number = omega arith in
          let same : x ≡ id = λ i. record { number = number i } in
          let last : x.number ≡ length bares = omega arith in
          let here : bare_of (bares ++ b ∷ []) x ≡ b = ap (λ n. unwrap_or (slice_get (bares ++ b ∷ []) n) x) last ∙ ap (λ o. unwrap_or o x) (last_place bares b) in
          ap (term_at types) here ∙ is term (sym (ap (term_at types) same) ∙ e)
          ∙ ap Some (same_stripped term (parts_below x.number (length bares) term (omega arith) (held.stands x term e).parts))

pub bare_added : (bares : List TypeId) (b : TypeId) (old types : Table) (id : TypeId) → id.number ≡ length bares → id.number < length old.terms → AreBare bares old → Grows old types → IsHeld types
    → IsBareOf types bares id b → AreBare (bares ++ b ∷ []) types
bare_added bares b old types id place less known grows held is =
    let more = longer old types grows in
    let there : id.number < length types.terms = omega arith in
    bare_pushed bares b types id held place there (bare_stays bares old types known grows) is

pub none_bare : (types : Table) → AreBare [] types
none_bare types = record { count = omega arith; bare = λ id less. absurd (omega arith) }

-- ---- what may be held

module _ (bares : List TypeId) (types : Table) (known : AreBare bares types) where
  -- bare types are held
  pub bare_held : (x : TypeId) → x.number < length bares → (bare_of bares x).number < length types.terms
  bare_held x less =
      let count = known.count in
      let place : x.number < length types.terms = omega arith in
      let term = some_term types.terms x.number place in
      inside types.terms (bare_of bares x).number (stripped (bare_of bares) term.0) (known.bare x less term.0 term.1)

  pub bare_holdable : IsHeld types → (id : TypeId) (term : TypeTerm) → id.number ≡ length bares → term_at types id ≡ Some term → is_declared (Some term) ≡ false
      → is_holdable types (stripped (bare_of bares) term) ≡ true
  bare_holdable held id term place e plain =
      let stands = held.stands id term e in
      let fit : FieldsFit term = subst FieldsFit (get_or_from_slice_get types.terms id.number term term e) (All-get_or FieldsFit types.terms id.number term (inside types.terms id.number term e) held.fit) in
      stripped_holdable types (below (length bares)) (bare_of bares) (λ x h. to_below (length types.terms) (bare_of bares x) (bare_held x (is_below (length bares) x h)))
      term plain (parts_below id.number (length bares) term (omega arith) stands.parts) stands.ordered fit

pub declared_bare : (bares : List TypeId) (types : Table) (id : TypeId) (term : TypeTerm) → term_at types id ≡ Some term → is_declared (Some term) ≡ true → IsBareOf types bares id id
declared_bare bares types id term e declared = λ other k.
    let same : term ≡ other = some_same term other (sym e ∙ k) in
    k ∙ ap Some (sym (stripped_declared (bare_of bares) other (sym (ap (λ t. is_declared (Some t)) same) ∙ declared)))

-- ---- what stays

pub grows_same : (types : Table) → Grows types types
grows_same types = record { terms = λ id t e. e; defined = λ id u e. e; blank = refl }

pub definitions_term : (types : Table) (term : TypeTerm) → KeepsDefinitions types (with_term term types)
definitions_term types term = λ id. by id (list_any (same_term term) types.terms)
  where
    by : (id : TypeId) (b : Bool) → definition_at (if b then types else with_next term types) id ≡ definition_at types id
    by id true = refl
    by id false = more_default types.definitions no_definition id.number

module _ (old later : Table) (term : TypeTerm) where
  pub grows_held : (r : Result TypeId NoMemory) → OnOk r (later ≡ with_term term old) → OnErr r (later ≡ old) → Grows old later
  grows_held (Ok id) h k = subst (Grows old) (sym h) (grows_term old term)
  grows_held (Err e) h k = subst (Grows old) (sym k) (grows_same old)

  pub definitions_held : (r : Result TypeId NoMemory) → OnOk r (later ≡ with_term term old) → OnErr r (later ≡ old) → KeepsDefinitions old later
  definitions_held (Ok id) h k = subst (KeepsDefinitions old) (sym h) (definitions_term old term)
  definitions_held (Err e) h k = subst (KeepsDefinitions old) (sym k) (λ x. refl)

pub keeps_on : (a b c : List TypeId) → KeepsBare a b → KeepsBare b c → KeepsBare a c
keeps_on a b c h k = λ id bare e. k id bare (h id bare e)

pub definitions_on : (a b c : Table) → KeepsDefinitions a b → KeepsDefinitions b c → KeepsDefinitions a c
definitions_on a b c h k = λ id. k id ∙ h id
