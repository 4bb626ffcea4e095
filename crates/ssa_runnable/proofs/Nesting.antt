-- Zero values: which types have one, by the nesting of their parts.
use Rattle.std.proofs.Common.{◌≡◌, ℕ, zero, suc, ◌+◌, ◌-◌, ◌<◌, ◌≤◌, Bool, true, false, List, [], ◌∷◌, ◌++◌, length, get_or, inl, inr, sym, ap, ◌∙◌, refl, subst, arith, add-one}
use Rattle.std.specs.Prelude.{◌==◌, ◌&&◌, ◌||◌, Option, Some, None, is_some, slice_get, unwrap_or, option_map}
use Rattle.std.specs.Cmp.{unsigned_Decides}
use Rattle.std.specs.List.{list_all}
use Rattle.std.proofs.lemmas.Bool.{cases_lt}
use Rattle.std.proofs.lemmas.List.{get_or_append_left, length-append}
use Rattle.std.proofs.Math.Seq.{get_or-append_seam}
use Rattle.std.proofs.lemmas.Option.{slice_get_past, unwrap_or-slice_get}
use Rattle.go_base.specs.declared.ids.NameId.{NameId}
use Rattle.go_base.specs.declared.ids.TypeId.{TypeId}
use Rattle.go_type.specs.Assignable.{underlying_term_of}
use Rattle.go_type.specs.Table.{Table, is_name, no_definition, term_at}
use Rattle.go_type.specs.declared.term.Basic.{Basic}
use Rattle.go_type.specs.declared.term.Basic.TheVariants as basic
use Rattle.go_type.specs.declared.term.TypeTerm.{TypeTerm}
use Rattle.go_type.specs.declared.term.TypeTerm.TheVariants as term
use Rattle.go_type.specs.declared.types.Definition.{Definition}
use Rattle.go_value.specs.Values.{Val, Field}
use Rattle.go_value.specs.Zeros.{zero_of_basic, with_part, parts_by, all_parts, zero_of_term, zero_to, array_of}
use Rattle.ssa_ir.specs.declared.code.Code.{Code}
use Rattle.ssa_mean.specs.Zeros.{blank_from, zero_of}
use Rattle.ssa_runnable.specs.Zeros.{has_basic_zero, has_zero_term, has_zero_to, zero_at, KnowsZeros}

-- ---- a type has a zero value where the test says so

mapped : {A B : Type 0} (f : A → B) (it : Option A) → is_some (option_map f it) ≡ is_some it
mapped f None = refl
mapped f (Some x) = refl

part_there : (it : Option Val) (blank : Bool) (rest : Option (List Field))
    → is_some (with_part it blank rest) ≡ is_some it && is_some rest
part_there None blank rest = refl
part_there (Some it) blank None = refl
part_there (Some it) blank (Some rest) = refl

parts_there : {A : Type 0} (value : A → Option Val) (has : A → Bool) (blank : A → Bool)
    → ((x : A) → is_some (value x) ≡ has x) → (items : List A)
    → is_some (parts_by value blank items) ≡ list_all has items
parts_there value has blank h [] = refl
parts_there value has blank h (item ∷ items) =
    part_there (value item) (blank item) (parts_by value blank items)
    ∙ ap (λ b. b && is_some (parts_by value blank items)) (h item)
    ∙ ap (λ b. has item && b) (parts_there value has blank h items)

whole_there : {A : Type 0} (value : A → Option Val) (has : A → Bool) (blank : A → Bool)
    → ((x : A) → is_some (value x) ≡ has x) → (items : List A)
    → is_some (all_parts (parts_by value blank items)) ≡ list_all has items
whole_there value has blank h items = mapped _ (parts_by value blank items) ∙ parts_there value has blank h items

basic_there : (kind : Basic) → is_some (zero_of_basic kind) ≡ has_basic_zero kind
basic_there basic.Bool = refl
basic_there basic.Int = refl
basic_there basic.Int8 = refl
basic_there basic.Int16 = refl
basic_there basic.Int32 = refl
basic_there basic.Int64 = refl
basic_there basic.Uint = refl
basic_there basic.Uint8 = refl
basic_there basic.Uint16 = refl
basic_there basic.Uint32 = refl
basic_there basic.Uint64 = refl
basic_there basic.Text = refl
basic_there basic.UntypedBool = refl
basic_there basic.UntypedInt = refl
basic_there basic.UntypedRune = refl
basic_there basic.UntypedText = refl
basic_there basic.UntypedNil = refl

not_zero : (n : ℕ) → (suc n == 0) ≡ false
not_zero n = by (suc n == 0) refl
  where
    none : suc n ≡ 0 → ⊥
    none e = cc

    by : (b : Bool) → (suc n == 0) ≡ b → b ≡ false
    by true e = absurd (none ((unsigned_Decides (suc n) 0).0 e))
    by false e = refl

term_there : (value : TypeId → Option Val) (has : TypeId → Bool) (blank : Option NameId)
    → ((of : TypeId) → is_some (value of) ≡ has of) → (it : Option TypeTerm)
    → is_some (zero_of_term value blank it) ≡ has_zero_term has it
term_there value has blank h (Some (term.Basic kind)) = basic_there kind
term_there value has blank h (Some (term.Declared name)) = refl
term_there value has blank h (Some (term.Pointer elem)) = refl
term_there value has blank h (Some (term.Slice elem)) = refl
term_there value has blank h (Some (term.Array zero elem)) = refl
term_there value has blank h (Some (term.Array (suc len) elem)) =
    mapped (array_of (suc len)) (value elem) ∙ h elem ∙ sym (ap (λ b. b || has elem) (not_zero len))
term_there value has blank h (Some (term.Map key elem)) = refl
term_there value has blank h (Some (term.Chan dir elem)) = refl
term_there value has blank h (Some (term.Func signature)) = refl
term_there value has blank h (Some (term.Struct fields)) =
    whole_there (λ field. value field.of) (λ field. has field.of) (λ field. is_name blank field.name)
    (λ field. h field.of) fields
term_there value has blank h (Some (term.Interface methods)) = refl
term_there value has blank h (Some (term.Tuple ids)) = whole_there value has (λ id. false) h ids
term_there value has blank h (Some (term.Iter over)) = refl
term_there value has blank h None = refl

to_there : (n : ℕ) (types : Table) (blank : Option NameId) (of : TypeId)
    → is_some (zero_to n types blank of) ≡ has_zero_to n types of
unfolding has_zero_to
to_there zero types blank of = refl
to_there (suc n) types blank of =
    term_there (zero_to n types blank) (has_zero_to n types) blank (to_there n types blank) (underlying_term_of types of)

pub zeros_known : (c : Code) (flags : List Bool)
    → ((of : TypeId) → zero_at flags of ≡ has_zero_to 1000 c.types of) → KnowsZeros c flags
unfolding zero_of
zeros_known c flags h of = h of ∙ sym (to_there 1000 c.types (blank_from 0 c.names) of)

-- ---- a row of answers

abbrev pub row : (ℕ → Bool) → ℕ → List Bool
row test zero = []
row test (suc n) = row test n ++ test n ∷ []

pub row_more : (test : ℕ → Bool) (n : ℕ) (old now : List Bool) (b : Bool) → old ≡ row test n → b ≡ test n
    → now ≡ old ++ b ∷ [] → now ≡ row test (n + 1)
row_more test n old now b h e k =
    k ∙ ap (λ l. l ++ b ∷ []) h ∙ ap (λ v. row test n ++ v ∷ []) e ∙ ap (row test) (sym (add-one n))

row_length : (test : ℕ → Bool) (n : ℕ) → length (row test n) ≡ n
row_length test zero = refl
row_length test (suc n) =
    length-append (row test n) (test n ∷ []) ∙ ap (λ k. k + 1) (row_length test n) ∙ add-one n

row_at : (test : ℕ → Bool) (n k : ℕ) → k < n → get_or (row test n) k false ≡ test k
row_at test zero k h = absurd (let no : k < 0 = h in omega (arith, no))
row_at test (suc n) k h = elim (cases_lt k n) [
  | inl w ↦ get_or_append_left (row test n) (test n ∷ []) false k
      (subst (λ m. k < m) (sym (row_length test n)) w) ∙ row_at test n k w
  | inr w ↦ let last : k ≡ length (row test n) = (let m : k ≡ n = omega (arith, h, w) in m) ∙ sym (row_length test n) in
      let same : n ≡ k = omega (arith, h, w) in
      ap (λ m. get_or (row test n ++ test n ∷ []) m false) last ∙ get_or-append_seam (row test n) (test n) [] false
      ∙ ap test same
]

-- ---- a step deeper

abbrev pub has_at : Table → List Bool → ℕ → Bool
has_at types known n = has_zero_term (zero_at known) (underlying_term_of types (record { number = n }))

pub no_term : (types : Table) (of : TypeId) → length types.terms ≤ of.number → length types.definitions ≡ length types.terms
    → underlying_term_of types of ≡ None
no_term types of h e =
    let long : length types.definitions ≤ of.number = subst (λ n. n ≤ of.number) (sym e) h in
    let none : slice_get types.definitions of.number ≡ None = slice_get_past types.definitions of.number long in
    ap (λ (d : Option Definition). term_at types (unwrap_or (unwrap_or d no_definition).underlying of)) none
    ∙ slice_get_past types.terms of.number h

pub deeper_at : (types : Table) (known flags : List Bool) (n : ℕ) → flags ≡ row (has_at types known) n
    → length types.terms ≤ n → length types.definitions ≡ length types.terms → (of : TypeId)
    → zero_at flags of ≡ has_zero_term (zero_at known) (underlying_term_of types of)
deeper_at types known flags n h long e of =
    ap (λ l. zero_at l of) h
    ∙ unwrap_or-slice_get (row (has_at types known) n) of.number false
    ∙ elim (cases_lt of.number n) [
      | inl w ↦ row_at (has_at types known) n of.number w
      | inr w ↦ past w
    ]
  where
    past : n ≤ of.number
        → get_or (row (has_at types known) n) of.number false
        ≡ has_zero_term (zero_at known) (underlying_term_of types of)
    past w =
        let beyond : length (row (has_at types known) n) ≤ of.number =
        subst (λ m. m ≤ of.number) (sym (row_length (has_at types known) n)) w in
        let far : length types.terms ≤ of.number = omega (arith, long, w) in
        sym (unwrap_or-slice_get (row (has_at types known) n) of.number false)
        ∙ ap (λ o. unwrap_or o false) (slice_get_past (row (has_at types known) n) of.number beyond)
        ∙ sym (ap (has_zero_term (zero_at known)) (no_term types of far e))

-- ---- steps

abbrev pub IsDeeper : Table → List Bool → List Bool → Type 0
IsDeeper types known deeper =
    (of : TypeId) → zero_at deeper of ≡ has_zero_term (zero_at known) (underlying_term_of types of)

abbrev pub Knows : Table → ℕ → List Bool → Type 0
Knows types n known = (of : TypeId) → zero_at known of ≡ has_zero_to n types of

pub none_known : (types : Table) (known : List Bool) → known ≡ [] → Knows types 0 known
unfolding has_zero_to
none_known types known e of = ap (λ l. zero_at l of) e

step : (types : Table) (n : ℕ) (known deeper : List Bool) → Knows types n known → IsDeeper types known deeper
    → Knows types (suc n) deeper
unfolding has_zero_to
step types n known deeper h more of =
    more of ∙ (λ i. has_zero_term (λ part. h part i) (underlying_term_of types of))

pub steps : (types : Table) (n : ℕ) (known deeper : List Bool) → Knows types n known → IsDeeper types known deeper
    → Knows types (n + 1) deeper
steps types n known deeper h more = subst (λ k. Knows types k deeper) (sym (add-one n)) (step types n known deeper h more)

-- so many more
abbrev up : ℕ → ℕ → ℕ
up zero n = n
up (suc k) n = suc (up k n)

up_add : (k n : ℕ) → up k n ≡ n + k
up_add zero n = omega arith
up_add (suc k) n = let e = up_add k n in omega (arith, e)

settled : (types : Table) (n : ℕ) (known deeper : List Bool) → Knows types n known → IsDeeper types known deeper
    → deeper ≡ known → (k : ℕ) → Knows types (up k n) known
settled types n known deeper h more same zero of = h of
settled types n known deeper h more same (suc k) of =
    sym (ap (λ l. zero_at l of) same)
    ∙ step types (up k n) known deeper (settled types n known deeper h more same k) more of

-- what one step leaves as it was stays so
pub stays : (types : Table) (n : ℕ) (known deeper : List Bool) → Knows types n known → IsDeeper types known deeper
    → deeper ≡ known → (most : ℕ) → n ≤ most → Knows types most known
stays types n known deeper h more same most l =
    let e : up (most - n) n ≡ most = up_add (most - n) n ∙ (omega arith) in
    subst (λ k. Knows types k known) e (settled types n known deeper h more same (most - n))
