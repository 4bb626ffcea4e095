-- Zero values of types.
use Rattle.std.proofs.Common.{◌≡◌, ◌<◌, ◌≤◌, ◌+◌, ap, refl, sym, subst, ◌∙◌, false, List, [], ◌∷◌, ◌++◌, Bool, Option, None, Some, ℕ, zero, suc, drop, get_or, length, replicate, append_assoc, option_map, ◌-◌}
use Rattle.std.proofs.lemmas.List.{at_drop_more, drop_all, append-nil}
use lib.ListN.{replicate-append-replicate}
use native.Mathlib.Numerals.{sub-one}
use Rattle.go_base.specs.declared.ids.NameId.{NameId}
use Rattle.go_base.specs.declared.ids.TypeId.{TypeId}
use Rattle.go_type.specs.declared.term.TypeTerm.{TypeTerm}
use Rattle.go_type.specs.declared.term.TypeTerm.TheVariants as term
use Rattle.go_value.specs.Values.{Val, Field, parts, parts_of, none}
use Rattle.go_value.specs.Zeros.{zero_of_term, zero_to, parts_by, with_part, all_parts, array_of, plain}
use Rattle.go_type.specs.Assignable.{underlying_term_of}
use Rattle.go_type.specs.Table.{Table, is_name}
use Rattle.go_type.specs.declared.term.Field.{Field as FieldType}

-- ---- a type without parts has its zero value whatever those of parts are

of_parts : {A : Type 0} (f : A → Option Val) (a b : A → Bool) (items : List A) (v : Val) → all_parts (parts_by (λ (x : A). None) a items) ≡ Some v → all_parts (parts_by f b items) ≡ Some v
of_parts f a b [] v is = is
of_parts f a b (x ∷ items) v is = cc

pub leaf_zero : (f : TypeId → Option Val) (blank : Option NameId) (t : TypeTerm) (v : Val) → zero_of_term (λ (x : TypeId). None) None (Some t) ≡ Some v → zero_of_term f blank (Some t) ≡ Some v
leaf_zero f blank (term.Basic kind) v is = is
leaf_zero f blank (term.Declared name) v is = cc
leaf_zero f blank (term.Pointer elem) v is = is
leaf_zero f blank (term.Slice elem) v is = is
leaf_zero f blank (term.Array zero elem) v is = is
leaf_zero f blank (term.Array (suc len) elem) v is = cc
leaf_zero f blank (term.Map key elem) v is = is
leaf_zero f blank (term.Chan dir elem) v is = is
leaf_zero f blank (term.Func signature) v is = is
leaf_zero f blank (term.Struct fields) v is = of_parts _ (λ field. is_name None field.name) _ fields v is
leaf_zero f blank (term.Interface methods) v is = is
leaf_zero f blank (term.Tuple ids) v is = of_parts _ (λ id. false) _ ids v is
leaf_zero f blank (term.Iter over) v is = cc

-- ---- parts one after another

-- what is made of the first items, and then of the rest
abbrev pub done_then : List Field → Option (List Field) → Option (List Field)
done_then done rest = option_map (λ more. done ++ more) rest

pub none_done : (rest : Option (List Field)) → done_then [] rest ≡ rest
none_done None = refl
none_done (Some more) = refl

one_more : (done : List Field) (p : Field) (rest : Option (List Field)) → done_then done (with_part (Some p.value) p.blank rest) ≡ done_then (done ++ p ∷ []) rest
one_more done p None = refl
one_more done p (Some more) = ap Some (sym (append_assoc done (p ∷ []) more))

pub next_done : {A : Type 0} (f : A → Option Val) (b : A → Bool) (items : List A) (i : ℕ) (d x : A) (done : List Field) (p : Field) (all : Option (List Field)) → done_then done (parts_by f b (drop i items)) ≡ all → i < length items → x ≡ get_or items i d → f x ≡ Some p.value → b x ≡ p.blank → done_then (done ++ p ∷ []) (parts_by f b (drop (i + 1) items)) ≡ all
next_done {A = A} f b items i d x done p all before below is value blank =
    let rest = parts_by f b (drop (i + 1) items) in
    sym (one_more done p rest)
    ∙ ap (λ (v : Option Val). done_then done (with_part v p.blank rest)) (sym value)
    ∙ ap (λ (m : Bool). done_then done (with_part (f x) m rest)) (sym blank)
    ∙ ap (λ (y : A). done_then done (with_part (f y) (b y) rest)) is
    ∙ sym (at_drop_more (λ (l : List A). done_then done (parts_by f b l)) items i d below)
    ∙ before

pub all_done : {A : Type 0} (f : A → Option Val) (b : A → Bool) (items : List A) (i : ℕ) (done : List Field) (all : Option (List Field)) → done_then done (parts_by f b (drop i items)) ≡ all → drop i items ≡ [] → all_parts all ≡ all_parts (Some (done ++ []))
all_done {A = A} f b items i done all before end = sym (ap all_parts (sym (ap (λ (l : List A). done_then done (parts_by f b l)) end) ∙ before))

-- ---- one step

pub deeper : (depth : ℕ) (types : Table) (blank : Option NameId) (of : TypeId) (t : TypeTerm) (v : Val) → ¬ (depth ≡ 0) → Some t ≡ underlying_term_of types of → zero_of_term (zero_to (depth - 1) types blank) blank (Some t) ≡ Some v → zero_to depth types blank of ≡ Some v
deeper zero types blank of t v some is zero_is = absurd (some refl)
deeper (suc n) types blank of t v some is zero_is =
    ap (λ (o : Option TypeTerm). zero_of_term (zero_to n types blank) blank o) (sym is)
    ∙ subst (λ (k : ℕ). zero_of_term (zero_to k types blank) blank (Some t) ≡ Some v) (sub-one (suc n)) zero_is

module _ (depth : ℕ) (types : Table) (blank : Option NameId) (of : TypeId) (t : TypeTerm) (v : Val) (some : ¬ (depth ≡ 0)) (is : Some t ≡ underlying_term_of types of) where
  pub struct_zero : (fields seen : _) → t ≡ term.Struct fields → seen ≡ fields → all_parts (parts_by (λ field. zero_to (depth - 1) types blank field.of) (λ field. is_name blank field.name) seen) ≡ Some v → zero_to depth types blank of ≡ Some v
  struct_zero fields seen struct same made =
      deeper depth types blank of t v some is
      (ap (λ (it : TypeTerm). zero_of_term (zero_to (depth - 1) types blank) blank (Some it)) struct
      ∙ ap (λ (l : List FieldType). all_parts (parts_by (λ field. zero_to (depth - 1) types blank field.of) (λ field. is_name blank field.name) l)) (sym same)
      ∙ made)

  pub tuple_zero : (ids seen : _) → t ≡ term.Tuple ids → seen ≡ ids → all_parts (parts_by (zero_to (depth - 1) types blank) (λ id. false) seen) ≡ Some v → zero_to depth types blank of ≡ Some v
  tuple_zero ids seen tuple same made =
      deeper depth types blank of t v some is
      (ap (λ (it : TypeTerm). zero_of_term (zero_to (depth - 1) types blank) blank (Some it)) tuple
      ∙ ap (λ (l : List TypeId). all_parts (parts_by (zero_to (depth - 1) types blank) (λ id. false) l)) (sym same)
      ∙ made)

  of_array : (len : ℕ) (elem : TypeId) (z : Val) → ¬ (len ≡ 0) → zero_to (depth - 1) types blank elem ≡ Some z → v ≡ array_of len z → zero_of_term (zero_to (depth - 1) types blank) blank (Some (term.Array len elem)) ≡ Some v
  of_array zero elem z long element made = absurd (long refl)
  of_array (suc len) elem z long element made = ap (option_map (array_of (suc len))) element ∙ ap Some (sym made)

  pub array_zero : (len : ℕ) (elem : TypeId) (z : Val) → t ≡ term.Array len elem → ¬ (len ≡ 0) → zero_to (depth - 1) types blank elem ≡ Some z → v ≡ array_of len z → zero_to depth types blank of ≡ Some v
  array_zero len elem z array long element made =
      deeper depth types blank of t v some is
      (ap (λ (it : TypeTerm). zero_of_term (zero_to (depth - 1) types blank) blank (Some it)) array ∙ of_array len elem z long element made)

  pub empty_zero : (len : ℕ) (elem : TypeId) → t ≡ term.Array len elem → len ≡ 0 → v ≡ parts none → zero_to depth types blank of ≡ Some v
  empty_zero len elem array short made =
      deeper depth types blank of t v some is
      (ap (λ (it : TypeTerm). zero_of_term (zero_to (depth - 1) types blank) blank (Some it)) (array ∙ ap (λ n. term.Array n elem) short) ∙ ap Some (sym made))

-- ---- an array

pub one_more_element : (xs : List Field) (p : Field) (n : ℕ) (z : Val) → xs ≡ replicate n (plain z) → p ≡ plain z → xs ++ p ∷ [] ≡ replicate (n + 1) (plain z)
one_more_element xs p n z before is =
    ap (λ l. l ++ p ∷ []) before ∙ ap (λ (q : Field). replicate n (plain z) ++ q ∷ []) is ∙ replicate-append-replicate n 1 (plain z)

-- ---- the loops over fields and over the parts of tuples

module _ {A : Type 0} (f : A → Option Val) (b : A → Bool) (items : List A) where
  pub first_part : (made : List Field) → made ≡ [] → done_then made (parts_by f b (drop 0 items)) ≡ parts_by f b items
  first_part made is = ap (λ (l : List Field). done_then l (parts_by f b items)) is ∙ none_done (parts_by f b items)

  pub next_part : (made more : List Field) (i : ℕ) (d x : A) (v : Val) (m : Bool) → done_then made (parts_by f b (drop i items)) ≡ parts_by f b items → i < length items → x ≡ get_or items i d → f x ≡ Some v → b x ≡ m → more ≡ made ++ record { value = v; blank = m } ∷ [] → done_then more (parts_by f b (drop (i + 1) items)) ≡ parts_by f b items
  next_part made more i d x v m before below is value blank pushed =
      ap (λ (l : List Field). done_then l (parts_by f b (drop (i + 1) items))) pushed
      ∙ next_done f b items i d x made (record { value = v; blank = m }) (parts_by f b items) before below is value blank

  pub last_part : (made : List Field) (i : ℕ) (v : Val) → done_then made (parts_by f b (drop i items)) ≡ parts_by f b items → length items ≤ i → v ≡ parts (parts_of made) → all_parts (parts_by f b items) ≡ Some v
  last_part made i v before end is =
      all_done f b items i made (parts_by f b items) before (drop_all i items end)
      ∙ ap (λ (l : List Field). Some (parts (parts_of l))) (append-nil made)
      ∙ ap Some (sym is)
