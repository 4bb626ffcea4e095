-- A zero value to a depth is one to each greater depth, and so the only one.
use Rattle.std.proofs.Common.{◌≡◌, ◌⊎◌, inl, inr, ◌≤◌, ℕ, zero, suc, Bool, false, List, [], ◌∷◌, Option, Some, None, option_map, refl, ap, ◌∙◌, arith}
use Rattle.go_base.specs.declared.ids.NameId.{NameId}
use Rattle.go_base.specs.declared.ids.TypeId.{TypeId}
use Rattle.go_type.specs.Assignable.{underlying_term_of}
use Rattle.go_type.specs.Table.{Table, is_name}
use Rattle.go_type.specs.declared.term.TypeTerm.{TypeTerm}
use Rattle.go_type.specs.declared.term.TypeTerm.TheVariants as term
use Rattle.go_value.specs.Values.{Val, Field, parts, parts_of}
use Rattle.go_value.specs.Zeros.{zero_of_term, zero_to, parts_by, with_part, all_parts, array_of}

-- the second is what the first is, if that is any
abbrev Keeps : {A : Type 0} → Option A → Option A → Type 0
Keeps {A = A} o p = (v : A) → o ≡ Some v → p ≡ Some v

mapped : {A B : Type 0} (f : A → B) (o p : Option A) → Keeps o p → Keeps (option_map f o) (option_map f p)
mapped f None p keeps v is = cc
mapped f (Some a) p keeps v is = ap (option_map f) (keeps a refl) ∙ is

joined : (o p : Option Val) (blank : Bool) (rest more : Option (List Field)) → Keeps o p → Keeps rest more → Keeps (with_part o blank rest) (with_part p blank more)
joined None p blank rest more keeps keep v is = cc
joined (Some a) p blank None more keeps keep v is = cc
joined (Some a) p blank (Some fields) more keeps keep v is =
    ap (λ (q : Option Val). with_part q blank more) (keeps a refl)
    ∙ ap (with_part (Some a) blank) (keep fields refl)
    ∙ is

module _ {A : Type 0} (f g : A → Option Val) (b : A → Bool) (keeps : (x : A) → Keeps (f x) (g x)) where
  listed : (items : List A) → Keeps (parts_by f b items) (parts_by g b items)
  listed [] v is = is
  listed (x ∷ items) v is = joined (f x) (g x) (b x) (parts_by f b items) (parts_by g b items) (keeps x) (listed items) v is

  of_parts : (items : List A) → Keeps (all_parts (parts_by f b items)) (all_parts (parts_by g b items))
  of_parts items = mapped (λ fields. parts (parts_of fields)) (parts_by f b items) (parts_by g b items) (listed items)

of_term : (f g : TypeId → Option Val) (blank : Option NameId) → ((x : TypeId) → Keeps (f x) (g x)) → (t : Option TypeTerm) → Keeps (zero_of_term f blank t) (zero_of_term g blank t)
of_term f g blank keeps None v is = is
of_term f g blank keeps (Some (term.Basic kind)) v is = is
of_term f g blank keeps (Some (term.Declared name)) v is = is
of_term f g blank keeps (Some (term.Pointer elem)) v is = is
of_term f g blank keeps (Some (term.Slice elem)) v is = is
of_term f g blank keeps (Some (term.Array zero elem)) v is = is
of_term f g blank keeps (Some (term.Array (suc len) elem)) v is = mapped (array_of (suc len)) (f elem) (g elem) (keeps elem) v is
of_term f g blank keeps (Some (term.Map key elem)) v is = is
of_term f g blank keeps (Some (term.Chan dir elem)) v is = is
of_term f g blank keeps (Some (term.Func signature)) v is = is
of_term f g blank keeps (Some (term.Struct fields)) v is = of_parts (λ field. f field.of) (λ field. g field.of) (λ field. is_name blank field.name) (λ field. keeps field.of) fields v is
of_term f g blank keeps (Some (term.Interface methods)) v is = is
of_term f g blank keeps (Some (term.Tuple ids)) v is = of_parts f g (λ id. false) keeps ids v is
of_term f g blank keeps (Some (term.Iter over)) v is = is

pub kept : (types : Table) (blank : Option NameId) (of : TypeId) (m n : ℕ) (v : Val) → m ≤ n → zero_to m types blank of ≡ Some v → zero_to n types blank of ≡ Some v
kept types blank of zero n v less is = cc
kept types blank of (suc m) zero v less is = absurd (omega arith)
kept types blank of (suc m) (suc n) v less is = of_term (zero_to m types blank) (zero_to n types blank) blank (λ x w has. kept types blank x m n w (omega arith) has) (underlying_term_of types of) v is

order : (m n : ℕ) → (m ≤ n) ⊎ (n ≤ m)
order m n = grind arith

same : (o : Option Val) (v w : Val) → o ≡ Some v → o ≡ Some w → v ≡ w
same o v w p q = cc (p, q)

pub one : (types : Table) (blank : Option NameId) (of : TypeId) (m n : ℕ) (v w : Val) → zero_to m types blank of ≡ Some v → zero_to n types blank of ≡ Some w → v ≡ w
one types blank of m n v w has other = by (order m n)
  where
    by : (m ≤ n) ⊎ (n ≤ m) → v ≡ w
    by (inl less) = same (zero_to n types blank of) v w (kept types blank of m n v less has) other
    by (inr less) = same (zero_to m types blank of) v w has (kept types blank of n m w less other)
