-- What a term shows by itself.
use Rattle.std.proofs.Common.{◌≡◌, zero, suc, refl, ap, sym, subst, ◌∙◌, Bool, true, false, Option, Some, None}
use Rattle.std.specs.Prelude.{IsTrue, ◌↔◌}
use Rattle.std.proofs.lemmas.Bool.{false≢true}
use Rattle.go_base.specs.declared.ids.TypeId.{TypeId}
use Rattle.go_type.specs.Comparable.{Comparable, incomparable_term, incomparable_to}
use Rattle.go_type.specs.Table.{Table, term_at, underlying_of}
use Rattle.go_type.specs.declared.term.Basic.{Basic}
use Rattle.go_type.specs.declared.term.Basic.TheVariants as basic
use Rattle.go_type.specs.declared.term.TypeTerm.{TypeTerm}
use Rattle.go_type.specs.declared.term.TypeTerm.TheVariants.{Basic as Plain, Declared, Pointer, Chan, Interface, Slice, Array, Map, Func, Struct, Tuple, Iter}
use Rattle.go_maps.specs.Equality.{shown_by}

comparable_if : (types : Table) (of : TypeId) (term : TypeTerm) → term_at types (underlying_of types of) ≡ Some term → ((part : TypeId → Bool) → incomparable_term part (Some term) ≡ false) → Comparable types of
comparable_if types of term at plain zero = refl
comparable_if types of term at plain (suc n) = ap (incomparable_term (incomparable_to n types)) at ∙ plain (incomparable_to n types)

yes_if : (types : Table) (of : TypeId) (term : TypeTerm) → term_at types (underlying_of types of) ≡ Some term → ((part : TypeId → Bool) → incomparable_term part (Some term) ≡ false) → IsTrue true ↔ Comparable types of
yes_if types of term at plain = (λ _. comparable_if types of term at plain, λ _. refl)

no_if : (types : Table) (of : TypeId) (term : TypeTerm) → term_at types (underlying_of types of) ≡ Some term → ((part : TypeId → Bool) → incomparable_term part (Some term) ≡ true) → IsTrue false ↔ Comparable types of
no_if types of term at clear =
    (λ is. absurd (false≢true is), λ all. absurd (false≢true (sym (all 1) ∙ ap (incomparable_term (incomparable_to 0 types)) at ∙ clear (incomparable_to 0 types))))

some_same : (a b : Bool) → Some a ≡ Some b → a ≡ b
some_same a b is = cc

nothing_shown : {P : Type 0} (shown : Bool) → ◌≡◌ {A = Option Bool} None (Some shown) → P
nothing_shown shown is = cc

yes_at : (types : Table) (of : TypeId) (term : TypeTerm) (shown : Bool) → term_at types (underlying_of types of) ≡ Some term → Some true ≡ Some shown → ((part : TypeId → Bool) → incomparable_term part (Some term) ≡ false) → IsTrue shown ↔ Comparable types of
yes_at types of term shown at is plain = subst (λ b. IsTrue b ↔ Comparable types of) (some_same true shown is) (yes_if types of term at plain)

no_at : (types : Table) (of : TypeId) (term : TypeTerm) (shown : Bool) → term_at types (underlying_of types of) ≡ Some term → Some false ≡ Some shown → ((part : TypeId → Bool) → incomparable_term part (Some term) ≡ true) → IsTrue shown ↔ Comparable types of
no_at types of term shown at is clear = subst (λ b. IsTrue b ↔ Comparable types of) (some_same false shown is) (no_if types of term at clear)

plain_at : (types : Table) (of : TypeId) (it : Basic) (shown : Bool) → term_at types (underlying_of types of) ≡ Some (Plain it) → shown_by (Plain it) ≡ Some shown → IsTrue shown ↔ Comparable types of
plain_at types of basic.Bool shown at is = yes_at types of (Plain basic.Bool) shown at is (λ _. refl)
plain_at types of basic.Int shown at is = yes_at types of (Plain basic.Int) shown at is (λ _. refl)
plain_at types of basic.Int8 shown at is = yes_at types of (Plain basic.Int8) shown at is (λ _. refl)
plain_at types of basic.Int16 shown at is = yes_at types of (Plain basic.Int16) shown at is (λ _. refl)
plain_at types of basic.Int32 shown at is = yes_at types of (Plain basic.Int32) shown at is (λ _. refl)
plain_at types of basic.Int64 shown at is = yes_at types of (Plain basic.Int64) shown at is (λ _. refl)
plain_at types of basic.Uint shown at is = yes_at types of (Plain basic.Uint) shown at is (λ _. refl)
plain_at types of basic.Uint8 shown at is = yes_at types of (Plain basic.Uint8) shown at is (λ _. refl)
plain_at types of basic.Uint16 shown at is = yes_at types of (Plain basic.Uint16) shown at is (λ _. refl)
plain_at types of basic.Uint32 shown at is = yes_at types of (Plain basic.Uint32) shown at is (λ _. refl)
plain_at types of basic.Uint64 shown at is = yes_at types of (Plain basic.Uint64) shown at is (λ _. refl)
plain_at types of basic.Text shown at is = yes_at types of (Plain basic.Text) shown at is (λ _. refl)
plain_at types of basic.UntypedBool shown at is = yes_at types of (Plain basic.UntypedBool) shown at is (λ _. refl)
plain_at types of basic.UntypedInt shown at is = yes_at types of (Plain basic.UntypedInt) shown at is (λ _. refl)
plain_at types of basic.UntypedRune shown at is = yes_at types of (Plain basic.UntypedRune) shown at is (λ _. refl)
plain_at types of basic.UntypedText shown at is = yes_at types of (Plain basic.UntypedText) shown at is (λ _. refl)
plain_at types of basic.UntypedNil shown at is = no_at types of (Plain basic.UntypedNil) shown at is (λ _. refl)

pub shown_at : (types : Table) (of : TypeId) (term : TypeTerm) (shown : Bool) → term_at types (underlying_of types of) ≡ Some term → shown_by term ≡ Some shown → IsTrue shown ↔ Comparable types of
shown_at types of (Plain it) shown at is = plain_at types of it shown at is
shown_at types of (Declared it) shown at is = nothing_shown shown is
shown_at types of (Pointer it) shown at is = yes_at types of (Pointer it) shown at is (λ _. refl)
shown_at types of (Slice it) shown at is = no_at types of (Slice it) shown at is (λ _. refl)
shown_at types of (Array len elem) shown at is = nothing_shown shown is
shown_at types of (Map key it) shown at is = no_at types of (Map key it) shown at is (λ _. refl)
shown_at types of (Chan dir it) shown at is = yes_at types of (Chan dir it) shown at is (λ _. refl)
shown_at types of (Func it) shown at is = no_at types of (Func it) shown at is (λ _. refl)
shown_at types of (Struct it) shown at is = nothing_shown shown is
shown_at types of (Interface it) shown at is = yes_at types of (Interface it) shown at is (λ _. refl)
shown_at types of (Tuple it) shown at is = nothing_shown shown is
shown_at types of (Iter it) shown at is = nothing_shown shown is
