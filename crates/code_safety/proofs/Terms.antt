-- What types are, by the tests of typed code on their terms.
use Rattle.std.proofs.Common.{◌≡◌, ◌⊎◌, inl, inr, ℕ, zero, suc, Bool, true, false, ◌||◌, List, [], ◌∷◌, length, Option, Some, None, ap, refl, sym, subst, ◌∙◌, slice_get, is_some, true≢false, arith}
use Rattle.std.proofs.lemmas.Option.{none-some}
use Rattle.std.specs.Cmp.{unsigned_Decides}
use Rattle.std.specs.List.{AllZip, list_all}
use Rattle.code_safety.proofs.Lists as lists
use Rattle.code_safety.proofs.Sames.{under_plain}
use Rattle.code_safety.proofs.Shapes.{Alike, alike_self}
use Rattle.code_safety.proofs.Values.{Typing, Fits, IsOf}
use Rattle.go_base.specs.declared.ids.TypeId.{TypeId}
use Rattle.go_type.specs.Assignable.{underlying_term_of}
use Rattle.go_type.specs.Held.{IsHeld}
use Rattle.go_type.specs.Kinds.{kind_of_term}
use Rattle.go_type.specs.Same.{both, same_id, same_ids, same_id-Decides, same_ids-Decides}
use Rattle.go_type.specs.Table.{Table, term_at, basic_id}
use Rattle.go_type.specs.declared.term.Basic.TheVariants as basic
use Rattle.go_type.specs.declared.term.MethodType.{MethodType}
use Rattle.go_type.specs.declared.term.TypeTerm.{TypeTerm}
use Rattle.go_type.specs.declared.term.TypeTerm.TheVariants as term
use Rattle.go_value.specs.Values.{Val, truth}
use Rattle.ssa_ir.specs.declared.code.Code.{Code}
use Rattle.ssa_mean.specs.Making.{with_ok}
use Rattle.ssa_typed.specs.Forms.{gives}
use Rattle.type_shapes.specs.Shapes.{is_text, is_truth, is_interface, is_any, is_character, is_characters, is_pointer_to, parts_of, is_with_ok}

-- ---- tests

pub never : {A : Type 0} → false ≡ true → A
never h = absurd (true≢false (sym h))

pub either : (b c : Bool) → b || c ≡ true → (b ≡ true) ⊎ (c ≡ true)
either true c h = inl refl
either false c h = inr h

pub same_is : (a b : TypeId) → same_id a b ≡ true → a ≡ b
same_is a b h = (same_id-Decides a b).0 h

pub same_list : (a b : List TypeId) → same_ids a b ≡ true → a ≡ b
same_list a b h = (same_ids-Decides a b).0 h

pub alike_all : (types : Table) (ids : List TypeId) → AllZip (Alike types) ids ids
alike_all types [] = tt
alike_all types (of ∷ ids) = (alike_self types of, alike_all types ids)

pub alike_lists : (types : Table) (a b : List TypeId) → same_ids a b ≡ true → AllZip (Alike types) a b
alike_lists types a b h = subst (λ c. AllZip (Alike types) a c) (same_list a b h) (alike_all types a)

pub no_items : {A : Type 0} (items : List A) → length items ≡ 0 → items ≡ []
no_items [] h = refl
no_items (it ∷ items) h = absurd (omega arith)

pub one_item : {A : Type 0} (items : List A) → length items ≡ 1 → (it : A) × (items ≡ it ∷ [])
one_item [] h = absurd (omega arith)
one_item (it ∷ []) h = (it, refl)
one_item (it ∷ other ∷ items) h = absurd (omega arith)

pub each_passes : {A : Type 0} (test : A → Bool) (items : List A) → list_all test items ≡ true → (n : ℕ) (it : A)
    → slice_get items n ≡ Some it → test it ≡ true
each_passes test [] h n it is = absurd (none-some it is)
each_passes test (x ∷ items) h zero it is =
    subst (λ it. test it ≡ true) (lists.some_same x it is) (both (test x) (list_all test items) h).0
each_passes test (x ∷ items) h (suc n) it is =
    each_passes test items (both (test x) (list_all test items) h).1 n it is

pub there : {A : Type 0} (it : Option A) → is_some it ≡ true → (x : A) × (it ≡ Some x)
there None h = never h
there (Some x) h = (x, refl)

-- ---- terms

pub text_term : (of : Option TypeTerm) → is_text of ≡ true → of ≡ Some (term.Basic basic.Text)
text_term (Some (term.Basic basic.Text)) h = refl
text_term _ h = never h

pub truth_term : (of : Option TypeTerm) → is_truth of ≡ true → of ≡ Some (term.Basic basic.Bool)
truth_term (Some (term.Basic basic.Bool)) h = refl
truth_term _ h = never h

pub interface_term : (of : Option TypeTerm) → is_interface of ≡ true
    → (methods : List MethodType) × (of ≡ Some (term.Interface methods))
interface_term (Some (term.Interface methods)) h = (methods, refl)
interface_term _ h = never h

pub any_term : (of : Option TypeTerm) → is_any of ≡ true → of ≡ Some (term.Interface [])
any_term (Some (term.Interface methods)) h =
    ap (λ methods. Some (term.Interface methods)) (no_items methods ((unsigned_Decides (length methods) 0).0 h))
any_term _ h = never h

pub pointer_term : (of : Option TypeTerm) (base : TypeId) → is_pointer_to of base ≡ true → of ≡ Some (term.Pointer base)
pointer_term (Some (term.Pointer to)) base h = ap (λ base. Some (term.Pointer base)) (same_is to base h)
pointer_term _ base h = never h

-- characters are integers
pub character_kind : (of : Option TypeTerm) → is_character of ≡ true → is_some (kind_of_term of) ≡ true
character_kind (Some (term.Basic basic.Uint8)) h = refl
character_kind (Some (term.Basic basic.Int32)) h = refl
character_kind _ h = never h

pub characters_term : (types : Table) (of : Option TypeTerm) → is_characters types of ≡ true
    → (elem : TypeId) × ((of ≡ Some (term.Slice elem)) × (is_character (underlying_term_of types elem) ≡ true))
characters_term types (Some (term.Slice elem)) h = (elem, (refl, h))
characters_term types _ h = never h

-- ---- held types

pub basic_term : (types : Table) → IsHeld types → (kind : _) → underlying_term_of types (basic_id kind) ≡ Some (term.Basic kind)
basic_term types held kind = under_plain types held (basic_id kind) (term.Basic kind) (held.basics kind) refl

pub tuple_term : (types : Table) → IsHeld types → (of : TypeId) (ids : List TypeId) → parts_of (term_at types of) ≡ Some ids
    → underlying_term_of types of ≡ Some (term.Tuple ids)
tuple_term types held of ids h = by (term_at types of) refl h
  where
    by : (found : Option TypeTerm) → term_at types of ≡ found → parts_of found ≡ Some ids
        → underlying_term_of types of ≡ Some (term.Tuple ids)
    by (Some (term.Tuple parts)) e h =
        under_plain types held of (term.Tuple ids) (e ∙ ap (λ ids. Some (term.Tuple ids)) (lists.some_same parts ids h)) refl
    by _ e h = absurd (none-some ids h)

-- a value and whether there was one
pub ok_term : (types : Table) → IsHeld types → (of first : TypeId) → is_with_ok first (parts_of (term_at types of)) ≡ true
    → underlying_term_of types of ≡ Some (term.Tuple (first ∷ basic_id basic.Bool ∷ []))
ok_term types held of first h = by (parts_of (term_at types of)) refl h
  where
    by : (found : Option (List TypeId)) → parts_of (term_at types of) ≡ found → is_with_ok first found ≡ true
        → underlying_term_of types of ≡ Some (term.Tuple (first ∷ basic_id basic.Bool ∷ []))
    by (Some (one ∷ two ∷ [])) e h =
        let same = both (same_id one first) (same_id two (basic_id basic.Bool)) h in
        tuple_term types held of (first ∷ basic_id basic.Bool ∷ [])
        (e ∙ ap (λ (one : TypeId). Some (one ∷ two ∷ [])) (same_is one first same.0)
        ∙ ap (λ (two : TypeId). Some (first ∷ two ∷ [])) (same_is two (basic_id basic.Bool) same.1))
    by _ e h = never h

pub truth_fits : (c : Code) (t : Typing) → IsHeld c.types → (b : Bool) → IsOf c t (truth b) (basic_id basic.Bool)
truth_fits c t held b = subst (Fits c t (truth b)) (sym (basic_term c.types held basic.Bool)) tt

-- a value, and where it is asked whether there was one
pub ok_fits : (c : Code) (t : Typing) → IsHeld c.types → (of first : TypeId) (comma_ok : Bool) → gives c.types of first comma_ok ≡ true
    → (v : Val) (was : Bool) → IsOf c t v first → IsOf c t (with_ok comma_ok v was) of
ok_fits c t held of first false h v was fits = subst (IsOf c t v) (sym (same_is of first h)) fits
ok_fits c t held of first true h v was fits =
    subst (Fits c t (with_ok true v was)) (sym (ok_term c.types held of first h))
    (first ∷ basic_id basic.Bool ∷ [], (refl, (fits, (truth_fits c t held was, tt))))
