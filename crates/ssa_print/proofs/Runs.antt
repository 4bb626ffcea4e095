-- Lists of which the front is written, item by item and package by package.
use Rattle.std.proofs.Common.{◌≡◌, ℕ, suc, zero, ◌+◌, ◌-◌, ◌<◌, Bool, List, [], ◌∷◌, ◌++◌, length, take, drop, refl, sym, ◌∙◌, ap, arith, append_assoc}
use Rattle.std.specs.Prelude.{take_while}
use Rattle.std.specs.List.{flat_map, prefix_len}
use Rattle.go_base.specs.declared.ids.TypeId.{TypeId}
use Rattle.go_type.specs.Table.{term_at}
use Rattle.ssa_ir.specs.declared.code.MethodLine.{MethodLine}
use Rattle.ssa_print.specs.Codes.{package_line, variable_line, is_variable_in, is_declared_in, past, types_text, methods_past, next_types, types_past, packages_text, methods_left}
use Rattle.ssa_print.specs.Operands.{Setting}
use Rattle.ssa_print.specs.declared.variables.NamedVariable.{NamedVariable}

front : {A : Type 0} (n : ℕ) (xs : List A) → take (length (take n xs)) xs ≡ take n xs
front zero xs = refl
front (suc n) [] = refl
front (suc n) (x ∷ xs) = ap (λ l. x ∷ l) (front n xs)

-- the items that a count takes, and those that it leaves
own-are : {A : Type 0} (test : A → Bool) (xs own : List A) (k : ℕ) → k ≡ length (take_while test xs) → own ≡ take k xs → own ≡ take_while test xs
own-are test xs own k h e = e ∙ ap (λ n. take n xs) h ∙ front (prefix_len test xs) xs

rest-are : {A : Type 0} (test : A → Bool) (xs rest : List A) (k : ℕ) → k ≡ length (take_while test xs) → rest ≡ drop k xs → rest ≡ past test xs
rest-are test xs rest k h e = e ∙ ap (λ n. drop n xs) h

four : (a b c d e : List ℕ) → (((a ++ b) ++ c) ++ d) ++ e ≡ a ++ (b ++ (c ++ (d ++ e)))
four a b c d e = simp append_assoc

module _ (s : Setting) where
  -- ---- packages

  module _ (end number : ℕ) (types own later : List TypeId) (methods left : List MethodLine) (k : ℕ) (within : number < end)
      (count : k ≡ length (take_while (λ id. is_declared_in number (term_at s.naming.types id)) types)) (owned : own ≡ take k types) (more : later ≡ drop k types)
      (after : left ≡ methods_past s own methods) where
    own-types : own ≡ next_types s number types
    own-types = own-are (λ id. is_declared_in number (term_at s.naming.types id)) types own k count owned

    rest-types : later ≡ types_past s number types
    rest-types = rest-are (λ id. is_declared_in number (term_at s.naming.types id)) types later k count more

    rest-methods : left ≡ methods_past s (next_types s number types) methods
    rest-methods = after ∙ ap (λ l. methods_past s l methods) own-types

    next : end - number ≡ suc (end - (number + 1))
    next = omega arith

    pub packages-turn : (variables named others : List NamedVariable) (n : ℕ) (t0 t1 t2 t3 whole : List ℕ)
        → n ≡ length (take_while (is_variable_in number) variables) → named ≡ take n variables → others ≡ drop n variables
        → t1 ≡ t0 ++ package_line s number → t2 ≡ t1 ++ types_text s own methods → t3 ≡ t2 ++ flat_map (variable_line s) named
        → t0 ++ packages_text s (end - number) number types methods variables ≡ whole
        → t3 ++ packages_text s (end - (number + 1)) (number + 1) later left others ≡ whole
    packages-turn variables named others n t0 t1 t2 t3 whole m v o p q r w =
        let rest : List TypeId → List MethodLine → List NamedVariable → List ℕ = packages_text s (end - (number + 1)) (number + 1) in
        let old : List ℕ = ((t0 ++ package_line s number) ++ types_text s (next_types s number types) methods) ++ flat_map (variable_line s) (take_while (is_variable_in number) variables) in
        let now : t3 ≡ old =
        r ∙ ap (λ t. t ++ flat_map (variable_line s) named) (q ∙ ap (λ t. t ++ types_text s own methods) p ∙ ap (λ l. (t0 ++ package_line s number) ++ types_text s l methods) own-types)
        ∙ ap (λ l. ((t0 ++ package_line s number) ++ types_text s (next_types s number types) methods) ++ flat_map (variable_line s) l) (own-are (is_variable_in number) variables named n m v)
        in
        ap (λ t. t ++ rest later left others) now
        ∙ ap (λ l. old ++ rest l left others) rest-types
        ∙ ap (λ l. old ++ rest (types_past s number types) l others) rest-methods
        ∙ ap (λ l. old ++ rest (types_past s number types) (methods_past s (next_types s number types) methods) l) (rest-are (is_variable_in number) variables others n m o)
        ∙ four t0 (package_line s number) (types_text s (next_types s number types) methods) (flat_map (variable_line s) (take_while (is_variable_in number) variables))
        (rest (types_past s number types) (methods_past s (next_types s number types) methods) (past (is_variable_in number) variables))
        ∙ ap (λ c. t0 ++ packages_text s c number types methods variables) (sym next) ∙ w

    pub left-turn : (whole : List MethodLine) → methods_left s (end - number) number types methods ≡ whole → methods_left s (end - (number + 1)) (number + 1) later left ≡ whole
    left-turn whole w =
        ap (λ l. methods_left s (end - (number + 1)) (number + 1) l left) rest-types
        ∙ ap (methods_left s (end - (number + 1)) (number + 1) (types_past s number types)) rest-methods
        ∙ ap (λ c. methods_left s c number types methods) (sym next) ∙ w
