-- The texts of numbers, and the names of functions that there are not.
use Rattle.std.proofs.Common.{◌≡◌, ◌≤◌, ◌<◌, ℕ, zero, suc, List, [], ◌∷◌, ◌++◌, length, get_or, refl, sym, ap, ◌∙◌, inl, inr, arith, length-append}
use Rattle.std.proofs.lemmas.Bool.{cases_lt}
use Rattle.std.proofs.lemmas.List.{get_or_append_left, get_or_past}
use Rattle.std.proofs.lemmas.Option.{unwrap_or-slice_get, slice_get_past}
use Rattle.std.proofs.Math.Seq.{get_or-append_seam}
use Rattle.go_text.specs.Naming.{Naming}
use Rattle.go_tree.specs.declared.functions.FunctionDecl.{FunctionDecl}
use Rattle.tree_facts.specs.FunctionNames.{name_to, text_of_function}
use Rattle.cg_listing.specs.Listing.{name_in}
use Rattle.cg_listing.specs.Rows.{texts_below}

length-texts : (f : ℕ → List ℕ) (n : ℕ) → length (texts_below f n) ≡ n
length-texts f zero = refl
length-texts f (suc n) = omega (arith, length-append (texts_below f n) (f n ∷ []), length-texts f n)

text_below : (f : ℕ → List ℕ) (n k : ℕ) → k < n → get_or (texts_below f n) k [] ≡ f k
text_below f zero k h = absurd (omega arith)
text_below f (suc n) k h =
    let count = length-texts f n in
    elim (cases_lt k n) [
      | inl l ↦ (let within : k < length (texts_below f n) = omega arith in get_or_append_left (texts_below f n) (f n ∷ []) [] k within ∙ text_below f n k l)
      | inr l ↦ (
          let same : k ≡ n = omega arith in
          let last : k ≡ length (texts_below f n) = omega arith in
          ap (λ j. get_or (texts_below f n ++ f n ∷ []) j []) last ∙ (get_or-append_seam (texts_below f n) (f n) [] [] ∙ ap f (sym same))
          )
    ]

-- the text of each number, where those from n on have none
pub texts_named : (f : ℕ → List ℕ) (n : ℕ) → ((k : ℕ) → n ≤ k → f k ≡ []) → (k : ℕ) → name_in (texts_below f n) k ≡ f k
texts_named f n none k =
    let count = length-texts f n in
    unwrap_or-slice_get (texts_below f n) k []
    ∙ elim (cases_lt k n) [
      | inl l ↦ text_below f n k l
      | inr l ↦ (let past : length (texts_below f n) ≤ k = omega arith in get_or_past (texts_below f n) k [] past ∙ sym (none k l))
    ]

-- a function that there is not has no name
pub name_past : (depth : ℕ) (n : Naming) (functions : List FunctionDecl) (k : ℕ) → length functions ≤ k → name_to depth n functions k ≡ []
unfolding name_to
name_past zero n functions k h = refl
name_past (suc depth) n functions k h = ap (text_of_function n functions (name_to depth n functions) k) (slice_get_past functions k h)
