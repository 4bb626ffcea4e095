-- Conversions between strings and slices are those that the calls on a store make.
use Rattle.std.proofs.Common.{ℕ, ℤ, List, [], map, Bool, true, false, Option, Some, None, Result, Ok, Err, OnOk, IsSome, unwrap_or, ap, sym, subst, ◌∙◌}
use Rattle.std.specs.Prelude.{flat_map}
use Rattle.std.proofs.lemmas.Bool.{false≢true}
use Rattle.go_store.specs.Arrays.{array_of}
use Rattle.go_store.specs.Conversions.{MakesSlice, numbers_of, within_limit}
use Rattle.go_store.specs.Slices.{elements_of}
use Rattle.go_store.specs.Stores.{Stored, made}
use Rattle.go_value.specs.Gives.{Gives}
use Rattle.go_value.specs.Values.{Val, number, text}
use Rattle.go_value.specs.declared.address.SliceValue.{SliceValue}
use Rattle.go_value.specs.declared.faults.Fault.{Fault}
use Rattle.go_value.specs.declared.faults.ValueError.{ValueError}
use Rattle.go_value.specs.declared.faults.ValueError.TheVariants as errors
use Rattle.ssa_mean.specs.Comes.{Comes, to, of_result, then_to, where_some}
use Rattle.ssa_mean.specs.Conversions.{Stores, kept, are_bytes, spelling, slice_of_ints, slice_of_text}
use Rattle.ssa_mean.specs.Operands.{element_in, under_in}
use Rattle.ssa_mean.specs.Ties.{ComesTo, TextsOne, SlicesOne, MakesElements, in_store}
use Rattle.ssa_mean.proofs.Decoded.{runes_one}

-- ---- from a slice to a string

-- what a call gives, where its limit is told
told : {B : Type 0} (seen : List ℕ → B) (result : Result (List ℕ) ValueError) (wanted : Result (List ℕ) Fault)
    → Gives (λ bytes. bytes) result wanted → ComesTo seen result (then_to seen (of_result wanted))
told seen (Ok bytes) wanted is = ap (λ w. then_to seen (of_result w)) is
told seen (Err (errors.Fault fault)) wanted is = ap (λ w. then_to seen (of_result w)) is
told seen (Err errors.OutOfMemory) wanted is = tt

-- the text of the elements, where there are elements
text_in : Stored → (Val → List ℕ) → Option (List Val) → Comes Stores
text_in store spelled items =
    then_to (kept store)
    (where_some (λ them. then_to text (of_result (within_limit (flat_map spelled them)))) items)

text_told : (store : Stored) (spelled : Val → List ℕ) (items : Option (List Val)) (result : Result (List ℕ) ValueError)
    → OnOk result (IsSome items)
    → Gives (λ bytes. bytes) result (within_limit (flat_map spelled (unwrap_or items [])))
    → ComesTo (λ bytes. kept store (text bytes)) result (text_in store spelled items)
unfolding text_in
text_told store spelled None (Ok bytes) there is = absurd (false≢true there)
text_told store spelled None (Err (errors.Fault fault)) there is = cc
text_told store spelled None (Err errors.OutOfMemory) there is = tt
text_told store spelled (Some them) (Ok bytes) there is =
    ap (λ w. then_to (kept store) (then_to text (of_result w))) is
text_told store spelled (Some them) (Err (errors.Fault fault)) there is =
    ap (λ w. then_to (kept store) (then_to text (of_result w))) is
text_told store spelled (Some them) (Err errors.OutOfMemory) there is = tt

pub texts_one : TextsOne
unfolding text_in
texts_one types store from of it result there is =
    text_told store (spelling (are_bytes types (element_in from))) (elements_of store it) result there is

-- ---- from a string to a slice

slice_told : (old : Stored) (ints : List ℤ) (result : Result SliceValue ValueError) (new : Stored)
    → MakesSlice old ints result new → ComesTo (in_store new) result (slice_of_ints old ints)
slice_told old ints (Ok it) new makes =
    ap (λ w. then_to (λ it. in_store (made old (array_of (map number ints))) it) (of_result w)) makes.value
    ∙ ap (λ store. to (in_store store it)) (sym makes.ok)
slice_told old ints (Err (errors.Fault fault)) new makes =
    ap (λ w. then_to (λ it. in_store (made old (array_of (map number ints))) it) (of_result w)) makes.value
slice_told old ints (Err errors.OutOfMemory) new makes = tt

elements_told : (bytes_are : Bool) (old : Stored) (bytes : List ℕ) (result : Result SliceValue ValueError) (new : Stored)
    → MakesElements bytes_are old bytes result new → ComesTo (in_store new) result (slice_of_text old bytes_are bytes)
elements_told true old bytes result new makes = slice_told old (numbers_of bytes) result new makes
elements_told false old bytes result new makes =
    subst (λ ints. ComesTo (in_store new) result (slice_of_ints old ints))
    ((runes_one bytes makes.0).0 makes.1)
    (slice_told old makes.0 result new makes.2)

pub slices_one : SlicesOne
slices_one types old from of bytes result new makes =
    elements_told (are_bytes types (element_in (under_in types (Some of)))) old bytes result new makes
