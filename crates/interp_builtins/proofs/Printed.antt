-- What `print` and `println` have written on their way.
use Rattle.std.proofs.Common.{◌≡◌, ◌∙◌, ap, sym, List, [], ◌∷◌, ◌++◌, append_assoc, ℕ, ◌+◌, ◌<◌, ◌≤◌, length}
use Rattle.std.proofs.Common.{drop, get_or, drop_of_length-le}
use Rattle.std.proofs.lemmas.List.{drop_more}
use Rattle.go_value.specs.Values.{value_of}
use Rattle.go_value.specs.declared.values.Value.{Value}
use Rattle.value_texts.specs.Texts.{printed}

pub next_value : (values : List Value) (i : ℕ) (it : Value) → i < length values → it ≡ get_or values i it
    → drop i values ≡ it ∷ drop (i + 1) values
next_value values i it below is = drop_more values i it below ∙ ap (λ first. first ∷ drop (i + 1) values) (sym is)

pub none_left : (values : List Value) (i : ℕ) → length values ≤ i → drop i values ≡ []
none_left values i past = drop_of_length-le values past

-- one value more is written
pub one_printed : (old new rest : List ℕ) (it : Value) → new ≡ old ++ printed (value_of it)
    → new ++ rest ≡ old ++ (printed (value_of it) ++ rest)
one_printed old new rest it is =
    ap (λ bytes. bytes ++ rest) is ∙ append_assoc old (printed (value_of it)) rest

pub one_behind : (old spaced new rest : List ℕ) (it : Value) → spaced ≡ old ++ 32 ∷ []
    → new ≡ spaced ++ printed (value_of it)
    → new ++ rest ≡ old ++ (32 ∷ (printed (value_of it) ++ rest))
one_behind old spaced new rest it space is =
    one_printed spaced new rest it is
    ∙ ap (λ bytes. bytes ++ (printed (value_of it) ++ rest)) space
    ∙ append_assoc old (32 ∷ []) (printed (value_of it) ++ rest)
