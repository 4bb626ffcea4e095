use Rattle.std.proofs.Common.{◌≡◌, Some, sym, subst, ◌∙◌, ap, map, ℤ, ℕ, List, [], ◌∷◌, ◌++◌, ◌+◌, ◌<◌, length, take, get_or, arith}
use Rattle.go_store.specs.Cells.{IsPlain, plain_number}
use Rattle.go_value.specs.Values.{Field, parts_of}
use Rattle.go_value.specs.Values as vals
use Rattle.std.proofs.lemmas.List.{take_all}
use Rattle.std.specs.Global.{Vec}
use Rattle.std.proofs.lemmas.Int.{ints, to_z-of_z}
use Rattle.go_store.proofs.Held.{ints_are}
use Rattle.go_store.proofs.Integers.{plain_integer}
use Rattle.go_store.proofs.Mapped.{shown_push}
use Rattle.go_store.proofs.cells.cell_of_ints.Goals as goal
use Rattle.go_store.proofs.cells.cell_of_ints.Goals.{in-Some+in_ok-push-in-Some, in-None}

number_push : (xs : List ℤ) (ys : List Field) (i : ℕ) (x n : ℤ) (it : Field) → map plain_number xs ≡ take i ys → x ≡ n → plain_number n ≡ it → i < length ys → it ≡ get_or ys i it → map plain_number (xs ++ (x ∷ [])) ≡ take (i + 1) ys
number_push xs ys i x n it before e same below is = shown_push plain_number xs ys i x it it before (ap plain_number e ∙ same) below is

pub loop-part-preserved : goal.loop-part-preserved
loop-part-preserved c =
    let it = c.part-item.result in
    let i = c.loop-part.part-index in
    let plain : IsPlain it = subst IsPlain (sym c.part-item.is) (c.requires i it c.loop-part-test.true) in
    let e : c.integer.result ≡ Some plain.0 = c.integer.ensures ∙ plain_integer _ plain.0 (c.part.view_is ∙ plain.1) in
    elim c.match-integer.branch [
      | in-Some+in_ok-push-in-Some w ↦
          let same : plain_number w.in-Some.number ≡ it = cc (e, w.in-Some.is, plain.1) in
          ap (λ (v : Vec ℤ). map plain_number v.items) w.ints-is ∙ ap (map plain_number) w.in_ok-push-in-Some.ensures.items ∙ number_push c.loop-part.ints.items c.args.parts.now i _ w.in-Some.number it c.loop-part.invariant (grind (arith, ints, to_z-of_z)) same c.loop-part-test.true c.part-item.is
      | in-None w ↦ cc (e, w.in-None.is)
    ]

pub returns : goal.returns
returns c =
    ints_are c.loop-part.ints ∙ ap (λ (fields : List Field). vals.parts (parts_of fields)) (c.loop-part.invariant ∙ take_all c.loop-part.part-index c.args.parts.now c.loop-part-test.false)
