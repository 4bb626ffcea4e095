-- One function after another is sane.
use Rattle.std.proofs.Common.{◌≡◌, ℕ, ◌+◌, ◌<◌, List, [], ◌∷◌, ◌++◌, length, take, sym, ap, ◌∙◌, subst, All}
use Rattle.std.proofs.Math.ListN.{get_or}
use Rattle.std.proofs.lemmas.Grind.{take_at_read}
use Rattle.std.proofs.lemmas.List.Elements.{All-append, All-from_recursion}
use Rattle.ssa_ir.specs.declared.code.Function.{Function}
use Rattle.ssa_sane.specs.Sane.{IsSane}
use Rattle.program_work.specs.Working.{AreSane}

pub none_sane : AreSane []
unfolding AreSane
none_sane = All-from_recursion IsSane [] tt

pub one_more : (xs : List Function) (i : ℕ) (d x : Function) → i < length xs → AreSane (take i xs) → x ≡ get_or xs i d → IsSane x → AreSane (take (i + 1) xs)
unfolding AreSane
one_more xs i d x less before is sane =
    let longer : take (i + 1) xs ≡ take i xs ++ x ∷ [] = (take_at_read xs i d less).1 ∙ sym (ap (λ y. take i xs ++ y ∷ []) is) in
    subst (All IsSane) (sym longer) (All-append IsSane (take i xs) (x ∷ []) before (All-from_recursion IsSane (x ∷ []) (sane, tt)))
