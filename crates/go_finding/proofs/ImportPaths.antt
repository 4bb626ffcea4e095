-- What paths have after others.
use Rattle.std.proofs.Common.{◌≡◌, ◌≢◌, ℕ, Bool, true, false, List, ◌∷◌, ◌++◌, length, drop, Option, None, Some, refl, sym, ap, ◌∙◌, nat_eq, codes, MatchOption, Bor, if◌then◌else◌}
use Rattle.std.specs.List.{starts_with}
use Rattle.std.specs.Option.{option_and_then, option_copied}
use Rattle.std.proofs.lemmas.Slice.Eq.{starts_is}
use Rattle.std.proofs.lemmas.Bool.Decides.{Decides-eqb}
use Rattle.std.proofs.lemmas.List.Prefix.{front_rest}
use Rattle.go_finding.specs.Imports.{after, import_rest}

-- ---- what follows a front

false_unless : (b : Bool) → (b ≡ true → ⊥) → b ≡ false
false_unless true h = absurd (h refl)
false_unless false h = refl

starts : (text front rest : List ℕ) → text ≡ front ++ rest → starts_with nat_eq text front ≡ true
starts text front rest e = (starts_is Decides-eqb text front (starts_with nat_eq text front) refl).1 rest e

starts_not : (text front : List ℕ) → ((rest : List ℕ) → text ≢ front ++ rest) → starts_with nat_eq text front ≡ false
starts_not text front none =
    false_unless (starts_with nat_eq text front) (λ h. none (drop (length front) text) ((starts_is Decides-eqb text front (starts_with nat_eq text front) refl).0 h))

after_some : (front text rest : List ℕ) → text ≡ front ++ rest → after front text ≡ Some rest
after_some front text rest e =
    ap (λ b. if b then Some (drop (length front) text) else None) (starts text front rest e) ∙ ap Some (front_rest text front rest e)

after_none : (front text : List ℕ) → ((rest : List ℕ) → text ≢ front ++ rest) → after front text ≡ None
after_none front text none = ap (λ b. if b then Some (drop (length front) text) else None) (starts_not text front none)

-- ---- the rest of an import path

pub import_rest-none : (front path : List ℕ) → ((rest : List ℕ) → path ≢ front ++ rest) → import_rest front path ≡ None
import_rest-none front path none = ap (option_and_then (after (codes "/"))) (after_none front path none)

pub import_rest-stripped : (front path first : List ℕ) (rest : Option (Bor (List ℕ))) → path ≡ front ++ first
    → MatchOption rest ((more : List ℕ) → first ≢ 47 ∷ more) (λ more. first ≡ 47 ∷ more.now) → option_copied rest ≡ import_rest front path
import_rest-stripped front path first None e cases =
    sym (ap (option_and_then (after (codes "/"))) (after_some front path first e) ∙ after_none (codes "/") first cases)
import_rest-stripped front path first (Some rest) e cases =
    sym (ap (option_and_then (after (codes "/"))) (after_some front path first e) ∙ after_some (codes "/") first rest.now cases)
