-- The paths below a directory.
use Rattle.std.proofs.Common.{◌≡◌, ◌≢◌, ℕ, ◌+◌, Bool, true, false, List, [], ◌∷◌, ◌++◌, length, drop, Option, None, Some, refl, sym, ap, ◌∙◌, bytes_eq, nat_eq, codes, append_assoc, MatchOption, Bor, option_copied, if◌then◌else◌, suc, add-one}
use Rattle.std.specs.List.{starts_with}
use Rattle.std.proofs.lemmas.Slice.Eq.{starts_is}
use Rattle.std.proofs.lemmas.Bool.Decides.{Decides-eqb}
use Rattle.std.proofs.lemmas.List.{append_cancel_left}
use Rattle.go_base.specs.Devices.{rest_below}

-- whether a path goes on with a slash behind the directory
unfoldable pub begins : List ℕ → List ℕ → Bool
begins dir path = starts_with nat_eq path (dir ++ codes "/")

-- a path that has the directory, a slash and the rest
begins_yes : (dir path rest : List ℕ) → path ≡ dir ++ (47 ∷ rest) → begins dir path ≡ true
unfolding begins
begins_yes dir path rest e = (starts_is Decides-eqb path (dir ++ codes "/") (begins dir path) refl).1 rest (e ∙ sym (append_assoc dir (codes "/") rest))

false_unless : (b : Bool) → (b ≡ true → ⊥) → b ≡ false
false_unless true h = absurd (h refl)
false_unless false h = refl

begins_no : (dir path : List ℕ) → ((rest : List ℕ) → path ≢ dir ++ (47 ∷ rest)) → begins dir path ≡ false
unfolding begins
begins_no dir path none =
    false_unless (begins dir path)
    (λ h. none (drop (length (dir ++ codes "/")) path) ((starts_is Decides-eqb path (dir ++ codes "/") (begins dir path) refl).0 h ∙ append_assoc dir (codes "/") (drop (length (dir ++ codes "/")) path)))

dropped-suc : (dir rest : List ℕ) → drop (suc (length dir)) (dir ++ (47 ∷ rest)) ≡ rest
dropped-suc [] rest = refl
dropped-suc (byte ∷ dir) rest = dropped-suc dir rest

dropped : (dir rest : List ℕ) → drop (length dir + 1) (dir ++ (47 ∷ rest)) ≡ rest
dropped dir rest = rw add-one (dropped-suc dir rest)

-- what follows the directory and a slash
unfoldable pub below : List ℕ → List ℕ → Option (List ℕ)
below dir path = if begins dir path then Some (drop (length dir + 1) path) else None

pub below_yes : (dir path rest : List ℕ) → path ≡ dir ++ (47 ∷ rest) → below dir path ≡ Some rest
unfolding below
below_yes dir path rest e = rw (begins_yes dir path rest e) (ap (λ l. Some (drop (length dir + 1) l)) e ∙ ap Some (dropped dir rest))

pub below_no : (dir path : List ℕ) → ((rest : List ℕ) → path ≢ dir ++ (47 ∷ rest)) → below dir path ≡ None
unfolding below
below_no dir path none = rw (begins_no dir path none) refl

-- a directory that is not the one of the paths
pub rest_below_other : (dir path : List ℕ) → bytes_eq dir (codes ".") ≡ false → rest_below dir path ≡ below dir path
unfolding below begins
rest_below_other dir path h = rw h refl

-- what is left of the path behind the directory loses its slash
pub below_stripped : (dir path first : List ℕ) (r : Option (Bor (List ℕ))) → path ≡ dir ++ first
    → MatchOption r ((rest : List ℕ) → first ≢ 47 ∷ rest) (λ x. first ≡ 47 ∷ x.now) → option_copied r ≡ below dir path
below_stripped dir path first None e cases =
    sym (below_no dir path (λ rest same. cases rest (append_cancel_left dir first (47 ∷ rest) (sym e ∙ same))))
below_stripped dir path first (Some x) e cases = sym (below_yes dir path x.now (e ∙ ap (λ l. dir ++ l) cases))
