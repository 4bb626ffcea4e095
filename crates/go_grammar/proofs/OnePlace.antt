-- Tokens are a file, or have one first bad part.
use Rattle.std.proofs.Common.{◌≡◌, ℕ, suc, ◌<◌, ltb, Bool, true, false, List, [], ◌∷◌, ◌++◌, length, take, refl, sym, ap, ◌∙◌, subst, arith}
use Rattle.std.proofs.lemmas.Bool.{ltb-true, ltb-false}
use Rattle.std.proofs.lemmas.List.{take-append-le}
use Rattle.std.proofs.Math.Seq.{take-append_seam}
use Rattle.go_ast.specs.declared.token.Token.{Token}
use Rattle.go_grammar.specs.Files.{IsFileText, IsFirstBad, IsUnexpected, parts_of, join}
use Rattle.go_grammar.proofs.FileParts.{parts_of_file, parts_taken, file_of_parts}

no_clause : {A : Type 0} (x : A) (xs : List A) → [] ≡ x ∷ xs → ⊥
no_clause x xs e = absurd cc

taken_with : {A : Type 0} (good : List A) (bad : A) (later : List A) → take (suc (length good)) (good ++ bad ∷ later) ≡ good ++ bad ∷ []
taken_with [] bad later = refl
taken_with (part ∷ good) bad later = ap (λ (parts : List _). part ∷ parts) (taken_with good bad later)

-- each front of a file's parts is a file
front_is_file : (tokens : List Token) (f : IsFileText tokens) (n : ℕ) → IsFileText (join (take (suc n) (parts_of tokens)))
front_is_file tokens f n =
    let p = parts_of_file f.fine.well_formed in
    let all : parts_of tokens ≡ p.clause ∷ p.others = ap parts_of f.fine.written ∙ p.all in
    subst (λ (parts : List (List Token)). IsFileText (join (take (suc n) parts))) (sym all) (file_of_parts p.clause (take n p.others) p.is_clause (parts_taken n p.others p.are_parts))

pub never_both : (tokens : List Token) (index : ℕ) → IsUnexpected tokens index → IsFileText tokens → ⊥
never_both [] index h f = let p = parts_of_file f.fine.well_formed in no_clause p.clause p.others (ap parts_of f.fine.written ∙ p.all)
never_both (token ∷ tokens) index b f =
    b.not (subst (λ (parts : List (List Token)). IsFileText (join parts)) (ap (take (suc (length b.good))) b.parts ∙ taken_with b.good b.bad b.later) (front_is_file (token ∷ tokens) f (length b.good)))

-- no first bad part stands before another
none_before : (tokens : List Token) (i j : ℕ) (a : IsFirstBad tokens i) (b : IsFirstBad tokens j) → length a.good < length b.good → ⊥
none_before tokens i j a b lt =
    let n = length a.good in
    let front : take (suc n) b.good ≡ a.good ++ a.bad ∷ [] =
    sym (take-append-le (suc n) b.good (b.bad ∷ b.later) (omega arith)) ∙ ap (take (suc n)) (sym b.parts ∙ a.parts) ∙ taken_with a.good a.bad a.later in
    a.not (subst (λ (parts : List (List Token)). IsFileText (join parts)) front (b.before n (omega arith)))

pub one_index : (tokens : List Token) (i j : ℕ) → IsUnexpected tokens i → IsUnexpected tokens j → i ≡ j
one_index [] i j a b = a ∙ sym b
one_index (token ∷ tokens) i j a b = go (ltb (length a.good) (length b.good)) refl (ltb (length b.good) (length a.good)) refl
  where
    go : (l : Bool) → ltb (length a.good) (length b.good) ≡ l → (r : Bool) → ltb (length b.good) (length a.good) ≡ r → i ≡ j
    go true e r f = absurd (none_before (token ∷ tokens) i j a b (ltb-true (length a.good) (length b.good) e))
    go false e true f = absurd (none_before (token ∷ tokens) j i b a (ltb-true (length b.good) (length a.good) f))
    go false e false f =
        let same : length a.good ≡ length b.good = omega (arith, ltb-false (length a.good) (length b.good) e, ltb-false (length b.good) (length a.good) f) in
        let goods : a.good ≡ b.good =
        sym (take-append_seam a.good (a.bad ∷ a.later)) ∙ ap (take (length a.good)) (sym a.parts ∙ b.parts) ∙ ap (λ n. take n (b.good ++ b.bad ∷ b.later)) same ∙ take-append_seam b.good (b.bad ∷ b.later) in
        a.at ∙ ap (λ (good : List (List Token)). length (join good)) goods ∙ sym b.at
