-- The first bad part begins with a token.
use Rattle.std.proofs.Common.{◌≡◌, ℕ, zero, suc, ◌+◌, ◌≤◌, ◌<◌, Bool, true, false, List, [], ◌∷◌, ◌++◌, length, refl, sym, ap, ◌∙◌, subst, append_assoc, arith}
use Rattle.std.proofs.lemmas.List.{append-nil, length-append}
use Rattle.go_ast.specs.declared.token.Token.{Token}
use Rattle.go_grammar.specs.Files.{IsUnexpected, IsFirstBad, parts_from, parts_of, last_part, ends_part, depth_after, join}
use Rattle.parse_answer.specs.Refusal.{IsIndexOf}

-- the parts are all the tokens
parts_text : (depth : ℕ) (front tokens : List Token) → join (parts_from depth front tokens) ≡ front ++ tokens
parts_text depth [] [] = refl
parts_text depth (first ∷ front) [] = refl
parts_text depth front (token ∷ tokens) =
    go (ends_part depth token.kind) refl (parts_text 0 [] tokens) (parts_text (depth_after depth token.kind) (front ++ (token ∷ [])) tokens)
  where
    regroup : (front ++ (token ∷ [])) ++ tokens ≡ front ++ (token ∷ tokens)
    regroup = append_assoc front (token ∷ []) tokens

    go : (b : Bool) → ends_part depth token.kind ≡ b → join (parts_from 0 [] tokens) ≡ tokens → join (parts_from (depth_after depth token.kind) (front ++ (token ∷ [])) tokens) ≡ (front ++ (token ∷ [])) ++ tokens
        → join (parts_from depth front (token ∷ tokens)) ≡ front ++ (token ∷ tokens)
    go true e h k = rw e (ap (λ (ws : List Token). (front ++ (token ∷ [])) ++ ws) h ∙ regroup)
    go false e h k = rw e (k ∙ regroup)

-- each part has tokens
abbrev AreLong : List (List Token) → Type 0
AreLong [] = Unit {0}
AreLong (part ∷ parts) = (0 < length part) × AreLong parts

parts_long : (depth : ℕ) (front tokens : List Token) → AreLong (parts_from depth front tokens)
parts_long depth [] [] = tt
parts_long depth (first ∷ front) [] = (omega arith, tt)
parts_long depth front (token ∷ tokens) =
    go (ends_part depth token.kind) refl (parts_long 0 [] tokens) (parts_long (depth_after depth token.kind) (front ++ (token ∷ [])) tokens)
  where
    go : (b : Bool) → ends_part depth token.kind ≡ b → AreLong (parts_from 0 [] tokens) → AreLong (parts_from (depth_after depth token.kind) (front ++ (token ∷ [])) tokens) → AreLong (parts_from depth front (token ∷ tokens))
    go true e h k = rw e (omega (arith, length-append front (token ∷ [])), h)
    go false e h k = rw e k

long_at : (good : List (List Token)) (bad : List Token) (later : List (List Token)) → AreLong (good ++ (bad ∷ later)) → 0 < length bad
long_at [] bad later h = h.0
long_at (part ∷ good) bad later h = long_at good bad later h.1

join_both : (good rest : List (List Token)) → join (good ++ rest) ≡ join good ++ join rest
join_both [] rest = refl
join_both (part ∷ good) rest = ap (λ (ws : List Token). part ++ ws) (join_both good rest) ∙ sym (append_assoc part (join good) (join rest))

pub unexpected_within : (tokens : List Token) (index : ℕ) → IsUnexpected tokens index → IsIndexOf (length tokens) index
unexpected_within [] index e = (omega (arith, e), λ h. absurd (omega (arith, h)))
unexpected_within (token ∷ tokens) index b =
    let whole : join (b.good ++ (b.bad ∷ b.later)) ≡ token ∷ tokens = ap join (sym b.parts) ∙ parts_text 0 [] (token ∷ tokens) in
    let text : join b.good ++ (b.bad ++ join b.later) ≡ token ∷ tokens = sym (join_both b.good (b.bad ∷ b.later)) ∙ whole in
    let long : 0 < length b.bad = long_at b.good b.bad b.later (subst AreLong b.parts (parts_long 0 [] (token ∷ tokens))) in
    let sum : length (join b.good) + (length b.bad + length (join b.later)) ≡ length (token ∷ tokens) =
    ap (λ n. length (join b.good) + n) (sym (length-append b.bad (join b.later))) ∙ sym (length-append (join b.good) (b.bad ++ join b.later)) ∙ ap length text in
    (omega (arith, b.at, sum), λ h. omega (arith, b.at, sum, long))
