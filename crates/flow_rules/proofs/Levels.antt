-- Statements around a place, the innermost last in the code and first in what contracts see.
use Rattle.std.proofs.Common.{◌≡◌, ◌<◌, ◌+◌, ◌-◌, ◌∙◌, ℕ, suc, zero, Bool, true, false, List, [], ◌∷◌, ◌++◌, Option, Some, None, length, reverse, map, take, drop, get_or, refl, sym, ap, subst, add-one, arith}
use Rattle.std.proofs.Math.ListN.{set}
use Rattle.std.proofs.lemmas.List.{reverse-append, get_or-reverse, length-reverse}
use Rattle.std.specs.Prelude.{option_map, if◌then◌else◌}
use Rattle.go_base.specs.declared.ids.NameId.{NameId}
use Rattle.flow_rules.specs.declared.around.Around.{Around}
use Rattle.flow_rules.specs.declared.around.Label.{Label}
use Rattle.flow_rules.specs.Surroundings.{Surroundings, levels_to, loops, left, named, is_meant, behind_continue, behind_break}

-- so many more
abbrev pub after : ℕ → Option ℕ → Option ℕ
after k None = None
after k (Some n) = Some (n + k)

after_suc : (k : ℕ) (o : Option ℕ) → after k (option_map suc o) ≡ after (k + 1) o
after_suc k None = refl
after_suc k (Some n) = ap Some (omega arith)

pub after_none : (o : Option ℕ) → o ≡ after 0 o
after_none None = refl
after_none (Some n) = ap Some (omega arith)

-- the innermost statement comes first
pub innermost : {A : Type 0} (rest outer : List A) (last : A) → rest ≡ outer ++ last ∷ [] → reverse rest ≡ last ∷ reverse outer
innermost rest outer last is = ap reverse is ∙ reverse-append outer (last ∷ [])

by_test : {A : Type 0} (b c : Bool) (x y : A) → b ≡ c → (if b then x else y) ≡ (if c then x else y)
by_test b c x y e = ap (λ t. if t then x else y) e

pub found : (test : Around → Bool) (levels : ℕ) (rest outer : List Around) (last : Around) (whole : Option ℕ) → rest ≡ outer ++ last ∷ [] → test last ≡ true
    → whole ≡ after levels (levels_to test (reverse rest)) → whole ≡ Some levels
found test levels rest outer last whole is holds so_far =
    so_far ∙ ap (λ l. after levels (levels_to test l)) (innermost rest outer last is)
    ∙ ap (after levels) (by_test (test last) true (Some 0) (option_map suc (levels_to test (reverse outer))) holds) ∙ ap Some (omega arith)

pub farther : (test : Around → Bool) (levels : ℕ) (rest outer : List Around) (last : Around) (whole : Option ℕ) → rest ≡ outer ++ last ∷ [] → test last ≡ false
    → whole ≡ after levels (levels_to test (reverse rest)) → whole ≡ after (levels + 1) (levels_to test (reverse outer))
farther test levels rest outer last whole is fails so_far =
    so_far ∙ ap (λ l. after levels (levels_to test l)) (innermost rest outer last is)
    ∙ ap (after levels) (by_test (test last) false (Some 0) (option_map suc (levels_to test (reverse outer))) fails) ∙ after_suc levels (levels_to test (reverse outer))

pub nowhere : (test : Around → Bool) (levels : ℕ) (rest : List Around) (whole : Option ℕ) → length rest ≡ 0
    → whole ≡ after levels (levels_to test (reverse rest)) → whole ≡ None
nowhere test levels [] whole is so_far = so_far
nowhere test levels (x ∷ rest) whole is so_far = absurd (omega arith)

pub loop_found : (test : Around → Bool) (levels : ℕ) (rest outer : List Around) (last : Around) (whole : Option ℕ) → rest ≡ outer ++ last ∷ [] → last.is_loop ≡ true → test last ≡ true
    → whole ≡ after levels (levels_to test (loops (reverse rest))) → whole ≡ Some levels
loop_found test levels rest outer last whole is loop holds so_far =
    so_far ∙ ap (λ l. after levels (levels_to test (loops l))) (innermost rest outer last is)
    ∙ ap (λ l. after levels (levels_to test l)) (by_test last.is_loop true (last ∷ loops (reverse outer)) (loops (reverse outer)) loop)
    ∙ ap (after levels) (by_test (test last) true (Some 0) (option_map suc (levels_to test (loops (reverse outer)))) holds) ∙ ap Some (omega arith)

pub loop_farther : (test : Around → Bool) (levels : ℕ) (rest outer : List Around) (last : Around) (whole : Option ℕ) → rest ≡ outer ++ last ∷ [] → last.is_loop ≡ true → test last ≡ false
    → whole ≡ after levels (levels_to test (loops (reverse rest))) → whole ≡ after (levels + 1) (levels_to test (loops (reverse outer)))
loop_farther test levels rest outer last whole is loop fails so_far =
    so_far ∙ ap (λ l. after levels (levels_to test (loops l))) (innermost rest outer last is)
    ∙ ap (λ l. after levels (levels_to test l)) (by_test last.is_loop true (last ∷ loops (reverse outer)) (loops (reverse outer)) loop)
    ∙ ap (after levels) (by_test (test last) false (Some 0) (option_map suc (levels_to test (loops (reverse outer)))) fails) ∙ after_suc levels (levels_to test (loops (reverse outer)))

pub no_loop : (test : Around → Bool) (levels : ℕ) (rest outer : List Around) (last : Around) (whole : Option ℕ) → rest ≡ outer ++ last ∷ [] → last.is_loop ≡ false
    → whole ≡ after levels (levels_to test (loops (reverse rest))) → whole ≡ after levels (levels_to test (loops (reverse outer)))
no_loop test levels rest outer last whole is loop so_far =
    so_far ∙ ap (λ l. after levels (levels_to test (loops l))) (innermost rest outer last is)
    ∙ ap (λ l. after levels (levels_to test l)) (by_test last.is_loop false (last ∷ loops (reverse outer)) (loops (reverse outer)) loop)

pub loop_nowhere : (test : Around → Bool) (levels : ℕ) (rest : List Around) (whole : Option ℕ) → length rest ≡ 0
    → whole ≡ after levels (levels_to test (loops (reverse rest))) → whole ≡ None
loop_nowhere test levels [] whole is so_far = so_far
loop_nowhere test levels (x ∷ rest) whole is so_far = absurd (omega arith)

set_end : {A : Type 0} (ys : List A) (k : ℕ) (x v : A) → k ≡ length ys → set (ys ++ x ∷ []) k v ≡ ys ++ v ∷ []
set_end [] zero x v e = refl
set_end [] (suc k) x v e = absurd (omega arith)
set_end (y ∷ ys) zero x v e = absurd (omega arith)
set_end (y ∷ ys) (suc k) x v e = ap (λ l. y ∷ l) (set_end ys k x v (omega arith))

set_front : {A : Type 0} (ys zs : List A) (k : ℕ) (v : A) → k < length ys → set (ys ++ zs) k v ≡ set ys k v ++ zs
set_front [] zs k v e = absurd (omega arith)
set_front (y ∷ ys) zs zero v e = refl
set_front (y ∷ ys) zs (suc k) v e = ap (λ l. y ∷ l) (set_front ys zs k v (omega arith))

reverse_cons : {A : Type 0} (x : A) (xs : List A) → reverse (x ∷ xs) ≡ reverse xs ++ x ∷ []
reverse_cons x xs = reverse-append (x ∷ []) xs

reverse_set : {A : Type 0} (xs : List A) (i k : ℕ) (v : A) → i + k + 1 ≡ length xs → reverse (set xs i v) ≡ set (reverse xs) k v
reverse_set [] i k v e = absurd (omega arith)
reverse_set (x ∷ xs) zero k v e =
    reverse_cons v xs ∙ sym (ap (λ l. set l k v) (reverse_cons x xs) ∙ set_end (reverse xs) k x v (let size = length-reverse xs in omega arith))
reverse_set (x ∷ xs) (suc i) k v e =
    reverse_cons x (set xs i v) ∙ ap (λ l. l ++ x ∷ []) (reverse_set xs i k v (omega arith))
    ∙ sym (ap (λ l. set l k v) (reverse_cons x xs) ∙ set_front (reverse xs) (x ∷ []) k v (let size = length-reverse xs in omega arith))

-- a statement that a break leaves
abbrev pub left_one : Around → Around
left_one around = record around { is_left = true }

option_suc : (o : Option ℕ) (n : ℕ) → option_map suc o ≡ Some n → (m : ℕ) × (n ≡ suc m) × (o ≡ Some m)
option_suc None n h = cc
option_suc (Some m) n h = (m, cc, refl)

left_by : (test : Around → Bool) (x : Around) (l : List Around) (n : ℕ) (d : Around) (b : Bool)
    → ((m : ℕ) → levels_to test l ≡ Some m → left test l ≡ set l m (left_one (get_or l m d)))
    → (if b then Some 0 else option_map suc (levels_to test l)) ≡ Some n
    → (if b then left_one x ∷ l else x ∷ left test l) ≡ set (x ∷ l) n (left_one (get_or (x ∷ l) n d))
left_by test x l n d true more h =
    let e : 0 ≡ n = cc in subst (λ n. left_one x ∷ l ≡ set (x ∷ l) n (left_one (get_or (x ∷ l) n d))) e refl
left_by test x l n d false more h =
    let below = option_suc (levels_to test l) n h in
    subst (λ n. x ∷ left test l ≡ set (x ∷ l) n (left_one (get_or (x ∷ l) n d))) (sym below.1) (ap (λ l. x ∷ l) (more below.0 below.2))

left_at : (test : Around → Bool) (l : List Around) (n : ℕ) (d : Around) → levels_to test l ≡ Some n → left test l ≡ set l n (left_one (get_or l n d))
left_at test [] n d h = cc
left_at test (x ∷ l) n d h = left_by test x l n d (test x) (λ m e. left_at test l m d e) h

pub leaves_it : (test : Around → Bool) (xs : List Around) (levels : ℕ) (d : Around) → levels < length xs → levels_to test (reverse xs) ≡ Some levels
    → reverse (set xs (length xs - 1 - levels) (left_one (get_or xs (length xs - 1 - levels) d))) ≡ left test (reverse xs)
leaves_it test xs levels d less is =
    reverse_set xs (length xs - 1 - levels) levels (left_one (get_or xs (length xs - 1 - levels) d)) (omega arith)
    ∙ ap (λ a. set (reverse xs) levels (left_one a)) (sym (get_or-reverse xs levels d less)) ∙ sym (left_at test (reverse xs) levels d is)

option_none : (o : Option ℕ) → option_map suc o ≡ None → o ≡ None
option_none None h = refl
option_none (Some n) h = cc

left_none_by : (test : Around → Bool) (x : Around) (l : List Around) (b : Bool) → (levels_to test l ≡ None → left test l ≡ l)
    → (if b then Some 0 else option_map suc (levels_to test l)) ≡ None → (if b then left_one x ∷ l else x ∷ left test l) ≡ x ∷ l
left_none_by test x l true more h = cc
left_none_by test x l false more h = ap (λ l. x ∷ l) (more (option_none (levels_to test l) h))

left_none : (test : Around → Bool) (l : List Around) → levels_to test l ≡ None → left test l ≡ l
left_none test [] h = refl
left_none test (x ∷ l) h = left_none_by test x l (test x) (left_none test l) h

map_append : {A B : Type 0} (f : A → B) (xs ys : List A) → map f (xs ++ ys) ≡ map f xs ++ map f ys
map_append f [] ys = refl
map_append f (x ∷ xs) ys = ap (λ l. f x ∷ l) (map_append f xs ys)

map_reverse : {A B : Type 0} (f : A → B) (xs : List A) → reverse (map f xs) ≡ map f (reverse xs)
map_reverse f [] = refl
map_reverse f (x ∷ xs) =
    reverse_cons (f x) (map f xs) ∙ ap (λ l. l ++ f x ∷ []) (map_reverse f xs)
    ∙ sym (ap (map f) (reverse_cons x xs) ∙ map_append f (reverse xs) (x ∷ []))

mapped_step : {A : Type 0} (f : A → A) (xs : List A) (i : ℕ) (d v : A) → i < length xs → v ≡ f (get_or (map f (take i xs) ++ drop i xs) i d)
    → set (map f (take i xs) ++ drop i xs) i v ≡ map f (take (suc i) xs) ++ drop (suc i) xs
mapped_step f [] i d v less is = absurd (omega arith)
mapped_step f (x ∷ xs) zero d v less is = ap (λ y. y ∷ xs) is
mapped_step f (x ∷ xs) (suc i) d v less is = ap (λ l. f x ∷ l) (mapped_step f xs i d v (omega arith) is)

pub mapped_more : {A : Type 0} (f : A → A) (xs zs : List A) (i : ℕ) (d v : A) → zs ≡ map f (take i xs) ++ drop i xs → i < length xs → v ≡ f (get_or zs i d)
    → set zs i v ≡ map f (take (i + 1) xs) ++ drop (i + 1) xs
mapped_more f xs zs i d v e less is =
    rw add-one (ap (λ l. set l i v) e ∙ mapped_step f xs i d v less (is ∙ ap (λ l. f (get_or l i d)) e))

-- what contracts see
abbrev pub seen : List NameId → List Label → List Around → Surroundings
seen declared labels around = record { declared = declared; labels = reverse labels; around = reverse around }

pub after_continue : (declared : List NameId) (labels old new : List Label) (around : List Around) (label : Option NameId)
    → old ≡ labels → new ≡ map (named label) old → seen declared new around ≡ behind_continue label (seen declared labels around)
after_continue declared labels old new around label same is =
    ap (λ l. seen declared l around) (is ∙ ap (map (named label)) same)
    ∙ ap (λ (l : List Label). let s : Surroundings = record { declared = declared; labels = l; around = reverse around } in s) (map_reverse (named label) labels)

pub after_break : (declared : List NameId) (labels old new : List Label) (around left_around : List Around) (label : Option NameId)
    → old ≡ labels → new ≡ map (named label) old → reverse left_around ≡ left (is_meant label) (reverse around)
    → seen declared new left_around ≡ behind_break label (seen declared labels around)
after_break declared labels old new around left_around label same is leaves =
    after_continue declared labels old new left_around label same is
    ∙ ap (λ (l : List Around). let s : Surroundings = record { declared = declared; labels = map (named label) (reverse labels); around = l } in s) leaves

pub after_no_break : (declared : List NameId) (labels old new : List Label) (around : List Around) (label : Option NameId)
    → old ≡ labels → new ≡ map (named label) old → levels_to (is_meant label) (reverse around) ≡ None
    → seen declared new around ≡ behind_break label (seen declared labels around)
after_no_break declared labels old new around label same is none =
    after_break declared labels old new around around label same is (sym (left_none (is_meant label) (reverse around) none))
