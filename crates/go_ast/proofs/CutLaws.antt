-- Bytes have at most one cut, and one first fault, and not both.
use Rattle.std.proofs.Common.{◌≡◌, ℕ, ◌+◌, ◌-◌, ◌≤◌, Option, Some, None, List, [], ◌∷◌, ◌++◌, length, take, drop, refl, ap, sym, ◌∙◌, subst, arith, ⊎_elim}
use Rattle.std.proofs.Math.Seq.{take-append_seam}
use Rattle.go_base.specs.declared.rule.Rule.{Rule}
use Rattle.go_ast.specs.declared.token.Token.{Token}
use Rattle.go_ast.specs.Pieces.{fault_of, Fault}
use Rattle.go_ast.specs.Lexical.{IsLongest, AreCut, IsFaultOf, IsFault, IsTokenList, IsCutInto, mark_width, start_of, tokens_from}

take-front : (piece other rest bytes : List ℕ) → bytes ≡ piece ++ rest → length other ≡ length piece → take (length other) bytes ≡ piece
take-front piece other rest bytes whole size = ap (λ n. take n bytes) size ∙ ap (take (length piece)) whole ∙ take-append_seam piece rest

-- the longest piece of a place is one
pub longest-same : (bytes p q : List ℕ) → IsLongest bytes p → IsLongest bytes q → p ≡ q
longest-same bytes p q a b =
    let pq : length p ≤ length q = b.longest p (drop (length p) bytes) a.one a.begins in
    let qp : length q ≤ length p = a.longest q (drop (length q) bytes) b.one b.begins in
    sym (take-front p p (drop (length p) bytes) bytes a.begins refl) ∙ take-front q p (drop (length q) bytes) bytes b.begins (omega arith)

no_piece : {A : Type 0} (piece : List ℕ) → IsLongest [] piece → A
no_piece [] a = absurd cc
no_piece (byte ∷ piece) a = absurd cc

-- where one cut ends, another goes on no further
cut-end : (bytes piece : List ℕ) → bytes ≡ [] → IsLongest bytes piece → ⊥
cut-end bytes piece e a = no_piece piece (subst (λ b. IsLongest b piece) e a)

pub cut-same : (bytes : List ℕ) (ps qs : List (List ℕ)) → AreCut bytes ps [] → AreCut bytes qs [] → ps ≡ qs
cut-same bytes [] [] a b = refl
cut-same bytes [] (q ∷ qs) a b = absurd (cut-end bytes q a b.0)
cut-same bytes (p ∷ ps) [] a b = absurd (cut-end bytes p b a.0)
cut-same bytes (p ∷ ps) (q ∷ qs) a b =
    let same : p ≡ q = longest-same bytes p q a.0 b.0 in
    let more : ps ≡ qs = cut-same (drop (length p) bytes) ps qs a.2 (subst (λ r. AreCut (drop (length r) bytes) qs []) (sym same) b.2) in
    ap (λ r. r ∷ ps) same ∙ ap (λ rs. q ∷ rs) more

none_some : {A : Type 0} (x : Option Fault) (fault : Fault) → x ≡ None → x ≡ Some fault → A
none_some x fault e f = absurd cc

-- a piece without a fault begins no place of a fault
sound_place : (bytes piece : List ℕ) (fault : Fault) → IsLongest bytes piece → fault_of piece ≡ None → IsFaultOf bytes fault → ⊥
sound_place bytes piece fault a sound breaks =
    ⊎_elim
    (λ broken. none_some (fault_of piece) fault sound (ap fault_of (longest-same bytes piece broken.0 a broken.1) ∙ broken.2))
    (λ none. none.0 piece (drop (length piece) bytes) a.one a.begins)
    breaks

some_same : (x : Option Fault) (f g : Fault) → x ≡ Some f → x ≡ Some g → f ≡ g
some_same x f g e h = cc

place_same : (bytes : List ℕ) (f g : Fault) → IsFaultOf bytes f → IsFaultOf bytes g → f ≡ g
place_same bytes f g a b =
    ⊎_elim
    (λ p. ⊎_elim
    (λ q. some_same (fault_of p.0) f g p.2 (ap fault_of (longest-same bytes p.0 q.0 p.1 q.1) ∙ q.2))
    (λ none. absurd (none.0 p.0 (drop (length p.0) bytes) p.1.one p.1.begins))
    b)
    (λ none. ⊎_elim
    (λ q. absurd (none.0 q.0 (drop (length q.0) bytes) q.1.one q.1.begins))
    (λ other. none.1 ∙ sym other.1)
    b)
    a

-- two ways to the first fault
pub record AreSame (r s : List ℕ) (f g : Fault) : Type 0 where
  pub rests : r ≡ s
  pub faults : f ≡ g

pub fault-same : (bytes : List ℕ) (ps qs : List (List ℕ)) (r s : List ℕ) (f g : Fault) → AreCut bytes ps r → AreCut bytes qs s → IsFaultOf r f → IsFaultOf s g → AreSame r s f g
fault-same bytes [] [] r s f g a b h k =
    let same : r ≡ s = sym a ∙ b in
    record { rests = same; faults = place_same s f g (subst (λ x. IsFaultOf x f) same h) k }
fault-same bytes [] (q ∷ qs) r s f g a b h k = absurd (sound_place bytes q f b.0 b.1 (subst (λ x. IsFaultOf x f) (sym a) h))
fault-same bytes (p ∷ ps) [] r s f g a b h k = absurd (sound_place bytes p g a.0 a.1 (subst (λ x. IsFaultOf x g) (sym b) k))
fault-same bytes (p ∷ ps) (q ∷ qs) r s f g a b h k =
    let same : p ≡ q = longest-same bytes p q a.0 b.0 in
    fault-same (drop (length p) bytes) ps qs r s f g a.2 (subst (λ x. AreCut (drop (length x) bytes) qs s) (sym same) b.2) h k

-- an end is no place of a fault
end_place : (bytes : List ℕ) (fault : Fault) → bytes ≡ [] → IsFaultOf bytes fault → ⊥
end_place bytes fault e breaks =
    ⊎_elim
    (λ broken. cut-end bytes broken.0 e broken.1)
    (λ none. omega (arith, none.2, ap length e))
    breaks

pub fault-none : (bytes : List ℕ) (ps qs : List (List ℕ)) (r : List ℕ) (f : Fault) → AreCut bytes ps [] → AreCut bytes qs r → IsFaultOf r f → ⊥
fault-none bytes [] [] r f a b h = end_place r f (sym b ∙ a) h
fault-none bytes [] (q ∷ qs) r f a b h = cut-end bytes q a b.0
fault-none bytes (p ∷ ps) [] r f a b h = sound_place bytes p f a.0 a.1 (subst (λ x. IsFaultOf x f) (sym b) h)
fault-none bytes (p ∷ ps) (q ∷ qs) r f a b h =
    let same : p ≡ q = longest-same bytes p q a.0 b.0 in
    fault-none (drop (length p) bytes) ps qs r f a.2 (subst (λ x. AreCut (drop (length x) bytes) qs r) (sym same) b.2) h

-- ---- the laws

pub one-cut : (bytes : List ℕ) (ps qs : List (List ℕ)) → IsCutInto bytes ps → IsCutInto bytes qs → ps ≡ qs
one-cut bytes ps qs a b = cut-same (drop (mark_width bytes) bytes) ps qs a b

pub one-token-list : (bytes : List ℕ) (a b : List Token) → IsTokenList bytes a → IsTokenList bytes b → a ≡ b
one-token-list bytes a b h k =
    h.tokens_are ∙ ap (tokens_from (start_of bytes)) (cut-same (drop (mark_width bytes) bytes) h.pieces k.pieces h.cut k.cut) ∙ sym k.tokens_are

pub one-fault : (bytes : List ℕ) (i j : ℕ) (r s : Rule) → IsFault bytes i r → IsFault bytes j s → (i ≡ j) × (r ≡ s)
one-fault bytes i j r s h k =
    let same = fault-same (drop (mark_width bytes) bytes) h.pieces k.pieces h.rest k.rest h.fault k.fault h.cut k.cut h.breaks k.breaks in (
      h.offset_is ∙ ap (λ x. length bytes - length x + h.fault.at) same.rests ∙ ap (λ f. length bytes - length k.rest + f.at) same.faults ∙ sym k.offset_is,
      h.rule_is ∙ ap (λ f. f.rule) same.faults ∙ sym k.rule_is,
    )

pub cut-or-fault : (bytes : List ℕ) (tokens : List Token) (i : ℕ) (r : Rule) → IsTokenList bytes tokens → IsFault bytes i r → ⊥
cut-or-fault bytes tokens i r h k = fault-none (drop (mark_width bytes) bytes) h.pieces k.pieces k.rest k.fault h.cut k.cut k.breaks
