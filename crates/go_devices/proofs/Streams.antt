-- Reads and writes, one after another.
use Rattle.std.proofs.Common.{◌≡◌, ℕ, ◌<◌, List, [], ◌++◌, length, take, drop, Option, None, Some, IfSome, refl, sym, ap, ◌∙◌, append_assoc, append-nil, take-append-drop, length-append, arith, ◌-◌}
use Rattle.std.proofs.lemmas.List.{take_rest}
use Rattle.std.specs.Io.KnownBytes.{Appends, Consumes, IsAtEnd, Keeps}
use Rattle.go_base.specs.Devices.{AppendsFront}

-- of the text all but the rest was appended
pub record Wrote (old now : Option (List ℕ)) (text rest : List ℕ) : Type 0 where
  pub front : List ℕ
  pub parts : text ≡ front ++ rest
  pub appends : Appends old now front

Appends-nil : (a : Option (List ℕ)) → Appends a a []
Appends-nil None = tt
Appends-nil (Some x) = sym (append-nil x)

Appends-trans : (a b c : Option (List ℕ)) (bs cs : List ℕ) → Appends a b bs → Appends b c cs → Appends a c (bs ++ cs)
Appends-trans None b c bs cs p q = tt
Appends-trans (Some x) None c bs cs p q = absurd p
Appends-trans (Some x) (Some y) None bs cs p q = absurd q
Appends-trans (Some x) (Some y) (Some z) bs cs p q = q ∙ ap (λ l. l ++ cs) p ∙ append_assoc x bs cs

Appends-kept : (a b c : Option (List ℕ)) (bs : List ℕ) → Appends a b bs → Keeps b c → Appends a c bs
Appends-kept None b c bs p q = tt
Appends-kept (Some x) None c bs p q = absurd p
Appends-kept (Some x) (Some y) None bs p q = absurd q
Appends-kept (Some x) (Some y) (Some z) bs p q = q ∙ p

pub wrote_none : (a : Option (List ℕ)) (text : List ℕ) → Wrote a a text text
wrote_none a text = record { front = []; parts = refl; appends = Appends-nil a }

pub wrote_more : (a b c : Option (List ℕ)) (text rest : List ℕ) (n : ℕ) → Wrote a b text rest → Appends b c (take n rest)
    → Wrote a c text (take (length rest - n) (drop n rest))
wrote_more a b c text rest n w more = record {
  front = w.front ++ take n rest;
  parts = w.parts ∙ ap (λ l. w.front ++ l) (sym (take-append-drop n rest)) ∙ sym (append_assoc w.front (take n rest) (drop n rest))
      ∙ ap (λ l. (w.front ++ take n rest) ++ l) (sym (take_rest rest n));
  appends = Appends-trans a b c w.front (take n rest) w.appends more;
}

pub wrote_kept : (a b c : Option (List ℕ)) (text rest : List ℕ) → Wrote a b text rest → Keeps b c → Wrote a c text rest
wrote_kept a b c text rest w same = record { front = w.front; parts = w.parts; appends = Appends-kept a b c w.front w.appends same }

pub wrote_all : (a b : Option (List ℕ)) (text rest : List ℕ) → Wrote a b text rest → rest ≡ [] → Appends a b text
wrote_all a b text rest w none = rw (w.parts, none, append-nil) w.appends

pub wrote_front : (a b : Option (List ℕ)) (text rest : List ℕ) → Wrote a b text rest → AppendsFront a b text
wrote_front a b text rest w = record { front = w.front; rest = rest; parts = w.parts; appends = w.appends }

pub Consumes-nil : (a : Option (List ℕ)) → Consumes a a []
Consumes-nil None = tt
Consumes-nil (Some x) = refl

pub Consumes-trans : (a b c : Option (List ℕ)) (bs cs : List ℕ) → Consumes a b bs → Consumes b c cs → Consumes a c (bs ++ cs)
Consumes-trans None b c bs cs p q = tt
Consumes-trans (Some x) None c bs cs p q = absurd p
Consumes-trans (Some x) (Some y) None bs cs p q = absurd q
Consumes-trans (Some x) (Some y) (Some z) bs cs p q = p ∙ ap (λ l. bs ++ l) q ∙ sym (append_assoc bs cs z)

pub Consumes-kept : (a b c : Option (List ℕ)) (bs : List ℕ) → Consumes a b bs → Keeps b c → Consumes a c bs
Consumes-kept None b c bs p q = tt
Consumes-kept (Some x) None c bs p q = absurd p
Consumes-kept (Some x) (Some y) None bs p q = absurd q
Consumes-kept (Some x) (Some y) (Some z) bs p q = p ∙ ap (λ l. bs ++ l) (sym q)

-- a reader that is at its end gave all that it had
pub read_whole : (a b : Option (List ℕ)) (bs : List ℕ) → Consumes a b bs → IsAtEnd b → IfSome a (λ rest. bs ≡ rest)
read_whole None b bs p e = tt
read_whole (Some x) None bs p e = absurd p
read_whole (Some x) (Some y) bs p e = sym (p ∙ ap (λ l. bs ++ l) e ∙ append-nil bs)

longer : (x y : List ℕ) (limit : ℕ) (bs : List ℕ) → x ≡ bs ++ y → limit < length bs → limit < length x
longer x y limit bs p h = omega (arith, simp length-append at (ap length p))

-- a reader has at least what it gave
pub read_more : (a b : Option (List ℕ)) (limit : ℕ) (bs : List ℕ) → Consumes a b bs → limit < length bs → IfSome a (λ rest. limit < length rest)
read_more None b limit bs p h = tt
read_more (Some x) None limit bs p h = absurd p
read_more (Some x) (Some y) limit bs p h = longer x y limit bs p h
