-- One turn of a loop, and what the definition of the loop reads in it.
use Rattle.std.proofs.Common.{◌≡◌, ℕ, zero, suc, ◌-◌, ◌+◌, ◌≤◌, ◌<◌, Bool, true, false, List, [], ◌∷◌, ◌++◌, Option, Some, None, refl, sym, ap, ◌∙◌, arith}
use Rattle.go_ast.specs.declared.token.Token.{Token}
use Rattle.go_grammar.specs.Forests.{Forest, empty, append}
use Rattle.go_grammar.specs.Reading.{Reader, ◌>>=◌, many_in}
use Rattle.go_grammar.specs.ExprReading.{Turn, Done, On, repeat}
use Rattle.go_grammar.specs.View.{each}
use Rattle.go_grammar.proofs.Forests.{append-empty, append-assoc}
use Rattle.go_fragments.specs.declared.stop.Stop.{Stop}
use Rattle.go_fragments.specs.declared.stop.Stop.TheVariants as stops
use Rattle.go_fragments.specs.Giving.{Fails}

left_by_one : (end i : ℕ) → i < end → end - i ≡ suc (end - (i + 1))
left_by_one end i lt = omega arith

none_left : (end i : ℕ) → end ≤ i → end - i ≡ 0
none_left end i le = omega arith

-- ---- loops that go on from a tree to a longer one

pub repeat_on : {S : Type 0} (turn : S → Option (Turn S)) (end i : ℕ) (s t : S) (total : Option S) → i < end → turn s ≡ Some (On t) → repeat turn (end - i) s ≡ total → repeat turn (end - (i + 1)) t ≡ total
repeat_on turn end i s t total lt h so_far =
    let step : repeat turn (end - i) s ≡ repeat turn (end - (i + 1)) t = rw (left_by_one end i lt, h) refl in
    sym step ∙ so_far

pub repeat_done : {S : Type 0} (turn : S → Option (Turn S)) (end i : ℕ) (s t : S) (total : Option S) → i < end → turn s ≡ Some (Done t) → repeat turn (end - i) s ≡ total → total ≡ Some t
repeat_done turn end i s t total lt h so_far =
    let step : repeat turn (end - i) s ≡ Some t = rw (left_by_one end i lt, h) refl in
    sym so_far ∙ step

pub repeat_fails : {S : Type 0} (turn : S → Option (Turn S)) (stop : Stop) (end i : ℕ) (s : S) (total : Option S) → i < end → Fails stop (turn s) → repeat turn (end - i) s ≡ total → Fails stop total
repeat_fails turn stops.Memory end i s total lt h so_far = tt
repeat_fails turn stops.Unexpected end i s total lt h so_far =
    let step : repeat turn (end - i) s ≡ None = rw (left_by_one end i lt, h) refl in
    sym so_far ∙ step

pub repeat_over : {S : Type 0} (turn : S → Option (Turn S)) (end i : ℕ) (s : S) (total : Option S) → end ≤ i → repeat turn (end - i) s ≡ total → total ≡ Some s
repeat_over turn end i s total le so_far =
    let step : repeat turn (end - i) s ≡ Some s = rw (none_left end i le) refl in
    sym so_far ∙ step

pub ruleset repeats = (repeat_on, repeat_done, repeat_fails, repeat_over)

-- ---- loops that collect items

-- what was read before, with what is read behind it
abbrev pub behind : Forest → Option (Forest × List Token) → Option (Forest × List Token)
behind front read = read >>= λ x. Some (append front x.0, x.1)

pub behind_empty : (read : Option (Forest × List Token)) → behind empty read ≡ read
behind_empty None = refl
behind_empty (Some x) = refl

pub behind_both : (front x : Forest) (read : Option (Forest × List Token)) → behind front (behind x read) ≡ behind (append front x) read
behind_both front x None = refl
behind_both front x (Some y) = ap (λ (tree : Forest). Some (tree, y.1)) (sym (append-assoc front x y.0))

-- one more item at the end
pub each_push : {A : Type 0} (view : A → Forest) (xs : List A) (x : A) → each view (xs ++ x ∷ []) ≡ append (each view xs) (view x)
each_push view [] x = append-empty (view x)
each_push view (y ∷ ys) x = ap (append (view y)) (each_push view ys x) ∙ sym (append-assoc (view y) (each view ys) (view x))

module _ (test : List Token → Bool) (item : Reader) where
  -- at the start nothing was read
  pub many_start : (n i : ℕ) (front : Forest) (tokens : List Token) → i ≡ 0 → front ≡ empty → behind front (many_in test item (n - i) tokens) ≡ many_in test item n tokens
  many_start n i front tokens e f =
      let k : n - i ≡ n = omega arith in
      rw (f, k) (behind_empty (many_in test item n tokens))

  -- an item was read
  pub many_on : (end i : ℕ) (front longer x : Forest) (tokens rest : List Token) (total : Option (Forest × List Token)) → i < end → test tokens ≡ true → item tokens ≡ Some (x, rest) → longer ≡ append front x
      → behind front (many_in test item (end - i) tokens) ≡ total → behind longer (many_in test item (end - (i + 1)) rest) ≡ total
  many_on end i front longer x tokens rest total lt h g f so_far =
      let step : many_in test item (end - i) tokens ≡ behind x (many_in test item (end - (i + 1)) rest) = rw (left_by_one end i lt, h, g) refl in
      rw f (sym (ap (behind front) step ∙ behind_both front x (many_in test item (end - (i + 1)) rest)) ∙ so_far)

  -- no item follows
  pub many_done : (n : ℕ) (front : Forest) (tokens : List Token) (total : Option (Forest × List Token)) → test tokens ≡ false → behind front (many_in test item n tokens) ≡ total → total ≡ Some (front, tokens)
  many_done n front tokens total h so_far = sym so_far ∙ ap (behind front) (stops n) ∙ ap (λ (tree : Forest). Some (tree, tokens)) (append-empty front)
    where
      stops : (k : ℕ) → many_in test item k tokens ≡ Some (empty, tokens)
      stops zero = refl
      stops (suc k) = rw h refl

  -- no turn is left
  pub many_over : (end i : ℕ) (front : Forest) (tokens : List Token) (total : Option (Forest × List Token)) → end ≤ i → behind front (many_in test item (end - i) tokens) ≡ total → total ≡ Some (front, tokens)
  many_over end i front tokens total le so_far =
      let step : many_in test item (end - i) tokens ≡ Some (empty, tokens) = rw (none_left end i le) refl in
      sym so_far ∙ ap (behind front) step ∙ ap (λ (tree : Forest). Some (tree, tokens)) (append-empty front)

  -- an item is no item
  pub many_fails : (stop : Stop) (end i : ℕ) (front : Forest) (tokens : List Token) (total : Option (Forest × List Token)) → i < end → test tokens ≡ true → Fails stop (item tokens)
      → behind front (many_in test item (end - i) tokens) ≡ total → Fails stop total
  many_fails stops.Memory end i front tokens total lt h g so_far = tt
  many_fails stops.Unexpected end i front tokens total lt h g so_far =
      let step : many_in test item (end - i) tokens ≡ None = rw (left_by_one end i lt, h, g) refl in
      sym so_far ∙ ap (behind front) step

-- a list of items, of which the last stands in the front alone
pub list_done : {A : Type 0} (view : A → Forest) (xs items : List A) (x : A) (test : List Token → Bool) (item : Reader) (n : ℕ) (front : Forest) (tokens : List Token) (total : Option (Forest × List Token))
    → test tokens ≡ false → items ≡ xs ++ x ∷ [] → front ≡ append (each view xs) (view x) → behind front (many_in test item n tokens) ≡ total → total ≡ Some (each view items, tokens)
list_done view xs items x test item n front tokens total h e f so_far =
    let whole : each view items ≡ front = ap (each view) e ∙ each_push view xs x ∙ sym f in
    many_done test item n front tokens total h so_far ∙ ap (λ (tree : Forest). Some (tree, tokens)) (sym whole)

pub list_over : {A : Type 0} (view : A → Forest) (xs items : List A) (x : A) (test : List Token → Bool) (item : Reader) (end i : ℕ) (front : Forest) (tokens : List Token) (total : Option (Forest × List Token))
    → end ≤ i → items ≡ xs ++ x ∷ [] → front ≡ append (each view xs) (view x) → behind front (many_in test item (end - i) tokens) ≡ total → total ≡ Some (each view items, tokens)
list_over view xs items x test item end i front tokens total le e f so_far =
    let whole : each view items ≡ front = ap (each view) e ∙ each_push view xs x ∙ sym f in
    many_over test item end i front tokens total le so_far ∙ ap (λ (tree : Forest). Some (tree, tokens)) (sym whole)

pub list_on : {A : Type 0} (view : A → Forest) (xs items : List A) (x : A) (front longer alone comma next : Forest) → items ≡ xs ++ x ∷ [] → view x ≡ append alone comma → front ≡ append (each view xs) alone → longer ≡ append (each view items) next → longer ≡ append front (append comma next)
list_on view xs items x front longer alone comma next e v f l =
    let whole : each view items ≡ append front comma = ap (each view) e ∙ each_push view xs x ∙ ap (append (each view xs)) v ∙ sym (append-assoc (each view xs) alone comma) ∙ ap (λ (tree : Forest). append tree comma) (sym f) in
    l ∙ ap (λ (tree : Forest). append tree next) whole ∙ append-assoc front comma next

pub ruleset manies = (many_done, many_over, many_fails, each_push)
