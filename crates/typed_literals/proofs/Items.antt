-- What becomes of the elements of arrays and slices.
use Rattle.std.proofs.Common.{◌≡◌, ℕ, refl, sym, ap, ◌∙◌, subst, List, [], ◌∷◌, ◌++◌, Bool, true, false}
use Rattle.std.proofs.Common.{Option, Some, None, Result, Ok, Err}
use Rattle.std.specs.Option.{option_and_then, option_map, option_zip}
use Rattle.std.specs.Prelude.{if◌then◌else◌, unwrap_or, IfOk}
use Rattle.std.specs.Global.{Vec}
use Rattle.go_base.specs.declared.ids.TypeId.{TypeId}
use Rattle.go_base.specs.declared.memory.NoMemory.{NoMemory}
use Rattle.go_base.specs.declared.place.Pos.{Pos}
use Rattle.go_base.specs.declared.rule.Rule.TheVariants.{BadCompositeLiteral, BadIndex}
use Rattle.go_tree.specs.declared.exprs.ItemInit.{ItemInit}
use Rattle.go_tree.specs.declared.exprs.TypedExpr.{TypedExpr}
use Rattle.go_type.specs.Table.{Table}
use Rattle.typed_parts.specs.declared.ground.Ground.{Ground}
use Rattle.typed_parts.specs.declared.meaning.Given.{Given}
use Rattle.typed_parts.specs.declared.meaning.Seen.{Seen}
use Rattle.typed_parts.specs.Adapting.{IsAssignedTo}
use Rattle.typed_parts.specs.Joining.{beside, both, items_of, with_last}
use Rattle.typed_parts.specs.Judged.{Comes, Judged, Outcome, breaks, fine, reported}
use Rattle.typed_parts.specs.Meanings.{one_value}
use Rattle.typed_parts.proofs.Steps.{came, nothing_came}
use Rattle.typed_parts.proofs.Turns.{first_came, outcome_of, second_stays}
use Rattle.typed_literals.specs.declared.arrays.Row.{Row}
use Rattle.typed_literals.specs.declared.composing.Entry.{Entry}
use Rattle.typed_literals.specs.Arrays.{AreItems, Freed, Frees, HasMet, IsIndexKey, IsIndexOf, IsItem, IsLonger}
use Rattle.typed_literals.specs.Arrays.{counted_items, free_at, index_in, is_past, is_taken}
use Rattle.typed_literals.specs.Arrays.{item, item_of, length_for, longer, with_length}
use Rattle.typed_literals.specs.InOrder.{Taught}
use Rattle.typed_literals.proofs.Gathering.{KnownSoFar, fold_more, known_more, reports_more, same_types}

-- ---- the index of an element

pub next_index : (old : Ground) (key : Option Seen) (next : Option ℕ) → key ≡ None
    → Comes old old (came next) (IsIndexOf old.types key next)
next_index old key next e =
    subst (λ (o : Option Seen). Comes old old (came next) (IsIndexOf old.types o next)) (sym e)
    (record { judged = record { sound = next; broken = [] }; is = refl; answers = refl; reports = refl })

index_by : (old mid : Ground) (key : Option Seen) (part : Seen) (next : Option ℕ) (o : Option TypedExpr) (answer : Option ℕ)
    → key ≡ Some part → Outcome old mid o (IsIndexKey old.types part) → answer ≡ option_and_then index_in o
    → Comes old mid (came answer) (IsIndexOf old.types key next)
index_by old mid key part next o answer e h a =
    subst (λ (k : Option Seen). Comes old mid (came answer) (IsIndexOf old.types k next)) (sym e)
    (record {
      judged = record { sound = option_and_then index_in h.judged.sound; broken = h.judged.broken };
      is = (h.judged, (h.is, refl));
      answers = a ∙ ap (option_and_then index_in) h.answers;
      reports = h.reports;
    })

pub key_index : (old mid : Ground) (key : Option Seen) (part : Seen) (next : Option ℕ) (o : Option TypedExpr) (whole : TypedExpr)
    (result : Result (Option ℕ) NoMemory) → key ≡ Some part → Outcome old mid o (IsIndexKey old.types part) → o ≡ Some whole
    → IfOk result (λ (index : Option ℕ). index ≡ index_in whole) → Comes old mid result (IsIndexOf old.types key next)
key_index old mid key part next o whole (Err error) e h is i = tt
key_index old mid key part next o whole (Ok answer) e h is i =
    index_by old mid key part next o answer e h (i ∙ ap (option_and_then index_in) (sym is))

pub key_unsound : (old mid : Ground) (key : Option Seen) (part : Seen) (next : Option ℕ) (o : Option TypedExpr) → key ≡ Some part
    → Outcome old mid o (IsIndexKey old.types part) → o ≡ None → Comes old mid (nothing_came {A = ℕ}) (IsIndexOf old.types key next)
key_unsound old mid key part next o e h is =
    index_by old mid key part next o None e h (ap (option_and_then index_in) (sym is))

-- ---- an element

abbrev free_by : Pos → ℕ → Bool → Bool → Judged ℕ
free_by at index past taken =
    if past then breaks at BadIndex
    else if taken then breaks at BadCompositeLiteral
    else fine index

free_is : (at : Pos) (limit : Option ℕ) (before : List (Option ℕ)) (known : Option ℕ) (index : ℕ)
    → (free_at at limit before known).sound ≡ Some index → known ≡ Some index
free_is at limit before None index e = cc
free_is at limit before (Some known) index e = by_tests (is_past known limit) (is_taken before known) e
  where
    by_tests : (past taken : Bool) → (free_by at known past taken).sound ≡ Some index → Some known ≡ Some index
    by_tests true taken e = cc
    by_tests false true e = cc
    by_tests false false e = e

longer_by : (at : Pos) (limit : Option ℕ) (before : List (Option ℕ)) (known free : Option ℕ) (value : Option TypedExpr)
    (answer : Option ItemInit) (old new : ℕ) → free ≡ (free_at at limit before known).sound → answer ≡ item_of free value
    → new ≡ longer free old → IsLonger known (came answer) old new
longer_by at limit before known None value answer old new f a l =
    subst (λ (o : Option ItemInit). IsLonger known (came o) old new) (sym a) tt
longer_by at limit before known (Some index) None answer old new f a l =
    subst (λ (o : Option ItemInit). IsLonger known (came o) old new) (sym a) tt
longer_by at limit before known (Some index) (Some value) answer old new f a l =
    subst (λ (o : Option ItemInit). IsLonger known (came o) old new) (sym a)
    (l ∙ ap (λ (o : Option ℕ). longer o old) (sym (free_is at limit before known index (sym f))))

abbrev pub IsMet : Option ℕ → List (Option ℕ) → Row → Row → Option ItemInit → Option ℕ → Type 0
IsMet limit before row new answer known = HasMet limit (before ++ known ∷ []) new × IsLonger known (came answer) row.len new.len

item_made : (old one two three last : Ground) (elem : TypeId) (element : Entry) (limit : Option ℕ) (before : List (Option ℕ))
    (row new : Row) (index : Option ℕ) (given : Option Given) (free : Option ℕ) (value : Option TypedExpr) (answer : Option ItemInit)
    → HasMet limit before row → Outcome old one index (IsIndexOf old.types element.key row.next)
    → given ≡ (one_value one.types element.value).sound → two ≡ reported one (one_value one.types element.value).broken
    → Freed two three element.at limit before index row.len new free
    → Outcome three last value (IsAssignedTo three.types given (Some elem)) → answer ≡ item_of free value
    → Taught old last answer (IsItem old.types elem limit before element) (IsMet limit before row new answer)
item_made old one two three last elem element limit before row new index given free value answer met h g r f v a =
    let types = old.types in
    let seen = one_value types element.value in
    let apart = free_at element.at limit before index in
    let first = same_types old one h.judged.broken h.reports in
    let given_is : given ≡ seen.sound = g ∙ ap (λ (t : Table). (one_value t element.value).sound) first in
    let second : two ≡ reported old (h.judged.broken ++ seen.broken) =
    reports_more old one two h.judged.broken seen.broken (h.judged.broken ++ seen.broken) h.reports
    (r ∙ ap (λ (t : Table). reported one (one_value t element.value).broken) first) refl in
    let third : three ≡ reported old ((h.judged.broken ++ seen.broken) ++ apart.broken) =
    reports_more old two three (h.judged.broken ++ seen.broken) apart.broken ((h.judged.broken ++ seen.broken) ++ apart.broken) second f.reports refl in
    let same : three.types ≡ types = same_types old three ((h.judged.broken ++ seen.broken) ++ apart.broken) third in
    record {
      known = index;
      judged = item h.judged seen apart v.judged;
      is = record {
        index = h.judged;
        value = v.judged;
        is_index = subst (λ (next : Option ℕ). IsIndexOf types element.key next h.judged) met.next h.is;
        knows = h.answers;
        is_value = subst (λ (o : Option Given). IsAssignedTo types o (Some elem) v.judged) given_is
            (subst (λ (t : Table). IsAssignedTo t given (Some elem) v.judged) same v.is);
        whole = refl;
      };
      knows = (f.met, longer_by element.at limit before index free value answer row.len new.len f.answers a f.len_is);
      answers = a ∙ (ap (λ (o : Option ℕ). item_of o value) f.answers ∙ ap (item_of apart.sound) v.answers);
      reports = reports_more old three last ((h.judged.broken ++ seen.broken) ++ apart.broken) v.judged.broken
          (((h.judged.broken ++ seen.broken) ++ apart.broken) ++ v.judged.broken) third v.reports refl;
    }

abbrev pub item_in : ℕ × TypedExpr → ItemInit
item_in (index, value) = record { index = index; value = value }

item_zip : (free : Option ℕ) (value : Option TypedExpr) → option_map item_in (option_zip free value) ≡ item_of free value
item_zip (Some index) (Some value) = refl
item_zip (Some index) None = refl
item_zip None value = refl

freed_came : (old new : Ground) (at : Pos) (limit : Option ℕ) (before : List (Option ℕ)) (known : Option ℕ) (len : ℕ) (row : Row)
    (result : Result (Option ℕ) NoMemory) (free : Option ℕ) → result ≡ Ok free → Frees old new at limit before known len row result
    → Freed old new at limit before known len row free
freed_came old new at limit before known len row result free e h =
    subst (λ (r : Result (Option ℕ) NoMemory). Frees old new at limit before known len row r) e h

-- an element of what came
pub item_came : (old one two three last : Ground) (elem : TypeId) (element : Entry) (limit : Option ℕ) (before : List (Option ℕ))
    (row new : Row) (came_index : Result (Option ℕ) NoMemory) (index : Option ℕ) (part : Seen) (given seen : Option Given)
    (came_free : Result (Option ℕ) NoMemory) (free : Option ℕ) (came_value : Result (Option TypedExpr) NoMemory)
    (pair : Option (ℕ × TypedExpr)) (answer : Option ItemInit)
    → HasMet limit before row → Comes old one came_index (IsIndexOf old.types element.key row.next)
    → beside came_index element.value ≡ Ok (index, part)
    → given ≡ (one_value one.types part).sound → two ≡ reported one (one_value one.types part).broken
    → Frees two three element.at limit before index row.len new came_free → beside came_free given ≡ Ok (free, seen)
    → Comes three last came_value (IsAssignedTo three.types seen (Some elem)) → both (Ok free) came_value ≡ Ok pair
    → answer ≡ option_map item_in pair
    → Taught old last answer (IsItem old.types elem limit before element) (IsMet limit before row new answer)
item_came old one two three last elem element limit before row new came_index index part given seen came_free free (Err error) pair answer met h b g r f c v p a = cc
item_came old one two three last elem element limit before row new came_index index part given seen came_free free (Ok value) pair answer met h b g r f c v p a =
    let same : part ≡ element.value = sym (second_stays index part came_index element.value b) in
    let zipped : option_zip free value ≡ pair = cc in
    item_made old one two three last elem element limit before row new index given free value answer met
    (outcome_of old one (IsIndexOf old.types element.key row.next) came_index index (first_came index part came_index element.value b) h)
    (g ∙ ap (λ (x : Seen). (one_value one.types x).sound) same) (r ∙ ap (λ (x : Seen). reported one (one_value one.types x).broken) same)
    (freed_came two three element.at limit before index row.len new came_free free (first_came free seen came_free given c) f)
    (subst (λ (o : Option Given). Outcome three last value (IsAssignedTo three.types o (Some elem))) (sym (second_stays free seen came_free given c)) v)
    (a ∙ (ap (option_map item_in) (sym zipped) ∙ item_zip free value))

-- ---- elements

abbrev HasLength : Option (List ItemInit) → List (Option ℕ) → ℕ → Type 0
HasLength (Some items) known len = len ≡ length_for known
HasLength None known len = Unit {0}

-- what is known of elements so far, and the length where all are sound
pub record IsRowSoFar (limit : Option ℕ) (made : Option (List ItemInit)) (row : Row) (known : List (Option ℕ)) : Type 0 where
  pub met : HasMet limit known row
  pub len : HasLength made known row.len

length_more : (made more : Option (List ItemInit)) (answer : Option ItemInit) (before : List (Option ℕ)) (known : Option ℕ) (old new : ℕ)
    → more ≡ with_last made answer → HasLength made before old → IsLonger known (came answer) old new
    → HasLength more (before ++ known ∷ []) new
length_more None more answer before known old new e h l =
    subst (λ (o : Option (List ItemInit)). HasLength o (before ++ known ∷ []) new) (sym e) tt
length_more (Some items) more None before known old new e h l =
    subst (λ (o : Option (List ItemInit)). HasLength o (before ++ known ∷ []) new) (sym e) tt
length_more (Some items) more (Some one) before known old new e h l =
    subst (λ (o : Option (List ItemInit)). HasLength o (before ++ known ∷ []) new) (sym e)
    (l ∙ (ap (longer known) h ∙ sym (fold_more (λ (len : ℕ) (index : Option ℕ). longer index len) 0 before known)))

abbrev pub IsItemAt : TypeId → Option ℕ → Table → List (Option ℕ) → Entry → Option ℕ → Judged ItemInit → Type 0
IsItemAt elem limit types before element known result = IsItem types elem limit before element known result

pub items_more : (old mid last : Ground) (elem : TypeId) (limit : Option ℕ) (xs : List Entry) (x : Entry) (row new : Row)
    (made more : Option (List ItemInit)) (answer : Option ItemInit)
    → KnownSoFar old mid (IsItemAt elem limit) (IsRowSoFar limit made row) xs made
    → ((before : List (Option ℕ)) → HasMet limit before row
    → Taught mid last answer (IsItem mid.types elem limit before x) (IsMet limit before row new answer))
    → more ≡ with_last made answer → KnownSoFar old last (IsItemAt elem limit) (IsRowSoFar limit more new) (xs ++ x ∷ []) more
items_more old mid last elem limit xs x row new made more answer h step e =
    known_more old mid last (IsItemAt elem limit) (IsRowSoFar limit made row) (IsRowSoFar limit more new) xs x made more answer h
    (λ before so.
    let one = step before so.met in
    record {
      known = one.known;
      judged = one.judged;
      is = one.is;
      knows = record {
        met = one.knows.0;
        len = length_more made more answer before one.known row.len new.len e so.len one.knows.1;
      };
      answers = one.answers;
      reports = one.reports;
    }) e

counted_by : (limit : Option ℕ) (known : List (Option ℕ)) (row : Row) (o : Option (Vec ItemInit)) (len : ℕ)
    → IsRowSoFar limit (items_of o) row known → len ≡ unwrap_or row.limit row.len
    → counted_items (option_zip o (Some len)) ≡ with_length limit known (items_of o)
counted_by limit known row None len so e = refl
counted_by limit known row (Some v) len so e =
    ap (λ (n : ℕ). Some (v.items, n))
    (e ∙ (ap (λ (o : Option ℕ). unwrap_or o row.len) so.met.limit_is ∙ ap (unwrap_or limit) so.len))

pub items_counted : (old new : Ground) (elem : TypeId) (limit : Option ℕ) (elements : List Entry) (row : Row) (o : Option (Vec ItemInit))
    (len : ℕ) (answer : Option (Vec ItemInit × ℕ))
    → KnownSoFar old new (IsItemAt elem limit) (IsRowSoFar limit (items_of o) row) elements (items_of o)
    → len ≡ unwrap_or row.limit row.len → answer ≡ option_zip o (Some len)
    → Outcome old new (counted_items answer) (AreItems elem limit elements old.types)
items_counted old new elem limit elements row o len answer h e a = record {
  judged = record { sound = with_length limit h.known h.far.each.sound; broken = h.far.each.broken };
  is = record { known = h.known; each = h.far.each; are = h.far.are; whole = refl };
  answers = ap counted_items a
      ∙ (counted_by limit h.known row o len h.kept e ∙ ap (with_length limit h.known) h.far.answers);
  reports = h.far.reports;
}
