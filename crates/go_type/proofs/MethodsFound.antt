-- The methods that are selected are among those that types offer.
use Rattle.std.proofs.Common.{◌≡◌, ◌≢◌, ℕ, ◌+◌, ◌<◌, ◌≤◌, Bool, true, false, true≢false, ◌||◌, if◌then◌else◌, List, [], ◌∷◌, ◌++◌, map, Option, Some, None, refl, sym, ap, subst, ◌∙◌, arith, ◌⊎◌, inl, inr, Ok, append-nil, option_to_list}
use Rattle.std.specs.List.{list_any, flat_map, All, AllByRecursion, Contains}
use Rattle.std.specs.List.Sorted.{IsStrictlySortedBy}
use Rattle.std.proofs.lemmas.Bool.{cases_lt}
use Rattle.std.proofs.lemmas.List.Elements.{All-head, All-tail, All-from_recursion, Contains-push, Contains-append_left}
use Rattle.std.specs.Ordering.{is_eq}
use Rattle.std.specs.declared.cmp.Ordering.TheVariants.{Less}
use Rattle.go_base.specs.declared.ids.TypeId.{TypeId}
use Rattle.go_type.specs.declared.members.Wanted.{Wanted}
use Rattle.go_type.specs.Selector.{Place}
use Rattle.go_type.specs.declared.members.Member.{Member}
use Rattle.go_type.specs.declared.methods.MethodEntry.{MethodEntry}
use Rattle.go_type.specs.declared.methods.SelectionKind.TheVariants as kind
use Rattle.go_type.specs.declared.term.Field.{Field}
use Rattle.go_type.specs.declared.term.MethodType.{MethodType}
use Rattle.go_type.specs.declared.term.TypeTerm.{TypeTerm}
use Rattle.go_type.specs.declared.term.TypeTerm.TheVariants.{Struct, Interface}
use Rattle.go_type.specs.Levels.{StandFor}
use Rattle.go_type.specs.MethodSets.{IsMethod, HasMember, name_of, entry_of, by_name, offers, offered_by, IsEntryOf}
use Rattle.go_type.specs.Selector.{is_wanted, flat_map_from, method_named, signature_named, field_named, members_named, selected_in, selected_at, NoneAbove, Finds}
use Rattle.go_type.specs.Table.{Table, term_at, definition_at, underlying_of}
use Rattle.go_type.proofs.Names.{names_equal}
use Rattle.go_type.proofs.Selections.{finds_same}
use Rattle.go_type.proofs.Stands.{found_here}

abbrev AreFields : List Member → Type 0
AreFields [] = Unit {0}
AreFields (m ∷ ms) = (m.kind ≡ kind.Field) × AreFields ms

fields_append : (xs ys : List Member) → AreFields xs → AreFields ys → AreFields (xs ++ ys)
fields_append [] ys h k = k
fields_append (x ∷ xs) ys h k = (h.0, fields_append xs ys h.1 k)

left_false : (a b : Bool) → a || b ≡ false → a ≡ false
left_false true b h = h
left_false false b h = refl

right_false : (a b : Bool) → a || b ≡ false → b ≡ false
right_false true b h = absurd (true≢false h)
right_false false b h = h

none_if : {X : Type 0} (b : Bool) (x : X) → b ≡ false → (if b then x ∷ [] else []) ≡ []
none_if true x h = absurd (true≢false h)
none_if false x h = refl

module _ (types : Table) (wanted : Wanted) where
  no_methods : (path : List ℕ) (indirect : Bool) (methods : List MethodEntry) → list_any (λ m. is_wanted wanted m.name m.package) methods ≡ false
      → flat_map (method_named wanted path indirect) methods ≡ []
  no_methods path indirect [] h = refl
  no_methods path indirect (m ∷ methods) h =
      (λ i. none_if (is_wanted wanted m.name m.package) (record { path = path; kind = m.kind; of = m.of; pointer = m.pointer; indirect = indirect }) (left_false _ _ h) i ++ flat_map (method_named wanted path indirect) methods)
      ∙ no_methods path indirect methods (right_false (is_wanted wanted m.name m.package) _ h)

  no_signatures : (path : List ℕ) (indirect : Bool) (methods : List MethodType) → list_any (λ m. is_wanted wanted m.name m.package) methods ≡ false
      → flat_map (signature_named wanted path indirect) methods ≡ []
  no_signatures path indirect [] h = refl
  no_signatures path indirect (m ∷ methods) h =
      (λ i. none_if (is_wanted wanted m.name m.package) (record { path = path; kind = kind.InterfaceMethod; of = m.of; pointer = false; indirect = indirect }) (left_false _ _ h) i ++ flat_map (signature_named wanted path indirect) methods)
      ∙ no_signatures path indirect methods (right_false (is_wanted wanted m.name m.package) _ h)

  fields_are : (path : List ℕ) (indirect : Bool) (n : ℕ) (fields : List Field) → AreFields (flat_map_from (field_named wanted path indirect) n fields)
  fields_are path indirect n [] = tt
  fields_are path indirect n (f ∷ fields) = fields_append (field_named wanted path indirect n f) _ (one (is_wanted wanted f.name f.package)) (fields_are path indirect (n + 1) fields)
    where
      one : (b : Bool) → AreFields (if b then record { path = path ++ n ∷ []; kind = kind.Field; of = f.of; pointer = false; indirect = indirect } ∷ [] else [])
      one true = (refl, tt)
      one false = tt

  members_are : (path : List ℕ) (indirect : Bool) (t : Option TypeTerm) → offered_by wanted t ≡ false → AreFields (members_named wanted path indirect t)
  members_are path indirect (Some (Struct fields)) h = fields_are path indirect 0 fields
  members_are path indirect (Some (Interface methods)) h = subst AreFields (sym (no_signatures path indirect methods h)) tt
  members_are path indirect _ h = tt

  -- a type that offers no method has fields alone
  only_fields : (place : Place) → offers types wanted place.of ≡ false → AreFields (selected_in types wanted place)
  only_fields place h =
      fields_append (flat_map (method_named wanted place.path place.indirect) (definition_at types place.of).methods) _
      (subst AreFields (sym (no_methods place.path place.indirect (definition_at types place.of).methods (left_false _ _ h))) tt)
      (members_are place.path place.indirect (term_at types (underlying_of types place.of)) (right_false (list_any (λ m. is_wanted wanted m.name m.package) (definition_at types place.of).methods) _ h))

  all_fields : (places : List Place) → list_any (λ place. offers types wanted place.of) places ≡ false → AreFields (flat_map (selected_in types wanted) places)
  all_fields [] h = tt
  all_fields (place ∷ places) h =
      fields_append (selected_in types wanted place) _ (only_fields place (left_false _ _ h)) (all_fields places (right_false (offers types wanted place.of) _ h))

  pub one_offers : (places : List Place) (member : Member) → flat_map (selected_in types wanted) places ≡ member ∷ [] → member.kind ≢ kind.Field
      → list_any (λ place. offers types wanted place.of) places ≡ true
  one_offers places member is method = by (list_any (λ place. offers types wanted place.of) places) refl
    where
      by : (b : Bool) → list_any (λ place. offers types wanted place.of) places ≡ b → b ≡ true
      by true e = refl
      by false e = absurd (method (subst AreFields is (all_fields places e)).0)

-- ---- the names so far

-- the names of the methods above a depth are among some
abbrev pub NamesAbove : Table → TypeId → ℕ → (Wanted → Bool) → Type 0
NamesAbove types a n has = (wanted : Wanted) (member : Member) (k : ℕ) → k < n → selected_at k types wanted a ≡ member ∷ [] → NoneAbove k types wanted a → member.kind ≢ kind.Field → has wanted ≡ true

or_true : (a b : Bool) → a ≡ true → a || b ≡ true
or_true true b h = refl
or_true false b h = absurd (true≢false (sym h))

or_right_true : (a b : Bool) → b ≡ true → a || b ≡ true
or_right_true true b h = refl
or_right_true false b h = h

pub names_next : (types : Table) (a : TypeId) (n : ℕ) (places : List Place) (seen : List TypeId) (old new : Wanted → Bool) → StandFor types a n places seen → NamesAbove types a n old
    → ((wanted : Wanted) → new wanted ≡ old wanted || list_any (λ place. offers types wanted place.of) places) → NamesAbove types a (n + 1) new
names_next types a n places seen old new stand above adds wanted member k less is none method = adds wanted ∙ by (cases_lt k n)
  where
    by : (k < n) ⊎ (n ≤ k) → old wanted || list_any (λ place. offers types wanted place.of) places ≡ true
    by (inl before) = or_true (old wanted) _ (above wanted member k before is none method)
    by (inr here) =
        let same : k ≡ n = omega arith in
        let at : selected_at n types wanted a ≡ member ∷ [] = ap (λ j. selected_at j types wanted a) (sym same) ∙ is in
        or_right_true (old wanted) _ (one_offers types wanted places member (found_here types wanted a n places seen member stand (λ j h. none j (omega arith)) at) method)

-- where nothing is selected from a depth on
pub names_all : (types : Table) (a : TypeId) (n : ℕ) (has : Wanted → Bool) → NamesAbove types a n has
    → ((wanted : Wanted) → NoneAbove n types wanted a → (m : ℕ) → selected_at m types wanted a ≡ []) → (wanted : Wanted) (member : Member) → HasMember types a wanted member → has wanted ≡ true
names_all types a n has above beyond wanted member h = by (cases_lt h.0.0 n)
  where
    by : (h.0.0 < n) ⊎ (n ≤ h.0.0) → has wanted ≡ true
    by (inl before) = above wanted member h.0.0 before h.0.1 h.0.2 h.1
    by (inr after) =
        let none : selected_at h.0.0 types wanted a ≡ [] = beyond wanted (λ k less. h.0.2 k (omega arith)) h.0.0 in
        let some : selected_at h.0.0 types wanted a ≡ member ∷ [] = h.0.1 in
        absurd cc

-- ---- the entries so far

sorted_push : (ks : List Wanted) (k : Wanted) → IsStrictlySortedBy by_name ks → AllByRecursion (λ q. by_name q k ≡ Less) ks → IsStrictlySortedBy by_name (ks ++ k ∷ [])
unfolding IsStrictlySortedBy
sorted_push [] k h less = (tt, tt)
sorted_push (q ∷ ks) k h less = (push ks h.0 less.0, sorted_push ks k h.1 less.1)
  where
    push : (xs : List Wanted) → AllByRecursion (λ y. by_name q y ≡ Less) xs → by_name q k ≡ Less → AllByRecursion (λ y. by_name q y ≡ Less) (xs ++ k ∷ [])
    push [] all last = (last, tt)
    push (x ∷ xs) all last = (all.0, push xs all.1 last)

map_push : (set : List MethodEntry) (e : MethodEntry) → map name_of (set ++ e ∷ []) ≡ map name_of set ++ name_of e ∷ []
map_push [] e = refl
map_push (x ∷ set) e = ap (λ l. name_of x ∷ l) (map_push set e)

-- each name of some is less than each of others
abbrev pub Below : List Wanted → List Wanted → Type 0
Below front rest = AllByRecursion (λ q. AllByRecursion (λ k. by_name q k ≡ Less) rest) front

below_head : (front : List Wanted) (k : Wanted) (rest : List Wanted) → Below front (k ∷ rest) → AllByRecursion (λ q. by_name q k ≡ Less) front
below_head [] k rest h = tt
below_head (q ∷ front) k rest h = (h.0.0, below_head front k rest h.1)

below_tail : (front : List Wanted) (k : Wanted) (rest : List Wanted) → Below front (k ∷ rest) → Below front rest
below_tail [] k rest h = tt
below_tail (q ∷ front) k rest h = (h.0.1, below_tail front k rest h.1)

below_push : (front : List Wanted) (k : Wanted) (rest : List Wanted) → Below front rest → AllByRecursion (λ j. by_name k j ≡ Less) rest → Below (front ++ k ∷ []) rest
below_push [] k rest h less = (less, tt)
below_push (q ∷ front) k rest h less = (h.0, below_push front k rest h.1 less)

same_entry : (types : Table) (a : TypeId) (x y : MethodEntry) → IsMethod types a x → IsMethod types a y → name_of x ≡ name_of y → x ≡ y
same_entry types a x y h k same =
    let member : h.0 ≡ k.0 = finds_same types (name_of y) a h.0 k.0 (subst (λ n. Finds types n a (Ok h.0)) same h.1.0.0) k.1.0.0 in
    h.1.1 ∙ (λ i. entry_of (same i) (member i)) ∙ sym k.1.1

pub record SetSoFar (types : Table) (a : TypeId) (set : List MethodEntry) (names : List Wanted) : Type 0 where
  pub sound : AllByRecursion (IsMethod types a) set
  pub complete : (entry : MethodEntry) → IsMethod types a entry → Contains set entry ⊎ (list_any (λ k. is_eq (by_name (name_of entry) k)) names ≡ true)
  pub sorted : IsStrictlySortedBy by_name (map name_of set)
  pub below : Below (map name_of set) names

push_all : {X : Type 0} (P : X → Type 0) (xs : List X) (x : X) → AllByRecursion P xs → P x → AllByRecursion P (xs ++ x ∷ [])
push_all P [] x h k = (k, tt)
push_all P (y ∷ xs) x h k = (h.0, push_all P xs x h.1 k)

-- the name at the front, of an entry or of none
module _ (types : Table) (a : TypeId) (set : List MethodEntry) (name : Wanted) (rest : List Wanted) (old : SetSoFar types a set (name ∷ rest)) where
  pub without : IsEntryOf types a name None → SetSoFar types a set rest
  without none = record {
    sound = old.sound;
    complete = λ entry is. by entry is (old.complete entry is);
    sorted = old.sorted;
    below = below_tail (map name_of set) name rest old.below;
  }
    where
      first : (entry : MethodEntry) → IsMethod types a entry → (b : Bool) → is_eq (by_name (name_of entry) name) ≡ b → b || list_any (λ k. is_eq (by_name (name_of entry) k)) rest ≡ true
          → list_any (λ k. is_eq (by_name (name_of entry) k)) rest ≡ true
      first entry is true e h = absurd (none is.0 (subst (λ n. HasMember types a n is.0) (names_equal (name_of entry) name e) is.1.0))
      first entry is false e h = h

      by : (entry : MethodEntry) → IsMethod types a entry → Contains set entry ⊎ (list_any (λ k. is_eq (by_name (name_of entry) k)) (name ∷ rest) ≡ true)
          → Contains set entry ⊎ (list_any (λ k. is_eq (by_name (name_of entry) k)) rest ≡ true)
      by entry is (inl there) = inl there
      by entry is (inr later) = inr (first entry is (is_eq (by_name (name_of entry) name)) refl later)

  pub with_entry : (e : MethodEntry) → IsEntryOf types a name (Some e) → AllByRecursion (λ k. by_name name k ≡ Less) rest → SetSoFar types a (set ++ e ∷ []) rest
  with_entry e has less = record {
    sound = push_all (IsMethod types a) set e old.sound has.0;
    complete = λ entry is. by entry is (old.complete entry is);
    sorted = subst (λ l. IsStrictlySortedBy by_name l) (sym (map_push set e))
        (sorted_push (map name_of set) (name_of e) old.sorted (subst (λ n. AllByRecursion (λ q. by_name q n ≡ Less) (map name_of set)) (sym has.1) (below_head (map name_of set) name rest old.below)));
    below = subst (λ l. Below l rest) (sym (map_push set e))
        (below_push (map name_of set) (name_of e) rest (below_tail (map name_of set) name rest old.below) (subst (λ n. AllByRecursion (λ k. by_name n k ≡ Less) rest) (sym has.1) less));
  }
    where
      first : (entry : MethodEntry) → IsMethod types a entry → (b : Bool) → is_eq (by_name (name_of entry) name) ≡ b → b || list_any (λ k. is_eq (by_name (name_of entry) k)) rest ≡ true
          → Contains (set ++ e ∷ []) entry ⊎ (list_any (λ k. is_eq (by_name (name_of entry) k)) rest ≡ true)
      first entry is true g h = inl (at_end entry (same_entry types a entry e is has.0 (names_equal (name_of entry) name g ∙ sym has.1)))
        where
          at_end : (entry : MethodEntry) → entry ≡ e → Contains (set ++ e ∷ []) entry
          at_end entry same = subst (λ x. Contains (set ++ e ∷ []) x) (sym same) (Contains-push set e)
      first entry is false g h = inr h

      by : (entry : MethodEntry) → IsMethod types a entry → Contains set entry ⊎ (list_any (λ k. is_eq (by_name (name_of entry) k)) (name ∷ rest) ≡ true)
          → Contains (set ++ e ∷ []) entry ⊎ (list_any (λ k. is_eq (by_name (name_of entry) k)) rest ≡ true)
      by entry is (inl there) = inl (Contains-append_left set (e ∷ []) entry there)
      by entry is (inr later) = first entry is (is_eq (by_name (name_of entry) name)) refl later

pub by_recursion : {X : Type 0} (P : X → Type 0) (xs : List X) → All P xs → AllByRecursion P xs
by_recursion P [] h = tt
by_recursion P (x ∷ xs) h = (All-head P x xs h, by_recursion P xs (All-tail P x xs h))

pub with_option : (types : Table) (a : TypeId) (set new : List MethodEntry) (name : Wanted) (names rest : List Wanted) (entry : Option MethodEntry) → SetSoFar types a set names
    → names ≡ name ∷ rest → IsEntryOf types a name entry → All (λ k. by_name name k ≡ Less) rest → new ≡ set ++ option_to_list entry → SetSoFar types a new rest
with_option types a set new name names rest entry so_far front has above is = subst (λ l. SetSoFar types a l rest) (sym is) (by entry has)
  where
    here : SetSoFar types a set (name ∷ rest)
    here = subst (λ k. SetSoFar types a set k) front so_far

    by : (entry : Option MethodEntry) → IsEntryOf types a name entry → SetSoFar types a (set ++ option_to_list entry) rest
    by (Some e) has = with_entry types a set name rest here e has (by_recursion (λ k. by_name name k ≡ Less) rest above)
    by None has = subst (λ l. SetSoFar types a l rest) (sym (append-nil set)) (without types a set name rest here has)

pub set_start : (types : Table) (a : TypeId) (set : List MethodEntry) (names : List Wanted) → set ≡ []
    → ((wanted : Wanted) (member : Member) → HasMember types a wanted member → list_any (λ k. is_eq (by_name wanted k)) names ≡ true) → SetSoFar types a set names
unfolding IsStrictlySortedBy
set_start types a set names is each = subst (λ l. SetSoFar types a l names) (sym is) empty
  where
    empty : SetSoFar types a [] names
    empty = record {
      sound = tt;
      complete = λ entry method. inr (each (name_of entry) method.0 method.1.0);
      sorted = tt;
      below = tt;
    }

pub sound_all : (types : Table) (a : TypeId) (set : List MethodEntry) (names : List Wanted) → SetSoFar types a set names → All (IsMethod types a) set
sound_all types a set names so_far = All-from_recursion (IsMethod types a) set so_far.sound

pub complete_all : (types : Table) (a : TypeId) (set : List MethodEntry) (names : List Wanted) → SetSoFar types a set names → names ≡ [] → (entry : MethodEntry) → IsMethod types a entry → Contains set entry
complete_all types a set names so_far none entry is = by (so_far.complete entry is)
  where
    by : Contains set entry ⊎ (list_any (λ k. is_eq (by_name (name_of entry) k)) names ≡ true) → Contains set entry
    by (inl there) = there
    by (inr later) = absurd (true≢false (sym (sym (ap (list_any (λ k. is_eq (by_name (name_of entry) k))) none) ∙ later)))
