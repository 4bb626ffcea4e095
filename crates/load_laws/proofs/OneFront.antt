-- Packages that are loaded first are determined by their number, and what ends them too.
use Rattle.std.proofs.Common.{◌≡◌, ◌⊎◌, inl, inr, ℕ, suc, ◌+◌, ◌<◌, ◌≤◌, Bool, List, [], ◌∷◌, ◌++◌, length, Option, Some, None, slice_get, Result, Ok, Err, refl, sym, ap, subst, ◌∙◌, arith, append_assoc}
use Rattle.std.proofs.lemmas.List.{length_push}
use Rattle.std.proofs.lemmas.List.Elements.{AllZip-push}
use Rattle.std.proofs.lemmas.Option.{slice_get_within}
use Rattle.load_laws.proofs.OneProject.{one_origin}
use Rattle.load_laws.proofs.OneReading.{one_reading}
use Rattle.go_finding.specs.Modules.{Broken}
use Rattle.load_laws.specs.OneReading.{AreSameFiles, AreSameRead}
use Rattle.go_finding.specs.Programs.{File, Package, Loads, Unread, Faulty, Sound, LoadsNext, IsPackage, BreaksPackage, IsNext, IsFront, Nothing, More, IsComplete, package_fault, room_for, known}
use Rattle.go_finding.specs.Projects.{FileText, Project, texts_of, is_built_in, IsOriginAt}
use Rattle.load_laws.proofs.SamePackages.{same_fault, same_known, same_room}
use Rattle.load_laws.specs.OneAnswer.{IsSamePackage, AreSamePackages, AreFirstOf}

some_same : {A : Type 0} (o : Option A) (a b : A) → o ≡ Some a → o ≡ Some b → a ≡ b
some_same o a b p q = cc (p, q)

never_none : {A : Type 0} (o : Option A) (a : A) → o ≡ None → o ≡ Some a → ⊥
never_none o a p q = cc (p, q)

-- ---- the files of a package

one_loading : (project : Project) (room : ℕ) (built_in : Bool) (texts : List FileText) {a b : Result (List File) Broken} → Loads project room built_in texts a → Loads project room built_in texts b → AreSameRead a b
one_loading project room built_in texts (Unread broken h) (Unread other k) = one_reading room texts h k
one_loading project room built_in texts (Unread broken h) (Faulty files other k fault) = absurd (one_reading room texts h k)
one_loading project room built_in texts (Unread broken h) (Sound files k none) = one_reading room texts h k
one_loading project room built_in texts (Faulty files broken h fault) (Unread other k) = absurd (one_reading room texts h k)
one_loading project room built_in texts (Faulty a broken h fault) (Faulty b other k again) =
    some_same (package_fault project built_in b) broken other (sym (same_fault project built_in a b (one_reading room texts h k)) ∙ fault) again
one_loading project room built_in texts (Faulty a broken h fault) (Sound b k none) =
    never_none (package_fault project built_in b) broken none (sym (same_fault project built_in a b (one_reading room texts h k)) ∙ fault)
one_loading project room built_in texts (Sound files h none) (Unread other k) = one_reading room texts h k
one_loading project room built_in texts (Sound a h none) (Faulty b other k fault) =
    never_none (package_fault project built_in b) other (sym (same_fault project built_in a b (one_reading room texts h k)) ∙ none) fault
one_loading project room built_in texts (Sound a h none) (Sound b k again) = one_reading room texts h k

-- ---- the next package

record IsSameNext (p q : Bool) (a b : Result (List File) Broken) : Type 0 where
  built_in : p ≡ q
  files : AreSameRead a b

pub same_length : (a b : List Package) → AreSamePackages a b → length a ≡ length b
same_length [] [] h = refl
same_length [] (y ∷ b) h = absurd h
same_length (x ∷ a) [] h = absurd h
same_length (x ∷ a) (y ∷ b) h = ap suc (same_length a b h.1)

one_next : (project : Project) (a b : List Package) (path other : List ℕ) (p q : Bool) (r s : Result (List File) Broken) → AreSamePackages a b → path ≡ other → LoadsNext project a path p r → LoadsNext project b other q s → IsSameNext p q r s
one_next project a b path other p q r s same paths h k =
    let origin : IsOriginAt project (length b) other h.origin =
    subst (λ (n : ℕ). IsOriginAt project n other h.origin) (same_length a b same) (subst (λ (text : List ℕ). IsOriginAt project (length a) text h.origin) paths h.origin_is) in
    let origins : h.origin ≡ k.origin = one_origin project (length b) other h.origin k.origin origin k.origin_is in
    let kinds : p ≡ q = h.built_in_is ∙ ap is_built_in origins ∙ sym k.built_in_is in
    let rooms : room_for project a p ≡ room_for project b q = same_room project p a b same ∙ ap (room_for project b) kinds in
    let texts : texts_of project.files h.origin ≡ texts_of project.files k.origin = ap (texts_of project.files) origins in
    let moved : Loads project (room_for project b q) q (texts_of project.files k.origin) r =
    subst (λ (all : List FileText). Loads project (room_for project b q) q all r) texts
    (subst (λ (built_in : Bool). Loads project (room_for project b q) built_in (texts_of project.files h.origin) r) kinds
    (subst (λ (room : ℕ). Loads project room p (texts_of project.files h.origin) r) rooms h.loads)) in
    record { built_in = kinds; files = one_loading project (room_for project b q) q (texts_of project.files k.origin) moved k.loads }

-- the path of the package that is loaded next
pub same_next : (project : Project) (a b : List Package) (path other : List ℕ) → AreSamePackages a b → IsNext project a path → IsNext project b other → path ≡ other
same_next project a b path other same h k =
    let e : slice_get (known project a) (length a) ≡ slice_get (known project b) (length b) =
    ap (λ (paths : List (List ℕ)). slice_get paths (length a)) (same_known project a b same) ∙ ap (slice_get (known project b)) (same_length a b same) in
    some_same (slice_get (known project b) (length b)) path other (sym e ∙ h) k

pub one_package : (project : Project) (a b : List Package) (x y : Package) → AreSamePackages a b → x.path ≡ y.path → IsPackage project a x → IsPackage project b y → IsSamePackage x y
one_package project a b x y same paths h k =
    let next : IsSameNext x.built_in y.built_in (Ok x.files) (Ok y.files) = one_next project a b x.path y.path x.built_in y.built_in (Ok x.files) (Ok y.files) same paths h k in
    record { path = paths; built_in = next.built_in; files = next.files }

pub one_break : (project : Project) (a b : List Package) (path other : List ℕ) (broken again : Broken) → AreSamePackages a b → path ≡ other → BreaksPackage project a path broken → BreaksPackage project b other again → broken ≡ again
one_break project a b path other broken again same paths h k =
    (one_next project a b path other h.0 k.0 (Err broken) (Err again) same paths h.1 k.1).files

pub sound_or_broken : (project : Project) (a b : List Package) (one : Package) (path : List ℕ) (broken : Broken) → AreSamePackages a b → one.path ≡ path → IsPackage project a one → BreaksPackage project b path broken → ⊥
sound_or_broken project a b one path broken same paths h k =
    (one_next project a b one.path path one.built_in k.0 (Ok one.files) (Err broken) same paths h k.1).files

-- ---- fronts

suc_same : (n m i j : ℕ) → n ≡ i + 1 → m ≡ j + 1 → n ≡ m → i ≡ j
suc_same n m i j p q e = omega (arith, p, q, e)

pub one_front : (project : Project) (a b : List Package) → IsFront project a → IsFront project b → length a ≡ length b → AreSamePackages a b
one_front project _ _ Nothing Nothing e = tt
one_front project _ _ Nothing (More q y g m j) e = absurd (short q y e)
  where
    short : (q : List Package) (y : Package) → 0 ≡ length (q ++ y ∷ []) → ⊥
    short q y e = let l : length (q ++ y ∷ []) ≡ length q + 1 = length_push q y in omega (arith, l, e)
one_front project _ _ (More p x f n i) Nothing e = absurd (short p x (sym e))
  where
    short : (q : List Package) (y : Package) → 0 ≡ length (q ++ y ∷ []) → ⊥
    short q y e = let l : length (q ++ y ∷ []) ≡ length q + 1 = length_push q y in omega (arith, l, e)
one_front project _ _ (More p x f n i) (More q y g m j) e =
    let lengths : length p ≡ length q = suc_same (length (p ++ x ∷ [])) (length (q ++ y ∷ [])) (length p) (length q) (length_push p x) (length_push q y) e in
    let same : AreSamePackages p q = one_front project p q f g lengths in
    AllZip-push IsSamePackage p q x y same (one_package project p q x y same (same_next project p q x.path y.path same n m) i j)

order : (i j : ℕ) → i ≤ j → (i ≡ j) ⊎ (i < j)
order i j h = grind (arith, h)

short_of : (n m j : ℕ) → m ≡ j + 1 → n < m → n ≤ j
short_of n m j e h = omega (arith, e, h)

pub first_packages : (project : Project) (a b : List Package) → IsFront project a → IsFront project b → length a ≤ length b → AreFirstOf a b
first_packages project a _ f Nothing le = record { front = []; rest = []; whole = refl; same = one_front project a [] f Nothing (none (length a) le) }
  where
    none : (n : ℕ) → n ≤ 0 → n ≡ 0
    none n h = omega (arith, h)
first_packages project a _ f (More q y g m j) le = by (λ h. first_packages project a q f g h) (order (length a) (length (q ++ y ∷ [])) le)
  where
    nil : (xs : List Package) → xs ≡ xs ++ []
    nil [] = refl
    nil (x ∷ xs) = ap (λ (all : List Package). x ∷ all) (nil xs)

    by : (length a ≤ length q → AreFirstOf a q) → (length a ≡ length (q ++ y ∷ [])) ⊎ (length a < length (q ++ y ∷ [])) → AreFirstOf a (q ++ y ∷ [])
    by again (inl e) = record { front = q ++ y ∷ []; rest = []; whole = nil (q ++ y ∷ []); same = one_front project a (q ++ y ∷ []) f (More q y g m j) e }
    by again (inr less) =
        let below : AreFirstOf a q = again (short_of (length a) (length (q ++ y ∷ [])) (length q) (length_push q y) less) in
        record {
          front = below.front;
          rest = below.rest ++ y ∷ [];
          whole = ap (λ (all : List Package). all ++ y ∷ []) below.whole ∙ append_assoc below.front below.rest (y ∷ []);
          same = below.same;
        }

-- ---- where a front ends

-- a front goes on: it is that of another, which has one package more
pub record GoesOn (project : Project) (a : List Package) : Type 0 where
  pub front : List Package
  pub one : Package
  pub same : AreSamePackages a front
  pub next : IsNext project front one.path
  pub sound : IsPackage project front one

pub goes_on : (project : Project) (a b : List Package) → IsFront project a → IsFront project b → length a < length b → GoesOn project a
goes_on project a _ f Nothing less = absurd (none (length a) less)
  where
    none : (n : ℕ) → n < 0 → ⊥
    none n h = omega (arith, h)
goes_on project a _ f (More q y g m j) less = by (λ h. goes_on project a q f g h) (order (length a) (length q) (short_of (length a) (length (q ++ y ∷ [])) (length q) (length_push q y) less))
  where
    by : (length a < length q → GoesOn project a) → (length a ≡ length q) ⊎ (length a < length q) → GoesOn project a
    by again (inl e) = record { front = q; one = y; same = one_front project a q f g e; next = m; sound = j }
    by again (inr h) = again h

-- the package that comes next breaks a rule, or none comes
pub data EndsHere (project : Project) (a : List Package) : Type 0 where
  ByRule : (path : List ℕ) (broken : Broken) → IsNext project a path → BreaksPackage project a path broken → EndsHere project a
  ByEnd : IsComplete project a → EndsHere project a

within : (project : Project) (a : List Package) (path : List ℕ) → IsNext project a path → length a < length (known project a)
within project a path h = slice_get_within (known project a) (length a) path h

pub no_next : (project : Project) (a b : List Package) (path : List ℕ) → AreSamePackages a b → IsComplete project a → IsNext project b path → ⊥
no_next project a b path same complete next =
    let more : length b < length (known project b) = within project b path next in
    let lengths : length a ≡ length b = same_length a b same in
    let paths : length (known project a) ≡ length (known project b) = ap length (same_known project a b same) in
    omega (arith, complete, more, lengths, paths)

turned_files : (a b : List File) → AreSameFiles a b → AreSameFiles b a
turned_files [] [] h = tt
turned_files [] (y ∷ b) h = absurd h
turned_files (x ∷ a) [] h = absurd h
turned_files (x ∷ a) (y ∷ b) h = (record { path = sym h.0.path; bytes = sym h.0.bytes; tree = sym h.0.tree }, turned_files a b h.1)

pub turned : (a b : List Package) → AreSamePackages a b → AreSamePackages b a
turned [] [] h = tt
turned [] (y ∷ b) h = absurd h
turned (x ∷ a) [] h = absurd h
turned (x ∷ a) (y ∷ b) h = (record { path = sym h.0.path; built_in = sym h.0.built_in; files = turned_files x.files y.files h.0.files }, turned a b h.1)

ended : (project : Project) (a : List Package) → EndsHere project a → GoesOn project a → ⊥
ended project a (ByRule path broken next breaks) on =
    sound_or_broken project on.front a on.one path broken (turned a on.front on.same) (sym (same_next project a on.front path on.one.path on.same next on.next)) on.sound breaks
ended project a (ByEnd complete) on = no_next project a on.front on.one.path on.same complete on.next

three : (i j : ℕ) → (i < j) ⊎ ((j < i) ⊎ (i ≡ j))
three i j = grind arith

-- two fronts that end are the same
pub one_end : (project : Project) (a b : List Package) → IsFront project a → IsFront project b → EndsHere project a → EndsHere project b → AreSamePackages a b
one_end project a b f g h k = by (three (length a) (length b))
  where
    by : (length a < length b) ⊎ ((length b < length a) ⊎ (length a ≡ length b)) → AreSamePackages a b
    by (inl less) = absurd (ended project a h (goes_on project a b f g less))
    by (inr (inl more)) = absurd (ended project b k (goes_on project b a g f more))
    by (inr (inr e)) = one_front project a b f g e
