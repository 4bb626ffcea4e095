-- A project has one result.
use Rattle.std.proofs.Common.{◌≡◌, ◌⊎◌, inl, inr, ℕ, ◌<◌, true, false, true≢false, List, length, map, min, take, get_or, length-take, get_or-take, Option, Some, None, slice_get, Result, Ok, Err, refl, sym, ap, subst, ◌∙◌, arith}
use Rattle.std.proofs.lemmas.List.Elements.{AllZip-push}
use Rattle.std.proofs.lemmas.Option.{slice_get_within, get_or_from_slice_get}
use Rattle.std.specs.List.{All}
use Rattle.std.specs.Option.{IsSomeAnd}
use Rattle.go_base.specs.declared.rule.Rule.{Rule}
use Rattle.go_base.specs.declared.rule.Rule.TheVariants as rules
use Rattle.import_graph.specs.Cycles.{IsFirstOnCycle, IsOnCycle}
use Rattle.import_graph.specs.declared.edges.Edge.{Edge}
use Rattle.go_finding.specs.Modules.{Broken}
use Rattle.load_laws.specs.OneReading.{IsSameResult}
use Rattle.go_finding.specs.Programs.{Package, Link, IsFront, IsNext, BreaksPackage, IsComplete, first_of_program, IsOnCycleFirst, links, edge_of, AreImportsSound, has_runtime, runtime_path, IsWithRuntime, Kept, Added, IsResult, BadPackage, OfProgram, OnCycle, BadRuntime, Program}
use Rattle.go_finding.specs.Projects.{Project}
use Rattle.load_laws.proofs.OneFront.{ByRule, ByEnd, one_end, one_break, one_package, no_next, same_next, sound_or_broken, turned}
use Rattle.load_laws.proofs.SamePackages.{same_first_of_program, same_has_runtime, same_links}
use Rattle.load_laws.specs.OneAnswer.{IsSamePackage, AreSamePackages}

some_same : {A : Type 0} (o : Option A) (a b : A) → o ≡ Some a → o ≡ Some b → a ≡ b
some_same o a b p q = cc (p, q)

never_none : {A : Type 0} {P : Type 0} (o : Option A) (a : A) → o ≡ None → o ≡ Some a → P
never_none o a p q = absurd (cc (p, q))

-- ---- the first that is on a cycle

-- an element of which something holds
record Has {A : Type 0} (P : A → Type 0) (o : Option A) : Type 0 where
  value : A
  here : o ≡ Some value
  holds : P value

has : {A : Type 0} (P : A → Type 0) (o : Option A) → IsSomeAnd o P → Has P o
has P None h = absurd h
has P (Some x) h = record { value = x; here = refl; holds = h }

not_in : {A : Type 0} (P : A → Type 0) (xs : List A) (i : ℕ) → All (λ x. ¬ P x) xs → IsSomeAnd (slice_get xs i) P → ⊥
not_in P xs i none some =
    let one : Has P (slice_get xs i) = has P (slice_get xs i) some in
    none i one.value (slice_get_within xs i one.value one.here) (subst P (sym (get_or_from_slice_get xs i one.value one.value one.here)) one.holds)

less_min : (i j n k : ℕ) → k ≡ min j n → i < j → i < n → i < k
less_min i j n k e less within = grind (arith, e, less, within)

not_before : {A : Type 0} (P : A → Type 0) (xs : List A) (i j : ℕ) → i < j → All (λ x. ¬ P x) (take j xs) → IsSomeAnd (slice_get xs i) P → ⊥
not_before P xs i j less none some =
    let one : Has P (slice_get xs i) = has P (slice_get xs i) some in
    let inside : i < length (take j xs) = less_min i j (length xs) (length (take j xs)) (length-take j xs) less (slice_get_within xs i one.value one.here) in
    let e : get_or (take j xs) i one.value ≡ one.value = get_or-take j xs i one.value less ∙ get_or_from_slice_get xs i one.value one.value one.here in
    none i one.value inside (subst P (sym e) one.holds)

one_cycle : (edges : List Edge) (i j : ℕ) → IsFirstOnCycle edges (Some i) → IsFirstOnCycle edges (Some j) → i ≡ j
one_cycle edges i j h k = by (order i j)
  where
    order : (i j : ℕ) → (i < j) ⊎ ((j < i) ⊎ (i ≡ j))
    order i j = grind arith

    by : (i < j) ⊎ ((j < i) ⊎ (i ≡ j)) → i ≡ j
    by (inl less) = absurd (not_before (IsOnCycle edges) edges i j less k.1 h.0)
    by (inr (inl more)) = absurd (not_before (IsOnCycle edges) edges j i more h.1 k.0)
    by (inr (inr e)) = e

-- ---- how a project ends, behind the packages that are loaded first

data Finish (project : Project) (packages : List Package) : Result (List Package) Broken → Type 0 where
  AtProgram : (link : Link) → first_of_program project packages ≡ Some link → Finish project packages (Err (record { place = link.place; rule = rules.ImportOfAProgram }))
  AtCycle : (index : ℕ) (link : Link) → first_of_program project packages ≡ None → IsOnCycleFirst project packages (Some index) → slice_get (links project packages) index ≡ Some link → Finish project packages (Err (record { place = link.place; rule = rules.ImportCycle }))
  AtRuntime : (broken : Broken) → AreImportsSound project packages → has_runtime project packages ≡ false → BreaksPackage project packages runtime_path broken → Finish project packages (Err broken)
  AtEnd : (all : List Package) → AreImportsSound project packages → IsWithRuntime project packages all → Finish project packages (Ok all)

same_edges : (project : Project) (a b : List Package) → AreSamePackages a b → map edge_of (links project a) ≡ map edge_of (links project b)
same_edges project a b same = ap (map edge_of) (same_links project a b same)

-- a program or a cycle is found for both
program_too : (project : Project) (a b : List Package) (link : Link) {P : Type 0} → AreSamePackages a b → first_of_program project a ≡ Some link → first_of_program project b ≡ None → P
program_too project a b link same some none = never_none (first_of_program project b) link none (sym (same_first_of_program project a b same) ∙ some)

cycle_too : (project : Project) (a b : List Package) (index : ℕ) → AreSamePackages a b → IsOnCycleFirst project a (Some index) → IsOnCycleFirst project b None → ⊥
cycle_too project a b index same some none =
    let moved : IsFirstOnCycle (map edge_of (links project b)) (Some index) = subst (λ (edges : List Edge). IsFirstOnCycle edges (Some index)) (same_edges project a b same) some in
    not_in (IsOnCycle (map edge_of (links project b))) (map edge_of (links project b)) index none moved.0

abbrev broken_by : Rule → Link → Broken
broken_by rule link = record { place = link.place; rule = rule }

one_place : (rule : Rule) (a b : Link) → a ≡ b → broken_by rule a ≡ broken_by rule b
one_place rule a b e = ap (broken_by rule) e

no_runtime : {P : Type 0} (project : Project) (a b : List Package) → AreSamePackages a b → has_runtime project a ≡ true → has_runtime project b ≡ false → P
no_runtime project a b same yes_a no_b = absurd (true≢false (sym yes_a ∙ same_has_runtime project a b same ∙ no_b))

one_runtime : (project : Project) (a b c d : List Package) → AreSamePackages a b → IsWithRuntime project a c → IsWithRuntime project b d → AreSamePackages c d
one_runtime project a b _ _ same (Kept h) (Kept k) = same
one_runtime project a b _ _ same (Kept h) (Added y k path sound) = no_runtime project a b same h k
one_runtime project a b _ _ same (Added x h path sound) (Kept k) = no_runtime project b a (turned a b same) k h
one_runtime project a b _ _ same (Added x h path sound) (Added y k way good) = AllZip-push IsSamePackage a b x y same (one_package project a b x y same (path ∙ sym way) sound good)

runtime_or_broken : (project : Project) (a b all : List Package) (broken : Broken) → AreSamePackages a b → IsWithRuntime project a all → has_runtime project b ≡ false → BreaksPackage project b runtime_path broken → ⊥
runtime_or_broken project a b _ broken same (Kept h) none breaks = no_runtime project a b same h none
runtime_or_broken project a b _ broken same (Added one h path sound) none breaks = sound_or_broken project a b one runtime_path broken same path sound breaks

one_finish : (project : Project) (a b : List Package) {r s : Result (List Package) Broken} → AreSamePackages a b → Finish project a r → Finish project b s → IsSameResult AreSamePackages r s
one_finish project a b same (AtProgram x h) (AtProgram y k) =
    one_place rules.ImportOfAProgram x y (some_same (first_of_program project b) x y (sym (same_first_of_program project a b same) ∙ h) k)
one_finish project a b same (AtProgram x h) (AtCycle index link none first here) = program_too project a b x same h none
one_finish project a b same (AtProgram x h) (AtRuntime broken sound none breaks) = program_too project a b x same h sound.no_program
one_finish project a b same (AtProgram x h) (AtEnd all sound with) = program_too project a b x same h sound.no_program
one_finish project a b same (AtCycle index link none first here) (AtProgram y k) = program_too project b a y (turned a b same) k none
one_finish project a b same (AtCycle i x none h there) (AtCycle j y no_too k here) =
    let moved : IsFirstOnCycle (map edge_of (links project b)) (Some i) = subst (λ (edges : List Edge). IsFirstOnCycle edges (Some i)) (same_edges project a b same) h in
    let index : i ≡ j = one_cycle (map edge_of (links project b)) i j moved k in
    let got : slice_get (links project b) j ≡ Some x = sym (ap (λ (all : List Link). slice_get all i) (same_links project a b same) ∙ ap (slice_get (links project b)) index) ∙ there in
    one_place rules.ImportCycle x y (some_same (slice_get (links project b) j) x y got here)
one_finish project a b same (AtCycle index link none first here) (AtRuntime broken sound no_too breaks) = absurd (cycle_too project a b index same first sound.no_cycle)
one_finish project a b same (AtCycle index link none first here) (AtEnd all sound with) = cycle_too project a b index same first sound.no_cycle
one_finish project a b same (AtRuntime broken sound none breaks) (AtProgram y k) = program_too project b a y (turned a b same) k sound.no_program
one_finish project a b same (AtRuntime broken sound none breaks) (AtCycle index link no_too first here) = absurd (cycle_too project b a index (turned a b same) first sound.no_cycle)
one_finish project a b same (AtRuntime broken sound none breaks) (AtRuntime other good no_too faulty) = one_break project a b runtime_path runtime_path broken other same refl breaks faulty
one_finish project a b same (AtRuntime broken sound none breaks) (AtEnd all good with) = runtime_or_broken project b a all broken (turned a b same) with none breaks
one_finish project a b same (AtEnd all sound with) (AtProgram y k) = program_too project b a y (turned a b same) k sound.no_program
one_finish project a b same (AtEnd all sound with) (AtCycle index link none first here) = cycle_too project b a index (turned a b same) first sound.no_cycle
one_finish project a b same (AtEnd all sound with) (AtRuntime broken good none breaks) = runtime_or_broken project a b all broken same with none breaks
one_finish project a b same (AtEnd all sound with) (AtEnd others good along) = one_runtime project a b all others same with along

-- ---- results

data Stage (project : Project) : Result (List Package) Broken → Type 0 where
  Broke : (packages : List Package) (path : List ℕ) (broken : Broken) → IsFront project packages → IsNext project packages path → BreaksPackage project packages path broken → Stage project (Err broken)
  Whole : (packages : List Package) (result : Result (List Package) Broken) → IsFront project packages → IsComplete project packages → Finish project packages result → Stage project result

stage : (project : Project) {r : Result (List Package) Broken} → IsResult project r → Stage project r
stage project (BadPackage packages path broken front next breaks) = Broke packages path broken front next breaks
stage project (OfProgram packages link front complete first) = Whole packages (Err (broken_by rules.ImportOfAProgram link)) front complete (AtProgram link first)
stage project (OnCycle packages index link front complete none first here) = Whole packages (Err (broken_by rules.ImportCycle link)) front complete (AtCycle index link none first here)
stage project (BadRuntime packages broken front complete sound none breaks) = Whole packages (Err broken) front complete (AtRuntime broken sound none breaks)
stage project (Program packages all front complete sound with) = Whole packages (Ok all) front complete (AtEnd all sound with)

one_stage : (project : Project) {r s : Result (List Package) Broken} → Stage project r → Stage project s → IsSameResult AreSamePackages r s
one_stage project (Broke a path broken f next breaks) (Broke b other again g more faulty) =
    let same : AreSamePackages a b = one_end project a b f g (ByRule path broken next breaks) (ByRule other again more faulty) in
    one_break project a b path other broken again same (same_next project a b path other same next more) breaks faulty
one_stage project (Broke a path broken f next breaks) (Whole b result g complete finish) =
    let same : AreSamePackages a b = one_end project a b f g (ByRule path broken next breaks) (ByEnd complete) in
    absurd (no_next project b a path (turned a b same) complete next)
one_stage project (Whole a result f complete finish) (Broke b path broken g next breaks) =
    let same : AreSamePackages a b = one_end project a b f g (ByEnd complete) (ByRule path broken next breaks) in
    absurd (no_next project a b path same complete next)
one_stage project (Whole a result f complete finish) (Whole b other g whole last) =
    one_finish project a b (one_end project a b f g (ByEnd complete) (ByEnd whole)) finish last

pub one_result : (project : Project) (a b : Result (List Package) Broken) → IsResult project a → IsResult project b → IsSameResult AreSamePackages a b
one_result project a b h k = one_stage project (stage project h) (stage project k)
