-- What the check of all imports answers.
use Rattle.std.proofs.Common.{◌≡◌, ℕ, zero, suc, ◌<◌, min, Bool, true, false, cond, List, [], ◌∷◌, length, map, Option, Some, None, IfSome, Ok, Err, slice_get, get_or, inl, inr, refl, sym, ap, ◌∙◌, subst}
use Rattle.std.proofs.lemmas.List.{length-map}
use Rattle.std.proofs.lemmas.Option.{slice_get-get_or, slice_get_within}
use Rattle.std.specs.List.{AllZip, find}
use Rattle.std.specs.Option.{IsSomeAnd}
use Rattle.go_base.specs.declared.place.Place.{Place}
use Rattle.go_base.specs.declared.rule.Rule.{Rule}
use Rattle.go_base.specs.declared.rule.Rule.TheVariants as rules
use Rattle.import_graph.specs.Cycles.{IsFirstOnCycle, IsOnCycle}
use Rattle.import_graph.specs.declared.edges.Edge.{Edge}
use Rattle.go_sources.specs.declared.sources.SourceFile.{SourceFile}
use Rattle.go_sources.specs.Places.{place_in}
use Rattle.go_finding.specs.declared.error.LoadError.{LoadError}
use Rattle.go_finding.specs.declared.error.LoadError.TheVariants.{Refused, ReadFault, OutOfMemory}
use Rattle.go_finding.specs.declared.links.Link as code
use Rattle.go_load.specs.declared.loader.Loader.{Loader}
use Rattle.go_load.specs.Loading.{ChecksImports, Holds, IsLink, is_program_number, is_of_program}
use Rattle.go_finding.specs.Places.{Refuses}
use Rattle.go_finding.specs.Programs.{Package, Link, are_program, edge_of, first_of_program, is_program_at, known, links, links_from}
use Rattle.go_finding.specs.Projects.{Project}

-- the refusal at an import that the loader keeps
abbrev pub RefusesAt : Loader → code.Link → Rule → LoadError → Type 0
RefusesAt loader kept rule error = IfSome (slice_get loader.files.items kept.at.file) (λ file. Refuses (place_in file.path file.bytes (min kept.at.offset (length file.bytes))) rule error)

program_number : (packages : List Package) (number : ℕ) → is_program_number (map (λ one. are_program one.files) packages) number ≡ is_program_at packages number
program_number [] number = refl
program_number (one ∷ packages) zero = refl
program_number (one ∷ packages) (suc number) = program_number packages number

-- an import of the loader and the one that it is
record Pair (files : List SourceFile) (test : Link → Bool) (all : List Link) (kept : code.Link) : Type 0 where
  pub link : Link
  pub found : find test all ≡ Some link
  pub same : IsLink files kept link

abbrev tests : List Package → Link → Bool
tests packages link = is_program_at packages link.to

same_test : (files : List SourceFile) (packages : List Package) (kept : code.Link) (link : Link) → IsLink files kept link → is_of_program (map (λ one. are_program one.files) packages) kept ≡ tests packages link
same_test files packages kept link h = program_number packages kept.edge.to ∙ ap (is_program_at packages) h.to

none_found : (files : List SourceFile) (packages : List Package) (kept : List code.Link) (all : List Link) → AllZip (IsLink files) kept all → find (is_of_program (map (λ one. are_program one.files) packages)) kept ≡ None → find (tests packages) all ≡ None
none_found files packages [] [] h e = refl
none_found files packages [] (link ∷ all) h e = absurd h
none_found files packages (one ∷ kept) [] h e = absurd h
none_found files packages (one ∷ kept) (link ∷ all) h e =
    go (is_of_program (map (λ one. are_program one.files) packages) one) (sym (same_test files packages one link h.0)) e (none_found files packages kept all h.1)
  where
    go : (b : Bool) → tests packages link ≡ b → cond b (Some one) (find (is_of_program (map (λ one. are_program one.files) packages)) kept) ≡ None
        → (find (is_of_program (map (λ one. are_program one.files) packages)) kept ≡ None → find (tests packages) all ≡ None) → cond (tests packages link) (Some link) (find (tests packages) all) ≡ None
    go true t e rest = cc
    go false t e rest = ap (λ b. cond b (Some link) (find (tests packages) all)) t ∙ rest e

one_found : (files : List SourceFile) (packages : List Package) (first : code.Link) (kept : List code.Link) (all : List Link) → AllZip (IsLink files) kept all → find (is_of_program (map (λ one. are_program one.files) packages)) kept ≡ Some first → Pair files (tests packages) all first
one_found files packages first [] all h e = cc
one_found files packages first (one ∷ kept) [] h e = absurd h
one_found files packages first (one ∷ kept) (link ∷ all) h e =
    go (is_of_program (map (λ one. are_program one.files) packages) one) (sym (same_test files packages one link h.0)) e (one_found files packages first kept all h.1)
  where
    go : (b : Bool) → tests packages link ≡ b → cond b (Some one) (find (is_of_program (map (λ one. are_program one.files) packages)) kept) ≡ Some first
        → (find (is_of_program (map (λ one. are_program one.files) packages)) kept ≡ Some first → Pair files (tests packages) all first) → Pair files (tests packages) (link ∷ all) first
    go true t e rest =
        let is : one ≡ first = cc in
        record { link = link; found = ap (λ b. cond b (Some link) (find (tests packages) all)) t; same = subst (λ (k : code.Link). IsLink files k link) is h.0 }
    go false t e rest =
        let p : Pair files (tests packages) all first = rest e in
        record { link = p.link; found = ap (λ b. cond b (Some link) (find (tests packages) all)) t ∙ p.found; same = p.same }

refused_at : (loader : Loader) (kept : code.Link) (link : Link) (rule : Rule) (place : Place) (by : Rule) → IsLink loader.files.items kept link → RefusesAt loader kept rule (Refused place by) → (place ≡ link.place) × (by ≡ rule)
refused_at loader kept link rule place by h r =
    let here : Refuses (place_in h.file.path h.file.bytes (min kept.at.offset (length h.file.bytes))) rule (Refused place by) =
    subst (λ (o : Option SourceFile). IfSome o (λ file. Refuses (place_in file.path file.bytes (min kept.at.offset (length file.bytes))) rule (Refused place by))) h.file_is r in
    (here.0 ∙ sym h.place, here.1)

links_now : (project : Project) (packages : List Package) (loader : Loader) → Holds project loader packages → loader.found.paths ≡ known project packages → AllZip (IsLink loader.files.items) loader.links.items (links project packages)
links_now project packages loader h p = subst (λ paths. AllZip (IsLink loader.files.items) loader.links.items (links_from paths 0 packages)) p h.links

-- no kept import is of a program
no_program : (project : Project) (packages : List Package) (loader : Loader) → Holds project loader packages → loader.found.paths ≡ known project packages → find (is_of_program loader.programs.items) loader.links.items ≡ None → first_of_program project packages ≡ None
no_program project packages loader h p e =
    none_found loader.files.items packages loader.links.items (links project packages) (links_now project packages loader h p) (ap (λ programs. find (is_of_program programs) loader.links.items) (sym h.programs) ∙ e)

same_edges : (files : List SourceFile) (kept : List code.Link) (all : List Link) → AllZip (IsLink files) kept all → map (λ (one : code.Link). one.edge) kept ≡ map edge_of all
same_edges files [] [] h = refl
same_edges files [] (link ∷ all) h = absurd h
same_edges files (one ∷ kept) [] h = absurd h
same_edges files (one ∷ kept) (link ∷ all) h =
    let edge : one.edge ≡ edge_of link = (λ i. record { from = h.0.from i; to = h.0.to i }) in
    λ i. edge i ∷ same_edges files kept all h.1 i

record At (files : List SourceFile) (all : List Link) (index : ℕ) (kept : code.Link) : Type 0 where
  pub link : Link
  pub is : slice_get all index ≡ Some link
  pub same : IsLink files kept link

at_index : (files : List SourceFile) (kept : List code.Link) (all : List Link) (index : ℕ) (one : code.Link) → AllZip (IsLink files) kept all → slice_get kept index ≡ Some one → At files all index one
at_index files [] all index one h e = cc
at_index files (first ∷ kept) [] index one h e = absurd h
at_index files (first ∷ kept) (link ∷ all) zero one h e = let is : first ≡ one = cc in record { link = link; is = refl; same = subst (λ (k : code.Link). IsLink files k link) is h.0 }
at_index files (first ∷ kept) (link ∷ all) (suc index) one h e =
    let p : At files all index one = at_index files kept all index one h.1 e in record { link = p.link; is = p.is; same = p.same }

-- the index of an edge is that of an import
within_edges : (edges : List Edge) (index : ℕ) (P : Edge → Type 0) (o : Option Edge) → slice_get edges index ≡ o → IsSomeAnd o P → index < length edges
within_edges edges index P None e h = absurd h
within_edges edges index P (Some edge) e h = slice_get_within edges index edge e

pub in_links : (seen : List code.Link) (edges : List Edge) (index : ℕ) → edges ≡ map (λ (one : code.Link). one.edge) seen → IsFirstOnCycle edges (Some index) → index < length seen
in_links seen edges index e h =
    subst (λ n. index < n) (ap length e ∙ length-map seen (λ (one : code.Link). one.edge)) (within_edges edges index (IsOnCycle edges) (slice_get edges index) refl h.0)

pub program_refused : (loader : Loader) (seen : List code.Link) (programs : List Bool) (first : code.Link) (error : LoadError) → seen ≡ loader.links.items → programs ≡ loader.programs.items → Some first ≡ find (is_of_program programs) seen → RefusesAt loader first rules.ImportOfAProgram error → ChecksImports loader (Err error)
program_refused loader seen programs first (Refused place rule) s b e r = λ project packages h p.
    let found : find (is_of_program (map (λ one. are_program one.files) packages)) loader.links.items ≡ Some first =
    (λ i. find (is_of_program (sym h.programs i)) loader.links.items) ∙ (λ i. find (is_of_program (sym b i)) (sym s i)) ∙ sym e in
    let pair : Pair loader.files.items (tests packages) (links project packages) first = one_found loader.files.items packages first loader.links.items (links project packages) (links_now project packages loader h p) found in
    let at : (place ≡ pair.link.place) × (rule ≡ rules.ImportOfAProgram) = refused_at loader first pair.link rules.ImportOfAProgram place rule pair.same r in
    inl (record { link = pair.link; first = pair.found; place_is = at.0 }, at.1)
program_refused loader seen programs first ReadFault s b e r = λ project packages h p. tt
program_refused loader seen programs first OutOfMemory s b e r = λ project packages h p. tt

none_here : (loader : Loader) (seen : List code.Link) (programs : List Bool) → seen ≡ loader.links.items → programs ≡ loader.programs.items → None ≡ find (is_of_program programs) seen → find (is_of_program loader.programs.items) loader.links.items ≡ None
none_here loader seen programs s b e = (λ i. find (is_of_program (sym b i)) (sym s i)) ∙ sym e

edges_here : (project : Project) (packages : List Package) (loader : Loader) (seen : List code.Link) (edges : List Edge) → seen ≡ loader.links.items → edges ≡ map (λ (one : code.Link). one.edge) seen → Holds project loader packages → loader.found.paths ≡ known project packages → edges ≡ map edge_of (links project packages)
edges_here project packages loader seen edges s e h p =
    e ∙ ap (map (λ (one : code.Link). one.edge)) s ∙ same_edges loader.files.items loader.links.items (links project packages) (links_now project packages loader h p)

pub cycle_refused : (loader : Loader) (seen : List code.Link) (programs : List Bool) (edges : List Edge) (index : ℕ) (kept : code.Link) (error : LoadError) → seen ≡ loader.links.items → programs ≡ loader.programs.items → None ≡ find (is_of_program programs) seen → edges ≡ map (λ (one : code.Link). one.edge) seen → IsFirstOnCycle edges (Some index)
    → slice_get seen index ≡ Some kept → RefusesAt loader kept rules.ImportCycle error → ChecksImports loader (Err error)
cycle_refused loader seen programs edges index kept (Refused place rule) s b e d cycle k r = λ project packages h p.
    let there : slice_get loader.links.items index ≡ Some kept = ap (λ all. slice_get all index) (sym s) ∙ k in
    let at : At loader.files.items (links project packages) index kept = at_index loader.files.items loader.links.items (links project packages) index kept (links_now project packages loader h p) there in
    let place_at : (place ≡ at.link.place) × (rule ≡ rules.ImportCycle) = refused_at loader kept at.link rules.ImportCycle place rule at.same r in
    inr (
      record {
        index = index;
        link = at.link;
        no_program = no_program project packages loader h p (none_here loader seen programs s b e);
        first = subst (λ (all : List Edge). IsFirstOnCycle all (Some index)) (edges_here project packages loader seen edges s d h p) cycle;
        link_is = at.is;
        place_is = place_at.0;
      },
      place_at.1,
    )
cycle_refused loader seen programs edges index kept ReadFault s b e d cycle k r = λ project packages h p. tt
cycle_refused loader seen programs edges index kept OutOfMemory s b e d cycle k r = λ project packages h p. tt

abbrev nothing : code.Link
nothing = record { edge = record { from = 0; to = 0 }; at = record { file = 0; offset = 0 } }

pub cycle_refused_at : (loader : Loader) (seen : List code.Link) (programs : List Bool) (edges : List Edge) (index : ℕ) (error : LoadError) → seen ≡ loader.links.items → programs ≡ loader.programs.items → None ≡ find (is_of_program programs) seen → edges ≡ map (λ (one : code.Link). one.edge) seen → IsFirstOnCycle edges (Some index)
    → RefusesAt loader (get_or seen index nothing) rules.ImportCycle error → ChecksImports loader (Err error)
cycle_refused_at loader seen programs edges index error s b e d cycle r =
    cycle_refused loader seen programs edges index (get_or seen index nothing) error s b e d cycle (slice_get-get_or seen index nothing (in_links seen edges index d cycle)) r

pub imports_sound : (loader : Loader) (seen : List code.Link) (programs : List Bool) (edges : List Edge) → seen ≡ loader.links.items → programs ≡ loader.programs.items → None ≡ find (is_of_program programs) seen → edges ≡ map (λ (one : code.Link). one.edge) seen → IsFirstOnCycle edges None → ChecksImports loader (Ok tt)
imports_sound loader seen programs edges s b e d cycle = λ project packages h p. record {
  no_program = no_program project packages loader h p (none_here loader seen programs s b e);
  no_cycle = subst (λ (all : List Edge). IsFirstOnCycle all None) (edges_here project packages loader seen edges s d h p) cycle;
}
