-- What a loader holds once a package is added.
use Rattle.std.proofs.Common.{◌≡◌, ℕ, zero, suc, ◌+◌, ◌-◌, Bool, true, false, List, [], ◌∷◌, ◌++◌, length, map, if◌then◌else◌, Some, Vec, string_bytes, slice_get, refl, sym, ap, ◌∙◌, subst, arith}
use Rattle.std.proofs.lemmas.List.{append-nil, length-append, length-map, map-append}
use Rattle.std.proofs.lemmas.List.Elements.{recursion_from_All}
use Rattle.std.specs.List.{AllByRecursion, AllZip, flat_map, fold, sum_by}
use Rattle.std.specs.declared.alloc.Global.{Global}
use Rattle.go_sources.specs.declared.sources.Import as numbers
use Rattle.go_sources.specs.declared.sources.SourceFile.{SourceFile}
use Rattle.go_sources.specs.declared.sources.SourcePackage.{SourcePackage}
use Rattle.go_finding.specs.declared.found.Entry.{Entry}
use Rattle.go_finding.specs.declared.found.Found.{Found}
use Rattle.go_finding.specs.declared.links.Link as code
use Rattle.go_load.specs.declared.loader.Loader.{Loader}
use Rattle.go_load.specs.FileReading.{AreOf}
use Rattle.go_finding.specs.Finding.{view_file, view_origin, AreRight, listed, numbered, numbered_files}
use Rattle.go_finding.specs.Imports.{Import}
use Rattle.go_load.specs.Loading.{view_source, files_from, header, headers_from, IsLink, AreKnown, Holds, told_package, AddsPackage}
use Rattle.go_finding.specs.Linking.{all_imports, imports_of_each, imports_of_all, kept_in_file, kept_links}
use Rattle.go_finding.specs.Programs.{File, Package, Link, import_files, imports_in, imports_of_package, with_import, link_of, links_of_file, links_from, size, are_program}
use Rattle.go_finding.specs.Projects.{Project, is_built_in}
use Rattle.go_load.proofs.Fronts.{fold_append, imports_more, flat_more}
use Rattle.go_load.proofs.Growth.{Grows, grows_by_imports, all_known, known_both, known_now, same_imports, same_links}

assoc : {A : Type 0} (a b c : List A) → (a ++ b) ++ c ≡ a ++ (b ++ c)
assoc [] b c = refl
assoc (x ∷ a) b c = ap (λ zs. x ∷ zs) (assoc a b c)

-- ---- files

files_more : (number : ℕ) (packages : List Package) (one : Package) (n : ℕ) → number + length packages ≡ n → files_from number (packages ++ one ∷ []) ≡ files_from number packages ++ map (λ file. (file, n)) one.files
files_more number [] one n e =
    let same : number ≡ n = omega arith in
    append-nil (map (λ file. (file, number)) one.files) ∙ ap (λ m. map (λ (file : File). (file, m)) one.files) same
files_more number (first ∷ packages) one n e =
    let next : (number + 1) + length packages ≡ n = omega arith in
    ap (λ zs. map (λ (file : File). (file, number)) first.files ++ zs) (files_more (number + 1) packages one n next)
    ∙ sym (assoc (map (λ (file : File). (file, number)) first.files) (files_from (number + 1) packages) (map (λ (file : File). (file, n)) one.files))

sources_of : (number : ℕ) (sources : List SourceFile) → AllByRecursion (λ (source : SourceFile). source.package ≡ number) sources → map view_source sources ≡ map (λ (file : File). (file, number)) (map view_file sources)
sources_of number [] h = refl
sources_of number (source ∷ sources) h = λ i. (view_file source, h.0 i) ∷ sources_of number sources h.1 i

-- ---- packages as they are told

abbrev total : List Package → ℕ
total [] = 0
total (one ∷ packages) = length one.files + total packages

headers_more : (number first : ℕ) (packages : List Package) (one : Package) (n m : ℕ) → number + length packages ≡ n → first + total packages ≡ m → headers_from number first (packages ++ one ∷ []) ≡ headers_from number first packages ++ header n m one ∷ []
headers_more number first [] one n m e f =
    let same : number ≡ n = omega arith in
    let at : first ≡ m = omega arith in
    λ i. header (same i) (at i) one ∷ []
headers_more number first (head ∷ packages) one n m e f =
    let next : (number + 1) + length packages ≡ n = omega arith in
    let on : (first + length head.files) + total packages ≡ m = omega arith in
    ap (λ zs. header number first head ∷ zs) (headers_more (number + 1) (first + length head.files) packages one n m next on)

length_files : (number : ℕ) (packages : List Package) → length (files_from number packages) ≡ total packages
length_files number [] = refl
length_files number (one ∷ packages) =
    length-append (map (λ (file : File). (file, number)) one.files) (files_from (number + 1) packages)
    ∙ (λ i. length-map {B = File × ℕ} one.files (λ (file : File). (file, number)) i + length_files (number + 1) packages i)

-- ---- links

zip_both : {A B : Type 0} (R : A → B → Type 0) (xs us : List A) (ys vs : List B) → AllZip R xs ys → AllZip R us vs → AllZip R (xs ++ us) (ys ++ vs)
zip_both R [] us [] vs h k = k
zip_both R [] us (y ∷ ys) vs h k = absurd h
zip_both R (x ∷ xs) us [] vs h k = absurd h
zip_both R (x ∷ xs) us (y ∷ ys) vs h k = (h.0, zip_both R xs us ys vs h.1 k)

zip_weaker : {A B : Type 0} (R S : A → B → Type 0) → ((x : A) (y : B) → R x y → S x y) → (xs : List A) (ys : List B) → AllZip R xs ys → AllZip S xs ys
zip_weaker R S f [] [] h = tt
zip_weaker R S f [] (y ∷ ys) h = h
zip_weaker R S f (x ∷ xs) [] h = h
zip_weaker R S f (x ∷ xs) (y ∷ ys) h = (f x y h.0, zip_weaker R S f xs ys h.1)

get_front : {A : Type 0} (xs ys : List A) (i : ℕ) (x : A) → slice_get xs i ≡ Some x → slice_get (xs ++ ys) i ≡ Some x
get_front [] ys i x h = cc
get_front (z ∷ xs) ys zero x h = h
get_front (z ∷ xs) ys (suc i) x h = get_front xs ys i x h

get_seam : {A : Type 0} (xs : List A) (y : A) (ys : List A) → slice_get (xs ++ y ∷ ys) (length xs) ≡ Some y
get_seam [] y ys = refl
get_seam (x ∷ xs) y ys = get_seam xs y ys

link_kept : (files more : List SourceFile) (kept : code.Link) (link : Link) → IsLink files kept link → IsLink (files ++ more) kept link
link_kept files more kept link h = record { from = h.from; to = h.to; file = h.file; file_is = get_front files more kept.at.file h.file h.file_is; place = h.place }

file_links : (files : List SourceFile) (paths : List (List ℕ)) (number at : ℕ) (source : SourceFile) → slice_get files at ≡ Some source → (imports : List Import)
    → AllZip (IsLink files) (kept_in_file number at (numbered paths imports)) (map (link_of paths number (view_file source)) imports)
file_links files paths number at source h [] = tt
file_links files paths number at source h (import ∷ imports) =
    (record { from = refl; to = refl; file = source; file_is = h; place = refl }, file_links files paths number at source h imports)

new_links : (paths : List (List ℕ)) (number : ℕ) (front sources files : List SourceFile) (first : ℕ) → files ≡ front ++ sources → first ≡ length front
    → AllZip (IsLink files) (kept_links number first (numbered_files paths (map view_file sources))) (flat_map (links_of_file paths number) (map view_file sources))
new_links paths number front [] files first e f = tt
new_links paths number front (source ∷ sources) files first e f =
    let there : slice_get files first ≡ Some source = (λ i. slice_get (e i) (f i)) ∙ get_seam front source sources in
    let head : AllZip (IsLink files) (kept_in_file number first (numbered paths (imports_in (view_file source)))) (links_of_file paths number (view_file source)) =
    file_links files paths number first source there (imports_in (view_file source)) in
    let longer : first + 1 ≡ length (front ++ source ∷ []) = let l : length (front ++ source ∷ []) ≡ length front + 1 = length-append front (source ∷ []) in omega arith in
    let rest : AllZip (IsLink files) (kept_links number (first + 1) (numbered_files paths (map view_file sources))) (flat_map (links_of_file paths number) (map view_file sources)) =
    new_links paths number (front ++ source ∷ []) sources files (first + 1) (e ∙ sym (assoc front (source ∷ []) sources)) longer in
    zip_both (IsLink files) (kept_in_file number first (numbered paths (imports_in (view_file source)))) (kept_links number (first + 1) (numbered_files paths (map view_file sources)))
    (links_of_file paths number (view_file source)) (flat_map (links_of_file paths number) (map view_file sources)) head rest

no_links : (number first : ℕ) (files : List File) → kept_links number first (map (λ file. []) files) ≡ []
no_links number first [] = refl
no_links number first (file ∷ files) = no_links number (first + 1) files

package_links : (paths : List (List ℕ)) (number : ℕ) (built_in : Bool) (front sources : List SourceFile)
    → AllZip (IsLink (front ++ sources)) (kept_links number (length front) (imports_of_all paths built_in (map view_file sources))) (flat_map (links_of_file paths number) (import_files built_in (map view_file sources)))
package_links paths number true front sources =
    subst (λ kept. AllZip (IsLink (front ++ sources)) kept []) (sym (no_links number (length front) (map view_file sources))) tt
package_links paths number false front sources = new_links paths number front sources (front ++ sources) (length front) refl refl

links_more : (paths : List (List ℕ)) (number : ℕ) (packages : List Package) (one : Package) (n : ℕ) → number + length packages ≡ n
    → links_from paths number (packages ++ one ∷ []) ≡ links_from paths number packages ++ flat_map (links_of_file paths n) (import_files one.built_in one.files)
links_more paths number [] one n e =
    let same : number ≡ n = omega arith in
    append-nil (flat_map (links_of_file paths number) (import_files one.built_in one.files)) ∙ ap (λ m. flat_map (links_of_file paths m) (import_files one.built_in one.files)) same
links_more paths number (first ∷ packages) one n e =
    let next : (number + 1) + length packages ≡ n = omega arith in
    let head : List Link = flat_map (links_of_file paths number) (import_files first.built_in first.files) in
    ap (λ zs. head ++ zs) (links_more paths (number + 1) packages one n next)
    ∙ sym (assoc head (links_from paths (number + 1) packages) (flat_map (links_of_file paths n) (import_files one.built_in one.files)))

-- ---- bytes

sum_more : (packages : List Package) (one : Package) → sum_by size (packages ++ one ∷ []) ≡ sum_by size packages + size one
sum_more packages one = fold_append (λ n (one : Package). n + size one) 0 packages (one ∷ [])

room_less : (limit sum : ℕ) (built_in : Bool) (bytes more left : ℕ) → more ≡ sum + (if built_in then 0 else bytes) → left ≡ limit - sum → (if built_in then left else left - bytes) ≡ limit - more
room_less limit sum true bytes more left e f = omega arith
room_less limit sum false bytes more left e f = omega arith

-- ---- all together

abbrev pub package_at : Entry → List SourceFile → Package
package_at entry sources = record { path = string_bytes entry.path; built_in = is_built_in (view_origin entry.origin); files = map view_file sources }

pub holds_more : (project : Project) (packages : List Package) (old new : Loader) (found : Found) (entry : Entry) (told : SourcePackage) (sources : List SourceFile) (imports : List (Vec numbers.Import Global))
    → Holds project old packages
    → AreOf (length packages) sources
    → told ≡ told_package (length packages) (length old.files.items) entry (map view_file sources)
    → listed imports ≡ imports_of_all found.paths (is_built_in (view_origin entry.origin)) (map view_file sources)
    → found.paths ≡ fold with_import old.found.paths (imports_of_package (package_at entry sources))
    → AreRight project found
    → AddsPackage (length packages) told (record old { found = found }) new sources imports
    → Holds project new (packages ++ package_at entry sources ∷ [])
holds_more project packages old new found entry told sources imports h of t l p right a = record {
  right = subst (AreRight project) (sym a.found) right;
  target = a.target ∙ h.target;
  files =
      ap (map view_source) a.files ∙ map-append view_source old.files.items sources
      ∙ (λ i. h.files i ++ sources_of (length packages) sources (recursion_from_All _ sources of) i)
      ∙ sym (files_more 0 packages one (length packages) (omega arith));
  headers =
      a.headers ∙ (λ i. h.headers i ++ (t ∙ numbered_header) i ∷ [])
      ∙ sym (headers_more 0 0 packages one (length packages) (total packages) (omega arith) (omega arith));
  imports =
      ap listed a.imports_are ∙ map-append (λ (v : Vec numbers.Import Global). v.items) old.imports.items imports
      ∙ (λ i. before i ++ now i)
      ∙ sym (flat_more (imports_of_each new.found.paths) packages one);
  links =
      subst (λ (kept : List code.Link). AllZip (IsLink new.files.items) kept (links_from new.found.paths 0 (packages ++ one ∷ []))) (sym a.links_are)
      (subst (λ (all : List Link). AllZip (IsLink new.files.items) (old.links.items ++ kept_links (length packages) (length old.files.items) (listed imports)) all) (sym (links_more new.found.paths 0 packages one (length packages) (omega arith)))
      (zip_both (IsLink new.files.items) old.links.items (kept_links (length packages) (length old.files.items) (listed imports)) (links_from new.found.paths 0 packages) (flat_map (links_of_file new.found.paths (length packages)) (import_files one.built_in one.files)) old_links now_links));
  programs = a.programs ∙ ap (λ zs. zs ++ are_program one.files ∷ []) h.programs ∙ sym (map-append (λ (p : Package). are_program p.files) packages (one ∷ []));
  left = a.left ∙ ap (λ b. if b then old.left else old.left - bytes) (ap (λ (s : SourcePackage). s.built_in) t)
      ∙ room_less project.limit (sum_by size packages) one.built_in bytes (sum_by size (packages ++ one ∷ [])) old.left (sum_more packages one) h.left;
  met =
      subst (AreKnown new.found.paths) (sym (imports_more packages one))
      (known_both new.found.paths (flat_map imports_of_package packages) (imports_of_package one)
      (all_known old.found.paths new.found.paths grows (flat_map imports_of_package packages) h.met)
      (subst (λ paths. AreKnown paths (imports_of_package one)) (sym paths_now) (known_now old.found.paths (imports_of_package one))));
}
  where
    one : Package
    one = package_at entry sources

    bytes : ℕ
    bytes = sum_by (λ (file : File). length file.bytes) (map view_file sources)

    paths_now : new.found.paths ≡ fold with_import old.found.paths (imports_of_package one)
    paths_now = ap (λ (f : Found). f.paths) a.found ∙ p

    grows : Grows old.found.paths new.found.paths
    grows = subst (Grows old.found.paths) (sym paths_now) (grows_by_imports old.found.paths (imports_of_package one))

    all_files : length old.files.items ≡ total packages
    all_files = sym (length-map old.files.items view_source) ∙ ap length h.files ∙ length_files 0 packages

    numbered_header : told_package (length packages) (length old.files.items) entry (map view_file sources) ≡ header (length packages) (total packages) one
    numbered_header = ap (λ n. header (length packages) n one) all_files

    before : listed old.imports.items ≡ all_imports new.found.paths packages
    before = h.imports ∙ sym (same_imports old.found.paths new.found.paths grows packages h.met)

    now : listed imports ≡ imports_of_each new.found.paths one
    now = l ∙ ap (λ (f : Found). imports_of_each f.paths one) (sym a.found)

    old_links : AllZip (IsLink new.files.items) old.links.items (links_from new.found.paths 0 packages)
    old_links =
        subst (λ (files : List SourceFile). AllZip (IsLink files) old.links.items (links_from new.found.paths 0 packages)) (sym a.files)
        (subst (λ (all : List Link). AllZip (IsLink (old.files.items ++ sources)) old.links.items all) (sym (same_links old.found.paths new.found.paths grows 0 packages h.met))
        (zip_weaker (IsLink old.files.items) (IsLink (old.files.items ++ sources)) (link_kept old.files.items sources) old.links.items (links_from old.found.paths 0 packages) h.links))

    now_links : AllZip (IsLink new.files.items) (kept_links (length packages) (length old.files.items) (listed imports)) (flat_map (links_of_file new.found.paths (length packages)) (import_files one.built_in one.files))
    now_links =
        subst (λ (files : List SourceFile). AllZip (IsLink files) (kept_links (length packages) (length old.files.items) (listed imports)) (flat_map (links_of_file new.found.paths (length packages)) (import_files one.built_in one.files))) (sym a.files)
        (subst (λ lists. AllZip (IsLink (old.files.items ++ sources)) (kept_links (length packages) (length old.files.items) lists) (flat_map (links_of_file new.found.paths (length packages)) (import_files one.built_in one.files))) (sym now)
        (package_links new.found.paths (length packages) one.built_in old.files.items sources))
