-- The imports of a package as they are kept, file after file.
use Rattle.std.proofs.Common.{◌≡◌, ℕ, ◌+◌, ◌<◌, List, [], ◌∷◌, ◌++◌, length, take, get_or, Vec, sym, ap, ◌∙◌, append_assoc, append-nil, arith, length-take}
use Rattle.std.proofs.lemmas.List.{map_more, length-map}
use Rattle.std.specs.declared.alloc.Global.{Global}
use Rattle.go_sources.specs.declared.sources.Import.{Import}
use Rattle.go_finding.specs.declared.links.Link.{Link}
use Rattle.go_finding.specs.Finding.{listed}
use Rattle.go_finding.specs.Linking.{kept_in_file, kept_links}

kept_links-push : (number first : ℕ) (all : List (List Import)) (imports : List Import) → kept_links number first (all ++ imports ∷ []) ≡ kept_links number first all ++ kept_in_file number (first + length all) imports
kept_links-push number first [] imports =
    let none : first ≡ first + 0 = omega arith in
    append-nil (kept_in_file number first imports) ∙ ap (λ (file : ℕ). kept_in_file number file imports) none
kept_links-push number first (one ∷ all) imports =
    let place : first + 1 + length all ≡ first + length (one ∷ all) = omega arith in
    ap (λ (links : List Link). kept_in_file number first one ++ links) (kept_links-push number (first + 1) all imports ∙ ap (λ (file : ℕ). kept_links number (first + 1) all ++ kept_in_file number file imports) place)
    ∙ sym (append_assoc (kept_in_file number first one) (kept_links number (first + 1) all) (kept_in_file number (first + length (one ∷ all)) imports))

listed-more : (all : List (Vec Import Global)) (index : ℕ) (imports : Vec Import Global) → index < length all → imports ≡ get_or all index imports → listed (take (index + 1) all) ≡ listed (take index all) ++ imports.items ∷ []
listed-more all index imports h e =
    map_more (λ (one : Vec Import Global). one.items) all index imports h ∙ ap (λ (one : Vec Import Global). listed (take index all) ++ one.items ∷ []) (sym e)

listed-length : (all : List (Vec Import Global)) (index : ℕ) → index < length all → length (listed (take index all)) ≡ index
listed-length all index h = length-map (take index all) (λ (one : Vec Import Global). one.items) ∙ omega (arith, length-take index all)

-- the imports of one more file
pub links_next : (initial links now : List Link) (number first index file : ℕ) (all : List (Vec Import Global)) (imports : Vec Import Global) → index < length all → imports ≡ get_or all index imports → file ≡ first + index → links ≡ initial ++ kept_links number first (listed (take index all)) → now ≡ links ++ kept_in_file number file imports.items → now ≡ initial ++ kept_links number first (listed (take (index + 1) all))
links_next initial links now number first index file all imports h e f before after =
    let before_it : List (List Import) = listed (take index all) in
    let place : file ≡ first + length before_it = f ∙ ap (λ (n : ℕ). first + n) (sym (listed-length all index h)) in
    let one : kept_links number first (listed (take (index + 1) all)) ≡ kept_links number first before_it ++ kept_in_file number file imports.items =
    ap (kept_links number first) (listed-more all index imports h e) ∙ kept_links-push number first before_it imports.items ∙ ap (λ (n : ℕ). kept_links number first before_it ++ kept_in_file number n imports.items) (sym place) in
    after ∙ ap (λ (kept : List Link). kept ++ kept_in_file number file imports.items) before
    ∙ append_assoc initial (kept_links number first before_it) (kept_in_file number file imports.items)
    ∙ ap (λ (more : List Link). initial ++ more) (sym one)
