-- How the code holds the lines of a listing, and what waits to be written.
use Rattle.std.specs.Prelude.{◌≡◌, ℕ, zero, suc, List, [], ◌∷◌, ◌++◌, Option, Some}
use Rattle.std.specs.Io.KnownBytes.{Appends}
use Rattle.go_base.specs.declared.place.Pos.{Pos}
use Rattle.go_sources.specs.declared.sources.SourceFile.{SourceFile}
use Rattle.cg_listing.specs.declared.rows.Row.{Row}
use Rattle.cg_listing.specs.Listing.{Line, site_text}

abbrev pub line_of_row : Row → Line
line_of_row r =
    record {
      caller = r.caller.now;
      path = r.path.now;
      site = record { file = r.file; offset = r.offset };
      callee = r.callee.now;
    }

-- if a site was named, this is its text
abbrev pub IsNamed : List SourceFile → Option Pos → List ℕ → Type 0
IsNamed files site text = (at : Pos) → site ≡ Some at → text ≡ site_text files at

-- a front of what waited was written, and the rest waits
pub record Flushes (old new : Option (List ℕ)) (waited waits : List ℕ) : Type 0 where
  pub front : List ℕ
  pub parts : waited ≡ front ++ waits
  pub appends : Appends old new front

-- the texts of the numbers below n, in order
abbrev pub texts_below : (ℕ → List ℕ) → ℕ → List (List ℕ)
texts_below text zero = []
texts_below text (suc n) = texts_below text n ++ text n ∷ []
