-- What stands in a cell after a write in its variant.
use Rattle.std.proofs.Common.{◌≡◌, ap, sym, refl, ◌∙◌, List, [], ◌∷◌, ℕ, ℤ}
use Rattle.std.specs.Global.{Vec}
use mir.Syntax.{Ty, ty_int, w8, w128}
use denote.Signed.{SInt}
use denote.Plain.{UInt}
use denote.Builtin.{i128, u8}
use denote.Struct.Field.{row_field, i128-field, u8-field}
use denote.Struct.Laws.{i128-laws, i128-copy, u8-laws, u8-copy}
use denote.Struct.Owning as owning
use denote.Param.Laws.{row_loose, of_field}
use denote.Param.Shared.{copy_shared}
use denote.Enum.Enum.{payload, tag, layout}
use denote.Enum.Declared.{variants, intoss, shape}
use borrow.Enum.Known as known
use borrow.Enum.Known.{choose}
use borrow.Enum.Total.{values_o, peek_at}
use borrow.Enum.Lend.{put_if, put_payload_o, put_payload_o_as}
use borrow.Struct.Alike.{lies_alike}
use Rattle.std.specs.contracts.vec.Vec as vec
use Rattle.std.specs.contracts.alloc.Global as allocs
use Rattle.std.specs.contracts.impls.GlobalAllocator.TheImpl as impls
use Rattle.std.proofs.vec.Vec.TheLaws as vec_laws
use Rattle.std.proofs.alloc.Global.TheLaws as alloc_laws
use Rattle.go_store.specs.contracts.cells.Cell as contract
use Rattle.go_store.specs.contracts.cells.Cell.TheKnot as knot
use Rattle.go_store.specs.contracts.cells.Place as place_contract
use Rattle.go_store.proofs.cells.Cell.TheLaws as cell_laws
use Rattle.go_store.proofs.cells.Cell.TheLaws.TheKnot as knot_laws
use Rattle.go_store.specs.declared.cells.Cell.{Cell}
use Rattle.go_store.specs.declared.cells.Place.{Place}
use Rattle.go_store.specs.declared.cells.Cell.TheVariants as cells
use Rattle.go_store.specs.declared.cells.Cell.TheOpen.{Cell-F}
use Rattle.go_store.specs.declared.cells.Cell.TheBlock.{split-Cell, the_family}

abbrev Layer : Type 0
Layer = Cell-F Cell Place

abbrev pub put_ints : Cell → Vec ℤ → Cell
put_ints x y = put_payload_o contract.the_type 1 (vec.the_field (SInt w128) allocs.the_row impls.ghosts ∷ []) (vec_laws.the_field_loose i128 allocs.the_row impls.ghosts (of_field i128-field i128-laws (refl {A = List Ty} {a = ty_int w128 ∷ []}) (copy_shared i128-field i128-copy)) alloc_laws.the_row_laws, tt {2}) (known.at contract.enum 1)
    (λ v us i. payload (variants contract.the_type) (intoss contract.enum.parts (contract.enum.beta (choose contract.enum.parts 1 v) i)) us)
    (λ v i. tag (variants contract.the_type) (intoss contract.enum.parts (contract.enum.beta (choose contract.enum.parts 1 v) i)))
    (refl {A = Ty} {a = layout (shape contract.the_type)}) 0 8
    (values_o contract.enum 1)
    (λ x. x) x y

abbrev put_ints_by : Layer → Cell → Vec ℤ → Cell
put_ints_by layer x y = put_if contract.the_type 1 (vec.the_field (SInt w128) allocs.the_row impls.ghosts ∷ []) (vec_laws.the_field_loose i128 allocs.the_row impls.ghosts (of_field i128-field i128-laws (refl {A = List Ty} {a = ty_int w128 ∷ []}) (copy_shared i128-field i128-copy)) alloc_laws.the_row_laws, tt {2}) (known.at contract.enum 1)
    (λ v us i. payload (variants contract.the_type) (intoss contract.enum.parts (contract.enum.beta (choose contract.enum.parts 1 v) i)) us)
    (λ v i. tag (variants contract.the_type) (intoss contract.enum.parts (contract.enum.beta (choose contract.enum.parts 1 v) i)))
    (refl {A = Ty} {a = layout (shape contract.the_type)}) 0 8
    (peek_at contract.the_parts 1 (split-Cell the_family layer)) x y

pub put_ints_is : (x : Cell) (old new : Vec ℤ) → x ≡ cells.Ints old → put_ints x new ≡ cells.Ints new
put_ints_is x old new is =
    ap (λ (z : Cell). put_ints z new) is
    ∙ ap (λ (layer : Layer). put_ints_by layer (cells.Ints old) new) (cells.outs-Ints old)

abbrev pub put_bytes : Cell → Vec ℕ → Cell
put_bytes x y = put_payload_o contract.the_type 3 (vec.the_field (UInt w8) allocs.the_row impls.ghosts ∷ []) (vec_laws.the_field_loose u8 allocs.the_row impls.ghosts (of_field u8-field u8-laws (refl {A = List Ty} {a = ty_int w8 ∷ []}) (copy_shared u8-field u8-copy)) alloc_laws.the_row_laws, tt {2}) (known.at contract.enum 3)
    (λ v us i. payload (variants contract.the_type) (intoss contract.enum.parts (contract.enum.beta (choose contract.enum.parts 3 v) i)) us)
    (λ v i. tag (variants contract.the_type) (intoss contract.enum.parts (contract.enum.beta (choose contract.enum.parts 3 v) i)))
    (refl {A = Ty} {a = layout (shape contract.the_type)}) 0 8
    (values_o contract.enum 3)
    (λ x. x) x y

abbrev put_bytes_by : Layer → Cell → Vec ℕ → Cell
put_bytes_by layer x y = put_if contract.the_type 3 (vec.the_field (UInt w8) allocs.the_row impls.ghosts ∷ []) (vec_laws.the_field_loose u8 allocs.the_row impls.ghosts (of_field u8-field u8-laws (refl {A = List Ty} {a = ty_int w8 ∷ []}) (copy_shared u8-field u8-copy)) alloc_laws.the_row_laws, tt {2}) (known.at contract.enum 3)
    (λ v us i. payload (variants contract.the_type) (intoss contract.enum.parts (contract.enum.beta (choose contract.enum.parts 3 v) i)) us)
    (λ v i. tag (variants contract.the_type) (intoss contract.enum.parts (contract.enum.beta (choose contract.enum.parts 3 v) i)))
    (refl {A = Ty} {a = layout (shape contract.the_type)}) 0 8
    (peek_at contract.the_parts 3 (split-Cell the_family layer)) x y

pub put_bytes_is : (x : Cell) (old new : Vec ℕ) → x ≡ cells.Bytes old → put_bytes x new ≡ cells.Bytes new
put_bytes_is x old new is =
    ap (λ (z : Cell). put_bytes z new) is
    ∙ ap (λ (layer : Layer). put_bytes_by layer (cells.Bytes old) new) (cells.outs-Bytes old)

abbrev pub put_many : Cell → Vec Place → Cell
put_many x y = put_payload_o_as contract.the_type 2 (row_field (vec.the_row knot.hole-Place allocs.the_row impls.ghosts) ∷ []) (row_loose (vec.the_row knot.hole-Place allocs.the_row impls.ghosts) (vec_laws.the_row_laws knot.hole-Place allocs.the_row impls.ghosts knot_laws.laws-Place alloc_laws.the_row_laws), tt {2}) (known.at contract.enum 2)
    (λ v us i. payload (variants contract.the_type) (intoss contract.enum.parts (contract.enum.beta (choose contract.enum.parts 2 v) i)) us)
    (λ v i. tag (variants contract.the_type) (intoss contract.enum.parts (contract.enum.beta (choose contract.enum.parts 2 v) i)))
    (refl {A = Ty} {a = layout (shape contract.the_type)}) 0 8
    (values_o contract.enum 2)
    (owning.row (vec.the_type place_contract.the_row allocs.the_row impls.ghosts)) (λ x. x) (λ x. x) (λ y b o. lies_alike cell_laws.the_alike.1.1.0.0 y b o) (λ y b o. sym (lies_alike cell_laws.the_alike.1.1.0.0 y b o)) x y

abbrev put_many_by : Layer → Cell → Vec Place → Cell
put_many_by layer x y = put_if contract.the_type 2 (row_field (vec.the_row knot.hole-Place allocs.the_row impls.ghosts) ∷ []) (row_loose (vec.the_row knot.hole-Place allocs.the_row impls.ghosts) (vec_laws.the_row_laws knot.hole-Place allocs.the_row impls.ghosts knot_laws.laws-Place alloc_laws.the_row_laws), tt {2}) (known.at contract.enum 2)
    (λ v us i. payload (variants contract.the_type) (intoss contract.enum.parts (contract.enum.beta (choose contract.enum.parts 2 v) i)) us)
    (λ v i. tag (variants contract.the_type) (intoss contract.enum.parts (contract.enum.beta (choose contract.enum.parts 2 v) i)))
    (refl {A = Ty} {a = layout (shape contract.the_type)}) 0 8
    (peek_at contract.the_parts 2 (split-Cell the_family layer)) x y

pub put_many_is : (x : Cell) (old new : Vec Place) → x ≡ cells.Many old → put_many x new ≡ cells.Many new
put_many_is x old new is =
    ap (λ (z : Cell). put_many z new) is
    ∙ ap (λ (layer : Layer). put_many_by layer (cells.Many old) new) (cells.outs-Many old)
