-- Turns of loops over the items of a text.
use Rattle.std.proofs.Common.{◌≡◌, ℕ, zero, suc, ◌+◌, ◌-◌, ◌<◌, ◌≤◌, Bool, Option, Some, None, is_none, List, [], ◌∷◌, ◌++◌, length, take, drop, ap, sym, ◌∙◌, arith, length-drop, drop-drop, take_all, append_assoc, get_or, if◌then◌else◌}
use Rattle.std.specs.Prelude.{unwrap_or, find, filter, flat_map, option_map}
use Rattle.go_ast.specs.Characters.{rests}
use Rattle.go_ast.specs.Literals.{Item, width_of, item_rests, first_bad, item, bytes_of}
use Rattle.go_ast.specs.Pieces.{fault_at, bad_rule}
use Rattle.go_scan.specs.declared.items.Item.{Item as CodeItem}
use Rattle.go_scan.specs.declared.items.Reading.{Reading}
use Rattle.go_scan.specs.Reading.{reading, view_item}
use Rattle.go_scan.proofs.Parts.{rests-skip}
use Rattle.go_scan.proofs.Steps.{drop-end, drop-step}

-- the first rest is the text itself, and the others are those of what follows its first part
pub rests-first : (step : List ℕ → Option ℕ) (text : List ℕ) (width : ℕ) → unwrap_or (step text) 1 ≡ width → 1 ≤ width → 1 ≤ length text → rests step 0 text ≡ text ∷ rests step 0 (drop width text)
rests-first step [] width e l h = absurd (omega arith)
rests-first step (byte ∷ text) zero e l h = absurd (omega arith)
rests-first step (byte ∷ text) (suc left) e l h =
    let less : unwrap_or (step (byte ∷ text)) 1 - 1 ≡ left = omega (arith, e) in
    ap (λ n. (byte ∷ text) ∷ rests step n text) less ∙ ap (λ r. (byte ∷ text) ∷ r) (rests-skip step left text)

pub rests-turn : (step : List ℕ → Option ℕ) (text : List ℕ) (at width : ℕ) → unwrap_or (step (drop at text)) 1 ≡ width → 1 ≤ width → at < length text → rests step 0 (drop at text) ≡ drop at text ∷ rests step 0 (drop (at + width) text)
rests-turn step text at width e l h =
    rests-first step (drop at text) width e l (omega (arith, length-drop at text))
    ∙ ap (λ r. drop at text ∷ rests step 0 r) (drop-drop width at text)

-- ---- counting items

pub rest-is : (text : List ℕ) (at : ℕ) → take (length text - at) (drop at text) ≡ drop at text
rest-is text at = take_all (length text - at) (drop at text) (omega (arith, length-drop at text))

pub record IsCounted (read : List ℕ → Option Item) (text : List ℕ) (at width : ℕ) : Type 0 where
  pub bad : first_bad read (drop at text) ≡ first_bad read (drop (at + width) text)
  pub count : length (item_rests read (drop at text)) ≡ 1 + length (item_rests read (drop (at + width) text))

pub count-turn : (read : List ℕ → Option Item) (text : List ℕ) (at : ℕ) (it : Item) → at < length text → 1 ≤ it.width → read (take (length text - at) (drop at text)) ≡ Some it → IsCounted read text at it.width
count-turn read text at it h l e =
    let found : read (drop at text) ≡ Some it = ap read (sym (rest-is text at)) ∙ e in
    let turn = rests-turn (λ rest. width_of (read rest)) text at it.width (ap (λ o. unwrap_or (width_of o) 1) found) l h in
    record {
      bad = ap (λ r. find (λ rest. is_none (read rest)) r) turn
          ∙ ap (λ o. if is_none o then Some (drop at text) else first_bad read (drop (at + it.width) text)) found;
      count = ap length turn ∙ omega arith;
    }

pub count-bad : (read : List ℕ → Option Item) (text : List ℕ) (at : ℕ) → at < length text → read (take (length text - at) (drop at text)) ≡ None → first_bad read (drop at text) ≡ Some (drop at text)
count-bad read text at h e =
    let found : read (drop at text) ≡ None = ap read (sym (rest-is text at)) ∙ e in
    let turn = rests-turn (λ rest. width_of (read rest)) text at 1 (ap (λ o. unwrap_or (width_of o) 1) found) (omega arith) h in
    ap (λ r. find (λ rest. is_none (read rest)) r) turn
    ∙ ap (λ o. if is_none o then Some (drop at text) else first_bad read (drop (at + 1) text)) found

pub fault-here : (text : List ℕ) (at : ℕ) → at < length text → fault_at text (Some (drop at text)) ≡ Some (record { at = at; rule = bad_rule (drop at text) })
fault-here text at h =
    let place : length text - length (drop at text) ≡ at = omega (arith, length-drop at text) in
    ap (λ n. Some (record { at = n; rule = bad_rule (drop at text) })) place

pub count-over : (read : List ℕ → Option Item) (text : List ℕ) (at : ℕ) → length text ≤ at → (first_bad read (drop at text) ≡ None) × (length (item_rests read (drop at text)) ≡ 0)
count-over read text at h = (ap (first_bad read) (drop-end text at h), ap (λ r. length (item_rests read r)) (drop-end text at h))

pub view-some : (how : Reading) (rest : List ℕ) (result : Option CodeItem) (it : CodeItem) → option_map view_item result ≡ reading how rest → result ≡ Some it → reading how rest ≡ Some (view_item it)
view-some how rest result it e f = sym e ∙ ap (option_map view_item) f

pub view-none : (how : Reading) (rest : List ℕ) (result : Option CodeItem) → option_map view_item result ≡ reading how rest → result ≡ None → reading how rest ≡ None
view-none how rest result e f = sym e ∙ ap (option_map view_item) f

-- ---- the value of a string

abbrev pub string_bytes_of : List ℕ → List ℕ
string_bytes_of rest = bytes_of rest (item 34 rest)

pub value-turn : (text : List ℕ) (at width : ℕ) (old new : List ℕ) → at < length text → 1 ≤ width
    → width ≡ unwrap_or (width_of (item 34 (take (length text - at) (drop at text)))) 1
    → new ≡ old ++ string_bytes_of (take (length text - at) (drop at text))
    → old ++ flat_map string_bytes_of (item_rests (item 34) (drop at text)) ≡ new ++ flat_map string_bytes_of (item_rests (item 34) (drop (at + width) text))
value-turn text at width old new h l w pushed =
    let more = flat_map string_bytes_of (item_rests (item 34) (drop (at + width) text)) in
    let here : unwrap_or (width_of (item 34 (drop at text))) 1 ≡ width = ap (λ rest. unwrap_or (width_of (item 34 rest)) 1) (sym (rest-is text at)) ∙ sym w in
    let turn = rests-turn (λ rest. width_of (item 34 rest)) text at width here l h in
    let put : new ≡ old ++ string_bytes_of (drop at text) = pushed ∙ ap (λ rest. old ++ string_bytes_of rest) (rest-is text at) in
    ap (λ r. old ++ flat_map string_bytes_of r) turn
    ∙ sym (append_assoc old (string_bytes_of (drop at text)) more) ∙ ap (λ xs. xs ++ more) (sym put)

pub value-over : (text : List ℕ) (at : ℕ) → length text ≤ at → flat_map string_bytes_of (item_rests (item 34) (drop at text)) ≡ []
value-over text at h = ap (λ r. flat_map string_bytes_of (item_rests (item 34) r)) (drop-end text at h)

pub raw-turn : (keep : ℕ → Bool) (text : List ℕ) (at : ℕ) → at < length text → filter keep (drop at text) ≡ (if keep (get_or text at 0) then get_or text at 0 ∷ filter keep (drop (at + 1) text) else filter keep (drop (at + 1) text))
raw-turn keep text at h = ap (filter keep) (drop-step text at h)

pub raw-over : (keep : ℕ → Bool) (text : List ℕ) (at : ℕ) → length text ≤ at → filter keep (drop at text) ≡ []
raw-over keep text at h = ap (filter keep) (drop-end text at h)

pub ruleset raw_turns = (raw-turn, raw-over)
