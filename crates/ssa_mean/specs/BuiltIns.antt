-- Built-in functions. Go specification, "Built-in functions".
use Rattle.std.specs.Prelude.{ℕ, min, Bool, true, false, List, [], ◌∷◌, pos, int_lt, Option, Some, None}
use Rattle.std.specs.Prelude.{length, map, take, replicate, if◌then◌else◌}
use Rattle.std.specs.Cmp.Lexicographic.{slice_cmp}
use Rattle.std.specs.Ordering.{nat_cmp, is_lt}
use Rattle.std.specs.Option.{option_map}
use Rattle.go_base.specs.declared.ids.TypeId.{TypeId}
use Rattle.go_maps.specs.Entries.{cleared, count_in}
use Rattle.go_sched.specs.Goroutines.{State, meant, queue_length, size_of}
use Rattle.go_store.specs.Arrays.{array_of}
use Rattle.go_store.specs.Conversions.{numbers_of}
use Rattle.go_store.specs.Slices.{later, has_room, elements_of, with_run_in, append_fault, appended_slice, grown_array}
use Rattle.go_store.specs.Slices.{copy_count, copied}
use Rattle.go_store.specs.Stores.{Stored, made}
use Rattle.go_type.specs.Same.{same_id}
use Rattle.go_type.specs.declared.operators.Builtin.{Builtin}
use Rattle.go_type.specs.declared.operators.Builtin.TheVariants as builtin
use Rattle.go_type.specs.declared.term.Basic.TheVariants as basic
use Rattle.go_type.specs.declared.term.TypeTerm.{TypeTerm}
use Rattle.go_type.specs.declared.term.TypeTerm.TheVariants as term
use Rattle.go_value.specs.Values.{Val, number, text, slice, map_number, chan_number}
use Rattle.go_value.specs.Zeros.{zeroed}
use Rattle.go_value.specs.declared.address.SliceValue.{SliceValue}
use Rattle.go_value.specs.declared.faults.Fault.{Fault}
use Rattle.ssa_ir.specs.declared.code.Code.{Code}
use Rattle.ssa_ir.specs.declared.code.Function.{Function}
use Rattle.ssa_ir.specs.declared.operands.Operand.{Operand}
use Rattle.ssa_mean.specs.Answers.{Answers}
use Rattle.ssa_mean.specs.Comes.{Comes, to, faults, nowhere, then_to, where_some, of_option}
use Rattle.ssa_mean.specs.Conversions.{are_bytes}
use Rattle.ssa_mean.specs.Making.{leaves_of}
use Rattle.ssa_mean.specs.MapCalls.{entries_of, map_changed, deleted}
use Rattle.ssa_mean.specs.Operands.{term_of, element_in}
use Rattle.ssa_mean.specs.State.{BuiltIn, appends_items, appends_slice, appends_text, clears_slice, plain}
use Rattle.ssa_mean.specs.Texts.{printed_all, printed_line}
use Rattle.ssa_mean.specs.Zeros.{zero_of}

-- ---- which of them is meant, by the types of the operands

abbrev pub is_slice_of : TypeId → Option TypeTerm → Bool
is_slice_of elem (Some (term.Slice of)) = same_id elem of
is_slice_of elem _ = false

abbrev pub is_text_term : Option TypeTerm → Bool
is_text_term (Some (term.Basic basic.Text)) = true
is_text_term _ = false

-- what is appended to a slice: a second operand that is a slice of its elements, or a string to bytes, stands for its
-- elements; all other operands are items
abbrev pub append_of : Code → TypeId → ℕ → Option TypeTerm → BuiltIn
append_of code elem leaves second =
    if is_slice_of elem second then appends_slice leaves
    else (if is_text_term second
    then (if are_bytes code.types (Some elem) then appends_text leaves else appends_items leaves)
    else appends_items leaves)

abbrev pub append_to : Code → Function → TypeId → List Operand → BuiltIn
append_to code function elem (first ∷ second ∷ []) =
    append_of code elem (leaves_of code.types elem) (term_of code function second)
append_to code function elem _ = appends_items (leaves_of code.types elem)

abbrev pub first_term : Code → Function → List Operand → Option TypeTerm
first_term code function [] = None
first_term code function (first ∷ others) = term_of code function first

abbrev pub clear_of : Code → Option TypeTerm → Option BuiltIn
clear_of code (Some (term.Slice elem)) = option_map clears_slice (zero_of code elem)
clear_of code _ = Some (plain builtin.Clear)

abbrev pub built_in_of : Code → Function → Builtin → List Operand → Option BuiltIn
built_in_of code function builtin.Append operands =
    option_map (λ elem. append_to code function elem operands) (element_in (first_term code function operands))
built_in_of code function builtin.Clear operands = clear_of code (first_term code function operands)
built_in_of code function it operands = Some (plain it)

-- ---- what a call gives: a value or none, the store after it, and what is written

pub record Done : Type 0 where
  pub value : Option Val
  pub store : Stored
  pub written : List ℕ

abbrev pub gives : Stored → Val → Done
gives store it = record { value = Some it; store = store; written = [] }

abbrev pub changes : Stored → Done
changes store = record { value = None; store = store; written = [] }

abbrev pub writes : Stored → List ℕ → Done
writes store bytes = record { value = None; store = store; written = bytes }

-- ---- "Appending to and copying slices"

-- the store after items are appended to a slice
abbrev pub appended : ℕ → Stored → SliceValue → List Val → Stored
appended leaves store it [] = store
appended leaves store it (first ∷ items) =
    if has_room it (length (first ∷ items))
    then with_run_in (array_of (first ∷ items)) store (later it.at it.len)
    else made store (grown_array leaves store it (first ∷ items) (zeroed first))

abbrev pub append_where : Option Fault → Done → Comes Done
append_where (Some fault) done = faults fault
append_where None done = to done

abbrev pub append : ℕ → Stored → SliceValue → List Val → Comes Done
append leaves store it items =
    append_where (append_fault leaves it (length items))
    (record {
      value = Some (slice (appended_slice leaves store it (length items)));
      store = appended leaves store it items;
      written = [];
    })

abbrev pub append_items : ℕ → Stored → List Val → Comes Done
append_items leaves store (slice it ∷ items) = append leaves store it items
append_items leaves store _ = nowhere

abbrev pub append_all : ℕ → Stored → SliceValue → Val → Comes Done
append_all leaves store it (slice more) = where_some (append leaves store it) (elements_of store more)
append_all leaves store it (text bytes) = append leaves store it (map number (numbers_of bytes))
append_all leaves store it _ = nowhere

abbrev pub append_elements : ℕ → Stored → List Val → Comes Done
append_elements leaves store (slice it ∷ more ∷ []) = append_all leaves store it more
append_elements leaves store _ = nowhere

-- the store with items in the first places of a slice
abbrev pub overwritten_from : Stored → SliceValue → List Val → Stored
overwritten_from store it [] = store
overwritten_from store it (first ∷ items) = with_run_in (array_of (first ∷ items)) store it.at

abbrev pub copy_from : Stored → SliceValue → Val → Comes Done
copy_from store into (slice from) =
    to (record {
      value = Some (number (pos (copy_count into from)));
      store = copied store into from;
      written = [];
    })
copy_from store into (text bytes) =
    to (record {
      value = Some (number (pos (min into.len (length bytes))));
      store = overwritten_from store into (take into.len (map number (numbers_of bytes)));
      written = [];
    })
copy_from store into _ = nowhere

abbrev pub copy : Stored → List Val → Comes Done
copy store (slice into ∷ from ∷ []) = copy_from store into from
copy store _ = nowhere

-- ---- "Clear" and "Deletion of map elements"

abbrev pub clear_slice : Stored → Val → List Val → Comes Done
clear_slice store zero_value (slice it ∷ []) =
    to (changes (overwritten_from store it (replicate it.len zero_value)))
clear_slice store zero_value _ = nowhere

abbrev pub clear_map : Stored → List Val → Comes Done
clear_map store (map_number id ∷ []) = to (changes (map_changed cleared store id))
clear_map store _ = nowhere

abbrev pub delete : Answers → Stored → List Val → Comes Done
delete answers store (map_number id ∷ key ∷ []) = then_to changes (deleted answers.comparable store id key)
delete answers store _ = nowhere

-- ---- "Length and capacity"

abbrev pub length_of : Stored → State → Val → Option ℕ
length_of store sched (slice it) = Some it.len
length_of store sched (text bytes) = Some (length bytes)
length_of store sched (map_number id) = Some (count_in (entries_of store id))
length_of store sched (chan_number id) = Some (queue_length (meant sched id))
length_of store sched _ = None

abbrev pub capacity_of : State → Val → Option ℕ
capacity_of sched (slice it) = Some it.cap
capacity_of sched (chan_number id) = Some (size_of (meant sched id))
capacity_of sched _ = None

abbrev pub counted : Stored → (Val → Option ℕ) → List Val → Comes Done
counted store count (it ∷ []) = then_to (λ n. gives store (number (pos n))) (of_option (count it))
counted store count _ = nowhere

-- ---- "Min and max"

abbrev pub is_less : Val → Val → Bool
is_less (number a) (number b) = int_lt a b
is_less (text a) (text b) = is_lt (slice_cmp nat_cmp a b)
is_less _ _ = false

abbrev pub least_of : Val → List Val → Val
least_of best [] = best
least_of best (it ∷ others) = least_of (if is_less it best then it else best) others

abbrev pub greatest_of : Val → List Val → Val
greatest_of best [] = best
greatest_of best (it ∷ others) = greatest_of (if is_less best it then it else best) others

abbrev pub extreme : Stored → (Val → List Val → Val) → List Val → Comes Done
extreme store best [] = nowhere
extreme store best (first ∷ others) = to (gives store (best first others))

-- ---- a call of one that neither switches nor panics nor recovers

abbrev pub plain_call : Answers → Stored → State → Builtin → List Val → Comes Done
plain_call answers store sched builtin.Cap arguments = counted store (capacity_of sched) arguments
plain_call answers store sched builtin.Len arguments = counted store (length_of store sched) arguments
plain_call answers store sched builtin.Clear arguments = clear_map store arguments
plain_call answers store sched builtin.Copy arguments = copy store arguments
plain_call answers store sched builtin.Delete arguments = delete answers store arguments
plain_call answers store sched builtin.Max arguments = extreme store greatest_of arguments
plain_call answers store sched builtin.Min arguments = extreme store least_of arguments
plain_call answers store sched builtin.Print arguments = to (writes store (printed_all arguments))
plain_call answers store sched builtin.Println arguments = to (writes store (printed_line arguments))
plain_call answers store sched _ arguments = nowhere

abbrev pub built_in_call : Answers → Stored → State → BuiltIn → List Val → Comes Done
built_in_call answers store sched (appends_items leaves) arguments = append_items leaves store arguments
built_in_call answers store sched (appends_slice leaves) arguments = append_elements leaves store arguments
built_in_call answers store sched (appends_text leaves) arguments = append_elements leaves store arguments
built_in_call answers store sched (clears_slice zero_value) arguments = clear_slice store zero_value arguments
built_in_call answers store sched (plain it) arguments = plain_call answers store sched it arguments
