-- Which declarations edges lead back to, and what is violated there.
use Rattle.std.proofs.Common.{◌≡◌, ◌⊎◌, ◌↔◌, ◌<◌, ◌≤◌, ◌+◌, ◌∙◌, inl, inr, sym, refl, ap, subst, ℕ, zero, suc, Bool, true, false, ◌&&◌, ◌||◌, List, [], ◌∷◌, ◌++◌, Option, Some, None, length, replicate, slice_get, slice_index, drop, get_or, append_assoc, arith}
use Rattle.std.proofs.Math.ListN.{set}
use Rattle.std.proofs.lemmas.List.{length-map, length-set}
use Rattle.go_base.specs.declared.rule.Rule.{Rule}
use Rattle.go_base.specs.declared.rule.Rule.TheVariants.{DeclarationRefersToItself, InvalidRecursiveType}
use Rattle.go_graph.specs.Graph.{IsAmong, IsGraph, Reaches, StandsOn, along, here, next}
use Rattle.go_graph.specs.Marks.{AreMarks, marked}
use Rattle.go_graph.proofs.Lists.{among_left, among_right, among_split, before_or, get_some, get_within, same_or}
use Rattle.go_graph.proofs.MarkLaws.{marked_none, marked_set_on, marked_set_other, marked_set_same, marked_within, length_none, reach_down}
use Rattle.decl_nodes.specs.declared.bases.TypeFact.{TypeFact}
use Rattle.decl_nodes.specs.declared.nodes.Node.{Node}
use Rattle.decl_nodes.specs.declared.tables.Declaration.{Declaration}
use Rattle.decl_nodes.specs.declared.tables.Tie.{Tie}
use Rattle.decl_nodes.specs.declared.violations.Violation.{Violation}
use Rattle.decl_nodes.specs.Edges.{IsOrder, with_edge}
use Rattle.decl_nodes.specs.Numbered.{Numbered}
use Rattle.decl_nodes.specs.Violated.{violated_at}
use Rattle.decl_rules.specs.declared.edges.Edge.{Edge}
use Rattle.decl_rules.specs.Cycles.{HaveEdges, IsCycleViolation, IsLength, IsRecursive, LeadsTo, RefersToItself, StandsByLength, aliased, canon_of, cycles_below, declared_edges, edge_to, holds, is_constant, is_marked_in, is_type, length_of, lengths_marked, mark_at, mark_length, more, once, recursive_type, self_reference, tied, violations_if}
use Rattle.decl_rules.proofs.Following.{next_past}
use Rattle.decl_rules.proofs.Loops.{drop_or}

-- ---- the graph of edges

-- edges that are added one after the other
abbrev pub with_all : List Edge → List (List ℕ) → List (List ℕ)
with_all [] rows = rows
with_all (e ∷ edges) rows = with_all edges (with_edge e.from e.to rows)

among_end : (y t : ℕ) (xs : List ℕ) → IsAmong y (xs ++ t ∷ []) → IsAmong y xs ⊎ (y ≡ t)
among_end y t [] (inl e) = inr e
among_end y t [] (inr h) = absurd h
among_end y t (x ∷ xs) (inl e) = inl (inl e)
among_end y t (x ∷ xs) (inr h) = elim (among_end y t xs h) [ inl a ↦ inl (inr a) | inr b ↦ inr b ]

edge_back : (rows : List (List ℕ)) (i t x y : ℕ) → IsAmong y (next (with_edge i t rows) x) → IsAmong y (next rows x) ⊎ ((x ≡ i) × (y ≡ t))
edge_back [] i t x y h = inl h
edge_back (r ∷ rows) zero t zero y h = elim (among_end y t r h) [ inl a ↦ inl a | inr b ↦ inr (refl, b) ]
edge_back (r ∷ rows) zero t (suc x) y h = inl h
edge_back (r ∷ rows) (suc i) t zero y h = inl h
edge_back (r ∷ rows) (suc i) t (suc x) y h = elim (edge_back rows i t x y h) [ inl a ↦ inl a | inr b ↦ inr (ap suc b.0, b.1) ]

edge_keeps : (rows : List (List ℕ)) (i t x y : ℕ) → IsAmong y (next rows x) → IsAmong y (next (with_edge i t rows) x)
edge_keeps [] i t x y h = h
edge_keeps (r ∷ rows) zero t zero y h = among_left y r (t ∷ []) h
edge_keeps (r ∷ rows) zero t (suc x) y h = h
edge_keeps (r ∷ rows) (suc i) t zero y h = h
edge_keeps (r ∷ rows) (suc i) t (suc x) y h = edge_keeps rows i t x y h

edge_new : (rows : List (List ℕ)) (i t : ℕ) → i < length rows → IsAmong t (next (with_edge i t rows) i)
edge_new [] i t less = absurd (omega arith)
edge_new (r ∷ rows) zero t less = among_right t r (t ∷ []) (inl refl)
edge_new (r ∷ rows) (suc i) t less = edge_new rows i t (omega arith)

abbrev edge : ℕ → ℕ → Edge
edge x y = record { from = x; to = y }

all_back : (edges : List Edge) (rows : List (List ℕ)) (x y : ℕ) → IsAmong y (next (with_all edges rows) x) → IsAmong y (next rows x) ⊎ IsAmong (edge x y) edges
all_back [] rows x y h = inl h
all_back (e ∷ edges) rows x y h = elim (all_back edges (with_edge e.from e.to rows) x y h) [
  | inr later ↦ inr (inr later)
  | inl before ↦ elim (edge_back rows e.from e.to x y before) [
    | inl old ↦ inl old
    | inr new ↦ inr (inl (ap (λ n. edge n y) new.0 ∙ ap (λ n. edge e.from n) new.1))
  ]
]

all_keep : (edges : List Edge) (rows : List (List ℕ)) (x y : ℕ) → IsAmong y (next rows x) → IsAmong y (next (with_all edges rows) x)
all_keep [] rows x y h = h
all_keep (e ∷ edges) rows x y h = all_keep edges (with_edge e.from e.to rows) x y (edge_keeps rows e.from e.to x y h)

edge_size : (rows : List (List ℕ)) (i t : ℕ) → length (with_edge i t rows) ≡ length rows
edge_size rows i t = length-set rows i (next rows i ++ t ∷ [])

all_size : (edges : List Edge) (rows : List (List ℕ)) → length (with_all edges rows) ≡ length rows
all_size [] rows = refl
all_size (e ∷ edges) rows = all_size edges (with_edge e.from e.to rows) ∙ edge_size rows e.from e.to

all_there : (edges : List Edge) (rows : List (List ℕ)) (x y : ℕ) → x < length rows → IsAmong (edge x y) edges → IsAmong y (next (with_all edges rows) x)
all_there [] rows x y less h = absurd h
all_there (e ∷ edges) rows x y less (inl is) =
    let from : x ≡ e.from = ap (λ (f : Edge). f.from) is in
    let to : y ≡ e.to = ap (λ (f : Edge). f.to) is in
    let new = edge_new rows e.from e.to (subst (λ n. n < length rows) from less) in
    all_keep edges (with_edge e.from e.to rows) x y (subst (λ n. IsAmong y (next (with_edge e.from e.to rows) n)) (sym from) (subst (λ n. IsAmong n (next (with_edge e.from e.to rows) e.from)) (sym to) new))
all_there (e ∷ edges) rows x y less (inr later) =
    let size = edge_size rows e.from e.to in
    all_there edges (with_edge e.from e.to rows) x y (omega arith) later

none_next : (n x : ℕ) → next (replicate n []) x ≡ []
none_next zero x = refl
none_next (suc n) zero = refl
none_next (suc n) (suc x) = none_next n x

none_size : (n : ℕ) → length (replicate {A = List ℕ} n []) ≡ n
none_size zero = refl
none_size (suc n) = ap suc (none_size n)

pub have_edges : (count : ℕ) (edges : List Edge) (rows : List (List ℕ)) → rows ≡ with_all edges (replicate count []) → HaveEdges count edges rows
have_edges count edges rows is = record {
  size = ap length is ∙ all_size edges (replicate count []) ∙ none_size count;
  sound = λ x y h. elim (all_back edges (replicate count []) x y (subst (λ l. IsAmong y (next l x)) is h)) [
    | inl old ↦ absurd (subst (IsAmong y) (none_next count x) old)
    | inr new ↦ new
  ];
  complete = λ x y less h. (let size = none_size count in subst (λ l. IsAmong y (next l x)) (sym is) (all_there edges (replicate count []) x y (omega arith) h));
}

-- ---- what edges lead back to

module _ (count : ℕ) (edges : List Edge) (rows : List (List ℕ)) (have : HaveEdges count edges rows) (graph : IsGraph rows) where
  leads : (x y z : ℕ) → IsAmong y (next rows x) → Reaches (next rows) y z → LeadsTo edges x z
  leads x y z first here = once (have.sound x y first)
  leads x y z first (along {y = w} second rest) = more (have.sound x y first) (leads y w z second rest)

  stands : (x z : ℕ) → x < count → LeadsTo edges x z → StandsOn (next rows) x z
  stands x z less (once h) = record { part = z; is_part = have.complete x z less h; rest = here }
  stands x z less (more {y = y} h rest) =
      let first = have.complete x y less h in
      let size = have.size in
      let low = graph x y first in
      let then = stands y z (omega arith) rest in
      record { part = y; is_part = first; rest = along then.is_part then.rest }

  pub circles : (marks : List Bool) → AreMarks (length rows) (λ x. StandsOn (next rows) x x) marks → AreMarks count (λ x. LeadsTo edges x x) marks
  circles marks are = record {
    size = are.size ∙ have.size;
    sound = λ x h. (let s = are.sound x h in leads x s.part x s.is_part s.rest);
    complete = λ x less h. (let size = have.size in are.complete x (omega arith) (stands x x less h));
  }

-- ---- edges that are listed one after the other

pub declared_more : (facts : List TypeFact) (n : ℕ) (d : TypeFact) (old new all : List Edge) → n < length facts → new ≡ old ++ edge_to n (canon_of facts (get_or facts n d).target) → old ++ declared_edges facts n (drop n facts) ≡ all
    → new ++ declared_edges facts (n + 1) (drop (n + 1) facts) ≡ all
declared_more facts n d old new all less made so_far =
    ap (λ l. l ++ declared_edges facts (n + 1) (drop (n + 1) facts)) made
    ∙ append_assoc old (edge_to n (canon_of facts (get_or facts n d).target)) (declared_edges facts (n + 1) (drop (n + 1) facts))
    ∙ ap (λ l. old ++ declared_edges facts n l) (sym (drop_or facts n d less)) ∙ so_far

-- ---- marks by a test

pub marks_by : (n : ℕ) (P : ℕ → Type 0) (test : ℕ → Bool) (marks : List Bool) → length marks ≡ n → ((x : ℕ) → x < n → marked marks x ≡ test x) → ((x : ℕ) → test x ≡ true → P x) → ((x : ℕ) → x < n → P x → test x ≡ true) → AreMarks n P marks
marks_by n P test marks size is sound complete = record {
  size = size;
  sound = λ x h. (let less = marked_within marks x h in sound x (sym (is x (omega arith)) ∙ h));
  complete = λ x less p. is x less ∙ complete x less p;
}

and_both : (a b : Bool) → (a && b) ≡ true → (a ≡ true) × (b ≡ true)
and_both true b h = (refl, h)
and_both false b h = cc

both_and : (a b : Bool) → a ≡ true → b ≡ true → (a && b) ≡ true
both_and true b p q = q
both_and false b p q = cc

or_either : (a b : Bool) → (a || b) ≡ true → (a ≡ true) ⊎ (b ≡ true)
or_either true b h = inl refl
or_either false b h = inr h

either_or : (a b : Bool) → (a ≡ true) ⊎ (b ≡ true) → (a || b) ≡ true
either_or true b h = refl
either_or false b (inl e) = cc
either_or false b (inr e) = e

in_rows : (rows : List (List ℕ)) (x y : ℕ) → StandsOn (next rows) x y → x < length rows
in_rows rows x y s = elim (before_or x (length rows)) [
  | inl less ↦ less
  | inr past ↦ absurd (subst (IsAmong s.part) (next_past rows x past) s.is_part)
]

-- ---- recursive types

module _ (list : List Node) (declared : List Declaration) (ties : List Tie) (facts : List TypeFact) (held by_ties by_aliases : List Bool) (holding : AreMarks (length list) (λ x. StandsOn (next (holds list)) x x) held)
    (tying : AreMarks (length facts) (λ x. LeadsTo (tied declared ties facts) x x) by_ties) (naming : AreMarks (length facts) (λ x. LeadsTo (aliased declared ties) x x) by_aliases) where
  abbrev pub recursive_test : ℕ → Bool
  recursive_test x = is_type declared x && (marked held x || (marked by_ties x || marked by_aliases x))

  recursive_sound : (x : ℕ) → recursive_test x ≡ true → IsRecursive list declared ties facts x
  recursive_sound x h =
      let both = and_both (is_type declared x) (marked held x || (marked by_ties x || marked by_aliases x)) h in
      record {
        is_type = both.0;
        round = elim (or_either (marked held x) (marked by_ties x || marked by_aliases x) both.1) [
          | inl one ↦ inl (holding.sound x one)
          | inr two ↦ elim (or_either (marked by_ties x) (marked by_aliases x) two) [
            | inl a ↦ inr (inl (tying.sound x a))
            | inr b ↦ inr (inr (naming.sound x b))
          ]
        ];
      }

  recursive_complete : (x : ℕ) → x < length facts → IsRecursive list declared ties facts x → recursive_test x ≡ true
  recursive_complete x less is = both_and (is_type declared x) (marked held x || (marked by_ties x || marked by_aliases x)) is.is_type (elim is.round [
    | inl one ↦ (
        let size = length-map list (λ (n : Node). Rattle.decl_rules.specs.Cycles.held n.kind) in
        let low = in_rows (holds list) x x one in
        either_or (marked held x) (marked by_ties x || marked by_aliases x) (inl (holding.complete x (omega arith) one))
        )
    | inr two ↦ either_or (marked held x) (marked by_ties x || marked by_aliases x) (inr (elim two [
      | inl a ↦ either_or (marked by_ties x) (marked by_aliases x) (inl (tying.complete x less a))
      | inr b ↦ either_or (marked by_ties x) (marked by_aliases x) (inr (naming.complete x less b))
    ]))
  ])

  pub are_recursive : (marks : List Bool) → length marks ≡ length facts → ((x : ℕ) → x < length facts → marked marks x ≡ recursive_test x) → AreMarks (length facts) (IsRecursive list declared ties facts) marks
  are_recursive marks size is = marks_by (length facts) (IsRecursive list declared ties facts) recursive_test marks size is recursive_sound recursive_complete

-- ---- declarations that refer to themselves

-- the length of an array, in a component
record HasLength (of : List ℕ) (list : List Node) (g : ℕ) : Type 0 where
  length : ℕ
  is_length : IsLength list length
  is_in : slice_get of length ≡ Some g

more_length : (of : List ℕ) (node : Node) (list : List Node) (g : ℕ) → HasLength of list g → HasLength of (node ∷ list) g
more_length of node list g h = record { length = h.length; is_length = record { node = h.is_length.node; is_node = inr h.is_length.is_node; is_length = h.is_length.is_length }; is_in = h.is_in }

set_back : (marks : List Bool) (c g : ℕ) → marked (set marks c true) g ≡ true → (marked marks g ≡ true) ⊎ (g ≡ c)
set_back marks c g h = elim (same_or g c) [
  | inl same ↦ inr same
  | inr differ ↦ inl (sym (marked_set_other marks c g differ) ∙ h)
]

length_back : (of : List ℕ) (o : Option ℕ) (marks : List Bool) (g : ℕ) → marked (mark_length of o marks) g ≡ true → (marked marks g ≡ true) ⊎ ((e : ℕ) × (o ≡ Some e) × (slice_get of e ≡ Some g))
length_back of None marks g h = inl h
length_back of (Some e) marks g h = by_place (slice_get of e) refl h
  where
    by_place : (p : Option ℕ) → slice_get of e ≡ p → marked (mark_at p marks) g ≡ true → (marked marks g ≡ true) ⊎ ((f : ℕ) × (Some e ≡ Some f) × (slice_get of f ≡ Some g))
    by_place None is h = inl h
    by_place (Some c) is h = elim (set_back marks c g h) [ inl old ↦ inl old | inr same ↦ inr (e, refl, is ∙ ap Some (sym same)) ]

lengths_back : (of : List ℕ) (list : List Node) (marks : List Bool) (g : ℕ) → marked (lengths_marked of list marks) g ≡ true → (marked marks g ≡ true) ⊎ HasLength of list g
lengths_back of [] marks g h = inl h
lengths_back of (node ∷ list) marks g h = elim (lengths_back of list (mark_length of (length_of node.kind) marks) g h) [
  | inr later ↦ inr (more_length of node list g later)
  | inl before ↦ elim (length_back of (length_of node.kind) marks g before) [
    | inl old ↦ inl old
    | inr new ↦ inr (record { length = new.0; is_length = record { node = node; is_node = inl refl; is_length = new.1 }; is_in = new.2 })
  ]
]

at_keeps : (p : Option ℕ) (marks : List Bool) (g : ℕ) → marked marks g ≡ true → marked (mark_at p marks) g ≡ true
at_keeps None marks g h = h
at_keeps (Some c) marks g h = marked_set_on marks c g h

length_keeps : (of : List ℕ) (o : Option ℕ) (marks : List Bool) (g : ℕ) → marked marks g ≡ true → marked (mark_length of o marks) g ≡ true
length_keeps of None marks g h = h
length_keeps of (Some e) marks g h = at_keeps (slice_get of e) marks g h

lengths_keep : (of : List ℕ) (list : List Node) (marks : List Bool) (g : ℕ) → marked marks g ≡ true → marked (lengths_marked of list marks) g ≡ true
lengths_keep of [] marks g h = h
lengths_keep of (node ∷ list) marks g h = lengths_keep of list (mark_length of (length_of node.kind) marks) g (length_keeps of (length_of node.kind) marks g h)

at_size : (p : Option ℕ) (marks : List Bool) → length (mark_at p marks) ≡ length marks
at_size None marks = refl
at_size (Some c) marks = length-set marks c true

length_size : (of : List ℕ) (o : Option ℕ) (marks : List Bool) → length (mark_length of o marks) ≡ length marks
length_size of None marks = refl
length_size of (Some e) marks = at_size (slice_get of e) marks

lengths_there : (of : List ℕ) (list : List Node) (marks : List Bool) (node : Node) (e g : ℕ) → IsAmong node list → length_of node.kind ≡ Some e → slice_get of e ≡ Some g → g < length marks → marked (lengths_marked of list marks) g ≡ true
lengths_there of [] marks node e g h is at less = absurd h
lengths_there of (first ∷ list) marks node e g (inl same) is at less =
    let kind : length_of first.kind ≡ Some e = subst (λ (n : Node). length_of n.kind ≡ Some e) same is in
    let new : marked (mark_length of (Some e) marks) g ≡ true = subst (λ p. marked (mark_at p marks) g ≡ true) (sym at) (marked_set_same marks g g refl less) in
    lengths_keep of list (mark_length of (length_of first.kind) marks) g (subst (λ o. marked (mark_length of o marks) g ≡ true) (sym kind) new)
lengths_there of (first ∷ list) marks node e g (inr later) is at less =
    let size = length_size of (length_of first.kind) marks in
    lengths_there of list (mark_length of (length_of first.kind) marks) node e g later is at (omega arith)

get_index : (xs : List ℕ) (i x : ℕ) → slice_get xs i ≡ Some x → slice_index xs i ≡ x
get_index [] i x h = cc
get_index (y ∷ xs) zero x h = cc
get_index (y ∷ xs) (suc i) x h = get_index xs i x h

onward : (next : ℕ → List ℕ) (x y : ℕ) → Reaches next x y → StandsOn next x x → StandsOn next x y
onward next x y here s = s
onward next x y (along {y = z} first rest) s = record { part = z; is_part = first; rest = rest }

back_to : (next : ℕ → List ℕ) (y x : ℕ) → Reaches next y x → StandsOn next x x → StandsOn next y x
back_to next y x here s = s
back_to next y x (along {y = z} first rest) s = record { part = z; is_part = first; rest = rest }

module _ (nodes : Numbered) (declared : List Declaration) (of order : List ℕ) (cyclic lengths : List Bool) (ordered : IsOrder nodes.edges of order cyclic) (are : lengths ≡ lengths_marked of nodes.list (replicate (length order) false)) where
  abbrev pub refers_test : ℕ → Bool
  refers_test x = marked cyclic x && (is_constant declared x || is_marked_in lengths (slice_get of x))

  refers_sound : (x : ℕ) → refers_test x ≡ true → RefersToItself nodes declared x
  refers_sound x h =
      let both = and_both (marked cyclic x) (is_constant declared x || is_marked_in lengths (slice_get of x)) h in
      let round = ordered.cyclic.sound x both.0 in
      record {
        stands = round;
        by = elim (or_either (is_constant declared x) (is_marked_in lengths (slice_get of x)) both.1) [
          | inl one ↦ inl one
          | inr two ↦ inr (by_length round (slice_get of x) refl two)
        ];
      }
    where
      by_length : StandsOn (next nodes.edges) x x → (p : Option ℕ) → slice_get of x ≡ p → is_marked_in lengths p ≡ true → StandsByLength nodes x
      by_length round None is h = cc
      by_length round (Some g) is h =
          let g_marked = subst (λ l. marked l g ≡ true) are h in
          let sizes = ordered.components.sizes in
          elim (lengths_back of nodes.list (replicate (length order) false) g g_marked) [
            | inl old ↦ absurd (let none = marked_none (length order) g in true_false (sym old ∙ none))
            | inr has ↦ (
                let x_low = get_within of x g is in
                let e_low = get_within of has.length g has.is_in in
                let same : slice_index of x ≡ slice_index of has.length = get_index of x g is ∙ sym (get_index of has.length g has.is_in) in
                record {
                  length = has.length;
                  is_length = has.is_length;
                  there = onward (next nodes.edges) x has.length (ordered.components.together x has.length (omega arith) (omega arith) same) round;
                  back = back_to (next nodes.edges) has.length x (ordered.components.together has.length x (omega arith) (omega arith) (sym same)) round;
                }
                )
          ]
        where
          true_false : true ≡ false → ⊥
          true_false e = cc

  refers_complete : (x : ℕ) → RefersToItself nodes declared x → refers_test x ≡ true
  refers_complete x is =
      let low = in_rows nodes.edges x x is.stands in
      both_and (marked cyclic x) (is_constant declared x || is_marked_in lengths (slice_get of x)) (ordered.cyclic.complete x low is.stands)
      (either_or (is_constant declared x) (is_marked_in lengths (slice_get of x)) (elim is.by [
        | inl one ↦ inl one
        | inr two ↦ inr (by_length low two)
      ]))
    where
      down : (a b : ℕ) → StandsOn (next nodes.edges) a b → slice_index of b ≤ slice_index of a
      down a b s =
          let one = ordered.components.downward a s.part s.is_part in
          let two = reach_down nodes.edges of order ordered.graph ordered.components s.part b s.rest in
          omega arith

      by_length : x < length nodes.edges → StandsByLength nodes x → is_marked_in lengths (slice_get of x) ≡ true
      by_length low s =
          let sizes = ordered.components.sizes in
          let one = down x s.length s.there in
          let two = down s.length x s.back in
          let e_low = in_rows nodes.edges s.length x s.back in
          let at_x = get_some of x (omega arith) in
          let at_e = get_some of s.length (omega arith) in
          let g_is = get_index of x at_x.0 at_x.1 in
          let e_is = get_index of s.length at_e.0 at_e.1 in
          let same : at_e.0 ≡ at_x.0 = omega arith in
          let within = ordered.components.within x low in
          let count = length_none (length order) in
          let g_low : at_x.0 < length (replicate (length order) false) = omega arith in
          let there = lengths_there of nodes.list (replicate (length order) false) s.is_length.node s.length at_x.0 s.is_length.is_node s.is_length.is_length (at_e.1 ∙ ap Some same) g_low in
          subst (λ p. is_marked_in lengths p ≡ true) (sym at_x.1) (subst (λ l. marked l at_x.0 ≡ true) (sym are) there)

  pub are_referring : (count : ℕ) (marks : List Bool) → length marks ≡ count → ((x : ℕ) → x < count → marked marks x ≡ refers_test x) → AreMarks count (RefersToItself nodes declared) marks
  are_referring count marks size is = marks_by count (RefersToItself nodes declared) refers_test marks size is refers_sound (λ x less. refers_complete x)

-- ---- what is violated

if_back : (v : Violation) (b : Bool) (item : Option Node) (x : ℕ) (rule : Rule) → IsAmong v (violations_if b item x rule) → (b ≡ true) × IsAmong v (violated_at item x rule true)
if_back v true item x rule h = (refl, h)
if_back v false item x rule h = absurd h

if_there : (v : Violation) (b : Bool) (item : Option Node) (x : ℕ) (rule : Rule) → b ≡ true → IsAmong v (violated_at item x rule true) → IsAmong v (violations_if b item x rule)
if_there v true item x rule e h = h
if_there v false item x rule e h = cc

module _ (nodes : Numbered) (declared : List Declaration) (ties : List Tie) (facts : List TypeFact) (first second : List Bool) (firsts : AreMarks (length facts) (IsRecursive nodes.list declared ties facts) first) (seconds : AreMarks (length facts) (RefersToItself nodes declared) second) where
  below_back : (n : ℕ) (v : Violation) → n ≤ length facts → IsAmong v (cycles_below nodes.list first second n) → IsCycleViolation nodes declared ties facts v
  below_back zero v low h = absurd h
  below_back (suc n) v low h = elim (among_split v (cycles_below nodes.list first second n) (one ++ two) h) [
    | inl before ↦ below_back n v (omega arith) before
    | inr new ↦ elim (among_split v one two new) [
      | inl a ↦ (let is = if_back v (marked first n) (slice_get nodes.list n) n InvalidRecursiveType a in recursive_type n (omega arith) (firsts.sound n is.0) is.1)
      | inr b ↦ (let is = if_back v (marked second n) (slice_get nodes.list n) n DeclarationRefersToItself b in self_reference n (omega arith) (seconds.sound n is.0) is.1)
    ]
  ]
    where
      one : List Violation
      one = violations_if (marked first n) (slice_get nodes.list n) n InvalidRecursiveType

      two : List Violation
      two = violations_if (marked second n) (slice_get nodes.list n) n DeclarationRefersToItself

  below_there : (n x : ℕ) (v : Violation) → x < n → IsAmong v (violations_if (marked first x) (slice_get nodes.list x) x InvalidRecursiveType ++ violations_if (marked second x) (slice_get nodes.list x) x DeclarationRefersToItself)
      → IsAmong v (cycles_below nodes.list first second n)
  below_there zero x v less h = absurd (omega arith)
  below_there (suc n) x v less h = elim (same_or x n) [
    | inl same ↦ among_right v (cycles_below nodes.list first second n) _ (subst (λ m. IsAmong v (violations_if (marked first m) (slice_get nodes.list m) m InvalidRecursiveType ++ violations_if (marked second m) (slice_get nodes.list m) m DeclarationRefersToItself)) same h)
    | inr differ ↦ among_left v (cycles_below nodes.list first second n) _ (below_there n x v (omega arith) h)
  ]

  there : (v : Violation) → IsCycleViolation nodes declared ties facts v → IsAmong v (cycles_below nodes.list first second (length facts))
  there v (recursive_type x less is at) = below_there (length facts) x v less (among_left v _ _ (if_there v (marked first x) (slice_get nodes.list x) x InvalidRecursiveType (firsts.complete x less is) at))
  there v (self_reference x less is at) =
      below_there (length facts) x v less (among_right v (violations_if (marked first x) (slice_get nodes.list x) x InvalidRecursiveType) _ (if_there v (marked second x) (slice_get nodes.list x) x DeclarationRefersToItself (seconds.complete x less is) at))

  pub blamed : (old new : List Violation) → new ≡ old ++ cycles_below nodes.list first second (length facts) → (v : Violation) → IsAmong v new ↔ (IsAmong v old ⊎ IsCycleViolation nodes declared ties facts v)
  blamed old new is v = (
    λ h. elim (among_split v old (cycles_below nodes.list first second (length facts)) (subst (IsAmong v) is h)) [ inl a ↦ inl a | inr b ↦ inr (below_back (length facts) v (omega arith) b) ],
    λ h. subst (IsAmong v) (sym is) (elim h [ inl a ↦ among_left v old _ a | inr b ↦ among_right v old _ (there v b) ]),
  )
