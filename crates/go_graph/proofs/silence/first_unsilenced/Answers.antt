use Rattle.std.proofs.Common.{◌≡◌, ◌<◌, ◌∙◌, sym, refl, ap, subst, ℕ, length, replicate, false, map, MatchOption, Vec, Global, arith}
use Rattle.std.proofs.lemmas.List.{length-map}
use Rattle.go_graph.specs.declared.fault.Fault.{Fault}
use Rattle.go_graph.specs.Graph.{IsAmong, StandsOn, next}
use Rattle.go_graph.specs.Marks.{AreMarks, AreReaching}
use Rattle.go_graph.specs.Silence.{placed, AreAllSilenced, IsBelowMarks, IsFirstByMarks}
use Rattle.go_graph.proofs.MarkLaws.{length_none}
use Rattle.go_graph.proofs.Silencing.{length-placed, length-cycles_in, faults_below, first_or_none, settled}
use Rattle.go_graph.proofs.silence.first_unsilenced.Goals as goal

pub places_of-requires : goal.places_of-requires
places_of-requires c = faults_below c.args.faults.now (length c.args.graph.now) (length c.args.graph.now) refl c.requires.faults

pub reaching-requires-clause-marks : goal.reaching-requires-clause-marks
reaching-requires-clause-marks c =
    ap length (c.deref.ensures.value ∙ c.in_ok-places.ensures) ∙ length-placed c.args.faults.now (replicate (length c.args.graph.now) false) ∙ length_none (length c.args.graph.now)

pub cycles_of-requires-clause-faults : goal.cycles_of-requires-clause-faults
cycles_of-requires-clause-faults c =
    let size = c.requires.components.sizes ∙ length-map c.args.graph.now (λ (r : Vec ℕ Global). r.items) in
    faults_below c.args.faults.now (length c.args.graph.now) (length c.args.components.now.of.items) (sym size) c.requires.faults

pub first_by_marks-requires-clause-faults : goal.first_by_marks-requires-clause-faults
first_by_marks-requires-clause-faults c =
    let size = ap length c.deref-3.ensures.value ∙ c.requires.components.sizes ∙ length-map c.args.graph.now (λ (r : Vec ℕ Global). r.items) in
    faults_below c.args.faults.now (length c.args.graph.now) (length c.deref-3.result.now) (sym size) c.requires.faults

pub first_by_marks-requires-clause-cycles : goal.first_by_marks-requires-clause-cycles
first_by_marks-requires-clause-cycles c =
    let order = c.args.components.now.order.items in
    ap length (c.deref-5.ensures.value ∙ c.in_ok-cycles.ensures) ∙ length-cycles_in c.args.components.now.of.items c.args.faults.now (replicate (length order) false) ∙ length_none (length order)
    ∙ sym (ap length c.deref-4.ensures.value ∙ c.in_ok-below.ensures.len)

pub returns-clause-first : goal.returns-clause-first
returns-clause-first c =
    let rows = map (λ (r : Vec ℕ Global). r.items) c.args.graph.now in
    let of = c.args.components.now.of.items in
    let order = c.args.components.now.order.items in
    let faults = c.args.faults.now in
    let size : length c.args.graph.now ≡ length rows = sym (length-map c.args.graph.now (λ (r : Vec ℕ Global). r.items)) in
    let faulty = c.in_ok-faulty.faulty.items in
    let below = c.in_ok-below.below.items in
    let cycles = c.in_ok-cycles.cycles.items in
    let places = c.deref.ensures.value ∙ c.in_ok-places.ensures ∙ ap (λ (n : ℕ). placed faults (replicate n false)) size in
    let reaching = subst (λ m. AreReaching rows of order m faulty) places c.in_ok-faulty.ensures in
    let low = subst (λ n. IsBelowMarks rows of (length order) faulty n below) size (subst (λ f. IsBelowMarks rows of (length order) f (length c.args.graph.now) below) c.deref-2.ensures.value c.in_ok-below.ensures) in
    let on = subst (λ n. AreMarks n (λ x. StandsOn (next rows) x x) c.args.cyclic.now) size c.requires.cyclic in
    let in_rows : (f : Fault) → IsAmong f faults → f.node < length rows = λ f among. (let less = c.requires.faults f among in omega arith) in
    let is : MatchOption c.first_by_marks.result (AreAllSilenced of below c.args.cyclic.now cycles faults) (IsFirstByMarks of below c.args.cyclic.now cycles faults) =
    subst (λ l. MatchOption c.first_by_marks.result (AreAllSilenced of below c.args.cyclic.now l faults) (IsFirstByMarks of below c.args.cyclic.now l faults)) c.deref-5.ensures.value
    (subst (λ l. MatchOption c.first_by_marks.result (AreAllSilenced of l c.args.cyclic.now c.deref-5.result.now faults) (IsFirstByMarks of l c.args.cyclic.now c.deref-5.result.now faults)) c.deref-4.ensures.value
    (subst (λ l. MatchOption c.first_by_marks.result (AreAllSilenced l c.deref-4.result.now c.args.cyclic.now c.deref-5.result.now faults) (IsFirstByMarks l c.deref-4.result.now c.args.cyclic.now c.deref-5.result.now faults)) c.deref-3.ensures.value c.first_by_marks.ensures)) in
    first_or_none rows of order c.args.cyclic.now faults faulty below cycles c.first_by_marks.result c.requires.graph c.requires.components on in_rows reaching low c.in_ok-cycles.ensures is

pub returns-clause-heard : goal.returns-clause-heard
returns-clause-heard c =
    let rows = map (λ (r : Vec ℕ Global). r.items) c.args.graph.now in
    let of = c.args.components.now.of.items in
    let order = c.args.components.now.order.items in
    let faults = c.args.faults.now in
    let size : length c.args.graph.now ≡ length rows = sym (length-map c.args.graph.now (λ (r : Vec ℕ Global). r.items)) in
    let faulty = c.in_ok-faulty.faulty.items in
    let below = c.in_ok-below.below.items in
    let cycles = c.in_ok-cycles.cycles.items in
    let places = c.deref.ensures.value ∙ c.in_ok-places.ensures ∙ ap (λ (n : ℕ). placed faults (replicate n false)) size in
    let reaching = subst (λ m. AreReaching rows of order m faulty) places c.in_ok-faulty.ensures in
    let low = subst (λ n. IsBelowMarks rows of (length order) faulty n below) size (subst (λ f. IsBelowMarks rows of (length order) f (length c.args.graph.now) below) c.deref-2.ensures.value c.in_ok-below.ensures) in
    let on = subst (λ n. AreMarks n (λ x. StandsOn (next rows) x x) c.args.cyclic.now) size c.requires.cyclic in
    let in_rows : (f : Fault) → IsAmong f faults → f.node < length rows = λ f among. (let less = c.requires.faults f among in omega arith) in
    settled rows of order c.requires.graph c.requires.components c.args.cyclic.now on faults in_rows faulty below cycles reaching low c.in_ok-cycles.ensures
