use Rattle.go_grammar.proofs.Views.{view_expr_assertion, view_expr_binary, view_expr_call, view_expr_composite, view_expr_full_slice, view_expr_index, view_expr_selector, view_expr_slice}
use Rattle.go_places.proofs.Fronts.{expr_begins, literal_begins}
use Rattle.go_places.proofs.starts.«+expr_start».Goals as goal

pub returns-in-Selector : goal.returns-in-Selector
returns-in-Selector t c = expr_begins _ _ _ _ _ _ _ c.in-Selector.is (view_expr_selector _ _ _) c.deref-in-Selector.ensures c.expr_start.ensures

pub returns-in-Assertion : goal.returns-in-Assertion
returns-in-Assertion t c = expr_begins _ _ _ _ _ _ _ c.in-Assertion.is (view_expr_assertion _ _ _ _ _) c.deref-in-Assertion.ensures c.expr_start-in-Assertion.ensures

pub returns-in-Index : goal.returns-in-Index
returns-in-Index t c = expr_begins _ _ _ _ _ _ _ c.in-Index.is (view_expr_index _ _ _ _) c.deref-in-Index.ensures c.expr_start-in-Index.ensures

pub returns-in-Slice : goal.returns-in-Slice
returns-in-Slice t c = expr_begins _ _ _ _ _ _ _ c.in-Slice.is (view_expr_slice _ _ _ _ _ _) c.deref-in-Slice.ensures c.expr_start-in-Slice.ensures

pub returns-in-FullSlice : goal.returns-in-FullSlice
returns-in-FullSlice t c = expr_begins _ _ _ _ _ _ _ c.in-FullSlice.is (view_expr_full_slice _ _ _ _ _ _ _ _) c.deref-in-FullSlice.ensures c.expr_start-in-FullSlice.ensures

pub returns-in-Call : goal.returns-in-Call
returns-in-Call t c = expr_begins _ _ _ _ _ _ _ c.in-Call.is (view_expr_call _ _ _ _ _ _) c.deref-in-Call.ensures c.expr_start-in-Call.ensures

pub returns-in-Binary : goal.returns-in-Binary
returns-in-Binary t c = expr_begins _ _ _ _ _ _ _ c.in-Binary.is (view_expr_binary _ _ _) c.deref-in-Binary.ensures c.expr_start-in-Binary.ensures

pub returns-in-Some : goal.returns-in-Some
returns-in-Some t c = literal_begins _ _ _ _ _ _ _ _ c.in-Composite.is (view_expr_composite _ _ _ _) c.in-Some.is c.deref-in-Some.ensures c.type_start-in-Some.ensures
