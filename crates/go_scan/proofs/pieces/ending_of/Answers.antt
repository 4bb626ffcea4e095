use Rattle.std.proofs.Common.{◌-◌, arith, ap, sym, ◌∙◌, length, take, drop, length-drop, false}
use Rattle.go_scan.specs.Reach.{comment_ending, quoted_ending, raw_ending}
use Rattle.go_scan.specs.Reading.{ending_of, view_class, behind}
use Rattle.go_scan.proofs.RestLaws.{rest-is}
use Rattle.go_scan.proofs.EndLaws.{comment-within, quoted-within, raw-within}
use Rattle.go_scan.proofs.pieces.ending_of.Goals as goal

pub returns-in-GeneralComment : goal.returns-in-GeneralComment
returns-in-GeneralComment c =
    c.ending_behind.ensures
    ∙ ap (behind 2) (c.comment_ending.ensures ∙ ap (comment_ending false) (rest-is c.args.text.now 2))
    ∙ sym (ap (λ k. ending_of (view_class k) c.args.text.now) c.in-GeneralComment.is)

pub returns-in-RuneLiteral : goal.returns-in-RuneLiteral
returns-in-RuneLiteral c =
    c.ending_behind-in-RuneLiteral.ensures
    ∙ ap (behind 1) (c.quoted_ending.ensures ∙ ap (quoted_ending 39 false) (rest-is c.args.text.now 1))
    ∙ sym (ap (λ k. ending_of (view_class k) c.args.text.now) c.in-RuneLiteral.is)

pub returns-in-StringLiteral : goal.returns-in-StringLiteral
returns-in-StringLiteral c =
    c.ending_behind-in-StringLiteral.ensures
    ∙ ap (behind 1) (c.quoted_ending-in-StringLiteral.ensures ∙ ap (quoted_ending 34 false) (rest-is c.args.text.now 1))
    ∙ sym (ap (λ k. ending_of (view_class k) c.args.text.now) c.in-StringLiteral.is)

pub returns-in-RawLiteral : goal.returns-in-RawLiteral
returns-in-RawLiteral c =
    c.ending_behind-in-RawLiteral.ensures
    ∙ ap (behind 1) (c.raw_ending.ensures ∙ ap raw_ending (rest-is c.args.text.now 1))
    ∙ sym (ap (λ k. ending_of (view_class k) c.args.text.now) c.in-RawLiteral.is)

pub ending_behind-requires : goal.ending_behind-requires
ending_behind-requires c =
    let text = c.args.text.now in
    let found = ap (λ e. e.length) c.comment_ending.ensures in
    omega (arith, found, comment-within false (take (length text - 2) (drop 2 text)), ap length (rest-is text 2), length-drop 2 text)

pub ending_behind-requires-in-RuneLiteral : goal.ending_behind-requires-in-RuneLiteral
ending_behind-requires-in-RuneLiteral c =
    let text = c.args.text.now in
    let found = ap (λ e. e.length) c.quoted_ending.ensures in
    omega (arith, found, quoted-within 39 false (take (length text - 1) (drop 1 text)), ap length (rest-is text 1), length-drop 1 text)

pub ending_behind-requires-in-StringLiteral : goal.ending_behind-requires-in-StringLiteral
ending_behind-requires-in-StringLiteral c =
    let text = c.args.text.now in
    let found = ap (λ e. e.length) c.quoted_ending-in-StringLiteral.ensures in
    omega (arith, found, quoted-within 34 false (take (length text - 1) (drop 1 text)), ap length (rest-is text 1), length-drop 1 text)

pub ending_behind-requires-in-RawLiteral : goal.ending_behind-requires-in-RawLiteral
ending_behind-requires-in-RawLiteral c =
    let text = c.args.text.now in
    let found = ap (λ e. e.length) c.raw_ending.ensures in
    omega (arith, found, raw-within (take (length text - 1) (drop 1 text)), ap length (rest-is text 1), length-drop 1 text)
