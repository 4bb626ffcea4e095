use Rattle.std.proofs.Common.{◌≡◌, ◌<◌, ◌+◌, ◌-◌, ◌++◌, suc, length, drop, ap, arith}
use Rattle.std.specs.Prelude.{string_bytes}
use Rattle.interp_state.proofs.Characters.{characters_within, stepped, bounds, nothing_left, all_done, scalar}
use Rattle.interp_state.proofs.throwing.push_characters.Goals as goal

pub loop-init : goal.loop-init
loop-init c =
    let all : length c.args.bytes.now - 0 ≡ length c.args.bytes.now = omega arith in
    ap (λ n. string_bytes c.args.text.now ++ characters_within n c.args.bytes.now) all

pub returns-then-at-bytes : goal.returns-then-at-bytes
returns-then-at-bytes c =
    nothing_left (string_bytes c.loop.text) (length c.args.bytes.now - c.loop.counter) c.loop.at c.args.bytes.now
    (string_bytes c.args.text.now ++ characters_within (length c.args.bytes.now) c.args.bytes.now)
    c.if-at-bytes.true c.loop.invariant

pub loop-preserved : goal.loop-preserved
loop-preserved c =
    let width = c.decode_rune-rune.result.1 in
    let within : c.loop.at < length c.args.bytes.now = omega arith in
    let narrow = bounds c.loop.at c.decode_rune-rune.result.0 c.decode_rune-rune.result.1 c.args.bytes.now within c.decode_rune-rune.ensures in
    let more : length c.args.bytes.now - c.loop.counter ≡ suc (length c.args.bytes.now - (c.loop.counter + 1)) = omega arith in
    let behind : c.saturating_add-at.result ≡ c.loop.at + c.decode_rune-rune.result.1 = omega (arith, narrow.0, narrow.1) in
    stepped (string_bytes c.loop.text) (string_bytes c.push.new.self) (length c.args.bytes.now - c.loop.counter)
    (length c.args.bytes.now - (c.loop.counter + 1)) c.loop.at c.saturating_add-at.result c.decode_rune-rune.result.0
    c.decode_rune-rune.result.1 c.character.result c.args.bytes.now
    (string_bytes c.args.text.now ++ characters_within (length c.args.bytes.now) c.args.bytes.now)
    within c.decode_rune-rune.ensures more
    (c.character.ensures (scalar (drop c.loop.at c.args.bytes.now) c.decode_rune-rune.result.0 c.decode_rune-rune.result.1 c.decode_rune-rune.ensures))
    behind c.in_ok-push.ensures.bytes c.loop.invariant

pub returns : goal.returns
returns c =
    let none : length c.args.bytes.now - c.loop.counter ≡ 0 = omega arith in
    all_done (string_bytes c.loop.text) (length c.args.bytes.now - c.loop.counter) c.loop.at c.args.bytes.now
    (string_bytes c.args.text.now ++ characters_within (length c.args.bytes.now) c.args.bytes.now)
    none c.loop.invariant
