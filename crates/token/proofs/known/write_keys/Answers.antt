-- `write_keys` meets its contract: after so many entries of known keys, so many keys are written (ApiWritten).
use Rattle.std.proofs.Common.{rules, tests, ◌≡◌, ◌∙◌, ◌<◌, ◌+◌, ◌-◌, ◌/◌, ◌%◌, ◌^◌, ℕ, ◌*◌, ◌++◌, ◌∷◌, [], ap, refl, arith, length, take, take_all, get_or}
use Rattle.std.proofs.lemmas.Iterator.Consumers.{YieldsList-at}
use lib.ListN.{length-append}
use Rattle.sheets.specs.Bytes.{two}
use Rattle.sheets.specs.Reports.{keys_bytes}
use Rattle.sheets.specs.Calls.{over}
use Rattle.token.specs.Known.{marked_keys}
use Rattle.token.proofs.ApiWritten.{known_walk, write_next, walk_turn, walk_end}
use Rattle.token.proofs.known.write_keys.Goals as goal

pub loop-i-init : goal.loop-i-init
unfolding over keys_bytes
loop-i-init c = refl

pub slice_bounds-copy_from_slice-end : goal.slice_bounds-copy_from_slice-end
slice_bounds-copy_from_slice-end c =
    let turn = walk_turn _ _ c.loop-i.yielded_by _ _ c.next.ensures.steps c.args.entries
    (YieldsList-at c.into_iter-i-iterator.ensures.into_iter_gives (known_walk c.args.entries c.enumerate-i-items.ensures.source (cc) (cc)
    c.filter-known.ensures.closure (λ x b q k. search (rules, tests))))
    c.in-Some.i c.in-Some.entry c.in-Some.is in
    omega (arith, turn.1, c.loop-i.auto.out, c.requires)

pub loop-i-preserved : goal.loop-i-preserved
unfolding two
loop-i-preserved c =
    let turn = walk_turn _ _ c.loop-i.yielded_by _ _ c.next.ensures.steps c.args.entries
    (YieldsList-at c.into_iter-i-iterator.ensures.into_iter_gives (known_walk c.args.entries c.enumerate-i-items.ensures.source (cc) (cc)
    c.filter-known.ensures.closure (λ x b q k. search (rules, tests))))
    c.in-Some.i c.in-Some.entry c.in-Some.is in
    let k : ℕ = c.key_of.result.0 in
    let range : k < 2 ^ 16 = search rules in
    let high : k / 256 % 256 ≡ k / 256 = omega arith in
    let bytes : c.copy_from_slice.new.self ≡ two k = c.copy_from_slice.ensures.after ∙ c.to_be_bytes.ensures ∙ rw high refl in
    let places : 2 * c.in-Some.i + 2 - 2 * c.in-Some.i ≡ 2 = omega arith in
    let next : length (c.loop-i.yielded ++ (c.in-Some.i, c.in-Some.entry) ∷ []) ≡ c.in-Some.i + 1 = length-append c.loop-i.yielded _ ∙ omega (arith, turn.0) in
    let this : k ≡ get_or (marked_keys c.args.entries) c.in-Some.i 0 = ap (λ x. x.0) c.key_of.ensures ∙ turn.2 in
    let so_far : c.loop-i.out ≡ over (keys_bytes (take c.in-Some.i (marked_keys c.args.entries))) c.args.out.now = rw turn.0 c.loop-i.invariant in
    rw (places, bytes, next, so_far, this) (write_next (marked_keys c.args.entries) c.args.out.now c.in-Some.i turn.1)

pub returns : goal.returns
returns c =
    let whole = walk_end _ _ c.loop-i.yielded_by _ _ c.next.ensures.steps c.args.entries
    (YieldsList-at c.into_iter-i-iterator.ensures.into_iter_gives (known_walk c.args.entries c.enumerate-i-items.ensures.source (cc) (cc)
    c.filter-known.ensures.closure (λ x b q k. search (rules, tests))))
    c.in-None.is in
    c.loop-i.invariant ∙ rw (whole, take_all (length (marked_keys c.args.entries)) (marked_keys c.args.entries) (omega arith)) refl
