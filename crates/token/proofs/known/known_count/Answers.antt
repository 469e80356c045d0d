-- `known_count` meets its contract: the entries that pass the test are as many as the known keys (ApiKnown).
use Rattle.std.proofs.Common.{rules, ◌≡◌, ◌∙◌, ◌&&◌, ◌<◌, ◌^◌, sym, arith, length, count_by}
use Rattle.std.proofs.lemmas.List.Sums.{length-filter, count_by-le-length}
use Rattle.shapes.specs.Entries.{is_key_kind, is_held}
use Rattle.token.specs.Known.{is_marked}
use Rattle.token.proofs.ApiKnown.{marked_count}
use Rattle.token.proofs.known.known_count.Goals as goal

pub sum-requires-clause-fits : goal.sum-requires-clause-fits
sum-requires-clause-fits c =
    let entries = c.args.token.table.entries in
    let whole : length entries ≡ 1024 = search rules in
    let few : count_by (λ e. is_key_kind e.term && is_held e) entries < 2 ^ 16 = omega (arith, count_by-le-length is_marked entries) in
    search rules

pub returns : goal.returns
returns c =
    let entries = c.args.token.table.entries in
    let counted : c.sum.result ≡ count_by (λ e. is_key_kind e.term && is_held e) entries = search rules in
    counted ∙ sym (length-filter is_marked entries) ∙ sym (marked_count entries)
