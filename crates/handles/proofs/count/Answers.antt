-- `handles::count` counts the live handles: the ones of the four words. Rests on the laws of the words.
use Rattle.std.proofs.Common.{rules, ◌≡◌, ◌∙◌, ◌<◌, ◌^◌, arith, sum_by, count_ones}
use Rattle.handles.proofs.LiveWordsBits.{sum_counts, few_ones}
use Rattle.handles.proofs.LiveWordsCode.{array_words}
use Rattle.handles.proofs.count.Goals as goal

pub sum-requires-clause-fits : goal.sum-requires-clause-fits
sum-requires-clause-fits c =
    let few : sum_by count_ones c.args.live < 2 ^ 32 = omega (arith, few_ones c.args.live (array_words _ _ c.well_formed.0)) in
    search rules

pub returns : goal.returns
returns c =
    let summed : c.sum.result ≡ sum_by count_ones c.args.live = search rules in
    summed ∙ sum_counts c.args.live (array_words _ _ c.well_formed.0)
