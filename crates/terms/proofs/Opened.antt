-- One name for all that following computes with: a proof that computes names it on its `unfolding` line, and these unfold.
-- Rests on the definitions alone.
use Rattle.terms.specs.Lists.{some_of, is_in}
use Rattle.terms.specs.Terms.{same, listed, number_of, enter}
use Rattle.terms.specs.Following.{keys_of, links_of, found_or, outer_known, find, follow, reached, held_by_following}

unfoldable pub terms_opened : Unit {0}
unfolding some_of same listed number_of enter keys_of links_of is_in found_or outer_known find follow reached held_by_following
terms_opened = tt
