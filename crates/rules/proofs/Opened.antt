-- One name for all that a run computes with: a proof that computes names it on its `unfolding` line, and these unfold.
-- Rests on the definitions alone.
use Rattle.terms.proofs.Opened.{terms_opened}
use Rattle.rules.specs.Flags.{value, has, holds_128}
use Rattle.rules.specs.Templates.{templates, grants}
use Rattle.rules.specs.Commands.{number, body}
use Rattle.rules.specs.State.{fresh, slot, is_live, key_of_slot, flags_of, is_term, term_at, is_key, key_number, payload}
use Rattle.rules.specs.State.{lowest_dead, count_live, new_handle, all_live, new_key, table_full}
use Rattle.rules.specs.Changes.{answers, changes, giving, all_changes, change_now, change_past, all_of, after}
use Rattle.rules.specs.Refusals.{bad_flags, not_live, no_term, not_held, asks_for, not_granted, needs_handle, needs, missing}
use Rattle.rules.specs.Refusals.{sealed_under, wrong_kind, no_keys_encrypted, encrypts_key, enters_new, refusals, first}
use Rattle.rules.specs.Runs.{number_in, outcome, step}
use Rattle.rules.specs.Computing.{judged, judge, next_outcome, said_by, end_of, below_in, known_of}

unfoldable pub rules_opened : Unit {0}
unfolding terms_opened value has holds_128 templates grants number body fresh slot is_live key_of_slot flags_of is_term term_at is_key
    key_number payload lowest_dead count_live new_handle all_live new_key table_full answers changes giving all_changes change_now
    change_past all_of after bad_flags not_live no_term not_held asks_for not_granted needs_handle needs missing sealed_under
    wrong_kind no_keys_encrypted encrypts_key enters_new refusals first number_in outcome step judged judge next_outcome said_by
    end_of below_in known_of
rules_opened = tt
