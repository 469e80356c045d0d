-- The number that a new handle takes, as a command sees it where the token shows a state: none where all are live, else the rules'
-- new handle. Rests on LiveWords and the rules crate's Sound.
use Rattle.std.specs.Prelude.{None, Option, Some}
use Rattle.shapes.specs.declared.HandleNo.{HandleNo}
use mathlib.Core.Path.{◌≡◌}
use mathlib.Core.Bool.{true, false, cond}
use Rattle.terms.proofs.Lists.{bool_cases}
use Rattle.rules.specs.State.{State, Now, new_handle, all_live}
use Rattle.rules.proofs.Sound.{Sound}
use Rattle.token.specs.declared.Token.{Token}
use Rattle.handles.specs.Live.{free_in}
use Rattle.token.specs.Shows.{Shows}
use Rattle.deciding.specs.Decisions.{is_full, free_handle}
use Rattle.handles.proofs.LiveWords.{free_shown}

-- the free number that is seen in a state
unfoldable pub free_for : Now → Option HandleNo
free_for now = cond (all_live now) None (Some (record { 0 = new_handle now }))

pub free_seen : {t : Token} {s : State} → Sound s → Shows t s → free_in t.hands.live ≡ free_for s.now
unfolding free_for
free_seen {t} {s} sound shows =
    let shown = free_shown t.hands.live s.now shows.hands_shown.live_shown sound.handled.slots in
    bool_cases (all_live s.now) (λ (e : all_live s.now ≡ true). rw e (shown.0 e))
    (λ (e : all_live s.now ≡ false). rw e (shown.1 e))

-- what is asked of it
pub full_seen : (now : Now) → is_full (free_for now) ≡ all_live now
unfolding free_for
full_seen now =
    bool_cases (all_live now) (λ (e : all_live now ≡ true). rw e) (λ (e : all_live now ≡ false). rw e)

pub free_handle_seen : (now : Now) → all_live now ≡ false → free_handle (free_for now) ≡ record { 0 = new_handle now }
unfolding free_for
free_handle_seen now e = rw e
