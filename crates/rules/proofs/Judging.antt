-- Following decides what is held in a sound state: its table covers what was owned and given, so the keys known are the keys
-- reached, and the computed judge judges. Rests on Sound and on the terms crate's Decision.
use Prim.Native.Nat.{ℕ}
use native.Mathlib.Omega.{arith}
use mathlib.Core.Path.{◌≡◌, refl}
use mathlib.Core.Logic.{⊎_elim, ◌↔◌}
use mathlib.Core.Bool.{true, false≢true}
use mathlib.Core.Option.{Option, none, some}
use lib.ListN.{get_elem?}
use Rattle.terms.specs.Lists.{◌∈◌}
use Rattle.terms.specs.Terms.{Term, key}
use Rattle.terms.specs.Following.{Reached, own_key, given_key, under_key}
use Rattle.terms.proofs.Lists.{at_in}
use Rattle.terms.proofs.Covers.{Covers, DataInside}
use Rattle.terms.proofs.Soundness.{reached_held}
use Rattle.terms.proofs.Completeness.{held_reached}
use Rattle.terms.proofs.Decision.{following_decides}
use Rattle.rules.specs.State.{State}
use Rattle.rules.specs.Runs.{HeldNumber, Judge}
use Rattle.rules.specs.Known.{Known}
use Rattle.rules.specs.Computing.{judged, judge}
use Rattle.rules.proofs.Sound.{Sound}
use Rattle.rules.proofs.ShapeKept.{parts_in}

-- no key is data inside
no_data : {k : ℕ} → ¬ DataInside (key k)
no_data d = elim d [ ]

module _ {s : State} (i : Sound s) where
  -- the table covers what was owned and given
  pub covers : Covers s.past.own s.past.given s.now.table
  covers =
      record {
        payload_in = λ h. (parts_in i.counted.shape h).1;
        items_given = i.passed.items_given;
        seals_given = i.passed.seals_given;
        own_in = λ h. i.passed.given_in (i.passed.own_given h);
        given_in = i.passed.given_in;
      }

  -- a key that the caller can work out is reached by following
  pub known_reached : {k : ℕ} → Known s k → Reached s.past.own s.past.given s.now.table k
  known_reached h = held_reached covers h

  -- a key reached by following can be worked out
  pub reached_known : {k : ℕ} → Reached s.past.own s.past.given s.now.table k → Known s k
  reached_known r = reached_held covers r

  -- a key reached is in the table
  pub reached_in_table : {k : ℕ} → Reached s.past.own s.past.given s.now.table k → key k ∈ s.now.table
  reached_in_table (own_key h) = ⊎_elim (λ t. t) (λ d. absurd (no_data d)) (i.passed.given_in (i.passed.own_given h))
  reached_in_table (given_key h) = ⊎_elim (λ t. t) (λ d. absurd (no_data d)) (i.passed.given_in h)
  reached_in_table (under_key h r) = (parts_in i.counted.shape h).1

  -- a key that the caller can work out is in the table
  pub known_in_table : {k : ℕ} → Known s k → key k ∈ s.now.table
  known_in_table h = reached_in_table (known_reached h)

  -- what following says of the term at number t, it says rightly
  judged_right : (t : ℕ) (found : Option Term) → get_elem? s.now.table t ≡ found → (judged s found ≡ true) ↔ HeldNumber s t
  unfolding judged
  judged_right t none e = (
    λ f. absurd (false≢true f),
    λ h. let there = h.is_there in let z : ◌≡◌ {A = ℕ} 0 1 = cc in absurd (omega arith),
  )
  judged_right t (some m) e =
      let right = following_decides covers (at_in s.now.table t e) in (
        λ y. record { the_term = m; is_there = e; is_held = right.0 y },
        λ h. let same : m ≡ h.the_term = cc in right.1 (rw same h.is_held),
      )

  -- the computed judge says of each term number whether it is held
  pub judge_judges : Judge s (judge s)
  unfolding judge
  judge_judges t = judged_right t (get_elem? s.now.table t) refl
