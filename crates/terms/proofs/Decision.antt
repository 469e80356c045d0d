-- Following decides working out, over a table that covers what is owned and given. Rests on proofs/Soundness.antt,
-- proofs/Completeness.antt and proofs/Following.antt.
use Prim.Native.Nat.{ℕ}
use mathlib.Core.Bool.{true}
use mathlib.Core.List.{List}
use mathlib.Core.Logic.{◌↔◌}
use mathlib.Core.Path.{◌≡◌, refl}
use Rattle.terms.specs.Lists.{◌∈◌, is_in}
use Rattle.terms.specs.Terms.{Term, Table, item, key, seal}
use Rattle.terms.specs.WorkingOut.{Held}
use Rattle.terms.specs.Following.{reached, held_by_following}
use Rattle.terms.proofs.Lists.{is_in_true, in_is_in}
use Rattle.terms.proofs.Covers.{Covers}
use Rattle.terms.proofs.Derivation.{held_given}
use Rattle.terms.proofs.Soundness.{reached_held}
use Rattle.terms.proofs.Completeness.{held_reached}
use Rattle.terms.proofs.Following.{in_reached, reached_in}

module _ {own given : List Term} {table : Table} (c : Covers own given table) where
  -- any key, of the table or not, is among those that following gives exactly where it can be worked out
  pub key_decided : (k : ℕ) → (is_in k (reached own given table) ≡ true) ↔ Held own given (key k)
  key_decided k = (λ e. reached_held c (in_reached (is_in_true k _ e)), λ h. in_is_in (reached_in (held_reached c h)))

  -- following answers yes for a term of the table exactly where the caller can work it out
  pub following_decides : {m : Term} → m ∈ table → (held_by_following own given table m ≡ true) ↔ Held own given m
  unfolding held_by_following
  following_decides {m = item n} h = (λ e. held_given (c.items_given h), λ w. refl)
  following_decides {m = key k} h = key_decided k
  following_decides {m = seal k p} h = (λ e. held_given (c.seals_given h), λ w. refl)
