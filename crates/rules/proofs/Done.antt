-- What is known of a command that is done: each test of document 01's table of refusals says no. A fact is asked for by its
-- name and never by its place in the order of asking. Rests on the definitions alone.
use Prim.Native.Nat.{ℕ, suc, ◌<◌}
use mathlib.Core.Path.{◌≡◌, refl, sym, ap, ◌∙◌}
use mathlib.Core.Bool.{Bool, true, false, not, ◌&&◌}
use mathlib.Core.List.{List, ◌∷◌}
use native.Mathlib.Omega.{arith}
use lib.ListN.{length}
use borrow.Author.Tests.{leb-false}
use Rattle.terms.specs.Lists.{◌∈◌, some_of}
use Rattle.terms.specs.Terms.{Term, listed}
use Rattle.terms.proofs.Lists.{some_of_in}
use Rattle.rules.specs.Templates.{Policy}
use Rattle.rules.specs.Commands.{Command, body}
use Rattle.rules.specs.State.{Now, all_live, table_full, most_terms}
use Rattle.rules.specs.Changes.{enters, all_changes}
use Rattle.rules.specs.Refusals.{Refusal, ◌if◌, refusals, first, bad_flags, not_live, no_term, not_held, asks_for, not_granted}
use Rattle.rules.specs.Refusals.{needs_handle, needs, missing, wrong_kind, no_keys_encrypted, encrypts_key, enters_new}

pub record Done (p : Policy) (held : ℕ → Bool) (now : Now) (c : Command) : Type 0 where
  pub flags_good : some_of bad_flags (body c) ≡ false
  pub handles_live : some_of (not_live now) (body c) ≡ false
  pub terms_exist : some_of (no_term now) (body c) ≡ false
  pub granted : not_granted p (asks_for c) ≡ false
  pub flags_there : some_of (missing now) (needs now c) ≡ false
  pub terms_held : some_of (not_held held) (body c) ≡ false
  pub right_kind : wrong_kind now c ≡ false
  pub no_key_encrypted : (no_keys_encrypted p && encrypts_key now c) ≡ false
  pub handle_free : (needs_handle (asks_for c) && all_live now) ≡ false
  pub room : (table_full now && some_of (enters_new now) (all_changes now c)) ≡ false

-- the first refusal of a list is 0: its first test says no, and so on
first_passed : (n : ℕ) (test : Bool) (list : List Refusal) → first ((suc n if test) ∷ list) ≡ 0 → (test ≡ false) × (first list ≡ 0)
unfolding first
first_passed n true list e = absurd (omega (arith, e))
first_passed n false list e = (refl, e)

pub done : (p : Policy) (held : ℕ → Bool) (now : Now) (c : Command) → first (refusals p held now c) ≡ 0 → Done p held now c
unfolding refusals
done p held now c e0 =
    let (t2, e2) = first_passed _ _ _ e0 in
    let (t3, e3) = first_passed _ _ _ e2 in
    let (t4, e4) = first_passed _ _ _ e3 in
    let (t5, e5) = first_passed _ _ _ e4 in
    let (t6, e6) = first_passed _ _ _ e5 in
    let (t7, e7) = first_passed _ _ _ e6 in
    let (t8, e8) = first_passed _ _ _ e7 in
    let (t9, e9) = first_passed _ _ _ e8 in
    let (t10, e10) = first_passed _ _ _ e9 in
    record {
      flags_good = t2;
      handles_live = t3;
      terms_exist = t4;
      granted = t5;
      flags_there = t6;
      terms_held = t7;
      right_kind = t8;
      no_key_encrypted = t9;
      handle_free = t10;
      room = (first_passed _ _ _ e10).0;
    }

-- a done command that enters a new term has room for it
pub room_for : {p : Policy} {held : ℕ → Bool} {now : Now} {c : Command} → Done p held now c → (m : Term) →
    enters m ∈ all_changes now c → listed now.table m ≡ false → length now.table < most_terms
unfolding enters_new table_full
room_for {now = now} {c = c} d m there new =
    leb-false most_terms (length now.table)
    (first (table_full now) (some_of (enters_new now) (all_changes now c)) d.room
    (some_of_in (enters_new now) there (ap not new)))
  where
    first : (a b : Bool) → (a && b) ≡ false → b ≡ true → a ≡ false
    first true b e f = sym f ∙ e
    first false b e f = refl
