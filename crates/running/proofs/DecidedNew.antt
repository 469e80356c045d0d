-- The commands that make a key or a data item, on what they see: GENERATE, OWN KEY, OWN DATA. Rests on DecidedBy, SeenFree and
-- the rules crate's Sound, by which a key or an item that is counted next is not in the table.
use Prim.Native.Nat.{ℕ}
use native.Mathlib.Omega.{arith}
use mathlib.Core.Path.{◌≡◌, refl, sym, ap}
use mathlib.Core.Bool.{Bool, false, not, ◌&&◌, ◌||◌, and-true, and-false, or-false}
use lib.Dec.{leb}
use lib.ListN.{length}
use Rattle.terms.specs.Terms.{Term, key, item, listed}
use Rattle.rules.specs.Templates.{Policy}
use Rattle.rules.specs.Commands.{GENERATE, OWN_KEY, OWN_DATA}
use Rattle.rules.specs.State.{State, Now, new_key, table_full, most_terms}
use Rattle.rules.specs.Refusals.{no_keys_encrypted}
use Rattle.rules.specs.Computing.{judge}
use Rattle.rules.proofs.Sound.{Sound}
use Rattle.rules.proofs.Done.{done}
use Rattle.rules.proofs.Named.{generates}
use Rattle.sheets.specs.Reading.{read_policy}
use Rattle.shapes.specs.declared.HandleNo.{HandleNo}
use Rattle.deciding.specs.declared.Change.TheVariants.{NewKey}
use Rattle.deciding.specs.Decisions.{decided_generate, decided_own_key, decided_own_data}
use Rattle.running.proofs.ChangeFor.{change_for}
use Rattle.running.proofs.SeenFree.{free_for, full_seen, free_handle_seen}
use Rattle.running.proofs.DecidedBy.{Decides, refusal_for, decides_by, both_ask, passed_over, asking_opened, value_opened}
use Rattle.running.proofs.DecidedParts.{not_listed, number_entered}

module _ {s : State} (sound : Sound s) where
  -- the key and the item that come next are not in the table
  next_key : listed s.now.table (key (new_key s.now)) ≡ false
  unfolding new_key
  next_key =
      not_listed s.now.table _ (λ h. let l = sound.counted.keys_counted h in omega arith)

  next_item : listed s.now.table (item s.now.items) ≡ false
  next_item =
      not_listed s.now.table _ (λ h. let l = sound.counted.items_counted h in omega arith)

-- a term that is not in the table needs room
new_room_asked : (now : Now) (m : Term) (more : Bool) → listed now.table m ≡ false →
    leb most_terms (length now.table) ≡ (table_full now && (not (listed now.table m) || more))
unfolding table_full
new_room_asked now m more e = rw e (sym (and-true _))

-- GENERATE
pub decides_generate : (policy : ℕ) {p : Policy} {s : State} (f : ℕ) → read_policy policy ≡ p → Sound s →
    Decides p s (GENERATE f) (decided_generate policy f (free_for s.now) (length s.now.table))
unfolding asking_opened value_opened change_for
decides_generate policy {p} {s} f reads sound =
    decides_by _
    (both_ask 2 _ _ (sym (or-false (leb 128 f))) (λ _.
    passed_over 3 _ _ refl (passed_over 4 _ _ refl (both_ask 5 _ _ (rw reads) (λ _.
    passed_over 6 _ _ refl (passed_over 7 _ _ refl (passed_over 8 _ _ refl
    (passed_over 9 _ _ (and-false (no_keys_encrypted p)) (both_ask 10 _ _ (full_seen s.now) (λ _.
    both_ask 11 _ _ (new_room_asked s.now _ _ (next_key sound)) (λ _. refl)))))))))))
    (λ (e : refusal_for p s (GENERATE f) ≡ 0).
    let free = free_handle_seen s.now (generates (done p (judge s) s.now (GENERATE f) e)).handle_free in
    (ap (λ (x : HandleNo). x.0) free, ap (λ (x : HandleNo). NewKey x f) free))

-- OWN KEY
pub decides_own_key : (p : Policy) {s : State} → Sound s → Decides p s OWN_KEY (decided_own_key (length s.now.table))
unfolding asking_opened value_opened change_for
decides_own_key p {s} sound =
    decides_by _
    (passed_over 2 _ _ refl (passed_over 3 _ _ refl (passed_over 4 _ _ refl (passed_over 5 _ _ refl (passed_over 6 _ _ refl
    (passed_over 7 _ _ refl (passed_over 8 _ _ refl (passed_over 9 _ _ (and-false (no_keys_encrypted p)) (passed_over 10 _ _ refl
    (both_ask 11 _ _ (new_room_asked s.now _ _ (next_key sound)) (λ _. refl)))))))))))
    (λ e. (number_entered s.now.table _ (next_key sound), refl))

-- OWN DATA
pub decides_own_data : (p : Policy) {s : State} → Sound s → Decides p s OWN_DATA (decided_own_data (length s.now.table))
unfolding asking_opened value_opened change_for
decides_own_data p {s} sound =
    decides_by _
    (passed_over 2 _ _ refl (passed_over 3 _ _ refl (passed_over 4 _ _ refl (passed_over 5 _ _ refl (passed_over 6 _ _ refl
    (passed_over 7 _ _ refl (passed_over 8 _ _ refl (passed_over 9 _ _ (and-false (no_keys_encrypted p)) (passed_over 10 _ _ refl
    (both_ask 11 _ _ (new_room_asked s.now _ _ (next_item sound)) (λ _. refl)))))))))))
    (λ e. (number_entered s.now.table _ (next_item sound), refl))
