-- Where a walk through a leak stands: what is held so far, the keys that wait, and the key whose seals are opened now.
-- What this comes to once nothing is left. Rests on LeakSeals.antt and LeakCount.antt.
use Prim.Native.Nat.{ℕ, zero, suc, ◌+◌, ◌≤◌, ◌<◌}
use mathlib.Core.Path.{◌≡◌, sym, ◌∙◌}
use mathlib.Core.Bool.{true, true≢false}
use mathlib.Core.List.{List, [], ◌∷◌}
use mathlib.Core.Logic.{◌⊎◌}
use native.Mathlib.Omega.{arith}
use lib.ListN.{length}
use Rattle.std.specs.Prelude.{Option, None}
use Rattle.std.specs.List.{Contains}
use Rattle.rules.specs.State.{most_terms}
use Rattle.shapes.specs.declared.Entry.{Entry}
use Rattle.shapes.specs.declared.KeyNo.{KeyNo}
use Rattle.shapes.specs.declared.TermNo.{TermNo}
use Rattle.shapes.specs.declared.Term.TheVariants.{Key, Seal}
use Rattle.token.specs.Chains.{as_number, last}
use Rattle.running.specs.Leaks.{kind_at, held_at, Leak, the_leak, leads, Followed}
use Rattle.token.proofs.ChainsLast.{last_above}
use Rattle.running.proofs.LeakCount.{unheld}
use Rattle.running.proofs.LeakMark.{own_at}
use Rattle.running.proofs.LeakSeals.{under, seal_under}

-- number c is that of a key which the leak of t leads to
pub record Source (entries : List Entry) (t c : ℕ) : Type 0 where
  pub term : ℕ
  pub led : Leak entries t term
  pub is_key : kind_at entries term ≡ Key (record { 0 = c })

-- the entries with more of them held, all of it what the leak of t leads to
pub record Kept (entries : List Entry) (t : ℕ) (now : List Entry) : Type 0 where
  pub same_length : length now ≡ length entries
  pub same_kind : (i : ℕ) → kind_at now i ≡ kind_at entries i
  pub same_own : (i : ℕ) → own_at now i ≡ own_at entries i
  pub still_held : (i : ℕ) → held_at entries i ≡ true → held_at now i ≡ true
  pub no_other : (i : ℕ) → held_at now i ≡ true → (held_at entries i ≡ true) ⊎ Leak entries t i

-- what stands in a list of one number is that number
pub only_one : {x y : ℕ} → Contains (x ∷ []) y → x ≡ y
only_one (zero, h, e) = e
only_one (suc k, h, e) = absurd (omega (arith, h))

-- what becomes of p, sealed by number i under the key with number j: it is held, or that key waits, or it is the key c whose seals
-- below m are still ahead
pub data Due (now : List Entry) (waiting : List ℕ) (c m j i p : ℕ) : Type 0 where
  held_now : held_at now p ≡ true → Due now waiting c m j i p
  waits : Contains waiting j → Due now waiting c m j i p
  ahead : j ≡ c → i < m → Due now waiting c m j i p

pub record Walk (entries : List Entry) (n t : ℕ) (now : List Entry) (waiting : List ℕ) (link : Option TermNo) : Type 0 where
  pub kept : Kept entries t now
  pub room : length waiting + unheld now ≤ most_terms
  pub sources : (c : ℕ) → Contains waiting c → Source entries t c
  pub key : ℕ
  pub source : Source entries t key
  pub bound : ℕ
  pub within : bound ≤ n
  pub link_is : as_number link ≡ last (under entries key) bound
  pub due :
      (q p i : ℕ) (j l : KeyNo) → held_at now q ≡ true → kind_at entries q ≡ Key j →
      kind_at entries i ≡ Seal j (record { 0 = p }) → kind_at entries p ≡ Key l → Due now waiting key bound j.0 i p

-- where there is no link no seal under the key is ahead
pub none_ahead : (entries : List Entry) (c m i : ℕ) {j : KeyNo} {p : TermNo} → 0 ≡ last (under entries c) m →
    kind_at entries i ≡ Seal j p → j.0 ≡ c → i < m → ⊥
none_ahead entries c m i e s same l =
    let hit : under entries c i ≡ true = rw (← same) (seal_under entries i s) in
    true≢false (sym hit ∙ last_above (under entries c) m i (omega arith) l)

module _ {entries : List Entry} {n t : ℕ} {now : List Entry} (w : Walk entries n t now [] None) where
  -- at the end what a held key opens is held
  opened_at_end : (p i : ℕ) (j : KeyNo) → kind_at entries i ≡ Seal j (record { 0 = p }) →
      Due now [] w.key w.bound j.0 i p →
      held_at now p ≡ true
  opened_at_end p i j s (held_now h) = h
  opened_at_end p i j s (waits c) = absurd (omega (arith, c.1))
  opened_at_end p i j s (ahead same l) = absurd (none_ahead entries w.key w.bound i w.link_is s same l)

  -- so everything that the leak leads to is
  leak_at_end : held_at entries t ≡ true → (i : ℕ) → Leak entries t i → held_at now i ≡ true
  leak_at_end h _ the_leak = w.kept.still_held t h
  leak_at_end h _ (leads l o) =
      opened_at_end _ o.seal_no o.outer o.seal_kind
      (w.due _ _ o.seal_no o.outer o.inner (leak_at_end h _ l) o.outer_kind o.seal_kind o.inner_kind)

  -- a walk with nothing left has followed the leak
  pub walk_ends : held_at entries t ≡ true → Followed entries t now
  walk_ends h =
      record {
        same_length = w.kept.same_length;
        same_kind = w.kept.same_kind;
        same_own = w.kept.same_own;
        still_held = w.kept.still_held;
        leak_held = leak_at_end h;
        no_other = w.kept.no_other;
      }
