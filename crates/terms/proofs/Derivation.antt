-- Working out as a derivation: the rules of specs/WorkingOut.antt without the list of earlier entries. A term is held exactly
-- where it is derived, since two workings one after the other are a working. Rests on specs/WorkingOut.antt.
use Prim.Native.Nat.{ℕ}
use mathlib.Core.List.Memᴰ
use mathlib.Core.List.{List, [], ◌∷◌, ◌++◌}
use mathlib.Core.Logic.{◌↔◌}
use mathlib.Core.Path.{refl}
use Rattle.terms.specs.Lists.{◌∈◌}
use Rattle.terms.specs.Terms.{Term, key, seal}
use Rattle.terms.specs.WorkingOut.{Entry, is_own, is_given, sealed, opened, Working, nothing, then, Held}
use Rattle.terms.proofs.Lists.{◌⊆◌}

-- the terms that can be derived: own, given, sealed under a derived key, opened with a derived key
pub data Derives (own given : List Term) : Term → Type 0 where
  from_own : {m : Term} → m ∈ own → Derives own given m
  from_given : {m : Term} → m ∈ given → Derives own given m
  sealing : {k : ℕ} {m : Term} → Derives own given (key k) → Derives own given m → Derives own given (seal k m)
  opening : {k : ℕ} {m : Term} → Derives own given (seal k m) → Derives own given (key k) → Derives own given m

module _ {own given : List Term} where
  -- an entry after derived entries is derived
  entry_derives : {earlier : List Term} {m : Term} → ((x : Term) → x ∈ earlier → Derives own given x) →
      Entry own given earlier m → Derives own given m
  entry_derives below (is_own h) = from_own h
  entry_derives below (is_given h) = from_given h
  entry_derives below (sealed a b) = sealing (below _ a) (below _ b)
  entry_derives below (opened a b) = opening (below _ a) (below _ b)

  -- every entry of a working is derived
  working_derives : {l : List Term} {m : Term} → Working own given l → m ∈ l → Derives own given m
  working_derives (then {m = x} w e) (Memᴰ.head q) = rw q (entry_derives (λ x h. working_derives w h) e)
  working_derives {m = m} nothing x3 = elim x3 [ ]
  working_derives (then w e) (Memᴰ.tail h) = working_derives w h

  -- what is held is derived
  pub held_derives : {m : Term} → Held own given m → Derives own given m
  held_derives h = working_derives h.working (Memᴰ.head refl)

  -- what may stand after some entries may stand after more of them
  entry_more : {earlier more : List Term} {m : Term} → earlier ⊆ more → Entry own given earlier m → Entry own given more m
  entry_more up (is_own h) = is_own h
  entry_more up (is_given h) = is_given h
  entry_more up (sealed a b) = sealed (up _ a) (up _ b)
  entry_more up (opened a b) = opened (up _ a) (up _ b)

  -- two workings one after the other are a working
  pub working_append : {later earlier : List Term} → Working own given later → Working own given earlier →
      Working own given (later ++ earlier)
  working_append nothing v = v
  working_append {earlier = earlier} (then w e) v = then (working_append w v) (entry_more (λ x h. Memᴰ.append_left earlier h) e)

  -- the caller's own is held
  pub held_own : {m : Term} → m ∈ own → Held own given m
  held_own h = record { earlier = []; working = then nothing (is_own h) }

  -- what was given is held
  pub held_given : {m : Term} → m ∈ given → Held own given m
  held_given h = record { earlier = []; working = then nothing (is_given h) }

  -- from two held terms, what may stand after both is held
  held_both : {a b m : Term} → Held own given a → Held own given b →
      ((l : List Term) → a ∈ l → b ∈ l → Entry own given l m) → Held own given m
  held_both {a} {b} ha hb e = record {
    earlier = (a ∷ ha.earlier) ++ (b ∷ hb.earlier);
    working = then (working_append ha.working hb.working)
        (e _ (Memᴰ.head refl) (Memᴰ.append_right (a ∷ ha.earlier) (Memᴰ.head refl)));
  }

  -- a held term may be sealed under a held key
  pub held_seal : {k : ℕ} {m : Term} → Held own given (key k) → Held own given m → Held own given (seal k m)
  held_seal hk hm = held_both hk hm (λ l. sealed)

  -- a held seal may be opened with its held key
  pub held_open : {k : ℕ} {m : Term} → Held own given (seal k m) → Held own given (key k) → Held own given m
  held_open hs hk = held_both hs hk (λ l. opened)

  -- what is derived is held
  pub derives_held : {m : Term} → Derives own given m → Held own given m
  derives_held (from_own h) = held_own h
  derives_held (from_given h) = held_given h
  derives_held (sealing a b) = held_seal (derives_held a) (derives_held b)
  derives_held (opening a b) = held_open (derives_held a) (derives_held b)

  -- a term is held exactly where it is derived
  pub held_is_derived : {m : Term} → Held own given m ↔ Derives own given m
  held_is_derived = (held_derives, derives_held)
