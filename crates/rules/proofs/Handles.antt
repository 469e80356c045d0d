-- Two facts about the handles of a token: a fresh one has none live, and a live one stands among them with the key of its
-- number. Rests on Named.
use Prim.Native.Nat.{ℕ, suc, zero}
use mathlib.Core.Path.{◌≡◌, sym, ap, subst}
use mathlib.Core.List.Memᴰ
use lib.ListN.{replicate}
use Rattle.terms.specs.Lists.{◌∈◌}
use Rattle.rules.specs.State.{Now, Slot, dead, live, most_handles, fresh, slot, key_of_slot}
use Rattle.rules.proofs.Named.{Live}

all_dead : {x : Slot} (n : ℕ) → x ∈ replicate n dead → x ≡ dead
all_dead zero x'' = elim x'' [ ]
all_dead (suc n) (Memᴰ.head q) = q
all_dead (suc n) (Memᴰ.tail m) = all_dead n m

-- every handle number of a fresh token is dead
pub fresh_dead : {x : Slot} → x ∈ fresh.now.handles → x ≡ dead
unfolding fresh
fresh_dead m = all_dead most_handles m

-- a live handle is among the handles, with the key that its number stands for
pub live_handle : {now : Now} {h : ℕ} (l : Live now h) → live (key_of_slot (slot now h)) l.flags_no ∈ now.handles
unfolding key_of_slot
live_handle {now} {h} l = subst (λ (k : ℕ). live k l.flags_no ∈ now.handles) (sym (ap key_of_slot l.is_slot)) l.in_handles
