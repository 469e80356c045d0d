-- A key reached by following can be worked out. Rests on proofs/Derivation.antt.
use Prim.Native.Nat.{ℕ}
use mathlib.Core.List.{List}
use Rattle.terms.specs.Terms.{Term, Table, key}
use Rattle.terms.specs.WorkingOut.{Held}
use Rattle.terms.specs.Following.{Reached, own_key, given_key, under_key}
use Rattle.terms.proofs.Covers.{Covers}
use Rattle.terms.proofs.Derivation.{held_own, held_given, held_open}

-- each key reached is held: its seals were given, and are opened one after the other
pub reached_held : {own given : List Term} {table : Table} {k : ℕ} → Covers own given table → Reached own given table k →
    Held own given (key k)
reached_held c (own_key h) = held_own h
reached_held c (given_key h) = held_given h
reached_held c (under_key s r) = held_open (held_given (c.seals_given s)) (reached_held c r)
