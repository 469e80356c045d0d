-- What a done command changes in the token and which value it answers, said of the state that the token shows: what the deciding
-- functions have to come to (Decided), and what then has to be shown (Changed). Rests on the definitions alone.
use Prim.Native.Nat.{ℕ}
use mathlib.Core.Bool.{Bool, false, not, ◌&&◌, cond}
use Rattle.terms.specs.Terms.{Term, key, seal, listed, number_of}
use Rattle.terms.specs.Following.{held_by_following}
use Rattle.rules.specs.Commands.{Command, GENERATE, WRAP, UNWRAP, ENCRYPT, DECRYPT, CORRUPT, DESTROY, OWN_KEY, OWN_DATA, SEAL}
use Rattle.rules.specs.State.{State, slot, key_of_slot, term_at, is_key, key_number, payload, new_handle}
use Rattle.rules.specs.Changes.{answers, after}
use Rattle.rules.specs.Runs.{number_in}
use Rattle.deciding.specs.declared.Change.{Change}
use Rattle.deciding.specs.declared.Change.TheVariants.{Nothing, Bind, Release, NewKey, OwnKey, OwnData, NewSeal, Know}

-- the caller holds the term
unfoldable pub held_in : State → Term → Bool
held_in s m = held_by_following s.past.own s.past.given s.now.table m

-- a seal is appended where its equal is not there
unfoldable pub seal_change : State → (k : ℕ) → Term → (leaks : Bool) → Change
seal_change s k m leaks =
    cond (listed s.now.table (seal k m)) Nothing
    (NewSeal (record { 0 = k }) (record { 0 = number_of s.now.table m }) leaks)

-- a key that is given and not held leaks
unfoldable pub gift_change : State → Term → Change
gift_change s m = cond (is_key m && not (held_in s m)) (Know (record { 0 = number_of s.now.table m })) Nothing

unfoldable pub change_for : State → Command → Change
change_for s (GENERATE f) = NewKey (record { 0 = new_handle s.now }) f
change_for s (WRAP a b) =
    seal_change s (key_of_slot (slot s.now a)) (key (key_of_slot (slot s.now b)))
    (held_in s (key (key_of_slot (slot s.now a))) && not (held_in s (key (key_of_slot (slot s.now b)))))
change_for s (UNWRAP h t f) =
    Bind (record { 0 = new_handle s.now })
    (record {
      key = record { 0 = key_number (payload (term_at s.now t)) };
      term = record { 0 = number_of s.now.table (payload (term_at s.now t)) };
      flags = f;
    })
change_for s (ENCRYPT h t) = seal_change s (key_of_slot (slot s.now h)) (term_at s.now t) false
change_for s (DECRYPT h t) = gift_change s (payload (term_at s.now t))
change_for s (CORRUPT h) = gift_change s (key (key_of_slot (slot s.now h)))
change_for s (DESTROY h) = Release (record { 0 = h })
change_for s OWN_KEY = OwnKey
change_for s OWN_DATA = OwnData
change_for s (SEAL k t) = seal_change s (key_number (term_at s.now k)) (term_at s.now t) false

-- the value that a done command answers
unfoldable pub value_for : State → Command → ℕ
value_for s c = number_in (after s c).now.table (answers s.now c)
