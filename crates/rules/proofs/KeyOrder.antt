-- "Keys number from 0 in order of creation", and each key's term comes into being with it: so the keys of a table stand there in
-- the order of their numbers. Rests on SoundKept.
use Prim.Native.Nat.{ℕ, ◌<◌}
use native.Mathlib.Omega.{arith}
use mathlib.Core.Path.{◌≡◌}
use mathlib.Core.Logic.{◌⊎◌, inl, inr, ⊎_elim}
use mathlib.Core.Bool.{true, false}
use mathlib.Core.List.{[], ◌∷◌, ◌++◌}
use mathlib.Core.Option.{some}
use lib.ListN.{get_elem?, length}
use Rattle.terms.specs.Lists.{◌∈◌}
use Rattle.terms.specs.Terms.{Term, Table, item, key, seal, listed, enter}
use Rattle.terms.proofs.Lists.{bool_cases, at_in, at_below, at_snoc}
use Rattle.terms.proofs.Terms.{in_listed, enter_listed, enter_new}
use Rattle.rules.specs.Templates.{Policy}
use Rattle.rules.specs.Commands.{GENERATE, WRAP, UNWRAP, ENCRYPT, DECRYPT, CORRUPT, DESTROY, OWN_KEY, OWN_DATA, SEAL}
use Rattle.rules.specs.State.{State, fresh, new_key}
use Rattle.rules.specs.Changes.{answers, changes, giving, all_changes, change_now, change_past, all_of, after}
use Rattle.rules.specs.Runs.{Reachable}
use Rattle.rules.proofs.Induction.{reachable_has}
use Rattle.rules.proofs.Named.{decrypts_named, corrupts_named}
use Rattle.rules.proofs.Sound.{Sound}
use Rattle.rules.proofs.ShapeKept.{parts_in}
use Rattle.rules.proofs.SoundKept.{sound_fresh, sound_kept, live_in}
use Rattle.rules.proofs.Beside.{KeptBeside, kept_beside}

-- of two keys, the one with the lower term number has the lower key number
abbrev pub InOrder : Table → Type 0
InOrder table = (i j a b : ℕ) → get_elem? table i ≡ some (key a) → get_elem? table j ≡ some (key b) → i < j → a < b

-- a term keeps the order when it is entered if it is there already, or is no key, or a key above all others
abbrev Above : Table → Term → Type 0
Above table m = (a k : ℕ) → key a ∈ table → key k ≡ m → a < k

no_key_item : (table : Table) (n : ℕ) → Above table (item n)
no_key_item table n a k h q = absurd (let z : ◌≡◌ {A = ℕ} 0 1 = cc in omega arith)

no_key_seal : (table : Table) (j : ℕ) (m : Term) → Above table (seal j m)
no_key_seal table j m a k h q = absurd (let z : ◌≡◌ {A = ℕ} 0 1 = cc in omega arith)

order_snoc : (table : Table) (m : Term) → Above table m → InOrder table → InOrder (table ++ m ∷ [])
order_snoc table m above order i j a b x y less =
    ⊎_elim
    (λ x'.
    ⊎_elim (λ y'. order i j a b x' y' less) (λ y'. above a b (at_in table i x') y'.1) (at_snoc table m j y))
    (λ x'.
    ⊎_elim (λ y'. absurd (omega (arith, at_below table j y', x'.0))) (λ y'. absurd (omega (arith, x'.0, y'.0)))
    (at_snoc table m j y))
    (at_snoc table m i x)

order_enter : (table : Table) (m : Term) → (m ∈ table) ⊎ Above table m → InOrder table → InOrder (enter table m)
order_enter table m (inl h) order = rw (enter_listed table m (in_listed h)) order
order_enter table m (inr above) order =
    bool_cases (listed table m) (λ (e : listed table m ≡ true). rw (enter_listed table m e) order)
    (λ (e : listed table m ≡ false). rw (enter_new table m e) (order_snoc table m above order))

abbrev TableInOrder : State → Type 0
TableInOrder s = InOrder s.now.table

fresh_order : TableInOrder fresh
unfolding fresh
fresh_order i j a b x y less = absurd (let z : ◌≡◌ {A = ℕ} 0 1 = cc in omega arith)

-- a new key has the highest number
new_above : {s : State} → Sound s → Above s.now.table (key (new_key s.now))
unfolding new_key
new_above {s} i a k h q = let e : k ≡ length s.now.origins = cc in omega (arith, i.counted.keys_counted h)

order_kept : (p : Policy) → KeptBeside p Sound TableInOrder
unfolding after all_of all_changes changes giving answers change_now change_past
order_kept p s (GENERATE f) held j d i order = order_enter _ _ (inr (new_above i)) order
order_kept p s (WRAP a b) held j d i order = order_enter _ _ (inr (no_key_seal _ _ _)) order
order_kept p s (UNWRAP h t f) held j d i order = order
order_kept p s (ENCRYPT h t) held j d i order = order_enter _ _ (inr (no_key_seal _ _ _)) order
order_kept p s (DECRYPT h t) held j d i order =
    let e = decrypts_named d in
    order_enter _ _ (inl (parts_in i.counted.shape (rw e.sealed at e.the_term.in_table)).1) order
order_kept p s (CORRUPT h) held j d i order = order_enter _ _ (inl (live_in i (corrupts_named d))) order
order_kept p s (DESTROY h) held j d i order = order
order_kept p s OWN_KEY held j d i order = order_enter _ _ (inr (new_above i)) order
order_kept p s OWN_DATA held j d i order = order_enter _ _ (inr (no_key_item _ _)) order
order_kept p s (SEAL k t) held j d i order = order_enter _ _ (inr (no_key_seal _ _ _)) order

-- in every reachable state the keys stand in the order of their numbers
pub keys_in_order : {p : Policy} {s : State} → Reachable p s → InOrder s.now.table
keys_in_order {p} r =
    (reachable_has (λ s. Sound s × TableInOrder s) (sound_fresh, fresh_order)
    (kept_beside Sound TableInOrder (sound_kept p) (order_kept p)) r).1
