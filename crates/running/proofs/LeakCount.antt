-- How many entries are not held: what bounds how many keys wait and makes a walk end. Rests on the definitions alone.
use Prim.Native.Nat.{ℕ, zero, suc, ◌≤◌, ◌<◌}
use mathlib.Core.Path.{◌≡◌}
use mathlib.Core.Bool.{true, false, cond}
use mathlib.Core.List.{List, [], ◌∷◌}
use native.Mathlib.Omega.{arith}
use lib.ListN.{length, set}
use Rattle.shapes.specs.Entries.{is_held}
use Rattle.terms.proofs.Lists.{bool_cases}
use Rattle.shapes.specs.declared.Entry.{Entry}
use Rattle.running.specs.Leaks.{held_at}

unfoldable pub unheld : List Entry → ℕ
unheld [] = 0
unheld (e ∷ es) = cond (is_held e) (unheld es) (suc (unheld es))

-- the first entry counts where it is not held
held_first : (e : Entry) (es : List Entry) → is_held e ≡ true → unheld (e ∷ es) ≡ unheld es
unfolding unheld
held_first e es h = rw h

unheld_first : (e : Entry) (es : List Entry) → is_held e ≡ false → unheld (e ∷ es) ≡ suc (unheld es)
unfolding unheld
unheld_first e es h = rw h

-- there are no more than there are entries
pub unheld_le : (es : List Entry) → unheld es ≤ length es
unfolding unheld
unheld_le [] = omega arith
unheld_le (e ∷ es) =
    bool_cases (is_held e) (λ h. omega (arith, held_first e es h, unheld_le es))
    (λ h. omega (arith, unheld_first e es h, unheld_le es))

-- an entry that becomes held makes it one less
pub unheld_set : (es : List Entry) (i : ℕ) (e : Entry) → i < length es → held_at es i ≡ false → is_held e ≡ true →
    unheld es ≡ suc (unheld (set es i e))
unheld_set [] i e l h k = absurd (omega arith)
unheld_set (x ∷ es) zero e l h k = omega (arith, unheld_first x es h, held_first e es k)
unheld_set (x ∷ es) (suc i) e l h k =
    let less : unheld es ≡ suc (unheld (set es i e)) = unheld_set es i e (omega arith) h k in
    bool_cases (is_held x)
    (λ m. omega (arith, held_first x es m, held_first x (set es i e) m))
    (λ m. omega (arith, unheld_first x es m, unheld_first x (set es i e) m))
