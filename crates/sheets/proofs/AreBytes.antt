-- That numbers are bytes, by a test: for the numbers of an example. Rests on Each.
use Prim.Native.Nat.{ℕ}
use mathlib.Core.Path.{◌≡◌}
use mathlib.Core.Bool.{Bool, true, ◌&&◌}
use mathlib.Core.List.{List, [], ◌∷◌}
use lib.Dec.{ltb}
use borrow.Author.Tests.{ltb-true}
use Rattle.rules.proofs.Named.{both}
use Rattle.sheets.specs.Bytes.{Bytes}
use Rattle.sheets.proofs.Each.{each_nil, each_cons}

-- are these numbers bytes?
unfoldable pub below_256 : List ℕ → Bool
below_256 [] = true
below_256 (x ∷ s) = ltb x 256 && below_256 s

pub are_bytes : (s : List ℕ) → below_256 s ≡ true → Bytes s
unfolding below_256
are_bytes [] e = each_nil _
are_bytes (x ∷ s) e =
    let (here, others) = both (ltb x 256) (below_256 s) e in
    each_cons _ x s (ltb-true x 256 here) (are_bytes s others)
