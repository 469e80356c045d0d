-- Two results of the writer's call are equal. Assumes nothing.
use Prim.Native.Nat.{ℕ}
use mathlib.Core.Path.{◌≡◌, sym, ◌∙◌}
use mathlib.Core.List.{List}
use Rattle.vachodien.specs.Replied.{SheetWritten}

pub written_unique : {policy n : ℕ} {handed before a b : List ℕ} {r r' : ℕ} → SheetWritten policy n handed before a r
    → SheetWritten policy n handed before b r'
    → (r ≡ r') × (a ≡ b)
written_unique p q = (p.number ∙ sym q.number, p.buffer ∙ sym q.buffer)
