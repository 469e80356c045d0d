-- `rounds` reads at most the first 32,768 bytes of its input, "so the answer is the same": they print what the whole input prints.
-- Rests on the sheets' Longest.
use Prim.Native.Nat.{ℕ, ◌<◌}
use native.Mathlib.Omega.{arith}
use mathlib.Core.Path.{sym, ◌∙◌}
use mathlib.Core.Logic.{◌↔◌}
use mathlib.Core.List.{List}
use lib.ListN.{take}
use Rattle.sheets.proofs.Longest.{most_bytes, fault_of_front, sheet_of_front}
use Rattle.text.specs.Text.{most_read, Prints, is_malformed, has_run}

-- more are read than a good sheet has
enough : most_bytes < most_read
enough = omega arith

from_front : {s text : List ℕ} → Prints (take most_read s) text → Prints s text
from_front {s} (is_malformed e) = is_malformed (sym (fault_of_front most_read enough s) ∙ e)
from_front {s} (has_run sheet run list) = has_run ((sheet_of_front most_read enough s).0 sheet) run list

from_whole : {s text : List ℕ} → Prints s text → Prints (take most_read s) text
from_whole {s} (is_malformed e) = is_malformed (fault_of_front most_read enough s ∙ e)
from_whole {s} (has_run sheet run list) = has_run ((sheet_of_front most_read enough s).1 sheet) run list

-- what is printed for an input is what is printed for as much of it as is read
pub first_bytes_print : (s text : List ℕ) → Prints (take most_read s) text ↔ Prints s text
first_bytes_print s text = (from_front, from_whole)
