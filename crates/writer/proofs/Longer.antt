-- A sheet's table and bodies with one command more behind the others, and how long a sheet is.
-- Rests on the laws of a sheet in the crate sheets.
use Prim.Native.Nat.{ℕ, ◌+◌}
use native.Mathlib.Nat.{add-zero}
use native.Mathlib.Omega.{arith}
use mathlib.Core.Path.{◌≡◌, sym, ap, ◌∙◌}
use mathlib.Core.List.{List, [], ◌∷◌, ◌++◌, append_assoc, append-nil}
use lib.ListN.{length, length-append}
use Rattle.rules.specs.Templates.{Policy}
use Rattle.rules.specs.Commands.{Command, number}
use Rattle.sheets.specs.Bytes.{two}
use Rattle.sheets.specs.Sheets.{body_bytes, contents, bodies, bodies_begin, sheet_bytes}
use Rattle.sheets.proofs.Good.{contents_length}

-- the table: the new entry's body begins behind the bodies that are there
pub contents_longer : (offset : ℕ) (cs : List Command) (c : Command)
    → contents offset (cs ++ c ∷ []) ≡ contents offset cs ++ (number c ∷ two (offset + length (bodies cs)))
unfolding contents bodies two
contents_longer offset [] c = rw add-zero
contents_longer offset (d ∷ cs) c =
    let next = offset + length (body_bytes d) in
    let e : next + length (bodies cs) ≡ offset + length (body_bytes d ++ bodies cs) =
    omega (arith, length-append (body_bytes d) (bodies cs)) in
    ap (λ (l : List ℕ). number d ∷ two offset ++ l)
    (contents_longer next cs c ∙ ap (λ (k : ℕ). contents next cs ++ (number c ∷ two k)) e)

-- the bodies
pub bodies_longer : (cs : List Command) (c : Command) → bodies (cs ++ c ∷ []) ≡ bodies cs ++ body_bytes c
unfolding bodies
bodies_longer [] c = append-nil (body_bytes c)
bodies_longer (d ∷ cs) c =
    ap (λ (l : List ℕ). body_bytes d ++ l) (bodies_longer cs c) ∙ sym (append_assoc (body_bytes d) (bodies cs) (body_bytes c))

-- header, table and bodies
pub bytes_length : (p : Policy) (cs : List Command)
    → length (sheet_bytes p cs) ≡ bodies_begin (length cs) + length (bodies cs)
unfolding sheet_bytes two bodies_begin
bytes_length p cs =
    let table = contents (bodies_begin (length cs)) cs in
    omega (arith, length-append table (bodies cs), contents_length (bodies_begin (length cs)) cs)
