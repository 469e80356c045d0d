-- Damaged sheets and the place that is named for each, worked out by hand from document 01, "Place of a fault". The theorems on all
-- sheets would carry another numbering of the places along: here each place is told. Rests on the definitions and on SheetExample.
use Prim.Native.Nat.{ℕ}
use mathlib.Core.Path.{◌≡◌, refl}
use mathlib.Core.List.{List, [], ◌∷◌, map}
use mathlib.Core.Option.{Option, none, some}
use lib.ListN.{replicate}
use Rattle.sheets.specs.Faults.{first_fault}
use Rattle.sheets.proofs.Opened.{sheets_opened}
use Rattle.sheets.specs.Hex.{hex}
use Rattle.sheets.proofs.SheetExample.{their_sheet}

-- a sheet, and the place that is named for it
pub data Row : Type 0 where
  row : (sheet : List ℕ) → (place : Option ℕ) → Row

-- The digits are grouped: policy, count, the entries, the bodies. Most entries are 08 or 09, OWN KEY and OWN DATA, which have no body;
-- with two entries the bodies begin at 9
unfoldable pub rows : List Row
rows =
    -- under 3 bytes
    row [] (some 0)
    ∷ row (hex 2 0x00_00) (some 0)
    -- policy 3, policy 255
    ∷ row (hex 3 0x03_0000) (some 0)
    ∷ row (hex 3 0xFF_0000) (some 0)
    -- policy 3, and entry 1 has number 0: the smallest place is named
    ∷ row (hex 6 0x03_0001_000006) (some 0)
    -- n is 4,097: with no table, and with a table of zeros that is wholly inside
    ∷ row (hex 3 0x00_1001) (some 0)
    ∷ row (0x00 ∷ 0x10 ∷ 0x01 ∷ replicate 12291 0) (some 0)
    -- n is 1, 2 and (not 1) 256: the table would end at 6, 9 and 771, and the sheet ends at 5, 6 and 6
    ∷ row (hex 5 0x00_0001_0800) (some 0)
    ∷ row (hex 6 0x00_0002_080009) (some 0)
    ∷ row (hex 6 0x00_0100_080006) (some 0)
    -- entry 1 has number 11, 0
    ∷ row (hex 6 0x00_0001_0B0006) (some 1)
    ∷ row (hex 6 0x00_0001_000006) (some 1)
    -- entry 1 has offset 10, 8; 262 and (not 6) 1,536: the bodies begin at 9, 9; 6 and 6
    ∷ row (hex 9 0x00_0002_08000A_080009) (some 1)
    ∷ row (hex 9 0x00_0002_080008_080009) (some 1)
    ∷ row (hex 6 0x00_0001_080106) (some 1)
    ∷ row (hex 6 0x00_0001_080600) (some 1)
    -- .. and entry 2 has number 0, and a byte follows: the smallest place is named
    ∷ row (hex 10 0x00_0002_08000A_000009_00) (some 1)
    -- WRAP's body is the 2 bytes from 6 on, SEAL's the 4 bytes: the sheet ends at 7 and 9
    ∷ row (hex 7 0x00_0001_020006_00) (some 1)
    ∷ row (hex 9 0x00_0001_0A0006_000000) (some 1)
    -- n is 0, and a byte follows: n + 1
    ∷ row (hex 4 0x00_0000_00) (some 1)
    -- entry 2 has number 0; 11, and a byte follows
    ∷ row (hex 9 0x00_0002_080009_000009) (some 2)
    ∷ row (hex 10 0x00_0002_080009_0B0009_00) (some 2)
    -- GENERATE's body is the byte at 9: entry 2 has offset 9, 11, where it must be 10
    ∷ row (hex 10 0x00_0002_010009_080009_19) (some 2)
    ∷ row (hex 10 0x00_0002_010009_08000B_19) (some 2)
    -- WRAP's body, the last, is the 2 bytes from 9 on: the sheet ends at 10
    ∷ row (hex 10 0x00_0002_080009_020009_00) (some 2)
    -- n is 1 and 2, and a byte follows: n + 1
    ∷ row (hex 7 0x00_0001_080006_00) (some 2)
    ∷ row (hex 10 0x00_0002_080009_090009_00) (some 3)
    -- no fault: no command; GENERATE and OWN KEY, with offsets 9 and 10; exercise A; the ten commands
    ∷ row (hex 3 0x02_0000) none
    ∷ row (hex 10 0x00_0002_010009_08000A_19) none
    ∷ row (hex 22 0x00_0004_01000F_010010_020011_050013_19_10_0001_000002) none
    ∷ row their_sheet none
    ∷ []

unfoldable pub named : Row → Option ℕ
named (row sheet place) = first_fault sheet

unfoldable pub expected : Row → Option ℕ
expected (row sheet place) = place

-- all rows at once
pub places_named : map named rows ≡ map expected rows
unfolding sheets_opened hex their_sheet rows named expected
places_named = refl
