-- A sheet with each of the ten commands and another number in every part, its bytes worked out by hand from document 01. The theorems
-- on all sheets would carry another order of the parts along: here it is told. Rests on the definitions alone.
use Prim.Native.Nat.{ℕ}
use mathlib.Core.Path.{◌≡◌, refl}
use mathlib.Core.List.{List, [], ◌∷◌, map}
use lib.ListN.{replicate, take}
use Rattle.rules.specs.Templates.{plain, stp, stp+}
use Rattle.rules.specs.Commands.{Command, GENERATE, WRAP, UNWRAP, ENCRYPT, DECRYPT, CORRUPT, DESTROY, OWN_KEY, OWN_DATA, SEAL}
use Rattle.sheets.specs.Bytes.{byte_at}
use Rattle.sheets.specs.Sheets.{policy_number, part_bytes, parts_bytes, body_bytes, contents, bodies, sheet_bytes}
use Rattle.sheets.specs.Faults.{count}
use Rattle.sheets.specs.Reading.{read_commands, read_policy}
use Rattle.sheets.proofs.Opened.{sheets_opened}
use Rattle.sheets.specs.Hex.{hex}

-- the ten commands, not in the order of their numbers
unfoldable pub ten_commands : List Command
ten_commands =
    UNWRAP 0x01 0x0203 0x36
    ∷ OWN_DATA
    ∷ SEAL 0x0405 0x0607
    ∷ GENERATE 0x08
    ∷ DECRYPT 0x09 0x0A0B
    ∷ OWN_KEY
    ∷ WRAP 0x0C 0x0D
    ∷ CORRUPT 0x0E
    ∷ ENCRYPT 0x0F 0x1011
    ∷ DESTROY 0x12
    ∷ []

-- policy and count; an entry for each, the first body being at 3 + 3 · 10 = 0x0021; the bodies
unfoldable pub their_sheet : List ℕ
their_sheet =
    hex 52 0x02_000A_030021_090025_0A0025_010029_05002A_08002D_02002D_06002F_040030_070033_01020336_04050607_08_090A0B_0C0D_0E_0F1011_12

pub ten_written : sheet_bytes stp+ ten_commands ≡ their_sheet
unfolding sheets_opened hex ten_commands their_sheet policy_number part_bytes parts_bytes body_bytes contents bodies sheet_bytes
ten_written = refl

pub ten_read : (read_policy (byte_at their_sheet 0) ≡ stp+) × (read_commands their_sheet (count their_sheet) ≡ ten_commands)
unfolding sheets_opened hex ten_commands their_sheet
ten_read = (refl, refl)

-- the policies' numbers, written and read
pub policies_numbered : map policy_number (plain ∷ stp ∷ stp+ ∷ []) ≡ 0 ∷ 1 ∷ 2 ∷ []
unfolding policy_number
policies_numbered = refl

pub policies_read : map read_policy (0 ∷ 1 ∷ 2 ∷ []) ≡ plain ∷ stp ∷ stp+ ∷ []
unfolding read_policy
policies_read = refl

-- a count and offsets above 255
pub count_written : take 3 (sheet_bytes stp (replicate 0x0304 OWN_KEY)) ≡ hex 3 0x01_0304
unfolding sheets_opened hex policy_number sheet_bytes
count_written = refl

pub offsets_written : contents 0x0203 (UNWRAP 0 0 0 ∷ OWN_KEY ∷ []) ≡ hex 6 0x03_0203_08_0207
unfolding sheets_opened hex part_bytes parts_bytes body_bytes contents
offsets_written = refl
