-- Document 01, "Exercises with known outcome": the ten starred exercises, A to J, each as the bytes of its sheet and what the
-- document says of it. The digits are hexadecimal, two to a byte, grouped as the document groups those of exercise A: policy,
-- count, the entries, the bodies. Assumes nothing.
use Rattle.std.specs.Prelude.{ℕ, ◌≡◌, List, [], ◌∷◌}
use Rattle.rules.specs.Runs.{Answer}
use Rattle.sheets.specs.Hex.{hex}
use Rattle.sheets.specs.Reports.{malformed, reported, Replies, report_bytes}

-- what the document says of a sheet: its commands' answers with their values, and the known keys; or 12 with a place; or the
-- report's bytes
pub data Says : Type 0 where
  answers : List Answer → (known : List ℕ) → Says
  refused_12 : (place : ℕ) → Says
  report : List ℕ → Says

abbrev pub done : (value : ℕ) → Answer
done value = record { answer = 0; value = value }

abbrev pub refused : (answer : ℕ) → Answer
refused answer = record { answer = answer; value = 0 }

pub data Exercise : Type 0 where
  exercise : (bytes digits : ℕ) → Says → Exercise

unfoldable pub exercises : List Exercise
exercises =
    -- A
    exercise 22 0x00_0004_01000F_010010_020011_050013_19_10_0001_000002 (answers (done 0 ∷ done 1 ∷ done 2 ∷ done 1 ∷ []) (1 ∷ []))
    -- B: the same with policy 1
    ∷ exercise
    22
    0x01_0004_01000F_010010_020011_050013_19_10_0001_000002
    (answers (refused 5 ∷ refused 5 ∷ refused 3 ∷ refused 3 ∷ []) [])
    -- C: g 19, g 19, g 28, WRAP 1 2, WRAP 0 1, CORRUPT 0
    ∷ exercise
    29
    0x01_0006_010015_010016_010017_020018_02001A_06001C_13_13_1C_0102_0001_00
    (answers (done 0 ∷ done 1 ∷ done 2 ∷ done 3 ∷ done 4 ∷ done 0 ∷ []) (0 ∷ 1 ∷ 2 ∷ []))
    -- D: g 3, g 19, WRAP 0 1, UNWRAP 0 2 22, OWN KEY, ENCRYPT 2 3, UNWRAP 2 4 22
    ∷ exercise
    39
    0x01_0007_010018_010019_02001A_03001C_080020_040020_030023_03_13_0001_00000216_020003_02000416
    (answers (done 0 ∷ done 1 ∷ done 2 ∷ done 2 ∷ done 3 ∷ done 4 ∷ done 3 ∷ []) (2 ∷ []))
    -- E: D under policy 2 with flags 67, 51, 54, 54
    ∷ exercise
    39
    0x02_0007_010018_010019_02001A_03001C_080020_040020_030023_43_33_0001_00000236_020003_02000436
    (answers (done 0 ∷ done 1 ∷ done 2 ∷ done 2 ∷ done 3 ∷ refused 9 ∷ refused 4 ∷ []) (2 ∷ []))
    -- F: g 67, CORRUPT 0, SEAL 0 0, UNWRAP 0 1 54, WRAP 0 1
    ∷ exercise
    30
    0x02_0005_010012_060013_0A0014_030018_02001C_43_00_00000000_00000136_0001
    (answers (done 0 ∷ done 0 ∷ done 1 ∷ done 1 ∷ done 1 ∷ []) (0 ∷ []))
    -- G: g 51, g 51, WRAP 0 1
    ∷ exercise 16 0x02_0003_01000C_01000D_02000E_33_33_0001 (answers (done 0 ∷ done 1 ∷ refused 6 ∷ []) [])
    -- H: g 19, WRAP 0 0
    ∷ exercise 12 0x01_0002_010009_02000A_13_0000 (answers (done 0 ∷ done 1 ∷ []) [])
    -- I: g 28, ENCRYPT 0 0
    ∷ exercise 13 0x01_0002_010009_04000A_1C_000000 (answers (done 0 ∷ refused 7 ∷ []) [])
    -- J: the sheet 020000; two bytes only
    ∷ exercise 3 0x02_0000 (report (0 ∷ 0 ∷ 0 ∷ 0 ∷ []))
    ∷ exercise 2 0x02_00 (refused_12 0)
    ∷ []

-- what the document says of the sheet is so
abbrev pub Holds : List ℕ → Says → Type 0
Holds s (answers said known) = Replies s (reported said known)
Holds s (refused_12 place) = Replies s (malformed place)
Holds s (report bytes) =
    (said : List Answer) × (known : List ℕ) × Replies s (reported said known) × (report_bytes said known ≡ bytes)

abbrev pub IsSo : Exercise → Type 0
IsSo (exercise bytes digits says) = Holds (hex bytes digits) says
