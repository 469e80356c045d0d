-- The rules of the code's constant tables, said of the tables themselves: flags needed, by row; flag bytes granted, row by row; and that
-- a flag is one bit of a flag byte. Assumes nothing.
use mathlib.Core.Path.{◌≡◌}
use mathlib.Core.Bool.{not}
use mathlib.Core.List.{List, []}
use Prim.Native.Nat.{ℕ, ◌+◌, ◌/◌, ◌%◌, ◌^◌, ◌<◌}
use native.Mathlib.Omega.{arith}
use lib.Bits.{bit_and}
use lib.Dec.{eqb}
use lib.ListN.{get_or}
use Rattle.std.proofs.lemmas.Bool.Decides.{nat_tests}
use Rattle.std.proofs.lemmas.Nat.Bits.{and_pow, bit_at-lt}
use Rattle.terms.specs.Lists.{some_of, is_in}
use Rattle.rules.specs.Flags.{value, has}
use Rattle.rules.specs.Templates.{Making, by_generate, by_unwrap, templates, grants}
use Rattle.sheets.specs.Reading.{read_policy}
use Rattle.deciding.specs.declared.tables.Flag.{Flag}
use Rattle.deciding.specs.declared.tables.Flag.TheVariants.{Wrap, Unwrap, Encrypt, Decrypt, Extractable, TrustedOnly, Trusted}
use Rattle.deciding.specs.declared.tables.TheConstants.{NEEDED, GRANTED}
use Rattle.deciding.specs.Tables.{flag_of, needed_by}
use Rattle.deciding.specs.Decisions.{granted_by}

-- each flag in the table is the one that the command of its row needs
pub needed_is : (row : ℕ) → row < 4 → flag_of (get_or NEEDED row Wrap) ≡ needed_by row
needed_is row h = grind arith

-- the flag bytes in the table: the row of a policy, and in it by GENERATE, then by UNWRAP
abbrev column : Making → ℕ
column by_generate = 0
column by_unwrap = 1

abbrev pub granted_bytes : (row : ℕ) → Making → List ℕ
granted_bytes row making = (get_or (get_or GRANTED row []) (column making) (record { now = [] })).now

-- a byte is one of these exactly when the template of that policy and making grants it
pub row_grants : (row : ℕ) (making : Making) (flags : ℕ) → row < 2 →
    is_in flags (granted_bytes row making) ≡ granted_by (1 + row) making flags
unfolding is_in some_of grants templates read_policy
row_grants row making flags h = grind arith

-- one name for what a policy grants, to compute with
unfoldable pub grants_opened : Unit {0}
unfolding is_in some_of grants templates read_policy
grants_opened = tt

-- a number's digit at a power of two is 1 exactly when the two have a bit in common
pow_tested : (n k : ℕ) → eqb (n / 2 ^ k % 2) 1 ≡ not (eqb (bit_and n (2 ^ k)) 0)
pow_tested n k = grind (arith, nat_tests, and_pow n k, bit_at-lt n k)

-- so a flag is in a byte exactly when the byte has a bit in common with its value
pub bit_tested : (flag : Flag) (byte : ℕ) → has (flag_of flag) byte ≡ not (eqb (bit_and byte (value (flag_of flag))) 0)
unfolding value has
bit_tested Wrap byte = pow_tested byte 0
bit_tested Unwrap byte = pow_tested byte 1
bit_tested Encrypt byte = pow_tested byte 2
bit_tested Decrypt byte = pow_tested byte 3
bit_tested Extractable byte = pow_tested byte 4
bit_tested TrustedOnly byte = pow_tested byte 5
bit_tested Trusted byte = pow_tested byte 6
