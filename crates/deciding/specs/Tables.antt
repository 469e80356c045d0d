-- What the enums and the constant tables of the code stand for: the flags, the two ways to make a handle, the policies by number, and
-- the flag needed on a command's first handle. Assumes nothing.
use Rattle.std.specs.Prelude.{ℕ, zero, suc}
use Rattle.rules.specs.Flags.{Flag, W, U, E, D, X, N, T}
use Rattle.rules.specs.Templates.{Making, by_generate, by_unwrap}
use Rattle.shapes.specs.declared.policy.Policy.{Policy}
use Rattle.shapes.specs.declared.policy.Policy.TheVariants.{Plain, Stp, StpPlus}
use Rattle.deciding.specs.declared.tables.Flag.{Flag as Stored}
use Rattle.deciding.specs.declared.tables.Flag.TheVariants.{Wrap, Unwrap, Encrypt, Decrypt, Extractable, TrustedOnly, Trusted}
use Rattle.deciding.specs.declared.tables.Making.{Making as Way}
use Rattle.deciding.specs.declared.tables.Making.TheVariants.{Generate as ByGenerate, Unwrap as ByUnwrap}
use Rattle.deciding.specs.declared.tables.Use.{Use}
use Rattle.deciding.specs.declared.tables.Use.TheVariants.{Wrap as ToWrap, Unwrap as ToUnwrap, Encrypt as ToEncrypt, Decrypt as ToDecrypt}

abbrev pub flag_of : Stored → Flag
flag_of Wrap = W
flag_of Unwrap = U
flag_of Encrypt = E
flag_of Decrypt = D
flag_of Extractable = X
flag_of TrustedOnly = N
flag_of Trusted = T

-- the two ways to make a handle
abbrev pub making_of : Way → Making
making_of ByGenerate = by_generate
making_of ByUnwrap = by_unwrap

-- a policy's number
abbrev pub policy_number : Policy → ℕ
policy_number Plain = 0
policy_number Stp = 1
policy_number StpPlus = 2

-- a use's place in the table of needed flags: command 2 + n is at n
abbrev pub place : Use → ℕ
place ToWrap = 0
place ToUnwrap = 1
place ToEncrypt = 2
place ToDecrypt = 3

-- the flag that command 2 + n needs on its first handle: WRAP, UNWRAP, ENCRYPT, DECRYPT
abbrev pub needed_by : ℕ → Flag
needed_by zero = W
needed_by (suc zero) = U
needed_by (suc (suc zero)) = E
needed_by (suc (suc (suc n))) = D
