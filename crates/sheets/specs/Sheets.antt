-- Document 01, "Sheet and report": "A sheet: byte 0 policy; bytes 1 and 2 count n; then a table of contents of n entries of
-- three bytes (command number, two-byte offset of the body from the sheet's start); then the bodies in order without gaps."
-- Assumes nothing.
use Rattle.std.specs.Prelude.{ℕ, ◌+◌, ◌*◌, ◌≤◌, ◌<◌, ◌≡◌, List, [], ◌∷◌, ◌++◌, length}
use Rattle.terms.specs.Lists.{◌∈◌}
use Rattle.rules.specs.Templates.{Policy, plain, stp, stp+}
use Rattle.rules.specs.Commands.{Command, number, Part, flags, handle, term, body}
use Rattle.sheets.specs.Bytes.{two}

unfoldable pub policy_number : Policy → ℕ
policy_number plain = 0
policy_number stp = 1
policy_number stp+ = 2

-- "At most 4,096 commands in a sheet."
abbrev pub most_commands : ℕ
most_commands = 4096

-- "In a body a handle and a flag byte take one byte, a term two."
unfoldable pub part_bytes : Part → List ℕ
part_bytes (flags f) = f ∷ []
part_bytes (handle h) = h ∷ []
part_bytes (term t) = two t

unfoldable pub parts_bytes : List Part → List ℕ
parts_bytes [] = []
parts_bytes (part ∷ parts) = part_bytes part ++ parts_bytes parts

unfoldable pub body_bytes : Command → List ℕ
body_bytes c = parts_bytes (body c)

-- the table of contents, the next body being at `offset`
unfoldable pub contents : (offset : ℕ) → List Command → List ℕ
contents offset [] = []
contents offset (c ∷ cs) = number c ∷ two offset ++ contents (offset + length (body_bytes c)) cs

unfoldable pub bodies : List Command → List ℕ
bodies [] = []
bodies (c ∷ cs) = body_bytes c ++ bodies cs

-- the length of policy and count, and of an entry; the bodies begin behind both
abbrev pub header_length : ℕ
header_length = 3

abbrev pub entry_length : ℕ
entry_length = 3

unfoldable pub bodies_begin : (count : ℕ) → ℕ
bodies_begin n = header_length + entry_length * n

unfoldable pub sheet_bytes : Policy → List Command → List ℕ
sheet_bytes p cs = (policy_number p ∷ two (length cs)) ++ contents (bodies_begin (length cs)) cs ++ bodies cs

-- a command that a sheet can hold: its handles and flag bytes fit one byte, its terms two
unfoldable pub part_limit : Part → ℕ
part_limit (flags f) = 256
part_limit (handle h) = 256
part_limit (term t) = 65536

unfoldable pub part_number : Part → ℕ
part_number (flags f) = f
part_number (handle h) = h
part_number (term t) = t

abbrev pub Holdable : Command → Type 0
Holdable c = (part : Part) → part ∈ body c → part_number part < part_limit part

-- s is the sheet of these commands under this policy
pub record Sheet (s : List ℕ) (p : Policy) (cs : List Command) : Type 0 where
  pub few : length cs ≤ most_commands
  pub holdable : (c : Command) → c ∈ cs → Holdable c
  pub bytes : s ≡ sheet_bytes p cs
