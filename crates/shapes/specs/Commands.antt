-- A command of the code, for a command of the rules, and the command that a number and a body state: "1: at a direct call: unknown
-- command number .. or a body not of that command's length." Assumes nothing.
use Rattle.std.specs.Prelude.{ℕ, Option, Some, None, Bool, true, false, not, ◌||◌, List, eqb, ltb, length}
use Rattle.rules.specs.Commands.{Command, GENERATE, WRAP, UNWRAP, ENCRYPT, DECRYPT, CORRUPT, DESTROY, OWN_KEY, OWN_DATA, SEAL}
use Rattle.sheets.specs.Faults.{known_number, body_length}
use Rattle.sheets.specs.Reading.{read_command}
use Rattle.shapes.specs.declared.Command.{Command as Stored}
use Rattle.shapes.specs.declared.Command.TheVariants.{Generate, Wrap, Unwrap, Encrypt, Decrypt, Corrupt, Destroy, OwnKey, OwnData, Seal}

-- a command of the code, for a command of the rules
unfoldable pub stored_command : Command → Stored
stored_command (GENERATE f) = Generate f
stored_command (WRAP a b) = Wrap (record { 0 = a }) (record { 0 = b })
stored_command (UNWRAP h t f) = Unwrap (record { 0 = h }) (record { 0 = t }) f
stored_command (ENCRYPT h t) = Encrypt (record { 0 = h }) (record { 0 = t })
stored_command (DECRYPT h t) = Decrypt (record { 0 = h }) (record { 0 = t })
stored_command (CORRUPT h) = Corrupt (record { 0 = h })
stored_command (DESTROY h) = Destroy (record { 0 = h })
stored_command OWN_KEY = OwnKey
stored_command OWN_DATA = OwnData
stored_command (SEAL k t) = Seal (record { 0 = k }) (record { 0 = t })

-- the command that a number and a body state, or none
unfoldable pub parsed_if : (is_none : Bool) → Command → Option Stored
parsed_if true c = None
parsed_if false c = Some (stored_command c)

unfoldable pub no_command : (number : ℕ) (body : List ℕ) → Bool
no_command number body = not (known_number number) || not (eqb (length body) (body_length number))

-- 1: "at a direct call: unknown command number, policy above 2, or a body not of that command's length"
unfoldable pub not_a_call : (policy number : ℕ) (body : List ℕ) → Bool
not_a_call policy number body = ltb 2 policy || no_command number body

-- the command of a direct call, where it is one
unfoldable pub called : (policy number : ℕ) (body : List ℕ) → Option Stored
called policy number body = parsed_if (not_a_call policy number body) (read_command number body)

unfoldable pub parsed : (number : ℕ) (body : List ℕ) → Option Stored
parsed number body = parsed_if (no_command number body) (read_command number body)
