-- The command with a number and a body is the one that is read from them: there is one where the number is known and the body of its
-- length, and no other. Rests on Bodies.
use Prim.Native.Nat.{ℕ}
use mathlib.Core.Path.{◌≡◌, sym, ap, ap₂, ◌∙◌}
use mathlib.Core.Bool.{true}
use mathlib.Core.List.{List, [], append-nil}
use native.Mathlib.Omega.{arith}
use lib.ListN.{length}
use lib.Seq.{take_all}
use Rattle.rules.specs.Commands.{Command}
use Rattle.sheets.specs.Bytes.{Bytes}
use Rattle.sheets.specs.Sheets.{body_bytes}
use Rattle.sheets.specs.Faults.{known_number, body_length}
use Rattle.sheets.specs.OneCommand.{CommandOf}
use Rattle.sheets.specs.Reading.{read_command}
use Rattle.sheets.proofs.Bodies.{body_bytes_length, number_known, read_back, stated, body_taken}

module _ {n : ℕ} {bytes : List ℕ} {c : Command} (of : CommandOf n bytes c) where
  -- it is the command that is read
  pub command_read : c ≡ read_command n bytes
  command_read =
      sym (read_back c []) ∙ ap₂ read_command of.its_number (append-nil (body_bytes c) ∙ of.its_body)

  -- its number is known, and its body of that number's length
  pub command_known : known_number n ≡ true
  command_known = ap known_number (sym of.its_number) ∙ number_known c

  pub command_long : length bytes ≡ body_length n
  command_long = ap length (sym of.its_body) ∙ body_bytes_length c ∙ ap body_length of.its_number

-- so there is one only
pub one_command : {n : ℕ} {bytes : List ℕ} {c c' : Command} → CommandOf n bytes c → CommandOf n bytes c' → c ≡ c'
one_command of of' = command_read of ∙ sym (command_read of')

-- and there is one, where there can be one
pub command_of : {n : ℕ} {bytes : List ℕ} → Bytes bytes → known_number n ≡ true → length bytes ≡ body_length n
    → CommandOf n bytes (read_command n bytes)
command_of {n} {bytes} are e long =
    record {
      its_number = (stated bytes are n e).numbered;
      its_body = body_taken bytes are n e (omega (arith, long)) ∙ take_all (body_length n) bytes (omega (arith, long));
      holdable = (stated bytes are n e).holdable;
    }
