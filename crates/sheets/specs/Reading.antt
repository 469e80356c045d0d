-- How a sheet is read and answered by computing. That this is the sheet, and the reply, of Sheets and Reports is proved
-- (proofs/Good.antt, proofs/Replied.antt); a reader who believes those files need not believe this one. Assumes nothing.
use Rattle.std.specs.Prelude.{ℕ, zero, suc, List, [], ◌∷◌, ◌++◌, get_or, drop}
use Rattle.std.proofs.Math.Option.{Option, none, some}
use Rattle.rules.specs.Templates.{Policy, plain, stp, stp+}
use Rattle.rules.specs.Commands.{Command, GENERATE, WRAP, UNWRAP, ENCRYPT, DECRYPT, CORRUPT, DESTROY, OWN_KEY, OWN_DATA, SEAL}
use Rattle.rules.specs.State.{fresh}
use Rattle.rules.specs.Computing.{said_by, end_of, known_of}
use Rattle.sheets.specs.Bytes.{byte_at, two_at}
use Rattle.sheets.specs.Faults.{count, entry_number, bodies_end, first_fault}
use Rattle.sheets.specs.Reports.{Reply, malformed, reported}

-- the command that a body states, by command number from 1
unfoldable pub readers : List (List ℕ → Command)
readers =
    (λ b. GENERATE (byte_at b 0))
    ∷ (λ b. WRAP (byte_at b 0) (byte_at b 1))
    ∷ (λ b. UNWRAP (byte_at b 0) (two_at b 1) (byte_at b 3))
    ∷ (λ b. ENCRYPT (byte_at b 0) (two_at b 1))
    ∷ (λ b. DECRYPT (byte_at b 0) (two_at b 1))
    ∷ (λ b. CORRUPT (byte_at b 0))
    ∷ (λ b. DESTROY (byte_at b 0))
    ∷ (λ b. OWN_KEY)
    ∷ (λ b. OWN_DATA)
    ∷ (λ b. SEAL (two_at b 0) (two_at b 2))
    ∷ []

unfoldable pub read_command : ℕ → List ℕ → Command
read_command zero b = OWN_KEY
read_command (suc n) b = get_or readers n (λ x. OWN_KEY) b

-- the first n commands of a sheet
unfoldable pub read_commands : List ℕ → (n : ℕ) → List Command
read_commands s zero = []
read_commands s (suc n) = read_commands s n ++ read_command (entry_number s n) (drop (bodies_end s n) s) ∷ []

unfoldable pub read_policy : ℕ → Policy
read_policy zero = plain
read_policy (suc zero) = stp
read_policy (suc (suc n)) = stp+

unfoldable pub run_reply : Policy → List Command → Reply
run_reply p cs = reported (said_by p fresh cs) (known_of (end_of p fresh cs))

unfoldable pub reply_or : Option ℕ → List ℕ → Reply
reply_or none s = run_reply (read_policy (byte_at s 0)) (read_commands s (count s))
reply_or (some place) s = malformed place

unfoldable pub reply : List ℕ → Reply
reply s = reply_or (first_fault s) s
