-- The reply that is computed for a sheet is the reply to it, and there is no other; so the C call has one result.
-- Rests on Good, and on the rules' runs.
use Prim.Native.Nat.{ℕ}
use native.Mathlib.Omega.{arith}
use mathlib.Core.Path.{◌≡◌, refl, ap, ap₂, subst, subst₂}
use mathlib.Core.List.{List}
use mathlib.Core.Option.{Option, none, some}
use Rattle.rules.specs.Templates.{Policy}
use Rattle.rules.specs.Commands.{Command}
use Rattle.rules.specs.Runs.{Answer, Run}
use Rattle.rules.specs.Known.{KnownList}
use Rattle.rules.specs.State.{State, fresh}
use Rattle.rules.proofs.Steps.{run_unique}
use Rattle.rules.proofs.SoundKept.{sound}
use Rattle.rules.proofs.Computed.{has_run as run_made}
use Rattle.rules.proofs.KnownLists.{known_list_unique, known_of_is}
use Rattle.sheets.specs.Bytes.{Bytes, byte_at}
use Rattle.sheets.specs.Sheets.{Sheet}
use Rattle.sheets.specs.Faults.{count, first_fault}
use Rattle.sheets.specs.Reports.{Reply, reported, Replies, is_malformed, has_run}
use Rattle.sheets.specs.Reading.{read_commands, read_policy, run_reply, reply_or, reply}
use Rattle.sheets.specs.Calls.{call}
use Rattle.sheets.proofs.Good.{sheet_good, good_sheet, one_reading}

replies_or : (s : List ℕ) → Bytes s → (o : Option ℕ) → first_fault s ≡ o → Replies s (reply_or o s)
unfolding reply_or run_reply
replies_or s bytes none e =
    let run = run_made (read_policy (byte_at s 0)) (read_commands s (count s)) in
    has_run (good_sheet s bytes e) run (known_of_is (sound (record { commands = read_commands s (count s); said = _; run = run })))
replies_or s bytes (some place) e = is_malformed e

-- every byte string is replied to
pub replies : (s : List ℕ) → Bytes s → Replies s (reply s)
unfolding reply
replies s bytes = replies_or s bytes (first_fault s) refl

-- a malformed sheet is not run: it is the sheet of no commands
pub malformed_not_run : {s : List ℕ} {place : ℕ} {p : Policy} {cs : List Command}
    → first_fault s ≡ some place → Sheet s p cs → ⊥
malformed_not_run e sheet = let good = sheet_good sheet in let z : ◌≡◌ {A = ℕ} 0 1 = cc in omega arith

-- two runs of one sheet report the same
same_report : {s : List ℕ} {p p' : Policy} {cs cs' : List Command} {said said' : List Answer} {end end' : State}
    {known known' : List ℕ}
    → Sheet s p cs → Run p fresh cs said end → KnownList end known
    → Sheet s p' cs' → Run p' fresh cs' said' end' → KnownList end' known'
    → reported said known ≡ reported said' known'
same_report {said} {end} {known} sheet run list sheet' run' list' =
    let (e, f) = one_reading sheet sheet' in
    let (a, b) = run_unique (subst₂ (λ (p : Policy) (cs : List Command). Run p fresh cs said end) e f run) run' in
    ap₂ reported a (known_list_unique (subst (λ (s : State). KnownList s known) b list) list')

-- every byte string is replied to in one way
pub reply_unique : {s : List ℕ} {r r' : Reply} → Replies s r → Replies s r' → r ≡ r'
reply_unique (is_malformed e) (is_malformed e') = cc
reply_unique (is_malformed e) (has_run sheet run list) = absurd (malformed_not_run e sheet)
reply_unique (has_run sheet run list) (is_malformed e) = absurd (malformed_not_run e sheet)
reply_unique (has_run sheet run list) (has_run sheet' run' list') = same_report sheet run list sheet' run' list'

-- so whatever replies to a byte string is the reply that is computed
pub reply_computed : {s : List ℕ} {r : Reply} → Bytes s → Replies s r → r ≡ reply s
reply_computed {s} bytes a = reply_unique a (replies s bytes)

-- two calls that answer one sheet with one buffer are equal
pub called_unique : {s : List ℕ} {r r' : Reply} → Replies s r → Replies s r'
    → (buffer : List ℕ) → call r buffer ≡ call r' buffer
called_unique a b buffer = ap (λ (r : Reply). call r buffer) (reply_unique a b)
