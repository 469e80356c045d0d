-- There and back: what is written is read as what was handed over, and what is read from a good sheet, handed over, is written as
-- that sheet. Rests on Unique, Asked, and the laws of good sheets in the crate sheets.
use Prim.Native.Nat.{ℕ, zero, suc, ◌*◌, ◌≤◌, ◌<◌}
use native.Mathlib.Omega.{arith}
use mathlib.Core.Path.{◌≡◌, refl, sym, ap, ap₂, subst, ◌∙◌}
use mathlib.Core.Bool.{true}
use mathlib.Core.List.{List, [], ◌∷◌, ◌++◌, append-nil}
use mathlib.Core.Option.{none}
use lib.ListN.{length, take, drop, length-drop}
use Rattle.rules.specs.Commands.{Command}
use Rattle.sheets.specs.Bytes.{Bytes, byte_at}
use Rattle.sheets.specs.Sheets.{body_bytes, sheet_bytes}
use Rattle.sheets.specs.Faults.{known_number, body_length, count, entry_number, bodies_end, first_fault}
use Rattle.sheets.specs.Calls.{over}
use Rattle.sheets.specs.Reading.{read_command, read_commands, read_policy}
use Rattle.sheets.proofs.Calls.{over_front}
use Rattle.sheets.proofs.Each.{each_drop}
use Rattle.sheets.proofs.Bodies.{stated, body_taken, read_back}
use Rattle.sheets.proofs.Faultless.{Faultless, none_faultless}
use Rattle.sheets.proofs.Good.{policy_written, sheet_begins, sheet_good, sheet_read, good_sheet}
use Rattle.std.specs.Prelude.{Ok}
use Rattle.writer.specs.Writer.{record_length, handed_number, handed_length, handed_body, handed_commands}
use Rattle.writer.specs.Writer.{first_unholdable, asked_sheet}
use Rattle.writer.proofs.Handed.{all_held, handed_count, none_unheld}
use Rattle.writer.proofs.Unique.{Result, exactly, sheet_at_front}
use Rattle.writer.proofs.Asked.{asked_is_sheet}

-- s is accepted, and is read as this policy and these commands
pub record Reads (s : List ℕ) (policy n : ℕ) (cs : List Command) : Type 0 where
  pub accepted : first_fault s ≡ none
  pub its_policy : byte_at s 0 ≡ policy
  pub its_count : count s ≡ n
  pub its_commands : read_commands s (count s) ≡ cs

-- the sheet that is asked for is read as what was handed over
pub asked_reads_back : (policy n : ℕ) (handed : List ℕ) → Bytes handed → first_unholdable policy n handed ≡ none
    → Reads (asked_sheet policy n handed) policy n (handed_commands handed n)
asked_reads_back policy n handed bytes e =
    let sheet = asked_is_sheet policy n handed bytes e in
    let begins = sheet_begins sheet in
    record {
      accepted = sheet_good sheet;
      its_policy = begins.policy ∙ policy_written policy (all_held policy n handed e).0;
      its_count = begins.counted ∙ handed_count handed n;
      its_commands = (sheet_read sheet).1;
    }

-- .. so what is written is
pub written_reads_back : (policy n : ℕ) (handed buffer : List ℕ) → Bytes handed → (long : ℕ) (after : List ℕ)
    → Result policy n handed buffer (Ok long) after
    → Reads (take long after) policy n (handed_commands handed n)
written_reads_back policy n handed buffer bytes long after e =
    subst (λ (s : List ℕ). Reads s policy n (handed_commands handed n)) (sym (sheet_at_front policy n handed buffer e))
    (asked_reads_back policy n handed bytes ((exactly policy n handed buffer (Ok long) after).0 e).0)

-- what entry i of a sheet states is handed over in record i
pub record Hands (s handed : List ℕ) (i : ℕ) : Type 0 where
  pub whole : record_length * suc i ≤ length handed
  pub its_number : handed_number handed i ≡ entry_number s i
  pub its_length : handed_length handed i ≡ body_length (entry_number s i)
  pub its_body : handed_body handed i ≡ take (body_length (entry_number s i)) (drop (bodies_end s i) s)

-- a command is read from its body alone as from all that follows
read_taken : (n : ℕ) (b : List ℕ) → Bytes b → known_number n ≡ true → body_length n ≤ length b
    → read_command n (take (body_length n) b) ≡ read_command n b
read_taken n b bytes known h =
    let c = read_command n b in
    let body : body_bytes c ++ [] ≡ take (body_length n) b = append-nil (body_bytes c) ∙ body_taken b bytes n known h in
    ap₂ read_command (sym (stated b bytes n known).numbered) (sym body) ∙ read_back c []

module _ (s : List ℕ) (bytes : Bytes s) (good : first_fault s ≡ none) (handed : List ℕ)
    (hands : (i : ℕ) → i < count s → Hands s handed i) where
  faultless : Faultless s
  faultless = (none_faultless s).0 good

  -- a sheet can hold what is handed over
  pub hands_held : first_unholdable (byte_at s 0) (count s) handed ≡ none
  hands_held =
      none_unheld (byte_at s 0) (count s) handed faultless.header.policy_below
      (record {
        few = faultless.header.few;
        each = λ (i : ℕ) (h : i < count s).
            let r = hands i h in
            record {
              whole = r.whole;
              known = ap known_number r.its_number ∙ (faultless.entries i h).known;
              its_length = r.its_length ∙ ap body_length (sym r.its_number);
            };
      })

  -- entry i's command is the one that record i states
  same_command : (i : ℕ) → i < count s
      → read_command (handed_number handed i) (handed_body handed i)
      ≡ read_command (entry_number s i) (drop (bodies_end s i) s)
  unfolding bodies_end
  same_command i h =
      let r = hands i h in
      let entry = faultless.entries i h in
      let b = drop (bodies_end s i) s in
      let room : body_length (entry_number s i) ≤ length b = rw length-drop (omega (arith, entry.inside)) in
      ap₂ read_command r.its_number r.its_body
      ∙ read_taken (entry_number s i) b (each_drop _ (bodies_end s i) s bytes) entry.known room

  same_commands : (n : ℕ) → n ≤ count s → handed_commands handed n ≡ read_commands s n
  unfolding handed_commands read_commands
  same_commands zero h = refl
  same_commands (suc n) h =
      ap₂ (λ (cs : List Command) (c : Command). cs ++ c ∷ []) (same_commands n (omega arith)) (same_command n h)

  -- the sheet that is asked for is s
  pub asks_again : asked_sheet (byte_at s 0) (count s) handed ≡ s
  unfolding asked_sheet
  asks_again =
      ap (sheet_bytes (read_policy (byte_at s 0))) (same_commands (count s) (omega arith)) ∙ sym (good_sheet s bytes good).bytes

  -- .. so writing it into a buffer with room answers its length, and s stands over the front
  pub read_writes_again : (buffer : List ℕ) → length s ≤ length buffer
      → Result (byte_at s 0) (count s) handed buffer (Ok (length s)) (over s buffer)
  read_writes_again buffer room =
      (exactly (byte_at s 0) (count s) handed buffer (Ok (length s)) (over s buffer)).1
      (hands_held, rw asks_again room, ap length (sym asks_again), ap (λ (l : List ℕ). over l buffer) (sym asks_again))

  pub begins_with : (buffer : List ℕ) → take (length s) (over s buffer) ≡ s
  begins_with buffer = over_front s buffer

-- no two lists of commands, and no two policies, share a sheet
pub one_asked : (policy n policy' n' : ℕ) (handed handed' : List ℕ) → Bytes handed → Bytes handed'
    → first_unholdable policy n handed ≡ none → first_unholdable policy' n' handed' ≡ none
    → asked_sheet policy n handed ≡ asked_sheet policy' n' handed'
    → (policy ≡ policy') × (n ≡ n') × (handed_commands handed n ≡ handed_commands handed' n')
one_asked policy n policy' n' handed handed' bytes bytes' e e' same =
    let s = asked_sheet policy' n' handed' in
    let a : Reads s policy n (handed_commands handed n) =
    subst (λ (l : List ℕ). Reads l policy n (handed_commands handed n)) same (asked_reads_back policy n handed bytes e) in
    let b = asked_reads_back policy' n' handed' bytes' e' in (
      sym a.its_policy ∙ b.its_policy,
      sym a.its_count ∙ b.its_count,
      sym a.its_commands ∙ b.its_commands,
    )
