-- A sheet has no fault exactly when it is the sheet of some commands under some policy, and then those are what is read from it.
-- Rests on Faultless and Walks.
use Prim.Native.Nat.{ℕ, zero, suc, ◌+◌, ◌*◌, ◌≤◌, ◌<◌}
use native.Mathlib.Nat.{zero-add, add-zero, eq-or-lt_of_le}
use native.Mathlib.Omega.{arith}
use mathlib.Core.Path.{◌≡◌, refl, sym, ap, subst, ◌∙◌}
use mathlib.Core.Logic.{◌↔◌, ⊎_elim}
use mathlib.Core.List.{List, [], ◌∷◌, ◌++◌}
use mathlib.Core.Option.{none}
use lib.ListN.{length, drop, length-append}
use lib.Seq.{drop-drop, drop_at}
use Rattle.rules.specs.Templates.{Policy, plain, stp, stp+}
use Rattle.rules.specs.Commands.{Command}
use Rattle.sheets.specs.Bytes.{Bytes, two, byte_at, two_at}
use Rattle.sheets.specs.Sheets.{policy_number, header_length, entry_length, body_bytes, contents, bodies}
use Rattle.sheets.specs.Sheets.{bodies_begin, sheet_bytes, Holdable, Sheet}
use Rattle.sheets.specs.Faults.{count, bodies_end, first_fault}
use Rattle.sheets.specs.Reading.{read_commands, read_policy}
use Rattle.sheets.proofs.Each.{Each, each_nil, each_cons}
use Rattle.sheets.proofs.Bytes.{three_written, three_same}
use Rattle.sheets.proofs.Faultless.{EntryFaultless, Faultless, none_faultless}
use Rattle.sheets.proofs.Walks.{Walk, command_at, walk_on, walk_back, command_holdable, walk_end, walk_reads}

-- a policy is read from its number, which is at most 2, and such a number is that of the policy read from it
pub policy_read : (p : Policy) → read_policy (policy_number p) ≡ p
unfolding read_policy policy_number
policy_read plain = refl
policy_read stp = refl
policy_read stp+ = refl

pub policy_below : (p : Policy) → policy_number p ≤ 2
unfolding policy_number
policy_below plain = omega arith
policy_below stp = omega arith
policy_below stp+ = omega arith

pub policy_written : (b : ℕ) → b ≤ 2 → policy_number (read_policy b) ≡ b
unfolding read_policy policy_number
policy_written zero h = refl
policy_written (suc zero) h = refl
policy_written (suc (suc b)) h = omega arith

-- each entry has three bytes
pub contents_length : (offset : ℕ) (cs : List Command) → length (contents offset cs) ≡ entry_length * length cs
unfolding contents two
contents_length offset [] = refl
contents_length offset (c ∷ cs) = omega (arith, contents_length (offset + length (body_bytes c)) cs)

-- what a sheet begins with, and the walk from its first entry
pub record Begins (s : List ℕ) (p : Policy) (cs : List Command) : Type 0 where
  pub has_header : header_length ≤ length s
  pub policy : byte_at s 0 ≡ policy_number p
  pub counted : count s ≡ length cs
  pub walk : Walk s 0 cs

begins : (p : Policy) (cs : List Command) → Begins (sheet_bytes p cs) p cs
unfolding sheet_bytes two two_at byte_at count bodies_end bodies_begin
begins p cs =
    let s = sheet_bytes p cs in
    let n : count s ≡ length cs = omega arith in
    let long = length-append (contents (bodies_begin (length cs)) cs) (bodies cs) in
    let table = contents_length (bodies_begin (length cs)) cs in
    let size = entry_length * length cs in
    let entries = contents (bodies_begin (length cs)) cs in
    let past_table = drop_at entries (bodies cs) size table in
    let behind : drop (bodies_begin (length cs)) s ≡ bodies cs = sym (drop-drop size header_length s) ∙ past_table in
    record {
      has_header = omega arith;
      policy = refl;
      counted = n;
      walk = record {
        counted = omega arith;
        table =
            sym
            (ap (λ (k : ℕ). contents (bodies_begin k) cs ++ drop (bodies_begin k) s) n ∙ ap (λ (r : List ℕ). entries ++ r) behind);
        in_bodies = ap (λ (k : ℕ). drop (bodies_begin k) s) n ∙ behind;
        to_the_end = omega arith;
      };
    }

pub sheet_begins : {s : List ℕ} {p : Policy} {cs : List Command} → Sheet s p cs → Begins s p cs
sheet_begins {p} {cs} sheet = subst (λ (l : List ℕ). Begins l p cs) (sym sheet.bytes) (begins p cs)

-- a sheet is as long as its header, its table and its bodies
pub sheet_length : {s : List ℕ} {p : Policy} {cs : List Command} → Sheet s p cs
    → length s ≡ bodies_begin (length cs) + length (bodies cs)
unfolding bodies_end
sheet_length {s} {cs} sheet =
    let b = sheet_begins sheet in
    sym b.walk.to_the_end ∙ ap (λ (k : ℕ). bodies_begin k + length (bodies cs)) b.counted

-- the entries still ahead have no fault, and the last body ends where the sheet does
ahead : (s : List ℕ) (i : ℕ) (rest : List Command) → Walk s i rest → (j : ℕ) → i ≤ j → j < count s → EntryFaultless s j
ahead s i [] w j l h = absurd (omega (arith, w.counted))
ahead s i (c ∷ rest) w j l h =
    let (good, states, on) = walk_on w in
    ⊎_elim (λ (e : i ≡ j). subst (EntryFaultless s) e good) (λ (m : i < j). ahead s (suc i) rest on j m h) (eq-or-lt_of_le l)

ends : (s : List ℕ) (i : ℕ) (rest : List Command) → Walk s i rest → bodies_end s (count s) ≡ length s
unfolding bodies
ends s i [] w =
    let e : count s ≡ i = omega (arith, w.counted) in
    ap (bodies_end s) e ∙ sym (add-zero (bodies_end s i)) ∙ w.to_the_end
ends s i (c ∷ rest) w = ends s (suc i) rest (walk_on w).2

-- a sheet of commands has no fault
pub sheet_faultless : {s : List ℕ} {p : Policy} {cs : List Command} → Sheet s p cs → Faultless s
unfolding bodies_end
sheet_faultless {s} {p} {cs} sheet =
    let b = sheet_begins sheet in
    record {
      header =
          record {
            has_header = b.has_header;
            policy_below = rw b.policy (policy_below p);
            few = rw b.counted sheet.few;
            table_inside = omega (arith, b.walk.to_the_end);
          };
      entries = λ i. ahead s 0 cs b.walk i (omega arith);
      nothing_follows = omega (arith, ends s 0 cs b.walk);
    }

-- what is read from a sheet of commands is its policy and those commands
pub sheet_read : {s : List ℕ} {p : Policy} {cs : List Command} → Sheet s p cs
    → (read_policy (byte_at s 0) ≡ p) × (read_commands s (count s) ≡ cs)
unfolding read_commands
sheet_read {s} {p} {cs} sheet =
    let b = sheet_begins sheet in
    (ap read_policy b.policy ∙ policy_read p, walk_reads s 0 cs b.walk)

-- without a fault, the bodies lie inside the sheet
bodies_inside : (s : List ℕ) → Faultless s → (i : ℕ) → i ≤ count s → bodies_end s i ≤ length s
unfolding bodies_end
bodies_inside s f zero h = f.header.table_inside
bodies_inside s f (suc i) h = (f.entries i h).inside

-- without a fault, commands that a sheet can hold are left at each entry
walk_from : (s : List ℕ) → Bytes s → Faultless s → (k i : ℕ) → i + k ≡ count s
    → (rest : List Command) × Walk s i rest × Each Holdable rest
walk_from s bytes f zero i e =
    let last : count s ≡ i = omega arith in
    let end : bodies_end s (count s) ≡ length s = omega (arith, f.nothing_follows, bodies_inside s f (count s) (omega arith)) in
    ([], subst (λ (k : ℕ). Walk s k []) last (walk_end s end), each_nil Holdable)
walk_from s bytes f (suc k) i e =
    let (rest, w, holdable) = walk_from s bytes f k (suc i) (omega arith) in
    let good = f.entries i (omega arith) in (
      command_at s i ∷ rest,
      walk_back s bytes f.header.table_inside i good w,
      each_cons Holdable (command_at s i) rest (command_holdable s bytes f.header.table_inside i good) holdable,
    )

-- .. and at the first entry, those of the whole sheet
walked_sheet : (s : List ℕ) → Bytes s → Faultless s → (rest : List Command) → Walk s 0 rest → Each Holdable rest
    → Sheet s (read_policy (byte_at s 0)) rest
unfolding sheet_bytes two count bodies_end
walked_sheet s bytes f rest w holdable =
    let n : count s ≡ length rest = sym w.counted ∙ zero-add (length rest) in
    let policy = policy_written (byte_at s 0) f.header.policy_below in
    let with_bodies = ap (λ (r : List ℕ). contents (bodies_begin (count s)) rest ++ r) w.in_bodies in
    let counted = ap (λ (k : ℕ). contents (bodies_begin k) rest ++ bodies rest) n in
    let behind = w.table ∙ with_bodies ∙ counted in
    record {
      few = rw (← n) f.header.few;
      holdable = holdable;
      bytes = three_written s 0 bytes f.header.has_header ∙ three_same _ _ _ _ _ _ (sym policy) n behind;
    }

-- a sheet without a fault is the sheet of what is read from it
pub faultless_sheet : (s : List ℕ) → Bytes s → Faultless s → Sheet s (read_policy (byte_at s 0)) (read_commands s (count s))
unfolding read_commands
faultless_sheet s bytes f =
    let (rest, w, holdable) = walk_from s bytes f (count s) 0 (zero-add (count s)) in
    subst (Sheet s (read_policy (byte_at s 0))) (sym (walk_reads s 0 rest w)) (walked_sheet s bytes f rest w holdable)

-- .. so no place is named for a sheet of commands, and where none is named, it is one
pub sheet_good : {s : List ℕ} {p : Policy} {cs : List Command} → Sheet s p cs → first_fault s ≡ none
sheet_good {s} sheet = (none_faultless s).1 (sheet_faultless sheet)

pub good_sheet : (s : List ℕ) → Bytes s → first_fault s ≡ none
    → Sheet s (read_policy (byte_at s 0)) (read_commands s (count s))
good_sheet s bytes e = faultless_sheet s bytes ((none_faultless s).0 e)

-- a sheet has no fault exactly when it is the sheet of some commands under some policy
pub good_exactly : (s : List ℕ) → Bytes s → (first_fault s ≡ none) ↔ ((p : Policy) × (cs : List Command) × Sheet s p cs)
good_exactly s bytes =
    (λ e. (read_policy (byte_at s 0), read_commands s (count s), good_sheet s bytes e), λ sheet. sheet_good sheet.2)

-- no two lists of commands, and no two policies, share a sheet
pub one_reading : {s : List ℕ} {p p' : Policy} {cs cs' : List Command} → Sheet s p cs → Sheet s p' cs'
    → (p ≡ p') × (cs ≡ cs')
one_reading a b = (sym (sheet_read a).0 ∙ (sheet_read b).0, sym (sheet_read a).1 ∙ (sheet_read b).1)

-- commands under a policy have one sheet
pub one_sheet : {s s' : List ℕ} {p : Policy} {cs : List Command} → Sheet s p cs → Sheet s' p cs → s ≡ s'
one_sheet a b = a.bytes ∙ sym b.bytes
