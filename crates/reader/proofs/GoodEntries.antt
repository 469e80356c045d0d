-- What is read from a sheet, in document 01's words: which answer a sheet gets; of a good sheet each body and each command; of the
-- sheet of some commands, those commands. Rests on Tests, and on the laws of good sheets of the crate `sheets`.
use Prim.Native.Nat.{ℕ, zero, suc, ◌+◌, ◌≤◌, ◌<◌}
use native.Mathlib.Nat.{eq-or-lt_of_le, le_of_suc-le-suc, not-suc-le-zero}
use native.Mathlib.Omega.{arith}
use mathlib.Core.Path.{◌≡◌, refl, sym, ap, ap₂, ◌∙◌}
use mathlib.Core.Logic.{◌↔◌, ⊎_elim}
use mathlib.Core.Bool.{true}
use mathlib.Core.List.{List, [], ◌∷◌, ◌++◌}
use mathlib.Core.Option.{Option, none, some}
use lib.ListN.{get_elem?, length, take, drop, length-append, length-take, length-drop}
use borrow.Author.Tests.{eq-eqb}
use Rattle.std.specs.Prelude.{Some, Ok, Err}
use Rattle.terms.proofs.Lists.{at_append, at_end, at_below}
use Rattle.rules.specs.Templates.{Policy}
use Rattle.rules.specs.Commands.{Command, GENERATE, WRAP, UNWRAP, ENCRYPT, DECRYPT, CORRUPT, DESTROY, SEAL, number}
use Rattle.sheets.specs.Bytes.{byte_at}
use Rattle.sheets.specs.Sheets.{policy_number, most_commands, bodies_begin, Sheet}
use Rattle.sheets.specs.Faults.{body_lengths, known_number, body_length, count, entry_number, bodies_end, first_fault}
use Rattle.sheets.specs.Reading.{readers, read_command, read_commands}
use Rattle.sheets.proofs.Bytes.{byte_front, two_front}
use Rattle.sheets.proofs.Each.{each_drop}
use Rattle.sheets.proofs.Bodies.{by_number, stated}
use Rattle.sheets.proofs.Places.{first_fault_some}
use Rattle.sheets.proofs.Faultless.{EntryFaultless, Faultless, none_faultless, place_most}
use Rattle.sheets.proofs.Walks.{command_at}
use Rattle.sheets.proofs.Good.{sheet_begins, sheet_read, sheet_good}
use Rattle.sheets.proofs.Sizes.{sheet_bytes_are_bytes}
use Rattle.shapes.specs.Commands.{stored_command, parsed_if, no_command, parsed}
use Rattle.reader.specs.declared.Header.{Header}
use Rattle.reader.specs.declared.Malformed.{Malformed}
use Rattle.reader.specs.Reader.{checked_as, checked, has_body, body_at, read_as, entry_at}
use Rattle.reader.proofs.Tests.{is_inside, the_body, the_entry}

-- two results that meet one of the contracts, each of which says `≡` what is read, are equal
pub one_result : {A : Type 0} {read r r' : A} → r ≡ read → r' ≡ read → r ≡ r'
one_result e e' = e ∙ sym e'

-- a sheet is answered good, with this policy and count, exactly where no place is named and they are its own
pub record IsGood (s : List ℕ) (policy n : ℕ) : Type 0 where
  pub no_fault : first_fault s ≡ none
  pub its_policy : byte_at s 0 ≡ policy
  pub its_count : count s ≡ n

good_as : (s : List ℕ) (policy n : ℕ) (fault : Option ℕ) → first_fault s ≡ fault
    → checked_as fault (byte_at s 0) (count s) ≡ Ok (record { policy = policy; count = n }) → IsGood s policy n
unfolding checked_as
good_as s policy n none f e =
    let q : ◌≡◌ {A = Header} (record { policy = byte_at s 0; count = count s }) (record { policy = policy; count = n }) = cc in
    record { no_fault = f; its_policy = ap (λ (h : Header). h.policy) q; its_count = ap (λ (h : Header). h.count) q }
good_as s policy n (some place) f e = let z : ◌≡◌ {A = ℕ} 0 1 = cc in absurd (omega arith)

pub checked_good : (s : List ℕ) (policy n : ℕ) → (checked s ≡ Ok (record { policy = policy; count = n })) ↔ IsGood s policy n
unfolding checked checked_as
checked_good s policy n =
    (λ e. good_as s policy n (first_fault s) refl e, λ g. rw (g.no_fault, g.its_policy, g.its_count))

-- .. and malformed at a place exactly where that place is named
malformed_as : (policy n place : ℕ) (fault : Option ℕ) → checked_as fault policy n ≡ Err (record { place = place })
    → fault ≡ some place
unfolding checked_as
malformed_as policy n place none e = let z : ◌≡◌ {A = ℕ} 0 1 = cc in absurd (omega arith)
malformed_as policy n place (some p) e =
    let q : ◌≡◌ {A = Malformed} (record { place = p }) (record { place = place }) = cc in
    ap (λ (m : Malformed). some m.place) q

pub checked_malformed : (s : List ℕ) (place : ℕ) → (checked s ≡ Err (record { place = place })) ↔ (first_fault s ≡ some place)
unfolding checked checked_as
checked_malformed s place = (λ e. malformed_as _ _ place (first_fault s) e, λ f. rw f)

-- a policy answered is at most 2, a count at most 4,096, a place at most 4,097
pub good_most : (s : List ℕ) {policy n : ℕ} → checked s ≡ Ok (record { policy = policy; count = n })
    → (policy ≤ 2) × (n ≤ most_commands)
good_most s {policy} {n} e =
    let g = (checked_good s policy n).0 e in
    let header = ((none_faultless s).0 g.no_fault).header in
    (rw (← g.its_policy) header.policy_below, rw (← g.its_count) header.few)

pub malformed_most : (s : List ℕ) {place : ℕ} → checked s ≡ Err (record { place = place }) → place ≤ most_commands + 1
malformed_most s {place} e = place_most place ((first_fault_some s place).0 ((checked_malformed s place).0 e))

same_unwrap : {h h' t t' f f' : ℕ} → h ≡ h' → t ≡ t' → f ≡ f' → UNWRAP h t f ≡ UNWRAP h' t' f'
same_unwrap a b c = cc

-- a command is read from its body as from the body and what follows
module _ (b : List ℕ) where
  read_front : (n : ℕ) → known_number n ≡ true → read_command n (take (body_length n) b) ≡ read_command n b
  unfolding read_command readers body_length body_lengths
  read_front =
      by_number
      (λ n. read_command n (take (body_length n) b) ≡ read_command n b)
      (ap GENERATE (byte_front b 1 0 (omega arith)))
      (ap₂ WRAP (byte_front b 2 0 (omega arith)) (byte_front b 2 1 (omega arith)))
      (same_unwrap (byte_front b 4 0 (omega arith)) (two_front b 4 1 (omega arith)) (byte_front b 4 3 (omega arith)))
      (ap₂ ENCRYPT (byte_front b 3 0 (omega arith)) (two_front b 3 1 (omega arith)))
      (ap₂ DECRYPT (byte_front b 3 0 (omega arith)) (two_front b 3 1 (omega arith)))
      (ap CORRUPT (byte_front b 1 0 (omega arith)))
      (ap DESTROY (byte_front b 1 0 (omega arith)))
      refl
      refl
      (ap₂ SEAL (two_front b 4 0 (omega arith)) (two_front b 4 2 (omega arith)))

-- of a number and as many bytes as its body has, the command that they read as is stated
parsed_known : (n : ℕ) (body : List ℕ) → known_number n ≡ true → length body ≡ body_length n
    → parsed n body ≡ Some (stored_command (read_command n body))
unfolding parsed parsed_if no_command
parsed_known n body known sized = rw (known, eq-eqb (length body) (body_length n) sized)

module _ (s : List ℕ) (i : ℕ) (good : first_fault s ≡ none) (in_range : i < count s) where
  sheet_faultless : Faultless s
  sheet_faultless = (none_faultless s).0 good

  entry_faultless : EntryFaultless s i
  entry_faultless = sheet_faultless.entries i in_range

  body_there : has_body s i ≡ true
  unfolding bodies_begin bodies_end
  body_there =
      is_inside s i
      (record {
        entry_inside = omega (arith, sheet_faultless.header.table_inside);
        body_inside = omega (arith, entry_faultless.in_place, entry_faultless.inside);
      })

  -- the body of an entry of a good sheet stands where the bodies before it end
  pub good_body : body_at s i ≡ take (body_length (entry_number s i)) (drop (bodies_end s i) s)
  good_body =
      the_body s i body_there ∙ ap (λ (k : ℕ). take (body_length (entry_number s i)) (drop k s)) entry_faultless.in_place

  body_sized : length (body_at s i) ≡ body_length (entry_number s i)
  unfolding bodies_end
  body_sized = rw (good_body, length-take, length-drop) (omega (arith, entry_faultless.inside))

  -- .. and the entry is the command that is read there
  pub good_entry : entry_at s i ≡ Some (record { number = entry_number s i; command = stored_command (command_at s i) })
  unfolding read_as
  good_entry =
      let n = entry_number s i in
      let known = parsed_known n (body_at s i) entry_faultless.known body_sized in
      let read : read_command n (body_at s i) ≡ command_at s i =
      ap (read_command n) good_body ∙ read_front (drop (bodies_end s i) s) n entry_faultless.known in
      sym (the_entry s i n (body_at s i) _ body_there refl refl refl)
      ∙ ap (read_as n) (known ∙ ap (λ (c : Command). Some (stored_command c)) read)

-- entry i states command i of those that are read
read_length : (s : List ℕ) (n : ℕ) → length (read_commands s n) ≡ n
unfolding read_commands
read_length s zero = refl
read_length s (suc n) = rw length-append (omega (arith, read_length s n))

at_last : (l : List Command) (c : Command) (n : ℕ) → length l ≡ n → get_elem? (l ++ c ∷ []) n ≡ some c
at_last l c n e = rw (← e) (at_end l c)

read_at : (s : List ℕ) (n i : ℕ) → i < n → get_elem? (read_commands s n) i ≡ some (command_at s i)
unfolding read_commands
read_at s zero i h = absurd (not-suc-le-zero h)
read_at s (suc n) i h =
    ⊎_elim
    (λ (e : i ≡ n). rw e (at_last (read_commands s n) (command_at s n) n (read_length s n)))
    (λ (l : i < n). at_append (read_commands s n) _ i (read_at s n i l))
    (eq-or-lt_of_le (le_of_suc-le-suc h))

-- of the sheet of some commands under a policy, that policy and those commands are read
module _ {s : List ℕ} {p : Policy} {cs : List Command} (sheet : Sheet s p cs) where
  pub reads_good : checked s ≡ Ok (record { policy = policy_number p; count = length cs })
  reads_good =
      (checked_good s (policy_number p) (length cs)).1
      (record { no_fault = sheet_good sheet; its_policy = (sheet_begins sheet).policy; its_count = (sheet_begins sheet).counted })

  pub reads_all : (i : ℕ) {c : Command} → get_elem? cs i ≡ some c
      → entry_at s i ≡ Some (record { number = number c; command = stored_command c })
  reads_all i {c} e =
      let in_range : i < count s = rw (sheet_begins sheet).counted (at_below cs i e) in
      let there : some (command_at s i) ≡ some c =
      sym (read_at s (count s) i in_range) ∙ ap (λ (l : List Command). get_elem? l i) (sheet_read sheet).1 ∙ e in
      let is : command_at s i ≡ c = cc in
      let good = sheet_good sheet in
      let behind = each_drop _ (bodies_end s i) s (sheet_bytes_are_bytes sheet) in
      let known = (((none_faultless s).0 good).entries i in_range).known in
      let numbered = (stated (drop (bodies_end s i) s) behind (entry_number s i) known).numbered in
      let same : entry_number s i ≡ number c = sym numbered ∙ ap number is in
      good_entry s i good in_range ∙ rw (is, same)
