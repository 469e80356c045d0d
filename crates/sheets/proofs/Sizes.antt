-- The bytes of a sheet are bytes, and there are at most 28,675 of them, a number that is reached. Rests on Bodies and Good.
use Prim.Native.Nat.{ℕ, zero, suc, ◌+◌, ◌*◌, ◌≤◌, ◌<◌, max}
use native.Mathlib.Omega.{arith}
use mathlib.Core.Path.{◌≡◌, refl, sym, subst}
use mathlib.Core.Bool.{true}
use mathlib.Core.List.{List, [], ◌∷◌}
use lib.ListN.{length, get_or, replicate, length-append, length-replicate}
use borrow.Author.Tests.{ltb-true}
use Rattle.rules.specs.Templates.{Policy, plain}
use Rattle.rules.specs.Commands.{Command, SEAL, number, Part, flags, handle, term, body}
use Rattle.sheets.specs.Bytes.{Bytes, two}
use Rattle.sheets.specs.Sheets.{policy_number, most_commands, part_bytes, parts_bytes, body_bytes, contents, bodies}
use Rattle.sheets.specs.Sheets.{bodies_begin, sheet_bytes, part_limit, part_number, Holdable, Sheet}
use Rattle.sheets.specs.Faults.{body_lengths, known_number, body_length}
use Rattle.sheets.proofs.Each.{Each, each_nil, each_cons, each_append, each_head, each_tail, each_replicate}
use Rattle.sheets.proofs.Bytes.{two_bytes}
use Rattle.sheets.proofs.Bodies.{body_bytes_length, number_known, Fits}
use Rattle.sheets.proofs.Good.{policy_below, sheet_length}

-- the biggest number of a list
biggest : List ℕ → ℕ
biggest [] = 0
biggest (x ∷ l) = max x (biggest l)

at_most_biggest : (l : List ℕ) (n : ℕ) → get_or l n 0 ≤ biggest l
unfolding biggest
at_most_biggest [] n = omega arith
at_most_biggest (x ∷ l) zero = omega arith
at_most_biggest (x ∷ l) (suc n) = omega (arith, at_most_biggest l n)

-- no body is longer than four bytes
pub body_most : (n : ℕ) → body_length n ≤ 4
unfolding body_length body_lengths biggest
body_most zero = omega arith
body_most (suc n) = at_most_biggest body_lengths n

-- .. so n bodies have at most 4n
pub bodies_most : (cs : List Command) → length (bodies cs) ≤ 4 * length cs
unfolding bodies
bodies_most [] = omega arith
bodies_most (c ∷ cs) =
    omega (arith, length-append (body_bytes c) (bodies cs), bodies_most cs, body_bytes_length c, body_most (number c))

-- "a good sheet has at most 28,675" bytes
pub sheet_most : {s : List ℕ} {p : Policy} {cs : List Command} → Sheet s p cs → length s ≤ 28675
unfolding bodies_begin
sheet_most {cs} sheet = omega (arith, sheet.few, sheet_length sheet, bodies_most cs)

-- the bodies of one command n times over
repeated_bodies : (n : ℕ) (c : Command) → length (bodies (replicate n c)) ≡ n * length (body_bytes c)
unfolding bodies
repeated_bodies zero c = omega arith
repeated_bodies (suc n) c = omega (arith, length-append (body_bytes c) (bodies (replicate n c)), repeated_bodies n c)

-- a sheet of n commands and so many bytes
pub record SheetOf (n long : ℕ) : Type 0 where
  pub bytes : List ℕ
  pub commands : List Command
  pub sheet : Sheet bytes plain commands
  pub how_many : length commands ≡ n
  pub how_long : length bytes ≡ long

-- n commands with the longest body have a sheet of 3 + 7n bytes
sheet_of : (n : ℕ) → n ≤ most_commands → SheetOf n (3 + 7 * n)
unfolding body body_bytes parts_bytes part_bytes two part_number part_limit bodies_begin
sheet_of n h =
    let c = SEAL 0 0 in
    let many = length-replicate n c in
    let fits : Holdable c = each_cons Fits _ _ (omega arith) (each_cons Fits _ _ (omega arith) (each_nil Fits)) in
    let each = each_replicate Holdable n c fits in
    let sheet : Sheet _ plain (replicate n c) = record { few = omega arith; holdable = each; bytes = refl } in
    record {
      bytes = sheet_bytes plain (replicate n c);
      commands = replicate n c;
      sheet = sheet;
      how_many = many;
      how_long = omega (arith, sheet_length sheet, repeated_bodies n c);
    }

-- the bound is reached: there is a sheet of 4,096 commands, and it has 28,675 bytes
pub longest_sheet : SheetOf 4096 28675
longest_sheet = sheet_of 4096 (omega arith)

-- a command number is a byte; and so are the bytes of each part, of the bodies and of the table
number_below : (n : ℕ) → known_number n ≡ true → n < 256
unfolding known_number body_lengths
number_below zero e = omega arith
number_below (suc n) e = omega (arith, ltb-true n 10 e)

part_are_bytes : (part : Part) → Fits part → Bytes (part_bytes part)
unfolding part_bytes part_number part_limit
part_are_bytes (flags f) h = each_cons _ _ _ h (each_nil _)
part_are_bytes (handle x) h = each_cons _ _ _ h (each_nil _)
part_are_bytes (term t) h = two_bytes t h

parts_are_bytes : (parts : List Part) → Each Fits parts → Bytes (parts_bytes parts)
unfolding parts_bytes
parts_are_bytes [] each = each_nil _
parts_are_bytes (part ∷ parts) each =
    each_append _ (part_bytes part) (parts_bytes parts) (part_are_bytes part (each_head Fits part parts each))
    (parts_are_bytes parts (each_tail Fits part parts each))

bodies_are_bytes : (cs : List Command) → Each Holdable cs → Bytes (bodies cs)
unfolding bodies body_bytes
bodies_are_bytes [] each = each_nil _
bodies_are_bytes (c ∷ cs) each =
    each_append _ (body_bytes c) (bodies cs) (parts_are_bytes (body c) (each_head Holdable c cs each))
    (bodies_are_bytes cs (each_tail Holdable c cs each))

contents_are_bytes : (offset : ℕ) (cs : List Command) → offset + length (bodies cs) < 65536 → Bytes (contents offset cs)
unfolding contents bodies
contents_are_bytes offset [] h = each_nil _
contents_are_bytes offset (c ∷ cs) h =
    let next = offset + length (body_bytes c) in
    let fits : next + length (bodies cs) < 65536 = omega (arith, length-append (body_bytes c) (bodies cs)) in
    each_cons _ _ _ (number_below (number c) (number_known c))
    (each_append _ (two offset) _ (two_bytes offset (omega arith)) (contents_are_bytes next cs fits))

-- the bytes of a sheet are bytes
pub sheet_bytes_are_bytes : {s : List ℕ} {p : Policy} {cs : List Command} → Sheet s p cs → Bytes s
unfolding sheet_bytes bodies_begin
sheet_bytes_are_bytes {s} {p} {cs} sheet =
    let begin = bodies_begin (length cs) in
    let counted = two_bytes (length cs) (omega (arith, sheet.few)) in
    let header : Bytes (policy_number p ∷ two (length cs)) = each_cons _ _ _ (omega (arith, policy_below p)) counted in
    let entries = contents_are_bytes begin cs (omega (arith, sheet.few, bodies_most cs)) in
    subst Bytes (sym sheet.bytes)
    (each_append _ _ (bodies cs) (each_append _ _ (contents begin cs) header entries) (bodies_are_bytes cs sheet.holdable))
