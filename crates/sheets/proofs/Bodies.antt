-- A command's body in bytes, and a command read from a body: each undoes the other. Rests on Bytes.
use Prim.Native.Nat.{ℕ, zero, suc, ◌≤◌, ◌<◌}
use native.Mathlib.Nat.{not-suc-le-zero, le_of_suc-le-suc}
use mathlib.Core.Path.{◌≡◌, refl, ap, ap₂, ◌∙◌}
use mathlib.Core.Bool.{true, false≢true}
use mathlib.Core.List.{List, [], ◌∷◌, ◌++◌}
use lib.ListN.{length, take}
use borrow.Author.Tests.{ltb-true}
use Rattle.rules.specs.Commands.{Command, GENERATE, WRAP, UNWRAP, ENCRYPT, DECRYPT, CORRUPT, DESTROY, OWN_KEY, OWN_DATA, SEAL}
use Rattle.rules.specs.Commands.{number, Part, flags, handle, term, body}
use Rattle.sheets.specs.Bytes.{Bytes, two, byte_at, two_at}
use Rattle.sheets.specs.Sheets.{part_bytes, parts_bytes, body_bytes, part_limit, part_number, Holdable}
use Rattle.sheets.specs.Faults.{body_lengths, known_number, body_length}
use Rattle.sheets.specs.Reading.{readers, read_command}
use Rattle.sheets.proofs.Each.{Each, each_nil, each_cons}
use Rattle.sheets.proofs.Bytes.{two_at_front, byte_below, two_below, two_back, bytes_from, bytes_from_front}

-- a body is as long as the table of body lengths says
pub body_bytes_length : (c : Command) → length (body_bytes c) ≡ body_length (number c)
unfolding body_bytes parts_bytes part_bytes body two body_length body_lengths number
body_bytes_length (GENERATE f) = refl
body_bytes_length (WRAP a b) = refl
body_bytes_length (UNWRAP h t f) = refl
body_bytes_length (ENCRYPT h t) = refl
body_bytes_length (DECRYPT h t) = refl
body_bytes_length (CORRUPT h) = refl
body_bytes_length (DESTROY h) = refl
body_bytes_length OWN_KEY = refl
body_bytes_length OWN_DATA = refl
body_bytes_length (SEAL k t) = refl

-- a command's number is one of the ten
pub number_known : (c : Command) → known_number (number c) ≡ true
unfolding known_number body_lengths number
number_known (GENERATE f) = refl
number_known (WRAP a b) = refl
number_known (UNWRAP h t f) = refl
number_known (ENCRYPT h t) = refl
number_known (DECRYPT h t) = refl
number_known (CORRUPT h) = refl
number_known (DESTROY h) = refl
number_known OWN_KEY = refl
number_known OWN_DATA = refl
number_known (SEAL k t) = refl

-- a command is read back from its number and its body, whatever follows
pub read_back : (c : Command) (rest : List ℕ) → read_command (number c) (body_bytes c ++ rest) ≡ c
unfolding read_command readers number body_bytes parts_bytes part_bytes body two two_at byte_at
read_back (GENERATE f) rest = refl
read_back (WRAP a b) rest = refl
read_back (UNWRAP h t f) rest = ap (λ (n : ℕ). UNWRAP h n f) (two_at_front t [])
read_back (ENCRYPT h t) rest = ap (ENCRYPT h) (two_at_front t [])
read_back (DECRYPT h t) rest = ap (DECRYPT h) (two_at_front t [])
read_back (CORRUPT h) rest = refl
read_back (DESTROY h) rest = refl
read_back OWN_KEY rest = refl
read_back OWN_DATA rest = refl
read_back (SEAL k t) rest = ap₂ SEAL (two_at_front k []) (two_at_front t [])

-- a table with a row for each number below k, and the row of one of them
abbrev Rows : (ℕ → Type 0) → (k : ℕ) → Type 0
Rows P zero = Unit {0}
Rows P (suc k) = P 0 × Rows (λ j. P (suc j)) k

row : (P : ℕ → Type 0) (k : ℕ) → Rows P k → (j : ℕ) → j < k → P j
row P zero rows j h = absurd (not-suc-le-zero h)
row P (suc k) rows zero h = rows.0
row P (suc k) rows (suc j) h = row (λ i. P (suc i)) k rows.1 j (le_of_suc-le-suc h)

-- what holds for each of the ten numbers holds for every known number
pub by_number : (P : ℕ → Type 0) → P 1 → P 2 → P 3 → P 4 → P 5 → P 6 → P 7 → P 8 → P 9 → P 10 → (n : ℕ) → known_number n ≡ true → P n
unfolding known_number body_lengths
by_number P p1 p2 p3 p4 p5 p6 p7 p8 p9 p10 zero e = absurd (false≢true e)
by_number P p1 p2 p3 p4 p5 p6 p7 p8 p9 p10 (suc j) e =
    row (λ i. P (suc i)) 10 (p1, (p2, (p3, (p4, (p5, (p6, (p7, (p8, (p9, (p10, tt)))))))))) j (ltb-true _ _ e)

-- the command that a body states has its number, its body is the front of those bytes, and a sheet can hold it
pub record Stated (n : ℕ) (b : List ℕ) (c : Command) : Type 0 where
  pub numbered : number c ≡ n
  pub its_bytes : body_bytes c ≡ bytes_from b 0 (body_length n)
  pub holdable : Holdable c

-- a part that its bytes can hold
abbrev pub Fits : Part → Type 0
Fits part = part_number part < part_limit part

module _ (b : List ℕ) (bytes : Bytes b) where
  next_flags : (i : ℕ) {parts : List Part} → Each Fits parts → Each Fits (flags (byte_at b i) ∷ parts)
  unfolding part_number part_limit
  next_flags i each = each_cons Fits _ _ (byte_below b i bytes) each

  next_handle : (i : ℕ) {parts : List Part} → Each Fits parts → Each Fits (handle (byte_at b i) ∷ parts)
  unfolding part_number part_limit
  next_handle i each = each_cons Fits _ _ (byte_below b i bytes) each

  next_term : (i : ℕ) {parts : List Part} → Each Fits parts → Each Fits (term (two_at b i) ∷ parts)
  unfolding part_number part_limit
  next_term i each = each_cons Fits _ _ (two_below b i bytes) each

  -- what a body states, by a known number
  pub stated : (n : ℕ) → known_number n ≡ true → Stated n b (read_command n b)
  unfolding read_command readers number body_bytes parts_bytes part_bytes body body_length body_lengths bytes_from
  stated =
      let no_part : Each Fits [] = each_nil Fits in
      let at_0 = two_back b 0 bytes in
      let at_1 = two_back b 1 bytes in
      let at_2 = two_back b 2 bytes in
      by_number
      (λ n. Stated n b (read_command n b))
      (record { numbered = refl; its_bytes = refl; holdable = next_flags 0 no_part })
      (record { numbered = refl; its_bytes = refl; holdable = next_handle 0 (next_handle 1 no_part) })
      (record { numbered = refl; its_bytes = rw at_1; holdable = next_handle 0 (next_term 1 (next_flags 3 no_part)) })
      (record { numbered = refl; its_bytes = rw at_1; holdable = next_handle 0 (next_term 1 no_part) })
      (record { numbered = refl; its_bytes = rw at_1; holdable = next_handle 0 (next_term 1 no_part) })
      (record { numbered = refl; its_bytes = refl; holdable = next_handle 0 no_part })
      (record { numbered = refl; its_bytes = refl; holdable = next_handle 0 no_part })
      (record { numbered = refl; its_bytes = refl; holdable = no_part })
      (record { numbered = refl; its_bytes = refl; holdable = no_part })
      (record { numbered = refl; its_bytes = rw (at_0, at_2); holdable = next_term 0 (next_term 2 no_part) })

  -- .. whose body is the first bytes, as many as the table of body lengths says, where there are so many
  pub body_taken : (n : ℕ) → known_number n ≡ true → body_length n ≤ length b
      → body_bytes (read_command n b) ≡ take (body_length n) b
  body_taken n e h = (stated n e).its_bytes ∙ bytes_from_front b (body_length n) h
