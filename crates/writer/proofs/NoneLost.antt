-- No accepted sheet is lost: for each there is something to hand over that is written as just that sheet. Rests on RoundTrips.
use Prim.Native.Nat.{ℕ, zero, suc, ◌+◌, ◌*◌, ◌≤◌, ◌<◌}
use native.Mathlib.Nat.{add-zero, eq-or-lt_of_le, le_of_suc-le-suc}
use native.Mathlib.Omega.{arith}
use mathlib.Core.Path.{◌≡◌, refl, sym, ap, ap₂, ◌∙◌}
use mathlib.Core.List.{List, [], ◌∷◌, ◌++◌, append_assoc, append-nil}
use mathlib.Core.Logic.{⊎_elim}
use mathlib.Core.Option.{none}
use lib.ListN.{length, take, drop, replicate, length-append, length-drop}
use lib.Seq.{take-take, take-append-le, drop-append-le, drop-drop, drop_at, take_at, length-take-le}
use Rattle.sheets.specs.Bytes.{Bytes, byte_at}
use Rattle.sheets.specs.Faults.{body_length, count, entry_number, bodies_end, first_fault}
use Rattle.sheets.specs.Calls.{over}
use Rattle.sheets.proofs.Bytes.{byte_behind, byte_below}
use Rattle.sheets.proofs.Each.{each_nil, each_cons, each_append, each_replicate, each_take, each_drop}
use Rattle.sheets.proofs.Faultless.{none_faultless}
use Rattle.sheets.proofs.Sizes.{body_most}
use Rattle.std.specs.Prelude.{Ok}
use Rattle.writer.specs.Writer.{handed_number, handed_length, handed_body}
use Rattle.writer.proofs.Unique.{Result}
use Rattle.writer.proofs.RoundTrips.{Hands, read_writes_again}

-- the body of entry i, and its record: number, length, the body and so many zeros as make four bytes
body_at : List ℕ → ℕ → List ℕ
body_at s i = take (body_length (entry_number s i)) (drop (bodies_end s i) s)

padded : List ℕ → List ℕ
padded b = take 4 (b ++ replicate 4 0)

record_at : List ℕ → ℕ → List ℕ
record_at s i = entry_number s i ∷ body_length (entry_number s i) ∷ padded (body_at s i)

-- the records of the first n entries
pub records : List ℕ → ℕ → List ℕ
records s zero = []
records s (suc n) = records s n ++ record_at s n

record_long : (s : List ℕ) (i : ℕ) → length (record_at s i) ≡ 6
unfolding record_at padded
record_long s i =
    let b = body_at s i ++ replicate 4 0 in
    let enough : 4 ≤ length b = omega (arith, length-append (body_at s i) (replicate 4 0)) in
    omega (arith, length-take-le 4 b enough)

records_long : (s : List ℕ) (n : ℕ) → length (records s n) ≡ 6 * n
unfolding records
records_long s zero = refl
records_long s (suc n) =
    omega (arith, length-append (records s n) (record_at s n), records_long s n, record_long s n)

-- they are bytes
records_bytes : (s : List ℕ) → Bytes s → (n : ℕ) → Bytes (records s n)
unfolding records record_at padded body_at entry_number
records_bytes s bytes zero = each_nil _
records_bytes s bytes (suc n) =
    let body = each_take _ (body_length (entry_number s n)) (drop (bodies_end s n) s) (each_drop _ (bodies_end s n) s bytes) in
    let zeros = each_replicate (λ x. x < 256) 4 0 (omega arith) in
    let four = each_take _ 4 (body_at s n ++ replicate 4 0) (each_append _ (body_at s n) (replicate 4 0) body zeros) in
    let long : body_length (entry_number s n) < 256 = omega (arith, body_most (entry_number s n)) in
    each_append _ (records s n) (record_at s n) (records_bytes s bytes n)
    (each_cons _ _ _ (byte_below s _ bytes) (each_cons _ _ _ long four))

-- record i stands behind the records before it
behind : (s : List ℕ) (n i : ℕ) → i < n → (rest : List ℕ) × (drop (6 * i) (records s n) ≡ record_at s i ++ rest)
unfolding records
behind s zero i h = absurd (omega arith)
behind s (suc n) i h =
    ⊎_elim
    (λ (e : i ≡ n).
    ([], rw e (drop_at (records s n) (record_at s n) (6 * n) (records_long s n) ∙ sym (append-nil (record_at s n)))))
    (λ (l : i < n).
    let (rest, same) = behind s n i l in
    let inside : 6 * i ≤ length (records s n) = omega (arith, records_long s n) in (
      rest ++ record_at s n,
      drop-append-le (6 * i) (records s n) (record_at s n) inside
          ∙ ap (λ (r : List ℕ). r ++ record_at s n) same ∙ append_assoc (record_at s i) rest (record_at s n),
    ))
    (eq-or-lt_of_le (le_of_suc-le-suc h))

-- the records hand over what the entries state
module _ (s : List ℕ) (good : first_fault s ≡ none) (i : ℕ) (h : i < count s) where
  all : List ℕ
  all = records s (count s)

  -- what is read from place 6i on is read from record i
  from_record : (k : ℕ) → byte_at all (6 * i + k) ≡ byte_at (record_at s i ++ (behind s (count s) i h).0) k
  unfolding all
  from_record k =
      sym (byte_behind (6 * i) all k) ∙ ap (λ (l : List ℕ). byte_at l k) (behind s (count s) i h).1

  body_whole : length (body_at s i) ≡ body_length (entry_number s i)
  unfolding body_at bodies_end
  body_whole =
      length-take-le _ (drop (bodies_end s i) s)
      (rw length-drop (omega (arith, (((none_faultless s).0 good).entries i h).inside)))

  padding_off : (rest : List ℕ) → take (body_length (entry_number s i)) (padded (body_at s i) ++ rest) ≡ body_at s i
  unfolding padded
  padding_off rest =
      let long = body_length (entry_number s i) in
      let b = body_at s i in
      let most : long ≤ 4 = body_most (entry_number s i) in
      let four : length (take 4 (b ++ replicate 4 0)) ≡ 4 =
      length-take-le 4 (b ++ replicate 4 0) (omega (arith, length-append b (replicate 4 0))) in
      let inside : long ≤ length (take 4 (b ++ replicate 4 0)) = omega arith in
      take-append-le long (take 4 (b ++ replicate 4 0)) rest inside ∙ take-take long 4 (b ++ replicate 4 0) most
      ∙ take_at b (replicate 4 0) long body_whole

  hands : Hands s all i
  unfolding all record_at body_at handed_number handed_length handed_body byte_at
  hands =
      let rest = (behind s (count s) i h).0 in
      let number = ap (byte_at all) (sym (add-zero (6 * i))) ∙ from_record 0 in
      let from : drop (6 * i + 2) all ≡ padded (body_at s i) ++ rest =
      sym (drop-drop 2 (6 * i) all) ∙ ap (drop 2) (behind s (count s) i h).1 in
      record {
        whole = omega (arith, records_long s (count s));
        its_number = number;
        its_length = from_record 1;
        its_body = ap₂ take (from_record 1) from ∙ padding_off rest;
      }

-- every accepted sheet is written by some call
pub none_lost : (s : List ℕ) → Bytes s → first_fault s ≡ none
    → (handed : List ℕ) × Bytes handed
    × ((buffer : List ℕ) → length s ≤ length buffer
    → Result (byte_at s 0) (count s) handed buffer (Ok (length s)) (over s buffer))
unfolding all
none_lost s bytes good =
    (records s (count s), records_bytes s bytes (count s), read_writes_again s bytes good (records s (count s)) (hands s good))
