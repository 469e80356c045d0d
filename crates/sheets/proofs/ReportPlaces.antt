-- Where a report has what: its two counts, the record of each command, the number of each known key. Rests on Bytes and Reports.
use Prim.Native.Nat.{ℕ, zero, suc, ◌+◌, ◌*◌}
use native.Mathlib.Nat.{add-zero}
use native.Mathlib.Omega.{arith}
use mathlib.Core.Path.{◌≡◌, refl, sym, ap, ◌∙◌}
use mathlib.Core.List.{List, [], ◌∷◌, ◌++◌}
use mathlib.Core.Option.{some}
use lib.ListN.{length, drop, get_elem?}
use lib.Seq.{drop-drop, drop_at}
use Rattle.rules.specs.Runs.{Answer}
use Rattle.sheets.specs.Bytes.{two, byte_at, two_at}
use Rattle.sheets.specs.Reports.{records_bytes, keys_bytes, report_bytes}
use Rattle.sheets.proofs.Bytes.{byte_behind, two_behind, two_at_front}
use Rattle.sheets.proofs.Reports.{records_length}

-- record i stands behind the records before it, and key j behind the keys before it
record_behind : (said : List Answer) (keys : List ℕ) (i : ℕ) (a : Answer) → get_elem? said i ≡ some a
    → (rest : List ℕ) × (drop (3 * i) (records_bytes said ++ keys) ≡ a.answer ∷ two a.value ++ rest)
unfolding records_bytes two
record_behind [] keys i a e = absurd (let z : ◌≡◌ {A = ℕ} 0 1 = cc in omega arith)
record_behind (b ∷ said) keys zero a e =
    let same : b ≡ a = cc in
    (records_bytes said ++ keys, ap (λ (x : Answer). x.answer ∷ two x.value ++ records_bytes said ++ keys) same)
record_behind (b ∷ said) keys (suc i) a e =
    let (rest, later) = record_behind said keys i a e in
    let on : 3 * suc i ≡ 3 + 3 * i = omega arith in
    let all = records_bytes (b ∷ said) ++ keys in
    (rest, ap (λ (k : ℕ). drop k all) on ∙ sym (drop-drop (3 * i) 3 all) ∙ later)

key_behind : (known : List ℕ) (j k : ℕ) → get_elem? known j ≡ some k → (rest : List ℕ) × (drop (2 * j) (keys_bytes known) ≡ two k ++ rest)
unfolding keys_bytes two
key_behind [] j k e = absurd (let z : ◌≡◌ {A = ℕ} 0 1 = cc in omega arith)
key_behind (l ∷ known) zero k e =
    let same : l ≡ k = cc in (keys_bytes known, ap (λ (x : ℕ). two x ++ keys_bytes known) same)
key_behind (l ∷ known) (suc j) k e =
    let (rest, later) = key_behind known j k e in
    let on : 2 * suc j ≡ 2 + 2 * j = omega arith in
    (rest, ap (λ (n : ℕ). drop n (keys_bytes (l ∷ known))) on ∙ sym (drop-drop (2 * j) 2 (keys_bytes (l ∷ known))) ∙ later)

module _ (said : List Answer) (known : List ℕ) where
  -- behind the two counts stand the records, and behind these the keys
  behind_counts : drop 4 (report_bytes said known) ≡ records_bytes said ++ keys_bytes known
  unfolding report_bytes two
  behind_counts = refl

  behind_records : drop (4 + 3 * length said) (report_bytes said known) ≡ keys_bytes known
  behind_records =
      sym (drop-drop (3 * length said) 4 (report_bytes said known)) ∙ ap (drop (3 * length said)) behind_counts
      ∙ drop_at (records_bytes said) (keys_bytes known) (3 * length said) (records_length said)

  -- the counts
  pub commands_count : two_at (report_bytes said known) 0 ≡ length said
  unfolding report_bytes two two_at
  commands_count = two_at_front (length said) _

  pub known_count : two_at (report_bytes said known) 2 ≡ length known
  unfolding report_bytes two
  known_count = sym (two_behind 2 (report_bytes said known)) ∙ two_at_front (length known) _

  -- the record of a command
  module _ (i : ℕ) (a : Answer) (stands : get_elem? said i ≡ some a) where
    from_record : drop (4 + 3 * i) (report_bytes said known) ≡ a.answer ∷ two a.value ++ (record_behind said (keys_bytes known) i a stands).0
    from_record =
        sym (drop-drop (3 * i) 4 (report_bytes said known)) ∙ ap (drop (3 * i)) behind_counts
        ∙ (record_behind said (keys_bytes known) i a stands).1

    pub answer_there : byte_at (report_bytes said known) (4 + 3 * i) ≡ a.answer
    unfolding byte_at
    answer_there =
        ap (byte_at (report_bytes said known)) (sym (add-zero (4 + 3 * i))) ∙ sym (byte_behind (4 + 3 * i) (report_bytes said known) 0)
        ∙ ap (λ (l : List ℕ). byte_at l 0) from_record

    pub value_there : two_at (report_bytes said known) (5 + 3 * i) ≡ a.value
    value_there =
        let on : 5 + 3 * i ≡ 4 + 3 * i + 1 = omega arith in
        ap (two_at (report_bytes said known)) on ∙ sym (two_behind (4 + 3 * i + 1) (report_bytes said known))
        ∙ ap (λ (l : List ℕ). two_at l 0) (sym (drop-drop 1 (4 + 3 * i) (report_bytes said known)) ∙ ap (drop 1) from_record)
        ∙ two_at_front a.value _

  -- the number of a known key
  pub key_there : (j k : ℕ) → get_elem? known j ≡ some k → two_at (report_bytes said known) (4 + 3 * length said + 2 * j) ≡ k
  key_there j k stands =
      sym (two_behind (4 + 3 * length said + 2 * j) (report_bytes said known))
      ∙ ap (λ (l : List ℕ). two_at l 0)
      (sym (drop-drop (2 * j) (4 + 3 * length said) (report_bytes said known)) ∙ ap (drop (2 * j)) behind_records
      ∙ (key_behind known j k stands).1)
      ∙ two_at_front k _
