-- The report's bytes: how many there are, that they are bytes, and that they tell what is reported; and the tally counts every
-- answer. Rests on Bytes.
use Prim.Native.Nat.{ℕ, zero, suc, ◌+◌, ◌*◌, ◌<◌}
use native.Mathlib.Omega.{arith}
use mathlib.Core.Path.{◌≡◌, refl, sym, ap, ap₂, ◌∙◌}
use mathlib.Core.List.{List, [], ◌∷◌, ◌++◌}
use lib.ListN.{length, get_or, drop, length-append}
use Rattle.terms.specs.Lists.{◌∈◌}
use Rattle.rules.specs.Runs.{Answer}
use Rattle.sheets.specs.Bytes.{Bytes, two, two_at}
use Rattle.sheets.specs.Reports.{records_bytes, keys_bytes, report_bytes, Tally, count_one, tally}
use Rattle.sheets.proofs.Each.{Each, each_nil, each_cons, each_append, each_head, each_tail}
use Rattle.sheets.proofs.Bytes.{two_at_front, two_bytes}

pub records_length : (said : List Answer) → length (records_bytes said) ≡ 3 * length said
unfolding records_bytes two
records_length [] = refl
records_length (a ∷ said) = omega (arith, records_length said)

keys_length : (known : List ℕ) → length (keys_bytes known) ≡ 2 * length known
unfolding keys_bytes two
keys_length [] = refl
keys_length (k ∷ known) = omega (arith, keys_length known)

-- "It needs 4 + 3n + 2m bytes"
pub report_length : (said : List Answer) (known : List ℕ)
    → length (report_bytes said known) ≡ 4 + 3 * length said + 2 * length known
unfolding report_bytes two
report_length said known =
    omega (arith, length-append (records_bytes said) (keys_bytes known), records_length said, keys_length known)

-- an answer that a record can hold
pub record Recordable (a : Answer) : Type 0 where
  pub answer_fits : a.answer < 256
  pub value_fits : a.value < 65536

records_are_bytes : (said : List Answer) → Each Recordable said → Bytes (records_bytes said)
unfolding records_bytes
records_are_bytes [] each = each_nil _
records_are_bytes (a ∷ said) each =
    let r = each_head Recordable a said each in
    each_cons _ _ _ r.answer_fits
    (each_append _ (two a.value) (records_bytes said) (two_bytes _ r.value_fits)
    (records_are_bytes said (each_tail Recordable a said each)))

keys_are_bytes : (known : List ℕ) → ((k : ℕ) → k ∈ known → k < 65536) → Bytes (keys_bytes known)
unfolding keys_bytes
keys_are_bytes [] each = each_nil _
keys_are_bytes (k ∷ known) each =
    each_append _ (two k) (keys_bytes known) (two_bytes k (each_head (λ x. x < 65536) k known each))
    (keys_are_bytes known (each_tail (λ x. x < 65536) k known each))

-- where the counts, the answers, the values and the keys fit, the report's bytes are bytes
pub report_are_bytes : (said : List Answer) (known : List ℕ) → length said < 65536 → length known < 65536 → Each Recordable said
    → ((k : ℕ) → k ∈ known → k < 65536) → Bytes (report_bytes said known)
unfolding report_bytes
report_are_bytes said known n m records keys =
    let counts = each_append _ (two (length said)) (two (length known)) (two_bytes _ n) (two_bytes _ m) in
    each_append _ _ (keys_bytes known) (each_append _ _ (records_bytes said) counts (records_are_bytes said records))
    (keys_are_bytes known keys)

-- two numbers in two bytes, as many records, as many keys: equal bytes are of equal numbers, records, keys
two_split : (m n : ℕ) (r r' : List ℕ) → two m ++ r ≡ two n ++ r' → (m ≡ n) × (r ≡ r')
unfolding two
two_split m n r r' e =
    (sym (two_at_front m r) ∙ ap (λ (l : List ℕ). two_at l 0) e ∙ two_at_front n r', ap (drop 2) e)

same_answer : (a b : Answer) → a.answer ≡ b.answer → a.value ≡ b.value → a ≡ b
same_answer a b e f = λ i. record { answer = e i; value = f i }

records_split : (said said' : List Answer) (r r' : List ℕ) → length said ≡ length said'
    → records_bytes said ++ r ≡ records_bytes said' ++ r'
    → (said ≡ said') × (r ≡ r')
unfolding records_bytes two
records_split [] [] r r' l e = (refl, e)
records_split [] (b ∷ said') r r' l e = absurd (omega arith)
records_split (a ∷ said) [] r r' l e = absurd (omega arith)
records_split (a ∷ said) (b ∷ said') r r' l e =
    let (v, more) = two_split a.value b.value (records_bytes said ++ r) (records_bytes said' ++ r') (ap (drop 1) e) in
    let (s, t) = records_split said said' r r' (omega arith) more in
    (ap₂ ◌∷◌ (same_answer a b (ap (λ (x : List ℕ). get_or x 0 0) e) v) s, t)

keys_same : (known known' : List ℕ) → length known ≡ length known' → keys_bytes known ≡ keys_bytes known' → known ≡ known'
unfolding keys_bytes
keys_same [] [] l e = refl
keys_same [] (k ∷ known') l e = absurd (omega arith)
keys_same (k ∷ known) [] l e = absurd (omega arith)
keys_same (k ∷ known) (k' ∷ known') l e =
    let (h, more) = two_split k k' (keys_bytes known) (keys_bytes known') e in
    ap₂ ◌∷◌ h (keys_same known known' (omega arith) more)

-- no two results have the same report bytes
pub report_unique : (said said' : List Answer) (known known' : List ℕ) → report_bytes said known ≡ report_bytes said' known'
    → (said ≡ said') × (known ≡ known')
unfolding report_bytes two
report_unique said said' known known' e =
    let (n, e1) = two_split (length said) (length said') _ _ e in
    let records = records_bytes said ++ keys_bytes known in
    let records' = records_bytes said' ++ keys_bytes known' in
    let (m, e2) = two_split (length known) (length known') records records' e1 in
    let (s, e3) = records_split said said' (keys_bytes known) (keys_bytes known') n e2 in
    (s, keys_same known known' m e3)

counted_one : (n : ℕ) (t : Tally) → (count_one n t).done + (count_one n t).refused ≡ suc (t.done + t.refused)
unfolding count_one
counted_one zero t = omega arith
counted_one (suc n) t = omega arith

-- the tally counts every answer once
pub tally_all : (said : List Answer) → (tally said).done + (tally said).refused ≡ length said
unfolding tally
tally_all [] = refl
tally_all (a ∷ said) = counted_one a.answer (tally said) ∙ ap suc (tally_all said)
