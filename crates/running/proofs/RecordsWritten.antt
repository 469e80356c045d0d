-- Records one behind the other at the front of a buffer: one more record is what its three stores make. Rests on sheets' Reports.
use Prim.Native.Nat.{ℕ, suc, ◌+◌, ◌*◌, ◌/◌, ◌%◌, ◌≤◌}
use mathlib.Core.Path.{◌≡◌, refl, sym, ◌∙◌, ap}
use mathlib.Core.List.{List, [], ◌∷◌, ◌++◌, append_assoc}
use native.Mathlib.Omega.{arith}
use lib.ListN.{length, set, drop, length-append, length-drop}
use lib.Seq.{drop-drop}
use Rattle.rules.specs.Runs.{Answer}
use Rattle.sheets.specs.Bytes.{two}
use Rattle.sheets.specs.Reports.{records_bytes}
use Rattle.sheets.specs.Calls.{over}
use Rattle.sheets.proofs.Reports.{records_length}
use Rattle.running.specs.Advance.{record_put}

-- a store behind a list is a store in what follows it
set_behind : (w r : List ℕ) (k x : ℕ) → set (w ++ r) (length w + k) x ≡ w ++ set r k x
set_behind [] r k x = ap (λ (n : ℕ). set r n x) (omega arith)
set_behind (y ∷ w) r k x =
    ap (λ (n : ℕ). set (y ∷ (w ++ r)) n x) {x = suc (length w) + k} {y = suc (length w + k)} (omega arith) ∙ ap (λ (l : List ℕ). y ∷ l) (set_behind w r k x)

-- three stores at the front
three_stores : (r : List ℕ) (a b c : ℕ) → 3 ≤ length r → set (set (set r 0 a) 1 b) 2 c ≡ a ∷ b ∷ c ∷ drop 3 r
three_stores [] a b c h = absurd (omega arith)
three_stores (x ∷ []) a b c h = absurd (omega arith)
three_stores (x ∷ y ∷ []) a b c h = absurd (omega arith)
three_stores (x ∷ y ∷ z ∷ r) a b c h = refl

stores_behind : (w r : List ℕ) (n : ℕ) → length w ≡ n → (a b c : ℕ)
    → set (set (set (w ++ r) n a) (n + 1) b) (n + 2) c ≡ w ++ set (set (set r 0 a) 1 b) 2 c
stores_behind w r n e a b c =
    let zeroth : set (w ++ r) n a ≡ w ++ set r 0 a = ap (λ (m : ℕ). set (w ++ r) m a) (omega (arith, e)) ∙ set_behind w r 0 a in
    let first : set (w ++ set r 0 a) (n + 1) b ≡ w ++ set (set r 0 a) 1 b =
    ap (λ (m : ℕ). set (w ++ set r 0 a) m b) (omega (arith, e)) ∙ set_behind w (set r 0 a) 1 b in
    let second : set (w ++ set (set r 0 a) 1 b) (n + 2) c ≡ w ++ set (set (set r 0 a) 1 b) 2 c =
    ap (λ (m : ℕ). set (w ++ set (set r 0 a) 1 b) m c) (omega (arith, e)) ∙ set_behind w (set (set r 0 a) 1 b) 2 c in
    rw (zeroth, first, second) refl

-- the records of one more answer
records_more : (said : List Answer) (a : Answer) → records_bytes (said ++ a ∷ []) ≡ records_bytes said ++ (a.answer ∷ two a.value)
unfolding records_bytes two
records_more [] a = refl
records_more (b ∷ said) a = ap (λ (l : List ℕ). b.answer ∷ (two b.value ++ l)) (records_more said a)

pub written_next : (said : List Answer) (before : List ℕ) (i answer value : ℕ) → length said ≡ i → 3 * i + 3 ≤ length before
    → record_put (over (records_bytes said) before) i answer value
    ≡ over (records_bytes (said ++ record { answer = answer; value = value } ∷ [])) before
unfolding over two
written_next said before i answer value e h =
    let at : length (records_bytes said) ≡ 3 * i = records_length said ∙ ap (λ (n : ℕ). 3 * n) e in
    let long : 3 ≤ length (drop (3 * i) before) = omega (arith, length-drop (3 * i) before) in
    let put = stores_behind (records_bytes said) (drop (3 * i) before) (3 * i) at answer (value / 256) (value % 256) in
    let more = records_more said (record { answer = answer; value = value }) in
    let all : length (records_bytes said ++ (answer ∷ two value)) ≡ 3 * i + 3 =
    length-append (records_bytes said) (answer ∷ two value) ∙ ap (λ (n : ℕ). n + 3) at in
    rw (more, all, at)
    (put ∙ ap (λ (l : List ℕ). records_bytes said ++ l) (three_stores (drop (3 * i) before) answer (value / 256) (value % 256) long)
    ∙ ap (λ (l : List ℕ). records_bytes said ++ (answer ∷ (value / 256) ∷ (value % 256) ∷ l)) (drop-drop 3 (3 * i) before)
    ∙ sym (append_assoc (records_bytes said) (answer ∷ (value / 256) ∷ (value % 256) ∷ []) (drop (3 * i + 3) before)))
