-- Laws of bytes and of two-byte numbers: what is written is what is read, and the other way round.
-- Rests on specs/Bytes.antt and on Each.
use Prim.Native.Nat.{ℕ, zero, suc, ◌+◌, ◌*◌, ◌/◌, ◌%◌, ◌<◌, ◌≤◌}
use native.Mathlib.Nat.{add-zero}
use native.Mathlib.Numerals.{add-one}
use native.Mathlib.Omega.{arith}
use mathlib.Core.Path.{◌≡◌, refl, sym, ap, ◌∙◌}
use mathlib.Core.List.{List, [], ◌∷◌, ◌++◌}
use lib.ListN.{length, take, drop}
use lib.Seq.{get_or-take, get_or-drop, drop-append_seam, drop-cons, take_at, drop-drop}
use Rattle.sheets.specs.Bytes.{Bytes, two, byte_at, two_at}
use Rattle.sheets.proofs.Each.{each_nil, each_cons, each_head, each_tail}

-- a byte, and a two-byte number, is read among the first k bytes as in the whole string
pub byte_front : (s : List ℕ) (k i : ℕ) → i < k → byte_at (take k s) i ≡ byte_at s i
unfolding byte_at
byte_front s k i h = get_or-take k s i 0 h

pub two_front : (s : List ℕ) (k i : ℕ) → i + 1 < k → two_at (take k s) i ≡ two_at s i
unfolding two_at
two_front s k i h = rw (byte_front s k i (omega arith), byte_front s k (i + 1) h)

-- .. and behind them
pub byte_behind : (k : ℕ) (s : List ℕ) (i : ℕ) → byte_at (drop k s) i ≡ byte_at s (k + i)
unfolding byte_at
byte_behind k s i = get_or-drop k s i 0

pub two_behind : (k : ℕ) (s : List ℕ) → two_at (drop k s) 0 ≡ two_at s k
unfolding two_at
two_behind k s = rw (byte_behind k s 0, byte_behind k s 1, add-zero) refl

-- a number is read back from its two bytes at the front
pub two_at_front : (n : ℕ) (r : List ℕ) → two_at (two n ++ r) 0 ≡ n
unfolding two two_at byte_at
two_at_front n r = omega arith

-- .. and at any place
pub two_at_place : (p : List ℕ) (n : ℕ) (r : List ℕ) → two_at (p ++ (two n ++ r)) (length p) ≡ n
two_at_place p n r =
    sym (two_behind (length p) (p ++ (two n ++ r))) ∙ ap (λ (l : List ℕ). two_at l 0) (drop-append_seam p (two n ++ r))
    ∙ two_at_front n r

-- no two numbers have the same two bytes
pub two_injective : (m n : ℕ) → two m ≡ two n → m ≡ n
two_injective m n e = sym (two_at_front m []) ∙ ap (λ (l : List ℕ). two_at (l ++ []) 0) e ∙ two_at_front n []

-- two bytes are the bytes of the number that they state
pub two_of_bytes : (a b : ℕ) → a < 256 → b < 256 → two (a * 256 + b) ≡ a ∷ b ∷ []
unfolding two
two_of_bytes a b l r = let h : (a * 256 + b) / 256 ≡ a = omega arith in let m : (a * 256 + b) % 256 ≡ b = omega arith in cc

-- the two bytes of a number below 65,536 are bytes
pub two_bytes : (n : ℕ) → n < 65536 → Bytes (two n)
unfolding two
two_bytes n h = each_cons _ _ _ (omega arith) (each_cons _ _ _ (omega arith) (each_nil _))

-- what is read at a place of a byte string is a byte, and what is read as two bytes is below 65,536
pub byte_below : (s : List ℕ) (i : ℕ) → Bytes s → byte_at s i < 256
unfolding byte_at
byte_below [] i bytes = omega arith
byte_below (x ∷ s) zero bytes = each_head _ x s bytes
byte_below (x ∷ s) (suc i) bytes = byte_below s i (each_tail _ x s bytes)

pub two_below : (s : List ℕ) (i : ℕ) → Bytes s → two_at s i < 65536
unfolding two_at
two_below s i bytes = omega (arith, byte_below s i bytes, byte_below s (i + 1) bytes)

-- the two bytes of the number read at a place are the bytes there
pub two_back : (s : List ℕ) (i : ℕ) → Bytes s → two (two_at s i) ≡ byte_at s i ∷ byte_at s (i + 1) ∷ []
unfolding two_at
two_back s i bytes = two_of_bytes _ _ (byte_below s i bytes) (byte_below s (i + 1) bytes)

-- the k bytes from place i on
unfoldable pub bytes_from : List ℕ → (i k : ℕ) → List ℕ
bytes_from s i zero = []
bytes_from s i (suc k) = byte_at s i ∷ bytes_from s (suc i) k

-- .. are a part of the string, where they lie inside it: what follows them lies behind
pub bytes_from_split : (s : List ℕ) (i k : ℕ) → i + k ≤ length s → drop i s ≡ bytes_from s i k ++ drop (i + k) s
unfolding bytes_from byte_at
bytes_from_split s i zero h = rw add-zero refl
bytes_from_split s i (suc k) h =
    let l : i < length s = omega arith in
    let fits : suc i + k ≤ length s = omega arith in
    let e : suc i + k ≡ i + suc k = omega arith in
    let more = bytes_from_split s (suc i) k fits ∙ ap (λ (j : ℕ). bytes_from s (suc i) k ++ drop j s) e in
    drop-cons s i 0 l ∙ ap (λ (t : List ℕ). byte_at s i ∷ t) more

pub bytes_from_length : (s : List ℕ) (i k : ℕ) → length (bytes_from s i k) ≡ k
unfolding bytes_from
bytes_from_length s i zero = refl
bytes_from_length s i (suc k) = ap suc (bytes_from_length s (suc i) k)

-- .. and from the front are the first k bytes
pub bytes_from_front : (s : List ℕ) (k : ℕ) → k ≤ length s → bytes_from s 0 k ≡ take k s
bytes_from_front s k h =
    let h' : 0 + k ≤ length s = omega arith in
    sym (take_at (bytes_from s 0 k) (drop (0 + k) s) k (bytes_from_length s 0 k)) ∙ ap (take k) (sym (bytes_from_split s 0 k h'))

-- a byte n and the two bytes of a number, at place k: as they are read (a sheet's header and its entries are of this form)
module _ (s : List ℕ) (k : ℕ) where
  pub three_read : (n number : ℕ) (r : List ℕ) → drop k s ≡ n ∷ (two number ++ r)
      → (byte_at s k ≡ n) × (two_at s (k + 1) ≡ number) × (drop (k + 3) s ≡ r)
  unfolding byte_at two
  three_read n number r e =
      let e1 : drop (k + 1) s ≡ two number ++ r = sym (drop-drop 1 k s) ∙ ap (drop 1) e in (
        ap (byte_at s) (sym (add-zero k)) ∙ sym (byte_behind k s 0) ∙ ap (λ (l : List ℕ). byte_at l 0) e,
        sym (two_behind (k + 1) s) ∙ ap (λ (l : List ℕ). two_at l 0) e1 ∙ two_at_front number r,
        sym (drop-drop 3 k s) ∙ ap (drop 3) e,
      )

  -- .. and as they stand
  pub three_written : Bytes s → k + 3 ≤ length s → drop k s ≡ byte_at s k ∷ (two (two_at s (k + 1)) ++ drop (k + 3) s)
  unfolding bytes_from
  three_written bytes h = bytes_from_split s k 3 h ∙ simp (add-one, two_back s (suc k) bytes)

-- equal numbers give equal bytes
pub three_same : (n n' number number' : ℕ) (r r' : List ℕ) → n ≡ n' → number ≡ number' → r ≡ r'
    → n ∷ (two number ++ r) ≡ n' ∷ (two number' ++ r')
three_same n n' number number' r r' e f g = cc
