-- Bytes over the front of a buffer, one part behind the other. Rests on the definition of `over` in the crate sheets.
use Prim.Native.Nat.{ℕ, ◌+◌, ◌-◌, ◌/◌, ◌%◌, ◌≤◌, ◌<◌}
use native.Mathlib.Nat.{zero-add}
use native.Mathlib.Numerals.{add-one}
use native.Mathlib.Omega.{arith}
use mathlib.Core.Path.{◌≡◌, refl, sym, ap, ◌∙◌}
use mathlib.Core.List.{List, [], ◌∷◌, ◌++◌, append_assoc, append-nil}
use lib.ListN.{length, get_or, take, drop, set, length-append, length-drop}
use lib.Seq.{drop-drop, take-length, take_at, drop_at, paste, paste-zero, paste-suc}
use borrow.Rule.Slice.PartMut.{put_mid}
use Rattle.std.proofs.lemmas.List.{take_rest, drop_all, length-take-le}
use Rattle.sheets.specs.Bytes.{two}
use Rattle.sheets.specs.Calls.{over}

-- the part of a buffer behind the first `at` places, as it is lent, is all that is left of it
pub lent_length : (l : List ℕ) (at : ℕ) → length (take (length l - at) (drop at l)) ≡ length l - at
lent_length l at = rw take_rest (length-drop at l)

none_behind : (l : List ℕ) (at : ℕ) → drop (length l - at) (drop at l) ≡ []
none_behind l at = drop_all (length l - at) (drop at l) (rw length-drop (omega arith))

-- w stands over the front of a buffer
module _ (w before : List ℕ) (at : ℕ) (out : List ℕ) (so_long : length w ≡ at) (written : out ≡ over w before) where
  rest_is : drop at out ≡ drop at before
  unfolding over
  rest_is = ap (drop at) written ∙ drop_at w _ at so_long ∙ ap (λ (k : ℕ). drop k before) so_long

  front_is : take at out ≡ w
  unfolding over
  front_is = ap (take at) written ∙ take_at w _ at so_long

-- .. and k bytes are put behind w
pub over_put : (w e before : List ℕ) (at k : ℕ) (out : List ℕ) → length w ≡ at → k ≡ length e → out ≡ over w before
    → put_mid at k out e ≡ over (w ++ e) before
unfolding over
over_put w e before at k out so_long so_many written =
    let rest : drop k (drop at out) ≡ drop (at + k) before =
    ap (drop k) (rest_is w before at out so_long written) ∙ drop-drop k at before in
    let long : at + k ≡ length (w ++ e) = omega (arith, length-append w e) in
    rw (front_is w before at out so_long written, rest, long) (sym (append_assoc w e (drop (length (w ++ e)) before)))

-- .. or the part behind w was lent and came back with e over its front: now w and e stand there
module _ (w e before : List ℕ) (at : ℕ) (out back : List ℕ) (so_long : length w ≡ at) (written : out ≡ over w before)
    (more : back ≡ over e (take (length out - at) (drop at out))) where
  back_is : back ≡ e ++ drop (at + length e) before
  unfolding over
  back_is =
      more ∙ ap (over e) (take_rest out at ∙ rest_is w before at out so_long written)
      ∙ ap (λ (l : List ℕ). e ++ l) (drop-drop (length e) at before)

  pub over_lent : take at out ++ (back ++ drop (length out - at) (drop at out)) ≡ over (w ++ e) before
  unfolding over
  over_lent =
      let long : at + length e ≡ length (w ++ e) = omega (arith, length-append w e) in
      rw (front_is w before at out so_long written, none_behind out at, append-nil, back_is, long)
      (sym (append_assoc w e (drop (length (w ++ e)) before)))

-- three bytes: one, and a number's two behind it
one : (a : ℕ) (out : List ℕ) → 0 < length out → set out 0 a ≡ over (a ∷ []) out
unfolding over
one a [] h = absurd (omega arith)
one a (x ∷ out) h = refl

pub over_three : (a number : ℕ) (out back : List ℕ) → 3 ≤ length out → number < 65536
    → back ≡ number / 256 % 256 ∷ number % 256 ∷ []
    → put_mid 1 2 (set out 0 a) back ≡ over (a ∷ two number) out
unfolding two
over_three a number out back h few e =
    let high : number / 256 % 256 ≡ number / 256 = omega arith in
    rw (e, high) (over_put (a ∷ []) (two number) out 1 2 (set out 0 a) refl refl (one a out (omega arith)))

-- bytes copied one by one
pub copied_none : (bytes before : List ℕ) → before ≡ paste before 0 bytes 0
copied_none bytes before = paste-zero before 0 bytes

pub copied_next : (bytes before out : List ℕ) (i : ℕ) → length bytes ≤ length before → i < length bytes
    → out ≡ paste before 0 bytes i → set out i (get_or bytes i 0) ≡ paste before 0 bytes (i + 1)
copied_next bytes before out i room h e =
    let inside : 0 + i < length before = omega arith in
    ap (λ (l : List ℕ). set l i (get_or bytes i 0)) e
    ∙ simp (add-one, zero-add) (simp zero-add at (paste-suc before 0 bytes i 0 inside h))

pub copied_all : (bytes before out : List ℕ) (i : ℕ) → i ≤ length bytes → length bytes ≤ i
    → out ≡ paste before 0 bytes i → out ≡ over bytes before
unfolding over
copied_all bytes before out i h h' e =
    let all : i ≡ length bytes = omega arith in
    rw (e, all, take-length, zero-add) refl

-- bytes over a buffer of their length are all that stands there
pub over_whole : (bytes out : List ℕ) → length out ≡ length bytes → over bytes out ≡ bytes
unfolding over
over_whole bytes out h = rw (drop_all (length bytes) out (omega (arith, h)), append-nil) refl

-- the same of the part of a buffer that is lent for them
pub over_part : (bytes out : List ℕ) (at : ℕ) → at + length bytes ≤ length out
    → over bytes (take (at + length bytes - at) (drop at out)) ≡ bytes
over_part bytes out at h =
    over_whole bytes (take (at + length bytes - at) (drop at out))
    (length-take-le (at + length bytes - at) (drop at out) (omega (arith, length-drop at out, h)) ∙ omega arith)
