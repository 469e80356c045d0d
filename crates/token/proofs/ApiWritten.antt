-- Writing the known keys over the front of a buffer, two bytes each, one after another. Rests on ApiKnown.
use Prim.Native.Nat.{ℕ, zero, suc, ◌+◌, ◌*◌, ◌≤◌, ◌<◌}
use mathlib.Core.Path.{◌≡◌, refl, sym, ◌∙◌, ap}
use mathlib.Core.Bool.{Bool, true, false, cond, ◌&&◌}
use mathlib.Core.List.{List, [], ◌∷◌, ◌++◌, append_assoc}
use native.Mathlib.Omega.{arith}
use native.Mathlib.Numerals.{add-one}
use lib.Dec.{leb}
use lib.ListN.{length, get_or, take, drop, length-append, length-take}
use lib.Seq.{drop-drop}
use borrow.Rule.Slice.PartMut.{put_mid}
use borrow.Author.Tests.{le-leb, lt-leb}
use denote.Bor.{Bor}
use Rattle.std.specs.Prelude.{Result, Ok, Err, Option, Some, None, filter}
use Rattle.std.specs.Fn.{CalledAt}
use Rattle.std.specs.Iterator.{Yields}
use Rattle.std.specs.Iterator.Adapters.{filter_source, filter_callee, filter_steps, enumerate_source, enumerate_count, enumerate_steps}
use Rattle.std.specs.Slice.Iter.{iter_rest}
use Rattle.std.proofs.iter.Yields.{fronts}
use denote.Param.Members.{Mut}
use Rattle.std.proofs.Common.{Iter}
use Rattle.std.specs.declared.iter.Filter.{Filter}
use Rattle.std.specs.declared.iter.Enumerate.{Enumerate}
use Rattle.std.specs.List.{enumerate_from}
use Rattle.std.proofs.lemmas.Iterator.{YieldsList, YieldsList-from_slice}
use Rattle.std.proofs.lemmas.Iterator.Consumers.{YieldsList-at, YieldsList-from_filter, YieldsList-from_enumerate, YieldsList-turn, YieldsList-end}
use Rattle.std.proofs.lemmas.List.{take_at, drop_at, get_or-map}
use Rattle.std.proofs.lemmas.List.FromFn.{length-enumerate_from, get_or-enumerate_from}
use Rattle.sheets.specs.Bytes.{two}
use Rattle.sheets.specs.Reports.{keys_bytes}
use Rattle.sheets.specs.Calls.{answer_number, over}
use Rattle.shapes.specs.declared.Entry.{Entry}
use Rattle.shapes.specs.Entries.{key_of, is_key_kind, is_held}
use Rattle.token.specs.declared.Short.{Short}
use Rattle.token.specs.Known.{is_marked, marked_keys, listed_as, listed_number, ListedInto}
use Rattle.token.proofs.ApiKnown.{marked_filter, marked_count}

-- the bytes of so many keys, and of one key more
keys_length : (keys : List ℕ) → length (keys_bytes keys) ≡ 2 * length keys
unfolding keys_bytes two
keys_length [] = refl
keys_length (k ∷ keys) = omega (arith, keys_length keys)

keys_more : (keys : List ℕ) (n : ℕ) → n < length keys
    → keys_bytes (take (suc n) keys) ≡ keys_bytes (take n keys) ++ two (get_or keys n 0)
unfolding keys_bytes two
keys_more [] n l = absurd (omega arith)
keys_more (k ∷ keys) zero l = refl
keys_more (k ∷ keys) (suc n) l = rw (keys_more keys n (omega arith))

-- two bytes behind what stands at the front
behind : (front rest bytes : List ℕ) (n : ℕ) → length front ≡ n
    → put_mid n 2 (front ++ rest) bytes ≡ front ++ (bytes ++ drop 2 rest)
behind front rest bytes n e = rw (take_at front rest n e, drop_at front rest n e) refl

-- with the first n keys written, key n is written behind them
pub write_next : (keys before : List ℕ) (n : ℕ) → n < length keys
    → put_mid (2 * n) 2 (over (keys_bytes (take n keys)) before) (two (get_or keys n 0))
    ≡ over (keys_bytes (take (n + 1) keys)) before
unfolding over two
write_next keys before n l =
    let front = keys_bytes (take n keys) in
    let so_many : length front ≡ 2 * n = omega (arith, keys_length (take n keys), length-take n keys) in
    let more : keys_bytes (take (n + 1) keys) ≡ front ++ two (get_or keys n 0) = rw add-one (keys_more keys n l) in
    let longer : length (front ++ two (get_or keys n 0)) ≡ 2 * n + 2 = length-append front (two (get_or keys n 0)) ∙ omega (arith, so_many) in
    rw (more, longer, so_many, behind front (drop (2 * n) before) (two (get_or keys n 0)) (2 * n) so_many, drop-drop 2 (2 * n) before)
    (simp append_assoc)

-- a walk over the entries of known keys, each with its index
pub known_walk : {F : Type 0} {g : Mut F (Bor (Bor Entry) × Unit {0}) Bool} {f : F} {kept : Filter (Iter Entry) F}
    {numbered : Enumerate (Filter (Iter Entry) F)} (entries : List Entry)
    → enumerate_source numbered ≡ kept → enumerate_count numbered ≡ 0 → iter_rest (filter_source kept) ≡ entries
    → filter_callee kept ≡ f
    → ((x : Bor Entry) (b : Bool) (q : F) → CalledAt g f x b q → (q ≡ f) × (b ≡ (is_key_kind x.now.term && is_held x.now)))
    → YieldsList {B = ℕ × Entry} (enumerate_steps (filter_steps fronts g)) (λ p. (p.0, p.1.now)) numbered
    (enumerate_from 0 (filter is_marked entries))
known_walk entries source count rest callee tests =
    YieldsList-from_enumerate
    (YieldsList-at source
    (YieldsList-from_filter _ (λ e. is_key_kind e.term && is_held e) (YieldsList-from_slice entries rest) callee tests)) count

-- how far a walk is, and what the next key is
module _ {S : Type 0} {steps : S → Option (ℕ × Bor Entry) → S → Type 0} {s : S} (so_far : List (ℕ × Bor Entry)) (t : S)
    (walked : Yields steps s so_far t) (r : Option (ℕ × Bor Entry)) (u : S) (step : steps t r u) (entries : List Entry)
    (road : YieldsList {B = ℕ × Entry} steps (λ p. (p.0, p.1.now)) s (enumerate_from 0 (filter is_marked entries))) where
  pub walk_turn : (i : ℕ) (e : Bor Entry) → r ≡ Some (i, e) → (i ≡ length so_far) × (i < length (marked_keys entries))
      × ((key_of e.now.term).0 ≡ get_or (marked_keys entries) i 0)
  walk_turn i e is =
      let turn = YieldsList-turn road so_far t walked r u (i, e) is step in
      let passed = filter is_marked entries in
      let n = length so_far in
      let inside : n < length passed = omega (arith, turn.0, length-enumerate_from 0 passed) in
      let here : ◌≡◌ {A = ℕ × Entry} (i, e.now) (0 + n, get_or passed n e.now) = turn.1 ∙ get_or-enumerate_from 0 passed n (i, e.now) inside in
      let counted : i ≡ 0 + n = ap (λ p. p.0) here in
      let index : i ≡ n = omega (arith, counted) in
      let entry : e.now ≡ get_or passed n e.now = ap (λ p. p.1) here in
      let kept : get_or (marked_keys entries) n 0 ≡ (key_of (get_or passed n e.now).term).0 =
      ap (λ list. get_or list n 0) (marked_filter entries) ∙ get_or-map (λ e. (key_of e.term).0) passed n e.now 0 inside in (
        index,
        omega (arith, index, inside, marked_count entries),
        ap (λ x. (key_of x.term).0) entry ∙ sym kept ∙ ap (λ m. get_or (marked_keys entries) m 0) (sym index),
      )

  pub walk_end : r ≡ None → length so_far ≡ length (marked_keys entries)
  walk_end is =
      (YieldsList-end road so_far t walked r u is step).1 ∙ length-enumerate_from 0 (filter is_marked entries) ∙ sym (marked_count entries)

-- the list in a buffer that is too short, and in one that has room
module _ (keys before : List ℕ) (count : ℕ) (counts : count ≡ length keys) where
  pub listed_short : length before < 2 * count → ListedInto keys before before (Err (record {}))
  listed_short h =
      let e : leb (2 * length keys) (length before) ≡ false = lt-leb (2 * length keys) (length before) (omega arith) in
      record { answered = rw e; written = rw e }

  pub listed_whole : 2 * count ≤ length before → (after : List ℕ) → after ≡ over (keys_bytes keys) before
      → ListedInto keys before after (Ok count)
  listed_whole h after w =
      let e : leb (2 * length keys) (length before) ≡ true = le-leb (2 * length keys) (length before) (omega arith) in
      record { answered = rw (e, counts); written = rw e w }

-- two results that meet what is said of the list are equal, answer and buffer
pub listed_unique : {keys before after after' : List ℕ} {r r' : Result ℕ Short} → ListedInto keys before after r
    → ListedInto keys before after' r' → (r ≡ r') × (after ≡ after')
listed_unique p q = (p.answered ∙ sym q.answered, p.written ∙ sym q.written)

-- its number: 0 with how many keys there are, or 13
pub listed_says : {keys before after : List ℕ} {r : Result ℕ Short} → ListedInto keys before after r
    → listed_number r ≡ cond (leb (2 * length keys) (length before)) (answer_number 0 (length keys)) (answer_number 13 0)
listed_says {keys} {before} p =
    ap listed_number p.answered ∙ each (leb (2 * length keys) (length before))
  where
    each : (fits : Bool) → listed_number (listed_as fits (length keys)) ≡ cond fits (answer_number 0 (length keys)) (answer_number 13 0)
    each true = refl
    each false = refl
