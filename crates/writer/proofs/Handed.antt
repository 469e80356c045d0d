-- What is handed over: when a sheet can hold a command, what its number and its body are then, and how table and bodies grow
-- by it. Rests on specs/Writer.antt, specs/Parts.antt, Longer, and the laws of bodies in the crate sheets.
use Prim.Native.Nat.{ℕ, zero, suc, ◌+◌, ◌-◌, ◌*◌, ◌≤◌, ◌<◌}
use native.Mathlib.Nat.{eq-or-lt_of_le, le_of_suc-le-suc}
use native.Mathlib.Omega.{arith}
use mathlib.Core.Path.{◌≡◌, refl, ap, subst, ◌∙◌}
use mathlib.Core.Bool.{true, false, not, or-true}
use mathlib.Core.List.{List, [], ◌∷◌, ◌++◌}
use mathlib.Core.Logic.{⊎_elim}
use mathlib.Core.Option.{none}
use lib.Dec.{eqb}
use lib.ListN.{length, get_or, take, drop, length-append, length-drop}
use lib.Seq.{length-take-le, take_all}
use borrow.Author.Tests.{ltb-false, eqb-true, not-false, lt-ltb, le-ltb, eq-eqb, ne_eqb}
use Rattle.terms.proofs.Lists.{in_at, at_get_d}
use Rattle.rules.specs.Commands.{Command, number}
use Rattle.rules.proofs.Named.{neither}
use Rattle.sheets.specs.Bytes.{Bytes, two}
use Rattle.sheets.specs.Sheets.{body_bytes, contents, bodies, bodies_begin, Holdable}
use Rattle.sheets.specs.Faults.{known_number, body_length}
use Rattle.sheets.specs.Reading.{read_command, read_policy}
use Rattle.sheets.proofs.Each.{each_take, each_drop}
use Rattle.sheets.proofs.Bodies.{Stated, stated, body_taken}
use Rattle.sheets.proofs.Places.{NoneBelow, smallest_none}
use Rattle.sheets.proofs.Sizes.{body_most, bodies_most}
use Rattle.writer.specs.Writer.{record_length, handed_number, handed_length, handed_body, handed_commands}
use Rattle.writer.specs.Writer.{unholdable, first_unholdable, asked_sheet}
use Rattle.writer.specs.Parts.{Held, AllHeld}
use Rattle.writer.proofs.Longer.{contents_longer, bodies_longer, bytes_length}

-- a string is of bytes where each place has a byte
pub bytes_by_place : (s : List ℕ) → ((i : ℕ) → get_or s i 0 < 256) → Bytes s
bytes_by_place s h x m =
    let r = in_at m in
    subst (λ (y : ℕ). y < 256) (at_get_d s r.0 0 r.1) (h r.0)

-- the test of one command, as its parts are asked one after the other
module _ (handed : List ℕ) (i : ℕ) (policy n : ℕ) where
  pub not_whole : length handed < record_length * suc i → unholdable policy n handed (suc i) ≡ true
  unfolding unholdable
  not_whole h = rw (lt-ltb _ _ h)

  pub unknown : known_number (handed_number handed i) ≡ false → unholdable policy n handed (suc i) ≡ true
  unfolding unholdable
  unknown e = simp (e, or-true)

  pub other_length : (handed_length handed i ≡ body_length (handed_number handed i) → ⊥)
      → unholdable policy n handed (suc i) ≡ true
  unfolding unholdable
  other_length f = rw (ne_eqb _ _ f, or-true)

  pub by_length : record_length * suc i ≤ length handed → known_number (handed_number handed i) ≡ true
      → unholdable policy n handed (suc i) ≡ not (eqb (handed_length handed i) (body_length (handed_number handed i)))
  unfolding unholdable
  by_length h e = rw (le-ltb _ _ h, e)

  -- a command that passes is one that a sheet can hold
  pub held : unholdable policy n handed (suc i) ≡ false → Held handed i
  unfolding unholdable
  held e =
      let (e', its_length) = neither _ _ e in
      let (whole, known) = neither _ _ e' in
      record {
        whole = ltb-false _ _ whole;
        known = not-false _ known;
        its_length = eqb-true _ _ (not-false _ its_length);
      }

  -- .. and one that a sheet can hold passes
  pub passes : Held handed i → unholdable policy n handed (suc i) ≡ false
  passes h = by_length h.whole h.known ∙ ap not (eq-eqb _ _ h.its_length)

-- where nothing is named, a sheet can hold all of it
pub all_held : (policy n : ℕ) (handed : List ℕ) → first_unholdable policy n handed ≡ none
    → (policy ≤ 2) × AllHeld n handed
unfolding first_unholdable unholdable
all_held policy n handed e =
    let passed = (smallest_none (unholdable policy n handed) (suc n)).0 e in
    let (low, few) = neither _ _ (passed 0 (omega arith)) in (
      ltb-false _ _ low,
      record {
        few = ltb-false _ _ few;
        each = λ (i : ℕ) (h : i < n). held handed i policy n (passed (suc i) (omega arith));
      },
    )

-- .. and where it can, nothing is named
pub none_unheld : (policy n : ℕ) (handed : List ℕ) → policy ≤ 2 → AllHeld n handed
    → first_unholdable policy n handed ≡ none
unfolding first_unholdable unholdable
none_unheld policy n handed low all = (smallest_none (unholdable policy n handed) (suc n)).1 none_here
  where
    none_here : NoneBelow (unholdable policy n handed) (suc n)
    none_here zero h = rw (le-ltb _ _ low, le-ltb _ _ all.few)
    none_here (suc i) h = passes handed i policy n (all.each i (le_of_suc-le-suc h))

-- so many commands as are asked for
pub handed_count : (handed : List ℕ) (n : ℕ) → length (handed_commands handed n) ≡ n
unfolding handed_commands
handed_count handed zero = refl
handed_count handed (suc n) =
    let c = read_command (handed_number handed n) (handed_body handed n) in
    omega (arith, length-append (handed_commands handed n) (c ∷ []), handed_count handed n)

-- the command with i commands before it
abbrev pub handed_command : List ℕ → ℕ → Command
handed_command handed i = read_command (handed_number handed i) (handed_body handed i)

-- a body as it is lent, from its first place to the place behind it
pub body_lent : (handed : List ℕ) (i : ℕ)
    → take (record_length * i + 2 + handed_length handed i - (record_length * i + 2)) (drop (record_length * i + 2) handed)
    ≡ handed_body handed i
unfolding handed_body
body_lent handed i =
    let from = record_length * i + 2 in
    let e : from + handed_length handed i - from ≡ handed_length handed i = omega arith in
    ap (λ (k : ℕ). take k (drop from handed)) e

-- one that a sheet can hold: its number and its body are those handed over
module _ (handed : List ℕ) (i : ℕ) (h : Held handed i) where
  -- the record holds the body
  pub body_inside : record_length * i + 2 + handed_length handed i ≤ length handed
  body_inside = omega (arith, h.whole, h.its_length, body_most (handed_number handed i))

  pub body_long : length (handed_body handed i) ≡ handed_length handed i
  unfolding handed_body
  body_long = length-take-le _ _ (rw length-drop (omega (arith, body_inside)))

  -- .. which is short
  pub body_short : length (handed_body handed i) ≤ 4
  body_short = omega (arith, body_long, h.its_length, body_most (handed_number handed i))

module _ (handed : List ℕ) (bytes : Bytes handed) (i : ℕ) (h : Held handed i) where
  body_are_bytes : Bytes (handed_body handed i)
  unfolding handed_body
  body_are_bytes =
      let from = record_length * i + 2 in
      each_take _ (handed_length handed i) (drop from handed) (each_drop _ from handed bytes)

  states : Stated (handed_number handed i) (handed_body handed i) (handed_command handed i)
  states = stated (handed_body handed i) body_are_bytes (handed_number handed i) h.known

  pub handed_numbered : number (handed_command handed i) ≡ handed_number handed i
  handed_numbered = states.numbered

  pub handed_bytes : body_bytes (handed_command handed i) ≡ handed_body handed i
  handed_bytes =
      let n = handed_number handed i in
      let long : length (handed_body handed i) ≡ body_length n = body_long handed i h ∙ h.its_length in
      let enough : body_length n ≤ length (handed_body handed i) = omega arith in
      let all : length (handed_body handed i) ≤ body_length n = omega arith in
      body_taken (handed_body handed i) body_are_bytes n h.known enough ∙ take_all (body_length n) (handed_body handed i) all

  -- .. and a sheet can hold it
  pub handed_holdable : Holdable (handed_command handed i)
  handed_holdable = states.holdable

  -- the table and the bodies, grown by it
  pub contents_next : (offset : ℕ)
      → contents offset (handed_commands handed (suc i))
      ≡ contents offset (handed_commands handed i)
      ++ (handed_number handed i ∷ two (offset + length (bodies (handed_commands handed i))))
  unfolding handed_commands
  contents_next offset =
      let before = handed_commands handed i in
      contents_longer offset before (handed_command handed i)
      ∙ ap (λ (k : ℕ). contents offset before ++ (k ∷ two (offset + length (bodies before)))) handed_numbered

  pub bodies_next : bodies (handed_commands handed (suc i)) ≡ bodies (handed_commands handed i) ++ handed_body handed i
  unfolding handed_commands
  bodies_next =
      let before = handed_commands handed i in
      bodies_longer before (handed_command handed i) ∙ ap (λ (l : List ℕ). bodies before ++ l) handed_bytes

  pub bodies_next_length : length (bodies (handed_commands handed (suc i)))
      ≡ length (bodies (handed_commands handed i)) + length (handed_body handed i)
  bodies_next_length = ap length bodies_next ∙ length-append (bodies (handed_commands handed i)) (handed_body handed i)

-- the first commands have no more bytes than all of them
pub bodies_grow : (handed : List ℕ) (i n : ℕ) → i ≤ n
    → length (bodies (handed_commands handed i)) ≤ length (bodies (handed_commands handed n))
unfolding handed_commands
bodies_grow handed i zero h = let e : i ≡ 0 = omega arith in rw e (omega arith)
bodies_grow handed i (suc n) h =
    let c = handed_command handed n in
    let longer = ap length (bodies_longer (handed_commands handed n) c) in
    let more = length-append (bodies (handed_commands handed n)) (body_bytes c) in
    ⊎_elim (λ (e : i ≡ suc n). rw e (omega arith))
    (λ (l : i < suc n). omega (arith, bodies_grow handed i n (le_of_suc-le-suc l), longer, more)) (eq-or-lt_of_le h)

-- no body has more than four bytes
pub bodies_few : (handed : List ℕ) (n : ℕ) → length (bodies (handed_commands handed n)) ≤ 4 * n
bodies_few handed n = omega (arith, bodies_most (handed_commands handed n), handed_count handed n)

-- the length of the sheet that is asked for
pub asked_length : (policy n : ℕ) (handed : List ℕ)
    → length (asked_sheet policy n handed) ≡ bodies_begin n + length (bodies (handed_commands handed n))
unfolding asked_sheet
asked_length policy n handed =
    bytes_length (read_policy policy) (handed_commands handed n)
    ∙ ap (λ (k : ℕ). bodies_begin k + length (bodies (handed_commands handed n))) (handed_count handed n)

-- .. is at most that of the longest sheet
pub asked_most : (policy n : ℕ) (handed : List ℕ) → AllHeld n handed → length (asked_sheet policy n handed) ≤ 28675
unfolding bodies_begin
asked_most policy n handed all = omega (arith, all.few, asked_length policy n handed, bodies_few handed n)
