-- A sheet walked entry by entry: with i entries behind, the rest of the table and the rest of the bodies state the commands that
-- are left. One entry further, and one entry back. Rests on Bytes, Bodies and Faultless.
use Prim.Native.Nat.{ℕ, suc, ◌+◌, ◌*◌, ◌≤◌}
use native.Mathlib.Nat.{add-zero}
use native.Mathlib.Omega.{arith}
use mathlib.Core.Path.{◌≡◌, refl, sym, ap, ◌∙◌}
use mathlib.Core.List.{List, [], ◌∷◌, ◌++◌, append-nil}
use lib.ListN.{length, drop, length-append, length-drop, take-append-drop}
use lib.Seq.{drop-drop, drop-append_seam, drop-length, append_snoc}
use Rattle.rules.specs.Commands.{Command, number}
use Rattle.sheets.specs.Bytes.{Bytes, two}
use Rattle.sheets.specs.Sheets.{header_length, entry_length, body_bytes, contents, bodies, bodies_begin, Holdable}
use Rattle.sheets.specs.Faults.{known_number, body_length, count, entry_number, entry_offset, bodies_end}
use Rattle.sheets.specs.Reading.{read_command, read_commands}
use Rattle.sheets.proofs.Each.{each_drop}
use Rattle.sheets.proofs.Bytes.{three_read, three_written, three_same}
use Rattle.sheets.proofs.Faultless.{EntryFaultless}
use Rattle.sheets.proofs.Bodies.{body_bytes_length, number_known, read_back, Stated, stated, body_taken}

-- where entry i begins
abbrev pub entry_begin : ℕ → ℕ
entry_begin i = header_length + entry_length * i

-- with i entries behind, `rest` are the commands that are left
pub record Walk (s : List ℕ) (i : ℕ) (rest : List Command) : Type 0 where
  pub counted : i + length rest ≡ count s
  pub table : drop (entry_begin i) s ≡ contents (bodies_end s i) rest ++ drop (bodies_begin (count s)) s
  pub in_bodies : drop (bodies_end s i) s ≡ bodies rest
  pub to_the_end : bodies_end s i + length (bodies rest) ≡ length s

-- the command that entry i states
abbrev pub command_at : List ℕ → ℕ → Command
command_at s i = read_command (entry_number s i) (drop (bodies_end s i) s)

-- where the next entry begins
next_begin : (i : ℕ) → entry_begin (suc i) ≡ entry_begin i + 3
next_begin i = omega arith

-- one entry further: it has no fault and states the first of the commands that are left
pub walk_on : {s : List ℕ} {i : ℕ} {c : Command} {rest : List Command} → Walk s i (c ∷ rest)
    → EntryFaultless s i × (command_at s i ≡ c) × Walk s (suc i) rest
unfolding contents bodies bodies_end entry_number entry_offset two
walk_on {s} {i} {c} {rest} w =
    let more = contents (bodies_end s i + length (body_bytes c)) rest ++ drop (bodies_begin (count s)) s in
    let (n, o, t) = three_read s (entry_begin i) (number c) (bodies_end s i) more w.table in
    let size : body_length (entry_number s i) ≡ length (body_bytes c) = ap body_length n ∙ sym (body_bytes_length c) in
    let end : bodies_end s (suc i) ≡ bodies_end s i + length (body_bytes c) = ap (λ (k : ℕ). bodies_end s i + k) size in
    let long = length-append (body_bytes c) (bodies rest) in (
      record {
        known = ap known_number n ∙ number_known c;
        in_place = o;
        inside = omega (arith, w.to_the_end, end, long);
      },
      rw (n, w.in_bodies) (read_back c (bodies rest)),
      record {
        counted = omega (arith, w.counted);
        table =
            ap (λ (k : ℕ). drop k s) (next_begin i) ∙ t
            ∙ ap (λ (k : ℕ). contents k rest ++ drop (bodies_begin (count s)) s) (sym end);
        in_bodies =
            ap (λ (k : ℕ). drop k s) end ∙ sym (drop-drop (length (body_bytes c)) (bodies_end s i) s)
            ∙ ap (drop (length (body_bytes c))) w.in_bodies
            ∙ drop-append_seam (body_bytes c) (bodies rest);
        to_the_end = omega (arith, w.to_the_end, end, long);
      },
    )

-- one entry back: where the entry has no fault, it states a command that a sheet can hold
module _ (s : List ℕ) (bytes : Bytes s) (table_inside : bodies_begin (count s) ≤ length s)
    (i : ℕ) (good : EntryFaultless s i) where
  behind : List ℕ
  behind = drop (bodies_end s i) s

  states : Stated (entry_number s i) behind (command_at s i)
  unfolding behind
  states = stated behind (each_drop _ (bodies_end s i) s bytes) (entry_number s i) good.known

  pub command_holdable : Holdable (command_at s i)
  command_holdable = states.holdable

  pub walk_back : {rest : List Command} → Walk s (suc i) rest → Walk s i (command_at s i ∷ rest)
  unfolding contents bodies bodies_end entry_number entry_offset two behind bodies_begin
  walk_back {rest} w =
      let c = command_at s i in
      let n = entry_number s i in
      let fits : entry_begin i + 3 ≤ length s = omega (arith, w.counted) in
      let room : body_length n ≤ length behind = rw length-drop (omega (arith, good.inside)) in
      let taken = body_taken behind (each_drop _ (bodies_end s i) s bytes) n good.known room in
      let size : length (body_bytes c) ≡ body_length n = body_bytes_length c ∙ ap body_length states.numbered in
      let end : bodies_end s (suc i) ≡ bodies_end s i + length (body_bytes c) = omega (arith, size) in
      let moved = ap (λ (k : ℕ). contents k rest ++ drop (bodies_begin (count s)) s) end in
      let more = ap (λ (k : ℕ). drop k s) (sym (next_begin i)) ∙ w.table ∙ moved in
      record {
        counted = omega (arith, w.counted);
        table = three_written s (entry_begin i) bytes fits ∙ three_same _ _ _ _ _ _ (sym states.numbered) good.in_place more;
        in_bodies =
            sym (take-append-drop (body_length n) behind)
            ∙ ap (λ (l : List ℕ). l ++ drop (body_length n) behind) (sym taken)
            ∙ ap (λ (l : List ℕ). body_bytes c ++ l) (drop-drop (body_length n) (bodies_end s i) s ∙ w.in_bodies);
        to_the_end = omega (arith, w.to_the_end, size, length-append (body_bytes c) (bodies rest));
      }

-- at the end of the entries nothing is left
pub walk_end : (s : List ℕ) → bodies_end s (count s) ≡ length s → Walk s (count s) []
unfolding contents bodies bodies_begin
walk_end s e =
    record {
      counted = add-zero (count s);
      table = refl;
      in_bodies = ap (λ (k : ℕ). drop k s) e ∙ drop-length s;
      to_the_end = omega arith;
    }

-- what is read from the first entries, and then the commands that are left, is what is read from all entries
pub walk_reads : (s : List ℕ) (i : ℕ) (rest : List Command) → Walk s i rest
    → read_commands s (count s) ≡ read_commands s i ++ rest
unfolding read_commands
walk_reads s i [] w =
    let e : count s ≡ i = omega (arith, w.counted) in
    ap (read_commands s) e ∙ sym (append-nil (read_commands s i))
walk_reads s i (c ∷ rest) w =
    let (good, states, on) = walk_on w in
    walk_reads s (suc i) rest on ∙ ap (λ (x : Command). read_commands s i ++ (x ∷ []) ++ rest) states
    ∙ append_snoc (read_commands s i) c rest
