-- Where `follow` of src/leaks.rt stands at the head of its loop: how it begins, and what it comes to at the end. Rests on the laws
-- of a walk (LeakBegin.antt, LeakWalk.antt).
use Prim.Native.Nat.{ℕ, ◌+◌, ◌*◌, ◌≤◌, ◌<◌}
use mathlib.Core.Path.{◌≡◌, refl}
use mathlib.Core.Bool.{true}
use mathlib.Core.List.{List, [], ◌∷◌}
use native.Mathlib.Omega.{arith}
use lib.ListN.{length, set}
use Rattle.std.specs.Prelude.{Option, None}
use Rattle.rules.specs.State.{most_terms}
use Rattle.shapes.specs.declared.Entry.{Entry}
use Rattle.shapes.specs.declared.KeyNo.{KeyNo}
use Rattle.shapes.specs.declared.TermNo.{TermNo}
use Rattle.token.specs.declared.Table.{Table}
use Rattle.token.specs.Chains.{as_number, last}
use Rattle.token.specs.Shows.{entry}
use Rattle.running.specs.Leaks.{kind_at, Followable}
use Rattle.running.specs.Applied.{TableFollowed}
use Rattle.token.proofs.ChainsLast.{last_le}
use Rattle.running.proofs.LeakCount.{unheld}
use Rattle.running.proofs.LeakMark.{own_at, marked}
use Rattle.running.proofs.LeakSeals.{Ready, under}
use Rattle.running.proofs.LeakWalk.{Walk, walk_ends}
use Rattle.running.proofs.LeakBegin.{leak_marked, marked_ready, walk_begins, followed_before}

-- `first` is the table as the loop begins, with term t held
pub record Following (newest older : List (Option TermNo)) (first : Table) (t : ℕ) (now : Table) (waiting : List ℕ) (link : Option TermNo)
    : Type 0 where
  pub ready : Ready first.entries newest older first.terms
  pub same_terms : now.terms ≡ first.terms
  pub same_keys : now.keys ≡ first.keys
  pub walk : Walk first.entries first.terms t now.entries waiting link

-- where no key can be taken none waits
pub none_left : {waiting : List ℕ} → (0 < length waiting → ⊥) → waiting ≡ []
none_left {waiting = []} h = refl
none_left {waiting = c ∷ waiting} h = absurd (h (omega arith))

-- what falls with each turn: each key that waits, or may still come to wait, stands for a whole chain
unfoldable pub left : Table → (waiting : List ℕ) → Option TermNo → ℕ
left now waiting link = (length waiting + unheld now.entries) * 1025 + as_number link

-- an entry of the table is replaced
abbrev pub with_entry : Table → ℕ → Entry → Table
with_entry table p e = record { entries = set table.entries p e; terms = table.terms; keys = table.keys }

-- the entry of term p, held
abbrev pub HeldEntry : Table → ℕ → Entry → Type 0
HeldEntry table p e = e ≡ entry (kind_at table.entries p) true (own_at table.entries p)

module _
    {newest older : List (Option TermNo)}
    (table : Table)
    {t : ℕ}
    {k : KeyNo}
    {e : Entry}
    (f : Followable table.entries newest older table.terms t k)
    (held : HeldEntry table t e)
  where
    -- the loop begins with term t held and its key waiting
    pub follow_begins : {waiting : List ℕ} → waiting ≡ k.0 ∷ [] →
        Following newest older (with_entry table t e) t (with_entry table t e) waiting None
    follow_begins one =
        rw held
        (record {
          ready = marked_ready f;
          same_terms = refl;
          same_keys = refl;
          walk = walk_begins f one;
        })

    -- with nothing left, the leak is followed
    pub follow_ends : {now : Table} {waiting : List ℕ} {link : Option TermNo} →
        Following newest older (with_entry table t e) t now waiting link → waiting ≡ [] → link ≡ None → TableFollowed table t now
    follow_ends {now} i none done =
        let walk : Walk (marked table.entries t) table.terms t now.entries [] None =
        rw (held, none, done) at i.walk in
        record {
          same_terms = i.same_terms;
          same_keys = i.same_keys;
          followed = followed_before f (walk_ends walk (leak_marked f));
        }

-- a link leads to a number of the table
pub link_inside : {newest older : List (Option TermNo)} {waiting : List ℕ} {first now : Table} {t : ℕ} {link : Option TermNo}
    → Following newest older first t now waiting link → as_number link ≤ most_terms
link_inside {first = first} i =
    let low : last _ i.walk.bound ≤ i.walk.bound = last_le (under first.entries i.walk.key) i.walk.bound in
    omega (arith, i.walk.link_is, i.walk.within, i.ready.few)
