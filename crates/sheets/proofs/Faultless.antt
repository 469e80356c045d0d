-- A sheet at whose places there is no fault, in document 01's words and without tests. Rests on Places.
use Prim.Native.Nat.{ℕ, zero, suc, ◌+◌, ◌≤◌, ◌<◌}
use native.Mathlib.Omega.{arith}
use mathlib.Core.Path.{◌≡◌, sym, ap, ◌∙◌}
use mathlib.Core.Logic.{◌↔◌}
use mathlib.Core.Bool.{Bool, true, false, not, ◌||◌, cond}
use mathlib.Core.List.{List}
use mathlib.Core.Option.{none}
use lib.Dec.{ltb}
use lib.ListN.{length}
use borrow.Author.Tests.{ltb-true, ltb-false, eqb-true, not-false, lt-ltb, le-ltb, eq-eqb}
use Rattle.terms.proofs.Lists.{bool_cases}
use Rattle.rules.proofs.Named.{neither}
use Rattle.sheets.specs.Bytes.{byte_at}
use Rattle.sheets.specs.Sheets.{most_commands, header_length, bodies_begin}
use Rattle.sheets.specs.Faults.{known_number, count, entry_number, entry_offset, bodies_end, header_fault, entry_fault}
use Rattle.sheets.specs.Faults.{bytes_follow, fault_at, first_fault}
use Rattle.sheets.proofs.Places.{NoneBelow, FirstFault, first_fault_none}

-- policy, count and table without a fault
pub record HeaderFaultless (s : List ℕ) : Type 0 where
  pub has_header : header_length ≤ length s
  pub policy_below : byte_at s 0 ≤ 2
  pub few : count s ≤ most_commands
  pub table_inside : bodies_begin (count s) ≤ length s

-- an entry without a fault
pub record EntryFaultless (s : List ℕ) (i : ℕ) : Type 0 where
  pub known : known_number (entry_number s i) ≡ true
  pub in_place : entry_offset s i ≡ bodies_end s i
  pub inside : bodies_end s (suc i) ≤ length s

-- a sheet without a fault
pub record Faultless (s : List ℕ) : Type 0 where
  pub header : HeaderFaultless s
  pub entries : (i : ℕ) → i < count s → EntryFaultless s i
  pub nothing_follows : length s ≤ bodies_end s (count s)

both_false : (a b : Bool) → a ≡ false → b ≡ false → (a || b) ≡ false
both_false a b e f = rw (e, f)

-- each test says no exactly where there is no such fault
pub header_exactly : (s : List ℕ) → (header_fault s ≡ false) ↔ HeaderFaultless s
unfolding header_fault
header_exactly s = (there, back)
  where
    there : header_fault s ≡ false → HeaderFaultless s
    there e =
        let (e3, inside) = neither _ _ e in
        let (e2, few) = neither _ _ e3 in
        let (long, policy) = neither _ _ e2 in
        record {
          has_header = ltb-false _ _ long;
          policy_below = ltb-false _ _ policy;
          few = ltb-false _ _ few;
          table_inside = ltb-false _ _ inside;
        }

    back : HeaderFaultless s → header_fault s ≡ false
    back f =
        both_false _ _
        (both_false _ _ (both_false _ _ (le-ltb _ _ f.has_header) (le-ltb _ _ f.policy_below)) (le-ltb _ _ f.few))
        (le-ltb _ _ f.table_inside)

pub entry_exactly : (s : List ℕ) (i : ℕ) → (entry_fault s i ≡ false) ↔ EntryFaultless s i
unfolding entry_fault
entry_exactly s i = (there, back)
  where
    there : entry_fault s i ≡ false → EntryFaultless s i
    there e =
        let (e', inside) = neither _ _ e in
        let (known, in_place) = neither _ _ e' in
        record { known = not-false _ known; in_place = eqb-true _ _ (not-false _ in_place); inside = ltb-false _ _ inside }

    back : EntryFaultless s i → entry_fault s i ≡ false
    back f =
        both_false _ _ (both_false _ _ (ap not f.known) (ap not (eq-eqb _ _ f.in_place))) (le-ltb _ _ f.inside)

-- the places from 1 to n are those of the entries, and n + 1 is that of the bytes that follow
pub fault_at_entry : (s : List ℕ) (i : ℕ) → i < count s → fault_at s (suc i) ≡ entry_fault s i
unfolding fault_at
fault_at_entry s i h = ap (λ (b : Bool). cond b (entry_fault s i) (bytes_follow s)) (lt-ltb i (count s) h)

pub fault_at_end : (s : List ℕ) (i : ℕ) → count s ≤ i → fault_at s (suc i) ≡ bytes_follow s
unfolding fault_at
fault_at_end s i h = ap (λ (b : Bool). cond b (entry_fault s i) (bytes_follow s)) (le-ltb i (count s) h)

faultless : (s : List ℕ) → NoneBelow (fault_at s) (count s + 2) → Faultless s
unfolding fault_at bytes_follow
faultless s no_fault =
    record {
      header = (header_exactly s).0 (no_fault 0 (omega arith));
      entries = λ (i : ℕ) (h : i < count s). (entry_exactly s i).0 (sym (fault_at_entry s i h) ∙ no_fault (suc i) (omega arith));
      nothing_follows = ltb-false _ _ (sym (fault_at_end s (count s) (omega arith)) ∙ no_fault (suc (count s)) (omega arith));
    }

no_fault_at : (s : List ℕ) → Faultless s → (j : ℕ) → fault_at s j ≡ false
unfolding fault_at bytes_follow
no_fault_at s f zero = (header_exactly s).1 f.header
no_fault_at s f (suc i) =
    bool_cases (ltb i (count s))
    (λ (e : ltb i (count s) ≡ true). rw e ((entry_exactly s i).1 (f.entries i (ltb-true _ _ e))))
    (λ (e : ltb i (count s) ≡ false). rw e (le-ltb _ _ f.nothing_follows))

-- no place is named exactly for a sheet without a fault
pub none_faultless : (s : List ℕ) → (first_fault s ≡ none) ↔ Faultless s
none_faultless s =
    (λ e. faultless s ((first_fault_none s).0 e), λ f. (first_fault_none s).1 (λ j _. no_fault_at s f j))

-- the place that is named is at most 4,097
pub place_most : {s : List ℕ} (place : ℕ) → FirstFault s place → place ≤ most_commands + 1
unfolding fault_at
place_most zero f = omega arith
place_most {s} (suc i) f = omega (arith, f.in_range, ((header_exactly s).0 (f.none_before 0 (omega arith))).few)
