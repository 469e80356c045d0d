-- Following a leak through the seals of a table. Where a key's term is held, so is every key sealed directly under it. Assumes
-- nothing.
use Rattle.std.specs.Prelude.{ℕ, ◌≤◌, ◌<◌, ◌≡◌, Bool, true, false, List, Option, ◌⊎◌, length, get_or}
use Rattle.shapes.specs.Entries.{is_held, is_own_entry}
use Rattle.rules.specs.State.{most_terms}
use Rattle.shapes.specs.declared.Entry.{Entry}
use Rattle.shapes.specs.declared.KeyNo.{KeyNo}
use Rattle.shapes.specs.declared.TermNo.{TermNo}
use Rattle.shapes.specs.declared.Term.{Term as Kind}
use Rattle.shapes.specs.declared.Term.TheVariants.{Key, Seal}
use Rattle.token.specs.Chains.{Linked}
use Rattle.token.specs.Shows.{blank_entry, under_chain}

abbrev pub kind_at : List Entry → ℕ → Kind
kind_at entries i = (get_or entries i blank_entry).term

abbrev pub held_at : List Entry → ℕ → Bool
held_at entries i = is_held (get_or entries i blank_entry)

-- key term q seals key term p directly: number i is a seal of p under the key of q
pub record Opens (entries : List Entry) (q p : ℕ) : Type 0 where
  pub outer : KeyNo
  pub inner : KeyNo
  pub seal_no : ℕ
  pub in_range : seal_no < most_terms
  pub outer_kind : kind_at entries q ≡ Key outer
  pub seal_kind : kind_at entries seal_no ≡ Seal outer (record { 0 = p })
  pub inner_kind : kind_at entries p ≡ Key inner

-- the terms that a leak of key term t leads to
pub data Leak (entries : List Entry) (t : ℕ) : ℕ → Type 0 where
  the_leak : Leak entries t t
  leads : {q p : ℕ} → Leak entries t q → Opens entries q p → Leak entries t p

-- held is closed under opening, but for the one term t
abbrev pub ClosedBut : List Entry → (t : ℕ) → Type 0
ClosedBut entries t = (q p : ℕ) → held_at entries q ≡ true → Opens entries q p → (held_at entries p ≡ true) ⊎ (p ≡ t)

-- entries that can be followed: numbers lie inside the table, what stands past its end is blank, seals under one key are chained,
-- and t is the term of key k and is not held
pub record Followable (entries : List Entry) (newest older : List (Option TermNo)) (n t : ℕ) (k : KeyNo) : Type 0 where
  pub whole : length entries ≡ most_terms
  pub few : n ≤ most_terms
  pub blank_past : (i : ℕ) → n ≤ i → get_or entries i blank_entry ≡ blank_entry
  pub keys_inside : (i : ℕ) (k : KeyNo) → kind_at entries i ≡ Key k → k.0 < most_terms
  pub seals_inside : (i : ℕ) (k : KeyNo) (p : TermNo) → kind_at entries i ≡ Seal k p → (k.0 < most_terms) × (p.0 < most_terms)
  pub chained : Linked (λ i. under_chain (kind_at entries i)) newest older n
  pub is_key : kind_at entries t ≡ Key k
  pub not_held : held_at entries t ≡ false
  pub closed : ClosedBut entries t

-- what following the leak of t makes of the entries: the same terms, own as before; held what was held and what the leak leads to
pub record Followed (entries : List Entry) (t : ℕ) (result : List Entry) : Type 0 where
  pub same_length : length result ≡ length entries
  pub same_kind : (i : ℕ) → kind_at result i ≡ kind_at entries i
  pub same_own : (i : ℕ) → is_own_entry (get_or result i blank_entry) ≡ is_own_entry (get_or entries i blank_entry)
  pub still_held : (i : ℕ) → held_at entries i ≡ true → held_at result i ≡ true
  pub leak_held : (i : ℕ) → Leak entries t i → held_at result i ≡ true
  pub no_other : (i : ℕ) → held_at result i ≡ true → (held_at entries i ≡ true) ⊎ Leak entries t i
