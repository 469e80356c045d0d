-- Document 01, "Commands": "Compromised means corrupted, or the caller's own, or wrapped by a done WRAP under a compromised key.
-- It speaks of keys, so it holds for every handle of a key, and it does not depend on whether a wrap or the corruption came first."
-- It is the smallest set of key numbers with these three rules. Assumes nothing.
use Rattle.std.specs.Prelude.{ℕ, List}
use Rattle.terms.specs.Lists.{◌∈◌}
use Rattle.terms.specs.Terms.{Term, key}

-- a key under another: by a done WRAP, or sealed there directly
pub data Link : Type 0 where
  ◌under◌ : (inner outer : ℕ) → Link

infix 75 ◌under◌
pub data Compromised (corrupted : List ℕ) (own : List Term) (wraps : List Link) : ℕ → Type 0 where
  was_corrupted : {k : ℕ} → k ∈ corrupted → Compromised corrupted own wraps k
  is_own : {k : ℕ} → key k ∈ own → Compromised corrupted own wraps k
  was_wrapped : {inner outer : ℕ} → inner under outer ∈ wraps → Compromised corrupted own wraps outer → Compromised corrupted own wraps inner
