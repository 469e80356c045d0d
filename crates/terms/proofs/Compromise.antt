-- Compromise only grows: with more keys corrupted, more owned and more wraps done, no fewer keys are compromised.
-- Rests on specs/Compromise.antt.
use Prim.Native.Nat.{ℕ}
use mathlib.Core.List.{List}
use Rattle.terms.specs.Terms.{Term}
use Rattle.terms.specs.Compromise.{Link, Compromised, was_corrupted, is_own, was_wrapped}
use Rattle.terms.proofs.Lists.{◌⊆◌}

-- a compromised key stays compromised
pub compromised_more : {corrupted corrupted' : List ℕ} {own own' : List Term} {wraps wraps' : List Link} {k : ℕ} →
    corrupted ⊆ corrupted' → own ⊆ own' → wraps ⊆ wraps' → Compromised corrupted own wraps k →
    Compromised corrupted' own' wraps' k
compromised_more c o w (was_corrupted h) = was_corrupted (c _ h)
compromised_more c o w (is_own h) = is_own (o _ h)
compromised_more c o w (was_wrapped l r) = was_wrapped (w _ l) (compromised_more c o w r)
