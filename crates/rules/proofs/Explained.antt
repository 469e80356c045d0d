-- How the terms that were given are explained where wrapping and decrypting are kept apart: a key only if it is compromised, a
-- key sealed under another only if a WRAP did that or the sealed key is compromised. Which small changes keep that.
-- Rests on the definitions alone.
use Prim.Native.Nat.{ℕ}
use mathlib.Core.Path.{◌≡◌, refl}
use mathlib.Core.Bool.{Bool, true}
use mathlib.Core.List.Memᴰ
use mathlib.Core.List.{List, ◌∷◌}
use mathlib.Core.Logic.{◌⊎◌, inl, inr, ⊎_elim}
use Rattle.terms.specs.Lists.{◌∈◌}
use Rattle.terms.specs.Terms.{Term, Table, item, key, seal}
use Rattle.terms.specs.Compromise.{Link, ◌under◌, Compromised, is_own, was_wrapped}
use Rattle.terms.specs.Following.{Reached, own_key, given_key, under_key}
use Rattle.terms.proofs.Lists.{◌⊆◌}
use Rattle.terms.proofs.Compromise.{compromised_more}
use Rattle.rules.specs.State.{is_key}

-- a data item; a compromised key; a done WRAP's seal; any seal of an explained term, save that where no keys are encrypted
-- (answer 9) a key is so sealed only under a compromised key
pub data Explained (no_keys : Bool) (corrupted : List ℕ) (own : List Term) (wraps : List Link) : Term → Type 0 where
  an_item : {n : ℕ} → Explained no_keys corrupted own wraps (item n)
  a_key : {k : ℕ} → Compromised corrupted own wraps k → Explained no_keys corrupted own wraps (key k)
  a_wrap : {j k : ℕ} → (j under k) ∈ wraps → Explained no_keys corrupted own wraps (seal k (key j))
  a_seal : {k : ℕ} {m : Term} → (no_keys ≡ true → is_key m ≡ true → Compromised corrupted own wraps k)
      → Explained no_keys corrupted own wraps m → Explained no_keys corrupted own wraps (seal k m)

-- every term of the list is explained
abbrev pub AllExplained : Bool → List ℕ → (own : List Term) → List Link → (given : List Term) → Type 0
AllExplained no_keys corrupted own wraps given = (m : Term) → m ∈ given → Explained no_keys corrupted own wraps m

-- more of the past explains no less
explained_more : {no_keys : Bool} {corrupted corrupted' : List ℕ} {own own' : List Term} {wraps wraps' : List Link} {m : Term}
    → corrupted ⊆ corrupted' → own ⊆ own' → wraps ⊆ wraps' → Explained no_keys corrupted own wraps m
    → Explained no_keys corrupted' own' wraps' m
explained_more c o w an_item = an_item
explained_more c o w (a_key h) = a_key (compromised_more c o w h)
explained_more c o w (a_wrap l) = a_wrap (w _ l)
explained_more c o w (a_seal u e) = a_seal (λ n i. compromised_more c o w (u n i)) (explained_more c o w e)

module _ {no_keys : Bool} {corrupted : List ℕ} {own : List Term} {wraps : List Link} where
  -- an explained key is compromised
  pub key_explained : {k : ℕ} → Explained no_keys corrupted own wraps (key k) → Compromised corrupted own wraps k
  key_explained (a_key c) = c

  -- an explained seal of a key: a WRAP did it, or the key is compromised
  pub sealed_key_explained : {j k : ℕ} → Explained no_keys corrupted own wraps (seal k (key j))
      → ((j under k) ∈ wraps) ⊎ Compromised corrupted own wraps j
  sealed_key_explained (a_wrap w) = inl w
  sealed_key_explained (a_seal u e) = inr (key_explained e)

-- where no keys are encrypted: a WRAP did it, or the outer key is compromised
pub sealing_key_explained : {corrupted : List ℕ} {own : List Term} {wraps : List Link} {j k : ℕ}
    → Explained true corrupted own wraps (seal k (key j)) → ((j under k) ∈ wraps) ⊎ Compromised corrupted own wraps k
unfolding is_key
sealing_key_explained (a_wrap w) = inl w
sealing_key_explained (a_seal u e) = inr (u refl refl)

module _ {no_keys : Bool} {corrupted : List ℕ} {own given : List Term} {wraps : List Link}
    (all : AllExplained no_keys corrupted own wraps given) where
  -- an explained term is given
  pub explained_gives : {m : Term} → Explained no_keys corrupted own wraps m
      → AllExplained no_keys corrupted own wraps (m ∷ given)
  explained_gives e x (Memᴰ.head q) = rw q e
  explained_gives e x (Memᴰ.tail h) = all x h

  -- a term is the caller's own
  pub explained_owns : {m : Term} → AllExplained no_keys corrupted (m ∷ own) wraps given
  explained_owns x h = explained_more (λ y k. k) (λ y k. Memᴰ.tail k) (λ y k. k) (all x h)

  -- a key is corrupted
  pub explained_corrupts : {k : ℕ} → AllExplained no_keys (k ∷ corrupted) own wraps given
  explained_corrupts x h = explained_more (λ y k. Memᴰ.tail k) (λ y k. k) (λ y k. k) (all x h)

  -- a WRAP is done
  pub explained_wraps : {link : Link} → AllExplained no_keys corrupted own (link ∷ wraps) given
  explained_wraps x h = explained_more (λ y k. k) (λ y k. k) (λ y k. Memᴰ.tail k) (all x h)

  -- every key reached through a table whose seals were given is compromised
  pub reached_compromised : {table : Table} {k : ℕ} → ((j k : ℕ) → seal k (key j) ∈ table → seal k (key j) ∈ given)
      → Reached own given table k → Compromised corrupted own wraps k
  reached_compromised sealed (own_key h) = is_own h
  reached_compromised sealed (given_key h) = key_explained (all _ h)
  reached_compromised sealed (under_key h r) =
      ⊎_elim (λ w. was_wrapped w (reached_compromised sealed r)) (λ c. c) (sealed_key_explained (all _ (sealed _ _ h)))
