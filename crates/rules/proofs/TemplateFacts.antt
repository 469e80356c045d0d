-- What the templates of STP and STP+ keep apart: the right to wrap, W, and the right to decrypt, D. Read off the table of
-- templates by one law about lists of bytes and one computed test a policy. Rests on the definitions alone.
use Prim.Native.Nat.{ℕ}
use mathlib.Core.Path.{◌≡◌, refl}
use mathlib.Core.Bool.{Bool, true, false, not, ◌&&◌, true≢false, false≢true}
use borrow.Author.Tests.{not-true}
use Rattle.terms.specs.Lists.{some_of}
use Rattle.terms.proofs.Lists.{some_of_false, is_in_true}
use Rattle.rules.specs.Flags.{W, D, value, has}
use Rattle.rules.specs.Templates.{Policy, plain, stp, stp+, by_generate, by_unwrap}
use Rattle.rules.specs.Templates.{Grant, every_byte, only, templates, grants}
use Rattle.rules.proofs.Named.{both}

-- a policy keeps wrapping and decrypting apart: no key is generated with both rights, and UNWRAP gives neither
pub record Separates (p : Policy) : Type 0 where
  pub generate_one : (f : ℕ) → grants (templates p by_generate) f ≡ true → has W f ≡ true → has D f ≡ true → ⊥
  pub unwrap_no_W : (f : ℕ) → grants (templates p by_unwrap) f ≡ true → has W f ≡ false
  pub unwrap_no_D : (f : ℕ) → grants (templates p by_unwrap) f ≡ true → has D f ≡ false

-- a cell of the table lists its bytes, and the test holds of none of them
unfoldable denies : (ℕ → Bool) → Grant → Bool
denies test every_byte = false
denies test (only bytes) = not (some_of test bytes)

-- then the test holds of no byte that the cell grants
none_granted : (test : ℕ → Bool) (g : Grant) → denies test g ≡ true → (f : ℕ) → grants g f ≡ true → test f ≡ false
unfolding denies grants
none_granted test every_byte e f g = absurd (false≢true e)
none_granted test (only bytes) e f g = some_of_false test (not-true _ e) (is_in_true f bytes g)

unfoldable both_rights : ℕ → Bool
both_rights f = has W f && has D f

-- what the table has to show of a policy
unfoldable shows_apart : Policy → Bool
shows_apart p =
    denies both_rights (templates p by_generate)
    && (denies (has W) (templates p by_unwrap) && denies (has D) (templates p by_unwrap))

separates : (p : Policy) → shows_apart p ≡ true → Separates p
unfolding shows_apart both_rights
separates p e =
    let (one, rest) = both _ _ e in
    let (no_W, no_D) = both _ _ rest in
    record {
      generate_one = λ f g w d. true≢false (rw (w, d) at (none_granted both_rights _ one f g));
      unwrap_no_W = none_granted _ _ no_W;
      unwrap_no_D = none_granted _ _ no_D;
    }

-- STP keeps wrapping and decrypting apart
pub stp_separates : Separates stp
unfolding shows_apart denies templates some_of both_rights has value
stp_separates = separates stp refl

-- so does STP+
pub stp+_separates : Separates stp+
unfolding shows_apart denies templates some_of both_rights has value
stp+_separates = separates stp+ refl

-- plain does not: it grants every byte, and 127 has both rights
pub plain_does_not_separate : Separates plain → ⊥
unfolding templates grants has value
plain_does_not_separate sep = sep.generate_one 127 refl refl refl
