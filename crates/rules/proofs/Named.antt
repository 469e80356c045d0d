-- What a done command names: its handles are live, its terms are there and held, and the flags, the kinds and the templates are
-- as its row in document 01's table asks. One record a row, each made from Done. Rests on Done.
use Prim.Native.Nat.{ℕ, zero, suc}
use mathlib.Core.Path.{◌≡◌, refl, sym, ap, subst, ◌∙◌}
use mathlib.Core.Bool.{Bool, true, false, not, ◌&&◌, ◌||◌, cond, true≢false, false≢true}
use mathlib.Core.List.Memᴰ
use mathlib.Core.List.{List, [], ◌∷◌}
use mathlib.Core.Option.{Option, some}
use native.Mathlib.Omega.{arith}
use lib.ListN.{get_elem?, get_or}
use borrow.Author.Tests.{eqb-true, ltb-true, not-false}
use Rattle.terms.specs.Lists.{◌∈◌, some_of}
use Rattle.terms.specs.Terms.{Term, item, key, seal}
use Rattle.terms.proofs.Lists.{at_in, below_at, at_get_d}
use Rattle.rules.specs.Flags.{Flag, W, U, E, D, X, N, T, has}
use Rattle.rules.specs.Templates.{Policy, by_generate, by_unwrap, templates, grants}
use Rattle.rules.specs.Commands.{GENERATE, WRAP, UNWRAP, ENCRYPT, DECRYPT, CORRUPT, DESTROY, SEAL, body}
use Rattle.rules.specs.State.{Now, Slot, dead, live, slot, is_live, key_of_slot, flags_of, is_term, term_at, is_key, key_number}
use Rattle.rules.specs.State.{payload, all_live}
use Rattle.rules.specs.Refusals.{not_live, no_term, not_held, asks_for, not_granted, needs_handle, needs, missing}
use Rattle.rules.specs.Refusals.{◌on◌, sealed_under, wrong_kind}
use Rattle.rules.proofs.Done.{Done}

-- neither of two tests holds; both do
pub neither : (a b : Bool) → (a || b) ≡ false → (a ≡ false) × (b ≡ false)
neither true b e = absurd (true≢false e)
neither false b e = (refl, e)

pub both : (a b : Bool) → (a && b) ≡ true → (a ≡ true) × (b ≡ true)
both true b e = (refl, e)
both false b e = absurd (false≢true e)

-- handle h is live: it stands for a key and carries flags
pub record Live (now : Now) (h : ℕ) : Type 0 where
  pub key_no : ℕ
  pub flags_no : ℕ
  pub is_slot : slot now h ≡ live key_no flags_no
  pub in_handles : live key_no flags_no ∈ now.handles

slot_in : (slots : List Slot) (h k f : ℕ) → get_or slots h dead ≡ live k f → live k f ∈ slots
slot_in [] h k f e = absurd (let z : ◌≡◌ {A = ℕ} 0 1 = cc in omega arith)
slot_in (x ∷ slots) zero k f e = Memᴰ.head (sym e)
slot_in (x ∷ slots) (suc h) k f e = Memᴰ.tail (slot_in slots h k f e)

live_slot : (now : Now) (h : ℕ) → not (is_live (slot now h)) ≡ false → Live now h
unfolding slot is_live
live_slot now h e = go (slot now h) refl (not-false _ e)
  where
    go : (x : Slot) → slot now h ≡ x → is_live x ≡ true → Live now h
    go dead e' l = absurd (false≢true l)
    go (live k f) e' l = record { key_no = k; flags_no = f; is_slot = e'; in_handles = slot_in now.handles h k f e' }

-- term number t is there, and is held
pub record There (held : ℕ → Bool) (now : Now) (t : ℕ) : Type 0 where
  pub is_at : get_elem? now.table t ≡ some (term_at now t)
  pub in_table : term_at now t ∈ now.table
  pub is_held : held t ≡ true

there : (held : ℕ → Bool) (now : Now) (t : ℕ) → not (is_term now t) ≡ false → not (held t) ≡ false → There held now t
unfolding is_term term_at
there held now t e h =
    let (m, a) = below_at now.table t (ltb-true _ _ (not-false _ e)) in
    let g = at_get_d now.table t (item 0) a in
    let a' : get_elem? now.table t ≡ some (term_at now t) = a ∙ ap {B = Option Term} some (sym g) in
    record { is_at = a'; in_table = at_in now.table t a'; is_held = not-false _ h }

-- a live handle carries a flag that is not missing
carries : (now : Now) (h : ℕ) (l : Live now h) (flag : Flag) → missing now (flag on h) ≡ false → has flag l.flags_no ≡ true
unfolding missing flags_of
carries now h l flag e = subst (λ (x : Slot). has flag (flags_of x) ≡ true) l.is_slot (not-false _ e)

key_of_live : (now : Now) (h : ℕ) (l : Live now h) → key_of_slot (slot now h) ≡ l.key_no
unfolding key_of_slot
key_of_live now h l = ap key_of_slot l.is_slot

-- a term sealed under k is a seal of its payload under k
seal_of : (k : ℕ) (m : Term) → sealed_under k m ≡ true → m ≡ seal k (payload m)
unfolding sealed_under payload
seal_of k (item n) e = absurd (false≢true e)
seal_of k (key j) e = absurd (false≢true e)
seal_of k (seal j m) e = ap (λ (i : ℕ). seal i m) (eqb-true j k e)

pub key_term : (m : Term) → is_key m ≡ true → m ≡ key (key_number m)
unfolding is_key key_number
key_term (item n) e = absurd (false≢true e)
key_term (key k) e = refl
key_term (seal k m) e = absurd (false≢true e)

-- one row of the table of commands each, in its order
pub record Generates (p : Policy) (f : ℕ) (now : Now) : Type 0 where
  pub granted : grants (templates p by_generate) f ≡ true
  pub handle_free : all_live now ≡ false

pub generates : {p : Policy} {held : ℕ → Bool} {now : Now} {f : ℕ} → Done p held now (GENERATE f) → Generates p f now
unfolding asks_for not_granted needs_handle
generates d = record { granted = not-false _ d.granted; handle_free = d.handle_free }

pub record Wraps (now : Now) (a b : ℕ) : Type 0 where
  pub outer : Live now a
  pub inner : Live now b
  pub wraps : has W outer.flags_no ≡ true
  pub extractable : has X inner.flags_no ≡ true
  pub trusted : has N inner.flags_no ≡ true → has T outer.flags_no ≡ true

pub wraps_named : {p : Policy} {held : ℕ → Bool} {now : Now} {a b : ℕ} → Done p held now (WRAP a b) → Wraps now a b
unfolding body not_live needs some_of flags_of
wraps_named {now} {a} {b} d =
    let (la, rest) = neither _ _ d.handles_live in
    let outer = live_slot now a la in
    let inner = live_slot now b (neither _ _ rest).0 in
    let (w, more) = neither _ _ d.flags_there in
    let (x, last) = neither _ _ more in
    record {
      outer = outer;
      inner = inner;
      wraps = carries now a outer W w;
      extractable = carries now b inner X x;
      trusted =
          λ n. trust outer (has N (flags_of (slot now b))) (ap (λ (s : Slot). has N (flags_of s)) inner.is_slot ∙ n) last;
    }
  where
    trust : (l : Live now a) (t : Bool) → t ≡ true → some_of (missing now) (cond t (T on a ∷ []) []) ≡ false → has T l.flags_no ≡ true
    trust l true e f = carries now a l T (neither _ _ f).0
    trust l false e f = absurd (false≢true e)

pub record Unwraps (p : Policy) (held : ℕ → Bool) (now : Now) (h t f : ℕ) : Type 0 where
  pub handle : Live now h
  pub the_term : There held now t
  pub granted : grants (templates p by_unwrap) f ≡ true
  pub unwraps : has U handle.flags_no ≡ true
  pub sealed_key : term_at now t ≡ seal handle.key_no (key (key_number (payload (term_at now t))))
  pub handle_free : all_live now ≡ false

pub unwraps_named : {p : Policy} {held : ℕ → Bool} {now : Now} {h t f : ℕ} → Done p held now (UNWRAP h t f) → Unwraps p held now h t f
unfolding body not_live no_term not_held asks_for not_granted needs_handle needs some_of wrong_kind
unwraps_named {held} {now} {h} {t} d =
    let l = live_slot now h (neither _ _ d.handles_live).0 in
    let (s, k) = both _ _ (not-false _ d.right_kind) in
    let e = seal_of _ _ s in
    record {
      handle = l;
      the_term = there held now t (neither _ _ d.terms_exist).0 (neither _ _ d.terms_held).0;
      granted = not-false _ d.granted;
      unwraps = carries now h l U (neither _ _ d.flags_there).0;
      sealed_key =
          e ∙ ap (λ (i : ℕ). seal i (payload (term_at now t))) (key_of_live now h l) ∙ ap (seal l.key_no) (key_term _ k);
      handle_free = d.handle_free;
    }

pub record Encrypts (held : ℕ → Bool) (now : Now) (h t : ℕ) : Type 0 where
  pub handle : Live now h
  pub the_term : There held now t
  pub encrypts : has E handle.flags_no ≡ true

pub encrypts_named : {p : Policy} {held : ℕ → Bool} {now : Now} {h t : ℕ} → Done p held now (ENCRYPT h t) → Encrypts held now h t
unfolding body not_live no_term not_held needs some_of
encrypts_named {held} {now} {h} {t} d =
    let l = live_slot now h (neither _ _ d.handles_live).0 in
    record {
      handle = l;
      the_term = there held now t (neither _ _ d.terms_exist).0 (neither _ _ d.terms_held).0;
      encrypts = carries now h l E (neither _ _ d.flags_there).0;
    }

pub record Decrypts (held : ℕ → Bool) (now : Now) (h t : ℕ) : Type 0 where
  pub handle : Live now h
  pub the_term : There held now t
  pub decrypts : has D handle.flags_no ≡ true
  pub sealed : term_at now t ≡ seal handle.key_no (payload (term_at now t))

pub decrypts_named : {p : Policy} {held : ℕ → Bool} {now : Now} {h t : ℕ} → Done p held now (DECRYPT h t) → Decrypts held now h t
unfolding body not_live no_term not_held needs some_of wrong_kind
decrypts_named {held} {now} {h} {t} d =
    let l = live_slot now h (neither _ _ d.handles_live).0 in
    record {
      handle = l;
      the_term = there held now t (neither _ _ d.terms_exist).0 (neither _ _ d.terms_held).0;
      decrypts = carries now h l D (neither _ _ d.flags_there).0;
      sealed =
          seal_of _ _ (not-false _ d.right_kind) ∙ ap (λ (i : ℕ). seal i (payload (term_at now t))) (key_of_live now h l);
    }

pub corrupts_named : {p : Policy} {held : ℕ → Bool} {now : Now} {h : ℕ} → Done p held now (CORRUPT h) → Live now h
unfolding body not_live some_of
corrupts_named {now} {h} d = live_slot now h (neither _ _ d.handles_live).0

pub destroys_named : {p : Policy} {held : ℕ → Bool} {now : Now} {h : ℕ} → Done p held now (DESTROY h) → Live now h
unfolding body not_live some_of
destroys_named {now} {h} d = live_slot now h (neither _ _ d.handles_live).0

pub record Seals (held : ℕ → Bool) (now : Now) (k t : ℕ) : Type 0 where
  pub the_key : There held now k
  pub the_term : There held now t
  pub is_key_term : term_at now k ≡ key (key_number (term_at now k))

pub seals_named : {p : Policy} {held : ℕ → Bool} {now : Now} {k t : ℕ} → Done p held now (SEAL k t) → Seals held now k t
unfolding body no_term not_held some_of wrong_kind
seals_named {held} {now} {k} {t} d =
    let (ek, et) = neither _ _ d.terms_exist in
    let (hk, ht) = neither _ _ d.terms_held in
    record {
      the_key = there held now k ek hk;
      the_term = there held now t (neither _ _ et).0 (neither _ _ ht).0;
      is_key_term = key_term _ (not-false _ d.right_kind);
    }
