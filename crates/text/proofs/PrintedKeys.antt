-- The lines of the entries that are known keys are the key lines of the state that a token shows: each known key was created, and
-- its entry's mark says whether it is the caller's own. Rests on token's KnownShown.
use Prim.Native.Nat.{ℕ, suc}
use mathlib.Core.Path.{◌≡◌, refl, sym, ap, ◌∙◌}
use mathlib.Core.Bool.{true, false, ◌&&◌, false≢true}
use mathlib.Core.List.{List, [], ◌∷◌, ◌++◌}
use mathlib.Core.Option.{some}
use lib.ListN.{get_or, get_elem?}
use Rattle.terms.proofs.Lists.{bool_cases, at_in, below_at}
use Rattle.rules.specs.State.{State, Origin, generated, own}
use Rattle.rules.proofs.Named.{both}
use Rattle.rules.proofs.Sound.{Sound}
use Rattle.shapes.specs.declared.Entry.{Entry}
use Rattle.shapes.specs.declared.Term.{Term as Kind}
use Rattle.shapes.specs.declared.Term.TheVariants.{Data, Key, Seal}
use Rattle.shapes.specs.Entries.{is_key_kind, key_of, is_held, is_own_entry}
use Rattle.token.specs.declared.Token.{Token}
use Rattle.token.specs.Shows.{Shows, blank_entry, is_own, entry_of, entry_for}
use Rattle.token.specs.Known.{marked_keys}
use Rattle.token.proofs.KnownShown.{key_at, key_inside}
use Rattle.text.specs.Text.{origin_word, key_line, key_lines}
use Rattle.text.specs.Printing.{own_word, marked_line, marked_lines}

-- each entry that is a key's has the mark of that key's origin
Told : List Origin → List Entry → Type 0
Told origins entries =
    (i k : ℕ)
    → (get_or entries i blank_entry).term ≡ Key (record { 0 = k })
    → own_word (is_own_entry (get_or entries i blank_entry)) ≡ origin_word (get_elem? origins k)

-- a kind that is a key's is its key number's
key_kind : (kind : Kind) → is_key_kind kind ≡ true → kind ≡ Key (key_of kind)
key_kind Data e = absurd (false≢true e)
key_kind (Key k) e = refl
key_kind (Seal k p) e = absurd (false≢true e)

told_lines : (origins : List Origin) (entries : List Entry) → Told origins entries
    → marked_lines entries ≡ key_lines origins (marked_keys entries)
unfolding Told marked_lines marked_line marked_keys key_lines
told_lines origins [] told = refl
told_lines origins (x ∷ entries) told =
    bool_cases (is_key_kind x.term && is_held x)
    (λ (q : is_key_kind x.term && is_held x ≡ true).
    let here = told 0 (key_of x.term).0 (key_kind x.term (both _ _ q).0) in
    rw (q, here)
    (ap (λ (l : List ℕ). key_line (key_of x.term).0 (origin_word (get_elem? origins (key_of x.term).0)) ++ l)
    (told_lines origins entries (λ i. told (suc i)))))
    (λ (q : is_key_kind x.term && is_held x ≡ false). rw q (told_lines origins entries (λ i. told (suc i))))

-- the word of a mark is the word of the origin that it marks
same_word : (o : Origin) → own_word (is_own (some o)) ≡ origin_word (some o)
unfolding own_word is_own origin_word
same_word generated = refl
same_word own = refl

module _ {t : Token} {s : State} (sound : Sound s) (shown : Shows t s) where
  told : Told s.now.origins t.table.entries
  unfolding Told entry_of entry_for
  told i k e =
      let there = key_at shown i k e in
      let (o, at) = below_at s.now.origins k (sound.counted.keys_counted (at_in s.now.table i there)) in
      let mark : is_own_entry (get_or t.table.entries i blank_entry) ≡ is_own (get_elem? s.now.origins k) =
      ap (λ (x : Entry). is_own_entry x) (shown.entries_shown i (key_inside shown i k e)) ∙ rw there refl in
      ap own_word (mark ∙ ap is_own at) ∙ same_word o ∙ sym (ap origin_word at)

  pub keys_printed : marked_lines t.table.entries ≡ key_lines s.now.origins (marked_keys t.table.entries)
  keys_printed = told_lines s.now.origins t.table.entries told
