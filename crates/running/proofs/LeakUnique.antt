-- What following a leak comes to is one list of entries. Rests on the definition alone.
use Prim.Native.Nat.{ℕ}
use mathlib.Core.Path.{◌≡◌, sym, ◌∙◌}
use mathlib.Core.Bool.{true}
use mathlib.Core.List.{List}
use mathlib.Core.Logic.{⊎_elim}
use lib.Seq.{ext_get_or}
use Rattle.terms.proofs.Lists.{bool_cases}
use Rattle.shapes.specs.declared.Entry.{Entry}
use Rattle.token.specs.declared.Table.{Table}
use Rattle.token.specs.Shows.{blank_entry}
use Rattle.running.specs.Leaks.{kind_at, held_at, Followed}
use Rattle.running.specs.Applied.{TableFollowed}
use Rattle.running.proofs.LeakMark.{own_at}

module _ (entries : List Entry) (t : ℕ) where
  -- what is held in one result is held in the other
  held_in_both : (a b : List Entry) → Followed entries t a → Followed entries t b → (i : ℕ) → held_at a i ≡ true →
      held_at b i ≡ true
  held_in_both a b f g i h = ⊎_elim (g.still_held i) (g.leak_held i) (f.no_other i h)

  same_held : (a b : List Entry) → Followed entries t a → Followed entries t b → (i : ℕ) → held_at a i ≡ held_at b i
  same_held a b f g i =
      bool_cases (held_at a i) (λ x. x ∙ sym (held_in_both a b f g i x))
      (λ x. bool_cases (held_at b i) (λ y. held_in_both b a g f i y ∙ sym y) (λ y. x ∙ sym y))

  -- two results of following one leak are equal
  pub followed_unique : (a b : List Entry) → Followed entries t a → Followed entries t b → a ≡ b
  followed_unique a b f g =
      ext_get_or blank_entry a b (f.same_length ∙ sym g.same_length)
      (λ i l.
      let kinds : kind_at a i ≡ kind_at b i = f.same_kind i ∙ sym (g.same_kind i) in
      let owns : own_at a i ≡ own_at b i = f.same_own i ∙ sym (g.same_own i) in
      let holds : held_at a i ≡ held_at b i = same_held a b f g i in
      λ ι. record { term = kinds ι; marks = record { held = holds ι; own = owns ι } })

-- and so are two tables
pub table_followed_unique : (table : Table) (t : ℕ) (a b : Table) → TableFollowed table t a → TableFollowed table t b → a ≡ b
table_followed_unique table t a b f g =
    let same : a.entries ≡ b.entries = followed_unique table.entries t _ _ f.followed g.followed in
    let terms : a.terms ≡ b.terms = f.same_terms ∙ sym g.same_terms in
    let keys : a.keys ≡ b.keys = f.same_keys ∙ sym g.same_keys in
    λ ι. record { entries = same ι; terms = terms ι; keys = keys ι }
