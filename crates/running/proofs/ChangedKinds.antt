-- A change of each kind, made in a token that shows a state, gives a token that shows the next state, where the two states differ
-- as the kind says: nothing but slots; one more key or item; one more seal, with a leak or without; a leak. Rests on ShownTable
-- and ShownLinks.
use Prim.Native.Nat.{ℕ, suc, ◌≤◌, ◌<◌}
use native.Mathlib.Omega.{arith}
use mathlib.Core.Path.{◌≡◌, refl, sym, ap, subst, ◌∙◌}
use mathlib.Core.List.{[], ◌∷◌, ◌++◌}
use mathlib.Core.Option.{some}
use lib.ListN.{length}
use Rattle.shapes.specs.Entries.{is_held, is_own_entry}
use Rattle.terms.specs.Lists.{◌∈◌}
use Rattle.terms.specs.Terms.{Term, key, seal, number_of}
use Rattle.rules.specs.State.{State, most_terms}
use Rattle.rules.proofs.Sound.{Sound}
use Rattle.shapes.specs.declared.Term.TheVariants.{Data, Seal}
use Rattle.shapes.specs.declared.Entry.{Entry}
use Rattle.token.specs.declared.Links.{Links}
use Rattle.token.specs.declared.Table.{Table as Stored}
use Rattle.token.specs.declared.Token.{Token}
use Rattle.token.specs.Shows.{Shows, ShowsLinks, ShowsHands}
use Rattle.running.specs.Leaks.{kind_at}
use Rattle.running.specs.Applied.{appended, keys_with, linked, seal_entry, TableFollowed}
use Rattle.running.proofs.MarksKept.{SameMarks}
use Rattle.running.proofs.ShownParts.{kind_for, held_for, own_for, TableShown, table_of, parts_show, none_past}
use Rattle.running.proofs.ShownGrown.{Extends, Grows, number_kept}
use Rattle.running.proofs.ShownLinks.{NoSeal, data_no_seal, links_kept, links_none, links_more}
use Rattle.running.proofs.ShownLeak.{Leaking}
use Rattle.running.proofs.ShownTable.{length_snoc, same_extends, snoc_extends, table_marked, table_same, table_entered}
use Rattle.running.proofs.ShownTable.{table_followed}
use Rattle.running.proofs.ShownCounts.{key_below}

-- the entry of a new seal
abbrev pub new_seal : State → (k : ℕ) → Term → Entry
new_seal s k x = seal_entry (record { 0 = k }) (record { 0 = number_of s.now.table x })

module _ {s s' : State} (i : Sound s) (i' : Sound s') {t : Token} (shows : Shows t s) where
  -- the table and the links stay
  pub changed_hands : {r : Token} → s'.now.table ≡ s.now.table → s'.now.origins ≡ s.now.origins → SameMarks s s' →
      r.table ≡ t.table → r.links ≡ t.links → ShowsHands r.hands s'.now → Shows r s'
  changed_hands {r} et eo marks rt rl hands =
      parts_show (subst (λ (n : ℕ). n ≤ most_terms) (ap length (sym et)) shows.room) table links hands
    where
      table : TableShown r.table s'.now s'
      table =
          subst (λ (x : Stored). TableShown x s'.now s') (sym rt)
          (table_same i i' (table_marked s s' marks (table_of shows)) et eo)

      links : ShowsLinks r.links r.table.entries (length s'.now.table)
      links =
          subst (λ (n : ℕ). ShowsLinks r.links r.table.entries n) (ap length (sym et))
          (subst (λ (x : Links). ShowsLinks x r.table.entries (length s.now.table)) (sym rl)
          (subst (λ (x : Stored). ShowsLinks t.links x.entries (length s.now.table)) (sym rt) shows.links_shown))

  -- the table stays, but for a leak
  pub changed_known : {r : Token} → (p : ℕ) → s'.now.table ≡ s.now.table → s'.now.origins ≡ s.now.origins →
      Leaking s s' p → TableFollowed t.table p r.table → r.links ≡ t.links → ShowsHands r.hands s'.now → Shows r s'
  changed_known {r} p et eo leak followed rl hands = parts_show room table links hands
    where
      room : length s'.now.table ≤ most_terms
      room = subst (λ (n : ℕ). n ≤ most_terms) (ap length (sym et)) shows.room

      table : TableShown r.table s'.now s'
      table = table_followed i' room leak (table_same i i' (table_of shows) et eo) followed

      links : ShowsLinks r.links r.table.entries (length s'.now.table)
      links =
          subst (λ (n : ℕ). ShowsLinks r.links r.table.entries n) (ap length (sym et))
          (subst (λ (x : Links). ShowsLinks x r.table.entries (length s.now.table)) (sym rl)
          (links_kept followed.followed.same_kind shows.links_shown))

  -- a term is entered
  module _ (m : Term) (few : length s.now.table < most_terms) (et : s'.now.table ≡ s.now.table ++ m ∷ []) where
    -- the counts before and after, and the links before
    one_more : suc t.table.terms ≡ length s'.now.table
    one_more = ap suc shows.terms_shown ∙ sym (ap length et ∙ length_snoc s.now.table m)

    pub room_more : length s'.now.table ≤ most_terms
    room_more = omega (arith, ap length et, length_snoc s.now.table m)

    below : t.table.terms < most_terms
    below = omega (arith, shows.terms_shown)

    links_before : ShowsLinks t.links t.table.entries t.table.terms
    links_before =
        subst (λ (n : ℕ). ShowsLinks t.links t.table.entries n) (sym shows.terms_shown) shows.links_shown

    -- before it, a blank stood at its number
    was_blank : kind_at t.table.entries t.table.terms ≡ Data
    unfolding kind_for
    was_blank =
        (table_of shows).terms.kinds t.table.terms
        ∙ ap (kind_for s.now.table) (none_past s.now.table t.table.terms (omega (arith, shows.terms_shown)))

    -- one that is no seal
    pub changed_entered : {r : Token} → (e : Entry) → Extends s'.now.origins s.now.origins →
        keys_with e.term (length s.now.origins) ≡ length s'.now.origins →
        e.term ≡ kind_for s'.now.table (some m) → is_own_entry e ≡ own_for s'.now.origins (some m) →
        is_held e ≡ held_for s' (some m) → NoSeal e.term → SameMarks s s' →
        r.table ≡ appended t.table e → r.links ≡ t.links → ShowsHands r.hands s'.now → Shows r s'
    changed_entered {r} e eo counted ek own held no_seal marks rt rl hands = parts_show room_more table links hands
      where
        table : TableShown r.table s'.now s'
        table =
            subst (λ (x : Stored). TableShown x s'.now s') (sym rt)
            (table_entered i i' (table_marked s s' marks (table_of shows)) m e few et eo counted ek own held)

        links : ShowsLinks r.links r.table.entries (length s'.now.table)
        links =
            subst (λ (n : ℕ). ShowsLinks r.links r.table.entries n) one_more
            (subst (λ (x : Links). ShowsLinks x r.table.entries (suc t.table.terms)) (sym rl)
            (subst (λ (x : Stored). ShowsLinks t.links x.entries (suc t.table.terms)) (sym rt)
            (links_none below shows.entries_length links_before e (subst NoSeal (sym was_blank) data_no_seal) no_seal)))

  -- a seal is entered
  module _ (k : ℕ) (x : Term) (few : length s.now.table < most_terms) (et : s'.now.table ≡ s.now.table ++ seal k x ∷ [])
      (eo : s'.now.origins ≡ s.now.origins) (key_in : key k ∈ s.now.table) (payload_in : x ∈ s.now.table) where
    -- its entry is appended to the table
    pub seal_table : {u : State} → TableShown t.table s.now u →
        TableShown (appended t.table (new_seal s k x)) s'.now u
    unfolding kind_for own_for held_for
    seal_table shown =
        let grows : Grows s.now s'.now =
        record { table_more = snoc_extends s.now.table (seal k x) et; origins_more = same_extends eo } in
        table_entered i i' shown (seal k x) (new_seal s k x) few et (same_extends eo) (ap length (sym eo))
        (ap (λ (n : ℕ). Seal (record { 0 = k }) (record { 0 = n })) (sym (number_kept i i' grows payload_in))) refl refl

    -- and it is put into its chains
    pub seal_links : ShowsLinks (linked t.links t.table.terms k (number_of s.now.table x))
        (appended t.table (new_seal s k x)).entries (length s'.now.table)
    seal_links =
        subst (λ (n : ℕ). ShowsLinks (linked t.links t.table.terms k (number_of s.now.table x))
        (appended t.table (new_seal s k x)).entries n) (one_more (seal k x) few et)
        (links_more (below (seal k x) few et) shows.entries_length (links_before (seal k x) few et) (record { 0 = k })
        (record { 0 = number_of s.now.table x }) (omega (arith, key_below i key_in)))

    -- without a leak
    pub changed_sealed : {r : Token} → SameMarks s s' → r.table ≡ appended t.table (new_seal s k x) →
        r.links ≡ linked t.links t.table.terms k (number_of s.now.table x) →
        ShowsHands r.hands s'.now → Shows r s'
    changed_sealed {r} marks rt rl hands = parts_show (room_more (seal k x) few et) table links hands
      where
        table : TableShown r.table s'.now s'
        table =
            subst (λ (y : Stored). TableShown y s'.now s') (sym rt) (seal_table (table_marked s s' marks (table_of shows)))

        links : ShowsLinks r.links r.table.entries (length s'.now.table)
        links =
            subst (λ (y : Links). ShowsLinks y r.table.entries (length s'.now.table)) (sym rl)
            (subst (λ (y : Stored). ShowsLinks (linked t.links t.table.terms k (number_of s.now.table x)) y.entries
            (length s'.now.table)) (sym rt) seal_links)

    -- with a leak
    pub changed_leaked : {r : Token} → (p : ℕ) → Leaking s s' p →
        TableFollowed (appended t.table (new_seal s k x)) p r.table →
        r.links ≡ linked t.links t.table.terms k (number_of s.now.table x) →
        ShowsHands r.hands s'.now → Shows r s'
    changed_leaked {r} p leak followed rl hands = parts_show (room_more (seal k x) few et) table links hands
      where
        table : TableShown r.table s'.now s'
        table = table_followed i' (room_more (seal k x) few et) leak (seal_table (table_of shows)) followed

        links : ShowsLinks r.links r.table.entries (length s'.now.table)
        links =
            subst (λ (y : Links). ShowsLinks y r.table.entries (length s'.now.table)) (sym rl)
            (links_kept followed.followed.same_kind seal_links)
