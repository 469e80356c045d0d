-- Entries that show the terms of the next state and the marks of the state before can be followed from the key that leaks. Rests
-- on ShownLeak and ShownCounts.
use Prim.Native.Nat.{ℕ, ◌≤◌, ◌<◌}
use native.Mathlib.Omega.{arith}
use mathlib.Core.Path.{◌≡◌, sym, ap, subst, ◌∙◌}
use mathlib.Core.Bool.{false}
use mathlib.Core.Option.{none}
use lib.ListN.{length, get_or, get_elem?}
use Rattle.terms.specs.Lists.{◌∈◌}
use Rattle.terms.specs.Terms.{seal, number_of}
use Rattle.terms.proofs.Lists.{at_in, at_below}
use Rattle.terms.proofs.Terms.{number_at}
use Rattle.rules.specs.State.{State, most_terms}
use Rattle.rules.proofs.Sound.{Sound}
use Rattle.rules.proofs.ShapeKept.{parts_in}
use Rattle.shapes.specs.declared.KeyNo.{KeyNo}
use Rattle.shapes.specs.declared.TermNo.{TermNo}
use Rattle.shapes.specs.declared.Term.{Term as Kind}
use Rattle.shapes.specs.declared.Term.TheVariants.{Data, Key, Seal}
use Rattle.token.specs.declared.Links.{Links}
use Rattle.token.specs.declared.Table.{Table as Stored}
use Rattle.token.specs.Chains.{Linked}
use Rattle.token.specs.Shows.{ShowsLinks, blank_entry, under_chain}
use Rattle.shapes.specs.Entries.{key_of}
use Rattle.running.specs.Leaks.{kind_at, Followable}
use Rattle.running.proofs.ShownParts.{kind_for, held_for, own_for, TableShown, entry_from, none_past}
use Rattle.running.proofs.ShownCounts.{key_below}
use Rattle.running.proofs.ShownLeak.{Leaking, SealRead, seal_read, key_at, mark_at, leak_closed}

module _ {s s' : State} (sound : Sound s') (room : length s'.now.table ≤ most_terms) {table : Stored} {links : Links} {p : ℕ}
    (shown : TableShown table s'.now s) (linked : ShowsLinks links table.entries (length s'.now.table))
    (leak : Leaking s s' p) where
  -- past the last term stands the blank
  past_blank : (i : ℕ) → table.terms ≤ i → get_or table.entries i blank_entry ≡ blank_entry
  unfolding kind_for held_for own_for
  past_blank i h =
      let past : get_elem? s'.now.table i ≡ none = none_past s'.now.table i (omega (arith, shown.terms_count)) in
      entry_from (get_or table.entries i blank_entry) Data false false
      (shown.terms.kinds i ∙ ap (kind_for s'.now.table) past) (shown.marks.holds i ∙ ap (held_for s) past)
      (shown.terms.owns i ∙ ap (own_for s'.now.origins) past)

  -- a seal's key and payload have numbers inside
  seal_inside : (i : ℕ) (k : KeyNo) (q : TermNo) → kind_at table.entries i ≡ Seal k q →
      (k.0 < most_terms) × (q.0 < most_terms)
  seal_inside i k q e =
      let r : SealRead s'.now.table (get_elem? s'.now.table i) k q =
      seal_read s'.now.table _ k q (sym (shown.terms.kinds i) ∙ e) in
      let there : seal k.0 r.inside ∈ s'.now.table = at_in s'.now.table i r.is_seal in
      let parts = parts_in sound.counted.shape there in
      let number : number_of s'.now.table r.inside < length s'.now.table =
      at_below s'.now.table (number_of s'.now.table r.inside) (number_at parts.1) in
      (omega (arith, key_below sound parts.0), omega (arith, r.its_number))

  -- the term that leaks is that key
  leaked_kind : kind_at table.entries p ≡ Key (record { 0 = leak.leaked })
  unfolding kind_for
  leaked_kind = shown.terms.kinds p ∙ ap (kind_for s'.now.table) leak.leaked_at

  -- the leak can be followed
  pub leak_followable :
      Followable table.entries links.newest links.older table.terms p (key_of (kind_at table.entries p))
  leak_followable =
      record {
        whole = shown.entries_length;
        few = omega (arith, shown.terms_count);
        blank_past = past_blank;
        keys_inside = λ i k e.
            let there = at_in s'.now.table i (key_at sound room shown.terms shown.marks leak i k e) in
            omega (arith, key_below sound there);
        seals_inside = seal_inside;
        chained =
            subst (λ (n : ℕ). Linked (λ i. under_chain (kind_at table.entries i)) links.newest links.older n)
            (sym shown.terms_count) linked.by_key;
        is_key = leaked_kind ∙ ap (λ (k : Kind). Key (key_of k)) (sym leaked_kind);
        not_held = mark_at sound room shown.terms shown.marks leak p leak.leaked leak.leaked_at ∙ leak.not_marked;
        closed = leak_closed sound room shown.terms shown.marks leak;
      }
