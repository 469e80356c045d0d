-- A state is shown by one token only, and the blank token shows a fresh one. Rests on ChainsKept for the links and on LiveWords
-- for the live words.
use Prim.Native.Nat.{ℕ, zero, suc, ◌<◌}
use native.Mathlib.Omega.{arith}
use mathlib.Core.Path.{◌≡◌, refl, sym, ap, subst, ◌∙◌}
use mathlib.Core.List.{List}
use lib.ListN.{length, get_or, replicate, length-replicate, get_or-replicate}
use lib.Seq.{ext_get_or}
use Rattle.rules.specs.State.{State, Now, dead, fresh, slot, is_live, most_handles, most_terms}
use Rattle.shapes.specs.declared.Entry.{Entry}
use Rattle.token.specs.declared.Links.{Links}
use Rattle.token.specs.declared.Hands.{Hands}
use Rattle.token.specs.declared.Token.{Token}
use Rattle.token.specs.Chains.{Linked, places}
use Rattle.token.specs.Known.{blank_token}
use Rattle.token.specs.Shows.{Shows, ShowsLinks, ShowsHands, blank_entry, blank_slot, entry_for, entry_of, slot_for, code_of}
use Rattle.token.specs.Shows.{bucket_chain}
use Rattle.token.proofs.ChainsKept.{linked_unique, linked_blank}
use Rattle.handles.proofs.LiveWords.{words_unique, blank_words, blank_bit}

-- two lists of one length that read alike below it are equal
alike : {A : Type 0} (d : A) (n : ℕ) (a b : List A) → length a ≡ n → length b ≡ n → ((i : ℕ) → i < n → get_or a i d ≡ get_or b i d) →
    a ≡ b
alike d n a b la lb each = ext_get_or d a b (la ∙ sym lb) (λ i h. each i (omega arith))

-- the entries show one state: they are equal
entries_unique : {t t' : Token} {s : State} → Shows t s → Shows t' s → t.table.entries ≡ t'.table.entries
entries_unique {t} {t'} a b =
    alike blank_entry most_terms t.table.entries t'.table.entries a.entries_length b.entries_length
    (λ i h. a.entries_shown i h ∙ sym (b.entries_shown i h))

-- the links of the same entries are equal
links_unique : {links links' : Links} {entries : List Entry} {n : ℕ} → ShowsLinks links entries n → ShowsLinks links' entries n →
    links ≡ links'
links_unique {links} {links'} {entries} {n} a b = λ i. record {
  newest = keys.0 i;
  older = keys.1 i;
  heads = buckets.0 i;
  chain = buckets.1 i;
  codes = codes i;
}
  where
    codes : links.codes ≡ links'.codes
    codes =
        alike 0 most_terms links.codes links'.codes a.codes_length b.codes_length
        (λ i h. a.codes_shown i h ∙ sym (b.codes_shown i h))

    keys : (links.newest ≡ links'.newest) × (links.older ≡ links'.older)
    keys = linked_unique a.by_key b.by_key

    chained : Linked (λ i. bucket_chain (get_or links.codes i 0)) links'.heads links'.chain n
    chained =
        subst (λ (x : List ℕ). Linked (λ i. bucket_chain (get_or x i 0)) links'.heads links'.chain n) (sym codes) b.by_bucket

    buckets : (links.heads ≡ links'.heads) × (links.chain ≡ links'.chain)
    buckets = linked_unique a.by_bucket chained

-- the hands of one state are equal
hands_unique : {hands hands' : Hands} {now : Now} → ShowsHands hands now → ShowsHands hands' now → hands ≡ hands'
hands_unique {hands} {hands'} {now} a b = λ i. record { slots = slots i; live = live i }
  where
    slots : hands.slots ≡ hands'.slots
    slots =
        alike blank_slot most_handles hands.slots hands'.slots a.slots_length b.slots_length
        (λ h l. a.slots_shown h l ∙ sym (b.slots_shown h l))

    live : hands.live ≡ hands'.live
    live = words_unique a.words b.words (λ h l. a.live_shown h l ∙ sym (b.live_shown h l))

-- a state is shown by one token only
pub shows_unique : {t t' : Token} {s : State} → Shows t s → Shows t' s → t ≡ t'
shows_unique {t} {t'} {s} a b = λ i. record {
  table = record { entries = entries i; terms = terms i; keys = keys i };
  links = links i;
  hands = hands_unique a.hands_shown b.hands_shown i;
}
  where
    entries : t.table.entries ≡ t'.table.entries
    entries = entries_unique a b

    terms : t.table.terms ≡ t'.table.terms
    terms = a.terms_shown ∙ sym b.terms_shown

    keys : t.table.keys ≡ t'.table.keys
    keys = a.keys_shown ∙ sym b.keys_shown

    links : t.links ≡ t'.links
    links =
        links_unique a.links_shown
        (subst (λ (x : List Entry). ShowsLinks t'.links x (length s.now.table)) (sym entries) b.links_shown)

-- a blank entry is no seal
blank_code : (n i : ℕ) → code_of (get_or (replicate n blank_entry) i blank_entry).term ≡ 0
unfolding code_of
blank_code zero i = refl
blank_code (suc n) zero = refl
blank_code (suc n) (suc i) = blank_code n i

-- a dead handle number reads as dead
dead_slot : (n h : ℕ) → get_or (replicate n dead) h dead ≡ dead
dead_slot zero h = refl
dead_slot (suc n) zero = refl
dead_slot (suc n) (suc h) = dead_slot n h

-- the blank links show no term
blank_links : ShowsLinks blank_token.links blank_token.table.entries 0
blank_links =
    record {
      codes_length = length-replicate {A = ℕ} places 0;
      codes_shown = λ i h. get_or-replicate {A = ℕ} places i 0 0 h ∙ sym (blank_code most_terms i);
      by_key = linked_blank _;
      by_bucket = linked_blank _;
    }

-- every handle number of a fresh token is dead
fresh_slot : (h : ℕ) → slot fresh.now h ≡ dead
unfolding fresh slot
fresh_slot h = dead_slot most_handles h

-- the blank hands show that
blank_hands : ShowsHands blank_token.hands fresh.now
unfolding slot_for is_live
blank_hands =
    record {
      slots_length = length-replicate most_handles blank_slot;
      slots_shown = λ h l. get_or-replicate most_handles h blank_slot blank_slot l ∙ sym (ap (slot_for _) (fresh_slot h));
      words = blank_words;
      live_shown = λ h l. blank_bit h ∙ sym (ap is_live (fresh_slot h));
    }

-- the blank token shows a fresh one
pub blank_shows : Shows blank_token fresh
unfolding fresh entry_of entry_for
blank_shows =
    record {
      room = omega arith;
      entries_length = length-replicate most_terms blank_entry;
      entries_shown = λ i h. get_or-replicate most_terms i blank_entry blank_entry h;
      terms_shown = refl;
      keys_shown = refl;
      links_shown = blank_links;
      hands_shown = blank_hands;
    }
