-- What the links show is kept: where the kinds of the entries stay, where an entry is appended that is no seal, and where a seal
-- is appended and put into its two chains. Rests on ChainsKept.
use Prim.Native.Nat.{ℕ, suc, ◌<◌}
use native.Mathlib.Omega.{arith}
use native.Mathlib.Decide.{ℕ_discrete}
use mathlib.Core.Path.{◌≡◌, refl, sym, ap, ◌∙◌}
use mathlib.Core.List.{List}
use mathlib.Core.Logic.{by_cases}
use lib.ListN.{length, get_or, set, length-set}
use lib.Seq.{get_or-set_same, get_or-set_other}
use Rattle.rules.specs.State.{most_terms}
use Rattle.shapes.specs.declared.KeyNo.{KeyNo}
use Rattle.shapes.specs.declared.TermNo.{TermNo}
use Rattle.shapes.specs.declared.Term.{Term as Kind}
use Rattle.shapes.specs.declared.Term.TheVariants.{Data, Key}
use Rattle.shapes.specs.declared.Entry.{Entry}
use Rattle.token.specs.declared.Links.{Links}
use Rattle.running.proofs.ChainsFound.{bucket_inside}
use Rattle.token.specs.Shows.{ShowsLinks, blank_entry, code_of, seal_code, under_chain, bucket, bucket_chain}
use Rattle.running.specs.Leaks.{kind_at}
use Rattle.running.specs.Applied.{linked, seal_entry}
use Rattle.token.proofs.ChainsKept.{linked_same, linked_none, linked_more}

-- the kinds stay, and so do the links
pub links_kept : {links : Links} {entries entries' : List Entry} {n : ℕ} → ((i : ℕ) → kind_at entries' i ≡ kind_at entries i) →
    ShowsLinks links entries n → ShowsLinks links entries' n
links_kept same shown =
    record {
      codes_length = shown.codes_length;
      codes_shown = λ i h. shown.codes_shown i h ∙ ap code_of (sym (same i));
      by_key = linked_same (λ i h. ap under_chain (sym (same i))) shown.by_key;
      by_bucket = shown.by_bucket;
    }

-- a kind that is in no chain and has no code
pub record NoSeal (kind : Kind) : Type 0 where
  pub no_code : code_of kind ≡ 0
  pub no_chain : under_chain kind ≡ 0

-- data is none
pub data_no_seal : NoSeal Data
unfolding code_of under_chain
data_no_seal = record { no_code = refl; no_chain = refl }

-- a key is none
pub key_no_seal : (k : KeyNo) → NoSeal (Key k)
unfolding code_of under_chain
key_no_seal k = record { no_code = refl; no_chain = refl }

module _ {links : Links} {entries : List Entry} {n : ℕ} (inside : n < most_terms) (whole : length entries ≡ most_terms)
    (shown : ShowsLinks links entries n) where
  -- what is read of entries of which one was stored
  here : (e : Entry) → get_or (set entries n e) n blank_entry ≡ e
  here e = get_or-set_same entries n e blank_entry (omega arith)

  other : (e : Entry) (i : ℕ) → ¬ (i ≡ n) → get_or (set entries n e) i blank_entry ≡ get_or entries i blank_entry
  other e i d = get_or-set_other entries n i e blank_entry d

  -- what is no seal takes the place of what was none
  pub links_none : (e : Entry) → NoSeal (kind_at entries n) → NoSeal e.term → ShowsLinks links (set entries n e) (suc n)
  unfolding bucket_chain
  links_none e was is =
      record {
        codes_length = shown.codes_length;
        codes_shown = λ i h. shown.codes_shown i h ∙ sym (same code_of was.no_code is.no_code i);
        by_key =
            linked_none (ap (λ (x : Entry). under_chain x.term) (here e) ∙ is.no_chain)
            (linked_same (λ i h. sym (same under_chain was.no_chain is.no_chain i)) shown.by_key);
        by_bucket = linked_none (ap bucket_chain (shown.codes_shown n inside ∙ was.no_code)) shown.by_bucket;
      }
    where
      same : (f : Kind → ℕ) → f (kind_at entries n) ≡ 0 → f e.term ≡ 0 → (i : ℕ) →
          f (kind_at (set entries n e) i) ≡ f (kind_at entries i)
      same f a b i =
          by_cases (ℕ_discrete i n)
          (λ (q : i ≡ n). rw q (ap (λ (x : Entry). f x.term) (here e) ∙ b ∙ sym a))
          (λ d. ap (λ (x : Entry). f x.term) (other e i d))

  -- a seal is appended, and put into its chains
  pub links_more : (k : KeyNo) (p : TermNo) → k.0 < most_terms →
      ShowsLinks (linked links n k.0 p.0) (set entries n (seal_entry k p)) (suc n)
  unfolding code_of under_chain bucket_chain
  links_more k p small =
      record {
        codes_length = length-set links.codes n (seal_code k.0 p.0) ∙ shown.codes_length;
        codes_shown = codes;
        by_key =
            linked_more k.0 (ap (λ (x : Entry). under_chain x.term) (here e)) inside small
            (linked_same chains shown.by_key);
        by_bucket =
            linked_more (bucket (seal_code k.0 p.0)) (ap bucket_chain code_here) inside
            (bucket_inside (seal_code k.0 p.0))
            (linked_same buckets shown.by_bucket);
      }
    where
      e : Entry
      e = seal_entry k p

      code_here : get_or (set links.codes n (seal_code k.0 p.0)) n 0 ≡ seal_code k.0 p.0
      code_here = get_or-set_same links.codes n (seal_code k.0 p.0) 0 (omega (arith, shown.codes_length))

      code_other : (i : ℕ) → ¬ (i ≡ n) → get_or (set links.codes n (seal_code k.0 p.0)) i 0 ≡ get_or links.codes i 0
      code_other i d = get_or-set_other links.codes n i (seal_code k.0 p.0) 0 d

      codes : (i : ℕ) → i < most_terms →
          get_or (set links.codes n (seal_code k.0 p.0)) i 0 ≡ code_of (kind_at (set entries n e) i)
      codes i h =
          by_cases (ℕ_discrete i n)
          (λ (q : i ≡ n). rw q (code_here ∙ sym (ap (λ (x : Entry). code_of x.term) (here e))))
          (λ d. code_other i d ∙ shown.codes_shown i h ∙ sym (ap (λ (x : Entry). code_of x.term) (other e i d)))

      chains : (i : ℕ) → i < n → under_chain (kind_at entries i) ≡ under_chain (kind_at (set entries n e) i)
      chains i h = sym (ap (λ (x : Entry). under_chain x.term) (other e i (omega arith)))

      buckets : (i : ℕ) → i < n →
          bucket_chain (get_or links.codes i 0) ≡ bucket_chain (get_or (set links.codes n (seal_code k.0 p.0)) i 0)
      buckets i h = sym (ap bucket_chain (code_other i (omega arith)))
