-- What a token tells besides the answers to commands: the fresh token; the known keys of a token, which are its held keys, in the
-- order of the table; where a key comes from. Assumes nothing.
use Rattle.std.specs.Prelude.{ℕ, Option, Some, None, Result, Ok, Err, ◌*◌, ◌≡◌, Bool, true, false, ◌&&◌, cond, List, [], ◌∷◌, eqb, leb, length, replicate}
use Rattle.rules.specs.State.{most_handles, most_terms}
use Rattle.sheets.specs.Reports.{keys_bytes}
use Rattle.sheets.specs.Calls.{answer_number, over}
use Rattle.shapes.specs.declared.Term.{Term as Kind}
use Rattle.shapes.specs.declared.Term.TheVariants.{Data, Key, Seal}
use Rattle.shapes.specs.declared.Entry.{Entry}
use Rattle.token.specs.declared.Token.{Token}
use Rattle.token.specs.declared.Short.{Short}
use Rattle.token.specs.declared.Origin.{Origin}
use Rattle.token.specs.declared.Origin.TheVariants.{Generated, Own}
use Rattle.token.specs.Chains.{places}
use Rattle.token.specs.Shows.{blank_entry, blank_slot}
use Rattle.shapes.specs.Entries.{is_key_kind, key_of, is_held, is_own_entry}

-- the token of which everything is blank
abbrev pub blank_token : Token
blank_token =
    record {
      table = record { entries = replicate most_terms blank_entry; terms = 0; keys = 0 };
      links =
          record {
            newest = replicate places None;
            older = replicate places None;
            heads = replicate places None;
            chain = replicate places None;
            codes = replicate places 0;
          };
      hands = record { slots = replicate most_handles blank_slot; live = 0 ∷ 0 ∷ 0 ∷ 0 ∷ [] };
    }

-- an entry that is a held key
abbrev pub is_marked : Entry → Bool
is_marked e = is_key_kind e.term && is_held e

unfoldable pub marked_keys : List Entry → List ℕ
marked_keys [] = []
marked_keys (e ∷ list) = cond (is_key_kind e.term && is_held e) ((key_of e.term).0 ∷ marked_keys list) (marked_keys list)

-- the list of known keys into a buffer: written over its front where it has room, and not at all where it has none
abbrev pub listed_as : (fits : Bool) (count : ℕ) → Result ℕ Short
listed_as true count = Ok count
listed_as false count = Err (record {})

abbrev pub written_as : (fits : Bool) (keys buffer : List ℕ) → List ℕ
written_as true keys buffer = over (keys_bytes keys) buffer
written_as false keys buffer = buffer

-- this paper's number for each case: 0 with how many keys there are, 13 for a buffer that is too short
abbrev pub listed_number : Result ℕ Short → ℕ
listed_number (Ok count) = answer_number 0 count
listed_number (Err _) = answer_number 13 0

pub record ListedInto (keys before after : List ℕ) (r : Result ℕ Short) : Type 0 where
  pub answered : r ≡ listed_as (leb (2 * length keys) (length before)) (length keys)
  pub written : after ≡ written_as (leb (2 * length keys) (length before)) keys before

-- where key number k comes from: the token generated it, or it is the caller's own
unfoldable pub is_key_no : (k : ℕ) → Kind → Bool
is_key_no k Data = false
is_key_no k (Key j) = eqb j.0 k
is_key_no k (Seal j p) = false

unfoldable pub origin_of : (is_own : Bool) → Origin
origin_of true = Own
origin_of false = Generated

unfoldable pub origin_in : List Entry → (k : ℕ) → Option Origin
origin_in [] k = None
origin_in (e ∷ entries) k = cond (is_key_no k e.term) (Some (origin_of (is_own_entry e))) (origin_in entries k)
