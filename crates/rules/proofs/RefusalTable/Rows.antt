-- The table of refusals: for each command and each number that it can answer, a state and a command that answers it, for each single
-- test one where nothing else is wrong; then which of two is answered; then what a command leaves behind it. The number is followed
-- by the value; "a refusal has value 0". Rests on the definitions alone.
use Prim.Native.Nat.{ℕ, zero, suc, ◌+◌}
use mathlib.Core.Bool.{cond}
use mathlib.Core.List.{List, [], ◌∷◌, ◌++◌, map}
use Rattle.terms.specs.Lists.{is_in}
use Rattle.rules.specs.Templates.{Policy, plain, stp, stp+}
use Rattle.rules.specs.Commands.{Command, GENERATE, WRAP, UNWRAP, ENCRYPT, DECRYPT, CORRUPT, DESTROY, OWN_KEY, OWN_DATA, SEAL}
use Rattle.rules.proofs.RefusalTable.Scenes.{Scene, ◌then◌, small, all_held, nothing_done, one_handle_left, all_handles}
use Rattle.rules.proofs.RefusalTable.Scenes.{one_term_left, all_terms, all_of_both}
use Rattle.rules.proofs.RefusalTable.Scenes.{all_flags, only_W, but_W, only_U, but_U, a_dead, only_E, but_E, only_D}
use Rattle.rules.proofs.RefusalTable.Scenes.{but_D, only_X, but_X, X_and_N, W_and_T, but_T, an_item, key_0, key_1, own_key}
use Rattle.rules.proofs.RefusalTable.Scenes.{key_1_under_0, item_under_0, own_under_own, no_term, no_term_1024}

-- under each of these policies, in this scene, the command answers this number with this value
pub data Row : Type 0 where
  row : List Policy → Scene → Command → (answer value : ℕ) → Row

abbrev in_all : List Policy
in_all = plain ∷ stp ∷ stp+ ∷ []

abbrev in_plain : List Policy
in_plain = plain ∷ []

abbrev in_stp : List Policy
in_stp = stp ∷ []

abbrev in_stp+ : List Policy
in_stp+ = stp+ ∷ []

abbrev not_stp+ : List Policy
not_stp+ = plain ∷ stp ∷ []

abbrev not_plain : List Policy
not_plain = stp ∷ stp+ ∷ []

-- the flag bytes 0 to 127, save those of a list
unfoldable below_but : ℕ → List ℕ → List ℕ
below_but zero list = []
below_but (suc n) list = cond (is_in n list) [] (n ∷ []) ++ below_but n list

abbrev all_but : List ℕ → List ℕ
all_but list = below_but 128 list

-- and 128 to 255
unfoldable above_127 : List ℕ
unfolding below_but
above_127 = map (λ f. 128 + f) (all_but [])

-- a command with each flag byte of a list, in the small scene
unfoldable with_each : List ℕ → List Policy → (ℕ → Command) → (answer value : ℕ) → List Row
with_each bytes policies command answer value = map (λ f. row policies small (command f) answer value) bytes

-- UNWRAP with a flag byte that the policy grants
unfoldable unwrap : Scene → (h t answer value : ℕ) → List Row
unwrap at h t answer value =
    row not_stp+ at (UNWRAP h t 22) answer value ∷ row in_stp+ at (UNWRAP h t 54) answer value ∷ []

unfoldable generate_rows : List Row
generate_rows =
    -- done: the lowest number not live
    with_each (all_but []) in_plain GENERATE 0 5
    ++ with_each (12 ∷ 28 ∷ 3 ∷ 19 ∷ []) in_stp GENERATE 0 5
    ++ with_each (67 ∷ 51 ∷ 28 ∷ []) in_stp+ GENERATE 0 5
    ++ row in_all one_handle_left (GENERATE 28) 0 255
    ∷ row in_all one_term_left (GENERATE 28) 0 5
    ∷ []
    -- 2, 5; no policy grants a byte that holds 128
    ++ with_each above_127 in_all GENERATE 2 0
    ++ with_each (all_but (12 ∷ 28 ∷ 3 ∷ 19 ∷ [])) in_stp GENERATE 5 0
    ++ with_each (all_but (67 ∷ 51 ∷ 28 ∷ [])) in_stp+ GENERATE 5 0
    -- 10, 11
    ++ row in_all all_handles (GENERATE 28) 10 0
    ∷ row in_all all_terms (GENERATE 28) 11 0
    ∷ []

unfoldable wrap_rows : List Row
wrap_rows =
    -- done: a new seal, or the number of its equal
    row in_all small (WRAP only_W only_X) 0 8
    ∷ row in_all small (WRAP all_flags only_X) 0 key_1_under_0
    ∷ row in_all small (WRAP but_T only_X) 0 key_1_under_0
    ∷ row in_all small (WRAP W_and_T X_and_N) 0 8
    ∷ row in_all all_handles (WRAP only_W only_X) 0 8
    ∷ row in_all one_term_left (WRAP only_W only_X) 0 1023
    ∷ row in_all all_terms (WRAP all_flags only_X) 0 key_1_under_0
    -- 3: a, b
    ∷ row in_all small (WRAP a_dead only_X) 3 0
    ∷ row in_all small (WRAP only_W a_dead) 3 0
    -- 6: no W on a, no X on b, N on b and no T on a (though T be on b)
    ∷ row in_all small (WRAP but_W only_X) 6 0
    ∷ row in_all small (WRAP all_flags but_X) 6 0
    ∷ row in_all small (WRAP but_T X_and_N) 6 0
    ∷ row in_all small (WRAP but_T all_flags) 6 0
    -- 11
    ∷ row in_all all_terms (WRAP only_W only_X) 11 0
    ∷ []

unfoldable unwrap_rows : List Row
unwrap_rows =
    -- done: the lowest number not live; no term is new
    with_each (all_but []) in_plain (UNWRAP only_U key_1_under_0) 0 5
    ++ with_each (22 ∷ []) in_stp (UNWRAP only_U key_1_under_0) 0 5
    ++ with_each (54 ∷ []) in_stp+ (UNWRAP only_U key_1_under_0) 0 5
    ++ unwrap one_handle_left only_U key_1_under_0 0 255
    ++ unwrap all_terms only_U key_1_under_0 0 5
    -- 2, 3, 4, 5, 6
    ++ with_each above_127 in_all (UNWRAP only_U key_1_under_0) 2 0
    ++ unwrap small a_dead key_1_under_0 3 0
    ++ unwrap small only_U no_term 4 0
    ++ with_each (all_but (22 ∷ [])) in_stp (UNWRAP only_U key_1_under_0) 5 0
    ++ with_each (all_but (54 ∷ [])) in_stp+ (UNWRAP only_U key_1_under_0) 5 0
    ++ unwrap small but_U key_1_under_0 6 0
    -- 7: "only a key can meet 7", and no key is a seal
    ++ unwrap small only_U key_1 7 0
    -- 8: a data item, a key, a seal under another key, a seal of what is no key
    ++ unwrap small only_U an_item 8 0
    ++ unwrap small only_U own_key 8 0
    ++ unwrap small only_U own_under_own 8 0
    ++ unwrap small only_U item_under_0 8 0
    -- 10
    ++ unwrap all_handles only_U key_1_under_0 10 0

unfoldable encrypt_rows : List Row
encrypt_rows =
    -- done: a new seal, or the number of its equal
    row in_all small (ENCRYPT only_E an_item) 0 item_under_0
    ∷ row in_all small (ENCRYPT only_E key_1_under_0) 0 8
    ∷ row not_stp+ small (ENCRYPT only_E own_key) 0 8
    ∷ row in_all all_handles (ENCRYPT only_E key_1_under_0) 0 8
    ∷ row in_all one_term_left (ENCRYPT only_E key_1_under_0) 0 1023
    ∷ row in_all all_terms (ENCRYPT only_E an_item) 0 item_under_0
    -- 3, 4, 6, 7, 9, 11
    ∷ row in_all small (ENCRYPT a_dead an_item) 3 0
    ∷ row in_all small (ENCRYPT only_E no_term) 4 0
    ∷ row in_all small (ENCRYPT but_E an_item) 6 0
    ∷ row not_stp+ small (ENCRYPT only_E key_1) 7 0
    ∷ row in_stp+ small (ENCRYPT only_E own_key) 9 0
    ∷ row in_all all_terms (ENCRYPT only_E key_1_under_0) 11 0
    ∷ []

unfoldable decrypt_rows : List Row
decrypt_rows =
    -- done: the payload
    row in_all small (DECRYPT only_D item_under_0) 0 an_item
    ∷ row in_all small (DECRYPT only_D key_1_under_0) 0 key_1
    ∷ row in_all all_handles (DECRYPT only_D item_under_0) 0 an_item
    ∷ row in_all all_terms (DECRYPT only_D item_under_0) 0 an_item
    -- 3, 4, 6, 7
    ∷ row in_all small (DECRYPT a_dead item_under_0) 3 0
    ∷ row in_all small (DECRYPT only_D no_term) 4 0
    ∷ row in_all small (DECRYPT but_D item_under_0) 6 0
    ∷ row in_all small (DECRYPT only_D key_1) 7 0
    -- 8: a data item, a key, a seal under another key
    ∷ row in_all small (DECRYPT only_D an_item) 8 0
    ∷ row in_all small (DECRYPT only_D own_key) 8 0
    ∷ row in_all small (DECRYPT only_D own_under_own) 8 0
    ∷ []

-- CORRUPT and DESTROY: done, whatever the flags are, and 3
unfoldable handle_rows : List Row
handle_rows =
    row in_all small (CORRUPT only_X) 0 key_1
    ∷ row in_all small (CORRUPT only_W) 0 key_1
    ∷ row in_all all_handles (CORRUPT only_X) 0 key_1
    ∷ row in_all all_terms (CORRUPT only_X) 0 key_1
    ∷ row in_all small (CORRUPT a_dead) 3 0
    ∷ row in_all small (DESTROY only_X) 0 only_X
    ∷ row in_all small (DESTROY only_W) 0 only_W
    ∷ row in_all all_handles (DESTROY only_X) 0 only_X
    ∷ row in_all all_terms (DESTROY only_X) 0 only_X
    ∷ row in_all small (DESTROY a_dead) 3 0
    ∷ []

-- OWN KEY and OWN DATA: done, and 11
unfoldable own_rows : List Row
own_rows =
    row in_all small OWN_KEY 0 8
    ∷ row in_all all_handles OWN_KEY 0 8
    ∷ row in_all one_term_left OWN_KEY 0 1023
    ∷ row in_all all_terms OWN_KEY 11 0
    ∷ row in_all small OWN_DATA 0 8
    ∷ row in_all all_handles OWN_DATA 0 8
    ∷ row in_all one_term_left OWN_DATA 0 1023
    ∷ row in_all all_terms OWN_DATA 11 0
    ∷ []

unfoldable seal_rows : List Row
seal_rows =
    -- done: a new seal, or the number of its equal
    row in_all small (SEAL own_key an_item) 0 8
    ∷ row in_all small (SEAL own_key own_key) 0 own_under_own
    ∷ row in_all small (SEAL own_key key_1_under_0) 0 8
    ∷ row in_all all_handles (SEAL own_key an_item) 0 8
    ∷ row in_all one_term_left (SEAL own_key an_item) 0 1023
    ∷ row in_all all_terms (SEAL own_key own_key) 0 own_under_own
    -- 4, 7: the first, the second
    ∷ row in_all small (SEAL no_term own_key) 4 0
    ∷ row in_all small (SEAL own_key no_term) 4 0
    ∷ row in_all small (SEAL key_1 own_key) 7 0
    ∷ row in_all small (SEAL own_key key_1) 7 0
    -- 8: a data item, a seal
    ∷ row in_all small (SEAL an_item own_key) 8 0
    ∷ row in_all small (SEAL own_under_own own_key) 8 0
    -- 11
    ∷ row in_all all_terms (SEAL own_key an_item) 11 0
    ∷ []

-- "If several of 1 to 11 apply to a command, the smallest is answered": for each two that can both apply
unfoldable order_rows : List Row
order_rows =
    -- 2 before 3, 4, 6, 7, 8, 10 (two commands), 11 (and 5, above)
    row in_all small (UNWRAP a_dead key_1_under_0 128) 2 0
    ∷ row in_all small (UNWRAP only_U no_term 128) 2 0
    ∷ row in_all small (UNWRAP but_U key_1_under_0 128) 2 0
    ∷ row in_all small (UNWRAP only_U key_1 128) 2 0
    ∷ row in_all small (UNWRAP only_U an_item 128) 2 0
    ∷ row in_all all_handles (GENERATE 128) 2 0
    ∷ row in_all all_handles (UNWRAP only_U key_1_under_0 128) 2 0
    ∷ row in_all all_terms (GENERATE 128) 2 0
    -- 3 before 4 (three commands), 5, 6, 7 (three), 8 (two), 9, 11 (two); no handle is dead where 256 are live
    ∷ row in_all small (UNWRAP a_dead no_term 22) 3 0
    ∷ row in_all small (ENCRYPT a_dead no_term) 3 0
    ∷ row in_all small (DECRYPT a_dead no_term) 3 0
    ∷ row not_plain small (UNWRAP a_dead key_1_under_0 28) 3 0
    ∷ row in_all small (WRAP but_W a_dead) 3 0
    ∷ row in_all small (UNWRAP a_dead key_1 22) 3 0
    ∷ row in_all small (ENCRYPT a_dead key_1) 3 0
    ∷ row in_all small (DECRYPT a_dead key_1) 3 0
    ∷ row in_all small (UNWRAP a_dead an_item 22) 3 0
    ∷ row in_all small (DECRYPT a_dead an_item) 3 0
    ∷ row in_stp+ small (ENCRYPT a_dead own_key) 3 0
    ∷ row in_all all_terms (WRAP only_W a_dead) 3 0
    ∷ row in_all all_terms (ENCRYPT a_dead key_1_under_0) 3 0
    -- 4 before 5, 6 (three commands), 7 (here and above, for nothing past the end is held), 8, 10, 11 (two commands)
    ∷ row not_plain small (UNWRAP only_U no_term 28) 4 0
    ∷ row not_stp+ small (UNWRAP but_U no_term 22) 4 0
    ∷ row in_all small (ENCRYPT but_E no_term) 4 0
    ∷ row in_all small (DECRYPT but_D no_term) 4 0
    ∷ row in_all small (SEAL key_1 no_term) 4 0
    ∷ row in_all small (SEAL an_item no_term) 4 0
    ∷ row not_stp+ all_handles (UNWRAP only_U no_term 22) 4 0
    ∷ row in_all all_terms (ENCRYPT but_X no_term_1024) 4 0
    ∷ row in_all all_terms (SEAL no_term_1024 own_key) 4 0
    ∷ row in_all all_terms (SEAL own_key no_term_1024) 4 0
    -- 5 before 6, 7, 8, 10 (two commands), 11
    ∷ row not_plain small (UNWRAP but_U key_1_under_0 28) 5 0
    ∷ row not_plain small (UNWRAP only_U key_1 28) 5 0
    ∷ row not_plain small (UNWRAP only_U an_item 28) 5 0
    ∷ row not_plain all_handles (GENERATE 22) 5 0
    ∷ row not_plain all_handles (UNWRAP only_U key_1_under_0 28) 5 0
    ∷ row not_plain all_terms (GENERATE 22) 5 0
    -- 6 before 7 (three commands), 8 (two), 9, 10, 11 (two)
    ∷ row not_stp+ small (UNWRAP but_U key_1 22) 6 0
    ∷ row in_all small (ENCRYPT but_E key_1) 6 0
    ∷ row in_all small (DECRYPT but_D key_1) 6 0
    ∷ row not_stp+ small (UNWRAP but_U an_item 22) 6 0
    ∷ row in_all small (DECRYPT but_D an_item) 6 0
    ∷ row in_stp+ small (ENCRYPT but_E own_key) 6 0
    ∷ row not_stp+ all_handles (UNWRAP but_U key_1_under_0 22) 6 0
    ∷ row in_all all_terms (WRAP only_W X_and_N) 6 0
    ∷ row in_all all_terms (ENCRYPT but_E key_1_under_0) 6 0
    -- 7 before 8 (and UNWRAP and DECRYPT, above), 9, 10, 11 (two commands)
    ∷ row in_all small (SEAL an_item key_1) 7 0
    ∷ row in_stp+ small (ENCRYPT only_E key_1) 7 0
    ∷ row not_stp+ all_handles (UNWRAP only_U key_1 22) 7 0
    ∷ row in_all all_terms (ENCRYPT but_X key_1) 7 0
    ∷ row in_all all_terms (SEAL own_key key_1) 7 0
    -- 8 before 10, 11
    ∷ row not_stp+ all_handles (UNWRAP only_U an_item 22) 8 0
    ∷ row in_all all_terms (SEAL own_under_own own_key) 8 0
    -- 9 before 11, 10 before 11
    ∷ row in_stp+ all_terms (ENCRYPT only_E own_key) 9 0
    ∷ row in_all all_of_both (GENERATE 28) 10 0
    ∷ []

-- what a command leaves behind it, told by the answer of the next
unfoldable next_rows : List Row
next_rows =
    -- a new handle stands for its key and carries its flags
    row in_all (small then GENERATE 28) (CORRUPT 5) 0 8
    ∷ row in_all (small then GENERATE 28) (ENCRYPT 5 an_item) 0 9
    ∷ row in_all (small then GENERATE 3) (ENCRYPT 5 an_item) 6 0
    ∷ row in_all (small then UNWRAP only_U key_1_under_0 28) (CORRUPT 5) 0 key_1
    ∷ row in_all (small then UNWRAP only_U key_1_under_0 28) (ENCRYPT 5 an_item) 0 8
    ∷ row in_all (small then UNWRAP only_U key_1_under_0 3) (ENCRYPT 5 an_item) 6 0
    -- a live number is not given again; a destroyed one is dead and is given again, and the key's other handles live on
    ∷ row in_all (small then GENERATE 28) (GENERATE 28) 0 15
    ∷ row in_all (one_handle_left then GENERATE 28) (GENERATE 28) 10 0
    ∷ row in_all (small then DESTROY only_X) (CORRUPT only_X) 3 0
    ∷ row in_all (small then DESTROY only_X) (CORRUPT but_X) 0 key_1
    ∷ row in_all (small then DESTROY only_W) (GENERATE 28) 0 only_W
    ∷ row in_all (all_handles then DESTROY 200) (GENERATE 28) 0 200
    -- keys count on together, data items by themselves, and an equal term is not entered twice
    ∷ row in_all (small then OWN_KEY) OWN_KEY 0 9
    ∷ row in_all (small then OWN_KEY then GENERATE 28) (CORRUPT 5) 0 9
    ∷ row in_all (small then OWN_DATA) OWN_DATA 0 9
    ∷ row in_all (one_term_left then OWN_DATA) OWN_DATA 11 0
    ∷ row in_all (small then WRAP only_W only_X) (WRAP only_W only_X) 0 8
    ∷ row in_all (small then ENCRYPT only_E own_under_own) (DECRYPT only_D 8) 0 own_under_own
    ∷ row in_all (small then SEAL own_key an_item) OWN_DATA 0 9
    ∷ row in_all (small then SEAL own_key own_key) OWN_DATA 0 8
    ∷ row in_all (small then CORRUPT only_X) OWN_DATA 0 8
    -- "A seal is the same symbol for wrapping and for encryption", and where the caller seals; the first term named is the key
    ∷ row not_stp+ all_held (ENCRYPT only_E key_1) 0 key_1_under_0
    ∷ row in_all all_held (SEAL key_0 key_1) 0 key_1_under_0
    ∷ row in_all all_held (SEAL key_1 key_0) 0 8
    ∷ row in_all (nothing_done then OWN_KEY then OWN_DATA) (SEAL 0 1) 0 2
    ∷ row in_all (nothing_done then OWN_KEY then OWN_DATA then SEAL 0 1) (SEAL 0 1) 0 2
    ∷ row in_all (nothing_done then OWN_KEY then OWN_DATA then SEAL 0 1) (SEAL 1 0) 8 0
    -- a refused command leaves nothing
    ∷ row in_all (small then GENERATE 128) (GENERATE 28) 0 5
    ∷ row in_all (small then WRAP but_W all_flags) OWN_DATA 0 8
    ∷ row in_all (small then SEAL own_key key_1) OWN_DATA 0 8
    ∷ []

unfoldable pub rows : List Row
unfolding below_but above_127 with_each unwrap generate_rows wrap_rows unwrap_rows encrypt_rows decrypt_rows handle_rows own_rows seal_rows
    order_rows next_rows
rows =
    generate_rows
    ++ wrap_rows
    ++ unwrap_rows
    ++ encrypt_rows
    ++ decrypt_rows
    ++ handle_rows
    ++ own_rows
    ++ seal_rows
    ++ order_rows
    ++ next_rows
