-- The three demands, of the code's own calls: `Answered` is what the contract of `call` says of one call, and `Calls` are calls in
-- a row from the token that `fresh` gives, under one policy. This file can be read alone, beside specs/. Every proof is a citation.
use Prim.Native.Nat.{ℕ, ◌≤◌}
use mathlib.Core.Path.{◌≡◌, refl, sym, ap, subst, ◌∙◌}
use native.Mathlib.Omega.{arith}
use mathlib.Core.Logic.Iff
use mathlib.Core.Logic.{◌↔◌, ⊎_elim}
use mathlib.Core.Bool.{Bool, true, false}
use mathlib.Core.List.{List, []}
use Rattle.terms.specs.Lists.{◌∈◌}
use Rattle.terms.specs.Terms.{key}
use Rattle.rules.specs.Templates.{Policy, stp, stp+}
use Rattle.rules.specs.State.{State, live, fresh}
use Rattle.rules.specs.Runs.{Answer, ends, Reachable}
use Rattle.rules.specs.Known.{Known, IsCompromised, KnownList}
use Rattle.rules.proofs.Steps.{step_unique, answer_in_table, refused_leaves}
use Rattle.rules.proofs.SoundKept.{sound}
use Rattle.rules.proofs.KeyOrder.{keys_in_order}
use Rattle.rules.proofs.KnownCompromised.{stp_known, stp+_known}
use Rattle.rules.proofs.NoOwnHandle.{no_own_handle}
use Rattle.sheets.specs.Sheets.{policy_number}
use Rattle.token.specs.declared.Token.{Token}
use Rattle.running.specs.declared.Called.{Called}
use Rattle.token.specs.Shows.{Shows}
use Rattle.token.specs.Known.{blank_token, marked_keys}
use Rattle.running.specs.Said.{answer_of, value_of}
use Rattle.running.specs.Direct.{not_a_call, ComesFrom, Reached, CallAnswer, Answered}
use Rattle.token.proofs.Shown.{shows_unique, blank_shows}
use Rattle.running.proofs.Said.{said_unique}
use Rattle.running.proofs.CallsRun.{Direct, Calls, CallsRun, calls_run, commands_of}
use Rattle.token.proofs.KnownShown.{known_shown}

-- the state in which a fresh token is
fresh_reachable : (p : Policy) → Reachable p fresh
fresh_reachable p = record { commands = []; said = []; run = ends }

-- what is given back is determined: two results that meet the contract are equal
called_equal : (r r' : Called) → answer_of r.said ≡ answer_of r'.said → value_of r.said ≡ value_of r'.said → r.token ≡ r'.token → r ≡ r'
called_equal r r' a v t = let said = said_unique r.said r'.said a v in λ i. record { token = t i; said = said i }

one_answer : (token : Token) (p : Policy) (s : State) (number : ℕ) (body : List ℕ) (r r' : Called) (none : Bool)
    → CallAnswer none token p s number body r
    → CallAnswer none token p s number body r'
    → r ≡ r'
one_answer token p s number body r r' true a b =
    called_equal r r' (a.answers_1 ∙ sym b.answers_1) (a.no_value ∙ sym b.no_value) (a.same_token ∙ sym b.same_token)
one_answer token p s number body r r' false a b =
    let same = step_unique a.step b.step in
    called_equal r r' (ap (λ (x : Answer). x.answer) same.0) (ap (λ (x : Answer). x.value) same.0)
    (shows_unique a.shows_next (subst (Shows r'.token) (sym same.1) b.shows_next))

pub call_unique : {token : Token} {policy : ℕ} (number : ℕ) (body : List ℕ) (r r' : Called)
    → Reached token policy
    → Answered token policy number body r
    → Answered token policy number body r'
    → r ≡ r'
call_unique {token} {policy} number body r r' comes a b =
    one_answer token comes.under comes.state number body r r' (not_a_call policy number body)
    (a comes.under comes.state comes.comes)
    (b comes.under comes.state comes.comes)

-- Demand 1. "each command gets an answer from the fixed table": 0, or 1 to 11
in_the_table : (token : Token) (p : Policy) (s : State) (number : ℕ) (body : List ℕ) (r : Called) (none : Bool)
    → CallAnswer none token p s number body r
    → answer_of r.said ≤ 11
in_the_table token p s number body r true a = omega (arith, a.answers_1)
in_the_table token p s number body r false a =
    ⊎_elim (λ done. omega (arith, done)) (λ refused. refused.1) (answer_in_table a.step)

pub answer_from_the_table : {token : Token} {policy : ℕ} (number : ℕ) (body : List ℕ) (r : Called)
    → Reached token policy
    → Answered token policy number body r
    → answer_of r.said ≤ 11
answer_from_the_table {token} {policy} number body r comes a =
    in_the_table token comes.under comes.state number body r (not_a_call policy number body)
    (a comes.under comes.state comes.comes)

-- "A refused command gives value 0 and changes neither the token nor what the caller knows."
refusal : {token : Token} {policy : ℕ} {p : Policy} {s : State} (number : ℕ) (body : List ℕ) (r : Called) (none : Bool)
    → ComesFrom token policy p s
    → CallAnswer none token p s number body r
    → ¬ (answer_of r.said ≡ 0)
    → (value_of r.said ≡ 0) × (r.token ≡ token)
refusal number body r true comes a not_done = (a.no_value, a.same_token)
refusal number body r false comes a not_done =
    let left = refused_leaves a.step not_done in
    (left.0, shows_unique (subst (Shows r.token) left.1 a.shows_next) comes.shown)

pub refused_changes_nothing : {token : Token} {policy : ℕ} (number : ℕ) (body : List ℕ) (r : Called)
    → Reached token policy
    → Answered token policy number body r
    → ¬ (answer_of r.said ≡ 0)
    → (value_of r.said ≡ 0) × (r.token ≡ token)
refused_changes_nothing {policy = policy} number body r comes a =
    refusal number body r (not_a_call policy number body) comes.comes (a comes.under comes.state comes.comes)

-- Demands 2 and 3 speak of calls in a row from a fresh token under one policy
module _ (p : Policy) {ds : List Direct} {said : List Answer} {end : Token} (calls : Calls (policy_number p) blank_token ds said end) where
  -- Demand 2. "Each command is refused exactly when the rules of document 01 refuse it, with the number they give, and otherwise
  -- answers as they say": the answers are those of a run of the rules, with 1 for each call that is none, and the token at the
  -- end shows the state at the end
  pub calls_are_a_run : CallsRun p (policy_number p) fresh ds said end
  calls_are_a_run = calls_run p refl (fresh_reachable p) blank_shows calls

  end_reachable : Reachable p calls_are_a_run.state
  end_reachable =
      record { commands = commands_of (policy_number p) ds; said = calls_are_a_run.answers; run = calls_are_a_run.run }

  -- Demand 3. "From a fresh token, under one policy, after any run of commands, the list names each key the caller can work out,
  -- once, ascending, and no other."
  pub known_list : KnownList calls_are_a_run.state (marked_keys end.table.entries)
  known_list = known_shown calls_are_a_run.shows (sound end_reachable) (keys_in_order end_reachable)

-- "Under STP and STP+ these are exactly the corrupted keys, the caller's own, and keys the token wrapped, step by step, under one
-- of these."
listed_known : {s : State} {list : List ℕ} {k : ℕ} → KnownList s list → (k ∈ list) ↔ Known s k
listed_known known = (known.no_other, known.each)

pub listed_under_stp : {ds : List Direct} {said : List Answer} {end : Token} {k : ℕ}
    → (calls : Calls (policy_number stp) blank_token ds said end)
    → (k ∈ marked_keys end.table.entries) ↔ IsCompromised (calls_are_a_run stp calls).state k
listed_under_stp calls = Iff.trans (listed_known (known_list stp calls)) (stp_known (end_reachable stp calls))

pub listed_under_stp+ : {ds : List Direct} {said : List Answer} {end : Token} {k : ℕ}
    → (calls : Calls (policy_number stp+) blank_token ds said end)
    → (k ∈ marked_keys end.table.entries) ↔ IsCompromised (calls_are_a_run stp+ calls).state k
listed_under_stp+ calls = Iff.trans (listed_known (known_list stp+ calls)) (stp+_known (end_reachable stp+ calls))

-- "Under STP+, until a first key is corrupted, no live handle stands for a caller's key."
pub no_handle_for_an_own_key : {ds : List Direct} {said : List Answer} {end : Token} {k f : ℕ}
    → (calls : Calls (policy_number stp+) blank_token ds said end)
    → (calls_are_a_run stp+ calls).state.past.corrupted ≡ []
    → live k f ∈ (calls_are_a_run stp+ calls).state.now.handles
    → key k ∈ (calls_are_a_run stp+ calls).state.past.own
    → ⊥
no_handle_for_an_own_key calls = no_own_handle (end_reachable stp+ calls)
