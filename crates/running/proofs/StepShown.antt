-- A step of the code is the rules' step: what is decided on the view of a token that shows a reachable state can be applied, and the
-- token that it makes shows the rules' next state. Rests on Decided, Changed and ChangedRoom.
use Prim.Native.Nat.{ℕ, zero, suc, ◌≤◌}
use native.Mathlib.Omega.{arith}
use mathlib.Core.Path.{◌≡◌, refl, sym, ap, subst, ◌∙◌}
use mathlib.Core.Bool.{true, false}
use mathlib.Core.Option.{none}
use borrow.Author.Tests.{ltb-true, ltb-false}
use lib.Dec.{ltb}
use lib.ListN.{length, get_or, get_elem?, get_or-eq_default}
use Rattle.terms.proofs.Lists.{bool_cases}
use mathlib.Core.List.{List, [], ◌∷◌}
use Rattle.rules.specs.Templates.{Policy}
use Rattle.rules.specs.Commands.{Command}
use Rattle.rules.specs.State.{State, most_terms}
use Rattle.rules.specs.Changes.{after}
use Rattle.rules.specs.Runs.{outcome, step, Step, Reachable}
use Rattle.rules.specs.Computing.{judge}
use Rattle.rules.proofs.Done.{done}
use Rattle.rules.proofs.SoundKept.{sound}
use Rattle.rules.proofs.Judging.{judge_judges}
use Rattle.sheets.specs.Sheets.{Holdable}
use Rattle.sheets.specs.Reading.{read_policy}
use Rattle.std.specs.Prelude.{Result, Err}
use Rattle.shapes.specs.declared.Command.{Command as Stored}
use Rattle.deciding.specs.declared.Refusal.{Refusal}
use Rattle.running.specs.Said.{answer_of, value_of}
use Rattle.deciding.specs.declared.Change.{Change}
use Rattle.deciding.specs.Decisions.{Decision}
use Rattle.deciding.specs.declared.View.{View}
use Rattle.token.specs.declared.Token.{Token}
use Rattle.shapes.specs.declared.Entry.{Entry}
use Rattle.token.specs.Shows.{Shows, blank_entry, entry_of, entry_for, code_of}
use Rattle.shapes.specs.Commands.{stored_command}
use Rattle.deciding.specs.Decisions.{decided, number, refused_with}
use Rattle.running.specs.Views.{view_of, Findable}
use Rattle.running.specs.Applied.{Applicable, Applied}
use Rattle.running.specs.Direct.{ComesFrom, Reached, SteppedBy}
use Rattle.running.specs.Advance.{Stepped}
use Rattle.running.proofs.ChangeFor.{value_for}
use Rattle.running.proofs.DecidedBy.{refusal_for, Decides, policy_read}
use Rattle.running.proofs.Decided.{decides}
use Rattle.running.proofs.Changed.{changed}
use Rattle.running.proofs.ChangedRoom.{changed_room}

-- a token that shows the rules' next state, where the decision is what the rules answer
record StepMade (p : Policy) (s : State) (c : Command) (d : Decision) (r : Token) : Type 0 where
  pub next : State
  pub step : Step p s c (record { answer = d.answer; value = d.value }) next
  pub shows_next : Shows r next

-- what a decision of the rules makes of a token
record StepMakes (p : Policy) (s : State) (c : Command) (t : Token) (d : Decision) : Type 0 where
  pub applicable : Applicable t d.change
  pub steps : (r : Token) → Applied t d.change r → StepMade p s c d r

-- a number is 0 or not
zero_or : {C : Type 0} (n : ℕ) → (n ≡ 0 → C) → ((m : ℕ) → n ≡ suc m → C) → C
zero_or zero at_0 above = at_0 refl
zero_or (suc n) at_0 above = above n refl

module _ {p : Policy} {s : State} {c : Command} {t : Token} {d : Decision} (reach : Reachable p s) (shows : Shows t s)
    (by : Decides p s c d) where
  -- the outcome of the rules, where n is the first refusal
  outcome_is : (n : ℕ) → refusal_for p s c ≡ n → step p (judge s) s c ≡ outcome s c n
  unfolding step
  outcome_is n e = ap (outcome s c) e

  -- a step with this answer and value
  step_is : (n : ℕ) (v : ℕ) (next : State) → refusal_for p s c ≡ n
      → outcome s c n ≡ record { said = record { answer = n; value = v }; next = next }
      → d.answer ≡ n
      → d.value ≡ v
      → Step p s c (record { answer = d.answer; value = d.value }) next
  step_is n v next e o a w =
      record {
        held = judge s;
        judges = judge_judges (sound reach);
        is_step = rw (a, w) (outcome_is n e ∙ o);
      }

  when_done : refusal_for p s c ≡ 0 → StepMakes p s c t d
  unfolding outcome value_for
  when_done e =
      let allowed = done p (judge s) s.now c e in
      let (value, change) = by.done e in
      record {
        applicable =
            subst (Applicable t) (sym change)
            (changed_room p s c (judge s) (sound reach) (judge_judges (sound reach)) allowed t shows);
        steps =
            λ r applied.
            record {
              next = after s c;
              step = step_is 0 (value_for s c) (after s c) e refl (by.answers ∙ e) value;
              shows_next =
                  changed p s c (judge s) (sound reach) (judge_judges (sound reach)) allowed t r shows
                  (subst (λ (x : Change). Applied t x r) change applied);
            };
      }

  when_refused : (n : ℕ) → refusal_for p s c ≡ suc n → StepMakes p s c t d
  unfolding outcome Applied
  when_refused n e =
      let (value, change) = by.refused (λ z. omega (arith, e, z)) in
      record {
        applicable = subst (Applicable t) (sym change) tt;
        steps =
            λ r applied.
            let same : r ≡ t = subst (λ (x : Change). Applied t x r) change applied in
            record {
              next = s;
              step = step_is (suc n) 0 s e refl (by.answers ∙ e) value;
              shows_next = subst (λ (x : Token). Shows x s) (sym same) shows;
            };
      }

  step_makes : StepMakes p s c t d
  step_makes = zero_or (refusal_for p s c) when_done when_refused

-- past the end of a list nothing stands
past_none : {A : Type 0} (l : List A) (i : ℕ) → length l ≤ i → get_elem? l i ≡ none
past_none [] i h = refl
past_none (x ∷ l) zero h = absurd (omega arith)
past_none (x ∷ l) (suc i) h = past_none l i (omega arith)

-- the chains of the buckets of a token that shows a state lead to every code
blank_code : (entries : List Entry) (s : State) (i : ℕ) → get_or entries i blank_entry ≡ entry_of s i → length s.now.table ≤ i
    → code_of (get_or entries i blank_entry).term ≡ 0
unfolding entry_of entry_for code_of
blank_code entries s i e past =
    let none_there : get_elem? s.now.table i ≡ none = past_none s.now.table i past in
    rw e (rw none_there refl)

pub findable : {t : Token} {s : State} → Shows t s → Findable t.links.heads t.links.chain t.links.codes
findable {t} {s} shows =
    record {
      count = length s.now.table;
      few = shows.room;
      codes_length = shows.links_shown.codes_length;
      blank_past =
          λ i past.
          bool_cases (ltb i most_terms)
          (λ (q : ltb i most_terms ≡ true).
          shows.links_shown.codes_shown i (ltb-true _ _ q)
          ∙ blank_code t.table.entries s i (shows.entries_shown i (ltb-true _ _ q)) past)
          (λ (q : ltb i most_terms ≡ false).
          let far : most_terms ≤ i = ltb-false _ _ q in
          get_or-eq_default t.links.codes 0 (omega (arith, shows.links_shown.codes_length)));
      chained = shows.links_shown.by_bucket;
    }

module _ {token : Token} {policy : ℕ} {command : Stored} {seen : View} {d : Decision}
    (sees : seen ≡ view_of token.table token.hands token.links.codes command) (decides_so : d ≡ decided policy command seen)
    (low : policy ≤ 2) where
  -- what the code decides is what the rules decide, of each state that the token comes from
  makes : (p : Policy) (s : State) (c : Command) → ComesFrom token policy p s → Holdable c → command ≡ stored_command c → StepMakes p s c token d
  makes p s c comes holdable e =
      let same : read_policy policy ≡ p = ap read_policy (sym (comes.this_policy low)) ∙ policy_read p in
      let by = decides (sound comes.reachable) comes.shown policy same c holdable in
      let is : d ≡ decided policy (stored_command c) (view_of token.table token.hands token.links.codes (stored_command c)) =
      decides_so ∙ ap (decided policy command) sees
      ∙ ap (λ (x : Stored). decided policy x (view_of token.table token.hands token.links.codes x)) e in
      step_makes comes.reachable comes.shown (subst (Decides p s c) (sym is) by)

  pub step_applicable : Reached token policy → (c : Command) → Holdable c → command ≡ stored_command c → Applicable token d.change
  step_applicable reached c holdable e = (makes reached.under reached.state c reached.comes holdable e).applicable

  pub step_stepped : {r : Token} → Applied token d.change r → {said : Result ℕ Refusal} → answer_of said ≡ d.answer → value_of said ≡ d.value
      → (p : Policy) (s : State) (c : Command) → ComesFrom token policy p s → Holdable c → command ≡ stored_command c
      → SteppedBy p s c (record { token = r; said = said })
  step_stepped {r} applied answers values p s c comes holdable e =
      let by = (makes p s c comes holdable e).steps r applied in
      record { next = by.next; step = rw (answers, values) by.step; shows_next = by.shows_next }

-- a refusal says its number and value 0, and changes nothing
pub refused_stepped : {d : Decision} (t : Token) (r : Refusal) → refused_with (number r) ≡ d → Stepped d t t (Err r)
unfolding Applied
refused_stepped t r e =
    record {
      answers = ap (λ (d : Decision). d.answer) e;
      values = ap (λ (d : Decision). d.value) e;
      changes = subst (λ (d : Decision). Applied t d.change t) e refl;
    }
