-- The commands of a sheet, run on a token where it stands: what holds after each, and how the next goes on. Rests on StepShown.
use Prim.Native.Nat.{ℕ, zero, suc, ◌+◌, ◌*◌, ◌≤◌, ◌<◌}
use mathlib.Core.Path.{◌≡◌, refl, sym, ◌∙◌, ap, subst}
use mathlib.Core.List.{List, [], ◌∷◌, ◌++◌}
use native.Mathlib.Omega.{arith}
use native.Mathlib.Numerals.{add-one}
use lib.ListN.{length, length-set, length-append}
use Rattle.rules.specs.Templates.{Policy}
use Rattle.rules.specs.Commands.{Command}
use Rattle.rules.specs.State.{State}
use Rattle.rules.specs.Runs.{Answer, Run, ends, then, Reachable}
use Rattle.rules.proofs.Prefixes.{run_append, one_answer_each}
use Rattle.sheets.specs.Bytes.{Bytes}
use Rattle.sheets.specs.Sheets.{Holdable}
use Rattle.sheets.specs.Reports.{records_bytes}
use Rattle.sheets.specs.Calls.{over}
use Rattle.sheets.specs.Reading.{read_commands}
use Rattle.sheets.proofs.Faultless.{none_faultless}
use Rattle.sheets.proofs.Walks.{command_at, command_holdable}
use Rattle.std.specs.Prelude.{Option, Some, None, Result, IsSome}
use Rattle.shapes.specs.declared.Command.{Command as Stored}
use Rattle.shapes.specs.declared.Command.TheVariants.{OwnKey}
use Rattle.shapes.specs.declared.SheetEntry.{SheetEntry}
use Rattle.deciding.specs.declared.Refusal.{Refusal}
use Rattle.reader.specs.Reader.{entry_at}
use Rattle.shapes.specs.Commands.{stored_command}
use Rattle.token.specs.declared.Token.{Token}
use Rattle.running.specs.Direct.{ComesFrom, Reached}
use Rattle.reader.proofs.GoodEntries.{good_entry}
use Rattle.running.specs.Said.{answer_of, value_of}
use Rattle.running.specs.Advance.{record_put, decision_on, CanStep, Stepped, RunAsks, Ran}
use Rattle.running.proofs.StepShown.{findable, step_applicable, step_stepped}
use Rattle.running.proofs.RecordsWritten.{written_next}

-- a run from a reachable state ends in one
run_reachable : {p : Policy} {s end : State} {cs : List Command} {said : List Answer} → Reachable p s → Run p s cs said end → Reachable p end
run_reachable {cs = cs} {said} r run = record { commands = r.commands ++ cs; said = r.said ++ said; run = run_append r.run run }

read_length : (s : List ℕ) (n : ℕ) → length (read_commands s n) ≡ n
unfolding read_commands
read_length s zero = refl
read_length s (suc n) = length-append (read_commands s n) _ ∙ ap (λ (k : ℕ). k + 1) (read_length s n) ∙ add-one n

-- the command of an entry, where there is one
abbrev command_of : Option SheetEntry → Stored
command_of (Some entry) = entry.command
command_of None = OwnKey

-- after i commands
pub record AdvancedTo (policy : ℕ) (s : List ℕ) (n : ℕ) (before : List ℕ) (start : Token) (i : ℕ) (records : List ℕ) (t : Token) : Type 0 where
  pub asks : RunAsks start policy s n before
  pub bytes : Bytes s
  pub within : i ≤ n
  pub same_length : length records ≡ length before
  pub so_far : Ran start policy s i before records t

-- before the first
pub advance_begins : {policy : ℕ} {s : List ℕ} {n : ℕ} {before : List ℕ} {start : Token} → RunAsks start policy s n before → Bytes s
    → AdvancedTo policy s n before start 0 before start
unfolding read_commands records_bytes over
advance_begins {before = before} asks bytes =
    record {
      asks = asks;
      bytes = bytes;
      within = omega arith;
      same_length = refl;
      so_far = λ p state comes. record { said = []; end = state; run = ends; shows_end = comes.shown; written = refl };
    }

module _ {policy : ℕ} {s : List ℕ} {n : ℕ} {before : List ℕ} {start : Token} {i : ℕ} {records : List ℕ} {t : Token}
    (adv : AdvancedTo policy s n before start i records t) where
  -- the token comes from a fresh one still
  goes_on : (p : Policy) (state : State) → (comes : ComesFrom start policy p state)
      → ComesFrom t policy p (adv.so_far p state comes).end
  goes_on p state comes =
      let ran = adv.so_far p state comes in
      record { reachable = run_reachable comes.reachable ran.run; shown = ran.shows_end; this_policy = comes.this_policy }

  pub still_reached : Reached t policy
  still_reached =
      let r = adv.asks.reached in
      record { under = r.under; state = (adv.so_far r.under r.state r.comes).end; comes = goes_on r.under r.state r.comes }

  -- at the end all commands are run
  pub all_run : n ≤ i → Ran start policy s n before records t
  all_run h =
      let done : i ≡ n = omega (arith, adv.within) in
      subst (λ (k : ℕ). Ran start policy s k before records t) done adv.so_far

  -- the next command's record has room
  module _ (more : i < n) where
    room : 3 * i + 3 ≤ length before
    room = omega (arith, more, adv.asks.room)

    -- the next entry is there
    pub entry_there : IsSome (entry_at s i)
    entry_there = rw (good_entry s i adv.asks.good (omega (arith, more, adv.asks.counted))) refl

    -- the next command, stepped
    module _ {entry : SheetEntry} (is : Some entry ≡ entry_at s i) where
      -- the entry states the command that is read there
      is_command : entry.command ≡ stored_command (command_at s i)
      is_command = ap command_of (is ∙ good_entry s i adv.asks.good (omega (arith, more, adv.asks.counted)))

      holdable : Holdable (command_at s i)
      holdable =
          let good = (none_faultless s).0 adv.asks.good in
          command_holdable s adv.bytes good.header.table_inside i
          (good.entries i (omega (arith, more, adv.asks.counted)))

      pub next_steps : CanStep (decision_on policy entry.command t) t
      next_steps =
          record {
            findable = findable still_reached.comes.shown;
            applicable = step_applicable refl refl adv.asks.low still_reached (command_at s i) holdable is_command;
          }

      module _ {r : Token} {said : Result ℕ Refusal} (by : Stepped (decision_on policy entry.command t) t r said) where
        ran_next : Ran start policy s (suc i) before (record_put records i (answer_of said) (value_of said)) r
        unfolding read_commands
        ran_next p state comes =
            let ran = adv.so_far p state comes in
            let st = step_stepped refl refl adv.asks.low by.changes by.answers by.values p ran.end (command_at s i)
            (goes_on p state comes) holdable is_command in
            let a : Answer = record { answer = answer_of said; value = value_of said } in
            let counted : length ran.said ≡ i = one_answer_each ran.run ∙ read_length s i in
            record {
              said = ran.said ++ a ∷ [];
              end = st.next;
              run = run_append ran.run (then st.step ends);
              shows_end = st.shows_next;
              written = rw ran.written (written_next ran.said before i (answer_of said) (value_of said) counted room);
            }

        -- and its record put
        pub advance_on : {after : List ℕ} → after ≡ record_put records i (answer_of said) (value_of said)
            → AdvancedTo policy s n before start (i + 1) after r
        advance_on wrote =
            record {
              asks = adv.asks;
              bytes = adv.bytes;
              within = omega (arith, more);
              same_length = rw wrote (simp length-set adv.same_length);
              so_far =
                  rw wrote
                  (subst
                  (λ (k : ℕ). Ran start policy s k before (record_put records i (answer_of said) (value_of said)) r)
                  (sym (add-one i)) ran_next);
            }
