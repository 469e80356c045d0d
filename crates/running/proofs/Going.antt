-- A fresh token comes from a fresh one by no calls, and a token that comes from one by earlier calls does so after the next call too:
-- what a program that makes one call after the other has to know. Rests on Shown and on rules' Prefixes.
use Prim.Native.Nat.{ℕ}
use mathlib.Core.Path.{refl, sym, subst}
use mathlib.Core.Bool.{Bool, true, false}
use mathlib.Core.List.{List, [], ◌∷◌, ◌++◌}
use Rattle.rules.specs.Templates.{Policy}
use Rattle.rules.specs.Commands.{Command}
use Rattle.rules.specs.State.{State, fresh}
use Rattle.rules.specs.Runs.{Answer, Step, ends, then, Reachable}
use Rattle.rules.proofs.Prefixes.{run_append}
use Rattle.sheets.specs.Sheets.{policy_number}
use Rattle.token.specs.declared.Token.{Token}
use Rattle.running.specs.declared.Called.{Called}
use Rattle.token.specs.Known.{blank_token}
use Rattle.running.specs.Direct.{not_a_call, ComesFrom, Reached, CallAnswer, Answered}
use Rattle.token.proofs.Shown.{blank_shows}

-- a fresh token comes from a fresh one, by no calls, under each policy
pub comes_fresh : (p : Policy) → ComesFrom blank_token (policy_number p) p fresh
comes_fresh p =
    record {
      reachable = record { commands = []; said = []; run = ends };
      shown = blank_shows;
      this_policy = λ low. refl;
    }

pub reached_fresh : (p : Policy) → Reached blank_token (policy_number p)
reached_fresh p = record { under = p; state = fresh; comes = comes_fresh p }

-- one more command from a reachable state leads to a reachable state
pub reachable_next : {p : Policy} {s next : State} {c : Command} {a : Answer} → Reachable p s → Step p s c a next → Reachable p next
reachable_next {c = c} {a} r st =
    record { commands = r.commands ++ c ∷ []; said = r.said ++ a ∷ []; run = run_append r.run (then st ends) }

-- after a call the token comes from a fresh one still
comes_again : {token : Token} {policy : ℕ} {p : Policy} {s : State} (number : ℕ) (body : List ℕ) (r : Called) (is_none : Bool)
    → ComesFrom token policy p s
    → CallAnswer is_none token p s number body r
    → Reached r.token policy
comes_again {policy = policy} {p} {s} number body r true comes e =
    subst (λ (t : Token). Reached t policy) (sym e.same_token) (record { under = p; state = s; comes = comes })
comes_again {p = p} number body r false comes st =
    record {
      under = p;
      state = st.next;
      comes =
          record {
            reachable = reachable_next comes.reachable st.step;
            shown = st.shows_next;
            this_policy = comes.this_policy;
          };
    }

pub reached_again : {token : Token} {policy : ℕ} (number : ℕ) (body : List ℕ) (r : Called)
    → Reached token policy
    → Answered token policy number body r
    → Reached r.token policy
reached_again {policy = policy} number body r before answered =
    comes_again number body r (not_a_call policy number body) before.comes (answered before.under before.state before.comes)
