-- A step has one answer and one next state, and so has a run: two judges of one state are the same test. A step does what its
-- command does, or refuses and leaves all as it was, never both. Rests on Done and FirstRefusal.
use Prim.Native.Nat.{ℕ, zero, suc, ◌≤◌}
use mathlib.Core.Path.{◌≡◌, refl, sym, ap, subst, ◌∙◌, fun_ext}
use mathlib.Core.Logic.{◌↔◌, ◌⊎◌, inl, inr, ⊎_elim}
use mathlib.Core.Bool.{Bool, true, false}
use mathlib.Core.List.{List}
use native.Mathlib.Omega.{arith}
use Rattle.rules.specs.Templates.{Policy}
use Rattle.rules.specs.Commands.{Command}
use Rattle.rules.specs.State.{State}
use Rattle.rules.specs.Changes.{answers, after}
use Rattle.rules.specs.Refusals.{refusals, first}
use Rattle.rules.specs.Runs.{Answer, Outcome, number_in, outcome, step, Judge, Step, Run, ends, then}
use Rattle.rules.proofs.Done.{Done, done}
use Rattle.rules.proofs.FirstRefusal.{NoneApplies, FirstRefusal, first_answered, first_is_smallest, in_table}

-- two tests that say yes alike are one test
agree : (a b : Bool) → (a ≡ true → b ≡ true) → (b ≡ true → a ≡ true) → a ≡ b
agree true b f g = sym (f refl)
agree false true f g = g refl
agree false false f g = refl

-- two judges of one state are equal
pub judges_equal : {s : State} {h h' : ℕ → Bool} → Judge s h → Judge s h' → h ≡ h'
judges_equal j j' = fun_ext (λ t. agree _ _ (λ e. (j' t).1 ((j t).0 e)) (λ e. (j t).1 ((j' t).0 e)))

module _ {p : Policy} where
  -- a step is what the rules say under any judge of the state
  pub step_under : {s n : State} {c : Command} {a : Answer} {h : ℕ → Bool} → Step p s c a n → Judge s h →
      step p h s c ≡ record { said = a; next = n }
  step_under {s} {c = c} st j = ap (λ (h : ℕ → Bool). step p h s c) (judges_equal j st.judges) ∙ st.is_step

  -- a command has one answer, and leads to one state
  pub step_unique : {s n n' : State} {c : Command} {a a' : Answer} → Step p s c a n → Step p s c a' n' → (a ≡ a') × (n ≡ n')
  step_unique {s} {n} {n'} {c} {a} {a'} st st' =
      let e : ◌≡◌ {A = Outcome} (record { said = a; next = n }) (record { said = a'; next = n' }) =
      sym (step_under st st'.judges) ∙ st'.is_step in
      (ap (λ (o : Outcome). o.said) e, ap (λ (o : Outcome). o.next) e)

  -- commands in a row have one list of answers, and lead to one state
  pub run_unique : {s end end' : State} {cs : List Command} {said said' : List Answer} → Run p s cs said end →
      Run p s cs said' end' → (said ≡ said') × (end ≡ end')
  run_unique ends ends = (refl, refl)
  run_unique {end'} {said'} (then {next = n} {cs = cs} {a = a} st run) (then {next = n'} {a = a'} {said = rest} st' run') =
      let same : (a ≡ a') × (n ≡ n') = step_unique st st' in
      let more = run_unique run (subst (λ (x : State). Run p x cs rest end') (sym same.1) run') in
      (cc (same.0, more.0), more.1)

-- the command was done: no refusal applies, the answer is 0 with the value of the table of commands, and all changes are made
pub record WasDone (p : Policy) (held : ℕ → Bool) (s : State) (c : Command) (a : Answer) (n : State) : Type 0 where
  pub allowed : Done p held s.now c
  pub says_0 : a.answer ≡ 0
  pub has_value : a.value ≡ number_in n.now.table (answers s.now c)
  pub goes_on : n ≡ after s c

-- the command was refused: the smallest refusal that applies is answered with the value 0, and nothing has changed
pub record WasRefused (p : Policy) (held : ℕ → Bool) (s : State) (c : Command) (a : Answer) (n : State) : Type 0 where
  pub refusal : FirstRefusal (refusals p held s.now c) a.answer
  pub no_value : a.value ≡ 0
  pub unchanged : n ≡ s

-- of what a command comes to, by the number of its refusal: 0, and more than 0
outcome_done : (s : State) (c : Command) {n : State} {a : Answer} → outcome s c 0 ≡ record { said = a; next = n } →
    (a.answer ≡ 0) × (a.value ≡ number_in n.now.table (answers s.now c)) × (n ≡ after s c)
unfolding outcome
outcome_done s c e = (
  sym (ap (λ (o : Outcome). o.said.answer) e),
  sym (ap (λ (o : Outcome). o.said.value) e) ∙ ap (λ (o : Outcome). number_in o.next.now.table (answers s.now c)) e,
  sym (ap (λ (o : Outcome). o.next) e),
)

outcome_refused : (s : State) (c : Command) (r : ℕ) {n : State} {a : Answer} → 2 ≤ r →
    outcome s c r ≡ record { said = a; next = n } → (a.answer ≡ r) × (a.value ≡ 0) × (n ≡ s)
unfolding outcome
outcome_refused s c zero h e = absurd (omega arith)
outcome_refused s c (suc r) h e = (
  sym (ap (λ (o : Outcome). o.said.answer) e),
  sym (ap (λ (o : Outcome). o.said.value) e),
  sym (ap (λ (o : Outcome). o.next) e),
)

outcome_answer : (s : State) (c : Command) (r : ℕ) → (outcome s c r).said.answer ≡ r
unfolding outcome
outcome_answer s c zero = refl
outcome_answer s c (suc r) = refl

module _ {p : Policy} {s n : State} {c : Command} {a : Answer} where
  -- the answer is the first refusal
  answer_is_first : (st : Step p s c a n) → a.answer ≡ first (refusals p st.held s.now c)
  unfolding step
  answer_is_first st = sym (ap (λ (o : Outcome). o.said.answer) st.is_step) ∙ outcome_answer s c _

  -- a command is refused with n exactly where n is the smallest refusal that applies
  pub refused_exactly : (st : Step p s c a n) (r : ℕ) → ¬ (r ≡ 0)
      → (a.answer ≡ r) ↔ FirstRefusal (refusals p st.held s.now c) r
  refused_exactly st r r0 = (
    λ e.
        ⊎_elim (λ none. absurd (r0 none.0)) (λ f. f)
        ((first_is_smallest p st.held s.now c r).0 (sym (answer_is_first st) ∙ e)),
    λ f. answer_is_first st ∙ (first_is_smallest p st.held s.now c r).1 (inr f),
  )

  -- and done exactly where no refusal applies
  pub done_exactly : (st : Step p s c a n) → (a.answer ≡ 0) ↔ NoneApplies (refusals p st.held s.now c)
  done_exactly st = (
    λ e.
        ⊎_elim (λ none. none.1) (λ f. absurd (omega (arith, (in_table p st.held s.now c f.applies).0)))
        ((first_is_smallest p st.held s.now c 0).0 (sym (answer_is_first st) ∙ e)),
    λ none. answer_is_first st ∙ (first_is_smallest p st.held s.now c 0).1 (inl (refl, none)),
  )

  -- a command is done or refused
  pub done_or_refused : (st : Step p s c a n) → WasDone p st.held s c a n ⊎ WasRefused p st.held s c a n
  unfolding step
  done_or_refused st = ⊎_elim (λ no. inl (when_none no.0)) (λ r. inr (when_first r)) (first_answered p st.held s.now c)
    where
      when_none : first (refusals p st.held s.now c) ≡ 0 → WasDone p st.held s c a n
      when_none z =
          let o = outcome_done s c (ap (outcome s c) (sym z) ∙ st.is_step) in
          record { allowed = done p st.held s.now c z; says_0 = o.0; has_value = o.1; goes_on = o.2 }

      when_first : FirstRefusal (refusals p st.held s.now c) (first (refusals p st.held s.now c)) →
          WasRefused p st.held s c a n
      when_first r =
          let o = outcome_refused s c _ (in_table p st.held s.now c r.applies).0 st.is_step in
          record {
            refusal = subst (FirstRefusal (refusals p st.held s.now c)) (sym o.0) r;
            no_value = o.1;
            unchanged = o.2;
          }

  -- and never both: a refusal is never answered with 0
  pub done_not_refused : {held : ℕ → Bool} → WasDone p held s c a n → ¬ WasRefused p held s c a n
  done_not_refused {held} d r = omega (arith, d.says_0, (in_table p held s.now c r.refusal.applies).0)

  -- every answer of a command is 0 or one of 2 to 11
  pub answer_in_table : Step p s c a n → (a.answer ≡ 0) ⊎ ((2 ≤ a.answer) × (a.answer ≤ 11))
  answer_in_table st =
      ⊎_elim (λ d. inl d.says_0) (λ r. inr (in_table p st.held s.now c r.refusal.applies)) (done_or_refused st)

  -- "A refusal has value 0, and every later command behaves as if the refused one had not been there."
  pub refused_leaves : Step p s c a n → ¬ (a.answer ≡ 0) → (a.value ≡ 0) × (n ≡ s)
  refused_leaves st n0 = ⊎_elim (λ d. absurd (n0 d.says_0)) (λ r. (r.no_value, r.unchanged)) (done_or_refused st)

  -- a command answered with 0 has done all its changes, and its value is that of the table of commands
  pub done_steps : Step p s c a n → a.answer ≡ 0 → (a.value ≡ number_in n.now.table (answers s.now c)) × (n ≡ after s c)
  done_steps st z =
      ⊎_elim (λ d. (d.has_value, d.goes_on))
      (λ r. absurd (omega (arith, (in_table p st.held s.now c r.refusal.applies).0)))
      (done_or_refused st)

  -- and was allowed
  pub done_allowed : (st : Step p s c a n) → a.answer ≡ 0 → Done p st.held s.now c
  done_allowed st z =
      ⊎_elim (λ d. d.allowed) (λ r. absurd (omega (arith, (in_table p st.held s.now c r.refusal.applies).0)))
      (done_or_refused st)
