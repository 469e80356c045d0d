-- What a judge says of the terms that a done command names. Rests on Named.
use Prim.Native.Nat.{ℕ}
use mathlib.Core.Path.{◌≡◌, subst}
use mathlib.Core.Bool.{Bool}
use Rattle.terms.specs.Terms.{Term}
use Rattle.terms.specs.WorkingOut.{Held}
use Rattle.rules.specs.State.{State, term_at}
use Rattle.rules.specs.Runs.{Judge, HeldNumber}
use Rattle.rules.proofs.Named.{There}

-- a term named is one that the caller can work out
pub held_term : {s : State} {held : ℕ → Bool} {t : ℕ} → Judge s held → There held s.now t
    → Held s.past.own s.past.given (term_at s.now t)
held_term {s} {t = t} judges there =
    let h : HeldNumber s t = (judges t).0 there.is_held in
    let e : h.the_term ≡ term_at s.now t = cc (h.is_there, there.is_at) in
    subst (λ (m : Term). Held s.past.own s.past.given m) e h.is_held
