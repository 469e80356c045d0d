-- What `command_at` answers, as it is asked for: by `ok_or`. Assumes nothing.
use Prim.Native.Nat.{ℕ}
use mathlib.Core.Path.{◌≡◌, subst}
use mathlib.Core.List.{List}
use Rattle.std.specs.Prelude.{Option, Some, None, Result, Ok, Err}
use Rattle.std.specs.Option.{ok_or}
use Rattle.shapes.specs.declared.CallError.{CallError}
use Rattle.writer.specs.declared.records.Handed.{Handed}
use Rattle.writer.specs.Parts.{CommandAt}

module _ (handed : List ℕ) (i : ℕ) where
  -- a command, or the error that was to be given
  pub ok_found : (r : Option Handed) (error : CallError) (command : Handed) → Ok command ≡ ok_or r error → CommandAt handed i r
      → CommandAt handed i (Some command)
  ok_found None error command e at = cc
  ok_found (Some c) error command e at =
      let same : c ≡ command = cc in
      subst (λ (d : Handed). CommandAt handed i (Some d)) same at

  pub err_found : (r : Option Handed) (error e : CallError)
      → ◌≡◌ {A = Result Handed CallError} (Err e) (ok_or r error)
      → CommandAt handed i r → CommandAt handed i None × (e ≡ error)
  err_found None error e q at = (at, cc)
  err_found (Some c) error e q at = cc
