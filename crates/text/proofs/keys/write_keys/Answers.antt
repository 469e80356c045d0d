-- With some entries behind, the lines of their known keys are put (KnownKeyLines).
use native.Mathlib.Omega.{arith}
use Rattle.text.proofs.KnownKeyLines.{key_lined_none, key_lined_next}
use Rattle.text.proofs.keys.write_keys.Goals as goal

pub loop-entry-init : goal.loop-entry-init
loop-entry-init c = key_lined_none c.args.entries.now _ (omega (arith, c.requires))

pub loop-entry-preserved : goal.loop-entry-preserved
loop-entry-preserved c =
    key_lined_next c.args.entries.now _ (omega (arith, c.told-entries, c.loop-entry-test.true)) c.loop-entry.invariant
    c.write_entry.ensures
