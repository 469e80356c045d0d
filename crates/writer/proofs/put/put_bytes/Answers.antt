-- `put_bytes` meets its contract: the first i bytes stand over the front of the buffer (Over). Assumes nothing.
use Rattle.writer.proofs.Over.{copied_none, copied_next, copied_all}
use Rattle.writer.proofs.put.put_bytes.Goals as goal

pub loop-i-init : goal.loop-i-init
loop-i-init c = copied_none c.args.bytes.now c.args.out.now

pub loop-i-preserved : goal.loop-i-preserved
loop-i-preserved c = copied_next _ _ _ _ c.requires c.loop-i-test.true c.loop-i.invariant

pub returns : goal.returns
returns c = copied_all _ _ _ _ c.loop-i.auto.i-end c.loop-i-test.false c.loop-i.invariant
