use Rattle.std.proofs.Common.{arith}
use Rattle.writing.proofs.Counts.{counted_is}
use Rattle.writing.proofs.sinks.CountSink.put_all.Goals as goal

pub returns : goal.returns
returns c = counted_is c.args.self.now c.args.bytes.now c.saturating_add-self.result (omega arith) (omega arith)
