use Rattle.std.proofs.Common.{◌+◌, get_or, take, drop}
use Rattle.std.proofs.lemmas.List.{drop_more, take-append-drop}
use Rattle.reading.proofs.bytes.expect.Goals as goal

pub returns-then-not-begins : goal.returns-then-not-begins
returns-then-not-begins c =
    let mark = c.args.mark.now in
    let k = c.loop-k.k in
    let more = drop_more mark k 0 c.loop-k-test.true in
    let whole = take-append-drop k mark in
    record {
      low = c.loop-k.invariant.0;
      high = c.loop-k.invariant.1;
      lead = take k mark;
      next = get_or mark k 0;
      tail = drop (k + 1) mark;
      parts = cc;
      shares = c.loop-k.invariant.2;
      stop = c.if-not-begins.ensures;
    }
