use Rattle.std.proofs.Common.{◌≡◌, ◌+◌, ◌≤◌, ◌++◌, length, drop}
use Rattle.notation.specs.Numbers.{nat}
use Rattle.writing.proofs.writer.gather_digits.Given as goal

abbrev pub invariant-loop-front : goal.invariant-loop-front
invariant-loop-front l = record {
  room : length (nat l.front) ≤ l.start;
  within : l.start ≤ 10;
  long : length l.buffer ≡ 11;
  digits : nat l.n ≡ nat l.front ++ drop (l.start + 1) l.buffer;
}

abbrev pub decreases-loop-front : goal.decreases-loop-front
decreases-loop-front l = l.front
