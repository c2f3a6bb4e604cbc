use Rattle.std.proofs.Common.{length}
use Rattle.types.proofs.admits.+has_ascending_keys.Given as goal

abbrev pub decreases-has_ascending_keys : goal.decreases-has_ascending_keys
decreases-has_ascending_keys l = length l.entries.now
