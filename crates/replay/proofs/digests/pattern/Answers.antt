-- `replay::digests::pattern` meets its contract: the test tells a NaN. Assumes nothing.
use Rattle.replay.proofs.Floats.{pattern_at_nan, pattern_off_nan}
use Rattle.replay.proofs.digests.pattern.Goals as goal

pub returns-then-is_nan : goal.returns-then-is_nan
returns-then-is_nan c = pattern_at_nan _ c.if-is_nan.ensures.value

pub returns-else-is_nan : goal.returns-else-is_nan
returns-else-is_nan c = pattern_off_nan _ c.if-is_nan.ensures.value
