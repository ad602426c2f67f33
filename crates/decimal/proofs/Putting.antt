-- What the check needs to prove `put`. Assumes nothing.
use Rattle.buffers.proofs.Splicing.{splice_one, splice_after}
use Rattle.decimal.proofs.Spelling.{one_digit, one_more, one_longer}

-- how a numeral is spelled, and what is stored behind other bytes
pub ruleset putting = (one_digit, one_more, one_longer, splice_one, splice_after)
