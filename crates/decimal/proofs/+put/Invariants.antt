use Rattle.decimal.proofs.+put.Given as goal

-- the number is less in each call
abbrev pub decreases-put : goal.decreases-put
decreases-put l = l.n
