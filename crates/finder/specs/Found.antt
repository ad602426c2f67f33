-- Candidates as they are found.
use Rattle.std.specs.Prelude.{ℕ}
use Rattle.protocol.specs.Naming.{Found, none, one, several}

-- one candidate more of a list, be it a set that was on it before
unfoldable pub another : Found → ℕ → Found
another none x = one x
another (one y) x = several
another several x = several
