-- Bytes stored in a buffer.
use Rattle.std.specs.Prelude.{◌≡◌, List, ◌++◌, ℕ, ◌+◌, length, take, drop}

-- a list whose elements from a place on are replaced by those of another
unfoldable pub splice : ℕ → List ℕ → List ℕ → List ℕ
splice at new old = take at old ++ (new ++ drop (at + length new) old)

-- these bytes are stored in a buffer at a place: the place behind them, and the buffer afterwards
abbrev pub Stored : ℕ → List ℕ → List ℕ → ℕ → List ℕ → Type 0
Stored at new old behind after = (behind ≡ at + length new) × (after ≡ splice at new old)
