-- A list of so many bytes at most.
use Rattle.std.specs.Prelude.{cond, List, [], ◌∷◌, ◌++◌, ℕ, ltb, length, take}
use Rattle.buffers.specs.declared.byte_list.ByteList.{ByteList}

-- the bytes of a list that code holds in an array, with how many of them are on it
abbrev pub bytes_of : {N : ℕ} → ByteList N → List ℕ
bytes_of list = take list.count list.bytes

-- a byte more at the end of a list with this much room; one for which there is none is dropped
unfoldable pub with_byte_within : ℕ → List ℕ → ℕ → List ℕ
with_byte_within room bytes x = cond (ltb (length bytes) room) (bytes ++ (x ∷ [])) bytes
