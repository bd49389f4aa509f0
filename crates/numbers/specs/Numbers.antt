-- A number of a body: so many bytes from a place on.
use Rattle.std.specs.Prelude.{ℕ, zero, suc, ◌+◌, ◌*◌, List, get_or}

-- the number of that many bytes from a place, the least significant first; a byte past the end is 0
abbrev pub little_endian : ℕ → List ℕ → ℕ → ℕ
little_endian zero body i = 0
little_endian (suc bytes) body i = get_or body i 0 + 256 * little_endian bytes body (i + 1)
