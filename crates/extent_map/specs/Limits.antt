-- How many bytes a block has, how many blocks a volume, and how many bytes and extents a part.
use Rattle.std.specs.Prelude.{ℕ, ◌+◌, ◌/◌}

-- the bytes of a block
abbrev pub block_bytes : ℕ
block_bytes = 4096

-- how many blocks so many bytes take
abbrev pub block_count : ℕ → ℕ
block_count len = (len + 4095) / 4096

-- block 0, and one for a part
abbrev pub fewest_blocks : ℕ
fewest_blocks = 2

-- 1 GiB, in blocks of 4,096 bytes
abbrev pub most_blocks : ℕ
most_blocks = 262_144

-- 1 MiB
abbrev pub max_part_len : ℕ
max_part_len = 1_048_576

-- a block each, of the longest part
abbrev pub max_extents : ℕ
max_extents = 256
