-- The buckets of a tier, of four cells each. Each key has one bucket; a cell with number 0 is empty.
use Rattle.std.specs.Prelude.{◌≡◌, ℕ, ◌*◌, ◌/◌, ◌%◌, ◌^◌, ◌==◌, ◌&&◌, Bool, false, List, length, Option, Some, None, nat_lt, slice_index_or, if◌then◌else◌}
use Rattle.std.specs.Option.{option_map_or, option_or}
use Rattle.key_map.specs.declared.bucket.Bucket.{Bucket}
use Rattle.key_map.specs.declared.cells.Cell.{Cell}

-- the bits of a key from `shift` on, once it is multiplied by a large odd number. Keys of names that differ in their
-- last byte alone differ in few bits before that
unfoldable pub bits : ℕ → ℕ → ℕ
bits shift key = (key * 15485907386658061715) % 2 ^ 64 / 2 ^ (shift % 64)

-- which of `len` buckets is that of a key
abbrev pub home : ℕ → ℕ → ℕ → ℕ
home shift len key = bits shift key % len

-- the number in a cell, if the cell is that of this key
abbrev pub in_cell : ℕ → Cell → Option ℕ
in_cell key cell = if cell.key == key && nat_lt 0 cell.number then Some cell.number else None

-- a cell without a number
abbrev pub empty_cell : Cell
empty_cell = record { key = 0; number = 0 }

-- the number in a bucket for a key: that of the first cell that has one
abbrev pub in_bucket : ℕ → Bucket → Option ℕ
in_bucket key bucket =
    option_or (in_cell key bucket.first)
    (option_or (in_cell key bucket.second)
    (option_or (in_cell key bucket.third) (in_cell key bucket.fourth)))

-- a bucket without a number
abbrev pub empty_bucket : Bucket
empty_bucket = record { first = empty_cell; second = empty_cell; third = empty_cell; fourth = empty_cell }

-- the number that buckets have for a key, if they have one
abbrev pub kept : List Bucket → ℕ → ℕ → Option ℕ
kept buckets shift key = in_bucket key (slice_index_or buckets (home shift (length buckets) key) empty_bucket)

-- the cell, if its key's bucket stands at this place among `len`, else an empty one
abbrev pub kept_at : ℕ → ℕ → ℕ → Cell → Cell
kept_at shift len place cell = if home shift len cell.key == place then cell else empty_cell

-- the bucket with the cells whose keys' bucket stands at this place among `len`
abbrev pub bucket_at : ℕ → ℕ → ℕ → Bucket → Bucket
bucket_at shift len place bucket = record {
  first = kept_at shift len place bucket.first;
  second = kept_at shift len place bucket.second;
  third = kept_at shift len place bucket.third;
  fourth = kept_at shift len place bucket.fourth;
}

-- what stands at a place once the buckets are spread over `len`
abbrev pub spread : List Bucket → ℕ → ℕ → ℕ → Bucket
spread buckets shift len place =
    bucket_at shift len place (slice_index_or buckets (place % length buckets) empty_bucket)

-- whether what was found is this number
abbrev pub is_number : ℕ → Option ℕ → Bool
is_number number found = option_map_or (λ (n : ℕ). n == number) found false

-- no key has a number in both
abbrev pub AreApart : (ℕ → Option ℕ) → (ℕ → Option ℕ) → Type 0
AreApart above below = (key number : ℕ) → above key ≡ Some number → below key ≡ None
