-- What the keyed hash of an id is.
use Rattle.std.specs.Prelude.{ℕ, zero, suc, ◌+◌, ◌-◌, ◌*◌, ◌/◌, ◌%◌, ◌^◌, List, length, min, slice_index, slice_range, if◌then◌else◌, nat_lt}

-- the four bytes from here on as a number, the first of them lowest
unfoldable pub word_at : List ℕ → ℕ → ℕ
word_at bytes at =
    let part = slice_range bytes at (at + 4) in
    slice_index part 0 + slice_index part 1 * 256 + slice_index part 2 * 65536 + slice_index part 3 * 16777216

-- one to three bytes as a number: the first, the middle and the last
unfoldable pub tail_at : List ℕ → ℕ → ℕ → ℕ
tail_at bytes at end =
    slice_index bytes at + slice_index bytes (at + (end - at) / 2) * 256 + slice_index bytes (end - 1) * 65536
    + 0 * 16777216

-- a sum with a word times its key
unfoldable pub term_added : ℕ → ℕ → ℕ → ℕ
term_added sum word key = (sum + (word * key) % 2 ^ 64) % 2 ^ 64

-- a sum with the first words, each times its key
unfoldable pub sum_words : List ℕ → ℕ → List ℕ → ℕ → ℕ
sum_words keys sum bytes zero = sum
sum_words keys sum bytes (suc i) =
    term_added (sum_words keys sum bytes i) (word_at bytes (4 * i)) (slice_index keys i)

-- a sum with an id's length and its first 64 bytes
unfoldable pub id_sum : List ℕ → ℕ → List ℕ → ℕ
id_sum keys sum bytes =
    let end = min (length bytes) 64 in
    let count = end / 4 in
    let words = sum_words keys (term_added sum (length bytes) (slice_index keys 17)) bytes count in
    if nat_lt (4 * count) end then term_added words (tail_at bytes (4 * count) end) (slice_index keys count) else words
