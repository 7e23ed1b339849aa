-- What contracts say of claims and their seats.
use Rattle.std.specs.Prelude.{◌≡◌, ℕ, ◌<◌, List, sum_by}
use Rattle.pd_expand.specs.declared.claims.Claims.{Claims}
use Rattle.pd_expand.specs.declared.claim_seat.ClaimSeat.{ClaimSeat}
use Rattle.pd_expand.specs.ClaimRule.{times, past}

-- the numbers that the seat drew, the last one last
abbrev pub drawn : ClaimSeat → List ℕ
drawn s = s.inner.me.0.drawn

abbrev pub block_count : Claims → ℕ
block_count c = c.table.shared.key.blocks

abbrev pub worker_count : Claims → ℕ
worker_count c = c.table.shared.key.workers

-- `new` gave the seat with these claims
abbrev pub IsSeatOf : Claims → ClaimSeat → Type 0
IsSeatOf c s = (s.inner.table_id ≡ c.table.shared.table_id) × (s.blocks ≡ block_count c)

-- the seat drew a number past the last block's
abbrev pub IsDone : ClaimSeat → Type 0
IsDone s = 0 < past s.blocks (drawn s)

-- how often x stands in the lists of all seats together
abbrev pub times_in_all : ℕ → List ClaimSeat → ℕ
times_in_all x seats = sum_by (λ s. times x (drawn s)) seats

-- each block stands once in the lists of all seats together
abbrev pub AreWhole : ℕ → List ClaimSeat → Type 0
AreWhole blocks seats = (x : ℕ) → x < blocks → times_in_all x seats ≡ 1
