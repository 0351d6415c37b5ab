-- What a reader or a writer counts, and what a call has done to it. Source of all: own.
use Rattle.std.specs.Prelude.{ℕ, ◌+◌, ◌-◌, ◌^◌, ◌<◌, min, Bool, false, ◌&&◌, ◌==◌, nat_lt, if◌then◌else◌, List, length, take, Option, Result, Ok, Err}
use Rattle.std.specs.Io.KnownBytes.{Appends}

-- one more, and no more than `u64::MAX`
abbrev pub one_more : ℕ → ℕ
one_more n = min (n + 1) (2 ^ 64 - 1)

-- the count of failures after a read: a read that answers a fault is a failure
abbrev pub failures_after_read : {E : Type 0} → ℕ → Result ℕ E → ℕ
failures_after_read n (Ok _) = n
failures_after_read n (Err _) = one_more n

-- the count of failures after a write of a piece: to take no byte of a piece that has bytes is a failure too
abbrev pub failures_after_write : {E : Type 0} → ℕ → Result ℕ E → List ℕ → ℕ
failures_after_write n (Ok k) piece = if (k == 0) && nat_lt 0 (length piece) then one_more n else n
failures_after_write n (Err _) piece = one_more n

-- the read was at the end: it gave no byte to a slice that has room
abbrev pub is_end : {E : Type 0} → Result ℕ E → List ℕ → Bool
is_end (Ok k) buf = (k == 0) && nat_lt 0 (length buf)
is_end (Err _) buf = false

-- a call failed between these two counts, so far as they tell: at `u64::MAX` a count stays
abbrev pub HasFailed : ℕ → ℕ → Type 0
HasFailed before after = before < 2 ^ 64 - 1 → before < after

-- a writer's known bytes grow by a beginning of the text, which is not all of it
abbrev pub AppendsBeginning : Option (List ℕ) → Option (List ℕ) → List ℕ → Type 0
AppendsBeginning old new text = (n : ℕ) × (n < length text) × Appends old new (take n text)
