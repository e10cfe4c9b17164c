-- When a number that comes from a file is within its limits, and which number it then is.
use Rattle.std.specs.Prelude.{ℕ, cond, ◌&&◌, ℤ, pos, negsuc, Some, None, Ok, Err, Option, Result, ◌==◌, nat_le}
use Rattle.parts.specs.declared.limits.OutOfLimits.{OutOfLimits}

-- from low to high, both included
abbrev pub within : ℕ → ℕ → ℤ → Option ℕ
within low high (pos n) = cond (nat_le low n && nat_le n high) (Some n) None
within low high (negsuc n) = None

-- a mark or a load number
abbrev pub mark_in : ℤ → Option ℕ
mark_in = within 1 9999

-- a mark that is not the first plate's
abbrev pub unless_first : ℕ → Option ℕ → Option ℕ
unless_first first None = None
unless_first first (Some n) = cond (n == first) None (Some n)

abbrev pub other_mark : ℕ → ℤ → Option ℕ
other_mark first z = unless_first first (mark_in z)

-- a pitch: 0 with one row (column), else 1 to 400
abbrev pub pitch_in : ℕ → ℤ → Option ℕ
pitch_in lines z = cond (lines == 1) (within 0 0 z) (within 1 400 z)

-- an entry is read field by field: the first field without a value is the fault
module _ {X Y : Type 0} where
  abbrev pub at_field : ℕ → Option X → (X → Result Y OutOfLimits) → Result Y OutOfLimits
  at_field k None rest = Err (record { field = k })
  at_field k (Some x) rest = rest x

  -- so is the first fault of a part of it
  abbrev pub and_then : Result X OutOfLimits → (X → Result Y OutOfLimits) → Result Y OutOfLimits
  and_then (Err fault) rest = Err fault
  and_then (Ok x) rest = rest x
