-- A table of one kind of records: places of which the book was given the first so many.
use Rattle.std.specs.Prelude.{ℕ, ◌+◌, min, cond, List, ◌++◌, length, take, drop, replicate, is_some, Result, nat_lt, slice_set}
use Rattle.register.specs.declared.Full.{Full}
use Rattle.register.specs.Held.{held, record_of, adding, count_struck, places_struck}
use Rattle.book.specs.declared.tables.Table.{Table}

-- no record in use
abbrev pub empty_table : {R : Type 0} (N : ℕ) → R → ℕ → Table R N
empty_table N blank n = record { places = replicate N blank; given = min n N; register = record { count = 0 } }

module _ {R : Type 0} {N : ℕ} where
  -- the places that the book was given
  abbrev pub given_places : Table R N → List R
  given_places t = take t.given t.places

  -- the records in use, in their order
  abbrev pub records_in : Table R N → List R
  records_in t = held t.register.count (given_places t)

  -- is there a free place?
  abbrev pub room_in : Table R N → Result (Unit {0}) Full
  room_in t = adding t.register.count (given_places t)

  -- other contents of the given places; those behind them stay as they are
  abbrev pub refilled : Table R N → ℕ → List R → Table R N
  refilled t n xs = record { places = xs ++ drop t.given t.places; given = t.given; register = record { count = n } }

  -- one record more, last in order, where a place is free
  abbrev pub table_added : R → Table R N → Table R N
  table_added x t =
      cond (nat_lt t.register.count (length (given_places t)))
      (refilled t (t.register.count + 1) (slice_set (given_places t) t.register.count x))
      t

  -- without the record of that number, where there is one
  abbrev pub table_struck : (R → ℕ) → ℕ → Table R N → Table R N
  table_struck f k t =
      cond (is_some (record_of f k (records_in t)))
      (refilled t (count_struck f k t.register.count (given_places t)) (places_struck f k t.register.count (given_places t)))
      t
