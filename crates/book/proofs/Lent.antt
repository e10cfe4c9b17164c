-- A table whose given places were lent for a strike.
use Rattle.std.proofs.Common.{◌≡◌, ℕ, take-append-drop, arith}
use Rattle.register.specs.Held.{count_struck, places_struck}
use Rattle.register.proofs.Search.{place_known}
use Rattle.book.specs.declared.tables.Table.{Table}
use Rattle.book.specs.Tabled.{given_places, records_in, refilled, table_struck}

module _ {R : Type 0} {N : ℕ} (t : Table R N) where
  -- what the register leaves of them, with the number held and without it
  pub refilled_struck : (f : R → ℕ) (k : ℕ) → refilled t (count_struck f k t.register.count (given_places t)) (places_struck f k t.register.count (given_places t)) ≡ table_struck f k t
  refilled_struck f k = grind (arith, place_known f k (records_in t), take-append-drop t.given t.places)
