-- What the acts on a book mean for those who look plates and components up by their marks.
-- `t` is what the book holds before an act, `u` what it holds afterwards.
use Rattle.std.specs.Prelude.{◌≡◌, ℕ, ◌≤◌, true, false, List, [], ◌∷◌, length, ℤ, is_some, is_ok, Some, None, Err, Option, Result, MatchResult, ◌≢◌}
use Rattle.parts.specs.declared.limits.OutOfLimits.{OutOfLimits as LimitFault}
use Rattle.parts.specs.declared.marks.ComponentMarks.{ComponentMarks}
use Rattle.parts.specs.declared.plates.Plate.{Plate}
use Rattle.bolting.specs.declared.bolt_groups.BoltGroup.{BoltGroup}
use Rattle.parts.specs.declared.welds.Weld.{Weld}
use Rattle.book.specs.declared.tables.Table.{Table}
use Rattle.book.specs.declared.tables.Tables.{Tables}
use Rattle.book.specs.declared.refusals.Refusal.TheVariants.{Full}
use Rattle.book.specs.Tabled.{given_places}
use Rattle.book.specs.Tables.{empty_tables, plate_named, group_named, weld_named, mark_used}
use Rattle.book.specs.declared.tables.Places.{Places}
use Rattle.book.specs.Order.{orderly}
use Rattle.book.specs.Drafts.{Answer, Kind, plate_kind, group_kind, weld_kind, named, answer_to_entry, after_entry, mark_checked, strike_answer, struck_out}

-- both plates are in the book
abbrev pub Joined : Tables → ComponentMarks → Type 0
Joined t c = (is_some (plate_named t c.plate_a) ≡ true) × (is_some (plate_named t c.plate_b) ≡ true)

-- the plates that a component names are in the book, and no mark names both a bolt group and a weld
abbrev pub PlatesInPlace : Tables → Type 0
PlatesInPlace t =
    ((n : ℕ) (g : BoltGroup) → group_named t n ≡ Some g → Joined t g.marks)
    × ((n : ℕ) (w : Weld) → weld_named t n ≡ Some w → Joined t w.marks)
    × ((n : ℕ) → is_some (group_named t n) ≡ true → is_some (weld_named t n) ≡ false)

module _ {R : Type 0} where
  -- the record is named by its mark, which was free, and every other mark names what it named before
  abbrev pub NewlyNamed : (R → ℕ) → R → (ℕ → Option R) → (ℕ → Option R) → Type 0
  NewlyNamed f x before after =
      (before (f x) ≡ None)
      × (after (f x) ≡ Some x)
      × ((n : ℕ) → (n ≢ f x) → after n ≡ before n)

  -- 'no place is free' is answered only when each place that was given is taken
  abbrev pub FullWhenTaken : {N : ℕ} → Table R N → Answer → Type 0
  FullWhenTaken table r = r ≡ Err Full → length (given_places table) ≤ table.register.count

-- the same of an entry: outside its limits it is refused and changes nothing
abbrev pub Refused : Answer → Tables → Tables → Type 0
Refused r t u = (is_ok r ≡ false) × (u ≡ t)

module _ {X : Type 0} (k : Kind X) where
  -- a record within its limits: it is taken and the tables of the other kinds stay as they are, or it is refused and nothing changes
  abbrev pub Taken : X → Answer → Tables → Tables → Type 0
  Taken x r t u =
      MatchResult r
      (λ ok. NewlyNamed k.mark x (named k t) (named k u) × (u ≡ k.with_table (k.table u) t))
      (λ refusal. u ≡ t)

  -- what adding an entry does, by the record that it makes
  abbrev pub EntryAdded : Result X LimitFault → Answer → Tables → Tables → Type 0
  EntryAdded made r t u = MatchResult made (λ x. Taken x r t u) (λ o. Refused r t u) × FullWhenTaken (k.table t) r

-- the mark named a component and names none any more, every other mark names what it named before, and plates and loads stay as they are
abbrev pub MarkFreed : ℕ → Tables → Tables → Type 0
MarkFreed m t u =
    (mark_used t m ≡ true)
    × (group_named u m ≡ None) × (weld_named u m ≡ None)
    × ((n : ℕ) → (n ≢ m) → (group_named u n ≡ group_named t n) × (weld_named u n ≡ weld_named t n))
    × (u.plates ≡ t.plates) × (u.loads ≡ t.loads)

abbrev pub MarkStruck : ℕ → Answer → Tables → Tables → Type 0
MarkStruck m r t u = MatchResult r (λ ok. MarkFreed m t u) (λ refusal. u ≡ t)

abbrev pub ComponentStruck : ℤ → Answer → Tables → Tables → Type 0
ComponentStruck z r t u = MatchResult (mark_checked z) (λ m. MarkStruck m r t u) (λ o. Refused r t u)

-- what may be done to a book that is drafted, in any order and as often as one likes: an entry is added, by what it makes (the
-- record, or its first field outside the limits), or a component is struck
pub data Act : Type 0 where
  adds_plate : Result Plate LimitFault → Act
  adds_group : Result BoltGroup LimitFault → Act
  adds_weld : Result Weld LimitFault → Act
  strikes : ℤ → Act

-- what an act is answered, and what the book then holds
abbrev pub answer_to : Tables → Act → Answer
answer_to t (adds_plate made) = answer_to_entry plate_kind t made
answer_to t (adds_group made) = answer_to_entry group_kind t made
answer_to t (adds_weld made) = answer_to_entry weld_kind t made
answer_to t (strikes z) = strike_answer t z

abbrev pub holding : Tables → Act → Tables
holding t (adds_plate made) = after_entry plate_kind t made
holding t (adds_group made) = after_entry group_kind t made
holding t (adds_weld made) = after_entry weld_kind t made
holding t (strikes z) = struck_out t z

-- what a book holds after acts, the first of them first
abbrev pub drafted : Tables → List Act → Tables
drafted t [] = t
drafted t (act ∷ more) = drafted (holding t act) more

-- what an act does, refused or not, by its answer and what the book holds before and after it
abbrev pub Does : Act → Answer → Tables → Tables → Type 0
Does (adds_plate made) r t u = EntryAdded plate_kind made r t u
Does (adds_group made) r t u = EntryAdded group_kind made r t u
Does (adds_weld made) r t u = EntryAdded weld_kind made r t u
Does (strikes z) r t u = ComponentStruck z r t u

abbrev pub DoneNext : Tables → Act → Type 0
DoneNext t act = Does act (answer_to t act) t (holding t act)

-- However a book came about: no mark is repeated, the plates that its components name are in it, and
-- the next act, whichever it is, does what is said of it above.
unfoldable pub DraftingLaws : Type 0
DraftingLaws =
    (places : Places) (acts : List Act) →
    (orderly (drafted (empty_tables places) acts) ≡ true)
    × PlatesInPlace (drafted (empty_tables places) acts)
    × ((act : Act) → DoneNext (drafted (empty_tables places) acts) act)
