-- What each act does to the records in use, to their order, and to looking up by mark.
use Rattle.std.proofs.Common.{◌≡◌, ℕ, ◌+◌, Bool, true, false, cond, not, ◌||◌, ltb, List, [], ◌∷◌, ◌++◌, length, is_some, is_ok, Ok, Err, Result, refl, ap, append-nil, arith, take_all, take_at, MatchResult}
use Rattle.std.proofs.lemmas.Grind.{common_steps}
use Rattle.std.proofs.lemmas.List.{drop_all}
use Rattle.std.proofs.lemmas.Bool.{cond_both, cond-false, or_left, or_right}
use Rattle.register.specs.Held.{record_of, without, count_struck}
use Rattle.register.proofs.Changes.{record_added, record_others, record_without_others, without_unknown}
use Rattle.register.proofs.Places.{held_struck, length_places_struck}
use Rattle.parts.specs.declared.limits.OutOfLimits.{OutOfLimits as LimitFault}
use Rattle.parts.specs.Numbers.{weld_mark}
use Rattle.bolting.specs.Groups.{group_mark}
use Rattle.parts.specs.declared.marks.ComponentMarks.{ComponentMarks}
use Rattle.parts.specs.declared.plates.Plate.{Plate}
use Rattle.bolting.specs.declared.bolt_groups.BoltGroup.{BoltGroup}
use Rattle.parts.specs.declared.welds.Weld.{Weld}
use Rattle.book.specs.declared.tables.Table.{Table}
use Rattle.book.specs.declared.tables.Tables.{Tables}
use Rattle.book.specs.declared.refusals.Refusal.TheVariants.{Unknown, Full}
use Rattle.book.specs.Tabled.{given_places, records_in, refilled, table_added, table_struck}
use Rattle.book.specs.Tables.{empty_tables, group_named, weld_named, mark_used}
use Rattle.book.specs.Order.{orderly}
use Rattle.book.specs.Drafts.{Answer, refuse_if, component_gates, Kind, plate_kind, group_kind, weld_kind, named, with_record, gates, stored, strike_gates, component_struck, entry_answer, entry_stored, answer_to_entry, after_entry, mark_checked}
use Rattle.book.specs.Laws.{Joined, NewlyNamed, FullWhenTaken, PlatesInPlace, Taken, EntryAdded, MarkFreed, MarkStruck, Refused, Act, adds_plate, adds_group, adds_weld, strikes, holding, drafted, DoneNext, DraftingLaws}
use Rattle.book.proofs.Order.{plates_of_record, ordered, marks_less_group, marks_less_weld, order_plate, order_group, order_weld, order_less_group, order_less_weld, one_component, mark_gone}

module _ {R : Type 0} {N : ℕ} (t : Table R N) where
  -- is a place free?
  abbrev has_room : Bool
  has_room = ltb t.register.count (length (given_places t))

  refilled_places : (n : ℕ) (xs : List R) → length xs ≡ length (given_places t) → given_places (refilled t n xs) ≡ xs
  refilled_places n xs same = grind (arith, common_steps, take_all {A = R}, drop_all {X = R}, take_at {A = R}, append-nil {A = R})

  records_added : (x : R) → has_room ≡ true → records_in (table_added x t) ≡ records_in t ++ (x ∷ [])
  records_added x room = grind (arith, common_steps, refilled_places (t.register.count + 1))

  records_struck : (f : R → ℕ) (k : ℕ) → records_in (table_struck f k t) ≡ without f k (records_in t)
  records_struck f k = grind (arith, refilled_places (count_struck f k t.register.count (given_places t)), length_places_struck t.register.count (given_places t) f k, held_struck t.register.count (given_places t) f k, without_unknown f k (records_in t))

  newly_named : (f : R → ℕ) (x : R) → is_some (record_of f (f x) (records_in t)) ≡ false → has_room ≡ true →
      NewlyNamed f x (λ n. record_of f n (records_in t)) (λ n. record_of f n (records_in (table_added x t)))
  newly_named f x free room = grind (arith, records_added x, record_added f x, record_others f)

  others_kept : (f : R → ℕ) (k n : ℕ) → (n ≡ k → ⊥) → record_of f n (records_in (table_struck f k t)) ≡ record_of f n (records_in t)
  others_kept f k n ne = rw records_struck (record_without_others f k (records_in t) n ne)

-- an act that stores where its gates let it
done_or_kept : (r : Answer) (t u : Tables) (Done : Tables → Type 0) → (is_ok r ≡ true → Done u) → MatchResult r (λ ok. Done (cond (is_ok r) u t)) (λ refusal. cond (is_ok r) u t ≡ t)
done_or_kept (Ok x) t u Done h = h refl
done_or_kept (Err e) t u Done h = refl

-- a component in the first table, in the second, or in neither
struck_or_kept : (g w : Bool) (t u v : Tables) (Done : Tables → Type 0) → (g ≡ true → Done u) → (g ≡ false → w ≡ true → Done v) → (w ≡ false → v ≡ t) →
    MatchResult (refuse_if (not (g || w)) (Unknown 1) (Ok tt)) (λ ok. Done (cond g u v)) (λ refusal. cond g u v ≡ t)
struck_or_kept true w t u v Done first second neither = first refl
struck_or_kept false true t u v Done first second neither = second refl refl
struck_or_kept false false t u v Done first second neither = neither refl

module _ (t : Tables) where
  abbrev ps : List Plate
  ps = records_in t.plates

  abbrev gs : List BoltGroup
  gs = records_in t.bolt_groups

  abbrev ws : List Weld
  ws = records_in t.welds

  pub in_place : orderly t ≡ true → PlatesInPlace t
  in_place order = (
    (λ n g e. plates_of_record (λ g. g.marks) ps group_mark n gs g (ordered ps gs ws order).groups_known e),
    (λ n w e. plates_of_record (λ w. w.marks) ps weld_mark n ws w (ordered ps gs ws order).welds_known e),
    one_component ps gs ws order,
  )

module _ (t : Tables) (order : orderly t ≡ true) where
  module _ (m : ℕ) where
    orderly_struck : orderly (component_struck t m) ≡ true
    orderly_struck =
        cond_both (is_some (group_named t m)) (group_kind.with_table (table_struck group_mark m t.bolt_groups) t) (weld_kind.with_table (table_struck weld_mark m t.welds) t) (λ u. orderly u ≡ true)
        (λ e. rw (records_struck t.bolt_groups group_mark m) (order_less_group (ps t) (gs t) (ws t) order m e))
        (λ e. rw (records_struck t.welds weld_mark m) (order_less_weld (ps t) (gs t) (ws t) order m e))

    group_freed : is_some (group_named t m) ≡ true → MarkFreed m t (group_kind.with_table (table_struck group_mark m t.bolt_groups) t)
    group_freed e =
        let gone = mark_gone (ps t) (gs t) (ws t) order m (without group_mark m (gs t)) (ws t) (marks_less_group (gs t) (ws t) m e) in (
          or_left _ _ e,
          rw (records_struck t.bolt_groups group_mark m) gone.0,
          gone.1,
          (λ n ne. (others_kept t.bolt_groups group_mark m n ne, refl)),
          refl,
          refl,
        )

    weld_freed : is_some (group_named t m) ≡ false → is_some (weld_named t m) ≡ true → MarkFreed m t (weld_kind.with_table (table_struck weld_mark m t.welds) t)
    weld_freed other e =
        let gone = mark_gone (ps t) (gs t) (ws t) order m (gs t) (without weld_mark m (ws t)) (marks_less_weld (gs t) (ws t) m other) in (
          or_right _ _ e,
          gone.0,
          rw (records_struck t.welds weld_mark m) gone.1,
          (λ n ne. (refl, others_kept t.welds weld_mark m n ne)),
          refl,
          refl,
        )

    mark_struck : MarkStruck m (strike_gates t m) t (component_struck t m)
    mark_struck =
        struck_or_kept (is_some (group_named t m)) (is_some (weld_named t m)) t
        (group_kind.with_table (table_struck group_mark m t.bolt_groups) t) (weld_kind.with_table (table_struck weld_mark m t.welds) t) (MarkFreed m t)
        group_freed weld_freed (λ e. ap (λ ws. weld_kind.with_table ws t) (cond-false (is_some (weld_named t m)) _ t.welds e))

-- what holds of each kind of records in a book in order
record KindLaws {X : Type 0} (k : Kind X) (t : Tables) : Type 0 where
  own : (table : Table X 50) → k.table (k.with_table table t) ≡ table
  free : (x : X) → is_ok (k.fits t x) ≡ true → is_some (named k t (k.mark x)) ≡ false
  not_full : (x : X) → k.fits t x ≡ Err Full → ⊥
  stays_orderly : (x : X) → is_ok (k.fits t x) ≡ true → has_room (k.table t) ≡ true → orderly (with_record k x t) ≡ true

-- an act that changes nothing where an entry is outside its limits
module _ {X : Type 0} (t : Tables) (order : orderly t ≡ true) (gates : X → Answer) (store : X → Tables) (Law : X → Answer → Tables → Type 0) where
  by_limits : ((x : X) → (orderly (store x) ≡ true) × Law x (gates x) (store x)) → (made : Result X LimitFault) →
      (orderly (entry_stored t store made) ≡ true)
      × MatchResult made (λ x. Law x (entry_answer gates made) (entry_stored t store made)) (λ o. Refused (entry_answer gates made) t (entry_stored t store made))
  by_limits laws (Ok x) = laws x
  by_limits laws (Err o) = (order, (refl, refl))

module _ {X : Type 0} (k : Kind X) (t : Tables) (order : orderly t ≡ true) (laws : KindLaws k t) where
  passed : (x : X) → is_ok (gates k t x) ≡ true → (is_ok (k.fits t x) ≡ true) × (has_room (k.table t) ≡ true)
  passed x e = grind arith

  taken : (x : X) → Taken k x (gates k t x) t (stored k t x)
  taken x =
      let table = table_added x (k.table t) in
      done_or_kept (gates k t x) t (with_record k x t) (λ u. NewlyNamed k.mark x (named k t) (named k u) × (u ≡ k.with_table (k.table u) t))
      (λ e. let h = passed x e in (rw (laws.own table) (newly_named (k.table t) k.mark x (laws.free x h.0) h.1), rw (laws.own table) refl))

  orderly_stored : (x : X) → orderly (stored k t x) ≡ true
  orderly_stored x = cond_both (is_ok (gates k t x)) (with_record k x t) t (λ u. orderly u ≡ true) (λ e. let h = passed x e in laws.stays_orderly x h.0 h.1) (λ e. order)

  full_when_taken : (made : Result X LimitFault) → FullWhenTaken (k.table t) (answer_to_entry k t made)
  full_when_taken (Ok x) e = grind (arith, laws.not_full x)
  full_when_taken (Err o) e = cc

  entry_laws : (made : Result X LimitFault) →
      (orderly (after_entry k t made) ≡ true) × EntryAdded k made (answer_to_entry k t made) t (after_entry k t made)
  entry_laws made =
      let both = by_limits t order (gates k t) (stored k t) (λ x r u. Taken k x r t u) (λ x. (orderly_stored x, taken x)) made in
      (both.0, (both.1, full_when_taken made))

-- the three kinds
module _ (t : Tables) (order : orderly t ≡ true) where
  plate_laws : KindLaws plate_kind t
  plate_laws = record {
    own = λ table. refl;
    free = λ p e. grind arith;
    not_full = λ p e. grind arith;
    stays_orderly = λ p e room. rw (records_added t.plates p room) (order_plate (ps t) (gs t) (ws t) order p (grind arith));
  }

  -- what the gates of a component have tested
  known : (c : ComponentMarks) → is_ok (component_gates t c) ≡ true → (mark_used t c.mark ≡ false) × Joined t c
  known c e = grind arith

  group_laws : KindLaws group_kind t
  group_laws = record {
    own = λ table. refl;
    free = λ g e. grind arith;
    not_full = λ g e. grind arith;
    stays_orderly = λ g e room.
        let h = known g.marks e in
        rw (records_added t.bolt_groups g room) (order_group (ps t) (gs t) (ws t) order g h.0 h.1);
  }

  weld_laws : KindLaws weld_kind t
  weld_laws = record {
    own = λ table. refl;
    free = λ w e. grind arith;
    not_full = λ w e. grind arith;
    stays_orderly = λ w e room.
        let h = known w.marks e in
        rw (records_added t.welds w room) (order_weld (ps t) (gs t) (ws t) order w h.0 h.1);
  }

  -- one act on a book in order
  act_laws : (act : Act) → (orderly (holding t act) ≡ true) × DoneNext t act
  act_laws (adds_plate made) = entry_laws plate_kind t order plate_laws made
  act_laws (adds_group made) = entry_laws group_kind t order group_laws made
  act_laws (adds_weld made) = entry_laws weld_kind t order weld_laws made
  act_laws (strikes z) =
      by_limits t order (strike_gates t) (component_struck t) (λ m r u. MarkStruck m r t u) (λ m. (orderly_struck t order m, mark_struck t order m)) (mark_checked z)

run_laws : (t : Tables) → orderly t ≡ true → (acts : List Act) → orderly (drafted t acts) ≡ true
run_laws t order [] = order
run_laws t order (act ∷ more) = run_laws (holding t act) (act_laws t order act).0 more

pub drafting_laws : DraftingLaws
unfolding DraftingLaws
drafting_laws places acts =
    let order = run_laws (empty_tables places) refl acts in
    (order, in_place (drafted (empty_tables places) acts) order, λ act. (act_laws (drafted (empty_tables places) acts) order act).1)
