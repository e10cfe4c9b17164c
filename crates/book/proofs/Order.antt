-- Marks that are not repeated and plates that are known, when a record is added or taken out.
use Rattle.std.proofs.Common.{◌≡◌, ℕ, true, false, ◌||◌, List, [], ◌∷◌, ◌++◌, map, is_some, Some, None, refl, append_assoc, arith}
use Rattle.std.proofs.lemmas.List.{map-append}
use Rattle.std.proofs.lemmas.List.Folds.{find-append, list_all-append}
use Rattle.register.specs.Held.{record_of, without, unrepeated}
use Rattle.register.proofs.Changes.{record_without, unrepeated_added, unrepeated_between, unrepeated_without}
use Rattle.parts.specs.Numbers.{plate_mark, weld_mark}
use Rattle.bolting.specs.Groups.{group_mark}
use Rattle.parts.specs.declared.marks.ComponentMarks.{ComponentMarks}
use Rattle.parts.specs.declared.plates.Plate.{Plate}
use Rattle.bolting.specs.declared.bolt_groups.BoltGroup.{BoltGroup}
use Rattle.parts.specs.declared.welds.Weld.{Weld}
use Rattle.book.specs.Order.{component_marks, both_plates, all_known, in_order}

module _ {X : Type 0} (f : X → ℕ) where
  -- looking up in two lists, one behind the other
  known_append : (k : ℕ) (xs ys : List X) → is_some (record_of f k (xs ++ ys)) ≡ (is_some (record_of f k xs) || is_some (record_of f k ys))
  known_append k xs ys = grind (arith, find-append {X = X})

  without_front : (k : ℕ) (xs ys : List X) → is_some (record_of f k xs) ≡ true → without f k (xs ++ ys) ≡ without f k xs ++ ys
  without_front k [] ys e = cc
  without_front k (x ∷ xs) ys e = grind (arith, without_front k xs ys)

  without_back : (k : ℕ) (xs ys : List X) → is_some (record_of f k xs) ≡ false → without f k (xs ++ ys) ≡ xs ++ without f k ys
  without_back k [] ys e = refl
  without_back k (x ∷ xs) ys e = grind (arith, without_back k xs ys)

  -- a number in the front of an unrepeated list is not in the rest
  apart : (k : ℕ) (xs ys : List X) → unrepeated f (xs ++ ys) ≡ true → is_some (record_of f k xs) ≡ true → is_some (record_of f k ys) ≡ false
  apart k [] ys u e = cc
  apart k (x ∷ xs) ys u e = grind (arith, apart k xs ys, known_append (f x) xs ys)

  -- the records' numbers alone
  known_map : (k : ℕ) (xs : List X) → is_some (record_of (λ n. n) k (map f xs)) ≡ is_some (record_of f k xs)
  known_map k [] = refl
  known_map k (x ∷ xs) = grind (arith, known_map k xs)

  map_without : (k : ℕ) (xs : List X) → map f (without f k xs) ≡ without (λ n. n) k (map f xs)
  map_without k [] = refl
  map_without k (x ∷ xs) = grind (arith, map_without k xs)

-- plates that are known
known_more : (p : Plate) (ps : List Plate) (ns : List ℕ) → all_known ps ns ≡ true → all_known (ps ++ (p ∷ [])) ns ≡ true
known_more p ps [] h = refl
known_more p ps (n ∷ ns) h = grind (arith, known_more p ps ns, known_append plate_mark n ps (p ∷ []))

module _ {X : Type 0} (marks : X → ComponentMarks) (ps : List Plate) where
  -- both plates of one record
  abbrev pub joins : X → Type 0
  joins x = (is_some (record_of plate_mark (marks x).plate_a ps) ≡ true) × (is_some (record_of plate_mark (marks x).plate_b ps) ≡ true)

  plates_added : (x : X) (xs : List X) → joins x → all_known ps (both_plates marks xs) ≡ true → all_known ps (both_plates marks (xs ++ (x ∷ []))) ≡ true
  plates_added x [] k h = grind arith
  plates_added x (y ∷ xs) k h = grind (arith, plates_added x xs k)

  plates_without : (f : X → ℕ) (k : ℕ) (xs : List X) → all_known ps (both_plates marks xs) ≡ true → all_known ps (both_plates marks (without f k xs)) ≡ true
  plates_without f k [] h = refl
  plates_without f k (x ∷ xs) h = grind (arith, plates_without f k xs)

  pub plates_of_record : (f : X → ℕ) (k : ℕ) (xs : List X) (x : X) → all_known ps (both_plates marks xs) ≡ true → record_of f k xs ≡ Some x → joins x
  plates_of_record f k [] x h e = cc
  plates_of_record f k (y ∷ xs) x h e = grind (arith, plates_of_record f k xs x)

-- what a book in order is, part by part
pub record Ordered (ps : List Plate) (gs : List BoltGroup) (ws : List Weld) : Type 0 where
  pub plates_apart : unrepeated plate_mark ps ≡ true
  pub marks_apart : unrepeated (λ n. n) (component_marks gs ws) ≡ true
  pub groups_known : all_known ps (both_plates (λ g. g.marks) gs) ≡ true
  pub welds_known : all_known ps (both_plates (λ w. w.marks) ws) ≡ true

pub ordered : (ps : List Plate) (gs : List BoltGroup) (ws : List Weld) → in_order ps gs ws ≡ true → Ordered ps gs ws
ordered ps gs ws order = record {
  plates_apart = grind arith;
  marks_apart = grind arith;
  groups_known = grind (arith, list_all-append {X = ℕ});
  welds_known = grind (arith, list_all-append {X = ℕ});
}

order_from : (ps : List Plate) (gs : List BoltGroup) (ws : List Weld) → Ordered ps gs ws → in_order ps gs ws ≡ true
order_from ps gs ws o = grind (arith, list_all-append {X = ℕ})

marks_known : (gs : List BoltGroup) (ws : List Weld) (k : ℕ) → is_some (record_of (λ n. n) k (component_marks gs ws)) ≡ (is_some (record_of group_mark k gs) || is_some (record_of weld_mark k ws))
marks_known gs ws k = grind (arith, known_append (λ n. n) k (map group_mark gs) (map weld_mark ws), known_map group_mark k gs, known_map weld_mark k ws)

pub marks_less_group : (gs : List BoltGroup) (ws : List Weld) (k : ℕ) → is_some (record_of group_mark k gs) ≡ true →
    component_marks (without group_mark k gs) ws ≡ without (λ n. n) k (component_marks gs ws)
marks_less_group gs ws k is = grind (arith, map_without group_mark k gs, without_front (λ n. n) k (map group_mark gs) (map weld_mark ws), known_map group_mark k gs)

pub marks_less_weld : (gs : List BoltGroup) (ws : List Weld) (k : ℕ) → is_some (record_of group_mark k gs) ≡ false →
    component_marks gs (without weld_mark k ws) ≡ without (λ n. n) k (component_marks gs ws)
marks_less_weld gs ws k is = grind (arith, map_without weld_mark k ws, without_back (λ n. n) k (map group_mark gs) (map weld_mark ws), known_map group_mark k gs)

-- the book in order, with one record more or fewer
module _ (ps : List Plate) (gs : List BoltGroup) (ws : List Weld) (order : in_order ps gs ws ≡ true) where
  abbrev now : Ordered ps gs ws
  now = ordered ps gs ws order

  pub order_plate : (p : Plate) → is_some (record_of plate_mark p.mark ps) ≡ false → in_order (ps ++ (p ∷ [])) gs ws ≡ true
  order_plate p free =
      order_from (ps ++ (p ∷ [])) gs ws (record {
        plates_apart = grind (arith, unrepeated_added plate_mark p ps now.plates_apart);
        marks_apart = now.marks_apart;
        groups_known = known_more p ps _ now.groups_known;
        welds_known = known_more p ps _ now.welds_known;
      })

  -- a mark that no component bears
  free_mark : (k : ℕ) → (is_some (record_of group_mark k gs) || is_some (record_of weld_mark k ws)) ≡ false → record_of (λ n. n) k (component_marks gs ws) ≡ None
  free_mark k free = grind (arith, marks_known gs ws k)

  pub order_group : (g : BoltGroup) → (is_some (record_of group_mark g.marks.mark gs) || is_some (record_of weld_mark g.marks.mark ws)) ≡ false →
      joins (λ g. g.marks) ps g → in_order ps (gs ++ (g ∷ [])) ws ≡ true
  order_group g free joined =
      let same : component_marks (gs ++ (g ∷ [])) ws ≡ map group_mark gs ++ (g.marks.mark ∷ map weld_mark ws) = simp (map-append, append_assoc) in
      order_from ps (gs ++ (g ∷ [])) ws (record {
        plates_apart = now.plates_apart;
        marks_apart = rw same (unrepeated_between (λ n. n) g.marks.mark (map group_mark gs) (map weld_mark ws) now.marks_apart (free_mark g.marks.mark free));
        groups_known = plates_added (λ g. g.marks) ps g gs joined now.groups_known;
        welds_known = now.welds_known;
      })

  pub order_weld : (w : Weld) → (is_some (record_of group_mark w.marks.mark gs) || is_some (record_of weld_mark w.marks.mark ws)) ≡ false →
      joins (λ w. w.marks) ps w → in_order ps gs (ws ++ (w ∷ [])) ≡ true
  order_weld w free joined =
      let same : component_marks gs (ws ++ (w ∷ [])) ≡ component_marks gs ws ++ (w.marks.mark ∷ []) = simp (map-append, append_assoc) in
      order_from ps gs (ws ++ (w ∷ [])) (record {
        plates_apart = now.plates_apart;
        marks_apart = rw same (unrepeated_added (λ n. n) w.marks.mark (component_marks gs ws) now.marks_apart (free_mark w.marks.mark free));
        groups_known = now.groups_known;
        welds_known = plates_added (λ w. w.marks) ps w ws joined now.welds_known;
      })

  -- the marks that are left when one goes
  fewer_apart : (k : ℕ) (ms : List ℕ) → ms ≡ without (λ n. n) k (component_marks gs ws) → unrepeated (λ n. n) ms ≡ true
  fewer_apart k ms same = rw same (unrepeated_without (λ n. n) k (component_marks gs ws) now.marks_apart)

  pub order_less_group : (k : ℕ) → is_some (record_of group_mark k gs) ≡ true → in_order ps (without group_mark k gs) ws ≡ true
  order_less_group k is =
      order_from ps (without group_mark k gs) ws (record {
        plates_apart = now.plates_apart;
        marks_apart = fewer_apart k _ (marks_less_group gs ws k is);
        groups_known = plates_without (λ g. g.marks) ps group_mark k gs now.groups_known;
        welds_known = now.welds_known;
      })

  pub order_less_weld : (k : ℕ) → is_some (record_of group_mark k gs) ≡ false → in_order ps gs (without weld_mark k ws) ≡ true
  order_less_weld k is =
      order_from ps gs (without weld_mark k ws) (record {
        plates_apart = now.plates_apart;
        marks_apart = fewer_apart k _ (marks_less_weld gs ws k is);
        groups_known = now.groups_known;
        welds_known = plates_without (λ w. w.marks) ps weld_mark k ws now.welds_known;
      })

  -- what follows for those who look up
  pub one_component : (k : ℕ) → is_some (record_of group_mark k gs) ≡ true → is_some (record_of weld_mark k ws) ≡ false
  one_component k e = grind (arith, known_map weld_mark k ws, apart (λ n. n) k (map group_mark gs) (map weld_mark ws) now.marks_apart, known_map group_mark k gs)

  pub mark_gone : (k : ℕ) (gs' : List BoltGroup) (ws' : List Weld) → component_marks gs' ws' ≡ without (λ n. n) k (component_marks gs ws) →
      (record_of group_mark k gs' ≡ None) × (record_of weld_mark k ws' ≡ None)
  mark_gone k gs' ws' same = grind (arith, record_without (λ n. n) k (component_marks gs ws) now.marks_apart, marks_known gs' ws' k)
