-- The rows of lines that are taken one by one.
use Rattle.std.proofs.Common.{◌≡◌, ℕ, ◌+◌, ◌<◌, Bool, false, eqb, List, ◌++◌, length, get_or, drop, sym, ap, ◌∙◌, append_assoc, append-nil, arith}
use denote.Param.Members.{Mut}
use denote.Ref.{Bor}
use Rattle.std.specs.declared.iter.Enumerate.{Enumerate}
use Rattle.std.specs.declared.slice.Split.{Split}
use Rattle.std.specs.Fn.{CalledAt}
use Rattle.std.specs.Iterator.Adapters.{enumerate_source, enumerate_count, enumerate_steps}
use Rattle.std.specs.Slice.Iter.{split_rest, split_done, split_callee, split_steps}
use Rattle.std.proofs.lemmas.Iterator.{YieldsList}
use Rattle.std.proofs.lemmas.Iterator.Consumers.{YieldsList-at, YieldsList-from_enumerate}
use Rattle.std.proofs.lemmas.Iterator.Splits.{YieldsList-from_slice_split}
use Rattle.std.specs.List.{enumerate_from, flat_map, slice_split}
use Rattle.std.proofs.lemmas.List.{at_drop_more, at_drop_all}
use Rattle.std.proofs.lemmas.List.FromFn.{get_or-enumerate_from, length-enumerate_from}
use Rattle.workshop.specs.Acts.{Done}
use Rattle.workshop.specs.Lines.{ended, lines_in}
use Rattle.workshop.specs.Rows.{row_bytes}
use Rattle.workshop.specs.Stages.{State, Step, start, step}
use Rattle.workshop.specs.Report.{row_of, rows_from}
use Rattle.workshop.proofs.Splitting.{lines_split}

module _ (text : List ℕ) where
  abbrev lines : List (List ℕ)
  lines = slice_split (λ b. eqb b 10) text

  -- the rows from a state on of the lines behind the first k
  abbrev pub rows_left : ℕ → State → List ℕ
  rows_left k s = flat_map row_bytes (rows_from (k + 1) s (drop k lines))

  module _ (k : ℕ) (s : State) (before whole : List ℕ) (left : before ++ rows_left k s ≡ whole) where
    pub row_more : (i : ℕ) (line : List ℕ) (t : State) (d : Done) (after : List ℕ) →
        (k < length (enumerate_from 0 lines)) × ((i, line) ≡ get_or (enumerate_from 0 lines) k (i, line)) →
        (t, d) ≡ step s line → after ≡ before ++ row_bytes (row_of (i + 1) d) → after ++ rows_left (k + 1) t ≡ whole
    row_more i line t d after turn stepped printed =
        let more : k < length lines = omega (arith, turn.0, length-enumerate_from 0 lines) in
        let here : ◌≡◌ {A = ℕ × List ℕ} (i, line) (0 + k, get_or lines k line) = turn.1 ∙ get_or-enumerate_from 0 lines k (i, line) more in
        let i-is : i ≡ k = omega (arith, ap (λ (p : ℕ × List ℕ). p.0) here) in
        let taken : ◌≡◌ {A = Step} (t, d) (step s (get_or lines k line)) = stepped ∙ ap (λ (p : ℕ × List ℕ). step s p.1) here in
        let cut = at_drop_more (λ ls. flat_map row_bytes (rows_from (k + 1) s ls)) lines k line more in
        let joined = append_assoc before (row_bytes (row_of (k + 1) d)) (rows_left (k + 1) t) in
        let same = ap (λ (p : Step). before ++ (row_bytes (row_of (k + 1) p.1) ++ rows_left (k + 1) p.0)) taken in
        cc

    pub rows_end : k ≡ length (enumerate_from 0 lines) → before ≡ whole
    rows_end end =
        sym (append-nil before)
        ∙ sym (ap (λ l. before ++ l) (at_drop_all (λ ls. flat_map row_bytes (rows_from (k + 1) s ls)) lines k (omega (arith, end, length-enumerate_from 0 lines))))
        ∙ left

  -- at first all are left
  pub rows_all : rows_left 0 start ≡ flat_map row_bytes (rows_from 1 start (lines_in (ended text)))
  rows_all = ap (λ ls. flat_map row_bytes (rows_from 1 start ls)) (sym (lines_split text))

-- a text cut at its line feeds and counted gives its lines, each with its index; the premises are the clauses of the calls
pub lines_counted : {F : Type 0} {s t : Enumerate (Split ℕ F)} {u : Split ℕ F} (g : Mut F (Bor ℕ × Unit {0}) Bool) (text : List ℕ) {f : F} →
    s ≡ t → enumerate_source t ≡ u → enumerate_count t ≡ 0 → split_rest u ≡ text → split_done u ≡ false → split_callee u ≡ f →
    ((x : ℕ) (b : Bool) (q : F) → CalledAt g f x b q → (q ≡ f) × (b ≡ eqb x 10)) →
    YieldsList {B = ℕ × List ℕ} (enumerate_steps (split_steps g)) (λ p. (p.0, p.1.now)) s (enumerate_from 0 (lines text))
lines_counted g text gives source count rest done closure test =
    YieldsList-at gives (YieldsList-from_enumerate (YieldsList-at source (YieldsList-from_slice_split g (λ b. eqb b 10) text rest done closure test)) count)
