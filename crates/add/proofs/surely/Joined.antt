-- What comes of a yard that is joined by a step. Assumes nothing.
use Rattle.numbers.{proofs.Prelude.{ℕ, ◌+◌, ◌-◌, ◌*◌, ℤ, length, take, drop, set, sets, List, [], ◌∷◌, ◌++◌, ◌≡◌, refl, sym, ap, subst, ◌∙◌, arith}, specs.declared.refusal.Refusal.{Refusal}}
use Rattle.builder.specs.{Borders.{Drawn}, Grouping.Items.{starts_from}, Yards.{Yard}}
use Rattle.add.specs.{Growing.Notes.{Noted, NotedBy, notes_as}, declared.surely.sure.Next.{Next}, inner.Growing.Joins.{Growing, measured_as}}
use Rattle.add.specs.inner.Surely.Sure.{Growths, Joinable, Joins, SureRoom, SurelyAs, Weighing, ended_at, totals_by}
use Rattle.draft.specs.{Held.Totals.{Totals, totals_for}, declared.held.state.Held.{Held}}
use Rattle.notes.specs.{declared.quick.step.Stepped.{Stepped}, inner.{Noted.Noting.{NotesOne}, Quick.Steps.{Grown, Steps}}}
use Rattle.add.proofs.surely.Marked.{unmarked, stepping, noted_more}
use Rattle.numbers.specs.Reply.{Reply, given, refused}
use Rattle.std.specs.Prelude.{Option, Some, None}

-- ---- nothing was done
pub joins_none : (held : Held) (noted strings size : ℕ) (sizes : List ℕ) (boxes : List ℤ) (borders texts marks chains groups begins : List ℕ)
    → Joins held noted strings size sizes boxes borders texts (notes_as marks chains groups begins) (notes_as marks chains groups begins) (given None)
unfolding SurelyAs
joins_none held noted strings size sizes boxes borders texts marks chains groups begins = λ yards y drawn drawn' lengths g valued whole n. refl

-- ---- the totals by a sure step
totals_same : (a b c d a' b' c' d' : ℕ) (e e' : ℤ) → a ≡ a' → b ≡ b' → c ≡ c' → d ≡ d' → e ≡ e'
    → ◌≡◌ {A = Totals} (record { table = a; metadata = b; bytes = c; yards = d; greatest = e }) (record { table = a'; metadata = b'; bytes = c'; yards = d'; greatest = e' })
totals_same a b c d a' b' c' d' e e' p q r s t = rw (p, q, r, s, t)

same_totals : (yards : List Yard) (y : Yard) (drawn drawn' : Drawn) (held : Held) (size : ℕ) (boxes : List ℤ) (borders lengths texts : List ℕ)
    → Growing yards y drawn drawn' held size boxes borders lengths texts → (s : Stepped) → Grown yards y drawn' s → totals_by held size s ≡ totals_for (yards ++ (y ∷ [])) drawn'
unfolding totals_for
same_totals yards y drawn drawn' held size boxes borders lengths texts g s grown = let t : Totals = totals_for (yards ++ (y ∷ [])) drawn' in
    totals_same s.table s.metadata (held.bytes + size) (held.yards + 1) t.table t.metadata t.bytes t.yards s.greatest t.greatest grown.table grown.metadata
    (sym g.bytes) g.stands.many grown.greatest

module _ (held : Held) (noted strings size : ℕ) (sizes : List ℕ) (boxes : List ℤ) (borders texts marks chains groups begins after : List ℕ) (weighed : Option Stepped) (growth : Reply (Option Next))
    (pre : Joinable held size sizes (length texts) (length boxes) (length borders) (length marks) (length chains) (length groups) (length begins)) (some : noted ≡ 0 → ⊥)
    (put : after ≡ sets marks (held.yards * held.names + 1) (drop 1 (starts_from (held.strings - held.front) sizes)))
    (told : Weighing held noted boxes borders texts after chains groups begins weighed) (grew : Growths held strings size weighed growth) where
  -- ---- it was marked, and unmarked again
  module _ (again : List ℕ) (cut : again ≡ ended_at (held.yards * held.names + 1) after) where
    pub joins_unsure : Joins held noted strings size sizes boxes borders texts (notes_as marks chains groups begins) (notes_as again chains groups begins) (given None)
    unfolding SurelyAs NotedBy
    joins_unsure = λ yards y drawn drawn' lengths g valued whole n.
        ap (λ (l : List ℕ). notes_as l chains groups begins)
        (unmarked yards y drawn drawn' held size boxes borders lengths texts g sizes valued whole noted marks chains groups begins (n (omega (arith, some))) after put again cut)

    pub joins_refused : (why : Refusal) → growth ≡ refused why →
        Joins held noted strings size sizes boxes borders texts (notes_as marks chains groups begins) (notes_as again chains groups begins) (refused why)
    unfolding SurelyAs NotedBy Growths Steps
    joins_refused why is = λ yards y drawn drawn' lengths g valued whole n.
        let notes = n (omega (arith, some)) in
        let by = subst (Growths held strings size weighed) is grew in
        let s : Stepped = by.0 in
        let all = stepping yards y drawn drawn' held size boxes borders lengths texts g sizes valued whole noted marks chains groups begins notes after put pre.valued pre.room.noted.marked in
        let grown : Grown yards y drawn' s = subst (Steps yards y drawn') by.1.0 (told yards y drawn drawn' lengths all) in (
          by.1.1 ∙ ap (measured_as held strings) (same_totals yards y drawn drawn' held size boxes borders lengths texts g s grown),
          ap (λ (l : List ℕ). notes_as l chains groups begins)
              (unmarked yards y drawn drawn' held size boxes borders lengths texts g sizes valued whole noted marks chains groups begins notes after put again cut),
        )

  -- ---- it is in
  pub joins_into : (next : Next) → growth ≡ given (Some next) → (chains' groups' begins' : List ℕ)
      → NotesOne held.names held.yards (take ((held.yards + 1) * held.names + 1) after) texts chains groups chains' groups' → begins' ≡ set begins held.yards next.begin
      → Joins held noted strings size sizes boxes borders texts (notes_as marks chains groups begins) (notes_as after chains' groups' begins') (given (Some next))
  unfolding SurelyAs NotedBy Growths Steps
  joins_into next is chains' groups' begins' one begun = λ yards y drawn drawn' lengths g valued whole n.
      let notes = n (omega (arith, some)) in
      let by = subst (Growths held strings size weighed) is grew in
      let s : Stepped = by.0 in
      let all = stepping yards y drawn drawn' held size boxes borders lengths texts g sizes valued whole noted marks chains groups begins notes after put pre.valued pre.room.noted.marked in
      let grown : Grown yards y drawn' s = subst (Steps yards y drawn') by.1.0 (told yards y drawn drawn' lengths all) in
      let more = noted_more yards y drawn drawn' held size boxes borders lengths texts g sizes valued whole noted marks chains groups begins notes after put pre.valued
      pre.room.noted.marked s grown (omega (arith, pre.room.noted.begun)) chains' groups' begins' one (begun ∙ ap (set begins held.yards) by.1.1.1.1) in (
        by.1.1.0 ∙ ap (measured_as held strings) (same_totals yards y drawn drawn' held size boxes borders lengths texts g s grown),
        subst (λ (k : ℕ). Noted held.names (yards ++ (y ∷ [])) k (notes_as after chains' groups' begins')) (sym by.1.1.1.0) more,
      )

-- ---- lists of the same lengths, with other marks
pub sure_marked : (held : Held) (boxes borders marks chains groups begins marks' : ℕ) → SureRoom held boxes borders marks chains groups begins → marks' ≡ marks
    → SureRoom held (4 * held.yards + 4) (held.yards + 1) marks' chains groups begins
sure_marked held boxes borders marks chains groups begins marks' r e = let n = r.noted in record {
  few_names = r.few_names;
  few_yards = r.few_yards;
  boxed = omega arith;
  bordered = omega arith;
  noted = record { marked = omega (arith, n.marked, e); chained = n.chained; grouped = n.grouped; begun = n.begun };
}
