-- A yard that lies in the lists, settled by a sure step or by a fresh sum. Assumes nothing.
use Rattle.numbers.proofs.Prelude.{ℕ, ◌+◌, ◌-◌, ◌*◌, ◌≤◌, ℤ, length, drop, length-drop, length-take, List, [], ◌∷◌, ◌++◌, map, ◌≡◌, refl, sym, ap, subst, ◌∙◌, arith}
use Rattle.numbers.specs.{Reply.{Reply, given, refused}, declared.refusal.Refusal.{Refusal}}
use Rattle.add.specs.{Growing.{Joins.{Renoted}, Notes.{Notes, NotedBy, NotesRoom}}, declared.{growing.grow.Added.{Added}, surely.sure.Next.{Next}}}
use Rattle.add.specs.inner.{Afresh.Afresh.{Lying}, Growing.Joins.{Growing, Grew}, Joining.Joins.{Measuring, Settles, values_end, value_lengths, value_texts}, Offered.Puts.{Placed}}
use Rattle.add.specs.inner.Surely.Sure.{Joinable, SurelyAs}
use Rattle.build.specs.{Room.{enough, work_of}, declared.room.Work.{Work}}
use Rattle.builder.{proofs.Counting.{lengths_room}, specs.{Borders.{Drawn}, Yards.{Yard, sum_of}}}
use Rattle.draft.specs.{Held.State.{Lists}, declared.held.state.Held.{Held}}
use Rattle.add.specs.inner.Afresh.Afresh
use Rattle.add.specs.inner.Surely.Sure
use Rattle.std.specs.Prelude.{Option, Some, None}

pub notes_as : (names yards a b c d a' b' c' d' : ℕ) → a' ≡ a → b' ≡ b → c' ≡ c → d' ≡ d → NotesRoom names yards a b c d → NotesRoom names yards a' b' c' d'
notes_as names yards a b c d a' b' c' d' ea eb ec ed n =
    record { marked = omega (arith, n.marked, ea); chained = omega (arith, n.chained, eb); grouped = omega (arith, n.grouped, ec); begun = omega (arith, n.begun, ed) }

-- ---- the parts of the lists that are lent
module _ (held : Held) (sizes : List ℕ) (strings size borders : ℕ) (lengths texts : List ℕ) (work : Work) (marks chains groups begins : ℕ)
    (m : Measuring held sizes strings size borders (length lengths) (length texts) work marks chains groups begins) where
  pub values_few : held.names * (held.yards + 1) ≤ 1044480
  values_few = lengths_room held.names (held.yards + 1) m.few_names (omega (arith, m.few_yards))

  pub texts_many : length (value_texts held strings texts) ≡ strings - held.front
  texts_many = omega (arith, length-take (strings - held.front) (drop held.front texts), length-drop held.front texts, m.texts_room, m.order, m.longer)

  lengths_many : length (value_lengths held lengths) ≡ held.names * (held.yards + 1)
  lengths_many = omega (arith, length-take (values_end held - (held.names + 1)) (drop (held.names + 1) lengths), length-drop (held.names + 1) lengths, m.lengths_room)

  pub joinable : Joinable held size sizes (length (value_texts held strings texts)) work.boxes borders marks chains groups begins
  joinable =
      record {
        room = record { few_names = m.few_names; few_yards = m.few_yards; boxed = omega (arith, m.boxes_room); bordered = omega (arith, m.borders_room); noted = m.noted };
        few_bytes = m.few_bytes;
        order = m.order;
        inside = omega (arith, texts_many, m.order, m.longer);
        valued = m.valued;
        few_values = m.few_values;
      }

  pub measurable : Afresh.Measuring held size borders (length (value_lengths held lengths)) (length (value_texts held strings texts)) work
  measurable =
      record {
        few_bytes = m.few_bytes;
        few_yards = m.few_yards;
        summing =
            record {
              named = m.few_names;
              few = omega (arith, m.few_yards);
              all = lengths_many;
              bordered = m.borders_room;
              room = ap (enough work (held.yards + 1) (held.names * (held.yards + 1))) texts_many ∙ m.work_room;
            };
      }

  -- ---- what was settled
  module _ (noted : ℕ) (boxes : List ℤ) (border-places : List ℕ) (before middle : Notes) (s : Reply (Option Next))
      (sure : Sure.Joins held noted strings size sizes boxes border-places (value_texts held strings texts) before middle s) where
    surely : (yards : List Yard) (y : Yard) (drawn drawn' : Drawn) → Growing yards y drawn drawn' held size boxes border-places (value_lengths held lengths) (value_texts held strings texts) →
        sizes ≡ map length y.values
        → held.strings + sum_of sizes ≡ strings → NotedBy held.names yards noted before → SurelyAs held strings (yards ++ (y ∷ [])) drawn' before middle s
    surely yards y drawn drawn' g sizes_are end right =
        sure yards y drawn drawn' (value_lengths held lengths) g sizes_are (omega (arith, texts_many, end, m.order)) right

    pub settled_into : (next : Next) → s ≡ given (Some next) →
        Settles held noted strings size sizes boxes border-places lengths texts before middle (record { changed = given next.held; noted = next.noted })
    unfolding SurelyAs Renoted
    settled_into next is yards y drawn drawn' g sizes_are end right =
        let two = subst (SurelyAs held strings (yards ++ (y ∷ [])) drawn' before middle) is (surely yards y drawn drawn' g sizes_are end right) in
        record { changed = two.0; notes = two.1 }

    pub settled_not : (why : Refusal) → s ≡ refused why → Settles held noted strings size sizes boxes border-places lengths texts before middle (record { changed = refused why; noted = noted })
    unfolding SurelyAs Renoted
    settled_not why is yards y drawn drawn' g sizes_are end right =
        let two = subst (SurelyAs held strings (yards ++ (y ∷ [])) drawn' before middle) is (surely yards y drawn drawn' g sizes_are end right) in
        record { changed = two.0; notes = (refl, two.1) }

    pub settled_afresh : s ≡ given None → (after : Notes) (r : Added) → Lying held size boxes border-places (value_lengths held lengths) (value_texts held strings texts)
        (λ yards drawn. Grew yards drawn held strings noted middle after r) → Settles held noted strings size sizes boxes border-places lengths texts before after r
    unfolding SurelyAs
    settled_afresh is after r lying yards y drawn drawn' g sizes_are end right =
        let same : middle ≡ before = subst (SurelyAs held strings (yards ++ (y ∷ [])) drawn' before middle) is (surely yards y drawn drawn' g sizes_are end right) in
        subst (λ (n : Notes). Grew (yards ++ (y ∷ [])) drawn' held strings noted n after r) same (lying (yards ++ (y ∷ [])) drawn' g.bytes g.stands)

-- ---- after the yard was put
pub measuring_as : (held : Held) (sizes : List ℕ) (strings size a b c d a' b' c' d' starts keys spare kept bytes words places marks chains groups begins : ℕ) → a' ≡ a → b' ≡ b → c' ≡ c → d' ≡ d
    → Measuring held sizes strings size a b c (work_of starts keys spare kept bytes words places d) marks chains groups begins →
    Measuring held sizes strings size a' b' c' (work_of starts keys spare kept bytes words places d') marks chains groups begins
measuring_as held sizes strings size a b c d a' b' c' d' starts keys spare kept bytes words places marks chains groups begins ea eb ec ed m =
    subst (λ (n : ℕ). Measuring held sizes strings size n b' c' (work_of starts keys spare kept bytes words places d') marks chains groups begins) (sym ea)
    (subst (λ (n : ℕ). Measuring held sizes strings size a n c' (work_of starts keys spare kept bytes words places d') marks chains groups begins) (sym eb)
    (subst (λ (n : ℕ). Measuring held sizes strings size a b n (work_of starts keys spare kept bytes words places d') marks chains groups begins) (sym ec)
    (subst (λ (n : ℕ). Measuring held sizes strings size a b c (work_of starts keys spare kept bytes words places n) marks chains groups begins) (sym ed) m)))

pub placed_after : (held : Held) (sizes values border : ℕ) (before after : Lists) → Placed held sizes values border before → length after.boxes ≡ length before.boxes
    → length after.borders ≡ length before.borders → length after.lengths ≡ length before.lengths → length after.texts ≡ length before.texts
    → length after.bytes ≡ length before.bytes → Placed held 0 0 0 after
placed_after held sizes values border before after p boxes borders lengths texts bytes =
    record {
      few_names = p.few_names;
      few_yards = p.few_yards;
      few_sizes = omega arith;
      few_values = omega arith;
      few_bytes = omega (arith, p.few_bytes);
      boxes_room = omega (arith, p.boxes_room, boxes);
      borders_room = omega (arith, p.borders_room, borders);
      lengths_room = omega (arith, p.lengths_room, lengths);
      texts_room = omega (arith, p.texts_room, texts);
      bytes_room = omega (arith, p.bytes_room, bytes);
    }
