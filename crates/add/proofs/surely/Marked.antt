-- The lists that a step is taken of: the notes of some yards, and the marks of one more. Assumes nothing.
use Rattle.numbers.proofs.Prelude.{ℕ, ◌+◌, ◌-◌, ◌*◌, ◌<◌, ℤ, length, take, drop, set, length-append, length-drop, length-map, sets, take_at, List, [], ◌∷◌, ◌++◌, map, ◌≡◌, refl, sym, ap, subst, ◌∙◌}
use Rattle.numbers.proofs.Prelude.{mul_comm, arith}
use Rattle.builder.{proofs.grouping.Meant.{starts_many}, specs.{Borders.{Drawn}, Grouping.Items.{starts_from}, Metadata.{fields_of}, Yards.{Text, Yard, sum_of}}}
use Rattle.notes.{proofs.noted.{Growing.{indexed_more}, Noting.{yard_next}}, specs.{Chains.Entered.{Indexed}, Noted.Records.{begin_in}, declared.quick.step.Stepped.{Stepped}}}
use Rattle.notes.specs.inner.{Noted.Noting.{NotesOne}, Quick.Steps.{Stepping, Grown}}
use Rattle.add.specs.{Growing.Notes.{Noted, notes_as, values_in}, inner.{Growing.Joins.{Growing}, Surely.Sure.{ended_at, numbers_of}}}
use Rattle.draft.{proofs.held.{Everyone.{every_take}, Fronts.{front_take, front_put, front_back}, Standing.{fields_many}}, specs.{Held.State.{Front}, declared.held.state.Held.{Held}}}
use Rattle.build.{proofs.{metadata.Shared.{map_more, flat_more, fields_more, fields_one}, recording.Fewer.{joined_sum}}, specs.Metadata.Kept.{joined}}

-- ---- where parts begin, with more behind
starts_more : (at : ℕ) (xs ys : List ℕ) → starts_from at (xs ++ ys) ≡ starts_from at xs ++ drop 1 (starts_from (at + sum_of xs) ys)
unfolding starts_from sum_of
starts_more at [] [] = refl
starts_more at [] (n ∷ ns) = let e : at ≡ at + 0 = omega arith in ap (λ (k : ℕ). at ∷ starts_from (k + n) ns) e
starts_more at (n ∷ xs) ys = let e : at + n + sum_of xs ≡ at + (n + sum_of xs) = omega arith in
    ap (λ (l : List ℕ). at ∷ l) (starts_more (at + n) xs ys ∙ ap (λ (k : ℕ). starts_from (at + n) xs ++ drop 1 (starts_from k ys)) e)

-- ---- some yards in a builder's lists, with one more
module _ (yards : List Yard) (y : Yard) (drawn drawn' : Drawn) (held : Held) (size : ℕ) (boxes : List ℤ) (borders lengths texts : List ℕ)
    (g : Growing yards y drawn drawn' held size boxes borders lengths texts)
    (sizes : List ℕ) (valued : sizes ≡ map length y.values) (whole : held.strings - held.front + sum_of sizes ≡ length texts)
    (noted : ℕ) (marks chains groups begins : List ℕ) (n : Noted held.names yards noted (notes_as marks chains groups begins))
    (after : List ℕ) (put : after ≡ sets marks (held.yards * held.names + 1) (drop 1 (starts_from (held.strings - held.front) sizes))) where
  old : List ℕ
  old = map length (values_in yards)

  values_split : values_in (yards ++ (y ∷ [])) ≡ values_in yards ++ y.values
  values_split =
      ap fields_of (map_more (λ y. y.values) yards (y ∷ [])) ∙ (fields_more (map (λ y. y.values) yards) (y.values ∷ []) ∙ ap (λ (l : List Text). values_in yards ++ l) (fields_one y.values))

  lengths_split : lengths ≡ old ++ sizes
  unfolding old
  lengths_split = g.stands.lengths_are ∙ (ap (map length) values_split ∙ (map_more length (values_in yards) y.values ∙ ap (λ (l : List ℕ). map length (values_in yards) ++ l) (sym valued)))

  texts_split : texts ≡ joined (values_in yards) ++ joined y.values
  texts_split = g.stands.texts_are ∙ (ap joined values_split ∙ flat_more (λ t. t) (values_in yards) y.values)

  old_sum : length (joined (values_in yards)) ≡ sum_of old
  unfolding old
  old_sum = joined_sum (values_in yards)

  -- the values that are held end where the new ones begin
  begin_is : held.strings - held.front ≡ sum_of old
  begin_is = let all = ap length texts_split ∙ length-append (joined (values_in yards)) (joined y.values) in
      omega (arith, all, whole, old_sum, joined_sum y.values, ap sum_of valued)

  old_many : length old ≡ held.yards * held.names
  unfolding old
  old_many = let held-valued = every_take _ (length yards) (yards ++ (y ∷ [])) g.stands.valued in let here = take_at yards (y ∷ []) (length yards) refl in
      length-map (values_in yards) length ∙ (fields_many held.names yards (rw here at held-valued) ∙ (ap (λ (k : ℕ). held.names * k) (sym g.many) ∙ mul_comm held.names held.yards))

  new_many : length sizes ≡ held.names → length lengths ≡ (held.yards + 1) * held.names
  new_many e = ap length lengths_split ∙ (length-append old sizes ∙ omega (arith, old_many, e, yard_next held.yards held.names))

  front_many : length (starts_from 0 old) ≡ held.yards * held.names + 1
  front_many = omega (arith, starts_many 0 old, old_many)

  -- ---- unmarked, the marks are what they were
  pub unmarked : (again : List ℕ) → again ≡ ended_at (held.yards * held.names + 1) after → again ≡ marks
  unfolding old
  unmarked again e = front_back 0 n.lists.marks_are (drop 1 (starts_from (held.strings - held.front) sizes)) after again (held.yards * held.names + 1) (sym front_many) put e

  module _ (named : length sizes ≡ held.names) (room : (held.yards + 1) * held.names < length marks) where
    marks_front : Front 0 (starts_from 0 lengths) after
    unfolding old
    marks_front = let more : List ℕ = drop 1 (starts_from (sum_of old) sizes) in
        let begin : starts_from (held.strings - held.front) sizes ≡ starts_from (sum_of old) sizes = ap (λ (k : ℕ). starts_from k sizes) begin_is in
        let here : after ≡ sets marks (length (starts_from 0 old)) more = put ∙ (ap (λ (l : List ℕ). sets marks (held.yards * held.names + 1) (drop 1 l)) begin
        ∙ ap (λ (k : ℕ). sets marks k more) (sym front_many)) in
        let many : length more ≡ held.names = omega (arith, length-drop 1 (starts_from (sum_of old) sizes), starts_many (sum_of old) sizes, named) in
        let none : 0 + sum_of old ≡ sum_of old = omega arith in
        let all : starts_from 0 lengths ≡ starts_from 0 old ++ more = ap (starts_from 0) lengths_split ∙ (starts_more 0 old sizes
        ∙ ap (λ (k : ℕ). starts_from 0 old ++ drop 1 (starts_from k sizes)) none) in
        subst (λ (l : List ℕ). Front 0 l after) (sym all) (front_put 0 n.lists.marks_are more after (omega (arith, many, front_many, room, yard_next held.yards held.names)) here)

    starts_are : take ((held.yards + 1) * held.names + 1) after ≡ starts_from 0 lengths
    starts_are = let e : (held.yards + 1) * held.names + 1 ≡ length (starts_from 0 lengths) = omega (arith, starts_many 0 lengths, new_many named) in
        ap (λ (k : ℕ). take k after) e ∙ front_take 0 marks_front

    -- the notes of the yards that are held, over the lists that have the new one
    indexed_all : Indexed held.names lengths texts held.yards chains groups
    unfolding old
    indexed_all =
        let i : Indexed held.names old (joined (values_in yards)) held.yards chains groups =
        subst (λ (k : ℕ). Indexed held.names old (joined (values_in yards)) k chains groups) (sym g.many) n.lists.indexed in
        let more : Indexed held.names (old ++ sizes) (joined (values_in yards) ++ joined y.values) held.yards chains groups =
        indexed_more old (joined (values_in yards)) sizes (joined y.values) (omega (arith, old_sum)) held.names held.yards (omega (arith, old_many)) chains groups i in
        subst (λ (l : List ℕ). Indexed held.names l texts held.yards chains groups) (sym lengths_split)
        (subst (λ (t : List ℕ). Indexed held.names (old ++ sizes) t held.yards chains groups) (sym texts_split) more)

    begins_many : length (map (begin_in yards) yards) ≡ held.yards
    begins_many = length-map yards (begin_in yards) ∙ sym g.many

    pub stepping : Stepping yards y drawn drawn' held.names held.yards (numbers_of held noted) boxes borders lengths (take ((held.yards + 1) * held.names + 1) after) texts chains groups begins
    stepping = record {
      many = g.many;
      stands = g.stands;
      place = g.place;
      placed = g.placed;
      drawn_many = g.drawn_many;
      table_is = g.table_is;
      metadata_is = g.metadata_is;
      greatest_is = g.greatest_is;
      records_is = omega (arith, n.number);
      starts_are = starts_are;
      indexed = indexed_all;
      begins_are = ap (λ (k : ℕ). take k begins) (sym begins_many) ∙ front_take 0 n.lists.begins_are;
    }

    -- ---- the notes with the yard
    module _ (s : Stepped) (grown : Grown yards y drawn' s) (space : held.yards < length begins) (chains' groups' begins' : List ℕ)
        (one : NotesOne held.names held.yards (take ((held.yards + 1) * held.names + 1) after) texts chains groups chains' groups')
        (begun : begins' ≡ set begins held.yards s.begin) where
      indexed_new : Indexed held.names lengths texts (held.yards + 1) chains' groups'
      indexed_new =
          let sum : sum_of lengths ≡ length texts = ap sum_of g.stands.lengths_are ∙ (sym (joined_sum (values_in (yards ++ (y ∷ [])))) ∙ ap length (sym g.stands.texts_are)) in
          one lengths starts_are (omega (arith, sum)) (omega (arith, new_many named)) indexed_all

      begins_new : Front 0 (map (begin_in (yards ++ (y ∷ []))) (yards ++ (y ∷ []))) begins'
      begins_new =
          subst (λ (l : List ℕ). Front 0 l begins') (sym grown.begins)
          (front_put 0 n.lists.begins_are (s.begin ∷ []) begins' (omega (arith, begins_many, space)) (begun ∙ ap (λ (k : ℕ). sets begins k (s.begin ∷ [])) (sym begins_many)))

      pub noted_more : Noted held.names (yards ++ (y ∷ [])) (1 + s.records) (notes_as after chains' groups' begins')
      noted_more = record {
        number = ap (λ (k : ℕ). 1 + k) grown.records;
        lists = record {
          marks_are = subst (λ (l : List ℕ). Front 0 (starts_from 0 l) after) g.stands.lengths_are marks_front;
          indexed =
              subst (λ (k : ℕ). Indexed held.names (map length (values_in (yards ++ (y ∷ [])))) (joined (values_in (yards ++ (y ∷ [])))) k chains' groups') g.stands.many
              (subst (λ (t : List ℕ). Indexed held.names (map length (values_in (yards ++ (y ∷ [])))) t (held.yards + 1) chains' groups') g.stands.texts_are
              (subst (λ (l : List ℕ). Indexed held.names l texts (held.yards + 1) chains' groups') g.stands.lengths_are indexed_new));
          begins_are = begins_new;
        };
      }
