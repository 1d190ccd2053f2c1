-- What is written over the lists of a builder is its file. Assumes nothing.
use Rattle.numbers.proofs.Prelude.{ℕ, ◌+◌, ◌-◌, ◌*◌, ◌≤◌, ℤ, length, take, drop, length-drop, length-take, length-take-le, List, map, zip_with, ◌≡◌, refl, sym, ap, ◌∙◌, mul_comm, arith}
use Rattle.builder.specs.{Entries.{entry_of_word, table_from, table_of}, File.{assembled, entry_of, file_of, head_from, head_of}, Metadata.{metadata_of, records_of}, Sharing.{firsts, same_texts}}
use Rattle.builder.specs.{Yards.{Text, Plan, cut_by}, inner.Drawing.Section.{spread}}
use Rattle.build.{proofs.{Filing.{Reach, laid_section, reaches}, metadata.Begun.{cut_join}, recording.Written.{recorded_section}}, specs.{Room.{enough}, declared.room.Work.{Work}}}
use Rattle.build.specs.inner.Puts.{Headed, SectionIn, section_from}
use Rattle.draft.proofs.{held.{Fronts.{front_take}, Standing.{held_bytes, holds_stands}, Valued.{held_values}}, summed.{Afresh.{held_table}, Reached.{arranging_laying}}}
use Rattle.draft.proofs.summed.Wholes.{front_lengths, front_sum, front_texts, strings_small, values_sum}
use Rattle.draft.specs.{Held.{Builder.{Builder}, State.{Holds, Lists, front_of}, Totals.{data_of}}, Summed.Ends.{Putting}, declared.held.state.Held.{Held}}
use Rattle.draft.specs.inner.Summed.Sums.{Arranged, Arranging}

module _ (held : Held) (lengths texts : List ℕ) (borders bytes : ℕ) (work : Work) (p : Putting held lengths (length texts) borders bytes work) where
  abbrev from : ℕ
  from = held.names + 1

  abbrev all : ℕ
  all = held.names + 1 + held.names * held.yards

  abbrev value_lengths : List ℕ
  value_lengths = take (held.names + 1 + held.names * held.yards - (held.names + 1)) (drop (held.names + 1) lengths)

  abbrev value_texts : List ℕ
  value_texts = take (held.strings - held.front) (drop held.front texts)

  pub putting_reach : Reach work held.yards (held.names * held.yards) (held.strings - held.front)
  putting_reach = reaches work held.yards (held.names * held.yards) (held.strings - held.front) p.room

  lengths_size : length value_lengths ≡ held.names * held.yards
  lengths_size = length-take-le (all - from) (drop from lengths) (omega (arith, length-drop from lengths, p.fits.all)) ∙ omega arith

  texts_size : length value_texts ≡ held.strings - held.front
  texts_size = length-take-le (held.strings - held.front) (drop held.front texts) (omega (arith, length-drop held.front texts, p.strings, p.fits.order))

  pub putting_arranging : Arranging held.names held.yards value_lengths value_texts borders work
  putting_arranging = record {
    summing = record {
      named = p.fits.named;
      few = p.fits.few;
      all = lengths_size;
      bordered = p.bordered;
      room = ap (enough work held.yards (held.names * held.yards)) texts_size ∙ p.room;
    };
    whole = texts_size ∙ sym (values_sum held lengths p.whole);
    small = omega (arith, texts_size, strings_small held lengths p.whole);
  }

  pub putting_headed : Headed (take from lengths) (take held.front texts)
  putting_headed = let sum = front_sum held lengths p.whole in record {
    whole = omega (arith, sum, length-take-le held.front texts (omega (arith, p.strings, p.fits.order)));
    bound = omega (arith, sum, length-take from lengths, p.fits.named, p.fits.order, strings_small held lengths p.whole);
  }

  pub inside_lengths : held.names + 1 ≤ length lengths
  inside_lengths = omega (arith, p.fits.all)

  pub inside_texts : held.front ≤ length texts
  inside_texts = omega (arith, p.fits.order, p.strings)

  pub putting_section : (boxes : List ℤ) (places₀ before keys kept store words places : List ℕ) (records remote sizes size : ℕ)
      → Arranged held.names held.yards boxes places₀ value_lengths value_texts before keys kept store words places records remote sizes size → SectionIn records remote sizes size kept store words
  putting_section boxes places₀ before keys kept store words places records remote sizes size a =
      laid_section held.names held.yards value_lengths value_texts (lengths_size ∙ mul_comm held.names held.yards) putting_arranging.whole
      (arranging_laying held.names held.yards value_lengths value_texts borders work putting_arranging work.places refl).bound
      (spread 1 (take held.yards places₀) before) kept store words places records remote sizes size a.recorded

-- ---- of a builder that calls have made
module _ (b : Builder) (held : Held) (lists : Lists) (h : Holds b held lists) where
  abbrev plan : Plan
  plan = b.plan

  abbrev held_lengths : List ℕ
  held_lengths = take (held.names + 1 + held.names * held.yards - (held.names + 1)) (drop (held.names + 1) lists.lengths)

  abbrev held_texts : List ℕ
  held_texts = take (held.strings - held.front) (drop held.front lists.texts)

  head_is : head_from held.kind held.version held.precision held.names (cut_by (take (held.names + 1) lists.lengths) (take held.front lists.texts)) ≡ head_of plan
  unfolding head_of
  head_is =
      let texts : cut_by (take (held.names + 1) lists.lengths) (take held.front lists.texts) ≡ front_of plan = ap (λ (l : List ℕ). cut_by l (take held.front lists.texts))
      (front_lengths b held lists h) ∙ (ap (cut_by (map length (front_of plan))) (front_texts b held lists h) ∙ cut_join (front_of plan)) in
      ap (head_from held.kind held.version held.precision held.names) texts ∙ ap (λ (x : Held). head_from x.kind x.version x.precision x.names (front_of plan)) h.is

  pub file_is : (before keys kept store words places : List ℕ) (records remote sizes size : ℕ) → Arranged held.names held.yards lists.boxes
      lists.borders held_lengths held_texts before keys kept store words places records remote sizes size → 2 * held.yards ≤ length before
      → assembled (head_from held.kind held.version held.precision held.names (cut_by (take (held.names + 1) lists.lengths) (take held.front lists.texts)))
      (table_from 0 0 (map (entry_of_word lists.boxes places) (take held.yards keys))) (section_from records (take sizes words) (take sizes kept) (take size store))
      (take held.bytes lists.bytes) ≡ file_of b.plan (data_of b.plan)
  unfolding file_of section_from
  file_is before keys kept store words places records remote sizes size a room =
      let s = holds_stands b held lists h (held.names + 1) (held.names + 1 + held.names * held.yards) refl refl in
      let table : List ℕ = table_from 0 0 (map (entry_of_word lists.boxes places) (take held.yards keys)) in
      let section : List ℕ = section_from records (take sizes words) (take sizes kept) (take size store) in
      let rest : List ℕ = take held.bytes lists.bytes in
      let own : List ℕ = table_of (zip_with (entry_of plan.yards) plan.yards (data_of plan).places) in
      let is_section : section ≡ metadata_of (records_of plan.yards) = recorded_section held.names held.yards held_lengths held_texts
      (spread 1 (take held.yards lists.borders) before) kept store words places records remote sizes size a.recorded
      ∙ ap (λ (vs : List (List Text)). metadata_of (firsts same_texts vs)) (sym (held_values plan.yards (data_of plan) held.names held.yards lists.boxes
      lists.borders held_lengths held_texts s)) in
      let is_bytes : rest ≡ (data_of plan).bytes = ap (λ (n : ℕ). take n lists.bytes) (held_bytes b held lists h) ∙ front_take 0 h.lies.bytes_are in
      ap (λ (head : List ℕ). assembled head table section rest) head_is ∙ (ap (λ (t : List ℕ). assembled (head_of plan) t section rest)
      (held_table plan.yards (data_of plan) held.names held.yards lists.boxes lists.borders held_lengths held_texts s before keys kept store words
      places records remote sizes size a room) ∙ (ap (λ (x : List ℕ). assembled (head_of plan) own x rest) is_section ∙ ap (assembled (head_of plan) own
      (metadata_of (records_of plan.yards))) is_bytes))
