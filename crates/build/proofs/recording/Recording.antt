-- From the values of all yards to the layout of the metadata section. Assumes nothing.
use Rattle.numbers.proofs.Prelude.{ℕ, ◌+◌, ◌*◌, ◌^◌, ◌≤◌, ◌<◌, length, take, drop, get_or, length-map, take-append_seam, List, ◌++◌, map, ◌≡◌, sym, ap, subst, ◌∙◌, arith}
use lib.Seq.{length_front}
use Rattle.writer.proofs.Stores.{stored_front, stored_length}
use Rattle.builder.{proofs.{Counting.{cut_many}, grouping.Meant.{starts_inside}}, specs.{Grouping.{Items.{starts_from, Inside}, Keys.{numbers_from, keys_of, first_of}}, Metadata.{layout_of}}}
use Rattle.builder.specs.{Yards.{Text, cut_by, sum_of}, inner.Drawing.Section.{spread}}
use Rattle.std.specs.Prelude.{Option, Some, None}
use Rattle.layout.specs.{inner.{Answers.{LaidOut}, Layout.{Least}}}
use Rattle.build.proofs.{metadata.{Begun.{cut_join}, Itemed.{cut_lengths}}, recording.{Fewer.{fields_few, fields_short, layout_few, joined_sum}, Laying.{layout_found, layout_there}}}
use Rattle.build.proofs.recording.Spreading.{spread_size, spread_again, spread_read, numbered_many}
use Rattle.build.specs.{Metadata.Kept.{fields_to, joined, Keeps, begin_of, Ready}, inner.{Metadata.Words.{Marked, Wording}, Recording.Recorded.{Short, Shares, Fields, Fielded, Laying, Recorded}}}

-- ---- a list of which the front was lent
pub front_same : (d e : List ℕ) (n whole : ℕ) → length e ≡ length (take n d) → length d ≡ whole → length (e ++ drop n d) ≡ whole
front_same d e n whole kept is = length_front d e n kept ∙ is

pub front_reach : (d e : List ℕ) (n k : ℕ) → length e ≡ length (take n d) → k ≤ length d → k ≤ length (e ++ drop n d)
front_reach d e n k kept h = omega (arith, length_front d e n kept, h)

-- ---- the least length
pub least_found : (inline : ℕ) (words : List ℕ) (laid : Option ℕ) → LaidOut inline words laid → (records : ℕ) → laid ≡ Some records → Least inline words records
unfolding LaidOut
least_found inline words laid l records e = (subst (LaidOut inline words) e l).0

pub least_small : (inline : ℕ) (words : List ℕ) (laid : Option ℕ) → LaidOut inline words laid → (records : ℕ) → laid ≡ Some records → records < 2 ^ 32
unfolding LaidOut
least_small inline words laid l records e = (subst (LaidOut inline words) e l).1

-- one below 2 ^ 32 is found
pub least_there : (inline : ℕ) (words : List ℕ) → Short inline words → (laid : Option ℕ) → LaidOut inline words laid → laid ≡ None → (records : ℕ) → Least inline words records
unfolding LaidOut
least_there inline words s (Some n) l t records = let z : ◌≡◌ {A = ℕ} 0 1 = cc in absurd (omega arith)
least_there inline words s None l t records = absurd (omega (arith, l s.records s.is.fits, s.small))

-- ---- the records that yards share
pub share_inside : (names count : ℕ) (lengths texts : List ℕ) (starts spare places : ℕ) → Shares names count lengths texts starts spare places → (begins : List ℕ) →
    begins ≡ starts_from 0 lengths → Inside begins texts (count * names)
share_inside names count lengths texts starts spare places s begins e =
    subst (λ (b : List ℕ). Inside b texts (count * names)) (sym e) (subst (λ (n : ℕ). Inside (starts_from 0 lengths) texts n) s.all (starts_inside lengths texts (omega (arith, s.whole))))

-- words in order, counted by themselves
pub order_own : (starts texts : List ℕ) (width count : ℕ) (order : List ℕ) → length order ≡ count → order ≡ keys_of starts texts width count → order ≡ keys_of starts texts width (length order)
order_own starts texts width count order many is = is ∙ ap (keys_of starts texts width) (sym many)

pub share_all : (names count : ℕ) (lengths texts : List ℕ) (starts spare places : ℕ) → Shares names count lengths texts starts spare places → (n : ℕ) → n ≡ count → length lengths ≡ n * names
share_all names count lengths texts starts spare places s n e = s.all ∙ ap (λ (k : ℕ). k * names) (sym e)

pub keeps_as : (names n m : ℕ) (lengths texts before places kept kept' held held' : List ℕ) (sizes bytes : ℕ) → n ≡ m →
    Keeps names n lengths texts before places kept kept' held held' sizes bytes → Keeps names m lengths texts before places kept kept' held held' sizes bytes
keeps_as names n m lengths texts before places kept kept' held held' sizes bytes e k = subst (λ (c : ℕ). Keeps names c lengths texts before places kept kept' held held' sizes bytes) e k

-- ---- the words of the records' fields
module _ (lengths texts : List ℕ) (starts keys spare words : ℕ) (f : Fields lengths texts starts keys spare words) where
  abbrev fields : List Text
  fields = cut_by lengths texts

  pub fields_inside : (begins : List ℕ) → begins ≡ starts_from 0 lengths → Inside begins texts (keys * 1)
  fields_inside begins e = let n : length lengths ≡ keys * 1 = omega (arith, f.keys_room) in
      subst (λ (b : List ℕ). Inside b texts (keys * 1)) (sym e) (subst (λ (n : ℕ). Inside (starts_from 0 lengths) texts n) n (starts_inside lengths texts f.whole))

  pub fields_marked : (begins order : List ℕ) → begins ≡ starts_from 0 lengths → length order ≡ keys → order ≡ keys_of begins texts 1 keys → Marked lengths texts begins order
  fields_marked begins order e many is = record {
    begin = e;
    whole = f.whole;
    many = omega (arith, many, f.keys_room);
    bound = f.bound;
    order = order_own begins texts 1 keys order many is;
  }

  module _ (marked : List ℕ) (inline remote : ℕ) (w : Wording lengths texts marked inline remote) where
    pub fields_short_layout : Short inline (take (length lengths) marked)
    fields_short_layout = record {
      records = layout_of fields;
      is = layout_there fields inline (take (length lengths) marked) w.inline_is w.words_are;
      small = omega (arith, layout_few fields, f.bound, cut_many lengths texts, joined_sum fields, ap sum_of (cut_lengths lengths texts f.whole));
    }

    pub fields_laid : (records : ℕ) → Least inline (take (length lengths) marked) records → Fielded fields marked records remote
    fields_laid records l = record {
      words_are = ap (λ (n : ℕ). take n marked) (cut_many lengths texts) ∙ w.words_are;
      records_are = layout_found fields inline (take (length lengths) marked) w.inline_is w.words_are records l;
      remote_is = w.remote_is;
    }

-- ---- all of it
module _ (names count : ℕ) (lengths texts : List ℕ) (starts keys spare kept held words places : ℕ) (l : Laying names count lengths texts starts keys spare kept held words places) where
  abbrev all_fields : List Text
  all_fields = fields_to names lengths texts count

  pub laying_shares : (n begins : ℕ) → n ≡ count → begins ≡ length lengths + 1 → Shares names n lengths texts begins spare places
  laying_shares n begins e b = record {
    all = l.all ∙ ap (λ (k : ℕ). k * names) (sym e);
    whole = l.whole;
    few = omega (arith, e, l.few);
    bound = l.bound;
    starts_room = b;
    spare_room = omega (arith, e, l.spare_count);
    places_room = omega (arith, e, l.places_room);
  }

  fields_most : length all_fields ≤ length lengths
  fields_most = fields_few names count lengths texts l.all

  bytes_most : length (joined all_fields) ≤ sum_of lengths
  bytes_most = fields_short names count lengths texts l.all (omega (arith, l.whole))

  module _ (before middle kept₀ kept' held₀ held' : List ℕ) (sizes bytes : ℕ) (ek : length kept₀ ≡ kept) (eh : length held₀ ≡ held)
      (k : Keeps names count lengths texts before middle kept₀ kept' held₀ held' sizes bytes) where
    sizes_are : sizes ≡ length all_fields
    sizes_are = omega (arith, k.lengths_are.place_after, length-map all_fields length)

    bytes_are : bytes ≡ length (joined all_fields)
    bytes_are = omega (arith, k.texts_are.place_after)

    pub sizes_few : sizes ≤ length lengths
    sizes_few = omega (arith, sizes_are, fields_most)

    pub bytes_few : bytes ≤ sum_of lengths
    bytes_few = omega (arith, bytes_are, bytes_most)

    pub kept_size : length kept' ≡ kept
    kept_size = stored_length k.lengths_are ∙ ek

    pub held_size : length held' ≡ held
    held_size = stored_length k.texts_are ∙ eh

    pub kept_front : take sizes kept' ≡ map length all_fields
    kept_front = let many : sizes ≡ length (map length all_fields) = omega (arith, k.lengths_are.place_after) in
        ap (take sizes) (stored_front kept₀ (map length all_fields) kept' sizes k.lengths_are (omega (arith, many, sizes_few, l.kept_room, ek)))
        ∙ (ap (λ (n : ℕ). take n (map length all_fields ++ drop (length (map length all_fields)) kept₀)) many ∙ take-append_seam (map length all_fields) (drop (length (map length all_fields)) kept₀))

    pub held_front : take bytes held' ≡ joined all_fields
    held_front =
        ap (take bytes) (stored_front held₀ (joined all_fields) held' bytes k.texts_are (omega (arith, bytes_are, bytes_few, l.held_room, eh)))
        ∙ (ap (λ (n : ℕ). take n (joined all_fields ++ drop (length (joined all_fields)) held₀)) bytes_are ∙ take-append_seam (joined all_fields) (drop (length (joined all_fields)) held₀))

    fields_cut : cut_by (take sizes kept') (take bytes held') ≡ all_fields
    fields_cut = ap (λ (x : List ℕ). cut_by x (take bytes held')) kept_front ∙ (ap (cut_by (map length all_fields)) held_front ∙ cut_join all_fields)

    kept_long : length (take sizes kept') ≡ sizes
    kept_long = omega (arith, ap length kept_front, k.lengths_are.place_after)

    pub laying_fields : (begins order room : ℕ) → begins ≡ sizes + 1 → order ≡ sizes → room ≡ spare → Fields (take sizes kept') (take bytes held') begins order room words
    laying_fields begins order room eb eo es =
        let sum : sum_of (take sizes kept') ≡ length (joined all_fields) = ap sum_of kept_front ∙ sym (joined_sum all_fields) in
        let long : length (take bytes held') ≡ length (joined all_fields) = ap length held_front in record {
          whole = omega (arith, sum, long);
          bound = omega (arith, sum, bytes_most, kept_long, sizes_few, l.bound);
          starts_room = omega (arith, kept_long, eb);
          keys_room = omega (arith, kept_long, eo);
          spare_room = omega (arith, kept_long, sizes_few, l.spare_room, es);
          words_room = omega (arith, kept_long, sizes_few, l.words_room);
        }

    module _ (words' : List ℕ) (records remote : ℕ) (ew : length words' ≡ words) (f : Fielded (cut_by (take sizes kept') (take bytes held')) words' records remote) where
      laid : Fielded all_fields words' records remote
      laid = subst (λ (ts : List Text). Fielded ts words' records remote) fields_cut f

      pub laying_ready : length before ≡ places → (begins : List ℕ) → begins ≡ starts_from 0 lengths → Ready names records count words' lengths texts begins middle
      laying_ready eb begins e =
          record {
            begin = e;
            whole = omega (arith, l.whole);
            all = l.all;
            few = l.few;
            bound = omega (arith, l.whole, l.bound);
            room = omega (arith, fields_most, l.words_room, ew);
            words_are = laid.words_are;
            layout = laid.records_are;
            first = λ yard h. ap (λ (x : List ℕ). get_or x (2 * yard) 0) k.first ∙
                spread_read (first_of (starts_from 0 lengths) texts names count) count before yard h (omega (arith, l.places_room, eb));
            places_room = omega (arith, l.places_room, eb, ap length k.first, spread_size 0 (map (first_of (starts_from 0 lengths) texts names count) (numbers_from 0 count)) before);
          }

      pub laying_ends : (after : List ℕ) → after ≡ spread 0 (map (begin_of names lengths texts count) (numbers_from 0 count)) middle →
          Recorded names count lengths texts before kept' held' words' after records remote sizes bytes
      laying_ends after e =
          record {
            kept_in = omega (arith, sizes_few, l.kept_room, kept_size);
            held_in = omega (arith, bytes_few, l.held_room, held_size);
            words_in = omega (arith, sizes_few, l.words_room, ew);
            lengths_are = kept_front;
            texts_are = held_front;
            words_are = ap (λ (n : ℕ). take n words') sizes_are ∙ laid.words_are;
            records_are = laid.records_are;
            remote_is = laid.remote_is;
            placed = e ∙ (ap (spread 0 (map (begin_of names lengths texts count) (numbers_from 0 count))) k.first ∙
                spread_again 0 (map (begin_of names lengths texts count) (numbers_from 0 count)) (map (first_of (starts_from 0 lengths) texts names count) (numbers_from 0 count)) before
                (numbered_many (begin_of names lengths texts count) count ∙ sym (numbered_many (first_of (starts_from 0 lengths) texts names count) count)));
          }
