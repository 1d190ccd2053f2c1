-- How building fills the words: what each step left, and what it comes to. Assumes nothing.
use Rattle.std.specs.Prelude.{is_err}
use Rattle.numbers.proofs.Prelude.{ℕ, ◌+◌, ◌*◌, ◌^◌, ◌≤◌, ◌<◌, leb-true, length, get_or, sets, length-sets, Bool, true, false, List, [], ◌∷◌, ◌++◌, map, ◌≡◌, refl, sym, ap, subst, ◌∙◌, arith}
use Rattle.numbers.{proofs.{Replies.{carried, onward}, Tests.{both, differ}}, specs.{Lists.{zeros}, Reply.{Reply, given, refused}, declared.refusal.Refusal.{Refusal}}}
use Rattle.writer.{proofs.Stores.{stored_length}, specs.inner.Stored.{Stored}}
use Rattle.table.{proofs.Agreeing.{Gave, gave, refused_so}, specs.{Find.{is_precision}, declared.rows.Row.{Row}, inner.Agreeing.{Agrees}}}
use Rattle.header.specs.{Header.{head_of}, declared.header.Head.{Head}}
use Rattle.index.proofs.{Keeping.{packed_length}, Stores.{read_below, read_above, over_zeros}, Tabling.{records_length}}
use Rattle.index.proofs.Whole.{read_stored, Holds, lists_of_rows, starts_length, lists_length, starts_fit, laid, index_length}
use Rattle.index.specs.Index.{records_of, words_for, kept_of, lists_from, joined, starts_from, tiles, records_at, lists_at, index_of, index_with, index_in, indexed, indexed_by, indexed_of, built_in}
use Rattle.index.specs.{Table.{table_of}, inner.Building.{lists_in, low, Listed, Recorded}}
use Rattle.zones.specs.Fields.{Wrote}

pub precise : (precision : ℕ) → is_precision precision ≡ true → (1 ≤ precision) × (precision ≤ 32)
precise precision e = let h = both _ _ e in (leb-true _ _ h.0, leb-true _ _ h.1)

kept_length : (file : List ℕ) (size : ℕ) → length (kept_of file size) ≡ words_for size
kept_length file size = packed_length _ (words_for size) 0

-- after the table and the kept bytes
module _ (file : List ℕ) (head : Head) (i0 i1 i2 : List ℕ) (n begin : ℕ) (t : Gave (Recorded i0 i1) (table_of file head) n)
    (k : Stored i1 (records_at + 7 * n) (kept_of file head.sections.metadata) i2 begin) where
  abbrev rows : List Row
  rows = t.it

  abbrev words : List ℕ
  words = index_of file head rows

  abbrev lists : List (List ℕ)
  lists = lists_from head.preamble.precision rows tiles 0

  pub begin_is : begin ≡ lists_at (length rows) head.sections.metadata
  begin_is = omega (arith, k.place_after, kept_length file head.sections.metadata, t.fits.counted)

  pub length_two : length i2 ≡ length i0
  length_two = stored_length k ∙ ap length t.fits.stored ∙ length-sets i0 records_at (records_of rows)

  module _ (fine : is_precision head.preamble.precision ≡ true) where
    pub long : length words ≡ begin + length (joined lists)
    long = index_length file head (length i0) fine t.is ∙ ap (λ (m : ℕ). m + length (joined lists)) (sym begin_is)

    pub early : length i0 < begin → length i0 < length words
    early h = omega (arith, long)

    -- after the head's words and the lists
    module _ (i3 i4 : List ℕ) (used : ℕ) (room : begin ≤ length i0) (h : i3 ≡ sets i2 0 (length file ∷ head.sections.metadata ∷ n ∷ []))
        (l : Listed i3 begin (lists_in i3 head.preamble.precision n tiles 0) i4 used) where
      recorded : Holds i3 rows 0
      recorded i few = let at : records_at + 7 * 0 + i ≡ records_at + i = omega arith in let size = records_length rows in let cut = k.place_after in
          ap (λ (m : List ℕ). get_or m (records_at + 7 * 0 + i) 0) h ∙ read_above (length file ∷ head.sections.metadata ∷ n ∷ []) i2 0 (records_at + 7 * 0 + i) 0
          (omega arith) ∙ ap (λ (m : List ℕ). get_or m (records_at + 7 * 0 + i) 0) k.stored ∙ read_below (kept_of file head.sections.metadata) i1
          (records_at + 7 * n) (records_at + 7 * 0 + i) 0 (omega (arith, t.fits.counted)) ∙ ap (λ (m : List ℕ). get_or m (records_at + 7 * 0 + i) 0) t.fits.stored
          ∙ ap (λ (j : ℕ). get_or (sets i0 records_at (records_of rows)) j 0) at
          ∙ read_stored (records_of rows) i0 records_at i 0 (omega (arith, size)) (omega (arith, size, cut, t.fits.counted, room))

      same_lists : lists_in i3 head.preamble.precision n tiles 0 ≡ lists
      same_lists = ap (λ (m : ℕ). lists_in i3 head.preamble.precision m tiles 0) t.fits.counted ∙ lists_of_rows i3 head.preamble.precision rows tiles 0 recorded

      pub used_is : used ≡ length words
      used_is = l.place_after ∙ ap (λ (ls : List (List ℕ)). begin + length (joined ls)) same_lists ∙ sym long

      pub length_four : length i4 ≡ length i0
      length_four =
          ap length l.stored ∙ length-sets (sets i3 begin (joined (lists_in i3 head.preamble.precision n tiles 0))) 3
          (map low (starts_from begin (lists_in i3 head.preamble.precision n tiles 0))) ∙ length-sets i3 begin (joined (lists_in i3 head.preamble.precision n tiles 0))
          ∙ ap length h ∙ length-sets i2 0 (length file ∷ head.sections.metadata ∷ n ∷ []) ∙ length_two

      pub made : i0 ≡ zeros (length i0) → used ≤ length i0 → used < 2 ^ 32 → Wrote (length i0) i4 words used
      unfolding index_of
      made z fits small = let size = head.sections.metadata in let front = length file ∷ size ∷ length rows ∷ [] in let counted = t.fits.counted in
          let starts = starts_from begin lists in let fit = starts_fit begin lists (omega (arith, long, used_is)) in record {
            said = used_is;
            kept =
                l.stored
                ∙ ap (λ (ls : List (List ℕ)). sets (sets i3 begin (joined ls)) 3 (map low (starts_from begin ls))) same_lists
                ∙ ap (λ (ws : List ℕ). sets (sets i3 begin (joined lists)) 3 ws) fit
                ∙ ap (λ (m : List ℕ). sets (sets m begin (joined lists)) 3 starts) (h ∙ ap (λ (m : ℕ). sets i2 0 (length file ∷ size ∷ m ∷ [])) counted)
                ∙ ap (λ (m : List ℕ). sets (sets (sets m 0 front) begin (joined lists)) 3 starts) (k.stored ∙ ap (λ (m : List ℕ). sets m (records_at + 7 * n) (kept_of file size)) t.fits.stored)
                ∙ laid
                i0
                front
                starts
                (records_of rows)
                (kept_of file size)
                (joined lists)
                (records_at + 7 * n)
                begin
                refl
                (omega (arith, starts_length begin lists, lists_length head.preamble.precision rows tiles 0))
                (omega (arith, counted, records_length rows))
                k.place_after
                ∙ ap (λ (b : ℕ). sets i0 0 (front ++ (starts_from b lists ++ (records_of rows ++ (kept_of file size ++ joined lists))))) begin_is
                ∙ ap (λ (m : List ℕ). sets m 0 words) z
                ∙ over_zeros (length i0) words (omega (arith, used_is));
          }

-- ---- the entry point
module _ (file : List ℕ) (n : ℕ) where
  refused_index : {why : Refusal} {ws : List ℕ} → refused why ≡ index_in file n → ws ≡ zeros n → indexed (refused why) ws ≡ indexed_of file n
  unfolding indexed_of indexed_by
  refused_index {why} e z = ap (indexed (refused why)) z ∙ ap (indexed_by n) e

  given_index : {words ws : List ℕ} {used : ℕ} → given words ≡ index_in file n → Wrote n ws words used → indexed (given used) ws ≡ indexed_of file n
  unfolding indexed_of indexed_by
  given_index e m = (λ i. indexed (given (m.said i)) (m.kept i)) ∙ ap (indexed_by n) e

  -- where the file is refused
  pub not_opened : {why : Refusal} {ws : List ℕ} → refused why ≡ head_of file → ws ≡ zeros n → indexed (refused why) ws ≡ indexed_of file n
  unfolding built_in
  not_opened e z = refused_index (carried e (λ head. index_with file head n)) z

  module _ {head : Head} (e : given head ≡ head_of file) {n' : ℕ} (same : n' ≡ n) (reply : Reply ℕ) (ws : List ℕ) (agrees : Agrees (Wrote n' ws) (index_with file head n') reply) where
    settled : Agrees (Wrote n ws) (index_with file head n) reply
    settled = subst (λ (k : ℕ). Agrees (Wrote k ws) (index_with file head k) reply) same agrees

    opened : index_with file head n ≡ index_in file n
    unfolding built_in
    opened = onward e (λ head. index_with file head n)

    pub built : is_err reply ≡ false → indexed reply ws ≡ indexed_of file n
    built = go reply refl where
      go : (r : Reply ℕ) → reply ≡ r → is_err r ≡ false → indexed reply ws ≡ indexed_of file n
      go (given used) is e = let g = gave (Wrote n ws) (index_with file head n) settled is in ap (λ (r : Reply ℕ). indexed r ws) is ∙ given_index (g.is ∙ opened) g.fits
      go (refused why) is e = differ (sym e)

    pub not_built : is_err reply ≡ true → {zs : List ℕ} → zs ≡ zeros n → indexed reply zs ≡ indexed_of file n
    not_built = go reply refl where
      go : (r : Reply ℕ) → reply ≡ r → is_err r ≡ true → {zs : List ℕ} → zs ≡ zeros n → indexed reply zs ≡ indexed_of file n
      go (given used) is e z = differ e
      go (refused why) is e {zs} z = ap (λ (r : Reply ℕ). indexed r zs) is ∙ refused_index (refused_so (Wrote n ws) (index_with file head n) settled is ∙ opened) z
