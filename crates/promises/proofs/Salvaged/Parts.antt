-- What an answered salvage is made of: the new file's parts, one after the other, and where each begins. Assumes nothing.
use Rattle.numbers.proofs.Prelude.{ℕ, ◌+◌, ◌^◌, ◌≤◌, ◌<◌, min, leb-true, ltb-true, ltb, leb, length, take, length-append, true, ◌&&◌, List, [], ◌++◌, append_assoc, append-nil, flat_map, ◌≡◌, sym, ap}
use Rattle.numbers.{proofs.{Prelude.{◌∙◌, arith}, Replies.{given_from, demanded}, Tests.{both}}, specs.{Reply.{given, plain}, Spelling.{varint_of}}}
use Rattle.border.proofs.{AtPlace.{at_behind, at_place}, OnWay.{At, at_first, at_next}}
use Rattle.header.specs.{Header.{head_by}, declared.header.Head.{Head}}
use Rattle.salvage.specs.{File.{head_texts, border_bytes, table_from, metadata_of, assembled, new_file}, Kept.{kept_of, lines_from}, Salvage.{Salvaged, salvaged_of}}
use Rattle.table.specs.{Rows.{rows_in}, declared.rows.Row.{Row}}
use Rattle.promises.specs.inner.Salvaged.Seats.{table_place}

pub record Made (file : List ℕ) (words room : ℕ) (s : Salvaged) : Type 0 where
  pub head : Head
  pub texts : List ℕ
  pub opens : head_by true file ≡ given head
  pub inline : head_texts file head ≡ given texts
  pub kept_are : s.kept ≡ kept_of file head (rows_in file head)
  pub lines_are : s.lines ≡ lines_from file head 0 (rows_in file head)
  pub is : s.file ≡ new_file file head texts s.kept
  pub small : length s.file ≤ 2 ^ 30
  pub some : 0 < length s.kept

pub made_from : (file : List ℕ) (words room : ℕ) (s : Salvaged) → salvaged_of file words room ≡ given s → Made file words room s
unfolding salvaged_of
made_from file words room s e = let first = given_from (head_by true file) _ (sym e) in let head = first.it in
    let second = given_from (head_texts file head) _ first.onto in let texts = second.it in let kept = kept_of file head (rows_in file head) in
    let lines = lines_from file head 0 (rows_in file head) in let new = new_file file head texts kept in
    let third = demanded (leb (length new) (min room (2 ^ 30)) && leb (length lines) words) (plain 28) second.onto in
    let fourth = demanded (ltb 0 (length kept)) (plain 32) third.1 in let same : s ≡ record { file = new; lines = lines; kept = kept } = cc fourth.1 in
    let fits : length new ≤ min room (2 ^ 30) = leb-true _ _ (both (leb (length new) (min room (2 ^ 30))) (leb (length lines) words) third.0).0 in
    let kept_are : s.kept ≡ kept = ap (λ (x : Salvaged). x.kept) same in let file_is : s.file ≡ new = ap (λ (x : Salvaged). x.file) same in record {
      head = head;
      texts = texts;
      opens = sym first.is;
      inline = sym second.is;
      kept_are = kept_are;
      lines_are = ap (λ (x : Salvaged). x.lines) same;
      is = file_is ∙ ap (new_file file head texts) (sym kept_are);
      small = omega (arith, fits, ap length file_is);
      some = omega (arith, ltb-true 0 (length kept) fourth.0, ap length kept_are);
    }

-- ---- the parts of the new file
module _ (file : List ℕ) (head : Head) (texts : List ℕ) (kept : List Row) (new : List ℕ) (is : new ≡ new_file file head texts kept) where
  abbrev pub table_in : List ℕ
  table_in = table_from file head 0 0 kept

  abbrev pub data_in : List ℕ
  data_in = flat_map (border_bytes file head) kept

  abbrev pub header : List ℕ
  header = take 7 file ++ texts

  abbrev pub sizes : List ℕ
  sizes = varint_of (length table_in) ++ (varint_of (length (metadata_of file head)) ++ varint_of (length data_in))

  abbrev pub sections : List ℕ
  sections = table_in ++ (metadata_of file head ++ data_in)

  pub in_parts : new ≡ header ++ (sizes ++ sections)
  unfolding new_file assembled
  in_parts = is ∙ simp append_assoc

  pub at_sizes : At new (length header) sizes
  at_sizes = at_behind header sizes sections in_parts

  sizes_length : length header + length sizes ≡ table_place file head texts kept
  unfolding table_place
  sizes_length =
      omega (
        arith,
        length-append (varint_of (length table_in)) (varint_of (length (metadata_of file head)) ++ varint_of (length data_in)),
        length-append
            (varint_of (length (metadata_of file head))) (varint_of (length data_in)),
      )

  at_sections : At new (table_place file head texts kept) sections
  at_sections =
      at_place (length-append header sizes ∙ sizes_length) (at_behind (header ++ sizes) sections [] (in_parts ∙ (sym (append_assoc header sizes sections)
      ∙ ap (λ (s : List ℕ). (header ++ sizes) ++ s) (sym (append-nil sections)))))

  pub at_table : At new (table_place file head texts kept) table_in
  at_table = at_first new (table_place file head texts kept) table_in (metadata_of file head ++ data_in) at_sections

  at_rest : At new (table_place file head texts kept + length table_in) (metadata_of file head ++ data_in)
  at_rest = at_next new (table_place file head texts kept) table_in (metadata_of file head ++ data_in) at_sections

  pub at_metadata : At new (table_place file head texts kept + length table_in) (metadata_of file head)
  at_metadata = at_first new (table_place file head texts kept + length table_in) (metadata_of file head) data_in at_rest

  pub at_data : At new (table_place file head texts kept + (length table_in + length (metadata_of file head))) data_in
  at_data = at_place (omega arith) (at_next new (table_place file head texts kept + length table_in) (metadata_of file head) data_in at_rest)

  pub new_length : table_place file head texts kept + (length table_in + (length (metadata_of file head) + length data_in)) ≡ length new
  new_length =
      sym (ap length in_parts
      ∙ length-append header (sizes ++ sections)
      ∙ omega (arith, length-append sizes sections, length-append table_in (metadata_of file head ++ data_in), length-append (metadata_of file head) data_in, sizes_length))
