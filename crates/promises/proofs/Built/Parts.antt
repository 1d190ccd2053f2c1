-- What an answered build is made of: the file's parts, one after the other, and where each begins. Assumes nothing.
use Rattle.numbers.proofs.Prelude.{ℕ, ◌+◌, ◌^◌, ◌≤◌, min, leb-true, leb, length, length-append, true, ◌&&◌, List, [], ◌++◌, append_assoc, append-nil, ◌≡◌, sym, ap, ◌∙◌, arith}
use Rattle.numbers.{proofs.{Replies.{given_from, demanded, looked}, Tests.{both}}, specs.{Reply.{given, plain}, Spelling.{varint_of}}}
use Rattle.border.proofs.{AtPlace.{at_behind, at_place}, OnWay.{At, at_first, at_next}}
use Rattle.builder.specs.{Borders.{Drawn, drawn_of}, File.{Room, up_to, borders_good, counted, readable, known, head_of, assembled, file_of, built_of}, Yards.{Plan}}
use Rattle.promises.specs.Built.Seats.{table_in, metadata_in, table_place}

pub record Built (plan : Plan) (room : Room) (file : List ℕ) : Type 0 where
  pub drawn : Drawn
  pub good : borders_good plan.yards ≡ given tt
  pub counts : counted plan ≡ true
  pub texts : readable plan ≡ true
  pub forms : known plan ≡ true
  pub draws : drawn_of plan.version (up_to (min room.file room.bytes)) plan.yards ≡ given drawn
  pub small : length file ≤ 2 ^ 30
  pub is : file ≡ file_of plan drawn

pub built_from : (plan : Plan) (room : Room) (file : List ℕ) → built_of plan room ≡ given file → Built plan room file
unfolding built_of
built_from plan room file e = let first = looked (borders_good plan.yards) _ (sym e) in let second = demanded (counted plan) (plain 25) first.1 in
    let third = demanded (readable plan) (plain 26) second.1 in let fourth = demanded (known plan) (plain 27) third.1 in
    let fifth = given_from (drawn_of plan.version (up_to (min room.file room.bytes)) plan.yards) _ fourth.1 in let drawn = fifth.it in
    let sixth = demanded (room.work && leb (length (file_of plan drawn)) (up_to room.file)) (plain 28) fifth.onto in
    let same : file ≡ file_of plan drawn = cc in
    let fits : length (file_of plan drawn) ≤ up_to room.file = leb-true _ _ (both room.work (leb (length (file_of plan drawn)) (up_to room.file)) sixth.0).1 in record {
      drawn = drawn;
      good = first.0;
      counts = second.0;
      texts = third.0;
      forms = fourth.0;
      draws = sym fifth.is;
      small = omega (arith, fits, ap length same);
      is = same;
    }

-- ---- the parts of a file
module _ (plan : Plan) (drawn : Drawn) (file : List ℕ) (is : file ≡ file_of plan drawn) where
  abbrev pub sizes : List ℕ
  sizes = varint_of (length (table_in plan drawn)) ++ (varint_of (length (metadata_in plan)) ++ varint_of (length drawn.bytes))

  abbrev pub sections : List ℕ
  sections = table_in plan drawn ++ (metadata_in plan ++ drawn.bytes)

  pub in_parts : file ≡ head_of plan ++ (sizes ++ sections)
  unfolding file_of assembled table_in metadata_in
  in_parts = is ∙ simp append_assoc

  pub at_sizes : At file (length (head_of plan)) sizes
  at_sizes = at_behind (head_of plan) sizes sections in_parts

  sizes_length : length (head_of plan) + length sizes ≡ table_place plan drawn
  unfolding table_place
  sizes_length =
      omega (
        arith,
        length-append (varint_of (length (table_in plan drawn))) (varint_of (length (metadata_in plan)) ++ varint_of (length drawn.bytes)),
        length-append
            (varint_of (length (metadata_in plan))) (varint_of (length drawn.bytes)),
      )

  at_sections : At file (table_place plan drawn) sections
  at_sections =
      at_place (length-append (head_of plan) sizes ∙ sizes_length) (at_behind (head_of plan ++ sizes) sections [] (in_parts ∙ (sym (append_assoc (head_of plan) sizes sections)
      ∙ ap (λ (s : List ℕ). (head_of plan ++ sizes) ++ s) (sym (append-nil sections)))))

  pub at_table : At file (table_place plan drawn) (table_in plan drawn)
  at_table = at_first file (table_place plan drawn) (table_in plan drawn) (metadata_in plan ++ drawn.bytes) at_sections

  pub at_metadata : At file (table_place plan drawn + length (table_in plan drawn)) (metadata_in plan)
  at_metadata =
      at_first file (table_place plan drawn + length (table_in plan drawn)) (metadata_in plan) drawn.bytes (at_next file (table_place plan drawn)
      (table_in plan drawn) (metadata_in plan ++ drawn.bytes) at_sections)

  -- all that stands before the data, and its length
  abbrev pub front : List ℕ
  front = head_of plan ++ (sizes ++ (table_in plan drawn ++ metadata_in plan))

  pub data_behind : file ≡ front ++ drawn.bytes
  data_behind = in_parts ∙ simp append_assoc

  pub front_length : length front ≡ table_place plan drawn + (length (table_in plan drawn) + length (metadata_in plan))
  front_length =
      length-append (head_of plan) (sizes ++ (table_in plan drawn ++ metadata_in plan))
      ∙ omega (arith, length-append sizes (table_in plan drawn ++ metadata_in plan), length-append (table_in plan drawn) (metadata_in plan), sizes_length)

  pub file_length : table_place plan drawn + (length (table_in plan drawn) + (length (metadata_in plan) + length drawn.bytes)) ≡ length file
  file_length = sym (ap length data_behind ∙ length-append front drawn.bytes ∙ omega (arith, front_length))
