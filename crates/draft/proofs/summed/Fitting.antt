-- Whether a file of these sizes fits. Assumes nothing.
use Rattle.numbers.{proofs.Prelude.{ℕ, ◌+◌, ◌^◌, ◌<◌, lt-leb, leb, length, false, ◌≡◌, sym, ap, ◌∙◌, arith}, specs.Spelling.{varint_of}}
use Rattle.builder.specs.File.{up_to}
use Rattle.draft.specs.{Held.Totals.{file_size}, inner.Summed.Sums.{sized}}

module _ (head table metadata bytes room : ℕ) where
  over : 2 ^ 30 < file_size head (sized table metadata bytes) → false ≡ leb (file_size head (sized table metadata bytes)) (up_to room)
  over h = sym (lt-leb (file_size head (sized table metadata bytes)) (up_to room) (omega (arith, h)))

  many_head : 1073741824 < head → 2 ^ 30 < file_size head (sized table metadata bytes)
  unfolding file_size
  many_head h = omega (arith, h)

  pub long_head : 1073741824 < head → false ≡ leb (file_size head (sized table metadata bytes)) (up_to room)
  long_head h = over (many_head h)

  many_table : 1073741824 < table → 2 ^ 30 < file_size head (sized table metadata bytes)
  unfolding file_size
  many_table h = omega (arith, h)

  pub long_table : 1073741824 < table → false ≡ leb (file_size head (sized table metadata bytes)) (up_to room)
  long_table h = over (many_table h)

  many_metadata : 1073741824 < metadata → 2 ^ 30 < file_size head (sized table metadata bytes)
  unfolding file_size
  many_metadata h = omega (arith, h)

  pub long_metadata : 1073741824 < metadata → false ≡ leb (file_size head (sized table metadata bytes)) (up_to room)
  long_metadata h = over (many_metadata h)

  many_bytes : 1073741824 < bytes → 2 ^ 30 < file_size head (sized table metadata bytes)
  unfolding file_size
  many_bytes h = omega (arith, h)

  pub long_bytes : 1073741824 < bytes → false ≡ leb (file_size head (sized table metadata bytes)) (up_to room)
  long_bytes h = over (many_bytes h)

  pub size_adds : (a b c : ℕ) → a ≡ length (varint_of table) → b ≡ length (varint_of metadata) → c ≡ length (varint_of bytes) → (most : ℕ) → most ≡ up_to room
      → leb (head + (a + b + c) + table + metadata + bytes) most ≡ leb (file_size head (sized table metadata bytes)) (up_to room)
  unfolding file_size
  size_adds a b c ea eb ec most em =
      let s : head + (a + b + c) + table + metadata + bytes ≡ head + (length (varint_of table) + (length (varint_of metadata) + (length (varint_of bytes) + (table + (metadata + bytes))))) =
      omega (arith, ea, eb, ec) in
      ap (λ (n : ℕ). leb n most) s ∙ ap (leb (head + (length (varint_of table) + (length (varint_of metadata) + (length (varint_of bytes) + (table + (metadata + bytes))))))) em
