-- The front of the words is lent to merging, and the rest is zero already. Assumes nothing.
use Rattle.numbers.proofs.Prelude.{ℕ, ◌+◌, ◌-◌, ◌*◌, ◌/◌, ◌≤◌, length, take, drop, length-append, length-replicate, length-take-le, take_at, drop_at, List, ◌++◌, append_assoc, ◌≡◌, sym, ap, ◌∙◌}
use Rattle.numbers.{proofs.Prelude.{arith}, specs.Lists.{zeros, padded}}
use lib.ListN.{replicate-append-replicate}
use Rattle.table.specs.{Hits.{width, words, slots, Real}, Merge.{merged}, declared.hits.Hit.{Hit}}
use Rattle.table.proofs.Words.{words_length, slots_words, slots_size}

-- ---- the front that is lent to merging
module _ (ws : List ℕ) (count : ℕ) (room : count ≤ length ws / width) (kept : ws ≡ padded (length ws) (words (take count (slots ws)))) where
  abbrev pub hits : List Hit
  hits = take count (slots ws)

  hits_count : length hits ≡ count
  hits_count = length-take-le count (slots ws) (omega (arith, (slots_size ws).0, (slots_size ws).1))

  hits_words : length (words hits) ≡ width * count
  hits_words = words_length hits ∙ ap (λ (n : ℕ). width * n) hits_count

  pub lent : take (width * count) ws ≡ words hits
  lent = ap (take (width * count)) kept ∙ take_at (words hits) (zeros (length ws - length (words hits))) (width * count) hits_words

  pub lent_length : width * count ≡ length (take (width * count) ws)
  lent_length = sym (ap length lent ∙ hits_words)

  lent_slots : slots (take (width * count) ws) ≡ hits
  lent_slots = ap slots lent ∙ slots_words hits

  pub lent_shaped : take (width * count) ws ≡ words (slots (take (width * count) ws))
  lent_shaped = lent ∙ ap words (sym lent_slots)

  pub lent_real : Real hits → Real (slots (take (width * count) ws))
  lent_real r = rw lent_slots r

  -- what the words are once merging is done
  module _ (r : ℕ) (last : List ℕ) (m : (r ≡ length (merged (slots (take (width * count) ws)))) × (last ≡ padded (length (take (width * count) ws))
      (words (merged (slots (take (width * count) ws)))))) (same : length last ≡ length (take (width * count) ws)) where
    pub count_merged : r ≡ length (merged hits)
    count_merged = m.0 ∙ ap (λ (l : List Hit). length (merged l)) lent_slots

    last_is : last ≡ padded (width * count) (words (merged hits))
    last_is = m.1 ∙ (λ i. padded (sym lent_length i) (words (merged (lent_slots i))))

    fits : length (words (merged hits)) ≤ width * count
    fits =
        omega (
          arith,
          same,
          lent_length,
          ap length last_is ∙ length-append (words (merged hits)) (zeros (width * count - length (words (merged hits)))),
          length-replicate
              {A = ℕ} (width * count - length (words (merged hits))) 0,
        )

    tail : drop (width * count) ws ≡ zeros (length ws - width * count)
    tail = ap (drop (width * count)) kept ∙ drop_at (words hits) (zeros (length ws - length (words hits))) (width * count) hits_words ∙ ap (λ (n : ℕ). zeros (length ws - n)) hits_words

    pub words_now : last ++ drop (width * count) ws ≡ padded (length ws) (words (merged hits))
    words_now = let w = length (words (merged hits)) in
        let sum : (width * count - w) + (length ws - width * count) ≡ length ws - w = omega (arith, fits, room) in
        (λ i. last_is i ++ tail i) ∙ append_assoc (words (merged hits)) (zeros (width * count - w)) (zeros (length ws - width * count))
        ∙ ap (λ (l : List ℕ). words (merged hits) ++ l) (replicate-append-replicate (width * count - w) (length ws - width * count) 0 ∙ ap zeros sum)
