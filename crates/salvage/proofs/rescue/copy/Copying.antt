-- Bytes of the file, one by one into the output. Assumes nothing.
use Rattle.numbers.proofs.Prelude.{ℕ, suc, ◌+◌, ◌-◌, ◌<◌, length, take, drop, get_or, drop-cons, List, [], ◌∷◌, ◌++◌, append_assoc, ◌≡◌}
use Rattle.numbers.proofs.Prelude.{sym, ap, ◌∙◌, add-one, arith}
use Rattle.salvage.proofs.moves.Capping.{capped_then}
use Rattle.salvage.specs.inner.Moves.Laid.{Capped}

module _ (file before : List ℕ) (from size at : ℕ) where
  -- what was copied, and what is left of the span
  pub record Copying (now : List ℕ) (here left next : ℕ) : Type 0 where
    pub done : List ℕ
    pub rest : take size (drop from file) ≡ done ++ take left (drop here file)
    pub laid : Capped before at done now next

  module _ {now : List ℕ} {here left next : ℕ} (c : Copying now here left next) where
    pub copies_go : {after : List ℕ} {next' : ℕ} → 0 < left → here < length file → Capped now next (get_or file here 0 ∷ []) after next' → Copying after (here + 1) (left - 1) next'
    copies_go more inside b =
        record {
          done = c.done ++ (get_or file here 0 ∷ []);
          rest = c.rest ∙ ap (λ (xs : List ℕ). c.done ++ xs) first ∙ sym (append_assoc c.done (get_or file here 0 ∷ []) _);
          laid = capped_then c.done (get_or file here 0 ∷ []) c.laid b;
        } where
          first : take left (drop here file) ≡ (get_or file here 0 ∷ []) ++ take (left - 1) (drop (here + 1) file)
          first = let one : left ≡ suc (left - 1) = omega arith in
              ap (λ (n : ℕ). take n (drop here file)) one ∙ ap (take (suc (left - 1))) (drop-cons file here 0 inside) ∙ ap (λ (n : ℕ). get_or file here 0 ∷ take
              (left - 1) (drop n file)) (sym (add-one here))
