-- The moves of a border of version 1, written as its points are read. Assumes nothing.
use Rattle.std.specs.{Prelude.{Result, Ok, Err}, Result.{result_unwrap_or}}
use Rattle.numbers.proofs.Prelude.{ℕ, lit<, true, false, List, [], ◌∷◌, ◌++◌, append_assoc, append-nil, flat_map, ◌⊎◌, inl, inr, ◌≡◌, refl, sym, ap, subst, ◌∙◌}
use Rattle.numbers.{proofs.{Answers.{All}, Spelling.{varint_byte}, Tests.{differ}}, specs.{Answer.{Answer, found, failed, refused, ◌>>=◌}, Spelling.{varint_of}, Varint.{told}, declared.{point.RawPoint.{RawPoint}, varint.Stop.{Stop}}}}
use Rattle.border.{proofs.Trace.{point_trace}, specs.{Trace.{Given, reaches, ended, next_point, Trace, point, closed, trace_of, border_at}, declared.reader.Encoding.{Encoding}}}
use Rattle.border.specs.declared.reader.{Reader.{Reader}, Version.TheVariants.{Packed}}
use Rattle.writer.specs.Moves.{move_to}
use Rattle.salvage.proofs.moves.{Capping.{capped_none, capped_then, capped_as}, Ends.{by_stop, going, end_step, end_goes}, Packed.{origin_ranged, open_goes, steps_next, steps_last}}
use Rattle.salvage.proofs.moves.{Turning.{closed_trace, Ranged, Steps, Closes, DoesThere, next_does}, pairs.Pairing.{bytes_next}}
use Rattle.salvage.specs.{Moves.Moves.{end_of, origin, steps_from, moves_by, moves_at, closed_moves, step_bytes, moves_bytes}, inner.Moves.Laid.{Capped, Copied}}

-- the two zeros of the end
end_bytes : varint_of 0 ++ varint_of 0 ≡ 0 ∷ 0 ∷ []
end_bytes = rw (varint_byte 0 (lit< tt))

module _ (f : List ℕ) (encoding : Encoding) (packed : encoding.version ≡ Packed) (place : ℕ) (before : List ℕ) (at : ℕ) where
  abbrev whole : Trace
  whole = trace_of f encoding (border_at place)

  abbrev wanted : Answer (List RawPoint)
  wanted = closed_moves f encoding place

  wanted_is : end_of whole ≡ found tt → wanted ≡ found (steps_from origin whole)
  unfolding closed_moves moves_at moves_by
  wanted_is e = rw (e, packed)

  -- what is done was written, and what is left of the border makes up the rest, if it closes
  pub record Stepping (now : List ℕ) (next : ℕ) (s : Reader) : Type 0 where
    pub still_open : s.closed ≡ false
    pub in_range : Ranged s.point
    pub ends : end_of (trace_of f encoding s) ≡ end_of whole
    pub done : List RawPoint
    pub rest : end_of whole ≡ found tt → steps_from origin whole ≡ done ++ steps_from s.point (trace_of f encoding s)
    pub laid : Capped before at (flat_map step_bytes done) now next

  pub steps_start : Stepping before at (border_at place)
  unfolding flat_map
  steps_start = record { still_open = refl; in_range = origin_ranged; ends = refl; done = []; rest = λ e. refl; laid = capped_none before at }

  module _ {now : List ℕ} {next : ℕ} (s t : Reader) (p : Stepping now next s) (e : found (reaches t) ≡ next_point f encoding s) where
    does : Steps s t ⊎ Closes s t
    does = subst (All (DoesThere s)) (sym e) (next_does f encoding packed s p.still_open p.in_range)

    step_of : t.closed ≡ false → Steps s t
    step_of h = go does where
      go : Steps s t ⊎ Closes s t → Steps s t
      go (inl step) = step
      go (inr shut) = differ (sym h ∙ shut.now_closed)

    pub steps_go : {after : List ℕ} {next' : ℕ} → t.closed ≡ false → Capped now next (step_bytes (move_to s.point t.point)) after next' → Stepping after next' t
    steps_go h c = let step = step_of h in let by = move_to s.point t.point in let left = steps_from t.point (trace_of f encoding t) in
        let ending = end_goes f encoding s t e ∙ p.ends in record {
          still_open = h;
          in_range = step.ranged;
          ends = ending;
          done = p.done ++ (by ∷ []);
          rest = λ closes. p.rest closes
              ∙ ap (λ (x : Trace). p.done ++ steps_from s.point x) (sym (point_trace f encoding s t e))
              ∙ ap (λ (ms : List RawPoint). p.done ++ ms) (steps_next s.point t.point (trace_of f encoding t) (open_goes f encoding packed t h step.ranged (ending ∙ closes)))
              ∙ sym (append_assoc p.done (by ∷ []) left);
          laid = capped_as (bytes_next step_bytes p.done by) (capped_then (flat_map step_bytes p.done) (step_bytes by) p.laid c);
        }

    -- the closing point
    pub steps_end : {middle after : List ℕ} {next' end : ℕ} → t.closed ≡ true → Capped now next (varint_of 0) middle next' → Capped middle next' (varint_of 0) after end →
        Copied (moves_bytes Packed) wanted before at after end
    unfolding end_of moves_bytes
    steps_end {middle} {after} {next'} {end} h c d = let over : trace_of f encoding t ≡ closed = closed_trace f encoding t h in
        let closes : end_of whole ≡ found tt = sym (end_goes f encoding s t e ∙ p.ends) ∙ ap end_of over in
        let all : steps_from origin whole ≡ p.done = p.rest closes ∙ ap (λ (x : Trace). p.done ++ steps_from s.point x) (sym (point_trace f encoding s t e)
        ∙ ap (point t.point) over) ∙ ap (λ (ms : List RawPoint). p.done ++ ms) (steps_last s.point t.point) ∙ append-nil p.done in
        rw (wanted_is closes ∙ ap found all) (capped_then (flat_map step_bytes p.done) (0 ∷ 0 ∷ []) p.laid (capped_as end_bytes (capped_then (varint_of 0) (varint_of 0) c d)))

  -- no further point: the border does not close
  steps_none : {now : List ℕ} {next : ℕ} (after : List ℕ) (end : ℕ) (s : Reader) → Stepping now next s → found ended ≡ next_point f encoding s
      → Copied (moves_bytes Packed) wanted before at after end
  steps_none after end s p e = absurd (subst (All (DoesThere s)) (sym e) (next_does f encoding packed s p.still_open p.in_range))

  steps_stop : {now : List ℕ} {next : ℕ} (after : List ℕ) (end : ℕ) (s : Reader) → Stepping now next s → (stop : Stop) → told (Err stop) ≡ next_point f encoding s
      → Copied (moves_bytes Packed) wanted before at after end
  unfolding closed_moves
  steps_stop after end s p =
      by_stop (λ (a : Answer Given). a ≡ next_point f encoding s → Copied (moves_bytes Packed) wanted before at after end) (λ e. rw (ending failed e) tt)
      (λ n e. rw (ending (refused n) e) tt) where
        ending : (a : Answer Given) → a ≡ next_point f encoding s → end_of whole ≡ (a >>= going (trace_of f encoding))
        ending a e = sym p.ends ∙ end_step f encoding s ∙ ap (λ (b : Answer Given). b >>= going (trace_of f encoding)) (sym e)

  pub steps_over : {now : List ℕ} {next : ℕ} (after : List ℕ) (end : ℕ) (s : Reader) → Stepping now next s → (n : Result Given Stop) → result_unwrap_or n ended ≡ ended
      → told n ≡ next_point f encoding s → Copied (moves_bytes Packed) wanted before at after end
  steps_over after end s p (Ok g) is e = steps_none after end s p (ap found (sym is) ∙ e)
  steps_over after end s p (Err stop) is e = steps_stop after end s p stop e
