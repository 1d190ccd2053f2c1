-- Lookups in two files with like rows, from the search to the answer. Assumes nothing.
use Rattle.numbers.proofs.Prelude.{ℕ, ◌/◌, eqb, length, length-map, Bool, true, false, List, [], ◌∷◌, ◌++◌, ◌≡◌, refl, sym, ap, subst, ◌∙◌, arith}
use Rattle.numbers.{proofs.Replies.{after}, specs.Reply.{Reply, given, plain, demand, ◌>>=◌, ◌>>◌}}
use Rattle.border.specs.declared.place.Point.{Point}
use Rattle.header.specs.declared.header.{Head.{Head}, Preamble.{Preamble}}
use Rattle.table.{proofs.Merged.{Each, end, next, both, either}, specs.{Find.{fix_of, is_precision, Matched, matched_with}, Hits.{width}, Merge.{summary, group_kind, seen, merged_after, merged}}}
use Rattle.table.specs.{Rows.{Rows, rows_in, as_rows}, Search.{Found, searched_rows, farthest, searched}, declared.{hits.Hit.{Hit}, location.Location.{Location}, rows.Row.{Row}}}
use Rattle.zones.{proofs.PlaceLeftOut.{bare_hit, bare, merged_bare}, specs.{Fields.{fields_from, fields_of, fields_place}, Lent.{Outcome}, Lookup.{safezone_bits, zones_with}}}
use Rattle.zones.specs.declared.lookup.Zones.{Zones}
use Rattle.promises.proofs.Salvaged.{Alike.{compared, bare_found, bare_matched, both_given, SameRecord, AllLike, EachGiven, seek_like, seek_each}, FieldsAlike.{fields_from_lem}}
use Rattle.promises.specs.Salvaged.Same.{unmarked}
use Rattle.numbers.specs.Reply as R

-- what a search's answer is merged to
abbrev merging : Found → Reply Matched
merging found = given (record { matches = merged found.hits; mark = found.mark; least = found.least })

merged_like : (xs ys : List Hit) → bare xs ≡ bare ys → bare (merged xs) ≡ bare (merged ys)
unfolding merged
merged_like xs ys e = sym (merged_bare [] xs) ∙ ap (merged_after []) e ∙ merged_bare [] ys

module _ (f f' : List ℕ) (h h' : Head) (preamble : h'.preamble ≡ h.preamble) where
  -- ---- each match is a row's
  abbrev pub Read : Hit → Type 0
  Read hit = SameRecord f f' h h' hit.metadata

  merged_each : (before : List Hit) {hits : List Hit} → Each Read hits → Each Read (merged_after before hits)
  unfolding merged_after
  merged_each before end = end
  merged_each before (next {hit} {hits} own later) =
      both (either (Each Read) (seen hit.metadata before) (λ e. end) (λ e. either (Each Read) (eqb (group_kind (summary hit.metadata (hit ∷ hits))) 0)
      (λ z. end) (λ z. next own end))) (merged_each (before ++ hit ∷ []) later)

  abbrev pub MatchesRead : Reply Matched → Type 0
  MatchesRead (given found) = Each Read found.matches
  MatchesRead (R.refused why) = Unit

  -- ---- fields, match by match
  record_fields : (id : ℕ) → SameRecord f f' h h' id → (room : ℕ) (text : List ℕ) → fields_from f' h' room h'.preamble.count 0 (fields_place h' id) text ≡
      fields_from f h room h.preamble.count 0 (fields_place h id) text
  record_fields id texts room text = ap (λ (p : Preamble). fields_from f' h' room p.count 0 (fields_place h' id) text) preamble ∙ fields_from_lem texts room 0 text

  fields_like : (room : ℕ) (xs ys : List Hit) → bare xs ≡ bare ys → Each Read ys → (text : List ℕ) → fields_of f' h' room xs text ≡ fields_of f h room ys text
  unfolding fields_of
  fields_like room [] [] e each text = refl
  fields_like room [] (y ∷ ys) e each text = let z : ◌≡◌ {A = ℕ} 0 1 = cc in absurd (omega arith)
  fields_like room (x ∷ xs) [] e each text = let z : ◌≡◌ {A = ℕ} 0 1 = cc in absurd (omega arith)
  fields_like room (x ∷ xs) (y ∷ ys) e (next own later) text = let first : bare_hit x ≡ bare_hit y = cc (e) in let rest : bare xs ≡ bare ys = cc (e) in
      ap (λ (id : ℕ). fields_from f' h' room h'.preamble.count 0 (fields_place h' id) text >>= fields_of f' h' room xs) (ap (λ (hit : Hit). hit.metadata) first)
      ∙ ap (λ (r : Reply (List ℕ)). r >>= fields_of f' h' room xs) (record_fields y.metadata own room text)
      ∙ after (fields_from f h room h.preamble.count 0 (fields_place h y.metadata) text) (fields_like room xs ys rest later)

  module _ (rows rows' : List Row) (like : AllLike f f' h h' rows rows') (old_rows : rows_in f h ≡ as_rows rows) (new_rows : rows_in f' h' ≡ as_rows rows') (location : Location) (asked : Bool) where
    -- ---- the matches
    module _ (fix : Point) (room : ℕ) where
      searched_like : compared bare_found (searched f' h' fix asked room) ≡ compared bare_found (searched f h fix asked room)
      unfolding searched
      searched_like =
          ap (λ (rs : Rows). compared bare_found (searched_rows f' h' fix asked room rs)) new_rows ∙ seek_like f f' h h' fix asked h.sections.metadata
          h'.sections.metadata room like farthest [] [] refl ∙ sym (ap (λ (rs : Rows). compared bare_found (searched_rows f h fix asked room rs)) old_rows)

      searched_each : EachGiven f f' h h' fix asked h.sections.metadata h'.sections.metadata room (searched f h fix asked room)
      unfolding searched
      searched_each =
          subst (λ (rs : Rows). EachGiven f f' h h' fix asked h.sections.metadata h'.sections.metadata room (searched_rows f h fix asked room rs)) (sym old_rows)
          (seek_each f f' h h' fix asked h.sections.metadata h'.sections.metadata room like farthest [] end)

      found_like : compared bare_matched (searched f' h' fix asked room >>= merging) ≡ compared bare_matched (searched f h fix asked room >>= merging)
      found_like =
          both_given bare_found bare_matched (searched f' h' fix asked room) (searched f h fix asked room) merging merging searched_like
          (λ a b is e. λ i. given (record { matches = merged_like a.hits b.hits (ap (λ (x : Found). x.hits) e) i; mark = 0; least = ap (λ (x : Found). x.least) e i }))

      found_each : MatchesRead (searched f h fix asked room >>= merging)
      unfolding merged
      found_each = go (searched f h fix asked room) searched_each where
        go : (r : Reply Found) → EachGiven f f' h h' fix asked h.sections.metadata h'.sections.metadata room r → MatchesRead (r >>= merging)
        go (given found) each = merged_each [] each
        go (R.refused why) each = tt

    pub matched_like : (room : ℕ) → compared bare_matched (matched_with f' h' location asked room) ≡ compared bare_matched (matched_with f h location asked room)
    unfolding matched_with
    matched_like room =
        ap (λ (p : Preamble). compared bare_matched (demand (is_precision p.precision) (plain 16) >> (searched f' h' (fix_of location p.precision) asked room >>= merging))) preamble
        ∙ go (is_precision h.preamble.precision) where
          fix : Point
          fix = fix_of location h.preamble.precision

          go : (t : Bool) → compared bare_matched (demand t (plain 16) >> (searched f' h' (fix_of location h.preamble.precision) asked room >>= merging))
              ≡ compared bare_matched (demand t (plain 16) >> (searched f h (fix_of location h.preamble.precision) asked room >>= merging))
          go true = found_like (fix_of location h.preamble.precision) room
          go false = refl

    pub matched_each : (room : ℕ) → MatchesRead (matched_with f h location asked room)
    unfolding matched_with
    matched_each room = go (is_precision h.preamble.precision) where
      go : (t : Bool) → MatchesRead (demand t (plain 16) >> (searched f h (fix_of location h.preamble.precision) asked room >>= merging))
      go true = found_each (fix_of location h.preamble.precision) room
      go false = tt

    -- ---- the answer
    abbrev outcome : Head → Matched → List ℕ → Outcome Zones
    outcome head found text = record {
      answer = record { matches = length found.matches; mark = found.mark; safezone = safezone_bits asked found.least head.preamble.precision; used = length text };
      matches = found.matches;
      text = text;
    }

    same_outcome : (a b : Matched) → bare_matched a ≡ bare_matched b → (text : List ℕ) → unmarked (outcome h' a text) ≡ unmarked (outcome h b text)
    same_outcome a b e text = let hits : bare a.matches ≡ bare b.matches = ap (λ (x : Matched). x.matches) e in
        let least : a.least ≡ b.least = ap (λ (x : Matched). x.least) e in
        let count : length a.matches ≡ length b.matches = sym (length-map a.matches bare_hit) ∙ ap length hits ∙ length-map b.matches bare_hit in
        λ i. record { answer = record { matches = count i; mark = 0; safezone = safezone_bits asked (least i) (preamble i).precision; used = length text }; matches = hits i; text = text }

    -- With the same room, the same answer or refusal, but for mark and places.
    pub zones_like : (n room : ℕ) → (zones_with f' h' location asked n room >>= λ o. given (unmarked o)) ≡ (zones_with f h location asked n room >>= λ o. given (unmarked o))
    unfolding zones_with
    zones_like n room =
        both_given bare_matched unmarked (matched_with f' h' location asked (n / width)) (matched_with f h location asked (n / width)) (λ a. fields_of f' h' room
        a.matches [] >>= λ text. given (outcome h' a text)) (λ b. fields_of f h room b.matches [] >>= λ text. given (outcome h b text)) (matched_like (n / width))
        (λ a b is e. ap (λ (r : Reply (List ℕ)). compared unmarked (r >>= λ text. given (outcome h' a text))) (fields_like room a.matches b.matches
        (ap (λ (x : Matched). x.matches) e) (read b is) []) ∙ finish a b e (fields_of f h room b.matches [])) where
          read : (b : Matched) → matched_with f h location asked (n / width) ≡ given b → Each Read b.matches
          read b is = subst MatchesRead is (matched_each (n / width))

          finish : (a b : Matched) → bare_matched a ≡ bare_matched b → (r : Reply (List ℕ)) → compared unmarked (r >>= λ text. given (outcome h' a text)) ≡
              compared unmarked (r >>= λ text. given (outcome h b text))
          finish a b e (given text) = ap given (same_outcome a b e text)
          finish a b e (R.refused why) = refl
